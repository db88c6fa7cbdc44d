-- The law over lives: a step is right and leaves the state and the tally that its ask leaves, so a whole life is told right. Assumes nothing.
use Rattle.std.proofs.Common.{◌≡◌, Bool, true, false, List, ◌++◌, Ok, Err, sym, refl, ap, ◌∙◌, subst, true≢false}
use Rattle.network.specs.declared.cable.Cable.{Cable}
use Rattle.network.specs.declared.cable.Run.{Run}
use Rattle.plan.specs.Plans.{home, is_open, tour_of}
use Rattle.plan.specs.Questions.{StrengthAnswer, GroupAnswer, RunAnswer}
use Rattle.plan.specs.Tables.{closed_cables}
use Rattle.plan.specs.Tally.{laid, tour_cables}
use Rattle.plan.specs.declared.state.Plan.{Plan}
use Rattle.plan.specs.declared.state.Plan.TheVariants as plan
use Rattle.network.specs.declared.cable.TourCable.{TourCable}
use Rattle.life.specs.Asks as ask
use Rattle.life.specs.Asks.{Ask, allowed, open_after, tally_after}
use Rattle.life.specs.Replies as reply
use Rattle.life.specs.Replies.{Reply, refusal_in}
use Rattle.life.specs.Telling.{Right, Told}
use Rattle.life.specs.Lives.{Step, lays, lifts, closes, reopens, strengths, groups, runs, others, idles, Life, ends, goes, LifeLaw, OtherRun}

module _ {X Y G : Type 0} (cables : X → List Cable) (over : G → G → Bool) (graded : Y → Run → G) where
  -- a closed plan stores its house's cables and then its tour's
  abbrev Tied : Plan X → Type 0
  Tied (plan.Open p) = Unit {0}
  Tied (plan.Closed c) = closed_cables c ≡ cables c.house ++ tour_cables (laid c.tour)

  -- what a step from s to s' does
  record Kept (s : Plan X) (q : Ask Y) (r : Reply G) (s' : Plan X) : Type 0 where
    right : Right (cables (home s)) over graded (is_open s) (tour_of s) q r
    tied : Tied s'
    house : home s' ≡ home s
    state : is_open s' ≡ open_after (is_open s) q
    tally : tour_of s' ≡ tally_after (is_open s) (tour_of s) q

  -- an ask that the state does not allow is rightly answered not_now, and leaves the state and the tally
  idle_right : (house : List Cable) (o : Bool) (t : List TourCable) (q : Ask Y) → allowed o q ≡ false → Right house over graded o t q reply.not_now
  idle_right house true t (ask.lay tag a b m) e = absurd (true≢false e)
  idle_right house true t (ask.lift tag) e = absurd (true≢false e)
  idle_right house true t ask.close e = absurd (true≢false e)
  idle_right house true t ask.reopen e = refl
  idle_right house true t (ask.strength l) e = refl
  idle_right house true t (ask.group l b) e = refl
  idle_right house true t (ask.run l y) e = refl
  idle_right house true t (ask.elsewhere l) e = refl
  idle_right house false t (ask.lay tag a b m) e = refl
  idle_right house false t (ask.lift tag) e = refl
  idle_right house false t ask.close e = refl
  idle_right house false t ask.reopen e = absurd (true≢false e)
  idle_right house false t (ask.strength l) e = absurd (true≢false e)
  idle_right house false t (ask.group l b) e = absurd (true≢false e)
  idle_right house false t (ask.run l y) e = absurd (true≢false e)
  idle_right house false t (ask.elsewhere l) e = absurd (true≢false e)

  idle_state : (o : Bool) (q : Ask Y) → allowed o q ≡ false → o ≡ open_after o q
  idle_state o (ask.lay tag a b m) e = refl
  idle_state o (ask.lift tag) e = refl
  idle_state o ask.close e = e
  idle_state true ask.reopen e = refl
  idle_state false ask.reopen e = absurd (true≢false e)
  idle_state o (ask.strength l) e = refl
  idle_state o (ask.group l b) e = refl
  idle_state o (ask.run l y) e = refl
  idle_state o (ask.elsewhere l) e = refl

  idle_tally : (o : Bool) (t : List TourCable) (q : Ask Y) → allowed o q ≡ false → t ≡ tally_after o t q
  idle_tally true t (ask.lay tag a b m) e = absurd (true≢false e)
  idle_tally false t (ask.lay tag a b m) e = refl
  idle_tally true t (ask.lift tag) e = absurd (true≢false e)
  idle_tally false t (ask.lift tag) e = refl
  idle_tally o t ask.close e = refl
  idle_tally o t ask.reopen e = refl
  idle_tally o t (ask.strength l) e = refl
  idle_tally o t (ask.group l b) e = refl
  idle_tally o t (ask.run l y) e = refl
  idle_tally o t (ask.elsewhere l) e = refl

  step_kept : {s : Plan X} {q : Ask Y} {r : Reply G} {s' : Plan X} → Step cables over graded s q r s' → Tied s → Kept s q r s'
  step_kept (lays tag a b m r d) tied =
      record { right = ap reply.tour d.answer; tied = tt; house = d.house; state = refl; tally = d.after }
  step_kept (lifts tag r d) tied =
      record { right = ap reply.tour d.answer; tied = tt; house = d.house; state = refl; tally = d.after }
  step_kept (closes {p = p} {c = c} d) tied =
      let same : cables p.house ++ tour_cables (laid p.tour) ≡ cables c.house ++ tour_cables (laid c.tour)
      = sym (ap (λ h. cables h ++ tour_cables (laid c.tour)) d.house ∙ ap (λ t. cables p.house ++ tour_cables t) d.tour) in
      record { right = refl; tied = d.present ∙ same; house = d.house; state = refl; tally = d.tour }
  step_kept (reopens d) tied = record { right = refl; tied = tt; house = d.house; state = refl; tally = d.tour }
  step_kept (strengths l r d) tied =
      record { right = (r, (refl, subst (λ cs. StrengthAnswer cs l r) tied d)); tied = tied; house = refl; state = refl; tally = refl }
  step_kept (groups l b r b' d) tied =
      record { right = (r, (b', (refl, subst (λ cs. GroupAnswer cs l b r b') tied d))); tied = tied; house = refl; state = refl; tally = refl }
  step_kept (runs l y r d) tied =
      record { right = (r, (refl, subst (λ cs. RunAnswer over (graded y) cs l r) tied d)); tied = tied; house = refl; state = refl; tally = refl }
  step_kept (others l) tied = record { right = refl; tied = tied; house = refl; state = refl; tally = refl }
  step_kept (idles {s = s} q e) tied =
      record {
        right = idle_right (cables (home s)) (is_open s) (tour_of s) q e;
        tied = tied;
        house = refl;
        state = idle_state (is_open s) q e;
        tally = idle_tally (is_open s) (tour_of s) q e;
      }

  told : {s : Plan X} {ds : List (Ask Y × Reply G)} → Life cables over graded s ds → Tied s → Told (cables (home s)) over graded (is_open s) (tour_of s) ds
  told ends tied = tt
  told (goes {s = s} {s' = s'} {ds = ds} q r step rest) tied =
      let k : Kept s q r s' = step_kept step tied in
      let on : Told (cables (home s)) over graded (is_open s') (tour_of s') ds
      = subst (λ h. Told (cables h) over graded (is_open s') (tour_of s') ds) k.house (told rest k.tied) in
      let turned : Told (cables (home s)) over graded (open_after (is_open s) q) (tour_of s') ds
      = subst (λ o. Told (cables (home s)) over graded o (tour_of s') ds) k.state on in
      (k.right, subst (λ t. Told (cables (home s)) over graded (open_after (is_open s) q) t ds) k.tally turned)

  pub life_law : LifeLaw cables over graded
  life_law h p ds begun life =
      subst (λ t. Told (cables h) over graded true t ds) begun.tour (subst (λ x. Told (cables x) over graded true (laid p.tour) ds) begun.house (told life tt))

pub other_run : {Y G : Type 0} (over : G → G → Bool) (graded : Y → Run → G) → OtherRun over graded
other_run over graded cs l y (Ok x) right = ap refusal_in (sym right.0)
other_run over graded cs l y (Err e) right = ap refusal_in (sym right)
