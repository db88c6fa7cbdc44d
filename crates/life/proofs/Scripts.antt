-- Scripts: which step a call is, and how far a replay has come with the calls done so far. Assumes nothing.
use Rattle.std.proofs.Common.{◌≡◌, ℕ, ◌+◌, ◌<◌, ◌≤◌, Bool, true, false, List, [], ◌∷◌, ◌++◌, length, get_or, take, Vec, sym, refl, ap, ◌∙◌, subst, append_assoc, append-nil, arith, length-take-le}
use Rattle.std.proofs.lemmas.List.{take_more, take_all, length_push}
use Rattle.std.specs.declared.alloc.Global.{Global}
use Rattle.network.specs.declared.cable.Cable.{Cable}
use Rattle.network.specs.declared.cable.Run.{Run}
use Rattle.plan.specs.declared.state.Plan.{Plan}
use Rattle.life.specs.Asks.{Ask, allowed}
use Rattle.life.specs.Replies.{Reply}
use Rattle.life.specs.Lives.{Step, Life, ends, goes}
use Rattle.life.specs.Scripts.{ask_of, reply_of, row}
use Rattle.life.specs.declared.call.Answer.{Answer}
use Rattle.network.specs.declared.cable.TourCable.{TourCable}
use Rattle.life.specs.declared.call.Call.{Call}
use Rattle.life.specs.declared.call.Call.TheVariants as call

-- what an open plan and what a closed one does not allow
module _ {Y : Type 0} where
  pub not_open : (c : Call Y) → ((x : TourCable) → c ≡ call.Lay x → ⊥) → ((x : ℕ) → c ≡ call.Lift x → ⊥) → (c ≡ call.Close → ⊥) → allowed true (ask_of c) ≡ false
  not_open (call.Lay l) lay lift close = absurd (lay l refl)
  not_open (call.Lift tag) lay lift close = absurd (lift tag refl)
  not_open call.Close lay lift close = absurd (close refl)
  not_open call.Reopen lay lift close = refl
  not_open (call.Strength l) lay lift close = refl
  not_open (call.Group l b) lay lift close = refl
  not_open (call.Run l y) lay lift close = refl

  pub not_closed : (c : Call Y) → (c ≡ call.Reopen → ⊥) → ((l : Vec ℕ Global) → c ≡ call.Strength l → ⊥) → ((l b : Vec ℕ Global) → c ≡ call.Group l b → ⊥) → ((l : Vec ℕ Global) (y : Y) → c ≡ call.Run l y → ⊥) → allowed false (ask_of c) ≡ false
  not_closed (call.Lay l) reopen strength group run = refl
  not_closed (call.Lift tag) reopen strength group run = refl
  not_closed call.Close reopen strength group run = refl
  not_closed call.Reopen reopen strength group run = absurd (reopen refl)
  not_closed (call.Strength l) reopen strength group run = absurd (strength l refl)
  not_closed (call.Group l b) reopen strength group run = absurd (group l b refl)
  not_closed (call.Run l y) reopen strength group run = absurd (run l y refl)

-- a row with one call more
pub row_more : {Y G : Type 0} (cs : List (Call Y)) (bs : List (Answer G)) (c : Call Y) (b : Answer G) → length bs ≡ length cs → row (cs ++ (c ∷ [])) (bs ++ (b ∷ [])) ≡ row cs bs ++ ((ask_of c, reply_of b) ∷ [])
row_more [] [] c b e = refl
row_more [] (b' ∷ bs) c b e = absurd (omega arith)
row_more (c' ∷ cs) [] c b e = absurd (omega arith)
row_more (c' ∷ cs) (b' ∷ bs) c b e = ap (λ ds. (ask_of c', reply_of b') ∷ ds) (row_more cs bs c b (omega arith))

module _ {X Y G : Type 0} (cables : X → List Cable) (over : G → G → Bool) (graded : Y → Run → G) where
  -- the step of a call whose form is known
  pub step_of : {s : Plan X} {c c' : Call Y} {r : Reply G} {s' : Plan X} → c ≡ c' → Step cables over graded s (ask_of c') r s' → Step cables over graded s (ask_of c) r s'
  step_of {s = s} {r = r} {s' = s'} e step = subst (λ x. Step cables over graded s (ask_of x) r s') (sym e) step

  -- the row ds leads from the plan s to s': what goes on from s' goes on from s with ds before it
  abbrev pub Leads : Plan X → List (Ask Y × Reply G) → Plan X → Type 0
  Leads s ds s' = (es : List (Ask Y × Reply G)) → Life cables over graded s' es → Life cables over graded s (ds ++ es)

  leads_on : (s : Plan X) (ds : List (Ask Y × Reply G)) (s' : Plan X) (q : Ask Y) (r : Reply G) (s'' : Plan X) → Leads s ds s' → Step cables over graded s' q r s'' → Leads s (ds ++ ((q, r) ∷ [])) s''
  leads_on s ds s' q r s'' leads step es life =
      subst (Life cables over graded s) (sym (append_assoc ds ((q, r) ∷ []) es)) (leads ((q, r) ∷ es) (goes q r step life))

  -- after k calls of the script on the plan s, with the answers bs, the plan is s'
  pub record Come (s : Plan X) (script : List (Call Y)) (k : ℕ) (bs : List (Answer G)) (s' : Plan X) : Type 0 where
    pub count : length bs ≡ k
    pub leads : Leads s (row (take k script) bs) s'

  pub come_none : (s : Plan X) (script : List (Call Y)) (bs : List (Answer G)) → bs ≡ [] → Come s script 0 bs s
  come_none s script bs e = record { count = ap length e; leads = λ es life. life }

  pub come_more : (s : Plan X) (script : List (Call Y)) (k : ℕ) (bs : List (Answer G)) (s' : Plan X) (c : Call Y) (b : Answer G) (bs' : List (Answer G)) (s'' : Plan X)
      → k < length script → c ≡ get_or script k c → Step cables over graded s' (ask_of c) (reply_of b) s'' → bs' ≡ bs ++ (b ∷ []) → Come s script k bs s' → Come s script (k + 1) bs' s''
  come_more s script k bs s' c b bs' s'' below at step pushed come =
      let long : length (take k script) ≡ k = length-take-le k script (omega arith) in
      let taken : take (k + 1) script ≡ take k script ++ (c ∷ []) = take_more script k c below ∙ ap (λ x. take k script ++ (x ∷ [])) (sym at) in
      let same : row (take (k + 1) script) bs' ≡ row (take k script) bs ++ ((ask_of c, reply_of b) ∷ [])
      = ap (λ cs. row cs bs') taken ∙ ap (row (take k script ++ (c ∷ []))) pushed ∙ row_more (take k script) bs c b (come.count ∙ sym long) in
      record {
        count = ap length pushed ∙ length_push bs b ∙ ap (λ n. n + 1) come.count;
        leads = subst (λ ds. Leads s ds s'') (sym same) (leads_on s (row (take k script) bs) s' (ask_of c) (reply_of b) s'' come.leads step);
      }

  pub come_all : (s : Plan X) (script : List (Call Y)) (k : ℕ) (bs : List (Answer G)) (s' : Plan X) → length script ≤ k → Come s script k bs s' → Life cables over graded s (row script bs)
  come_all s script k bs s' past come =
      subst (λ cs. Life cables over graded s (row cs bs)) (take_all k script past)
      (subst (Life cables over graded s) (append-nil (row (take k script) bs)) (come.leads [] ends))
