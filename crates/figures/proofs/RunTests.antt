-- The poorest cable that two devices need, from a chain between them and a side that parts them. Assumes nothing.
--   parts_by side c                   the cable has an end on each side
--   side_test over graded cs side g   the grade g reaches that of each cable with an end on each side
use Rattle.std.proofs.Common.{◌≡◌, ℕ, zero, suc, Bool, true, false, not, ◌||◌, eqb, ◌⊎◌, List, [], ◌∷◌, Some, None, Ok, Err, Option, Result, sym, ap, ◌∙◌, subst, subst₂, inl, inr, ⊎_elim, arith}
use Rattle.std.specs.List.{slice_get}
use Rattle.std.proofs.lemmas.Bool.{true≢false, false≢true, and_parts, or_cases, not-true, cases_Bool, eqb-true}
use Rattle.network.specs.Sets.{differ}
use Rattle.network.specs.Lists.{member}
use Rattle.network.specs.Chains.{Linked, stay, Join}
use Rattle.network.specs.Refusals.{refuse}
use Rattle.network.specs.declared.cable.Cable.{Cable}
use Rattle.network.specs.declared.cable.Run.{Run}
use Rattle.network.specs.declared.refusal.Refusal.{Refusal}
use Rattle.network.specs.declared.refusal.Refusal.TheVariants.{TooFewDevices}
use Rattle.network.proofs.Links.{linked_flip, linked_map, linked_same}
use Rattle.network.proofs.Members.{here, there, only}
use Rattle.network.proofs.Sides.{same_or, differ_from}
use Rattle.network.proofs.SetTests.{several_from}
use Rattle.forest.specs.Order.{Laws}
use Rattle.plan.specs.Tests.{list_then, list_check, run_check}
use Rattle.plan.specs.Questions.{ByRun, RunIs, RunAnswer}
use Rattle.figures.proofs.SheetTests.{each}
use Rattle.figures.proofs.Known.{set_test, set_by_test}
use Rattle.figures.proofs.Telling.{never}

abbrev pub parts_by : (ℕ → Bool) → Cable → Bool
parts_by side c = differ (side c.a) (side c.b)

abbrev pub side_test : {G : Type 0} → (over : G → G → Bool) (graded : Run → G) → List Cable → (ℕ → Bool) → G → Bool
side_test over graded cs side g = each (λ c. not (parts_by side c) || over g (graded c.run)) cs

each_place : {X : Type 0} (p : X → Bool) (xs : List X) → each p xs ≡ true → (i : ℕ) (x : X) → slice_get xs i ≡ Some x → p x ≡ true
each_place p [] e i x st = let z : ◌≡◌ {A = ℕ} 0 1 = cc in absurd (omega arith)
each_place p (y ∷ ys) e zero x st = let f : y ≡ x = cc in subst (λ v. p v ≡ true) f (and_parts (p y) (each p ys) e).0
each_place p (y ∷ ys) e (suc i) x st = each_place p ys (and_parts (p y) (each p ys) e).1 i x st

-- a chain between two devices joins the list of them
linked_joins : {P : Cable → Type 0} (x y : ℕ) → Linked P x y → Join P (member (x ∷ y ∷ []))
linked_joins {P} x y l u v mu mv = go (or_cases (eqb x u) (member (y ∷ []) u) mu) (or_cases (eqb x v) (member (y ∷ []) v) mv)
  where
    go : (eqb x u ≡ true) ⊎ (member (y ∷ []) u ≡ true) → (eqb x v ≡ true) ⊎ (member (y ∷ []) v ≡ true) → Linked P u v
    go (inl e) (inl f) = subst₂ (Linked P) (eqb-true x u e) (eqb-true x v f) stay
    go (inl e) (inr f) = subst₂ (Linked P) (eqb-true x u e) (only y v f) l
    go (inr e) (inl f) = subst₂ (Linked P) (only y u e) (eqb-true x v f) (linked_flip l)
    go (inr e) (inr f) = subst₂ (Linked P) (only y u e) (only y v f) stay

run_fits : (l : List ℕ) → set_test l ≡ true → list_check l ≡ Ok tt → run_check l ≡ Ok tt
run_fits l set fit = ap (λ b. list_then l (refuse TooFewDevices (not b) (Ok tt))) (several_from (member l) (set_by_test l set)) ∙ fit

module _ {G : Type 0} {over : G → G → Bool} (laws : Laws over) (graded : Run → G) (cs : List Cable) where
  -- every chain from one side to the other has a cable that g reaches
  run_bound : (side : ℕ → Bool) (g : G) → side_test over graded cs side g ≡ true → (D : ℕ → Bool) (x y : ℕ) → D x ≡ true → D y ≡ true
      → side x ≡ true → side y ≡ false → (h : G) → Join (ByRun over graded cs h) D → over g h ≡ true
  run_bound side g test D x y ix iy on off h join = ⊎_elim (λ e. e) (λ o. absurd (true≢false (sym on ∙ linked_same side (same o) (join x y ix iy) ∙ off))) (cases_Bool (over g h))
    where
      crossing : over g h ≡ false → (c : Cable) → over (graded c.run) h ≡ true
          → (not (parts_by side c) ≡ true) ⊎ (over g (graded c.run) ≡ true) → (side c.a ≡ side c.b → ⊥) → ⊥
      crossing o c reach (inl n) ne = false≢true (sym (not-true (parts_by side c) n) ∙ differ_from (side c.a) (side c.b) ne)
      crossing o c reach (inr r) ne = false≢true (sym o ∙ laws.chain g (graded c.run) h r reach)

      same : over g h ≡ false → (c : Cable) → ByRun over graded cs h c → side c.a ≡ side c.b
      same o c ((i, st), reach) = ⊎_elim
          (λ e. e)
          (λ ne. absurd (crossing o c reach (or_cases (not (parts_by side c)) (over g (graded c.run)) (each_place (λ d. not (parts_by side d) || over g (graded d.run)) cs test i c st)) ne))
          (same_or (side c.a) (side c.b))

  pub run_by_test : (x y : ℕ) (g : G) (side : ℕ → Bool) → Linked (ByRun over graded cs g) x y → side_test over graded cs side g ≡ true → side x ≡ true → side y ≡ false
      → RunIs over graded cs (member (x ∷ y ∷ [])) (Some g)
  run_by_test x y g side link test on off =
      (linked_joins x y link, run_bound side g test (member (x ∷ y ∷ [])) x y (here x (y ∷ [])) (there x y (y ∷ []) (here y [])) on off)

  -- by the order's laws there is one answer
  one_run : (D : ℕ → Bool) (g : G) → RunIs over graded cs D (Some g) → (o : Option G) → RunIs over graded cs D o → o ≡ Some g
  one_run D g known (Some h) told = ap (λ x. Some x) (laws.same h g (told.1 g known.0) (known.1 h told.0))
  one_run D g known None told = absurd (told (λ x y i j. linked_map (λ c p. p.0) (known.0 x y i j)))

  pub run_told : (l : List ℕ) (g : G) → RunIs over graded cs (member l) (Some g) → set_test l ≡ true → list_check l ≡ Ok tt
      → (ds : List Cable) → ds ≡ cs → (r : Result (Option G) Refusal) → RunAnswer over graded ds l r → r ≡ Ok (Some g)
  run_told l g known set fit ds is r told = fixed r (subst (λ xs. RunAnswer over graded xs l r) is told)
    where
      fixed : (r : Result (Option G) Refusal) → RunAnswer over graded cs l r → r ≡ Ok (Some g)
      fixed (Ok o) (passed, told) = ap (λ x. Ok x) (one_run (member l) g known o told)
      fixed (Err e) refused = never (run_check l) e (run_fits l set fit) refused
