-- Cables graded by place, by the run that stands there, are the cables graded by their runs. Assumes nothing.
use Rattle.std.proofs.Common.{◌≡◌, ℕ, Bool, true, List, Some, None, Option, sym, subst}
use Rattle.network.specs.declared.cable.Cable.{Cable}
use Rattle.network.specs.declared.cable.Run.{Run}
use Rattle.network.proofs.Links.{linked_map}
use Rattle.forest.specs.Places.{Reaching}
use Rattle.forest.specs.Poorest.{Poorest}
use Rattle.plan.specs.Grading.{run_of, run_at}
use Rattle.plan.specs.Questions.{ByRun, RunIs}

module _ {G : Type 0} (over : G → G → Bool) (graded : Run → G) (cs : List Cable) where
  abbrev by_place : ℕ → G
  by_place i = graded (run_at cs i)

  reaching_run : (g : G) (c : Cable) → Reaching over cs by_place g c → ByRun over graded cs g c
  reaching_run g c (i, st, r) = ((i, st), subst (λ o. over (graded (run_of o)) g ≡ true) st r)

  run_reaching : (g : G) (c : Cable) → ByRun over graded cs g c → Reaching over cs by_place g c
  run_reaching g c ((i, st), r) = (i, st, subst (λ o. over (graded (run_of o)) g ≡ true) (sym st) r)

  pub run_is : (D : ℕ → Bool) (r : Option G) → Poorest over cs by_place D r → RunIs over graded cs D r
  run_is D None h = h
  run_is D (Some g) (join, best) = (
    (λ x y ix iy. linked_map (reaching_run g) (join x y ix iy)),
    (λ h joined. best h (λ x y ix iy. linked_map (run_reaching h) (joined x y ix iy))),
  )
