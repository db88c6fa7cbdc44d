-- The runs of the example sheet: a chain between the devices, and a side whose cables are no better. Assumes nothing.
use Rattle.std.proofs.Common.{ℕ, Bool, [], ◌∷◌, Some, refl, inl, inr}
use Rattle.network.specs.Chains.{stay, hop}
use Rattle.network.specs.Lists.{member}
use Rattle.network.specs.declared.cable.Cable.{Cable}
use Rattle.forest.specs.Order.{run_over}
use Rattle.plan.specs.Questions.{RunIs}
use Rattle.figures.specs.Grades.{copper, fibre, metres, plain, by_length, shorter}
use Rattle.figures.specs.Rigs.{example_sheet}
use Rattle.figures.proofs.GradeOrders.{run_laws, length_laws}
use Rattle.figures.proofs.RunTests.{run_by_test}

-- cable i of the chain
abbrev step : ℕ → ℕ → Cable
step a b = record { a = a; b = b; run = copper 20 }

abbrev back : Cable
back = record { a = 13; b = 10; run = fibre 300 }

-- device 10 and what hangs on it alone
abbrev hub_side : ℕ → Bool
hub_side = member (10 ∷ 20 ∷ 21 ∷ [])

pub fibre_needed : RunIs run_over plain example_sheet (member (10 ∷ 13 ∷ [])) (Some (fibre 300))
fibre_needed = run_by_test run_laws plain example_sheet 10 13 (fibre 300) hub_side (hop back ((3, refl), refl) (inr (refl, refl)) stay) refl refl refl

pub metres_needed : RunIs shorter by_length example_sheet (member (10 ∷ 13 ∷ [])) (Some (metres 20))
metres_needed = run_by_test length_laws by_length example_sheet 10 13 (metres 20) hub_side
    (hop (step 10 11) ((0, refl), refl) (inl (refl, refl)) (hop (step 11 12) ((1, refl), refl) (inl (refl, refl)) (hop (step 12 13) ((2, refl), refl) (inl (refl, refl)) stay)))
    refl refl refl

pub copper_needed : RunIs run_over plain example_sheet (member (11 ∷ 13 ∷ [])) (Some (copper 20))
copper_needed = run_by_test run_laws plain example_sheet 11 13 (copper 20) (member (11 ∷ []))
    (hop (step 11 12) ((1, refl), refl) (inl (refl, refl)) (hop (step 12 13) ((2, refl), refl) (inl (refl, refl)) stay))
    refl refl refl
