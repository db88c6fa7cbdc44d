-- The figures of two cliques, with two cables between them and with a third. Assumes nothing.
use Rattle.std.proofs.Common.{◌≡◌, ℕ, List, [], ◌∷◌, ◌++◌, replicate, refl}
use Rattle.network.specs.Figures.{numbers}
use Rattle.network.specs.declared.cable.Cable.{Cable}
use Rattle.plan.specs.Questions.{StrengthAnswer, GroupAnswer}
use Rattle.figures.specs.Rigs.{two_cliques, bridge, first_clique, both_cliques}
use Rattle.figures.specs.Tells.{Tells}
use Rattle.figures.specs.declared.told.Told.{Told}
use Rattle.figures.proofs.SheetTests.{parts}
use Rattle.figures.proofs.Telling.{figure_tells}

-- the second clique is shed first, then the devices of the first clique one by one
abbrev one_by_one : ℕ → ℕ
one_by_one = parts 1 ((4 ∷ 5 ∷ 6 ∷ 7 ∷ []) ∷ (2 ∷ []) ∷ (3 ∷ []) ∷ (0 ∷ []) ∷ (1 ∷ []) ∷ [])

-- the second clique against the first
abbrev one_clique : ℕ → ℕ
one_clique = parts 1 ((4 ∷ 5 ∷ 6 ∷ 7 ∷ []) ∷ (0 ∷ 1 ∷ 2 ∷ 3 ∷ []) ∷ [])

module _ (ds : List Cable) (t : Told) where
  abbrev Answers : List ℕ → Type 0
  Answers l = StrengthAnswer ds l t.strength × GroupAnswer ds l (replicate 128 0) t.group t.bytes

  pub within_tells : ds ≡ two_cliques → Answers (0 ∷ 1 ∷ []) → Tells two_cliques (0 ∷ 1 ∷ []) t 3 first_clique
  unfolding numbers
  within_tells is a = figure_tells two_cliques 0 (1 ∷ []) 3 first_clique one_by_one refl refl refl refl ds is t a.0 a.1

  pub across_tells : ds ≡ two_cliques → Answers (0 ∷ 4 ∷ []) → Tells two_cliques (0 ∷ 4 ∷ []) t 2 both_cliques
  unfolding numbers
  across_tells is a = figure_tells two_cliques 0 (4 ∷ []) 2 both_cliques one_clique refl refl refl refl ds is t a.0 a.1

  pub bridged_tells : ds ≡ two_cliques ++ bridge ∷ [] → Answers (0 ∷ 1 ∷ []) → Tells (two_cliques ++ bridge ∷ []) (0 ∷ 1 ∷ []) t 3 both_cliques
  unfolding numbers
  bridged_tells is a = figure_tells (two_cliques ++ bridge ∷ []) 0 (1 ∷ []) 3 both_cliques one_by_one refl refl refl refl ds is t a.0 a.1
