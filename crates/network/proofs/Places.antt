-- The cable at a place of the list, as it is read by its number. Assumes nothing.
use Rattle.std.proofs.Common.{◌≡◌, ℕ, ◌<◌, List, length, get_or, Some, ⊎_elim, arith}
use Rattle.std.specs.List.{slice_get}
use Rattle.std.proofs.lemmas.Option.{slice_get-get_or, slice_get_past as nth_past}
use Rattle.std.proofs.lemmas.Bool.{cases_lt}
use Rattle.network.specs.Cables.{LawfulCable, Lawful}
use Rattle.network.specs.declared.cable.Cable.{Cable}
use Rattle.network.specs.declared.cable.Medium.TheVariants.{Copper}

-- what stands past the end of a list
abbrev pub blank : Cable
blank = record { a = 0; b = 0; run = record { medium = Copper; length = 0 } }

pub place : (cs : List Cable) (i : ℕ) → i < length cs → slice_get cs i ≡ Some (get_or cs i blank)
place cs i h = slice_get-get_or cs i blank h

pub lawful_at : (cs : List Cable) → Lawful cs → (i : ℕ) → i < length cs → LawfulCable (get_or cs i blank)
lawful_at cs lawful i h = lawful i (get_or cs i blank) (place cs i h)

pub one_place : (cs : List Cable) (i : ℕ) (c d : Cable) → slice_get cs i ≡ Some c → slice_get cs i ≡ Some d → c ≡ d
one_place cs i c d s t = cc

pub place_low : (cs : List Cable) (i : ℕ) (c : Cable) → slice_get cs i ≡ Some c → i < length cs
place_low cs i c st = ⊎_elim (λ lt. lt) (λ le. let n = nth_past cs i le in let z : ◌≡◌ {A = ℕ} 0 1 = cc in absurd (omega arith)) (cases_lt i (length cs))
