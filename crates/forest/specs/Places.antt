-- Cables by their places in a list, and the kinds of cables that places and grades tell apart. Assumes nothing.
--   both_ends o                 the two ends of a cable, if it is there
--   ends_at cs i                the two ends of the cable at the place i; none past the last
--   if_laid o g                 g, if there is a cable
--   grade_at cs grade i         the grade of that place; none past the last
--   Laid cs c                   the cable stands at some place of the list
--   Among cs P c                it stands at a place of the kind P
--   Reaching over cs grade g c  it stands at a place whose grade reaches g
use Rattle.std.specs.Prelude.{◌≡◌, ℕ, Bool, true, List, Some, None, Option}
use Rattle.std.specs.List.{slice_get}
use Rattle.network.specs.declared.cable.Cable.{Cable}

abbrev pub both_ends : Option Cable → Option (ℕ × ℕ)
both_ends None = None
both_ends (Some c) = Some (c.a, c.b)

abbrev pub ends_at : List Cable → ℕ → Option (ℕ × ℕ)
ends_at cs i = both_ends (slice_get cs i)

abbrev pub if_laid : {G : Type 0} → Option Cable → G → Option G
if_laid None g = None
if_laid (Some c) g = Some g

abbrev pub grade_at : {G : Type 0} → List Cable → (grade : ℕ → G) → ℕ → Option G
grade_at cs grade i = if_laid (slice_get cs i) (grade i)

abbrev pub Laid : List Cable → Cable → Type 0
Laid cs c = (i : ℕ) × (slice_get cs i ≡ Some c)

abbrev pub Among : List Cable → (P : ℕ → Type 0) → Cable → Type 0
Among cs P c = (i : ℕ) × (slice_get cs i ≡ Some c) × P i

abbrev pub Reaching : {G : Type 0} → (over : G → G → Bool) → List Cable → (grade : ℕ → G) → G → Cable → Type 0
Reaching over cs grade g c = Among cs (λ i. over (grade i) g ≡ true) c
