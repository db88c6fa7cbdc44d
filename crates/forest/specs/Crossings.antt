-- A cable that was looked up by its place, and the best of those whose ends have different labels. Assumes nothing.
--   Seen cs grade f               what was found is the cable at its place, with its grade
--   FoundAt cs grade i r          the cable at the place i; none past the last
--   Crosses over cs grade ls n f  its ends have different labels, and it reaches each cable before the place n of which that holds
--   Best over cs grade ls n r     the best such cable before the place n; none where all have one label
--   reached_by over best g        the grade of the best so far reaches g
--   beyond best                   the place past the best so far
--   Passed over .. best i         no cable stands at the place i, or its ends have one label, or the best so far reaches it
--   Improves over .. best i f     f is the cable at the place i, its ends have different labels, and the best so far does not reach it
--   Next over .. best r           r is the first past the best so far that is better; none where it is the best of all
use Rattle.std.specs.Prelude.{◌≡◌, ℕ, ◌+◌, ◌<◌, ◌≤◌, Bool, true, false, List, length, Some, None, Option}
use Rattle.std.specs.List.{slice_get}
use Rattle.network.specs.declared.cable.Cable.{Cable}
use Rattle.forest.specs.declared.crossing.Found.{Found}
use Rattle.forest.specs.Labels.{Alike}

pub record Seen {G : Type 0} (cs : List Cable) (grade : ℕ → G) (f : Found G) : Type 0 where
  pub cable : Cable
  pub laid : slice_get cs f.place ≡ Some cable
  pub a_is : f.ends.a ≡ cable.a
  pub b_is : f.ends.b ≡ cable.b
  pub grade_is : f.grade ≡ grade f.place

abbrev pub FoundAt : {G : Type 0} → List Cable → (grade : ℕ → G) → ℕ → Option (Found G) → Type 0
FoundAt cs grade i None = length cs ≤ i
FoundAt cs grade i (Some f) = (f.place ≡ i) × Seen cs grade f

pub record Crosses {G : Type 0} (over : G → G → Bool) (cs : List Cable) (grade : ℕ → G) (ls : List ℕ) (n : ℕ) (f : Found G) : Type 0 where
  pub seen : Seen cs grade f
  pub before : f.place < n
  pub parts : Alike ls seen.cable → ⊥
  pub best : (i : ℕ) (c : Cable) → i < n → slice_get cs i ≡ Some c → (Alike ls c → ⊥) → over f.grade (grade i) ≡ true

abbrev pub Best : {G : Type 0} → (over : G → G → Bool) → List Cable → (grade : ℕ → G) → List ℕ → ℕ → Option (Found G) → Type 0
Best over cs grade ls n None = (i : ℕ) (c : Cable) → i < n → slice_get cs i ≡ Some c → Alike ls c
Best over cs grade ls n (Some f) = Crosses over cs grade ls n f

abbrev pub reached_by : {G : Type 0} → (over : G → G → Bool) → Option (Found G) → G → Bool
reached_by over None g = false
reached_by over (Some f) g = over f.grade g

abbrev pub beyond : {G : Type 0} → Option (Found G) → ℕ
beyond None = 0
beyond (Some f) = f.place + 1

pub record Passed {G : Type 0} (over : G → G → Bool) (cs : List Cable) (grade : ℕ → G) (ls : List ℕ) (best : Option (Found G)) (i : ℕ) : Type 0 where
  pub reached : (c : Cable) → slice_get cs i ≡ Some c → (Alike ls c → ⊥) → reached_by over best (grade i) ≡ true

pub record Improves {G : Type 0} (over : G → G → Bool) (cs : List Cable) (grade : ℕ → G) (ls : List ℕ) (best : Option (Found G)) (i : ℕ) (f : Found G) : Type 0 where
  pub here : f.place ≡ i
  pub seen : Seen cs grade f
  pub parts : Alike ls seen.cable → ⊥
  pub better : reached_by over best f.grade ≡ false

abbrev pub Next : {G : Type 0} → (over : G → G → Bool) → List Cable → (grade : ℕ → G) → List ℕ → (best r : Option (Found G)) → Type 0
Next over cs grade ls best None = Best over cs grade ls (length cs) best
Next over cs grade ls best (Some f) = Crosses over cs grade ls (f.place + 1) f × (beyond best ≤ f.place)
