-- Sets of devices, their splits, and their strength. A set, and a side of a split, is a test on device numbers. Assumes nothing.
--   DeviceSet S           S is two or more devices
--   Split S side          `side` parts S in two: some device of S is on it, and some is not
--   belongs S c           both ends of the cable are in S
--   crosses S side c      the cable belongs to S and has an end on each side
--   crossings cs S side   how many cables of the list cross; several between the same two devices each count
--   Tied cs S k           every split of S has k crossings or more
--   WeakSplit cs S k      some split of S has k crossings or fewer
--   Strength cs S k       the fewest crossings over all splits of S are k
use Rattle.std.specs.Prelude.{◌≡◌, ℕ, ◌<◌, ◌≤◌, Bool, true, false, not, ◌&&◌, List, count_by}
use Rattle.network.specs.declared.cable.Cable.{Cable}

pub record DeviceSet (S : ℕ → Bool) : Type 0 where
  pub below : (d : ℕ) → S d ≡ true → d < 128
  pub one : ℕ
  pub other : ℕ
  pub one_in : S one ≡ true
  pub other_in : S other ≡ true
  pub apart : one ≡ other → ⊥

pub record Split (S side : ℕ → Bool) : Type 0 where
  pub left : ℕ
  pub right : ℕ
  pub left_in : S left ≡ true
  pub right_in : S right ≡ true
  pub left_side : side left ≡ true
  pub right_side : side right ≡ false

abbrev pub belongs : (S : ℕ → Bool) → Cable → Bool
belongs S c = S c.a && S c.b

abbrev pub differ : Bool → Bool → Bool
differ true y = not y
differ false y = y

abbrev pub crosses : (S side : ℕ → Bool) → Cable → Bool
crosses S side c = belongs S c && differ (side c.a) (side c.b)

abbrev pub crossings : List Cable → (S side : ℕ → Bool) → ℕ
crossings cs S side = count_by (crosses S side) cs

abbrev pub Tied : List Cable → (ℕ → Bool) → ℕ → Type 0
Tied cs S k = (side : ℕ → Bool) → Split S side → k ≤ crossings cs S side

pub record WeakSplit (cs : List Cable) (S : ℕ → Bool) (k : ℕ) : Type 0 where
  pub side : ℕ → Bool
  pub split : Split S side
  pub few : crossings cs S side ≤ k

pub record Strength (cs : List Cable) (S : ℕ → Bool) (k : ℕ) : Type 0 where
  pub tied : Tied cs S k
  pub side : ℕ → Bool
  pub split : Split S side
  pub attained : crossings cs S side ≡ k
