-- What a finder finds. Assumes nothing.
--   Finds cs S floor k side    `side` splits S, exactly k cables cross it, and where k is above the floor no split of S has fewer crossings
--   LeastSplit cs S k side     `side` splits S, exactly k cables cross it, no more than there are, and no split of S has fewer crossings
use Rattle.std.specs.Prelude.{◌≡◌, ℕ, ◌<◌, ◌≤◌, Bool, List, length}
use Rattle.network.specs.Sets.{Split, crossings, Tied}
use Rattle.network.specs.declared.cable.Cable.{Cable}

pub record Finds (cs : List Cable) (S : ℕ → Bool) (floor k : ℕ) (side : ℕ → Bool) : Type 0 where
  pub split : Split S side
  pub attained : crossings cs S side ≡ k
  pub least : floor < k → Tied cs S k

pub record LeastSplit (cs : List Cable) (S : ℕ → Bool) (k : ℕ) (side : ℕ → Bool) : Type 0 where
  pub split : Split S side
  pub attained : crossings cs S side ≡ k
  pub few : k ≤ length cs
  pub least : Tied cs S k
