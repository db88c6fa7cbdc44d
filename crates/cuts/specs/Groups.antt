-- Words of the method, not of the subject: groups of devices, and the best split so far. Assumes nothing.
--   Numbered S labels reps n      each device of S has a label below n of its own, and `reps` has the device of each label
--   Lightest L ls n x k           the label x, below n, has the least degree, which is k
--   Coarser ls best g h           the groups h come from g by a fusion that loses no split with fewer than `best` links across
--   Weakest ls S floor k side     `side` splits S, exactly k links go across, and where k is above the floor no split of S has fewer
use Rattle.std.specs.Prelude.{◌≡◌, ℕ, ◌<◌, ◌≤◌, Bool, true, false, List, length}
use Rattle.network.specs.Sets.{Split}
use Rattle.cuts.specs.Links.{label, across, degree}
use Rattle.cuts.specs.Fusions.{Fused}
use Rattle.cuts.specs.declared.adjacency.link.Link.{Link}
use Rattle.cuts.specs.declared.adjacency.groups.Groups.{Groups}

pub record Numbered (S : ℕ → Bool) (labels reps : List ℕ) (n : ℕ) : Type 0 where
  pub fits : n ≤ 128
  pub inner : (d : ℕ) → d < 128 → S d ≡ true → label labels d < n
  pub outer : (d : ℕ) → d < 128 → S d ≡ false → label labels d ≡ 0
  pub own : (d : ℕ) → d < 128 → S d ≡ true → label reps (label labels d) ≡ d
  pub reps_low : (x : ℕ) → x < n → label reps x < 128
  pub reps_in : (x : ℕ) → x < n → S (label reps x) ≡ true
  pub reps_own : (x : ℕ) → x < n → label labels (label reps x) ≡ x

pub record Lightest (L : ℕ → ℕ) (ls : List Link) (n x k : ℕ) : Type 0 where
  pub low : x < n
  pub is : k ≡ degree L ls x
  pub least : (v : ℕ) → v < n → k ≤ degree L ls v

pub record Coarser (ls : List Link) (best : ℕ) (g h : Groups) : Type 0 where
  pub into : List ℕ
  pub firsts : List ℕ
  pub fused : Fused (label g.labels) ls (length g.reps.items) best best into firsts (length h.reps.items)
  pub labels_are : (d : ℕ) → d < 128 → label h.labels d ≡ label into (label g.labels d)
  pub reps_are : (y : ℕ) → y < length h.reps.items → label h.reps.items y ≡ label g.reps.items (label firsts y)

pub record Weakest (ls : List Link) (S : ℕ → Bool) (floor k : ℕ) (side : ℕ → Bool) : Type 0 where
  pub split : Split S side
  pub attained : across side ls ≡ k
  pub least : floor < k → (A : ℕ → Bool) → Split S A → k ≤ across A ls
