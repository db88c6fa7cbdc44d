use Rattle.std.proofs.Common.{◌≡◌, ℕ, ◌+◌, ◌<◌, ◌≤◌, length, get_or}
use Rattle.cuts.specs.Links.{cell}
use Rattle.cuts.proofs.adjacency.weights.add_row.Given as goal

abbrev pub invariant-loop-v : goal.invariant-loop-v
invariant-loop-v l = (length l.w ≡ 128)
    × ((k : ℕ) → k < l.v → get_or l.w k 0 ≡ get_or l.initial.w k 0 + cell l.m l.x k)
    × ((k : ℕ) → l.v ≤ k → get_or l.w k 0 ≡ get_or l.initial.w k 0)
