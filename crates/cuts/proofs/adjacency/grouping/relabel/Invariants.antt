use Rattle.std.proofs.Common.{◌≡◌, ℕ, ◌<◌, length, get_or}
use Rattle.cuts.proofs.adjacency.grouping.relabel.Given as goal

abbrev pub invariant-loop-d : goal.invariant-loop-d
invariant-loop-d l = (length l.out ≡ 128) × ((k : ℕ) → k < l.d → get_or l.out k 0 ≡ get_or l.into (get_or l.labels k 0) 0)
