use Rattle.std.proofs.Common.{◌≡◌, ℕ, ◌<◌, length, get_or}
use Rattle.cuts.proofs.adjacency.grouping.first_reps.Given as goal

abbrev pub invariant-loop-first : goal.invariant-loop-first
invariant-loop-first l = (length l.out.items ≡ l.first-index) × ((k : ℕ) → k < l.first-index → get_or l.out.items k 0 ≡ get_or l.reps.items (get_or l.firsts.items k 0) 0)
