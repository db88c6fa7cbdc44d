use Rattle.std.proofs.Common.{◌≡◌, ℕ, ◌<◌, length, get_or}
use Rattle.cuts.proofs.labels.own_labels.Given as goal

abbrev pub invariant-loop-d : goal.invariant-loop-d
invariant-loop-d l = (length l.labels ≡ 128) × ((k : ℕ) → k < l.d → get_or l.labels k 0 ≡ k)
