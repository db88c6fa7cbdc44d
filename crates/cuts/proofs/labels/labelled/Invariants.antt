use Rattle.std.proofs.Common.{◌≡◌, ℕ, ◌<◌, false, eqb, length, get_or}
use Rattle.cuts.proofs.labels.labelled.Given as goal

abbrev pub invariant-loop-d : goal.invariant-loop-d
invariant-loop-d l = (length l.flags ≡ 128) × ((k : ℕ) → k < l.d → get_or l.flags k false ≡ eqb (get_or l.labels k 0) l.with)
