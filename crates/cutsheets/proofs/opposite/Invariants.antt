use Rattle.std.proofs.Common.{◌≡◌, ℕ, ◌<◌, false, not, length, get_or}
use Rattle.cuts.specs.Members.{set_of}
use Rattle.cutsheets.proofs.opposite.Given as goal

abbrev pub invariant-loop-d : goal.invariant-loop-d
invariant-loop-d l = (length l.others ≡ 128) × ((k : ℕ) → k < l.d → get_or l.others k false ≡ not (set_of l.side k))
