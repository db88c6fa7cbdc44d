use Rattle.std.proofs.Common.{◌≡◌, ℕ, ◌<◌, cond, length, get_or}
use Rattle.cuts.specs.Members.{set_of}
use Rattle.plan.proofs.group.write_bytes.Given as goal

abbrev pub invariant-loop-d : goal.invariant-loop-d
invariant-loop-d l = (length l.bytes ≡ 128) × ((k : ℕ) → k < l.d → get_or l.bytes k 0 ≡ cond (set_of l.devices k) 1 0)
