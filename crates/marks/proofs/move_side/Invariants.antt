use Rattle.std.proofs.Common.{◌≡◌, ℕ, ◌<◌, ◌≤◌, length}
use Rattle.cuts.specs.Members.{set_of}
use Rattle.marks.specs.State.{number, moved}
use Rattle.marks.proofs.move_side.Given as goal

abbrev pub invariant-loop-d : goal.invariant-loop-d
invariant-loop-d l = (length l.part ≡ 128)
    × ((k : ℕ) → k < l.d → number l.part k ≡ moved l.p l.q (set_of l.side k) (number l.initial.part k))
    × ((k : ℕ) → l.d ≤ k → number l.part k ≡ number l.initial.part k)
