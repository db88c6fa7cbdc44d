use Rattle.std.proofs.Common.{◌≡◌, ℕ, ◌<◌, ◌≤◌, cond, length, Some}
use Rattle.std.specs.List.{slice_get}
use Rattle.network.specs.Sets.{crosses}
use Rattle.network.specs.declared.cable.Cable.{Cable}
use Rattle.cuts.specs.Members.{set_of}
use Rattle.cuts.specs.Rigs.{rig_cables}
use Rattle.marks.specs.State.{number}
use Rattle.marks.proofs.parts.calls.stamp.Given as goal

abbrev pub invariant-loop-i : goal.invariant-loop-i
invariant-loop-i l = (length l.marks ≡ 512)
    × ((k : ℕ) (c : Cable) → k < l.i → slice_get (rig_cables l.rig) k ≡ Some c → number l.marks k ≡ cond (crosses (set_of l.set) (set_of l.side) c) l.m (number l.initial.marks k))
    × ((k : ℕ) → l.i ≤ k → number l.marks k ≡ number l.initial.marks k)
