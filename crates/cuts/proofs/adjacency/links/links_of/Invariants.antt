use Rattle.std.proofs.Common.{take}
use Rattle.cuts.specs.Members.{set_of}
use Rattle.cuts.specs.Links.{Keeps}
use Rattle.cuts.specs.Rigs.{rig_cables}
use Rattle.cuts.proofs.adjacency.links.links_of.Given as goal

abbrev pub invariant-loop-c : goal.invariant-loop-c
invariant-loop-c l = Keeps (take l.c-index (rig_cables l.rig)) (set_of l.set) l.list.items
