use Rattle.std.proofs.Common.{ℕ, ◌<◌, ◌≤◌, length}
use Rattle.cuts.specs.Links.{label, degree}
use Rattle.cuts.specs.Members.{set_of}
use Rattle.cuts.proofs.Merging.{Merging}
use Rattle.cuts.proofs.adjacency.weakest_split.Given as goal

abbrev pub invariant-loop-best : goal.invariant-loop-best
invariant-loop-best l = (2 ≤ length l.groups.reps.items)
    × ((k : ℕ) → k < length l.groups.reps.items → l.best.crossings ≤ degree (label l.groups.labels) l.links.list.items k)
    × Merging l.links.list.items (set_of l.set) l.groups l.best

abbrev pub decreases-loop-best : goal.decreases-loop-best
decreases-loop-best l = length l.groups.reps.items
