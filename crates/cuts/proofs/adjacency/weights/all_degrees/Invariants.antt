use Rattle.std.proofs.Common.{◌≡◌, ℕ, ◌<◌, ◌≤◌, get_or, take}
use Rattle.cuts.specs.Links.{degree, label}
use Rattle.cuts.proofs.adjacency.weights.all_degrees.Given as goal

abbrev pub invariant-loop-l : goal.invariant-loop-l
invariant-loop-l l = ((v : ℕ) → v < 128 → get_or l.degrees v 0 ≤ l.l-index)
    × ((v : ℕ) → v < 128 → get_or l.degrees v 0 ≡ degree (label l.groups.labels) (take l.l-index l.links.list.items) v)
