use Rattle.std.proofs.Common.{◌≡◌, ℕ, ◌<◌, ◌≤◌, take}
use Rattle.cuts.specs.Links.{between, cell, label}
use Rattle.cuts.proofs.adjacency.weights.add_links.Given as goal

abbrev pub invariant-loop-l : goal.invariant-loop-l
invariant-loop-l l = ((y u : ℕ) → y < 128 → u < 128 → cell l.m y u ≤ l.l-index)
    × ((y u : ℕ) → y < 128 → u < 128 → cell l.m y u ≡ between (label l.groups.labels) y u (take l.l-index l.links.list.items))
