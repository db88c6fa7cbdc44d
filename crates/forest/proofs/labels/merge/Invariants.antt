use Rattle.std.proofs.Common.{◌≡◌, ℕ, ◌<◌, ◌≤◌, length}
use Rattle.cuts.specs.Links.{label}
use Rattle.forest.specs.Labels.{relabel}
use Rattle.forest.proofs.labels.merge.Given as goal

-- those before the place at hand are done, and the others are as they were
abbrev pub invariant-loop-label : goal.invariant-loop-label
invariant-loop-label l = (length l.labels ≡ 128) × ((d : ℕ) → d < l.label-index → label l.labels d ≡ relabel l.old l.new (label l.initial.labels d))
    × ((d : ℕ) → l.label-index ≤ d → label l.labels d ≡ label l.initial.labels d)
