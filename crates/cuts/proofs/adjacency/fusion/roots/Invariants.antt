use Rattle.std.proofs.Common.{◌≡◌, ℕ, ◌<◌, ◌&&◌, eqb, ltb, length, get_or}
use Rattle.cuts.specs.Links.{flagged}
use Rattle.cuts.proofs.adjacency.fusion.roots.Given as goal

abbrev pub invariant-loop-d : goal.invariant-loop-d
invariant-loop-d l = (length l.out ≡ 128) × ((k : ℕ) → k < l.d → flagged l.out k ≡ (ltb k l.n && eqb (get_or l.to k 0) k))
