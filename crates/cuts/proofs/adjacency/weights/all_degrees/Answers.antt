use Rattle.std.proofs.Common.{ℕ, arith}
use Rattle.cuts.proofs.adjacency.weights.all_degrees.Goals as goal
use Rattle.std.proofs.lemmas.List.{get_or-replicate}

pub loop-l-init : goal.loop-l-init
loop-l-init c = (λ v h. omega (arith, get_or-replicate {A = ℕ} 128 v 0 0 h), λ v h. get_or-replicate {A = ℕ} 128 v 0 0 h)
