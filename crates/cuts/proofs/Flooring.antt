-- What a finder finds at the floor 0 is a least split.
use Rattle.std.proofs.Common.{ℕ, Bool, List, Some, None, Option, ⊎_elim, arith, MatchOption}
use Rattle.std.proofs.lemmas.List.Sums.{count_by-le-length}
use Rattle.std.proofs.lemmas.Bool.{cases_lt}
use Rattle.network.specs.Sets.{DeviceSet, crosses}
use Rattle.network.specs.declared.cable.Cable.{Cable}
use Rattle.cuts.specs.Finding.{Finds, LeastSplit}
use Rattle.cuts.specs.Members.{set_of}
use Rattle.cuts.specs.declared.finder.Cut.{Cut}

least_split : (cs : List Cable) (S : ℕ → Bool) (k : ℕ) (side : ℕ → Bool) → Finds cs S 0 k side → LeastSplit cs S k side
least_split cs S k side f = record {
  split = f.split;
  attained = f.attained;
  few = omega (arith, f.attained, count_by-le-length (crosses S side) cs);
  least = λ A sp. ⊎_elim (λ above. f.least above A sp) (λ none. omega arith) (cases_lt 0 k);
}

pub least_cut : (cs : List Cable) (S : ℕ → Bool) (r : Option Cut)
    → MatchOption r (DeviceSet S → ⊥) (λ c. DeviceSet S × Finds cs S 0 c.crossings (set_of c.side))
    → MatchOption r (DeviceSet S → ⊥) (λ c. DeviceSet S × LeastSplit cs S c.crossings (set_of c.side))
least_cut cs S None h = h
least_cut cs S (Some c) h = (h.0, least_split cs S c.crossings (set_of c.side) h.1)
