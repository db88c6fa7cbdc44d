-- What the laws of an order of grades give. Assumes nothing.
use Rattle.std.proofs.Common.{◌≡◌, Bool, true, false, sym, ⊎_elim}
use Rattle.std.proofs.lemmas.Bool.{both_ways}
use Rattle.forest.specs.Order.{Laws}

module _ {G : Type 0} {over : G → G → Bool} (laws : Laws over) where
  pub reach_self : (g : G) → over g g ≡ true
  reach_self g = ⊎_elim (λ h. h) (λ h. h) (laws.either g g)

  -- what does not reach is reached
  pub reach_back : (g h : G) → false ≡ over g h → over h g ≡ true
  reach_back g h off = ⊎_elim (λ on. absurd (both_ways (over g h) (sym off) on)) (λ on. on) (laws.either g h)
