-- The cable that a row stands for. Assumes nothing.
use Rattle.std.proofs.Common.{◌≡◌, ℕ, List, Some, None, sym, ap, ◌∙◌}
use Rattle.std.specs.List.{slice_get}
use Rattle.network.specs.declared.cable.MarkedCable.{MarkedCable}
use Rattle.network.proofs.ListPlaces.{mapped, nth_map}
use Rattle.plan.specs.Rows.{cables_in}

module _ (rows : List MarkedCable) (i : ℕ) where
  pub cable_of_row : (r : MarkedCable) → Some r ≡ slice_get rows i → slice_get (cables_in rows) i ≡ Some r.cable
  cable_of_row r e = nth_map (λ x. x.cable) rows i ∙ ap (mapped (λ x. x.cable)) (sym e)

  pub cable_past : None ≡ slice_get rows i → slice_get (cables_in rows) i ≡ None
  cable_past e = nth_map (λ x. x.cable) rows i ∙ ap (mapped (λ x. x.cable)) (sym e)
