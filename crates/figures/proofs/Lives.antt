-- A plan over a sheet followed through its calls: which cables it has, and which are present when it is closed. Assumes nothing.
use Rattle.std.proofs.Common.{◌≡◌, ℕ, List, ◌++◌, Result, ap, ◌∙◌, ap₂}
use Rattle.network.specs.declared.cable.Cable.{Cable}
use Rattle.network.specs.declared.cable.Run.{Run}
use Rattle.network.specs.declared.refusal.Refusal.{Refusal}
use Rattle.houses.specs.declared.sheet.Sheet.{Sheet}
use Rattle.plan.specs.States.{cable_of, Lays, Lifts, Closes, Reopens}
use Rattle.plan.specs.Tables.{closed_cables}
use Rattle.plan.specs.Tally.{tour_cables, lay_after, lift_after}
use Rattle.plan.specs.declared.plan.Open.{Open}
use Rattle.plan.specs.declared.plan.Closed.{Closed}
use Rattle.network.specs.declared.cable.TourCable.{TourCable}
use Rattle.figures.specs.Over.{sheet_cables, Over}

module _ (cs : List Cable) (t : List TourCable) (p : Open Sheet) (over : Over p cs t) where
  pub laid_over : (q : Open Sheet) (tag a b : ℕ) (run : Run) (r : Result ℕ Refusal) → Lays p tag a b run r q → Over q cs (lay_after t tag (cable_of a b run))
  laid_over q tag a b run r lays = record {
    house = ap sheet_cables lays.house ∙ over.house;
    tour = lays.after ∙ ap (λ u. lay_after u tag (cable_of a b run)) over.tour;
  }

  pub lifted_over : (q : Open Sheet) (tag : ℕ) (r : Result ℕ Refusal) → Lifts p tag r q → Over q cs (lift_after t tag)
  lifted_over q tag r lifts = record {
    house = ap sheet_cables lifts.house ∙ over.house;
    tour = lifts.after ∙ ap (λ u. lift_after u tag) over.tour;
  }

  pub reopened_over : (c : Closed Sheet) (q : Open Sheet) → Closes sheet_cables p c → Reopens c q → Over q cs t
  reopened_over c q closes reopens = record {
    house = ap sheet_cables (reopens.house ∙ closes.house) ∙ over.house;
    tour = reopens.tour ∙ closes.tour ∙ over.tour;
  }

  pub closed_present : (c : Closed Sheet) → Closes sheet_cables p c → closed_cables c ≡ cs ++ tour_cables t
  closed_present c closes = closes.present ∙ ap₂ (λ x y. x ++ tour_cables y) over.house over.tour
