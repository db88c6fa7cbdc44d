-- An open plan over a sheet. Assumes nothing.
--   sheet_cables s   the cables that a sheet means
--   Over p cs t      the plan's sheet means the cables cs, and its tour is t
use Rattle.std.specs.Prelude.{◌≡◌, List}
use Rattle.network.specs.declared.cable.Cable.{Cable}
use Rattle.houses.specs.Sheets.{meaning, cables_of}
use Rattle.houses.specs.declared.sheet.Sheet.{Sheet}
use Rattle.plan.specs.Tally.{laid}
use Rattle.plan.specs.declared.plan.Open.{Open}
use Rattle.network.specs.declared.cable.TourCable.{TourCable}

abbrev pub sheet_cables : Sheet → List Cable
sheet_cables s = cables_of (meaning s.bytes.now)

pub record Over (p : Open Sheet) (cs : List Cable) (t : List TourCable) : Type 0 where
  pub house : sheet_cables p.house ≡ cs
  pub tour : laid p.tour ≡ t
