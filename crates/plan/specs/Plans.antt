-- A plan in either state. Assumes nothing.
--   home p       the house that it stands on
--   is_open p    whether it is open
--   tour_of p    its tour's cables with their tags, as the tally has them
--   stored p     the cables that it stores, which an open plan does not
use Rattle.std.specs.Prelude.{Bool, true, false, List, []}
use Rattle.network.specs.declared.cable.Cable.{Cable}
use Rattle.plan.specs.Tables.{closed_cables}
use Rattle.plan.specs.Tally.{laid}
use Rattle.plan.specs.declared.state.Plan.{Plan}
use Rattle.plan.specs.declared.state.Plan.TheVariants as plan
use Rattle.network.specs.declared.cable.TourCable.{TourCable}

module _ {X : Type 0} where
  abbrev pub home : Plan X → X
  home (plan.Open p) = p.house
  home (plan.Closed c) = c.house

  abbrev pub is_open : Plan X → Bool
  is_open (plan.Open p) = true
  is_open (plan.Closed c) = false

  abbrev pub tour_of : Plan X → List TourCable
  tour_of (plan.Open p) = laid p.tour
  tour_of (plan.Closed c) = laid c.tour

  abbrev pub stored : Plan X → List Cable
  stored (plan.Open p) = []
  stored (plan.Closed c) = closed_cables c
