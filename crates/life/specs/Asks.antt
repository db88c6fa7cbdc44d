-- What a plan is asked over its life: a call, with its arguments alone. Assumes nothing.
--   lay tag a b run, lift tag, close   what an open plan takes
--   reopen                             a closed plan is opened again
--   strength l, group l b              the questions of a list of devices; the group is written into a buffer that holds b
--   run l y                            the run of a list under the yardstick y
--   elsewhere l                        the run of a list under a yardstick of any other type
--   allowed o q                        whether a plan that is open (o), or closed, takes the ask q
--   open_after o q                     whether the plan is open after it: a close shuts it and a reopen opens it
--   tally_after o t q                  the tally after it, where it was t: a lay and a lift on an open plan change it, unless they are refused
use Rattle.std.specs.Prelude.{ℕ, Bool, true, false, not, List}
use Rattle.network.specs.declared.cable.Run.{Run}
use Rattle.plan.specs.States.{cable_of}
use Rattle.plan.specs.Tally.{lay_after, lift_after}
use Rattle.network.specs.declared.cable.TourCable.{TourCable}

pub data Ask (Y : Type 0) : Type 0 where
  lay : (tag a b : ℕ) → Run → Ask Y
  lift : ℕ → Ask Y
  close reopen : Ask Y
  strength : List ℕ → Ask Y
  group : List ℕ → List ℕ → Ask Y
  run : List ℕ → Y → Ask Y
  elsewhere : List ℕ → Ask Y

module _ {Y : Type 0} where
  abbrev pub allowed : Bool → Ask Y → Bool
  allowed o (lay tag a b m) = o
  allowed o (lift tag) = o
  allowed o close = o
  allowed o reopen = not o
  allowed o (strength l) = not o
  allowed o (group l b) = not o
  allowed o (run l y) = not o
  allowed o (elsewhere l) = not o

  abbrev pub open_after : Bool → Ask Y → Bool
  open_after o (lay tag a b m) = o
  open_after o (lift tag) = o
  open_after o close = false
  open_after o reopen = true
  open_after o (strength l) = o
  open_after o (group l b) = o
  open_after o (run l y) = o
  open_after o (elsewhere l) = o

  abbrev pub tally_after : Bool → List TourCable → Ask Y → List TourCable
  tally_after true t (lay tag a b m) = lay_after t tag (cable_of a b m)
  tally_after false t (lay tag a b m) = t
  tally_after true t (lift tag) = lift_after t tag
  tally_after false t (lift tag) = t
  tally_after o t close = t
  tally_after o t reopen = t
  tally_after o t (strength l) = t
  tally_after o t (group l b) = t
  tally_after o t (run l y) = t
  tally_after o t (elsewhere l) = t
