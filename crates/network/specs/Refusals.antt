-- Refusals, their numbers, and how a call is refused. Assumes nothing.
--   number_of r          the number by which a refusal is known
--   refuse r broken x    the refusal r where the rule is broken, else x; nested, the first broken rule is the answer
--   cable_check c        the first rule that a cable breaks
use Rattle.std.specs.Prelude.{ℕ, Bool, cond, not, ◌||◌, Ok, Err, Result, ◌==◌}
use Rattle.network.specs.Cables.{above, fit_run}
use Rattle.network.specs.declared.cable.Cable.{Cable}
use Rattle.network.specs.declared.refusal.Refusal.{Refusal}
use Rattle.network.specs.declared.refusal.Refusal.TheVariants.{DeviceOutOfRange, SameEnds, RunOutOfRange, TagTaken, TourFull, TagMissing, ListEmpty, ListTooLong, BufferTooShort, TooFewDevices, UnknownKind, BodyCutShort, TooManyCables, BadChainOrStar, RingCount, BadCutSheet, PartLeadsOut, PartHoldsList}

abbrev pub number_of : Refusal → ℕ
number_of DeviceOutOfRange = 1
number_of SameEnds = 2
number_of RunOutOfRange = 3
number_of TagTaken = 4
number_of TourFull = 5
number_of TagMissing = 6
number_of ListEmpty = 7
number_of ListTooLong = 8
number_of BufferTooShort = 9
number_of TooFewDevices = 10
number_of UnknownKind = 11
number_of BodyCutShort = 12
number_of TooManyCables = 13
number_of BadChainOrStar = 14
number_of RingCount = 15
number_of BadCutSheet = 16
number_of PartLeadsOut = 17
number_of PartHoldsList = 18

abbrev pub refuse : {A : Type 0} → Refusal → Bool → Result A Refusal → Result A Refusal
refuse r broken x = cond broken (Err r) x

abbrev pub cable_check : Cable → Result (Unit {0}) Refusal
cable_check c =
    refuse DeviceOutOfRange (above c.a || above c.b) (
    refuse SameEnds (c.a == c.b) (
    refuse RunOutOfRange (not (fit_run c.run)) (
    Ok tt)))
