-- What each call that changes a plan's state does, whatever house it stands on. Assumes nothing.
--   Begins h p            p is a newly begun open plan over the house h
--   Lays p tag a b run r q   a lay on p answers r and leaves q, as the tally has it, with the same house
--   Lifts p tag r q       so does a lift
--   Closes cables p c     c is the closed plan of p: the same house and tour; it stores the cables present, the house's by place
--                         and then the tour's, and the mark of each is the strength of the list of its two ends over them
--   Reopens c p           p is the open plan of c: the same house and tour
use Rattle.std.specs.Prelude.{◌≡◌, ℕ, List, [], ◌++◌, Some, Result}
use Rattle.network.specs.declared.cable.Cable.{Cable}
use Rattle.network.specs.declared.cable.Run.{Run}
use Rattle.network.specs.declared.refusal.Refusal.{Refusal}
use Rattle.std.specs.List.{slice_get}
use Rattle.network.specs.Lists.{Mark}
use Rattle.network.specs.declared.cable.MarkedCable.{MarkedCable}
use Rattle.plan.specs.Tables.{rows_of, closed_cables}
use Rattle.plan.specs.Tally.{laid, tour_cables, lay_answer, lay_after, lift_answer, lift_after}
use Rattle.plan.specs.declared.plan.Open.{Open}
use Rattle.plan.specs.declared.plan.Closed.{Closed}

abbrev pub cable_of : (a b : ℕ) → Run → Cable
cable_of a b run = record { a = a; b = b; run = run }

module _ {X : Type 0} where
  pub record Begins (h : X) (p : Open X) : Type 0 where
    pub house : p.house ≡ h
    pub tour : laid p.tour ≡ []

  pub record Lays (p : Open X) (tag a b : ℕ) (run : Run) (r : Result ℕ Refusal) (q : Open X) : Type 0 where
    pub house : q.house ≡ p.house
    pub answer : r ≡ lay_answer (laid p.tour) tag (cable_of a b run)
    pub after : laid q.tour ≡ lay_after (laid p.tour) tag (cable_of a b run)

  pub record Lifts (p : Open X) (tag : ℕ) (r : Result ℕ Refusal) (q : Open X) : Type 0 where
    pub house : q.house ≡ p.house
    pub answer : r ≡ lift_answer (laid p.tour) tag
    pub after : laid q.tour ≡ lift_after (laid p.tour) tag

  pub record Closes (cables : X → List Cable) (p : Open X) (c : Closed X) : Type 0 where
    pub house : c.house ≡ p.house
    pub tour : laid c.tour ≡ laid p.tour
    pub present : closed_cables c ≡ cables p.house ++ tour_cables (laid p.tour)
    pub marks : (i : ℕ) (r : MarkedCable) → slice_get (rows_of c.table) i ≡ Some r → Mark (cables p.house ++ tour_cables (laid p.tour)) r.cable r.mark

  pub record Reopens (c : Closed X) (p : Open X) : Type 0 where
    pub house : p.house ≡ c.house
    pub tour : laid p.tour ≡ laid c.tour
