use Rattle.std.proofs.Common.{◌≡◌, ◌+◌, List, [], ◌∷◌, ◌++◌, length, ap, ◌∙◌, ap₂, arith, length-append}
use Rattle.std.proofs.lemmas.List.FromFn.{length-map-range_with_len}
use Rattle.network.specs.declared.cable.Medium.TheVariants.{Copper}
use Rattle.houses.specs.Rings.{link, ring}
use Rattle.houses.specs.declared.ring.Ring.{Ring}
use Rattle.plan.specs.Tally.{laid, tour_cables, lay_after, lift_after}
use Rattle.network.specs.declared.cable.TourCable.{TourCable}
use Rattle.examples.proofs.lay_and_lift.Goals as goal

-- a ring's cables and so many of a tour
counted : (r s : Ring) (t u : List TourCable) → s ≡ r → t ≡ u → length (ring s.first s.count s.run ++ tour_cables t) ≡ r.count + length (tour_cables u)
counted r s t u e f =
    ap₂ (λ x y. length (ring x.first x.count x.run ++ tour_cables y)) e f
    ∙ length-append (ring r.first r.count r.run) (tour_cables u)
    ∙ ap (λ n. n + length (tour_cables u)) (length-map-range_with_len (link r.first r.count r.run) 0 r.count)

pub returns : goal.returns
returns c =
    let row : TourCable = record { tag = 7; cable = record { a = 0; b = 1; run = record { medium = Copper; length = 5 } } } in
    let home = c.lay.ensures.house ∙ c.begin-open.ensures.house in
    let tour : laid c.lay.new.self.tour ≡ row ∷ [] = c.lay.ensures.after ∙ ap (λ t. lay_after t 7 row.cable) c.begin-open.ensures.tour in
    let home_again = c.lift.ensures.house ∙ c.reopen-open.ensures.house ∙ c.close-closed.ensures.house ∙ home in
    let tour_again : laid c.lift.new.self.tour ≡ [] =
    c.lift.ensures.after ∙ ap (λ t. lift_after t 7) (c.reopen-open.ensures.tour ∙ c.close-closed.ensures.tour ∙ tour) in (
      c.count-with.ensures ∙ ap length c.close-closed.ensures.present ∙ counted c.args.ring c.lay.new.self.house (laid c.lay.new.self.tour) (row ∷ []) home tour,
      c.count-without.ensures ∙ ap length c.close-closed-2.ensures.present ∙ counted c.args.ring c.lift.new.self.house (laid c.lift.new.self.tour) [] home_again tour_again ∙ omega arith,
    )
