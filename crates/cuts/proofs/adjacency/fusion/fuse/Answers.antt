use Rattle.std.proofs.Common.{◌≤◌, ◌++◌, ◌-◌, ◌∷◌, [], List, length, set, sym, ap, ap₂, ◌∙◌, ⊎_elim, arith}
use Rattle.std.proofs.lemmas.Bool.{eqb-true, eqb-false, cases_lt}
use Rattle.std.proofs.lemmas.List.{length-map}
use Rattle.cuts.specs.declared.adjacency.order.Place.{Place}
use Rattle.cuts.proofs.Phases.{placed_at}
use Rattle.cuts.proofs.Fusing.{upon_new, upon_same, upon_all, upon_at, place_low, label_at, weight_at}
use Rattle.cuts.proofs.adjacency.fusion.fuse.Goals as goal
use Rattle.cuts.proofs.adjacency.fusion.fuse.Goals.{then-is_empty, then-is_empty-via-then-is_empty, then-is_empty-via-else-is_empty+then-place-phase, else-is_empty+else-place-phase}

pub loop-place-preserved : goal.loop-place-preserved
loop-place-preserved c =
    let i = c.loop-place.place-index in
    let low = place_low _ _ _ _ _ i c.as_slice-place-items.ensures.value c.loop-place-test.true c.requires in
    let same = label_at _ _ i (record { label = 0; weight = 0 }) c.as_slice-place-items.ensures.value c.loop-place-test.true in
    let weight = weight_at _ _ i (record { label = 0; weight = 0 }) c.as_slice-place-items.ensures.value c.loop-place-test.true in
    elim c.if-is_empty.branch [
      | then-is_empty w ↦ upon_at _ _ _ _ _ _ _ _ _ _ _
          (ap₂ (λ x k. set c.loop-place.into x k) same (omega (arith, c.len.ensures.value, w.push.ensures.len, ap (λ v. length v.items) w.firsts-is)))
          (ap (λ v. v.items) w.firsts-is ∙ (w.push.ensures.items ∙ ap (λ x. c.loop-place.firsts.items ++ x ∷ []) same))
          (upon_new _ _ _ _ _ _ c.requires _ _ i _ low c.loop-place.invariant (λ begun. elim w.then-is_empty.branch [
            | then-is_empty-via-then-is_empty u ↦ absurd (omega (arith, c.loop-place.invariant.some begun, eqb-true _ 0 (sym c.is_empty.ensures ∙ u.if-is_empty.true)))
            | then-is_empty-via-else-is_empty+then-place-phase u ↦ omega (arith, weight, u.if-place-phase.true)
          ]))
      | else-is_empty+else-place-phase w ↦
          let some : 1 ≤ i = ⊎_elim (λ h. h) (λ h. absurd (eqb-false _ 0 (sym c.is_empty.ensures ∙ w.if-is_empty.false) (omega (arith, c.loop-place.invariant.few)))) (cases_lt 0 i) in
          upon_at _ _ _ _ _ _ _ _ _ _ _ (ap (λ x. set c.loop-place.into x (c.len.result - 1)) same) (ap (λ v. v.items) w.firsts-is)
          (upon_same _ _ _ _ _ _ c.requires _ _ i _ (c.len.result - 1) low some c.loop-place.invariant (omega (arith, weight, w.if-place-phase.false))
          (omega (arith, c.len.ensures.value, ap (λ v. length v.items) w.firsts-is, c.loop-place.invariant.some some)))
    ]

pub bounds-into-place : goal.bounds-into-place
bounds-into-place c =
    omega (arith, label_at _ _ c.loop-place.place-index (record { label = 0; weight = 0 }) c.as_slice-place-items.ensures.value c.loop-place-test.true, (placed_at _ _ _ _ _ c.requires c.loop-place.place-index (place_low _ _ _ _ _ c.loop-place.place-index c.as_slice-place-items.ensures.value c.loop-place-test.true c.requires)).0, c.requires.fits)

pub returns : goal.returns
returns c = upon_all _ _ _ _ _ _ c.requires _ _ c.loop-place.place-index _ c.args.phase.now.two
    (omega (arith, c.loop-place-test.false, c.loop-place.auto.place-index-end, ap (λ (ps : List Place). length ps) c.as_slice-place-items.ensures.value, length-map c.args.order.now.items (λ p. p.label), c.requires.long_places)) c.loop-place.invariant
