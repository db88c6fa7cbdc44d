-- A cable that breaks no rule is lawful. Assumes nothing.
use Rattle.std.proofs.Common.{◌≡◌, ℕ, Bool, true, false, not, ◌||◌, eqb, leb, Ok, Err, refl, arith, ltb-false, leb-true}
use borrow.Author.Tests.{eqb-false}
use Rattle.std.proofs.lemmas.Bool.{and_parts, or_parts}
use Rattle.network.specs.Cables.{above, reach, fit_run, LawfulCable}
use Rattle.network.specs.Refusals.{refuse, cable_check}
use Rattle.network.specs.declared.cable.Cable.{Cable}
use Rattle.network.specs.declared.refusal.Refusal.{Refusal}
use Rattle.network.specs.declared.refusal.Refusal.TheVariants.{DeviceOutOfRange, SameEnds, RunOutOfRange}

never : {A : Type 0} (u : Unit {0}) (e : Refusal) → Ok u ≡ Err e → A
never u e p = let z : ◌≡◌ {A = ℕ} 0 1 = cc in absurd (omega arith)

not_false : (x : Bool) → not x ≡ false → x ≡ true
not_false true e = refl
not_false false e = let z : ◌≡◌ {A = Bool} true false = e in absurd (let y : ◌≡◌ {A = ℕ} 0 1 = cc in omega arith)

pub checked_lawful : (c : Cable) (u : Unit {0}) → Ok u ≡ cable_check c → LawfulCable c
checked_lawful c u p = go (above c.a || above c.b) (eqb c.a c.b) (not (fit_run c.run)) refl refl refl p
  where
    go : (x y z : Bool) → (above c.a || above c.b) ≡ x → eqb c.a c.b ≡ y → not (fit_run c.run) ≡ z
        → Ok u ≡ refuse DeviceOutOfRange x (refuse SameEnds y (refuse RunOutOfRange z (Ok tt))) → LawfulCable c
    go true y z f g h p = never u DeviceOutOfRange p
    go false true z f g h p = never u SameEnds p
    go false false true f g h p = never u RunOutOfRange p
    go false false false f g h p =
        let devices = or_parts (above c.a) (above c.b) f in
        let run = and_parts (leb 1 c.run.length) (leb c.run.length (reach c.run.medium)) (not_false (fit_run c.run) h) in (
          omega (arith, ltb-false 127 c.a devices.0),
          omega (arith, ltb-false 127 c.b devices.1),
          eqb-false c.a c.b g,
          leb-true 1 c.run.length run.0,
          leb-true c.run.length (reach c.run.medium) run.1,
        )
