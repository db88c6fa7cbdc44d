-- The other side of a cut parts what the cut parts, so the side that faces the list serves to shed as the cut does. Assumes nothing.
use Rattle.std.proofs.Common.{◌≡◌, ℕ, ◌<◌, ◌≤◌, max, Bool, not, eqb, ◌⊎◌, List, sym, ap, ◌∙◌, inl, inr, arith}
use Rattle.std.proofs.Math.Bool.{not-not}
use Rattle.std.proofs.lemmas.Bool.{and_parts}
use Rattle.network.specs.Sets.{Split, crosses, crossings}
use Rattle.network.specs.Sheets.{inside}
use Rattle.network.specs.declared.cable.Cable.{Cable}
use Rattle.network.proofs.Counts.{count_le}
use Rattle.network.proofs.Sides.{crosses_belongs, crosses_parts, crosses_from, split_apart, split_differs}
use Rattle.network.proofs.Parts.{inside_says}
use Rattle.cuts.specs.Finding.{Finds}
use Rattle.cuts.specs.Members.{set_of}
use Rattle.cuts.specs.declared.devices.Devices.{Devices}
use Rattle.marks.specs.Shedding.{Shear}
use Rattle.marks.specs.State.{number}
use Rattle.marks.proofs.Turns.{found_inside, finds_shear}
use Rattle.cutsheets.specs.Listing.{Facing}

not_same : (x y : Bool) → not x ≡ not y → x ≡ y
not_same x y e = sym (not-not x) ∙ ap not e ∙ not-not y

module _ (cs : List Cable) (D side r : ℕ → Bool) (part : ℕ → ℕ) (p f m : ℕ) (face : Facing D side r) where
  -- two devices are apart by the one where they are by the other
  on_side : (x y : ℕ) → x < 128 → y < 128 → r x ≡ r y → side x ≡ side y
  on_side x y bx yb e = go face.is
    where
      go : ((d : ℕ) → d < 128 → r d ≡ side d) ⊎ ((d : ℕ) → d < 128 → r d ≡ not (side d)) → side x ≡ side y
      go (inl s) = sym (s x bx) ∙ e ∙ s y yb
      go (inr o) = not_same (side x) (side y) (sym (o x bx) ∙ e ∙ o y yb)

  on_facing : (x y : ℕ) → x < 128 → y < 128 → side x ≡ side y → r x ≡ r y
  on_facing x y bx yb e = go face.is
    where
      go : ((d : ℕ) → d < 128 → r d ≡ side d) ⊎ ((d : ℕ) → d < 128 → r d ≡ not (side d)) → r x ≡ r y
      go (inl s) = s x bx ∙ e ∙ sym (s y yb)
      go (inr o) = o x bx ∙ ap not e ∙ sym (o y yb)

  facing_split : Split (inside part p) side → Split (inside part p) r
  facing_split s = split_apart (inside part p) r s.left s.right s.left_in s.right_in
      (λ e. split_differs (inside part p) side s
      (on_side s.left s.right (inside_says part p s.left s.left_in).0 (inside_says part p s.right s.right_in).0 e))

  facing_few : crossings cs (inside part p) r ≤ crossings cs (inside part p) side
  facing_few = count_le (crosses (inside part p) r) (crosses (inside part p) side) cs (λ i c st e.
      let b = crosses_belongs (inside part p) r c e in
      let in_p = and_parts (inside part p c.a) (inside part p c.b) b in
      crosses_from (inside part p) side c b (λ s. crosses_parts (inside part p) r c e
      (on_facing c.a c.b (inside_says part p c.a in_p.0).0 (inside_says part p c.b in_p.1).0 s)))

  pub facing_shear : Shear cs (inside part p) f m side → Shear cs (inside part p) f m r
  facing_shear s = record { split = facing_split s.split; few = omega (arith, facing_few, s.few); above = s.above; tied = s.tied }

-- what a finder finds of the devices of part p, turned to face the list
pub facing_cut : (cs : List Cable) (D side r : ℕ → Bool) (part : List ℕ) (p f k m : ℕ) (all : Devices) → ((d : ℕ) → d < 128 → set_of all d ≡ eqb (number part d) p)
    → Finds cs (set_of all) f k side → m ≡ max f k → Facing D side r → Shear cs (inside (number part) p) f m r
facing_cut cs D side r part p f k m all is found greater face =
    facing_shear cs D side r (number part) p f m face (finds_shear cs (inside (number part) p) f k m side greater (found_inside cs part p f k all side is found))
