-- The devices of a part, as a set. Assumes nothing.
use Rattle.std.proofs.Common.{◌≡◌, ℕ, ◌<◌, Bool, true, eqb, ltb, ap}
use Rattle.std.proofs.lemmas.Bool.{and_parts, and_from, eqb-true, eq-eqb, ltb-true, lt-ltb}
use Rattle.network.specs.Sets.{DeviceSet, Split}
use Rattle.network.specs.Sheets.{inside}
use Rattle.network.proofs.Sides.{split_differs}

pub inside_says : (part : ℕ → ℕ) (p d : ℕ) → inside part p d ≡ true → (d < 128) × (part d ≡ p)
inside_says part p d e =
    let r = and_parts (ltb d 128) (eqb (part d) p) e in
    (ltb-true d 128 r.0, eqb-true (part d) p r.1)

pub inside_from : (part : ℕ → ℕ) (p d : ℕ) → d < 128 → part d ≡ p → inside part p d ≡ true
inside_from part p d b e = and_from (ltb d 128) (eqb (part d) p) (lt-ltb d 128 b) (eq-eqb (part d) p e)

pub inside_devices : (part : ℕ → ℕ) (p : ℕ) (side : ℕ → Bool) → Split (inside part p) side → DeviceSet (inside part p)
inside_devices part p side s = record {
  below = λ d i. (inside_says part p d i).0;
  one = s.left;
  other = s.right;
  one_in = s.left_in;
  other_in = s.right_in;
  apart = λ e. split_differs (inside part p) side s (ap side e);
}
