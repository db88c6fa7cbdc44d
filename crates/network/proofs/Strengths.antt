-- Ties and weak splits compared; a list has one strength and one group. Assumes nothing.
use Rattle.std.proofs.Common.{ℕ, ◌<◌, ◌≤◌, Bool, ltb, List, ⊎_elim, arith}
use Rattle.std.proofs.lemmas.Bool.{ltb-true, lt-ltb, cases_lt}
use Rattle.network.specs.Sets.{DeviceSet, WeakSplit, Tied, Strength}
use Rattle.network.specs.Lists.{Contains, Attains, ListStrength}
use Rattle.network.specs.Marks.{OfDevices, Around}
use Rattle.network.specs.Laws.{OneStrength, NoneStronger, OneGroup}
use Rattle.network.specs.declared.cable.Cable.{Cable}
use Rattle.network.proofs.Sides.{same_test}

module _ (cs : List Cable) (S : ℕ → Bool) (j k : ℕ) where
  pub weak_more : j ≤ k → WeakSplit cs S j → WeakSplit cs S k
  weak_more h w = record { side = w.side; split = w.split; few = omega (arith, w.few) }

  pub tied_less : j ≤ k → Tied cs S k → Tied cs S j
  tied_less h t side split = omega (arith, t side split)

  pub tied_weak : Tied cs S j → WeakSplit cs S k → j ≤ k
  tied_weak t w = omega (arith, t w.side w.split, w.few)

-- a weak split no larger than the tie attains it
pub exact : (cs : List Cable) (S : ℕ → Bool) (k : ℕ) → Tied cs S k → WeakSplit cs S k → Strength cs S k
exact cs S k t w = record { tied = t; side = w.side; split = w.split; attained = omega (arith, w.few, t w.side w.split) }

-- a set that contains the list is tied by no more than the list's strength
pub list_at_least : (cs : List Cable) (l : List ℕ) (j k : ℕ) → ListStrength cs l k → (S : ℕ → Bool) → DeviceSet S → Contains S l → Tied cs S j → j ≤ k
list_at_least cs l j k s S set has t = tied_weak cs S j k t (s.bound S set has)

pub none_stronger : NoneStronger
none_stronger cs l k s S j set has strong = list_at_least cs l j k s S set has strong.tied

attained_below : (cs : List Cable) (l : List ℕ) (j k : ℕ) → ListStrength cs l j → ListStrength cs l k → k ≤ j
attained_below cs l j k s t =
    let a = t.attained in
    none_stronger cs l j s a.set k a.devices a.has a.strong

pub one_strength : OneStrength
one_strength cs l j k s t = omega (arith, attained_below cs l j k s t, attained_below cs l k j t s)

pub one_group : OneGroup
one_group cs l k G H g h d = same_test (G d) (H d)
    (λ i. h.most G g.devices g.has g.strong d i)
    (λ i. g.most H h.devices h.has h.strong d i)

-- all devices as a set
abbrev pub everything : ℕ → Bool
everything d = ltb d 128

pub everything_devices : DeviceSet everything
everything_devices = record {
  below = λ d i. ltb-true d 128 i;
  one = 0;
  other = 1;
  one_in = lt-ltb 0 128 (omega arith);
  other_in = lt-ltb 1 128 (omega arith);
  apart = λ e. omega arith;
}

-- a bound, and a set that it ties where it is above 0, are the strength: all devices attain a bound of 0
pub list_strength : (cs : List Cable) (l : List ℕ) (k : ℕ) → OfDevices l
    → ((S : ℕ → Bool) → DeviceSet S → Contains S l → WeakSplit cs S k) → (0 < k → Around cs l k) → ListStrength cs l k
list_strength cs l k low bound around = record { attained = ⊎_elim some none (cases_lt 0 k); bound = bound }
  where
    some : 0 < k → Attains cs l k
    some pos =
        let g = around pos in
        record { set = g.set; devices = g.devices; has = g.has; strong = exact cs g.set k g.tied (bound g.set g.devices g.has) }

    none : k ≤ 0 → Attains cs l k
    none le =
        let has : Contains everything l = λ d m. lt-ltb d 128 (low d m) in
        record { set = everything; devices = everything_devices; has = has; strong = exact cs everything k (λ side split. omega arith) (bound everything everything_devices has) }
