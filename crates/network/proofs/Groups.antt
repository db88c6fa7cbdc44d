-- The group of a list: what cables of its strength or more link to it, and all devices where the strength is 0. Assumes nothing.
use Rattle.std.proofs.Common.{◌≡◌, ℕ, ◌<◌, Bool, true, ◌↔◌, List, arith}
use Rattle.std.proofs.lemmas.Bool.{lt-ltb}
use Rattle.network.specs.Sets.{DeviceSet, Split, Tied}
use Rattle.network.specs.Lists.{member, Contains, ListStrength, Group}
use Rattle.network.specs.Chains.{Linked}
use Rattle.network.specs.Marks.{OfDevices, Marks, Strong, Chain}
use Rattle.network.specs.declared.cable.Cable.{Cable}
use Rattle.network.proofs.Sides.{crossings_wider}
use Rattle.network.proofs.Strengths.{exact, everything, everything_devices}
use Rattle.network.proofs.Chainings.{chain_linked, chain_on, chain_join, chain_flip}
use Rattle.network.proofs.MarkChains.{Together, from_in, to_in, chain_together, set_chained, strength_chained}

pub group_apart : (cs : List Cable) (l : List ℕ) → OfDevices l → ListStrength cs l 0 → Group cs l 0 everything
group_apart cs l low s = record {
  devices = everything_devices;
  has = has;
  strong = exact cs everything 0 (λ side split. omega arith) (s.bound everything everything_devices has);
  most = λ S set h strong d i. lt-ltb d 128 (set.below d i);
}
  where
    has : Contains everything l
    has d m = lt-ltb d 128 (low d m)

pub group_chained : (cs : List Cable) (mark : ℕ → ℕ) → Marks cs mark → (l : List ℕ) (x : ℕ) → member l x ≡ true → (k : ℕ) → 0 < k → ListStrength cs l k
    → (G : ℕ → Bool) → ((d : ℕ) → (G d ≡ true) ↔ Linked (Strong cs mark k) x d) → Group cs l k G
group_chained cs mark ms l x i k pos s G is = record {
  devices = devices;
  has = has;
  strong = exact cs G k tied (s.bound G devices has);
  most = λ S set h strong d j. chain_in d (set_chained cs mark ms k pos S set strong.tied x d (h x i) j);
}
  where
    P : Cable → Type 0
    P = Strong cs mark k

    chain_in : (d : ℕ) → Chain P x d → G d ≡ true
    chain_in d ch = (is d).1 (chain_linked P x d ch)

    round : Chain P x x
    round = strength_chained cs mark ms l k s pos x x i i

    chain : (d : ℕ) → G d ≡ true → Chain P x d
    chain d g = chain_on P x x d round ((is d).0 g)

    -- a tied set that meets G lies in it
    within : (u v : ℕ) → G u ≡ true → (h : Together cs k u v) → (d : ℕ) → h.set d ≡ true → G d ≡ true
    within u v g h d j = chain_in d (chain_join P x u d (chain u g) (set_chained cs mark ms k pos h.set h.devices h.tied u d (from_in h) j))

    at_x : Together cs k x x
    at_x = chain_together cs mark ms k pos x x round

    devices : DeviceSet G
    devices = record {
      below = λ d g. let h = chain_together cs mark ms k pos x d (chain d g) in h.devices.below d (to_in h);
      one = at_x.devices.one;
      other = at_x.devices.other;
      one_in = within x x (chain_in x round) at_x at_x.devices.one at_x.devices.one_in;
      other_in = within x x (chain_in x round) at_x at_x.devices.other at_x.devices.other_in;
      apart = at_x.devices.apart;
    }

    has : Contains G l
    has d m = chain_in d (strength_chained cs mark ms l k s pos x d i m)

    tied : Tied cs G k
    tied side split =
        let u = split.left in
        let v = split.right in
        let h : Together cs k u v = chain_together cs mark ms k pos u v (chain_join P u x v (chain_flip P x u (chain u split.left_in)) (chain v split.right_in)) in
        let part : Split h.set side = record { left = u; right = v; left_in = from_in h; right_in = to_in h; left_side = split.left_side; right_side = split.right_side } in
        omega (arith, h.tied side part, crossings_wider cs h.set G side (within u v split.left_in h))
