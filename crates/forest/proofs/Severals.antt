-- Sets of two devices or more, and whether they have one label. Assumes nothing.
use Rattle.std.proofs.Common.{◌≡◌, ◌≢◌, ℕ, ◌<◌, Bool, true, false, List, Option, Some, None, MatchOption, sym, ◌∙◌, ⊎_elim}
use Rattle.std.specs.Bool.{MatchBool, then_some}
use Rattle.std.proofs.lemmas.Bool.{both_ways, cases_eq}
use Rattle.network.specs.Sets.{DeviceSet}
use Rattle.cuts.specs.declared.devices.Devices.{Devices}
use Rattle.forest.specs.Labels.{OneLabel, Tells}
use Rattle.cuts.specs.Links.{label}
use Rattle.cuts.specs.Members.{set_of}
use Rattle.cuts.proofs.Membership.{held_low}

pub set_two : (s : Devices) (x y : ℕ) → set_of s x ≡ true → set_of s y ≡ true → (x ≡ y → ⊥) → DeviceSet (set_of s)
set_two s x y ix iy apart = record { below = held_low s; one = x; other = y; one_in = ix; other_in = iy; apart = apart }

pub set_none : (s : Devices) → ((d : ℕ) → d < 128 → set_of s d ≡ false) → DeviceSet (set_of s) → ⊥
set_none s off set = both_ways (set_of s set.one) (off set.one (set.below set.one set.one_in)) set.one_in

-- no other device than x
pub set_lone : (s : Devices) (x : ℕ) → ((d : ℕ) × (d < 128) × (set_of s d ≡ true) × (d ≡ x → ⊥) → ⊥) → DeviceSet (set_of s) → ⊥
set_lone s x lone set = ⊎_elim
    (λ e. ⊎_elim (λ q. set.apart (e ∙ sym q)) (λ n. other set.other set.other_in n) (cases_eq set.other x))
    (λ n. other set.one set.one_in n)
    (cases_eq set.one x)
  where
    other : (d : ℕ) → set_of s d ≡ true → (d ≡ x → ⊥) → ⊥
    other d i n = lone (d, set.below d i, i, n)

-- each has the label of x, one of them, or some has another
pub one_label_all : (s : Devices) (ls : List ℕ) (x : ℕ) → set_of s x ≡ true → (r : Bool)
    → MatchBool r ((d : ℕ) → d < 128 → set_of s d ≡ true → label ls d ≡ label ls x) ((d : ℕ) × (d < 128) × (set_of s d ≡ true) × (label ls d ≢ label ls x))
    → Tells r (OneLabel ls (set_of s))
one_label_all s ls x ix true same = λ y z iy iz. same y (held_low s y iy) iy ∙ sym (same z (held_low s z iz) iz)
one_label_all s ls x ix false (d, low, i, off) = λ one. off (one d x i ix)

-- a member is of a set of two or more where the test Q, whether there is another, passes
pub one_of_several : (s : Devices) (Q : ℕ → Bool → Type 0) → ((x : ℕ) (b : Bool) → Q x b → Tells b ((d : ℕ) × (d < 128) × (set_of s d ≡ true) × (d ≢ x)))
    → (r : Option ℕ) → MatchOption r ((d : ℕ) → d < 128 → set_of s d ≡ false) (λ d. (d < 128) × (set_of s d ≡ true) × ((e : ℕ) → e < d → set_of s e ≡ false))
    → (q : Option ℕ) → MatchOption r (q ≡ None) (λ x. (b : Bool) × Q x b × (q ≡ then_some b x))
    → MatchOption q (DeviceSet (set_of s) → ⊥) (λ d. DeviceSet (set_of s) × (set_of s d ≡ true))
one_of_several s Q told None none q is = rw is (set_none s none)
one_of_several s Q told (Some x) (low, ix, least) q (b, k, is) = rw is (kept b (told x b k))
  where
    kept : (b : Bool) → Tells b ((d : ℕ) × (d < 128) × (set_of s d ≡ true) × (d ≢ x)) → MatchOption (then_some b x) (DeviceSet (set_of s) → ⊥) (λ d. DeviceSet (set_of s) × (set_of s d ≡ true))
    kept true (d, dl, i, off) = (set_two s d x i ix off, ix)
    kept false lone = set_lone s x lone
