-- A set of devices as bytes: written, counted, and read again. Assumes nothing.
use Rattle.std.proofs.Common.{◌≡◌, ℕ, zero, suc, ◌<◌, ◌≤◌, Bool, true, false, cond, ◌&&◌, eqb, List, length, get_or, take, drop, count_by, sym, refl, ap, ◌∙◌, ⊎_elim, add-one, arith}
use mathlib.Core.Path.{fun_ext}
use Rattle.std.proofs.lemmas.List.{take_all, get_or-take}
use Rattle.std.proofs.lemmas.List.Sums.{count_by_more_yes, count_by_more_no}
use Rattle.std.proofs.lemmas.Bool.{cases_Bool, cases_lt, lt-ltb, le-ltb}
use Rattle.network.specs.Figures.{numbers}
use Rattle.network.proofs.Counts.{count_cons}
use Rattle.cuts.specs.Members.{set_of}
use Rattle.cuts.specs.declared.devices.Devices.{Devices}
use Rattle.cuts.proofs.Membership.{held_past}
use Rattle.plan.specs.Bytes.{Written}
use Rattle.plan.specs.Questions.{marks, size}

-- the first 128 bytes, each from the set
pub set_written : (S : ℕ → Bool) (bs bs' bytes : List ℕ) → length bs' ≡ length bs → take 128 bs' ≡ bytes → drop 128 bs' ≡ drop 128 bs
    → ((d : ℕ) → d < 128 → get_or bytes d 0 ≡ cond (S d) 1 0) → Written S 128 bs bs'
set_written S bs bs' bytes long first later each = record {
  long = long;
  later = later;
  bytes = λ d h. sym (get_or-take 128 bs' d 0 h) ∙ ap (λ xs. get_or xs d 0) first ∙ each d h;
}

-- the flags that are set are the devices of the set
flags_count : (s : Devices) (n : ℕ) → n ≤ 128 → count_by (λ b. b) (take n s.flags) ≡ count_by (set_of s) (numbers n)
unfolding numbers
flags_count s zero h = refl
flags_count s (suc n) h =
    let f : Bool → Bool = λ b. b in
    let low : n < length s.flags = omega (arith, s.size) in
    let more = count_cons (set_of s) n (numbers n) in
    let one = ap (λ m. count_by f (take m s.flags)) (add-one n) in
    ⊎_elim
    (λ e. omega (arith, one, more, ap {B = ℕ} (λ b. cond b 1 0) e, count_by_more_yes f s.flags n false low e, flags_count s n (omega arith)))
    (λ e. omega (arith, one, more, ap {B = ℕ} (λ b. cond b 1 0) e, count_by_more_no f s.flags n false low e, flags_count s n (omega arith)))
    (cases_Bool (set_of s n))

pub flags_size : (s : Devices) → count_by (λ b. b) s.flags ≡ size (set_of s)
flags_size s = sym (ap (count_by (λ b. b)) (take_all 128 s.flags (omega (arith, s.size)))) ∙ flags_count s 128 (omega arith)

-- what was written marks the set
pub marks_written : (s : Devices) (bs bs' : List ℕ) → Written (set_of s) 128 bs bs' → marks bs' ≡ set_of s
marks_written s bs bs' w = fun_ext (λ d. ⊎_elim (low d) (high d) (cases_lt d 128))
  where
    one : (t : Bool) → eqb (cond t 1 0) 1 ≡ t
    one true = refl
    one false = refl

    low : (d : ℕ) → d < 128 → marks bs' d ≡ set_of s d
    low d h = ap (λ t. t && eqb (get_or bs' d 0) 1) (lt-ltb d 128 h) ∙ ap (λ x. eqb x 1) (w.bytes d h) ∙ one (set_of s d)

    high : (d : ℕ) → 128 ≤ d → marks bs' d ≡ set_of s d
    high d h = ap (λ t. t && eqb (get_or bs' d 0) 1) (le-ltb d 128 h) ∙ sym (held_past s d h)
