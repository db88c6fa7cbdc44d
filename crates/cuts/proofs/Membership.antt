-- What flags say of a set: no number past them is in it, and what holds of each flag holds of each number.
use Rattle.std.proofs.Common.{◌≡◌, ℕ, ◌<◌, ◌≤◌, Bool, true, false, not, ◌&&◌, eqb, ltb, List, length, get_or, replicate, sym, refl, ap, ◌∙◌, ⊎_elim, arith}
use Rattle.std.proofs.lemmas.List.{get_or_past, get_or-replicate}
use Rattle.std.proofs.lemmas.Bool.{cases_lt, true≢false, lt-ltb, le-ltb, ne_eqb}
use Rattle.cuts.specs.declared.devices.Devices.{Devices}
use Rattle.cuts.specs.Members.{set_of}

pub held_none : (d : ℕ) → get_or (replicate 128 false) d false ≡ false
held_none d = ⊎_elim (λ h. get_or-replicate 128 d false false h) (λ h. get_or_past (replicate 128 false) d false h) (cases_lt d 128)

pub held_all : (d : ℕ) → get_or (replicate 128 true) d false ≡ ltb d 128
held_all d = ⊎_elim
    (λ h. get_or-replicate 128 d true false h ∙ sym (lt-ltb d 128 h))
    (λ h. get_or_past (replicate 128 true) d false h ∙ sym (le-ltb d 128 h))
    (cases_lt d 128)

-- no number above 127 is in a set
pub held_past : (s : Devices) (d : ℕ) → 128 ≤ d → set_of s d ≡ false
held_past s d h = get_or_past s.flags d false (omega (arith, s.size))

pub held_low : (s : Devices) (d : ℕ) → set_of s d ≡ true → d < 128
held_low s d t = ⊎_elim (λ h. h) (λ h. absurd (true≢false (sym t ∙ held_past s d h))) (cases_lt d 128)

pub held_same : (f : ℕ → Bool) (xs : List Bool) → length xs ≡ 128
    → ((d : ℕ) → d < 128 → get_or xs d false ≡ f d)
    → ((d : ℕ) → 128 ≤ d → f d ≡ false)
    → (d : ℕ) → get_or xs d false ≡ f d
held_same f xs long low past d = ⊎_elim (low d) (λ h. get_or_past xs d false (omega arith) ∙ sym (past d h)) (cases_lt d 128)

-- a number that is not in the set is not taken out of it
pub held_kept : (x : Bool) (d e : ℕ) → (d ≡ e → x ≡ false) → x ≡ (x && not (eqb d e))
held_kept true d e h = sym (ap not (ne_eqb d e (λ q. true≢false (h q))))
held_kept false d e h = refl
