-- Every set of numbers below n stands in the list of them, and the list has no others. Assumes nothing.
use Rattle.std.proofs.Common.{◌≡◌, ℕ, zero, suc, ◌<◌, Bool, true, false, not, ◌&&◌, eqb, map, sym, ap, ◌∙◌, ⊎_elim, arith}
use mathlib.Core.Path.{fun_ext}
use mathlib.Core.List.Memᴰ
use mathlib.Core.List.{Memᴰ}
use Rattle.std.proofs.lemmas.Bool.{false≢true, both_ways, not-true, not_from_false, eqb-true, eqb-false, and_parts, and_from, or_cases, or_left, or_right, cases_Bool, cases_eq}
use Rattle.network.specs.Figures.{with_number, every}
use Rattle.network.proofs.Sides.{same_test}

-- the set without n
abbrev others : ℕ → (ℕ → Bool) → ℕ → Bool
others n S d = S d && not (eqb d n)

others_low : (n : ℕ) (S : ℕ → Bool) → ((d : ℕ) → S d ≡ true → d < suc n) → (d : ℕ) → others n S d ≡ true → d < n
others_low n S low d i =
    let r = and_parts (S d) (not (eqb d n)) i in
    let apart : d ≡ n → ⊥ = eqb-false d n (not-true (eqb d n) r.1) in
    omega (arith, low d r.0)

others_whole : (n : ℕ) (S : ℕ → Bool) → S n ≡ true → S ≡ with_number n (others n S)
others_whole n S i = fun_ext (λ d. same_test (S d) (with_number n (others n S) d) (given d) (back d))
  where
    given : (d : ℕ) → S d ≡ true → with_number n (others n S) d ≡ true
    given d j = ⊎_elim
        (λ (e : eqb d n ≡ true). or_left (eqb d n) (others n S d) e)
        (λ (f : eqb d n ≡ false). or_right (eqb d n) (others n S d) (and_from (S d) (not (eqb d n)) j (not_from_false (eqb d n) f)))
        (cases_Bool (eqb d n))

    back : (d : ℕ) → with_number n (others n S) d ≡ true → S d ≡ true
    back d j = ⊎_elim
        (λ (e : eqb d n ≡ true). ap S (eqb-true d n e) ∙ i)
        (λ (o : others n S d ≡ true). (and_parts (S d) (not (eqb d n)) o).0)
        (or_cases (eqb d n) (others n S d) j)

-- a set of numbers below n + 1 that lacks n
lacking_low : (n : ℕ) (S : ℕ → Bool) → ((d : ℕ) → S d ≡ true → d < suc n) → S n ≡ false → (d : ℕ) → S d ≡ true → d < n
lacking_low n S low o d i = ⊎_elim
    (λ (e : d ≡ n). absurd (both_ways (S n) o (ap S (sym e) ∙ i)))
    (λ (ne : d ≡ n → ⊥). omega (arith, low d i))
    (cases_eq d n)

-- a set of numbers below n is one of every n
pub set_stands : (n : ℕ) (S : ℕ → Bool) → ((d : ℕ) → S d ≡ true → d < n) → Memᴰ S (every n)
unfolding every
set_stands zero S low = Memᴰ.head (fun_ext (λ d. same_test (S d) false (λ i. absurd (omega (arith, low d i))) (λ f. absurd (false≢true f))))
set_stands (suc n) S low = ⊎_elim
    (λ (i : S n ≡ true). Memᴰ.append_right (every n) (Memᴰ.cast (others_whole n S i) (Memᴰ.map (with_number n) (set_stands n (others n S) (others_low n S low)))))
    (λ (o : S n ≡ false). Memᴰ.append_left (map (with_number n) (every n)) (set_stands n S (lacking_low n S low o)))
    (cases_Bool (S n))

-- and every n has no others
pub set_low : (n : ℕ) (S : ℕ → Bool) → Memᴰ S (every n) → (d : ℕ) → S d ≡ true → d < n
unfolding every
set_low zero S m d i = absurd (false≢true (ap (λ (T : ℕ → Bool). T d) (sym (Memᴰ.eq_of_singleton m)) ∙ i))
set_low (suc n) S m d i = ⊎_elim
    (λ (l : Memᴰ S (every n)). omega (arith, set_low n S l d i))
    (λ (r : Memᴰ S (map (with_number n) (every n))).
    let t = Memᴰ.of_map (with_number n) (every n) r in
    ⊎_elim
    (λ (e : eqb d n ≡ true). omega (arith, eqb-true d n e))
    (λ (j : t.0 d ≡ true). omega (arith, set_low n t.0 t.1 d j))
    (or_cases (eqb d n) (t.0 d) (ap (λ (T : ℕ → Bool). T d) t.2 ∙ i)))
    (Memᴰ.append_cases (every n) m)
