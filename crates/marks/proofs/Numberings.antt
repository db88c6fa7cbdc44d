-- There are never more parts than devices. Assumes nothing.
use Rattle.std.proofs.Common.{◌≡◌, ℕ, zero, suc, ◌<◌, ◌≤◌, Bool, cond, eqb, ◌⊎◌, sym, ap, ◌∙◌, inl, inr, ⊎_elim, arith}
use Rattle.std.proofs.lemmas.Bool.{eq-eqb, ne_eqb, cases_Bool, cases_lt, cases_eq, cond-true, cond-false}
use Rattle.network.specs.Sets.{Split}
use Rattle.network.proofs.Parts.{inside_says}
use Rattle.marks.specs.Shedding.{inside, Turn, Numbered}

-- the value m is changed to v
abbrev swap : (m v w : ℕ) → ℕ
swap m v w = cond (eqb w m) v w

swap_cases : (m v w : ℕ) → ((w ≡ m) × (swap m v w ≡ v)) ⊎ ((w ≡ m → ⊥) × (swap m v w ≡ w))
swap_cases m v w = ⊎_elim (λ e. inl (e, cond-true (eqb w m) v w (eq-eqb w m e))) (λ n. inr (n, cond-false (eqb w m) v w (ne_eqb w m n))) (cases_eq w m)

pigeon : (m n : ℕ) (f : ℕ → ℕ) → ((r : ℕ) → r < n → f r < m) → ((r s : ℕ) → r < n → s < n → f r ≡ f s → r ≡ s) → n ≤ m
pigeon m zero f low one = omega arith
pigeon zero (suc n) f low one = absurd (omega (arith, low zero (omega arith)))
pigeon (suc m) (suc n) f low one = omega (arith, pigeon m n g g_low g_one)
  where
    g : ℕ → ℕ
    g r = swap m (f n) (f r)

    last : (r : ℕ) → r < n → f r ≡ f n → ⊥
    last r h e = omega (arith, one r n (omega arith) (omega arith) e)

    g_low : (r : ℕ) → r < n → g r < m
    g_low r h = ⊎_elim
        (λ c. let d : f n ≡ m → ⊥ = λ e. last r h (c.0 ∙ sym e) in omega (arith, c.1, low n (omega arith), d))
        (λ c. let d : f r ≡ m → ⊥ = c.0 in omega (arith, c.1, low r (omega arith), d))
        (swap_cases m (f n) (f r))

    g_one : (r s : ℕ) → r < n → s < n → g r ≡ g s → r ≡ s
    g_one r s hr hs e = go (swap_cases m (f n) (f r)) (swap_cases m (f n) (f s))
      where
        go : ((f r ≡ m) × (g r ≡ f n)) ⊎ ((f r ≡ m → ⊥) × (g r ≡ f r)) → ((f s ≡ m) × (g s ≡ f n)) ⊎ ((f s ≡ m → ⊥) × (g s ≡ f s)) → r ≡ s
        go (inl c) (inl d) = one r s (omega arith) (omega arith) (c.0 ∙ sym d.0)
        go (inl c) (inr d) = absurd (last s hs (sym d.1 ∙ sym e ∙ c.1))
        go (inr c) (inl d) = absurd (last r hr (sym c.1 ∙ e ∙ d.1))
        go (inr c) (inr d) = one r s (omega arith) (omega arith) (sym c.1 ∙ e ∙ d.1)

pub numbered_few : (part : ℕ → ℕ) (n : ℕ) → Numbered part n → n ≤ 128
numbered_few part n num = pigeon 128 n device (λ r h. (device_in r h).0) (λ r s hr hs e. sym (device_in r hr).1 ∙ ap part e ∙ (device_in s hs).1)
  where
    device_by : (r : ℕ) → (r < n) ⊎ (n ≤ r) → ℕ
    device_by r (inl lt) = (num.used r lt).0
    device_by r (inr le) = 0

    device : ℕ → ℕ
    device r = device_by r (cases_lt r n)

    in_by : (r : ℕ) → r < n → (o : (r < n) ⊎ (n ≤ r)) → (device_by r o < 128) × (part (device_by r o) ≡ r)
    in_by r h (inl lt) = let u = num.used r lt in (u.1, u.2)
    in_by r h (inr le) = absurd (omega arith)

    device_in : (r : ℕ) → r < n → (device r < 128) × (part (device r) ≡ r)
    device_in r h = in_by r h (cases_lt r n)

pub numbered_none : (part : ℕ → ℕ) → ((d : ℕ) → d < 128 → part d ≡ 0) → Numbered part 1
numbered_none part one = record { low = λ d b. omega (arith, one d b); used = λ r h. (0, omega arith, one 0 (omega arith) ∙ omega arith) }

pub numbered_more : (part floor part' floor' : ℕ → ℕ) (p n m : ℕ) (side : ℕ → Bool) → Numbered part n → Split (inside part p) side
    → Turn part floor p n m side part' floor' → Numbered part' (suc n)
numbered_more part floor part' floor' p n m side num split turn = record { low = low; used = used }
  where
    l : (split.left < 128) × (part split.left ≡ p)
    l = inside_says part p split.left split.left_in

    r : (split.right < 128) × (part split.right ≡ p)
    r = inside_says part p split.right split.right_in

    p_low : p < n
    p_low = omega (arith, num.low split.left l.0, l.1)

    low : (d : ℕ) → d < 128 → part' d < suc n
    low d b = ⊎_elim
        (λ e. ⊎_elim (λ t. omega (arith, turn.gone d b e t)) (λ f. omega (arith, turn.left d b e f, p_low)) (cases_Bool (side d)))
        (λ ne. omega (arith, turn.same d b ne, num.low d b))
        (cases_eq (part d) p)

    used : (s : ℕ) → s < suc n → (d : ℕ) × (d < 128) × (part' d ≡ s)
    used s h = ⊎_elim
        (λ e. (split.right, r.0, turn.left split.right r.0 r.1 split.right_side ∙ sym e))
        (λ np. ⊎_elim
        (λ lt. let u = num.used s lt in (u.0, u.1, turn.same u.0 u.1 (λ f. np (sym u.2 ∙ f)) ∙ u.2))
        (λ le. let e : n ≡ s = omega arith in (split.left, l.0, turn.gone split.left l.0 l.1 split.left_side ∙ e))
        (cases_lt s n))
        (cases_eq s p)
