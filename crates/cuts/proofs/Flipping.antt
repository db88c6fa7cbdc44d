-- Where half of the links of a label go to another, no lesser split is lost when the two become one.
use Rattle.std.proofs.Common.{◌≡◌, ℕ, zero, suc, ◌+◌, ◌<◌, ◌≤◌, Bool, true, false, cond, not, ◌&&◌, eqb, ◌⊎◌, List, sym, refl, ap, ◌∙◌, inl, inr, ⊎_elim, arith}
use Rattle.std.proofs.lemmas.Bool.{cases_eq, cases_lt, cases_Bool, ne_eqb, eq-eqb}
use Rattle.std.proofs.lemmas.Bool.Decides.{nat_tests}
use Rattle.cuts.specs.declared.adjacency.link.Link.{Link}
use Rattle.cuts.specs.Links.{between, joins, across, spans, one, degree}
use Rattle.cuts.specs.Fusions.{Two, Movable}
use Rattle.cuts.proofs.Tallies.{sum_by_same, sum_by_twice_le, all_of}
use Rattle.cuts.proofs.Sides.{same_or_not, differ_yes, not_other}
use Rattle.network.specs.Sets.{differ}

-- the sides with u moved to the other
abbrev flipped : ℕ → (ℕ → Bool) → ℕ → Bool
flipped u B x = cond (eqb x u) (not (B x)) (B x)

flip_one : (B : ℕ → Bool) (u v x y : ℕ) → differ (B u) (B v) ≡ true → differ (B v) (B u) ≡ true
    → one (differ (cond (eqb x u) (not (B x)) (B x)) (cond (eqb y u) (not (B y)) (B y))) + (one (cond (eqb x u) (eqb y v) (eqb y u && eqb x v)) + one (cond (eqb x u) (eqb y v) (eqb y u && eqb x v)))
    ≤ one (differ (B x) (B y)) + one (differ (eqb x u) (eqb y u))
flip_one B u v x y apart apart-too = grind (arith, nat_tests)

-- where half of the links of u go to v, on the other side, u may as well be with v
flip_less : (L : ℕ → ℕ) (ls : List Link) (B : ℕ → Bool) (u v : ℕ) → (B u ≡ B v → ⊥) → degree L ls u ≤ between L u v ls + between L u v ls
    → across (λ d. flipped u B (L d)) ls ≤ across (λ d. B (L d)) ls
flip_less L ls B u v ne heavy =
    omega (
      arith,
      heavy,
      sum_by_twice_le (λ l. one (spans (λ d. flipped u B (L d)) l)) (λ l. one (joins L u v l)) (λ l. one (spans (λ d. B (L d)) l)) (λ l. one (spans (λ d. eqb (L d) u) l))
          (λ l. flip_one B u v (L l.a) (L l.b) (differ_yes _ _ ne) (differ_yes _ _ (λ e. ne (sym e)))) ls,
    )

same_one : (p q : Bool) (b : Bool) → one (differ (cond p b (not b)) (cond q b (not b))) ≡ one (differ p q)
same_one true true true = refl
same_one true true false = refl
same_one true false true = refl
same_one true false false = refl
same_one false true true = refl
same_one false true false = refl
same_one false false true = refl
same_one false false false = refl

-- where u alone is on its side, what goes across is its degree
alone : (L : ℕ → ℕ) (ls : List Link) (B : ℕ → Bool) (u n : ℕ) → ((d : ℕ) → d < 128 → L d < n) → ((x : ℕ) → x < n → (x ≡ u → ⊥) → B x ≡ not (B u))
    → across (λ d. B (L d)) ls ≡ degree L ls u
alone L ls B u n low only =
    sum_by_same _ _ ls (all_of _ (λ l. ap (λ z. one (differ z (B (L l.b)))) (side (L l.a) (low l.a l.low))
    ∙ (ap (λ z. one (differ (cond (eqb (L l.a) u) (B u) (not (B u))) z)) (side (L l.b) (low l.b l.high))
    ∙ same_one (eqb (L l.a) u) (eqb (L l.b) u) (B u))) ls)
  where
    side : (x : ℕ) → x < n → B x ≡ cond (eqb x u) (B u) (not (B u))
    side x h = ⊎_elim (λ e. rw (eq-eqb x u e) (ap B e)) (λ ne. rw (ne_eqb x u ne) (only x h ne)) (cases_eq x u)

-- whether another number below n is on the side of u
others : (n u : ℕ) (C : ℕ → Bool) → ((z : ℕ) × (z < n) × (z ≡ u → ⊥) × (C z ≡ C u)) ⊎ ((z : ℕ) → z < n → (z ≡ u → ⊥) → C z ≡ not (C u))
others zero u C = inr (λ z h. absurd (omega arith))
others (suc n) u C = ⊎_elim
    (λ q. inl (q.0, omega (arith, q.1), q.2, q.3))
    (λ none. ⊎_elim
    (λ e. inr (λ z h ne. none z (below z h (λ q. ne (q ∙ e))) ne))
    (λ ne. ⊎_elim (λ same. inl (n, omega arith, ne, same)) (λ diff. inr (λ z h nz. last none diff z h nz (cases_eq z n))) (same_or_not (C n) (C u)))
    (cases_eq n u))
    (others n u C)
  where
    below : (z : ℕ) → z < suc n → (z ≡ n → ⊥) → z < n
    below z h ne = ⊎_elim (λ a. a) (λ a. absurd (ne (omega arith))) (cases_lt z n)

    last : ((z : ℕ) → z < n → (z ≡ u → ⊥) → C z ≡ not (C u)) → (C n ≡ C u → ⊥) → (z : ℕ) → z < suc n → (z ≡ u → ⊥) → (z ≡ n) ⊎ (z ≡ n → ⊥) → C z ≡ not (C u)
    last none diff z h nz (inl e) = ap C e ∙ not_other (C n) (C u) diff
    last none diff z h nz (inr ne) = none z (below z h ne) nz

flip_at : (u x : ℕ) (C : ℕ → Bool) → x ≡ u → flipped u C x ≡ not (C x)
flip_at u x C e = rw (eq-eqb x u e)

flip_off : (u x : ℕ) (C : ℕ → Bool) → (x ≡ u → ⊥) → flipped u C x ≡ C x
flip_off u x C ne = rw (ne_eqb x u ne)

two_of : (n : ℕ) (D : ℕ → Bool) (x y : ℕ) → x < n → y < n → (D x ≡ D y → ⊥) → Two n D
two_of n D x y hx hy ne = ⊎_elim
    (λ t. ⊎_elim (λ s. absurd (ne (t ∙ sym s))) (λ s. ((x, hx, t), (y, hy, s))) (cases_Bool (D y)))
    (λ t. ⊎_elim (λ s. ((y, hy, s), (x, hx, t))) (λ s. absurd (ne (t ∙ sym s))) (cases_Bool (D y)))
    (cases_Bool (D x))

-- u, which nothing was moved to, may be moved to v if half of its links go there
pub pair_step : (L : ℕ → ℕ) (ls : List Link) (n best : ℕ) (to : ℕ → ℕ) (u v : ℕ)
    → ((d : ℕ) → d < 128 → L d < n) → u < n → v < n → (v ≡ u → ⊥)
    → ((x : ℕ) → x < n → (x ≡ u → ⊥) → to x ≡ u → ⊥)
    → degree L ls u ≤ between L u v ls + between L u v ls → best ≤ degree L ls u
    → Movable L ls n best to → Movable L ls n best (λ x. cond (eqb x u) v (to x))
pair_step L ls n best to u v low hu hv ne fresh heavy deg m B two =
    ⊎_elim (λ q. step q.0 q.1 q.2 q.3) (λ h. inr h) (m B two)
  where
    to' : ℕ → ℕ
    to' x = cond (eqb x u) v (to x)

    to_u : (x : ℕ) → x ≡ u → to' x ≡ v
    to_u x e = rw (eq-eqb x u e)

    to_x : (x : ℕ) → (x ≡ u → ⊥) → to' x ≡ to x
    to_x x nx = rw (ne_eqb x u nx)

    step : (C : ℕ → Bool) → Two n C → ((x : ℕ) → x < n → C (to x) ≡ C x) → across (λ d. C (L d)) ls ≤ across (λ d. B (L d)) ls
        → ((D : ℕ → Bool) × Two n D × ((x : ℕ) → x < n → D (to' x) ≡ D x) × (across (λ d. D (L d)) ls ≤ across (λ d. B (L d)) ls)) ⊎ (best ≤ across (λ d. B (L d)) ls)
    step C tc same le = ⊎_elim
        (λ eq. inl (C, tc, (λ x h. ⊎_elim (λ e. ap C (to_u x e) ∙ (sym eq ∙ ap C (sym e))) (λ nx. ap C (to_x x nx) ∙ same x h) (cases_eq x u)), le))
        (λ diff. ⊎_elim
        (λ z. inl (
          flipped u C,
          two_of n (flipped u C) z.0 v z.1 hv (λ e. diff (sym z.3 ∙ (sym (flip_off u z.0 C z.2) ∙ (e ∙ flip_off u v C ne)))),
          (λ x h. ⊎_elim
              (λ e. ap (flipped u C) (to_u x e) ∙ (flip_off u v C ne ∙ (not_other (C v) (C u) (λ q. diff (sym q)) ∙ (ap (λ y. not (C y)) (sym e) ∙ sym (flip_at u x C e)))))
              (λ nx. ap (flipped u C) (to_x x nx) ∙ (flip_off u (to x) C (fresh x h nx) ∙ (same x h ∙ sym (flip_off u x C nx))))
              (cases_eq x u)),
          omega (arith, le, flip_less L ls C u v diff heavy),
        ))
        (λ none. inr (omega (arith, le, deg, alone L ls C u n low none)))
        (others n u C))
        (same_or_not (C u) (C v))
