-- In a maximum adjacency order, a side that parts two neighbours has at least the later one's weight across.
use Rattle.std.proofs.Common.{◌≡◌, ℕ, ◌+◌, ◌<◌, ◌≤◌, Bool, true, false, cond, ◌&&◌, eqb, List, [], ◌∷◌, count_by, sym, refl, ◌∙◌, ⊎_elim, arith}
use Rattle.std.proofs.lemmas.Bool.{and_parts, and_from, not-true, not_from_false, or_parts}
use Rattle.std.proofs.lemmas.Bool.Decides.{nat_tests}
use Rattle.cuts.specs.declared.adjacency.link.Link.{Link}
use Rattle.cuts.specs.Links.{between, across, spans, one}
use Rattle.cuts.specs.Orders.{Greedy, rest, among, towards}
use Rattle.cuts.proofs.Placing.{towards_more, towards_none}
use Rattle.network.specs.Sets.{differ}
use Rattle.cuts.proofs.Tallies.{sum_by_le_plus, sum_by_mono}
use Rattle.cuts.proofs.Sides.{same_or_not, differ_yes}

-- a link from x to y spans B within ys
abbrev within : (ℕ → Bool) → List ℕ → ℕ → ℕ → Bool
within B ys x y = among ys x && (among ys y && differ (B x) (B y))

abbrev across_in : (ℕ → ℕ) → (ℕ → Bool) → List ℕ → List Link → ℕ
across_in L B ys ls = count_by (λ l. within B ys (L l.a) (L l.b)) ls

abbrev link : ℕ → ℕ → ℕ → ℕ → Bool
link v d x y = cond (eqb x v) (eqb y d) (eqb y v && eqb x d)

-- v, the latest, with d beside it: the links between them are counted for the first time
within_latest : (B : ℕ → Bool) (xs : List ℕ) (v d x y : ℕ) → eqb v d ≡ false → among xs v ≡ false → differ (B d) (B v) ≡ true → differ (B v) (B d) ≡ true
    → one (within B (d ∷ xs) x y) + one (link v d x y) ≤ one (within B (d ∷ v ∷ xs) x y)
within_latest B xs v d x y ne nv apart apart-too = grind (arith, nat_tests)

-- d beside v, the latest, likewise
within_new : (B : ℕ → Bool) (xs : List ℕ) (v d x y : ℕ) → eqb v d ≡ false → among xs d ≡ false → differ (B d) (B v) ≡ true → differ (B v) (B d) ≡ true
    → one (within B (v ∷ xs) x y) + one (link v d x y) ≤ one (within B (d ∷ v ∷ xs) x y)
within_new B xs v d x y ne nd apart apart-too = grind (arith, nat_tests)

within_all : (B : ℕ → Bool) (ys : List ℕ) (x y : ℕ) → one (within B ys x y) ≤ one (differ (B x) (B y))
within_all B ys x y = grind (arith, nat_tests)

-- what is in the rest of v ∷ xs: a device of S, not v, and in the rest of xs
rest_parts : (S : ℕ → Bool) (v d : ℕ) (xs : List ℕ) → rest S (v ∷ xs) d ≡ true → (eqb v d ≡ false) × (among xs d ≡ false) × (rest S xs d ≡ true)
rest_parts S v d xs h =
    let p = and_parts (S d) _ h in
    let o = or_parts (eqb v d) (among xs d) (not-true _ p.1) in
    (o.0, o.1, and_from _ _ p.0 (not_from_false _ o.1))

module _ (L : ℕ → ℕ) (ls : List Link) (S B : ℕ → Bool) where
  across_latest : (v d : ℕ) (xs : List ℕ) → eqb v d ≡ false → among xs v ≡ false → (B d ≡ B v → ⊥) → across_in L B (d ∷ xs) ls + between L v d ls ≤ across_in L B (d ∷ v ∷ xs) ls
  across_latest v d xs ne nv n = sum_by_le_plus _ _ _ (λ l. within_latest B xs v d (L l.a) (L l.b) ne nv (differ_yes _ _ n) (differ_yes _ _ (λ e. n (sym e)))) ls

  across_new : (v d : ℕ) (xs : List ℕ) → eqb v d ≡ false → among xs d ≡ false → (B d ≡ B v → ⊥) → across_in L B (v ∷ xs) ls + between L v d ls ≤ across_in L B (d ∷ v ∷ xs) ls
  across_new v d xs ne nd n = sum_by_le_plus _ _ _ (λ l. within_new B xs v d (L l.a) (L l.b) ne nd (differ_yes _ _ n) (differ_yes _ _ (λ e. n (sym e)))) ls

  new_in : (v : ℕ) (xs : List ℕ) → rest S xs v ≡ true → among xs v ≡ false
  new_in v xs h = not-true _ (and_parts (S v) _ h).1

  -- d, which is not placed yet, on the other side than the latest v, weighs at most what spans B among those placed and d
  least_in : (v k : ℕ) (xs ks : List ℕ) → Greedy L ls S (v ∷ xs) (k ∷ ks) → (d : ℕ) → d < 128 → rest S (v ∷ xs) d ≡ true → (B d ≡ B v → ⊥)
      → towards L ls (v ∷ xs) d ≤ across_in L B (d ∷ v ∷ xs) ls
  least_in v k [] [] g d low r n =
      let p = rest_parts S v d [] r in
      omega (arith, towards_more L ls [] v d refl, towards_none L ls d, across_latest v d [] p.0 refl n)
  least_in v k [] (j ∷ ks) g d low r n = absurd g.4
  least_in v k (p ∷ xs) [] g d low r n = absurd g.4
  least_in v k (p ∷ xs) (j ∷ ks) g d low r n =
      let q = rest_parts S v d (p ∷ xs) r in
      let new = new_in v (p ∷ xs) g.1 in
      let more = towards_more L ls (p ∷ xs) v d new in
      ⊎_elim
      (λ same. omega (arith, more, across_latest v d (p ∷ xs) q.0 new n, least_in p j xs ks g.4 d low q.2 (λ e. n (e ∙ same))))
      (λ other. omega (arith, more, across_new v d (p ∷ xs) q.0 q.1 n, g.2, g.3 d low q.2, least_in p j xs ks g.4 v g.0 g.1 (λ e. other (sym e))))
      (same_or_not (B p) (B v))

  pub least_of : (s t k j : ℕ) (xs ks : List ℕ) → Greedy L ls S (t ∷ s ∷ xs) (k ∷ j ∷ ks) → (B s ≡ B t → ⊥) → k ≤ across (λ d. B (L d)) ls
  least_of s t k j xs ks g n =
      omega (
        arith,
        g.2,
        least_in s j xs ks g.4 t g.0 g.1 (λ e. n (sym e)),
        sum_by_mono (λ l. one (within B (t ∷ s ∷ xs) (L l.a) (L l.b))) (λ l. one (spans (λ d. B (L d)) l)) (λ l. within_all B (t ∷ s ∷ xs) (L l.a) (L l.b)) ls,
      )
