-- What an order gives at each of its places, and that the last label weighed all its links.
use Rattle.std.proofs.Common.{◌≡◌, ℕ, zero, suc, ◌+◌, ◌-◌, ◌<◌, ◌≤◌, Bool, true, false, cond, ◌&&◌, eqb, List, [], ◌∷◌, reverse, length, get_or, take, sym, ap, ◌∙◌, subst, arith}
use Rattle.std.proofs.ByRecursion.{All-weaker}
use Rattle.std.proofs.lemmas.List.{take_more, reverse-append}
use Rattle.std.proofs.lemmas.Bool.{and_parts, not-true, ltb-true, lt-ltb}
use Rattle.std.proofs.lemmas.Bool.Decides.{nat_tests}
use Rattle.cuts.specs.declared.adjacency.link.Link.{Link}
use Rattle.cuts.specs.Links.{across, Ends, one, degree}
use Rattle.cuts.specs.Orders.{Greedy, Ordered, latest, among, towards, under}
use Rattle.cuts.proofs.Tallies.{sum_by_same}
use Rattle.cuts.proofs.Least.{least_of}
use Rattle.network.specs.Sets.{differ}

pub latest_read : (xs : List ℕ) (n : ℕ) → n < length xs → latest xs (n + 1) ≡ get_or xs n 0 ∷ latest xs n
latest_read xs n h = ap reverse (take_more xs n 0 h) ∙ reverse-append (take n xs) (get_or xs n 0 ∷ [])

latest_back : (xs : List ℕ) (n m : ℕ) → n ≡ m + 1 → n ≤ length xs → latest xs n ≡ get_or xs m 0 ∷ latest xs m
latest_back xs n m e h = subst (λ x. latest xs x ≡ get_or xs m 0 ∷ latest xs m) (sym e) (latest_read xs m (omega arith))

last_alone : (x y t : ℕ) (ys : List ℕ) → among ys t ≡ false → among (t ∷ ys) x ≡ true → among (t ∷ ys) y ≡ true
    → one (cond (eqb x t) (among ys y) (eqb y t && among ys x)) ≡ one (differ (eqb x t) (eqb y t))
last_alone x y t ys new ix iy = grind (arith, nat_tests)

phase_exact : (L : ℕ → ℕ) (ls : List Link) (S : ℕ → Bool) (t : ℕ) (ys : List ℕ)
    → ((d : ℕ) → d < 128 → L d < 128)
    → ((d : ℕ) → d < 128 → S d ≡ true → among (t ∷ ys) d ≡ true)
    → among ys t ≡ false
    → Ends L S ls
    → towards L ls ys t ≡ across (λ d. eqb (L d) t) ls
phase_exact L ls S t ys low whole new ends =
    sum_by_same _ _ ls (All-weaker _ _ (λ l i. last_alone (L l.a) (L l.b) t ys new (whole (L l.a) (low l.a l.low) i.0) (whole (L l.b) (low l.b l.high) i.1)) ls ends)

module _ (L : ℕ → ℕ) (ls : List Link) (S : ℕ → Bool) (places weights : List ℕ) (N : ℕ) (long_p : length places ≡ N) (long_w : length weights ≡ N) where
  abbrev Upto : ℕ → Type 0
  Upto n = Greedy L ls S (latest places n) (latest weights n)

  -- the order up to n + 1 with its last written out
  opened : (n : ℕ) → n < N → Upto (n + 1) → Greedy L ls S (get_or places n 0 ∷ latest places n) (get_or weights n 0 ∷ latest weights n)
  opened n h g =
      subst (λ ys. Greedy L ls S ys (get_or weights n 0 ∷ latest weights n)) (latest_read places n (omega arith))
      (subst (λ ks. Greedy L ls S (latest places (n + 1)) ks) (latest_read weights n (omega arith)) g)

  prefix : (k n m : ℕ) → n ≡ m + k → n ≤ N → Upto n → Upto m
  prefix zero n m e h g = subst Upto (omega arith) g
  prefix (suc k) n m e h g = prefix k (n - 1) m (omega arith) (omega arith) (opened (n - 1) (omega arith) (subst Upto (omega arith) g)).4

  turn : (n i : ℕ) → n ≤ N → Upto n → i < n → Greedy L ls S (get_or places i 0 ∷ latest places i) (get_or weights i 0 ∷ latest weights i)
  turn n i h g l = opened i (omega arith) (prefix (n - (i + 1)) n (i + 1) (omega arith) h g)

  -- no side that spans two neighbours of the order has fewer links across than the later weighed
  pub pair_least : (n i : ℕ) → n ≤ N → Upto n → i + 1 < n → (B : ℕ → Bool) → (B (get_or places i 0) ≡ B (get_or places (i + 1) 0) → ⊥) → get_or weights (i + 1) 0 ≤ across (λ d. B (L d)) ls
  pair_least n i h g l B ne =
      least_of L ls S B (get_or places i 0) (get_or places (i + 1) 0) (get_or weights (i + 1) 0) (get_or weights i 0) (latest places i) (latest weights i)
      (subst (λ ys. Greedy L ls S (get_or places (i + 1) 0 ∷ ys) (get_or weights (i + 1) 0 ∷ get_or weights i 0 ∷ latest weights i)) (latest_read places i (omega arith))
      (subst (λ ks. Greedy L ls S (get_or places (i + 1) 0 ∷ latest places (i + 1)) (get_or weights (i + 1) 0 ∷ ks)) (latest_read weights i (omega arith)) (turn n (i + 1) h g l)))
      ne

module _ (L : ℕ → ℕ) (ls : List Link) (places weights : List ℕ) (n : ℕ) (o : Ordered L ls (under n) places weights n) where
  -- what stands at a place is below n, and stands at no place before
  pub placed_at : (i : ℕ) → i < n → (get_or places i 0 < n) × (among (latest places i) (get_or places i 0) ≡ false)
  placed_at i h =
      let g = turn L ls (under n) places weights n o.long_places o.long_weights n i (omega arith) o.greedy h in
      let p = and_parts _ _ g.1 in
      (ltb-true _ _ p.0, not-true _ p.1)

  -- the last weighed all its links
  last_weight : ((d : ℕ) → d < 128 → L d < n) → 1 ≤ n → get_or weights (n - 1) 0 ≡ degree L ls (get_or places (n - 1) 0)
  last_weight low some =
      let g = turn L ls (under n) places weights n o.long_places o.long_weights n (n - 1) (omega arith) o.greedy (omega arith) in
      let new = placed_at (n - 1) (omega arith) in
      g.2 ∙ phase_exact L ls (under n) (get_or places (n - 1) 0) (latest places (n - 1)) (λ d h. omega (arith, low d h, o.fits))
      (λ d h s. subst (λ ys. among ys d ≡ true) (latest_back places n (n - 1) (omega arith) (omega (arith, o.fits, o.long_places))) (o.whole d h s)) new.1
      (ends ls)
    where
      ends : (ks : List Link) → Ends L (under n) ks
      ends [] = tt
      ends (l ∷ ks) = ((lt-ltb _ _ (low l.a l.low), lt-ltb _ _ (low l.b l.high)), ends ks)

  -- so it weighed no less than the best split so far, which no degree is below
  pub last_least : (best : ℕ) → ((d : ℕ) → d < 128 → L d < n) → 1 ≤ n → ((k : ℕ) → k < n → best ≤ degree L ls k) → best ≤ get_or weights (n - 1) 0
  last_least best low some least = omega (arith, last_weight low some, least (get_or places (n - 1) 0) (placed_at (n - 1) (omega arith)).0)
