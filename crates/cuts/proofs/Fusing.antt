-- Fusing the neighbours of an order that weighed enough loses no lesser split.
use Rattle.std.proofs.Common.{◌≡◌, ℕ, zero, suc, ◌+◌, ◌-◌, ◌<◌, ◌≤◌, Bool, true, false, eqb, ◌⊎◌, List, [], ◌∷◌, ◌++◌, length, get_or, set, replicate, sym, refl, ap, ◌∙◌, subst, inl, inr, ⊎_elim, arith}
use Rattle.std.proofs.lemmas.List.{get_or-map, length-map, get_or-set_same, get_or-set_other, get_or_append_left, length-append, length-set}
use Rattle.std.proofs.Math.Seq.{get_or-append_seam}
use Rattle.std.proofs.lemmas.Bool.{eqb-true, eq-eqb, true≢false, or_cases, or_left, or_right, lt-ltb}
use Rattle.cuts.specs.declared.adjacency.link.Link.{Link}
use Rattle.cuts.specs.Links.{label, across}
use Rattle.cuts.specs.declared.adjacency.order.Place.{Place}
use Rattle.cuts.specs.Orders.{among, latest, labels_of, weights_of, under, Ordered}
use Rattle.cuts.specs.Fusions.{Fused}
use Rattle.cuts.proofs.Sides.{same_or_not}
use Rattle.cuts.proofs.Phases.{latest_read, pair_least, placed_at}
use Rattle.cuts.proofs.Below.{last_or_below}

-- what the loop of `fuse` keeps: xs are placed, i of them, the latest h with the weight k
pub record Fusing (L : ℕ → ℕ) (ls : List Link) (best i h k : ℕ) (xs into firsts : List ℕ) (c : ℕ) : Type 0 where
  pub few : c ≤ i
  pub some : 1 ≤ i → 1 ≤ c
  pub less : 2 ≤ i → best ≤ k → c < i
  pub below : (v : ℕ) → among xs v ≡ true → label into v < c
  pub firsts_in : (y : ℕ) → y < c → among xs (label firsts y) ≡ true
  pub firsts_own : (y : ℕ) → y < c → label into (label firsts y) ≡ y
  pub seen : (B : ℕ → Bool) → ((v : ℕ) → among xs v ≡ true → B (label firsts (label into v)) ≡ B v) ⊎ (best ≤ across (λ d. B (L d)) ls)
  pub is_in : 1 ≤ i → among xs h ≡ true
  pub last : 1 ≤ i → label into h + 1 ≡ c
  pub long_into : length into ≡ 128
  pub count : length firsts ≡ c

in_cases : (q v : ℕ) (xs : List ℕ) → among xs q ≡ false → among (q ∷ xs) v ≡ true → (v ≡ q) ⊎ ((v ≡ q → ⊥) × (among xs v ≡ true))
in_cases q v xs new h = ⊎_elim (λ e. inl (sym (eqb-true q v e))) (λ a. inr ((λ e. true≢false (sym a ∙ (ap (among xs) e ∙ new))), a)) (or_cases (eqb q v) (among xs v) h)

in_head : (q : ℕ) (xs : List ℕ) → among (q ∷ xs) q ≡ true
in_head q xs = or_left (eqb q q) (among xs q) (eq-eqb q q refl)

in_tail : (q v : ℕ) (xs : List ℕ) → among xs v ≡ true → among (q ∷ xs) v ≡ true
in_tail q v xs a = or_right (eqb q v) (among xs v) a

other : (q v : ℕ) (xs : List ℕ) → among xs q ≡ false → among xs v ≡ true → v ≡ q → ⊥
other q v xs new a e = true≢false (sym a ∙ (ap (among xs) e ∙ new))

fusing_none : (L : ℕ → ℕ) (ls : List Link) (best h k : ℕ) → Fusing L ls best 0 h k [] (replicate 128 0) [] 0
fusing_none L ls best h k = record {
  few = omega arith;
  some = λ h. absurd (omega arith);
  less = λ h. absurd (omega arith);
  below = λ v a. absurd (true≢false (sym a));
  firsts_in = λ y h. absurd (omega arith);
  firsts_own = λ y h. absurd (omega arith);
  seen = λ B. inl (λ v a. absurd (true≢false (sym a)));
  is_in = λ h. absurd (omega arith);
  last = λ h. absurd (omega arith);
  long_into = refl;
  count = refl;
}

module _ (L : ℕ → ℕ) (ls : List Link) (best i h k : ℕ) (xs into firsts : List ℕ) (c q k' : ℕ) (p : Fusing L ls best i h k xs into firsts c) (new : among xs q ≡ false) (low : q < 128) where
  at_q : (x : ℕ) → label (set into q x) q ≡ x
  at_q x = get_or-set_same into q x 0 (omega (arith, p.long_into))

  at_v : (x v : ℕ) → (v ≡ q → ⊥) → label (set into q x) v ≡ label into v
  at_v x v ne = get_or-set_other into q v x 0 ne

  -- q starts a new number
  fusing_new : (1 ≤ i → k' < best) → Fusing L ls best (i + 1) q k' (q ∷ xs) (set into q c) (firsts ++ q ∷ []) (c + 1)
  fusing_new light = record {
    few = omega (arith, p.few);
    some = λ _. omega arith;
    less = λ l a. absurd (omega (arith, light (omega arith)));
    below = λ v a. ⊎_elim (λ e. omega (arith, ap (label (set into q c)) e, at_q c)) (λ n. omega (arith, at_v c v n.0, p.below v n.1)) (in_cases q v xs new a);
    firsts_in = λ y l. ⊎_elim
        (λ e. subst (λ z. among (q ∷ xs) (label (firsts ++ q ∷ []) z) ≡ true) (sym e) (ap (among (q ∷ xs)) first_c ∙ in_head q xs))
        (λ n. ap (among (q ∷ xs)) (first_y y n) ∙ in_tail q (label firsts y) xs (p.firsts_in y (omega arith)))
        (last_or_below y c l);
    firsts_own = λ y l. ⊎_elim
        (λ e. subst (λ z. label (set into q c) (label (firsts ++ q ∷ []) z) ≡ z) (sym e) (ap (label (set into q c)) first_c ∙ at_q c))
        (λ n. ap (label (set into q c)) (first_y y n) ∙ (at_v c (label firsts y) (other q (label firsts y) xs new (p.firsts_in y n)) ∙ p.firsts_own y n))
        (last_or_below y c l);
    seen = λ B. ⊎_elim
        (λ same. inl (λ v a. ⊎_elim
        (λ e. subst (λ z. B (label (firsts ++ q ∷ []) (label (set into q c) z)) ≡ B z) (sym e) (ap (λ z. B (label (firsts ++ q ∷ []) z)) (at_q c) ∙ ap B first_c))
        (λ n. ap (λ z. B (label (firsts ++ q ∷ []) z)) (at_v c v n.0) ∙ (ap B (first_y (label into v) (p.below v n.1)) ∙ same v n.1))
        (in_cases q v xs new a)))
        (λ b. inr b)
        (p.seen B);
    is_in = λ _. in_head q xs;
    last = λ _. omega (arith, at_q c);
    long_into = length-set into q c ∙ p.long_into;
    count = omega (arith, length-append firsts (q ∷ []), p.count);
  }
    where
      first_c : label (firsts ++ q ∷ []) c ≡ q
      first_c = subst (λ z. label (firsts ++ q ∷ []) z ≡ q) p.count (get_or-append_seam firsts q [] 0)

      first_y : (y : ℕ) → y < c → label (firsts ++ q ∷ []) y ≡ label firsts y
      first_y y l = get_or_append_left firsts (q ∷ []) 0 y (omega (arith, p.count))

  -- q is fused with the one before
  fusing_same : (x : ℕ) → 1 ≤ i → x + 1 ≡ c → ((B : ℕ → Bool) → (B h ≡ B q → ⊥) → best ≤ across (λ d. B (L d)) ls) → Fusing L ls best (i + 1) q k' (q ∷ xs) (set into q x) firsts c
  fusing_same x begun is least = record {
    few = omega (arith, p.few);
    some = λ _. p.some begun;
    less = λ _ a. omega (arith, p.few);
    below = λ v a. ⊎_elim (λ e. omega (arith, ap (label (set into q x)) e, at_q x)) (λ n. omega (arith, at_v x v n.0, p.below v n.1)) (in_cases q v xs new a);
    firsts_in = λ y l. in_tail q (label firsts y) xs (p.firsts_in y l);
    firsts_own = λ y l. at_v x (label firsts y) (other q (label firsts y) xs new (p.firsts_in y l)) ∙ p.firsts_own y l;
    seen = λ B. ⊎_elim
        (λ same. ⊎_elim
        (λ eq. inl (λ v a. ⊎_elim
        (λ e. subst (λ z. B (label firsts (label (set into q x) z)) ≡ B z) (sym e) (ap (λ z. B (label firsts z)) (at_q x ∙ before) ∙ (same h (p.is_in begun) ∙ eq)))
        (λ n. ap (λ z. B (label firsts z)) (at_v x v n.0) ∙ same v n.1)
        (in_cases q v xs new a)))
        (λ ne. inr (least B ne))
        (same_or_not (B h) (B q)))
        (λ b. inr b)
        (p.seen B);
    is_in = λ _. in_head q xs;
    last = λ _. omega (arith, at_q x);
    long_into = length-set into q x ∙ p.long_into;
    count = p.count;
  }
    where
      before : x ≡ label into h
      before = omega (arith, p.last begun)

-- the same by the places up to i
abbrev pub Upon : (L : ℕ → ℕ) (ls : List Link) (best : ℕ) (places weights into firsts : List ℕ) (i c : ℕ) → Type 0
Upon L ls best places weights into firsts i c = Fusing L ls best i (get_or places (i - 1) 0) (get_or weights (i - 1) 0) (latest places i) into firsts c

moved_on : (L : ℕ → ℕ) (ls : List Link) (best : ℕ) (places weights into firsts : List ℕ) (i c : ℕ) → i < length places
    → Fusing L ls best (i + 1) (get_or places i 0) (get_or weights i 0) (get_or places i 0 ∷ latest places i) into firsts c
    → Upon L ls best places weights into firsts (i + 1) c
moved_on L ls best places weights into firsts i c h p =
    subst (λ z. Fusing L ls best (i + 1) (get_or places z 0) (get_or weights z 0) (latest places (i + 1)) into firsts c) (back i)
    (subst (λ ys. Fusing L ls best (i + 1) (get_or places i 0) (get_or weights i 0) ys into firsts c) (sym (latest_read places i h)) p)
  where
    back : (j : ℕ) → j ≡ j + 1 - 1
    back j = omega arith

pub upon_at : (L : ℕ → ℕ) (ls : List Link) (best : ℕ) (places weights : List ℕ) (i : ℕ) (into firsts into' firsts' : List ℕ) (c' : ℕ)
    → into ≡ into' → firsts ≡ firsts' → Upon L ls best places weights into' firsts' i c' → Upon L ls best places weights into firsts i (length firsts)
upon_at L ls best places weights i into firsts into' firsts' c' a b u =
    subst (λ z. Upon L ls best places weights z firsts i (length firsts)) (sym a) (subst (λ z. Upon L ls best places weights into' z i (length z)) (sym b) (subst (λ z. Upon L ls best places weights into' firsts' i z) (sym u.count) u))

pub place_low : (L : ℕ → ℕ) (ls : List Link) (n : ℕ) (ps qs : List Place) (i : ℕ) → qs ≡ ps → i < length qs → Ordered L ls (under n) (labels_of ps) (weights_of ps) n → i < n
place_low L ls n ps qs i e h o = omega (arith, ap (λ (xs : List Place). length xs) e, length-map ps (λ p. p.label), o.long_places)

-- the label and the weight at a place
module _ (ps qs : List Place) (i : ℕ) (d : Place) (e : qs ≡ ps) (h : i < length qs) where
  pub label_at : (get_or qs i d).label ≡ get_or (labels_of ps) i 0
  label_at = sym (get_or-map (λ p. p.label) qs i d 0 h) ∙ ap (λ xs. get_or (labels_of xs) i 0) e

  pub weight_at : (get_or qs i d).weight ≡ get_or (weights_of ps) i 0
  weight_at = sym (get_or-map (λ p. p.weight) qs i d 0 h) ∙ ap (λ xs. get_or (weights_of xs) i 0) e

module _ (L : ℕ → ℕ) (ls : List Link) (best n : ℕ) (places weights : List ℕ) (o : Ordered L ls (under n) places weights n) where
  fusing_all : (into firsts : List ℕ) (c : ℕ)
      → 2 ≤ n
      → Fusing L ls best n (get_or places (n - 1) 0) (get_or weights (n - 1) 0) (latest places n) into firsts c
      → ((v : ℕ) → among (latest places n) v ≡ true → v < n)
      → Fused L ls n best (get_or weights (n - 1) 0) into firsts c
  fusing_all into firsts c two p inner = record {
    below = λ v h. p.below v (whole v h);
    firsts_low = λ y h. inner _ (p.firsts_in y h);
    firsts_own = p.firsts_own;
    seen = λ B two. ⊎_elim (λ same. inl (B, two, (λ v h. same v (whole v h)), omega arith)) (λ b. inr b) (p.seen B);
    less = λ h. p.less two h;
    few = p.few;
    some = p.some (omega arith);
  }
    where
      whole : (v : ℕ) → v < n → among (latest places n) v ≡ true
      whole v h = o.whole v (omega (arith, o.fits)) (lt-ltb v n h)

  -- those placed up to i are below n
  placed_below : (i : ℕ) → i ≤ n → (v : ℕ) → among (latest places i) v ≡ true → v < n
  placed_below zero l v a = absurd (true≢false (sym a))
  placed_below (suc i) l v a =
      ⊎_elim (λ e. omega (arith, eqb-true _ _ e, (placed_at L ls places weights n o i (omega arith)).0)) (λ b. placed_below i (omega arith) v b)
      (or_cases (eqb (get_or places i 0) v) (among (latest places i) v) (subst (λ ys. among ys v ≡ true) (latest_read places i (omega (arith, o.fits, o.long_places))) (subst (λ z. among (latest places z) v ≡ true) (next i) a)))
    where
      next : (j : ℕ) → suc j ≡ j + 1
      next j = omega arith

  pub upon_none : Upon L ls best places weights (replicate 128 0) [] 0 0
  upon_none = fusing_none L ls best _ _

  pub upon_new : (into firsts : List ℕ) (i c : ℕ) → i < n → Upon L ls best places weights into firsts i c → (1 ≤ i → get_or weights i 0 < best)
      → Upon L ls best places weights (set into (get_or places i 0) c) (firsts ++ get_or places i 0 ∷ []) (i + 1) (c + 1)
  upon_new into firsts i c h u light =
      let q = placed_at L ls places weights n o i h in
      moved_on L ls best places weights _ _ i (c + 1) (omega (arith, o.long_places))
      (fusing_new L ls best i _ _ _ into firsts c (get_or places i 0) (get_or weights i 0) u q.1 (omega (arith, q.0, o.fits)) light)

  pub upon_same : (into firsts : List ℕ) (i c x : ℕ) → i < n → 1 ≤ i → Upon L ls best places weights into firsts i c → best ≤ get_or weights i 0 → x + 1 ≡ c
      → Upon L ls best places weights (set into (get_or places i 0) x) firsts (i + 1) c
  upon_same into firsts i c x h begun u heavy is =
      let q = placed_at L ls places weights n o i h in
      moved_on L ls best places weights _ _ i c (omega (arith, o.long_places))
      (fusing_same L ls best i _ _ _ into firsts c (get_or places i 0) (get_or weights i 0) u q.1 (omega (arith, q.0, o.fits)) x begun is (parted i (i - 1) h (omega arith) heavy))
    where
      parted : (j k : ℕ) → j < n → j ≡ k + 1 → best ≤ get_or weights j 0 → (B : ℕ → Bool) → (B (get_or places k 0) ≡ B (get_or places j 0) → ⊥) → best ≤ across (λ d. B (L d)) ls
      parted j k l e b B =
          subst (λ z. (best ≤ get_or weights z 0) → (B (get_or places k 0) ≡ B (get_or places z 0) → ⊥) → best ≤ across (λ d. B (L d)) ls) (sym e)
          (λ b' ne. omega (arith, b', pair_least L ls (under n) places weights n o.long_places o.long_weights n k (omega arith) o.greedy (omega arith) B ne)) b

  pub upon_all : (into firsts : List ℕ) (i c : ℕ) → 2 ≤ n → i ≡ n → Upon L ls best places weights into firsts i c
      → Fused L ls n best (get_or weights (n - 1) 0) into firsts c
  upon_all into firsts i c two e u =
      fusing_all into firsts c two (subst (λ z. Upon L ls best places weights into firsts z c) e u) (placed_below n (omega arith))
