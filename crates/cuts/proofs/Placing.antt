-- What one turn of the order does: a heaviest label is placed, and the weights of the rest grow by their links to it.
use Rattle.std.proofs.Common.{◌≡◌, ℕ, leb, zero, suc, ◌+◌, ◌<◌, ◌≤◌, Bool, true, false, cond, not, ◌&&◌, List, [], ◌∷◌, ◌++◌, reverse, length, map, get_or, take, set, replicate, sym, refl, ap, ◌∙◌, subst, ⊎_elim, arith}
use Rattle.std.proofs.lemmas.List.{take_all, length-map, map-append, reverse-append, get_or-set_same, get_or-set_other, get_or-replicate, get_or-take, get_or-map, get_or_past, ext_get_or, take-replicate, length-take-le, length-append, length-replicate, length-set}
use Rattle.std.proofs.lemmas.List.Folds.{sum_by-replicate}
use Rattle.std.proofs.lemmas.List.Sums.{sum_by-cons, sum_by-set, count_by-le-length}
use Rattle.std.proofs.lemmas.Bool.{cases_eq, cases_Bool, ne_eqb, eq-eqb, cases_lt, le-ltb, lt-ltb, le-leb, lt-leb, ltb-true, and_left, and_parts, true≢false}
use Rattle.std.proofs.lemmas.Bool.Decides.{nat_tests}
use Rattle.cuts.specs.declared.adjacency.link.Link.{Link}
use Rattle.cuts.specs.Links.{flagged, joins, between, one}
use Rattle.cuts.specs.declared.adjacency.order.Place.{Place}
use Rattle.cuts.specs.Orders.{Greedy, labels_of, weights_of, latest, rest, towards, toward, among, flags, under, Ordered}
use Rattle.cuts.proofs.Tallies.{sum_by_plus, sum_by_zero}

-- the labels placed, the latest first
abbrev pub placed : List Place → List ℕ
placed ps = latest (labels_of ps) (length ps)

-- what the loop of `order` keeps: w has 2048 more than the weight for those left, and no more than it for the others below m
pub record Placing (L : ℕ → ℕ) (ls : List Link) (left : List Bool) (w : List ℕ) (ps : List Place) (m : ℕ) : Type 0 where
  pub greedy : Greedy L ls (under m) (placed ps) (latest (weights_of ps) (length ps))
  pub rests : (d : ℕ) → d < 128 → flagged left d ≡ rest (under m) (placed ps) d
  pub bound : (d : ℕ) → d < 128 → get_or w d 0 ≤ 2048 + towards L ls (placed ps) d
  pub open_w : (d : ℕ) → d < 128 → flagged left d ≡ true → get_or w d 0 ≡ 2048 + towards L ls (placed ps) d
  pub shut_w : (d : ℕ) → d < m → flagged left d ≡ false → get_or w d 0 ≤ towards L ls (placed ps) d
  pub fits : flags left + length ps ≡ m
  pub most : m ≤ 128
  pub long_left : length left ≡ m
  pub long_w : length w ≡ 128

toward_more : (L : ℕ → ℕ) (xs : List ℕ) (x v : ℕ) (l : Link) → among xs x ≡ false → one (toward L (x ∷ xs) v l) ≡ one (toward L xs v l) + one (joins L x v l)
toward_more L xs x v l new = grind (arith, nat_tests)

pub towards_more : (L : ℕ → ℕ) (ls : List Link) (xs : List ℕ) (x v : ℕ) → among xs x ≡ false → towards L ls (x ∷ xs) v ≡ towards L ls xs v + between L x v ls
towards_more L ls xs x v new = sum_by_plus _ _ _ (λ l. toward_more L xs x v l new) ls

latest_all : (f : Place → ℕ) (ps : List Place) → latest (map f ps) (length ps) ≡ reverse (map f ps)
latest_all f ps = ap reverse (take_all (length ps) (map f ps) (omega (arith, length-map ps f)))

latest_more : (f : Place → ℕ) (ps : List Place) (p : Place) → latest (map f (ps ++ p ∷ [])) (length (ps ++ p ∷ [])) ≡ f p ∷ latest (map f ps) (length ps)
latest_more f ps p =
    latest_all f (ps ++ p ∷ []) ∙ ap reverse (map-append f ps (p ∷ [])) ∙ reverse-append (map f ps) (f p ∷ []) ∙ ap (λ xs. f p ∷ xs) (sym (latest_all f ps))

toward_none : (L : ℕ → ℕ) (v : ℕ) (l : Link) → one (toward L [] v l) ≡ 0
toward_none L v l = grind (arith, nat_tests)

pub towards_none : (L : ℕ → ℕ) (ls : List Link) (v : ℕ) → towards L ls [] v ≡ 0
towards_none L ls v = sum_by_zero _ (toward_none L v) ls

not_none : (s : Bool) → s ≡ (s && true)
not_none true = refl
not_none false = refl

-- which labels below m are left, as the weights tell
abbrev pub lefts : List ℕ → ℕ → List Bool
lefts w m = map (λ x. leb 2048 x) (take m w)

lefts_all : (m : ℕ) → m ≤ 128 → lefts (replicate 128 2048) m ≡ replicate m true
lefts_all m h = ap (map (λ x. leb 2048 x)) (take-replicate m 128 2048 h) ∙ tests m
  where
    tests : (k : ℕ) → map (λ x. leb 2048 x) (replicate k 2048) ≡ replicate k true
    tests zero = refl
    tests (suc k) = ap (λ xs. true ∷ xs) (tests k)

placing_first : (L : ℕ → ℕ) (ls : List Link) (m : ℕ) → m ≤ 128 → Placing L ls (replicate m true) (replicate 128 2048) [] m
placing_first L ls m most = record {
  greedy = tt;
  rests = λ d h. e d ∙ not_none (under m d);
  bound = λ d h. omega (arith, get_or-replicate {A = ℕ} 128 d 2048 0 h);
  open_w = λ d h _. omega (arith, get_or-replicate {A = ℕ} 128 d 2048 0 h, towards_none L ls d);
  shut_w = λ d h no-left. absurd (true≢false (sym (e d ∙ lt-ltb d m h) ∙ no-left));
  fits = omega (arith, sum_by-replicate (λ b. one b) m true);
  most = most;
  long_left = length-replicate m true;
  long_w = refl;
}
  where
    e : (d : ℕ) → flagged (replicate m true) d ≡ under m d
    e d = ⊎_elim
        (λ l. get_or-replicate m d true false l ∙ sym (lt-ltb d m l))
        (λ l. get_or_past (replicate m true) d false (omega (arith, length-replicate m true, l)) ∙ sym (le-ltb d m l))
        (cases_lt d m)

pub placing_none : (L : ℕ → ℕ) (ls : List Link) (m : ℕ) → m ≤ 128 → Placing L ls (lefts (replicate 128 2048) m) (replicate 128 2048) [] m
placing_none L ls m most = subst (λ left. Placing L ls left (replicate 128 2048) [] m) (sym (lefts_all m most)) (placing_first L ls m most)

-- the weights tell which are left
lefts_are : (L : ℕ → ℕ) (ls : List Link) (left : List Bool) (w : List ℕ) (ps : List Place) (m : ℕ) → length ls ≤ 512 → Placing L ls left w ps m → left ≡ lefts w m
lefts_are L ls left w ps m short p = ext_get_or false left (lefts w m) (omega (arith, p.long_left, length-map (take m w) (λ x. leb 2048 x), cut)) (λ d h. told d (omega (arith, p.long_left, h)) ∙ sym (at d (omega (arith, p.long_left, h))))
  where
    cut : length (take m w) ≡ m
    cut = length-take-le m w (omega (arith, p.long_w, p.most))

    at : (d : ℕ) → d < m → get_or (lefts w m) d false ≡ leb 2048 (get_or w d 0)
    at d h = get_or-map (λ x. leb 2048 x) (take m w) d 0 false (omega (arith, cut, h)) ∙ ap (leb 2048) (get_or-take m w d 0 h)

    told : (d : ℕ) → d < m → get_or left d false ≡ leb 2048 (get_or w d 0)
    told d h = ⊎_elim
        (λ t. t ∙ sym (le-leb 2048 (get_or w d 0) (omega (arith, p.open_w d (omega (arith, h, p.most)) t))))
        (λ f. f ∙ sym (lt-leb 2048 (get_or w d 0) (omega (arith, p.shut_w d h f, count_by-le-length (toward L (placed ps) d) ls, short))))
        (cases_Bool (get_or left d false))

rest_new : (s a : Bool) → (s && not a) ≡ true → a ≡ false
rest_new true true h = sym h
rest_new true false h = refl
rest_new false true h = sym h
rest_new false false h = refl

rest_same : (s : Bool) → false ≡ (s && false)
rest_same true = refl
rest_same false = refl

rests_more : (left : List Bool) (S : ℕ → Bool) (xs : List ℕ) (v d : ℕ) → v < length left → flagged left d ≡ rest S xs d → flagged (set left v false) d ≡ rest S (v ∷ xs) d
rests_more left S xs v d h e =
    ⊎_elim
    (λ same. let a : flagged (set left v false) d ≡ false = subst (λ x. get_or (set left v false) x false ≡ false) (sym same) (get_or-set_same left v false false h) in
    a ∙ rw (eq-eqb v d (sym same)) (rest_same (S d)))
    (λ ne. rw (get_or-set_other left v d false false ne, ne_eqb v d (λ q. ne (sym q))) e)
    (cases_eq d v)

none_flags : (xs : List Bool) → ((k : ℕ) → k < length xs → flagged xs k ≡ false) → flags xs ≡ 0
none_flags [] h = refl
none_flags (x ∷ xs) h = omega (arith, sum_by-cons (λ b. cond b 1 0) x xs, ap (λ b. one b) (h 0 (omega arith)), none_flags xs (λ k l. h (suc k) (omega arith)))

and_no : (s a : Bool) → false ≡ (s && not a) → s ≡ true → a ≡ true
and_no true true h e = refl
and_no true false h e = h
and_no false true h e = refl
and_no false false h e = e

module _ (L : ℕ → ℕ) (ls : List Link) (left : List Bool) (w : List ℕ) (ps : List Place) (m : ℕ) (short : length ls ≤ 512) (p : Placing L ls left w ps m) where
  -- what is 2048 or more is left
  is_left : (v : ℕ) → v < m → 2048 ≤ get_or w v 0 → flagged left v ≡ true
  is_left v low big =
      ⊎_elim (λ t. t) (λ f. absurd (omega (arith, p.shut_w v low f, count_by-le-length (toward L (placed ps) v) ls, short, big))) (cases_Bool (flagged left v))

  -- a place is free for it, and one fewer is left
  pub room : (v : ℕ) → v < m → 2048 ≤ get_or w v 0 → (length ps < 128) × (flags (set left v false) + 1 ≡ flags left)
  room v low big =
      let l = is_left v low big in
      let h : v < length left = omega (arith, p.long_left, p.most) in
      let e = sum_by-set (λ b. one b) left v false false h in
      let f : flags (set left v false) + 1 ≡ flags left = omega (arith, e, ap (λ b. one b) l) in
      (omega (arith, f, p.fits, p.most), f)

  -- one turn
  pub placing_more : (v : ℕ) (q : Place) (w' : List ℕ)
      → q.label ≡ v
      → v < m
      → 2048 ≤ get_or w v 0
      → ((d : ℕ) → d < m → get_or w d 0 ≤ get_or w v 0)
      → q.weight + 2048 ≡ get_or w v 0
      → ((d : ℕ) → d < 128 → get_or w' d 0 ≡ get_or (set w v 0) d 0 + between L v d ls)
      → length w' ≡ 128
      → Placing L ls (set left v false) w' (ps ++ q ∷ []) m
  placing_more v q w' at low-m big most is added long =
      let xs = placed ps in
      let low : v < 128 = omega (arith, p.most) in
      let left_v = is_left v low-m big in
      let r = room v low-m big in
      let e : placed (ps ++ q ∷ []) ≡ v ∷ xs = latest_more (λ p. p.label) ps q ∙ ap (λ x. x ∷ xs) at in
      let f : latest (weights_of (ps ++ q ∷ [])) (length (ps ++ q ∷ [])) ≡ q.weight ∷ latest (weights_of ps) (length ps) = latest_more (λ p. p.weight) ps q in
      let is_rest : rest (under m) xs v ≡ true = sym (p.rests v low) ∙ left_v in
      let new : among xs v ≡ false = rest_new (under m v) (among xs v) is_rest in
      let z : get_or (set w v 0) v 0 ≡ 0 = get_or-set_same w v 0 0 (omega (arith, p.long_w)) in
      record {
        greedy = rw (e, f) (
          low,
          is_rest,
          omega (arith, p.open_w v low left_v),
          (λ d h o. let l = p.rests d h ∙ o in omega (arith, most d (ltb-true d m (and_parts (under m d) _ o).0), p.open_w d h l)),
          p.greedy,
        );
        rests = λ d h. rw e (rests_more left (under m) xs v d (omega (arith, p.long_left, low-m)) (p.rests d h));
        bound = λ d h. rw e (⊎_elim
            (λ q. omega (arith, ap (λ x. get_or (set w v 0) x 0) q, z, added d h, towards_more L ls xs v d new))
            (λ ne. omega (arith, get_or-set_other w v d 0 0 ne, added d h, p.bound d h, towards_more L ls xs v d new))
            (cases_eq d v));
        open_w = λ d h o. rw e (⊎_elim
            (λ q. absurd (true≢false (sym o ∙ (ap (flagged (set left v false)) q ∙ gone))))
            (λ ne. omega (arith, get_or-set_other w v d 0 0 ne, added d h, p.open_w d h (sym (get_or-set_other left v d false false ne) ∙ o), towards_more L ls xs v d new))
            (cases_eq d v));
        shut_w = λ d h o. rw e (⊎_elim
            (λ q. omega (arith, ap (λ x. get_or (set w v 0) x 0) q, z, added d (omega (arith, p.most)), towards_more L ls xs v d new))
            (λ ne. omega (arith, get_or-set_other w v d 0 0 ne, added d (omega (arith, p.most)), p.shut_w d h (sym (get_or-set_other left v d false false ne) ∙ o), towards_more L ls xs v d new))
            (cases_eq d v));
        fits = omega (arith, r.1, p.fits, length-append ps (q ∷ []));
        most = p.most;
        long_left = length-set left v false ∙ p.long_left;
        long_w = long;
      }
    where
      gone : flagged (set left v false) v ≡ false
      gone = get_or-set_same left v false false (omega (arith, p.long_left, p.most))

  -- the same by the weights, and fewer are left
  pub placing_next : (v : ℕ) (ps' : List Place) (w' : List ℕ) → v < m → 2048 ≤ get_or w v 0 → Placing L ls (set left v false) w' ps' m
      → Placing L ls (lefts w' m) w' ps' m × (flags (lefts w' m) < flags left)
  placing_next v ps' w' low big q =
      let e = lefts_are L ls (set left v false) w' ps' m short q in
      (subst (λ z. Placing L ls z w' ps' m) e q, omega (arith, ap flags e, (room v low big).1))

  pub placing_all : ((k : ℕ) → k < m → get_or w k 0 < 2048)
      → Ordered L ls (under m) (labels_of ps) (weights_of ps) m
  placing_all none =
      subst (λ z. Ordered L ls (under m) (labels_of ps) (weights_of ps) z) all (record {
        greedy = p.greedy;
        whole = λ d h s. and_no (under m d) (among (placed ps) d) (sym (every d h) ∙ p.rests d h) s;
        fits = omega (arith, p.fits, p.most);
        long_places = length-map ps (λ p. p.label);
        long_weights = length-map ps (λ p. p.weight);
      })
    where
      every : (d : ℕ) → d < 128 → flagged left d ≡ false
      every d h = ⊎_elim
          (λ l. ⊎_elim (λ t. absurd (omega (arith, none d l, p.open_w d h t))) (λ f. f) (cases_Bool (flagged left d)))
          (λ g. p.rests d h ∙ and_left (under m d) _ (le-ltb d m g)) (cases_lt d m)

      all : length ps ≡ m
      all = omega (arith, p.fits, none_flags left (λ k l. every k (omega (arith, l, p.long_left, p.most))))

pub cleared : (w : List ℕ) (v d b : ℕ) → v < length w → get_or w d 0 ≤ b → get_or (set w v 0) d 0 ≤ b
cleared w v d b h l = ⊎_elim
    (λ q. omega (arith, ap (λ x. get_or (set w v 0) x 0) q, get_or-set_same w v 0 0 h))
    (λ ne. omega (arith, get_or-set_other w v d 0 0 ne))
    (cases_eq d v)
