-- Words of the method, not of the subject: maximum adjacency orders. Assumes nothing.
--   under n d                 d is below n
--   flags xs                  how many flags are set
--   Most w n r                r is the greatest of the first n
--   Heaviest w n r            r has the greatest of the first n, and it is 2048 or more; or all of them are less
--   among xs d                d is one of xs
--   toward L xs v l           the link joins v to one of xs
--   towards L ls xs v         how many links do: the weight of v
--   rest S xs d               d is of S and not one of xs
--   Greedy L ls S xs ks       the labels xs, the latest first, were each a heaviest of the rest of S when placed, with the weights ks
--   latest xs n               the first n of xs, the latest first
--   labels_of ps              the labels that were placed
--   weights_of ps             what each weighed then
--   Ordered L ls S xs ks n    the labels xs, n of them, are all of S, placed so, with the weights ks
use Rattle.std.specs.Prelude.{◌≡◌, ℕ, ◌<◌, ◌≤◌, Bool, true, false, cond, not, ◌&&◌, ◌||◌, List, [], ◌∷◌, reverse, length, map, take, count_by, Option, MatchOption, ◌==◌, nat_lt, slice_index}
use Rattle.cuts.specs.declared.adjacency.link.Link.{Link}
use Rattle.cuts.specs.declared.adjacency.order.Place.{Place}

abbrev pub under : ℕ → ℕ → Bool
under n d = nat_lt d n

abbrev pub flags : List Bool → ℕ
flags xs = count_by (λ b. b) xs

pub record Most (w : List ℕ) (n r : ℕ) : Type 0 where
  pub top : (k : ℕ) → k < n → slice_index w k ≤ r
  pub met : (k : ℕ) × (k < n) × (slice_index w k ≡ r)

abbrev pub Heaviest : List ℕ → ℕ → Option ℕ → Type 0
Heaviest w n r =
    MatchOption r ((k : ℕ) → k < n → slice_index w k < 2048)
    (λ m. (m < n) × (2048 ≤ slice_index w m) × ((k : ℕ) → k < n → slice_index w k ≤ slice_index w m))

abbrev pub among : List ℕ → ℕ → Bool
among [] d = false
among (x ∷ xs) d = x == d || among xs d

abbrev pub toward : (ℕ → ℕ) → List ℕ → ℕ → Link → Bool
toward L xs v l = cond (L l.a == v) (among xs (L l.b)) (L l.b == v && among xs (L l.a))

abbrev pub towards : (ℕ → ℕ) → List Link → List ℕ → ℕ → ℕ
towards L ls xs v = count_by (toward L xs v) ls

abbrev pub rest : (ℕ → Bool) → List ℕ → ℕ → Bool
rest S xs d = S d && not (among xs d)

abbrev pub Greedy : (ℕ → ℕ) → List Link → (ℕ → Bool) → List ℕ → List ℕ → Type 0
Greedy L ls S [] [] = Unit {0}
Greedy L ls S [] (k ∷ ks) = ⊥
Greedy L ls S (v ∷ xs) [] = ⊥
Greedy L ls S (v ∷ xs) (k ∷ ks) =
    (v < 128)
    × (rest S xs v ≡ true)
    × (k ≡ towards L ls xs v)
    × ((d : ℕ) → d < 128 → rest S xs d ≡ true → towards L ls xs d ≤ k)
    × Greedy L ls S xs ks

abbrev pub labels_of : List Place → List ℕ
labels_of ps = map (λ p. p.label) ps

abbrev pub weights_of : List Place → List ℕ
weights_of ps = map (λ p. p.weight) ps

abbrev pub latest : List ℕ → ℕ → List ℕ
latest xs n = reverse (take n xs)

pub record Ordered (L : ℕ → ℕ) (ls : List Link) (S : ℕ → Bool) (places weights : List ℕ) (n : ℕ) : Type 0 where
  pub greedy : Greedy L ls S (latest places n) (latest weights n)
  pub whole : (d : ℕ) → d < 128 → S d ≡ true → among (latest places n) d ≡ true
  pub fits : n ≤ 128
  pub long_places : length places ≡ n
  pub long_weights : length weights ≡ n
