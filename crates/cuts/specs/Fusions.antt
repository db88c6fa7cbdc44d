-- Words of the method, not of the subject: fusing labels without the loss of a lesser split. Assumes nothing.
--   Two n B                                both sides of B have a label below n
--   Held L ls n best same                  for each side with fewer than `best` links across there is one with no more of
--                                          which `same` holds
--   Movable L ls n best to                 so for being the same on each label and on what it is moved to
--   Moved L ls n best to                   the labels below n are moved once, and movable so
--   Fused L ls n best last into firsts c   the labels below n became labels below c, `firsts` has one that became each; held so
--                                          for being the same on what became one; fewer labels where `best` is at most `last`
--   pairs m degrees used a b               two labels, not used, where half of the links of the first go to the second
use Rattle.std.specs.Prelude.{◌≡◌, ℕ, ◌+◌, ◌<◌, ◌≤◌, Bool, true, false, not, ◌&&◌, ◌⊎◌, List, ◌==◌, nat_le, slice_index}
use Rattle.cuts.specs.Links.{label, flagged, cell, across}
use Rattle.cuts.specs.declared.adjacency.link.Link.{Link}

abbrev pub Two : ℕ → (ℕ → Bool) → Type 0
Two n B = ((x : ℕ) × (x < n) × (B x ≡ true)) × ((x : ℕ) × (x < n) × (B x ≡ false))

abbrev pub Held : (ℕ → ℕ) → List Link → ℕ → ℕ → ((ℕ → Bool) → Type 0) → Type 0
Held L ls n best same = (B : ℕ → Bool) → Two n B
    → ((C : ℕ → Bool) × Two n C × same C × (across (λ d. C (L d)) ls ≤ across (λ d. B (L d)) ls)) ⊎ (best ≤ across (λ d. B (L d)) ls)

abbrev pub Movable : (ℕ → ℕ) → List Link → ℕ → ℕ → (ℕ → ℕ) → Type 0
Movable L ls n best to = Held L ls n best (λ C. (x : ℕ) → x < n → C (to x) ≡ C x)

pub record Moved (L : ℕ → ℕ) (ls : List Link) (n best : ℕ) (to : List ℕ) : Type 0 where
  pub movable : Movable L ls n best (label to)
  pub low : (x : ℕ) → x < n → label to x < n
  pub still : (x : ℕ) → x < n → label to (label to x) ≡ label to x

pub record Fused (L : ℕ → ℕ) (ls : List Link) (n best last : ℕ) (into firsts : List ℕ) (c : ℕ) : Type 0 where
  pub below : (v : ℕ) → v < n → label into v < c
  pub firsts_low : (y : ℕ) → y < c → label firsts y < n
  pub firsts_own : (y : ℕ) → y < c → label into (label firsts y) ≡ y
  pub seen : Held L ls n best (λ C. (v : ℕ) → v < n → C (label firsts (label into v)) ≡ C v)
  pub less : best ≤ last → c < n
  pub few : c ≤ n
  pub some : 1 ≤ c

abbrev pub pairs : List (List ℕ) → List ℕ → List Bool → ℕ → ℕ → Bool
pairs m degrees used a b = not (a == b) && (not (flagged used a) && (not (flagged used b) && nat_le (slice_index degrees a) (cell m a b + cell m a b)))
