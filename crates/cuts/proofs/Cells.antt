-- What one more link does to the matrix of links.
use Rattle.std.proofs.Common.{◌≡◌, ℕ, ◌+◌, ◌<◌, cond, ◌&&◌, eqb, List, [], length, get_or, set, sym, ap, subst, ⊎_elim, ◌∙◌, arith}
use Rattle.std.proofs.lemmas.List.{get_or-set_same, get_or-set_other}
use Rattle.std.proofs.lemmas.Bool.{cases_eq, eq-eqb, ne_eqb, and_left}
use Rattle.std.proofs.lemmas.Bool.Decides.{nat_tests}
use Rattle.cuts.specs.Links.{cell, one}

pub bumped : (m : List (List ℕ)) (row : List ℕ) (x v y u : ℕ) → x < length m
    → get_or row u 0 ≡ cell m x u + one (eqb u v)
    → cell (set m x row) y u ≡ cell m y u + one (eqb y x && eqb u v)
bumped m row x v y u h more = ⊎_elim
    (λ e. rw (eq-eqb y x e) (subst (λ z. cell (set m x row) z u ≡ cell m z u + one (eqb u v)) (sym e) (ap (λ r. get_or r u 0) (get_or-set_same m x row [] h) ∙ more)))
    (λ ne. omega (arith, ap (λ r. get_or r u 0) (get_or-set_other m x y row [] ne), ap (λ b. one b) (and_left (eqb y x) (eqb u v) (ne_eqb y x ne))))
    (cases_eq y x)

pub both_ways : (a b y u : ℕ) → (a ≡ b → ⊥) → one (eqb y a && eqb u b) + one (eqb y b && eqb u a) ≡ one (cond (eqb a y) (eqb b u) (eqb b y && eqb a u))
both_ways a b y u ne = grind (arith, nat_tests)

pub one_way : (a b y u : ℕ) → a ≡ b → one (eqb y a && eqb u b) ≡ one (cond (eqb a y) (eqb b u) (eqb b y && eqb a u))
one_way a b y u e = grind (arith, nat_tests)
