-- Sides of a split: two ends are on one side or on different ones, and sides that agree on the set have as many links across.
use Rattle.std.proofs.Common.{◌≡◌, ℕ, ◌<◌, Bool, true, false, not, ◌⊎◌, List, sym, refl, ap, ◌∙◌, inl, inr}
use Rattle.std.proofs.ByRecursion.{All-weaker}
use Rattle.std.proofs.lemmas.Bool.{true≢false}
use Rattle.network.specs.Sets.{differ}
use Rattle.cuts.specs.declared.adjacency.link.Link.{Link}
use Rattle.cuts.specs.Links.{one, across, Ends}
use Rattle.cuts.proofs.Tallies.{sum_by_same, all_of}

pub same_or_not : (x y : Bool) → (x ≡ y) ⊎ (x ≡ y → ⊥)
same_or_not true true = inl refl
same_or_not true false = inr true≢false
same_or_not false true = inr (λ e. true≢false (sym e))
same_or_not false false = inl refl

pub differ_yes : (x y : Bool) → (x ≡ y → ⊥) → differ x y ≡ true
differ_yes true true n = absurd (n refl)
differ_yes true false n = refl
differ_yes false true n = refl
differ_yes false false n = absurd (n refl)

pub not_other : (x y : Bool) → (x ≡ y → ⊥) → x ≡ not y
not_other true true n = absurd (n refl)
not_other true false n = refl
not_other false true n = refl
not_other false false n = absurd (n refl)

same_ends : (A B : ℕ → Bool) (l : Link) → A l.a ≡ B l.a → A l.b ≡ B l.b → one (differ (A l.a) (A l.b)) ≡ one (differ (B l.a) (B l.b))
same_ends A B l ea eb = ap (λ x. one (differ x (A l.b))) ea ∙ ap (λ x. one (differ (B l.a) x)) eb

-- two sides that agree below 128
pub across_same : (A B : ℕ → Bool) (ls : List Link) → ((d : ℕ) → d < 128 → A d ≡ B d) → across A ls ≡ across B ls
across_same A B ls h = sum_by_same _ _ ls (all_of _ (λ l. same_ends A B l (h l.a l.low) (h l.b l.high)) ls)

-- two sides that agree on S, which has each end
pub across_same_on : (S A B : ℕ → Bool) (ls : List Link) → Ends (λ d. d) S ls → ((d : ℕ) → d < 128 → S d ≡ true → A d ≡ B d) → across A ls ≡ across B ls
across_same_on S A B ls e h =
    sum_by_same _ _ ls (All-weaker _ _ (λ l i. same_ends A B l (h l.a l.low i.0) (h l.b l.high i.1)) ls e)
