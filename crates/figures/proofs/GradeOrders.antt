-- The grades of the two yardsticks keep the laws of an order. Assumes nothing.
use Rattle.std.proofs.Common.{◌≡◌, ℕ, Bool, true, leb, ◌⊎◌, refl, ap, ap₂, inl, inr, ⊎_elim, arith}
use Rattle.std.proofs.lemmas.Bool.{false≢true, leb-true, le-leb, cases_lt}
use Rattle.network.specs.declared.cable.Medium.{Medium}
use Rattle.network.specs.declared.cable.Medium.TheVariants.{Copper, Fibre}
use Rattle.forest.specs.Order.{Laws, medium_over, run_over}
use Rattle.figures.specs.Grades.{metres, shorter}

leb_either : (m n : ℕ) → (leb m n ≡ true) ⊎ (leb n m ≡ true)
leb_either m n = ⊎_elim (λ lt. inl (le-leb m n (omega arith))) (λ le. inr (le-leb n m le)) (cases_lt m n)

leb_chain : (l m n : ℕ) → leb l m ≡ true → leb m n ≡ true → leb l n ≡ true
leb_chain l m n p q = le-leb l n (omega (arith, leb-true l m p, leb-true m n q))

leb_same : (m n : ℕ) → leb m n ≡ true → leb n m ≡ true → m ≡ n
leb_same m n p q = omega (arith, leb-true m n p, leb-true n m q)

medium_either : (a b : Medium) (x y : Bool) → (x ≡ true) ⊎ (y ≡ true) → (medium_over a b x ≡ true) ⊎ (medium_over b a y ≡ true)
medium_either Fibre Fibre x y e = e
medium_either Fibre Copper x y e = inl refl
medium_either Copper Fibre x y e = inr refl
medium_either Copper Copper x y e = e

medium_chain : (a b c : Medium) (x y z : Bool) → (x ≡ true → y ≡ true → z ≡ true) → medium_over a b x ≡ true → medium_over b c y ≡ true → medium_over a c z ≡ true
medium_chain Fibre Fibre Fibre x y z f p q = f p q
medium_chain Fibre Fibre Copper x y z f p q = refl
medium_chain Fibre Copper Fibre x y z f p q = absurd (false≢true q)
medium_chain Fibre Copper Copper x y z f p q = refl
medium_chain Copper Fibre Fibre x y z f p q = absurd (false≢true p)
medium_chain Copper Fibre Copper x y z f p q = absurd (false≢true p)
medium_chain Copper Copper Fibre x y z f p q = absurd (false≢true q)
medium_chain Copper Copper Copper x y z f p q = f p q

medium_same : (a b : Medium) (x y : Bool) → medium_over a b x ≡ true → medium_over b a y ≡ true → (a ≡ b) × (x ≡ true) × (y ≡ true)
medium_same Fibre Fibre x y p q = (refl, p, q)
medium_same Fibre Copper x y p q = absurd (false≢true q)
medium_same Copper Fibre x y p q = absurd (false≢true p)
medium_same Copper Copper x y p q = (refl, p, q)

pub run_laws : Laws run_over
run_laws = record {
  either = λ a b. medium_either a.medium b.medium (leb a.length b.length) (leb b.length a.length) (leb_either a.length b.length);
  chain = λ a b c. medium_chain a.medium b.medium c.medium (leb a.length b.length) (leb b.length c.length) (leb a.length c.length) (leb_chain a.length b.length c.length);
  same = λ a b p q.
      let s = medium_same a.medium b.medium (leb a.length b.length) (leb b.length a.length) p q in
      ap₂ (λ m n. record { medium = m; length = n }) s.0 (leb_same a.length b.length s.1 s.2);
}

pub length_laws : Laws shorter
length_laws = record {
  either = λ a b. leb_either a.0 b.0;
  chain = λ a b c. leb_chain a.0 b.0 c.0;
  same = λ a b p q. ap metres (leb_same a.0 b.0 p q);
}
