-- Keeping the cables of a set as links, by one more cable at a time; what is least over the links is least over the cables.
use Rattle.std.proofs.Common.{◌≡◌, ℕ, ◌+◌, ◌<◌, ◌≤◌, Bool, true, false, ◌&&◌, List, [], ◌∷◌, ◌++◌, length, get_or, take, sym, ap, ◌∙◌, subst, arith}
use Rattle.std.proofs.ByRecursion.{All-push}
use Rattle.std.proofs.lemmas.List.{length-append, length-take, take_all}
use Rattle.std.proofs.lemmas.List.Sums.{sum_by_push, sum_by_more, count_by_more_no}
use Rattle.std.proofs.lemmas.Bool.{and_parts, and_left}
use Rattle.network.specs.Sets.{belongs, differ, crosses, crossings}
use Rattle.network.specs.declared.cable.Cable.{Cable}
use Rattle.cuts.specs.declared.adjacency.link.Link.{Link}
use Rattle.cuts.specs.Finding.{Finds}
use Rattle.cuts.specs.Links.{Keeps, spans, one}
use Rattle.cuts.specs.Groups.{Weakest}

module _ (cs : List Cable) (S : ℕ → Bool) (links : List Link) (i : ℕ) (z : Cable) (h : i < length cs) (p : Keeps (take i cs) S links) where
  -- a cable that does not belong
  pub keeps_no : belongs S (get_or cs i z) ≡ false → Keeps (take (i + 1) cs) S links
  keeps_no b = record {
    fits = omega (arith, p.fits, length-take i cs, length-take (i + 1) cs);
    ends = p.ends;
    same = λ A. p.same A ∙ sym (count_by_more_no (crosses S A) cs i z h (and_left _ _ b));
  }

  -- a cable that belongs
  pub keeps_yes : (l : Link) → belongs S (get_or cs i z) ≡ true → l.a ≡ (get_or cs i z).a → l.b ≡ (get_or cs i z).b
      → Keeps (take (i + 1) cs) S (links ++ l ∷ [])
  keeps_yes l b ea eb =
      let s = and_parts (S (get_or cs i z).a) (S (get_or cs i z).b) b in
      record {
        fits = omega (arith, p.fits, length-append links (l ∷ []), length-take i cs, length-take (i + 1) cs);
        ends = All-push _ links l p.ends (ap S ea ∙ s.0, ap S eb ∙ s.1);
        same = λ A.
            sum_by_push (λ x. one (spans A x)) links l
            ∙ (ap (λ m. m + one (spans A l)) (p.same A)
            ∙ (ap (λ m. crossings (take i cs) S A + m) (step A)
            ∙ sym (sum_by_more (λ x. one (crosses S A x)) cs i z h)));
      }
    where
      step : (A : ℕ → Bool) → one (spans A l) ≡ one (crosses S A (get_or cs i z))
      step A =
          ap (λ x. one (differ (A x) (A l.b))) ea
          ∙ (ap (λ x. one (differ (A (get_or cs i z).a) (A x))) eb
          ∙ ap (λ x. one (x && differ (A (get_or cs i z).a) (A (get_or cs i z).b))) (sym b))

pub keeps_all : (cs : List Cable) (S : ℕ → Bool) (x : List Link) (i : ℕ) → length cs ≤ i → Keeps (take i cs) S x → Keeps cs S x
keeps_all cs S x i h p = subst (λ z. Keeps z S x) (take_all i cs h) p

pub finds_from : (cs : List Cable) (S : ℕ → Bool) (links : List Link) (low floor k : ℕ) (side : ℕ → Bool) → low ≤ floor → Keeps cs S links → Weakest links S low k side → Finds cs S floor k side
finds_from cs S links low floor k side below p w = record {
  split = w.split;
  attained = sym (p.same side) ∙ w.attained;
  least = λ above A s. omega (arith, p.same A, w.least (omega arith) A s);
}
