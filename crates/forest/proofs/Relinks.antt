-- Chains made anew cable by cable, and what a chain keeps. Assumes nothing.
use Rattle.std.proofs.Common.{◌≡◌, ℕ, sym, refl, ap, ◌∙◌, subst₂, inl, inr}
use Rattle.network.specs.declared.cable.Cable.{Cable}
use Rattle.network.specs.Chains.{Leads, Linked, stay, hop}
use Rattle.network.proofs.Links.{linked_join, linked_flip}

over_lead : {Q : Cable → Type 0} (c : Cable) (x y : ℕ) → Linked Q c.a c.b → Leads c x y → Linked Q x y
over_lead {Q} c x y k (inl (f, g)) = subst₂ (Linked Q) f g k
over_lead {Q} c x y k (inr (f, g)) = subst₂ (Linked Q) g f (linked_flip k)

-- where cables of the kind Q link the ends of each cable of the kind P, they link what P links
pub relink : {P Q : Cable → Type 0} → ((c : Cable) → P c → Linked Q c.a c.b) → {x y : ℕ} → Linked P x y → Linked Q x y
relink f stay = stay
relink f (hop {x = x} {y = y} c p j r) = linked_join (over_lead c x y (f c p) j) (relink f r)

-- a number that each cable has the same at both ends is the same along a chain
pub linked_keeps : {P : Cable → Type 0} (v : ℕ → ℕ) → ((c : Cable) → P c → v c.a ≡ v c.b) → {x y : ℕ} → Linked P x y → v x ≡ v y
linked_keeps v one stay = refl
linked_keeps v one (hop c p (inl (f, g)) r) = ap v (sym f) ∙ one c p ∙ ap v g ∙ linked_keeps v one r
linked_keeps v one (hop c p (inr (f, g)) r) = ap v (sym g) ∙ sym (one c p) ∙ ap v f ∙ linked_keeps v one r
