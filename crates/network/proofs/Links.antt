-- Chains of none or more cables: joined, turned round, carried over to another kind of cable. Assumes nothing.
use Rattle.std.proofs.Common.{◌≡◌, ℕ, Bool, sym, refl, ap, ◌∙◌, inl, inr}
use Rattle.network.specs.Chains.{Leads, Linked, stay, hop}
use Rattle.network.specs.declared.cable.Cable.{Cable}

pub leads_back : (c : Cable) (x y : ℕ) → Leads c x y → Leads c y x
leads_back c x y (inl h) = inr h
leads_back c x y (inr h) = inl h

pub linked_join : {P : Cable → Type 0} {x y z : ℕ} → Linked P x y → Linked P y z → Linked P x z
linked_join stay k = k
linked_join (hop c p j r) k = hop c p j (linked_join r k)

pub linked_over : {P : Cable → Type 0} (c : Cable) → P c → Linked P c.a c.b
linked_over c p = hop c p (inl (refl, refl)) stay

pub linked_back : {P : Cable → Type 0} (c : Cable) → P c → Linked P c.b c.a
linked_back c p = hop c p (inr (refl, refl)) stay

pub linked_flip : {P : Cable → Type 0} {x y : ℕ} → Linked P x y → Linked P y x
linked_flip stay = stay
linked_flip (hop {x = x} {y = y} c p j r) = linked_join (linked_flip r) (hop c p (leads_back c x y j) stay)

pub linked_map : {P Q : Cable → Type 0} → ((c : Cable) → P c → Q c) → {x y : ℕ} → Linked P x y → Linked Q x y
linked_map f stay = stay
linked_map f (hop c p j r) = hop c (f c p) j (linked_map f r)

leads_same : (side : ℕ → Bool) (c : Cable) (x y : ℕ) → side c.a ≡ side c.b → Leads c x y → side x ≡ side y
leads_same side c x y e (inl (f, g)) = sym (ap side f) ∙ e ∙ ap side g
leads_same side c x y e (inr (f, g)) = sym (ap side g) ∙ sym e ∙ ap side f

-- a chain stays on a side that no cable of its kind crosses
pub linked_same : {P : Cable → Type 0} (side : ℕ → Bool) → ((c : Cable) → P c → side c.a ≡ side c.b) → {x y : ℕ} → Linked P x y → side x ≡ side y
linked_same side one stay = refl
linked_same side one (hop {x = x} {y = y} c p j r) = leads_same side c x y (one c p) j ∙ linked_same side one r
