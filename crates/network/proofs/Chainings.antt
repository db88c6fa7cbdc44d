-- Chains of one or more cables: joined, turned round, and drawn from chains of none or more. Assumes nothing.
use Rattle.std.proofs.Common.{◌≡◌, ℕ, Bool, true, [], ◌∷◌, sym, refl, ◌∙◌, subst₂, inl, inr, ⊎_elim}
use Rattle.std.proofs.lemmas.Bool.{cases_eq}
use Rattle.network.specs.Sets.{DeviceSet}
use Rattle.network.specs.Lists.{member}
use Rattle.network.specs.Chains.{Linked, stay, hop, Join}
use Rattle.network.specs.Marks.{Chain, Chained, Touched}
use Rattle.network.specs.declared.cable.Cable.{Cable}
use Rattle.network.proofs.Members.{here, only}
use Rattle.network.proofs.Links.{leads_back, linked_join, linked_flip}

module _ (P : Cable → Type 0) where
  pub chain_linked : (x y : ℕ) → Chain P x y → Linked P x y
  chain_linked x y (c, z, p, j, l) = hop c p j l

  pub chain_on : (x y z : ℕ) → Chain P x y → Linked P y z → Chain P x z
  chain_on x y z (c, w, p, j, l) k = (c, w, p, j, linked_join l k)

  linked_chain_on : {x y z : ℕ} → Linked P x y → Chain P y z → Chain P x z
  linked_chain_on stay k = k
  linked_chain_on {z = z} (hop {y = y} c p j r) k = (c, y, p, j, chain_linked y z (linked_chain_on r k))

  pub chain_join : (x y z : ℕ) → Chain P x y → Chain P y z → Chain P x z
  chain_join x y z h k = chain_on x y z h (chain_linked y z k)

  pub chain_flip : (x y : ℕ) → Chain P x y → Chain P y x
  chain_flip x y (c, z, p, j, l) = linked_chain_on (linked_flip l) (c, x, p, leads_back c x z j, stay)

  linked_chain : {x y : ℕ} → (x ≡ y → ⊥) → Linked P x y → Chain P x y
  linked_chain n stay = absurd (n refl)
  linked_chain n (hop {y = y} c p j r) = (c, y, p, j, r)

  -- two devices or more that are joined are chained: from each there is a way to another and back
  pub joined_chained : (S : ℕ → Bool) → DeviceSet S → Join P S → Chained P S
  joined_chained S set join x y ix iy = ⊎_elim
      (λ e. by set.other set.other_in (λ f. set.apart (sym e ∙ f)))
      (λ n. by set.one set.one_in n)
      (cases_eq x set.one)
    where
      by : (z : ℕ) → S z ≡ true → (x ≡ z → ⊥) → Chain P x y
      by z iz n = chain_on x z y (linked_chain n (join x z ix iz)) (join z y iz iy)

  pub chained_joined : (S : ℕ → Bool) → Chained P S → Join P S
  chained_joined S ch x y ix iy = chain_linked x y (ch x y ix iy)

  -- one device: there and back
  pub touched_chained : (x : ℕ) → Touched P x → Chained P (member (x ∷ []))
  touched_chained x t u v mu mv = subst₂ (Chain P) (only x u mu) (only x v mv) (round t)
    where
      round : Touched P x → Chain P x x
      round (c, p, inl e) = (c, c.b, p, inl (e, refl), hop c p (inr (e, refl)) stay)
      round (c, p, inr e) = (c, c.a, p, inr (refl, e), hop c p (inl (refl, e)) stay)

  pub chained_touched : (x : ℕ) → Chained P (member (x ∷ [])) → Touched P x
  chained_touched x ch = first (ch x x (here x []) (here x []))
    where
      first : Chain P x x → Touched P x
      first (c, z, p, j, l) = (c, p, ⊎_elim (λ h. inl h.0) (λ h. inr h.1) j)
