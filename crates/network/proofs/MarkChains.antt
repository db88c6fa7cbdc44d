-- Marks tell which devices lie in one tied set, and so the strength of a list. Assumes nothing.
use Rattle.std.proofs.Common.{◌≡◌, ℕ, suc, ◌<◌, ◌≤◌, Bool, true, ◌⊎◌, ◌↔◌, List, [], ◌∷◌, Some, subst, subst₂, inl, inr, ⊎_elim, arith}
use Rattle.std.specs.List.{slice_get}
use Rattle.std.proofs.lemmas.Bool.{both_ways, and_parts, or_left, or_right, cases_Bool, cases_lt}
use Rattle.network.specs.Sets.{DeviceSet, WeakSplit, Tied, belongs}
use Rattle.network.specs.Lists.{member, Contains, ListStrength, ends}
use Rattle.network.specs.Chains.{Leads, Linked, stay, hop, Join, Stays}
use Rattle.network.specs.Marks.{OfDevices, Around, Marks, Strong, Chain, Chained, Touched}
use Rattle.network.specs.declared.cable.Cable.{Cable}
use Rattle.network.proofs.Members.{here, there, more_has, one_has, two_has, only}
use Rattle.network.proofs.Strengths.{weak_more, tied_less, list_at_least, list_strength}
use Rattle.network.proofs.Unions.{union, union_devices, union_tied}
use Rattle.network.proofs.Searches.{each_device, each_place}
use Rattle.network.proofs.Links.{linked_join, linked_flip, linked_map}
use Rattle.network.proofs.Labels.{nowhere, lost_nowhere, linked_or_parted}
use Rattle.network.proofs.Removals.{tied_holds}
use Rattle.network.proofs.Chainings.{joined_chained, chained_joined, touched_chained, chained_touched}

-- x and y lie in one device set that k ties
abbrev pub Together : List Cable → (k x y : ℕ) → Type 0
Together cs k x y = Around cs (x ∷ y ∷ []) k

together : (cs : List Cable) (k : ℕ) (S : ℕ → Bool) → DeviceSet S → Tied cs S k → (x y : ℕ) → S x ≡ true → S y ≡ true → Together cs k x y
together cs k S set tied x y ix iy = record { set = S; devices = set; has = two_has S x y ix iy; tied = tied }

module _ {cs : List Cable} {k x y : ℕ} (h : Together cs k x y) where
  pub from_in : h.set x ≡ true
  from_in = h.has x (here x (y ∷ []))

  pub to_in : h.set y ≡ true
  to_in = h.has y (there x y (y ∷ []) (here y []))

together_flip : (cs : List Cable) (k x y : ℕ) → Together cs k x y → Together cs k y x
together_flip cs k x y h = together cs k h.set h.devices h.tied y x (to_in h) (from_in h)

-- two such sets that share a device make one
around_union : (cs : List Cable) (k x : ℕ) (l m n : List ℕ) → member l x ≡ true → member m x ≡ true → (g : Around cs l k) (h : Around cs m k) → Contains (union g.set h.set) n → Around cs n k
around_union cs k x l m n i j g h has = record {
  set = union g.set h.set;
  devices = union_devices g.set h.set g.devices h.devices;
  has = has;
  tied = union_tied cs g.set h.set k x (g.has x i) (h.has x j) g.tied h.tied;
}

together_join : (cs : List Cable) (k x y z : ℕ) → Together cs k x y → Together cs k y z → Together cs k x z
together_join cs k x y z g h = around_union cs k y (x ∷ y ∷ []) (y ∷ z ∷ []) (x ∷ z ∷ []) (there x y (y ∷ []) (here y [])) (here y (z ∷ [])) g h
    (two_has (union g.set h.set) x z (or_left (g.set x) (h.set x) (from_in g)) (or_right (g.set z) (h.set z) (to_in h)))

-- a set for each listed device gives one for the list
gather : (cs : List Cable) (k x : ℕ) → Together cs k x x → (l : List ℕ) → ((y : ℕ) → member l y ≡ true → Together cs k x y) → Around cs (x ∷ l) k
gather cs k x h [] all = record { set = h.set; devices = h.devices; has = one_has h.set x (from_in h); tied = h.tied }
gather cs k x h (y ∷ l) all =
    let r = gather cs k x h l (λ z m. all z (there y z l m)) in
    let g = all y (here y l) in
    let old : (d : ℕ) → member (x ∷ l) d ≡ true → union r.set g.set d ≡ true = λ d m. or_left (r.set d) (g.set d) (r.has d m) in
    around_union cs k x (x ∷ l) (x ∷ y ∷ []) (x ∷ y ∷ l) (here x l) (here x (y ∷ [])) r g
    (more_has (union r.set g.set) x (y ∷ l) (old x (here x l))
    (more_has (union r.set g.set) y l (or_right (r.set y) (g.set y) (to_in g)) (λ d m. old d (there x d l m))))

-- a tied set is joined by its own cables
tied_joined : (cs : List Cable) (S : ℕ → Bool) (k : ℕ) → 0 < k → Tied cs S k → Join (Stays cs S nowhere) S
tied_joined cs S k pos tied = tied_holds cs S k tied nowhere (omega (arith, lost_nowhere S cs))

-- a set is joined by its own cables, or some split has no crossings
joined_or_apart : (cs : List Cable) (S : ℕ → Bool) → DeviceSet S → Join (Stays cs S nowhere) S ⊎ WeakSplit cs S 0
joined_or_apart cs S set = ⊎_elim
    (λ all. inl (λ u v iu iv. linked_join (linked_flip (all u iu)) (all v iv)))
    (λ w. inr w)
    (each_device S (λ d. Linked (Stays cs S nowhere) set.one d) (WeakSplit cs S 0) set
    (λ d i. subst (λ n. Linked (Stays cs S nowhere) set.one d ⊎ WeakSplit cs S n) (lost_nowhere S cs) (linked_or_parted nowhere S cs set.one d set.one_in i)))

module _ (cs : List Cable) (mark : ℕ → ℕ) (ms : Marks cs mark) where
  cable_together : (k : ℕ) → 0 < k → (c : Cable) → Strong cs mark k c → Together cs k c.a c.b
  cable_together k pos c (i, st, le) =
      let t = (ms i c st).attained in
      record { set = t.set; devices = t.devices; has = t.has; tied = tied_less cs t.set k (mark i) le t.strong.tied }

  leads_together : (k : ℕ) → 0 < k → (c : Cable) → Strong cs mark k c → (x y : ℕ) → Leads c x y → Together cs k x y
  leads_together k pos c p x y (inl (e, f)) = subst₂ (Together cs k) e f (cable_together k pos c p)
  leads_together k pos c p x y (inr (e, f)) = subst₂ (Together cs k) f e (together_flip cs k c.a c.b (cable_together k pos c p))

  linked_together : (k : ℕ) → 0 < k → {x y z : ℕ} → Together cs k x y → Linked (Strong cs mark k) y z → Together cs k x z
  linked_together k pos h stay = h
  linked_together k pos {x} h (hop {x = y} {y = w} c p j r) = linked_together k pos (together_join cs k x y w h (leads_together k pos c p y w j)) r

  pub chain_together : (k : ℕ) → 0 < k → (x y : ℕ) → Chain (Strong cs mark k) x y → Together cs k x y
  chain_together k pos x y (c, z, p, j, l) = linked_together k pos (leads_together k pos c p x z j) l

  -- within a set that k ties each cable has a mark of k or more
  stays_strong : (k : ℕ) (S : ℕ → Bool) → DeviceSet S → Tied cs S k → (c : Cable) → Stays cs S nowhere c → Strong cs mark k c
  stays_strong k S set tied c (i, st, g, m) =
      let r = and_parts (S c.a) (S c.b) m in
      (i, st, list_at_least cs (ends c) k (mark i) (ms i c st) S set (two_has S c.a c.b r.0 r.1) tied)

  pub set_chained : (k : ℕ) → 0 < k → (S : ℕ → Bool) → DeviceSet S → Tied cs S k → Chained (Strong cs mark k) S
  set_chained k pos S set tied = joined_chained (Strong cs mark k) S set
      (λ x y ix iy. linked_map (stays_strong k S set tied) (tied_joined cs S k pos tied x y ix iy))

  chained_around : (k : ℕ) → 0 < k → (l : List ℕ) (x : ℕ) → member l x ≡ true → Chained (Strong cs mark k) (member l) → Around cs l k
  chained_around k pos l x i ch =
      let g = gather cs k x (chain_together k pos x x (ch x x i i)) l (λ y m. chain_together k pos x y (ch x y i m)) in
      record { set = g.set; devices = g.devices; has = λ d m. g.has d (there x d l m); tied = g.tied }

  -- each cable of the set has a mark over k, or some split has k crossings or fewer
  rich_or_weak : (k : ℕ) (S : ℕ → Bool) → DeviceSet S → ((i : ℕ) (c : Cable) → slice_get cs i ≡ Some c → belongs S c ≡ true → k < mark i) ⊎ WeakSplit cs S k
  rich_or_weak k S set = each_place (λ i c. belongs S c ≡ true → k < mark i) (WeakSplit cs S k) cs
      (λ i c st. ⊎_elim
      (λ m. ⊎_elim (λ lt. inl (λ _. lt)) (λ le. inr (poor i c st m le)) (cases_lt k (mark i)))
      (λ o. inl (λ m. absurd (both_ways (belongs S c) o m)))
      (cases_Bool (belongs S c)))
    where
      poor : (i : ℕ) (c : Cable) → slice_get cs i ≡ Some c → belongs S c ≡ true → mark i ≤ k → WeakSplit cs S k
      poor i c st m le =
          let r = and_parts (S c.a) (S c.b) m in
          weak_more cs S (mark i) k le ((ms i c st).bound S set (two_has S c.a c.b r.0 r.1))

  -- a set that contains a list that no marks over k chain has a split with k crossings or fewer
  unchained_weak : (k : ℕ) (l : List ℕ) → (Chained (Strong cs mark (suc k)) (member l) → ⊥) → (S : ℕ → Bool) → DeviceSet S → Contains S l → WeakSplit cs S k
  unchained_weak k l loose S set has = ⊎_elim
      (λ rich. ⊎_elim (λ join. absurd (loose (chained rich join))) (λ w. weak_more cs S 0 k (omega arith) w) (joined_or_apart cs S set))
      (λ w. w)
      (rich_or_weak k S set)
    where
      chained : ((i : ℕ) (c : Cable) → slice_get cs i ≡ Some c → belongs S c ≡ true → k < mark i) → Join (Stays cs S nowhere) S → Chained (Strong cs mark (suc k)) (member l)
      chained rich join x y mx my = joined_chained (Strong cs mark (suc k)) S set
          (λ u v iu iv. linked_map (λ c (i, st, g, m). (i, st, omega (arith, rich i c st m))) (join u v iu iv)) x y (has x mx) (has y my)

  pub strength_chained : (l : List ℕ) (k : ℕ) → ListStrength cs l k → 0 < k → Chained (Strong cs mark k) (member l)
  strength_chained l k s pos x y mx my =
      let t = s.attained in
      set_chained k pos t.set t.devices t.strong.tied x y (t.has x mx) (t.has y my)

  strength_loose : (l : List ℕ) (x : ℕ) → member l x ≡ true → (k : ℕ) → ListStrength cs l k → Chained (Strong cs mark (suc k)) (member l) → ⊥
  strength_loose l x i k s ch =
      let g = chained_around (suc k) (omega arith) l x i ch in
      omega (arith, list_at_least cs l (suc k) k s g.set g.devices g.has g.tied)

  chained_strength : (l : List ℕ) (x : ℕ) → OfDevices l → member l x ≡ true → (k : ℕ) → (0 < k → Chained (Strong cs mark k) (member l)) → (Chained (Strong cs mark (suc k)) (member l) → ⊥) → ListStrength cs l k
  chained_strength l x low i k ch loose = list_strength cs l k low (unchained_weak k l loose) (λ pos. chained_around k pos l x i (ch pos))

  -- two devices lie in one set that k ties just if cables marked k or more chain them
  pub together_chain : (k : ℕ) → 0 < k → (x y : ℕ) → Together cs k x y ↔ Chain (Strong cs mark k) x y
  together_chain k pos x y = (
    (λ h. set_chained k pos h.set h.devices h.tied x y (from_in h) (to_in h)),
    chain_together k pos x y,
  )

  -- the strength of a list is the highest mark whose cables chain it
  pub list_chained : (l : List ℕ) (x : ℕ) → OfDevices l → member l x ≡ true → (k : ℕ)
      → ListStrength cs l k ↔ ((0 < k → Chained (Strong cs mark k) (member l)) × (Chained (Strong cs mark (suc k)) (member l) → ⊥))
  list_chained l x low i k = (
    (λ s. (strength_chained l k s, strength_loose l x i k s)),
    (λ h. chained_strength l x low i k h.0 h.1),
  )

  -- for two devices or more, it is the highest mark whose cables join them
  pub several_joined : (l : List ℕ) → DeviceSet (member l) → (k : ℕ)
      → ListStrength cs l k ↔ ((0 < k → Join (Strong cs mark k) (member l)) × (Join (Strong cs mark (suc k)) (member l) → ⊥))
  several_joined l set k =
      let e = list_chained l set.one set.below set.one_in k in (
        (λ t. let r = e.0 t in (
          (λ pos. chained_joined (Strong cs mark k) (member l) (r.0 pos)),
          (λ h. r.1 (joined_chained (Strong cs mark (suc k)) (member l) set h)),
        )),
        (λ h. e.1 (
          (λ pos. joined_chained (Strong cs mark k) (member l) set (h.0 pos)),
          (λ ch. h.1 (chained_joined (Strong cs mark (suc k)) (member l) ch)),
        )),
      )

  -- for one device, it is the highest mark of its cables
  pub lone_touched : (x : ℕ) → x < 128 → (k : ℕ)
      → ListStrength cs (x ∷ []) k ↔ ((0 < k → Touched (Strong cs mark k) x) × (Touched (Strong cs mark (suc k)) x → ⊥))
  lone_touched x b k =
      let e = list_chained (x ∷ []) x (λ d m. subst (λ y. y < 128) (only x d m) b) (here x []) k in (
        (λ t. let r = e.0 t in (
          (λ pos. chained_touched (Strong cs mark k) x (r.0 pos)),
          (λ h. r.1 (touched_chained (Strong cs mark (suc k)) x h)),
        )),
        (λ h. e.1 (
          (λ pos. touched_chained (Strong cs mark k) x (h.0 pos)),
          (λ ch. h.1 (chained_touched (Strong cs mark (suc k)) x ch)),
        )),
      )
