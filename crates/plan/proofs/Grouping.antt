-- The group of a list from the marks in a table, and as it is told. Assumes nothing.
use Rattle.std.proofs.Common.{◌≡◌, ℕ, zero, suc, ◌<◌, Bool, true, cond, leb, ◌↔◌, List, Some, sym, refl, ap, ◌∙◌, subst, arith}
use Rattle.network.specs.Chains.{Linked}
use Rattle.network.specs.Lists.{ListStrength, Group}
use Rattle.network.specs.Marks.{Strong}
use Rattle.network.specs.declared.cable.Cable.{Cable}
use Rattle.network.proofs.Groups.{group_chained}
use Rattle.network.proofs.Links.{linked_flip, linked_map}
use Rattle.network.proofs.Removals.{tied_holds, strength_parts}
use Rattle.cuts.specs.Members.{set_of}
use Rattle.cuts.specs.declared.devices.Devices.{Devices}
use Rattle.cuts.proofs.Membership.{held_low}
use Rattle.forest.specs.Places.{Reaching}
use Rattle.forest.proofs.Marks.{strong_reaches}
use Rattle.forest.proofs.Reaches.{linked_low, reaching_ranged}
use Rattle.plan.specs.Grading.{mark_at}
use Rattle.plan.specs.Bytes.{Written}
use Rattle.plan.specs.Questions.{marks, size, GroupOf}
use Rattle.plan.specs.Tables.{rows_of, table_cables}
use Rattle.cutsheets.specs.Listing.{Names}
use Rattle.plan.specs.declared.table.Table.{Table}
use Rattle.plan.proofs.Bytes.{marks_written}
use Rattle.plan.proofs.Strengths.{table_marks}

module _ (t : Table) (k x : ℕ) where
  abbrev cs : List Cable
  cs = table_cables t

  abbrev mark : ℕ → ℕ
  mark = mark_at (rows_of t)

  abbrev over : ℕ → ℕ → Bool
  over a b = leb b a

  reaching : {d : ℕ} → Linked (Strong cs mark k) x d → Linked (Reaching over cs mark k) x d
  reaching links = linked_map (λ c p. (strong_reaches cs mark k c).1 p) links

  -- what cables of the strength or more link to a listed device
  pub group_joined : (s : Devices) (l : List ℕ) → Names l (set_of s) → set_of s x ≡ true → 0 < k → ListStrength cs l k
      → (r : Devices) → ((d : ℕ) → d < 128 → (set_of r d ≡ true) ↔ Linked (Reaching over cs mark k) x d) → Group cs l k (set_of r)
  group_joined s l names ix pos strength r is = group_chained cs mark (table_marks t) l x (sym (names x) ∙ ix) k pos strength (set_of r) both
    where
      low : (d : ℕ) → Linked (Reaching over cs mark k) x d → d < 128
      low d links = linked_low (reaching_ranged over cs mark k t.lawful) (linked_flip links) (held_low s x ix)

      both : (d : ℕ) → (set_of r d ≡ true) ↔ Linked (Strong cs mark k) x d
      both d = (
        (λ i. linked_map (λ c p. (strong_reaches cs mark k c).0 p) ((is d (held_low r d i)).0 i)),
        (λ links. let far = reaching links in (is d (low d far)).1 far),
      )

-- a strength that is told is not 0
pub above_none : (k : ℕ) → (Some k ≡ Some 0 → ⊥) → 0 < k
above_none zero n = absurd (n refl)
above_none (suc k) n = omega arith

-- the group with the bytes that mark it
pub group_told : (cs : List Cable) (l bs bs' : List ℕ) (k n : ℕ) (s : Devices) → 0 < k → ListStrength cs l k → Group cs l k (set_of s)
    → Written (set_of s) 128 bs bs' → n ≡ size (set_of s) → GroupOf cs l bs' k n
group_told cs l bs bs' k n s pos strength whole w is =
    let e : set_of s ≡ marks bs' = sym (marks_written s bs bs' w) in
    let group : Group cs l k (marks bs') = subst (Group cs l k) e whole in
    record {
      above = pos;
      strength = strength;
      group = group;
      bytes = λ d h. w.bytes d h ∙ ap (λ S. cond (S d) 1 0) e;
      count = is ∙ ap size e;
      holds = tied_holds cs (marks bs') k group.strong.tied;
      parts = strength_parts cs (marks bs') k group.strong;
    }
