-- Gathering the cables present and tabulating them with their marks. Assumes nothing.
use Rattle.std.proofs.Common.{◌≡◌, ℕ, zero, suc, ◌+◌, ◌<◌, ◌≤◌, List, [], ◌∷◌, ◌++◌, map, length, get_or, take, Some, None, Ok, Err, Option, Result, MatchOption, sym, refl, ap, ◌∙◌, ap₂, append_assoc, ⊎_elim, arith}
use Rattle.std.proofs.lemmas.List.{take_more, map_more, length-append}
use Rattle.std.proofs.lemmas.Option.{slice_get-get_or}
use Rattle.std.proofs.lemmas.Bool.{cases_lt}
use Rattle.std.specs.List.{slice_get}
use Rattle.std.specs.Option.{option_map}
use Rattle.network.specs.Cables.{LawfulCable, Lawful}
use Rattle.network.specs.Lists.{Mark, ends}
use Rattle.network.specs.Marks.{Marks}
use Rattle.network.specs.Figures.{strength_of}
use Rattle.network.specs.declared.cable.Cable.{Cable}
use Rattle.network.specs.declared.cable.MarkedCable.{MarkedCable}
use Rattle.network.proofs.Figures.{strength_is, strength_from}
use Rattle.network.proofs.ListPlaces.{mapped, nth_map}
use Rattle.network.proofs.Members.{ends_devices}
use Rattle.network.proofs.Places.{blank, place_low}
use Rattle.cuts.specs.Rigs.{Pushed}
use Rattle.cuts.specs.declared.rig.Unfit.{Unfit}
use Rattle.cuts.specs.declared.rig.Unfit.TheVariants.{Unlawful, Full}
use Rattle.plan.specs.Rows.{cables_in, Marked, mark_rows}
use Rattle.plan.specs.Tables.{with_mark, marked_at}

-- a lawful cable is taken where there is room
pub pushed : (old new : List Cable) (c : Cable) (r : Result (Unit {0}) Unfit) → LawfulCable c → length old < 512 → Pushed old c new r → new ≡ old ++ c ∷ []
pushed old new c (Ok _) lawful room p = p.2
pushed old new c (Err Unlawful) lawful room p = absurd (p.0 lawful)
pushed old new c (Err Full) lawful room p = absurd (omega (arith, p.1))

-- one place more of a house
pub taken_more : (cs old new : List Cable) (i : ℕ) (c : Cable) → slice_get cs i ≡ Some c → i < length cs → old ≡ take i cs → new ≡ old ++ c ∷ [] → new ≡ take (i + 1) cs
taken_more cs old new i c at h e f =
    let g : get_or cs i blank ≡ c = found in
    f ∙ ap₂ (λ xs x. xs ++ x ∷ []) e (sym g) ∙ sym (take_more cs i blank h)
  where
    found : get_or cs i blank ≡ c
    found = let n = slice_get-get_or cs i blank h in cc

-- one cable more of a house: there is one place more, and it is the house's
pub next_of : (cs old new : List Cable) (c : Cable) (r : Result (Unit {0}) Unfit) → Lawful cs → length cs ≤ 256 → slice_get cs (length old) ≡ Some c → Pushed old c new r → old ≡ take (length old) cs
    → (new ≡ take (length new) cs) × ((length new ≡ length old + 1) × (length new ≤ length cs))
next_of cs old new c r lawful few at p e =
    let low = place_low cs (length old) c at in
    let more = pushed old new c r (lawful (length old) c at) (omega (arith, low, few)) p in
    let long : length new ≡ length old + 1 = omega (arith, ap length more, length-append old) in
    (taken_more cs old new (length old) c at low e more ∙ ap (λ n. take n cs) (sym long), (long, omega (arith, low, long)))

-- where none stands is past the last
pub past_last : (cs : List Cable) (i : ℕ) → None ≡ slice_get cs i → length cs ≤ i
past_last cs i e = ⊎_elim
    (λ low. let n = slice_get-get_or cs i blank low in let z : ◌≡◌ {A = ℕ} 0 1 = cc in absurd (omega arith))
    (λ past. past)
    (cases_lt i (length cs))

get_d_rows : (mark : ℕ → ℕ) (cs : List Cable) (i : ℕ) (d : MarkedCable) → i < length cs → get_or (mark_rows mark cs) i d ≡ record { cable = get_or cs i blank; mark = mark i }
get_d_rows mark [] i d h = absurd (omega arith)
get_d_rows mark (c ∷ cs) zero d h = refl
get_d_rows mark (c ∷ cs) (suc i) d h = get_d_rows (λ j. mark (suc j)) cs i d (omega arith)

pub length_rows : (mark : ℕ → ℕ) (cs : List Cable) → length (mark_rows mark cs) ≡ length cs
length_rows mark [] = refl
length_rows mark (c ∷ cs) = ap suc (length_rows (λ j. mark (suc j)) cs)

pub cables_rows : (mark : ℕ → ℕ) (cs : List Cable) → cables_in (mark_rows mark cs) ≡ cs
cables_rows mark [] = refl
cables_rows mark (c ∷ cs) = ap (λ l. c ∷ l) (cables_rows (λ j. mark (suc j)) cs)

-- one row more
pub rows_more : (mark : ℕ → ℕ) (cs : List Cable) (rows rows' : List MarkedCable) (i : ℕ) → i < length cs
    → rows ≡ take i (mark_rows mark cs) → rows' ≡ rows ++ record { cable = get_or cs i blank; mark = mark i } ∷ [] → rows' ≡ take (i + 1) (mark_rows mark cs)
rows_more mark cs rows rows' i h same more =
    let row : MarkedCable = record { cable = get_or cs i blank; mark = mark i } in
    more
    ∙ ap₂ (λ xs x. xs ++ x ∷ []) same (sym (get_d_rows mark cs i row h))
    ∙ sym (take_more (mark_rows mark cs) i row (omega (arith, length_rows mark cs)))

nth_rows : (mark : ℕ → ℕ) (cs : List Cable) (i : ℕ) (r : MarkedCable) → slice_get (mark_rows mark cs) i ≡ Some r → (slice_get cs i ≡ Some r.cable) × (r.mark ≡ mark i)
nth_rows mark [] i r e = let z : ◌≡◌ {A = ℕ} 0 1 = cc in absurd (omega arith)
nth_rows mark (c ∷ cs) zero r e = let s : record { cable = c; mark = mark 0 } ≡ r = cc in (ap (λ x. Some x.cable) s, sym (ap (λ x. x.mark) s))
nth_rows mark (c ∷ cs) (suc i) r e = nth_rows (λ j. mark (suc j)) cs i r e

-- marks that are right make rows that are
pub rows_marked : (mark : ℕ → ℕ) (cs : List Cable) → Lawful cs → Marks cs mark → Marked (mark_rows mark cs)
rows_marked mark cs lawful marks i r e =
    let p = nth_rows mark cs i r e in
    let devices = ends_devices r.cable (lawful i r.cable p.0) in
    p.1 ∙ strength_is cs (ends r.cable) (mark i) devices (marks i r.cable p.0) ∙ ap (λ l. strength_of l (ends r.cable)) (sym (cables_rows mark cs))

-- and a row's mark is its cable's
pub row_mark : (rows : List MarkedCable) → Lawful (cables_in rows) → Marked rows → (i : ℕ) (r : MarkedCable) → slice_get rows i ≡ Some r
    → (slice_get (cables_in rows) i ≡ Some r.cable) × Mark (cables_in rows) r.cable r.mark
row_mark rows lawful marked i r e =
    let at : slice_get (cables_in rows) i ≡ Some r.cable = nth_map (λ x. x.cable) rows i ∙ ap (mapped (λ x. x.cable)) e in
    (at, strength_from (cables_in rows) (ends r.cable) r.mark (ends_devices r.cable (lawful i r.cable at)) (marked i r e))

-- the row at a place as it is told
pub row_told : (rows : List MarkedCable) → Lawful (cables_in rows) → Marked rows → (i : ℕ) (o : Option MarkedCable) → o ≡ slice_get rows i
    → (o ≡ marked_at (cables_in rows) i) × MatchOption o (length (cables_in rows) ≤ i) (λ m. (slice_get (cables_in rows) i ≡ Some m.cable) × Mark (cables_in rows) m.cable m.mark)
row_told rows lawful marked i (Some r) e =
    let row = row_mark rows lawful marked i r (sym e) in (
      sym (ap (option_map (with_mark (cables_in rows))) row.0 ∙ ap (λ m. Some (record { cable = r.cable; mark = m })) (sym (marked i r (sym e)))),
      row,
    )
row_told rows lawful marked i None e =
    let past = nth_map (λ x. x.cable) rows i ∙ ap (mapped (λ x. x.cable)) (sym e) in
    (sym (ap (option_map (with_mark (cables_in rows))) past), past_last (cables_in rows) i (sym past))

-- the cable of one record more
pub one_more : {X : Type 0} (held : X → Cable) (first old new : List Cable) (records : List X) (i : ℕ) (d : X) → i < length records
    → old ≡ first ++ map held (take i records) → new ≡ old ++ held (get_or records i d) ∷ [] → new ≡ first ++ map held (take (i + 1) records)
one_more held first old new records i d h e f =
    f ∙ ap (λ l. l ++ held (get_or records i d) ∷ []) e
    ∙ append_assoc first (map held (take i records)) (held (get_or records i d) ∷ [])
    ∙ ap (λ l. first ++ l) (sym (map_more held records i d h))
