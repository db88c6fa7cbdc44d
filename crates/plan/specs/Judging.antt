-- What a judge answers of a cut sheet. Assumes nothing.
--   part_of bs d                the part of the device d: byte d of the sheet
--   Small l part p              part p lacks a listed device or is lone
--   Sound cs l k part p         part p leads up by k cables or fewer, and is small
--   FaultAt cs l k part p e     part p has the fault e, and each part below it is sound
--   Faulty cs l k part p e      its fault: it leads up by more than k cables, or it does not, but is not small: it is several devices and holds the whole list
--   FirstFault cs l k part o    the fault of the lowest part that has one; none where each part is sound
--   Verdict cs l k part r       accepted: the sheet is good; refused: with the fault of the lowest part that has one
--   JudgeAnswer cs l k bs r     the same with the tests of the list and of the sheet's bytes before it
--   Bounds cs l k               every set that contains the list has a split that k cables cross at most, so none is stronger than k
--   Judges cs l k bs r          the answer is that; accepted exactly when the tests pass and the sheet is good; and then bounded
--   Accepted cs l k bs          every judge over these cables accepts the sheet
--   OwnAccepted cs l r b        where a cut answered, every judge over these cables accepts the first 128 bytes at the strength answered
use Rattle.std.specs.Prelude.{◌≡◌, ℕ, ◌<◌, ◌≤◌, Bool, ◌⊎◌, ◌↔◌, List, take, Some, None, Ok, Err, Option, Result, slice_index}
use Rattle.network.specs.Lists.{Contains}
use Rattle.network.specs.Sets.{DeviceSet, WeakSplit, Strength}
use Rattle.network.specs.Sheets.{leading, Lacks, Lone, GoodSheet}
use Rattle.network.specs.declared.cable.Cable.{Cable}
use Rattle.network.specs.declared.refusal.Refusal.{Refusal}
use Rattle.network.specs.declared.refusal.Refusal.TheVariants.{PartLeadsOut, PartHoldsList}
use Rattle.plan.specs.Tests.{sheet_check, Past}

abbrev pub part_of : List ℕ → ℕ → ℕ
part_of bs d = slice_index bs d

abbrev pub Small : List ℕ → (part : ℕ → ℕ) → ℕ → Type 0
Small l part p = Lacks part l p ⊎ Lone part p

module _ (cs : List Cable) (l : List ℕ) (k : ℕ) (part : ℕ → ℕ) where
  abbrev pub Sound : ℕ → Type 0
  Sound p = (leading cs part p ≤ k) × Small l part p

  abbrev pub Faulty : ℕ → Refusal → Type 0
  Faulty p e =
      ((e ≡ PartLeadsOut) × (k < leading cs part p))
      ⊎ ((e ≡ PartHoldsList) × (leading cs part p ≤ k) × (Small l part p → ⊥))

  abbrev pub FaultAt : ℕ → Refusal → Type 0
  FaultAt p e = (p < 128) × ((q : ℕ) → q < p → Sound q) × Faulty p e

  abbrev pub FirstFault : Option Refusal → Type 0
  FirstFault (Some e) = (p : ℕ) × FaultAt p e
  FirstFault None = (p : ℕ) → p < 128 → Sound p

  abbrev pub Verdict : Result (Unit {0}) Refusal → Type 0
  Verdict (Ok x) = GoodSheet cs l k part
  Verdict (Err e) = (p : ℕ) × FaultAt p e

abbrev pub JudgeAnswer : List Cable → (l : List ℕ) (k : ℕ) (bs : List ℕ) → Result (Unit {0}) Refusal → Type 0
JudgeAnswer cs l k bs r = Past (sheet_check l bs) (Verdict cs l k (part_of bs)) r

pub record Bounds (cs : List Cable) (l : List ℕ) (k : ℕ) : Type 0 where
  pub weak : (S : ℕ → Bool) → DeviceSet S → Contains S l → WeakSplit cs S k
  pub none_stronger : (S : ℕ → Bool) (j : ℕ) → DeviceSet S → Contains S l → Strength cs S j → j ≤ k

-- the whole answer of a judge
pub record Judges (cs : List Cable) (l : List ℕ) (k : ℕ) (bs : List ℕ) (r : Result (Unit {0}) Refusal) : Type 0 where
  pub answer : JudgeAnswer cs l k bs r
  pub exactly : (r ≡ Ok tt) ↔ ((sheet_check l bs ≡ Ok tt) × GoodSheet cs l k (part_of bs))
  pub bounds : r ≡ Ok tt → Bounds cs l k

abbrev pub Accepted : List Cable → (l : List ℕ) (k : ℕ) (bs : List ℕ) → Type 0
Accepted cs l k bs = (r : Result (Unit {0}) Refusal) → Judges cs l k bs r → r ≡ Ok tt

abbrev pub OwnAccepted : List Cable → List ℕ → Result ℕ Refusal → List ℕ → Type 0
OwnAccepted cs l (Ok k) b = Accepted cs l k (take 128 b)
OwnAccepted cs l (Err e) b = Unit {0}
