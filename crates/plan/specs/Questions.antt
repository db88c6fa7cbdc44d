-- What a closed plan answers of a list of devices, over the cables present. Assumes nothing.
--   figure o                   the strength that an answer tells; absent tells 0, for apart
--   StrengthIs cs l o          o tells the strength of the list, and apart by being absent
--   marks b d                  byte d of a buffer, one of the first 128, is 1
--   size S                     how many devices the set S has
--   GroupOf cs l b k n         k is the strength of the list, above 0; the first 128 bytes are 1 for the devices of its group, n of them, and else 0;
--                              whichever of the group's own cables go, fewer than k, the rest join it, and for some choice of k they do not
--   GroupIs cs l b o           o tells the strength and the size of the group that b marks; absent tells apart, and b then marks none
--   ByRun over graded cs g c   the cable is present, and the grade of its run reaches g
--   RunIs over graded cs D o   o is the highest grade whose cables, with all better ones, join D; absent where all cables together do not
--   CutIs cs l b k             k is the strength of the list, and the first 128 bytes are a good sheet for it at k: any good sheet will do
--   StrengthAnswer, GroupAnswer, RunAnswer, CutAnswer   the same with the refusals, and with what is left in a buffer
use Rattle.std.specs.Prelude.{◌≡◌, ℕ, ◌<◌, Bool, true, cond, ◌&&◌, List, length, Some, None, count_by, Option, Result, ◌==◌, nat_lt, slice_index}
use Rattle.network.specs.Lists.{member, ListStrength, Group}
use Rattle.network.specs.Chains.{Join, Holds, Parts}
use Rattle.network.specs.Figures.{numbers}
use Rattle.network.specs.Sheets.{GoodSheet}
use Rattle.network.specs.declared.cable.Cable.{Cable}
use Rattle.network.specs.declared.cable.Run.{Run}
use Rattle.network.specs.declared.refusal.Refusal.{Refusal}
use Rattle.forest.specs.Places.{Laid}
use Rattle.plan.specs.Tests.{list_check, buffer_check, run_check, Gives, Writes}

abbrev pub figure : Option ℕ → ℕ
figure (Some k) = k
figure None = 0

pub record StrengthIs (cs : List Cable) (l : List ℕ) (o : Option ℕ) : Type 0 where
  pub strength : ListStrength cs l (figure o)
  pub apart : o ≡ Some 0 → ⊥

abbrev pub StrengthAnswer : List Cable → List ℕ → Result (Option ℕ) Refusal → Type 0
StrengthAnswer cs l r = Gives (list_check l) (StrengthIs cs l) r

abbrev pub marks : List ℕ → ℕ → Bool
marks b d = nat_lt d 128 && slice_index b d == 1

abbrev pub size : (ℕ → Bool) → ℕ
size S = count_by S (numbers 128)

pub record GroupOf (cs : List Cable) (l b : List ℕ) (k n : ℕ) : Type 0 where
  pub above : 0 < k
  pub strength : ListStrength cs l k
  pub group : Group cs l k (marks b)
  pub bytes : (d : ℕ) → d < 128 → slice_index b d ≡ cond (marks b d) 1 0
  pub count : n ≡ size (marks b)
  pub holds : Holds cs (marks b) k
  pub parts : Parts cs (marks b) k

abbrev pub GroupIs : List Cable → (l b : List ℕ) → Option (ℕ × ℕ) → Type 0
GroupIs cs l b (Some a) = GroupOf cs l b a.0 a.1
GroupIs cs l b None = ListStrength cs l 0 × ((d : ℕ) → d < 128 → slice_index b d ≡ 0)

pub record GroupAnswer (cs : List Cable) (l before : List ℕ) (r : Result (Option (ℕ × ℕ)) Refusal) (after : List ℕ) : Type 0 where
  pub answer : Gives (buffer_check l (length before)) (GroupIs cs l after) r
  pub buffer : Writes before r after

module _ {G : Type 0} (over : G → G → Bool) (graded : Run → G) (cs : List Cable) where
  abbrev pub ByRun : G → Cable → Type 0
  ByRun g c = Laid cs c × (over (graded c.run) g ≡ true)

  abbrev pub RunIs : (ℕ → Bool) → Option G → Type 0
  RunIs D (Some g) = Join (ByRun g) D × ((h : G) → Join (ByRun h) D → over g h ≡ true)
  RunIs D None = Join (Laid cs) D → ⊥

  abbrev pub RunAnswer : List ℕ → Result (Option G) Refusal → Type 0
  RunAnswer l r = Gives (run_check l) (RunIs (member l)) r

pub record CutIs (cs : List Cable) (l b : List ℕ) (k : ℕ) : Type 0 where
  pub strength : ListStrength cs l k
  pub bytes : (d : ℕ) → d < 128 → slice_index b d < 128
  pub good : GoodSheet cs l k (λ d. slice_index b d)

pub record CutAnswer (cs : List Cable) (l before : List ℕ) (r : Result ℕ Refusal) (after : List ℕ) : Type 0 where
  pub answer : Gives (buffer_check l (length before)) (CutIs cs l after) r
  pub buffer : Writes before r after
