-- What cut sheets say, and how a list's own sheet is made, whatever the cables. Assumes nothing.
--   SheetSound   a good sheet for a list at k: every set that contains the list has a split with at most k crossings
--   OwnNone      all devices in one part is the start of a list's own sheet
--   OwnCut       the least cut of the core crosses no more cables than the list's strength
--   OwnMore      a side of the core without listed devices is shed
--   OwnDone      a split of the core that parts the list makes the sheet good
--   OwnLone      so does a core of one device
use Rattle.std.specs.Prelude.{◌≡◌, ℕ, suc, ◌<◌, ◌≤◌, Bool, true, false, List}
use Rattle.network.specs.Cables.{Lawful}
use Rattle.network.specs.Sets.{DeviceSet, WeakSplit, Strength, crossings}
use Rattle.network.specs.Lists.{member, Contains, ListStrength}
use Rattle.network.specs.Marks.{OfDevices}
use Rattle.network.specs.Sheets.{inside, Lone, GoodSheet}
use Rattle.network.specs.OwnSheets.{Own, Step}
use Rattle.network.specs.declared.cable.Cable.{Cable}

abbrev pub SheetSound : Type 0
SheetSound = (cs : List Cable) (l : List ℕ) (k : ℕ) (part : ℕ → ℕ) → GoodSheet cs l k part
    → (S : ℕ → Bool) → DeviceSet S → Contains S l → WeakSplit cs S k

abbrev pub OwnNone : Type 0
OwnNone = (cs : List Cable) (l : List ℕ) (k : ℕ) (part : ℕ → ℕ) → OfDevices l → ((d : ℕ) → d < 128 → part d ≡ 0) → Own cs l k part 0

abbrev pub OwnCut : Type 0
OwnCut = (cs : List Cable) (l : List ℕ) (k : ℕ) (part : ℕ → ℕ) (n c : ℕ) → ListStrength cs l k → Own cs l k part n
    → (s : Strength cs (inside part n) c) → crossings cs (inside part n) s.side ≤ k

abbrev pub OwnMore : Type 0
OwnMore = (cs : List Cable) (l : List ℕ) (k : ℕ) (part part' : ℕ → ℕ) (n : ℕ) (side : ℕ → Bool) → Lawful cs → Own cs l k part n
    → crossings cs (inside part n) side ≤ k → Step part n side part' → ((d : ℕ) → member l d ≡ true → side d ≡ true) → Own cs l k part' (suc n)

abbrev pub OwnDone : Type 0
OwnDone = (cs : List Cable) (l : List ℕ) (k : ℕ) (part part' : ℕ → ℕ) (n : ℕ) (side : ℕ → Bool) → Lawful cs → Own cs l k part n
    → crossings cs (inside part n) side ≤ k → Step part n side part'
    → (x y : ℕ) → member l x ≡ true → member l y ≡ true → side x ≡ true → side y ≡ false → GoodSheet cs l k part'

abbrev pub OwnLone : Type 0
OwnLone = (cs : List Cable) (l : List ℕ) (k : ℕ) (part : ℕ → ℕ) (n : ℕ) → Lawful cs → Own cs l k part n → (x : ℕ) → member l x ≡ true → Lone part n → GoodSheet cs l k part
