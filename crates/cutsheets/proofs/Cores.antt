-- The core of a list's own sheet, cut after cut: what is shed leads up by few cables, and the cuts never exceed the list's strength. Assumes nothing.
--   Core cs D k part n     the parts are 0 to n, the core n holds each list that names D, and k is enough for the parts below and no more than the list's strength
--   Shows cs D k part      k is the strength of each list that names D, if D has a device, and the parts are a good sheet for it; all part numbers are below 128
use Rattle.std.proofs.Common.{◌≡◌, ℕ, suc, ◌+◌, ◌<◌, ◌≤◌, Bool, true, not, List, sym, refl, ◌∙◌, subst, ⊎_elim, arith}
use Rattle.std.proofs.lemmas.Bool.{cases_Bool, cases_lt, not-true, not_from_false}
use Rattle.network.specs.Cables.{Lawful}
use Rattle.network.specs.Lists.{member, ListStrength}
use Rattle.network.specs.Marks.{OfDevices}
use Rattle.network.specs.Sheets.{inside, Lone, GoodSheet}
use Rattle.network.specs.OwnSheets.{Own, Step}
use Rattle.network.specs.Figures.{strength_of}
use Rattle.network.specs.declared.cable.Cable.{Cable}
use Rattle.network.proofs.Strengths.{tied_weak}
use Rattle.network.proofs.Parts.{inside_from, inside_devices}
use Rattle.network.proofs.Sheets.{sheet_sound}
use Rattle.network.proofs.OwnSheets.{own_none, own_more, own_done, own_lone}
use Rattle.network.proofs.Figures.{set_weak, has_strength, strength_from}
use Rattle.marks.specs.Shedding.{Shear, Turn, Numbered}
use Rattle.marks.specs.State.{moved}
use Rattle.marks.proofs.Numberings.{numbered_none, numbered_more, numbered_few}
use Rattle.marks.proofs.Turns.{moved_to, moved_side, moved_off}
use Rattle.cutsheets.specs.Listing.{Names, Meets}

pub record Core (cs : List Cable) (D : ℕ → Bool) (k : ℕ) (part : ℕ → ℕ) (n : ℕ) : Type 0 where
  pub own : (l : List ℕ) → Names l D → Own cs l k part n
  pub bound : (l : List ℕ) → Names l D → k ≤ strength_of cs l
  pub parts : Numbered part (suc n)

pub record Shows (cs : List Cable) (D : ℕ → Bool) (k : ℕ) (part : ℕ → ℕ) : Type 0 where
  pub strength : (l : List ℕ) → Names l D → (x : ℕ) → member l x ≡ true → ListStrength cs l k
  pub good : (l : List ℕ) → Names l D → (x : ℕ) → member l x ≡ true → GoodSheet cs l k part
  pub low : (d : ℕ) → d < 128 → part d < 128

-- there are no more parts than devices
numbers_low : (part : ℕ → ℕ) (n : ℕ) → Numbered part n → (d : ℕ) → d < 128 → part d < 128
numbers_low part n num d b = omega (arith, num.low d b, numbered_few part n num)

-- what is enough for a sheet so far stays enough when it grows
own_raised : (cs : List Cable) (l : List ℕ) (j k : ℕ) (part : ℕ → ℕ) (n : ℕ) → j ≤ k → Own cs l j part n → Own cs l k part n
own_raised cs l j k part n h own = record { devices = own.devices; listed = own.listed; high = own.high; few = λ r lt. omega (arith, own.few r lt) }

-- a good sheet shows the strength that its number does not exceed
sheet_shows : (cs : List Cable) (l : List ℕ) (k : ℕ) (part : ℕ → ℕ) → OfDevices l → k ≤ strength_of cs l → GoodSheet cs l k part → ListStrength cs l k
sheet_shows cs l k part devices bound sheet =
    let a = (has_strength cs l devices).attained in
    strength_from cs l k devices (omega (
      arith,
      bound,
      tied_weak cs a.set (strength_of cs l) k a.strong.tied (sheet_sound cs l k part sheet a.set a.devices a.has),
    ))

pub core_none : (cs : List Cable) (D : ℕ → Bool) (part : ℕ → ℕ) → ((d : ℕ) → D d ≡ true → d < 128) → ((d : ℕ) → part d ≡ 0) → Core cs D 0 part 0
core_none cs D part low one = record {
  own = λ l names. own_none cs l 0 part (λ d m. low d (names d ∙ m)) (λ d b. one d);
  bound = λ l names. omega arith;
  parts = numbered_none part (λ d b. one d);
}

module _ (cs : List Cable) (D : ℕ → Bool) (k : ℕ) (part : ℕ → ℕ) (n : ℕ) (core : Core cs D k part n) where
  pub core_low : n < 128
  core_low = omega (arith, numbered_few part (suc n) core.parts)

  -- a core of one device ends the sheet
  pub core_lone : Lawful cs → Lone part n → Shows cs D k part
  core_lone lawful lone = record {
    strength = λ l names x mx. sheet_shows cs l k part (core.own l names).devices (core.bound l names) (sheet l names x mx);
    good = sheet;
    low = numbers_low part (suc n) core.parts;
  }
    where
      sheet : (l : List ℕ) → Names l D → (x : ℕ) → member l x ≡ true → GoodSheet cs l k part
      sheet l names x mx = own_lone cs l k part n lawful (core.own l names) x mx lone

module _ (cs : List Cable) (D : ℕ → Bool) (k m : ℕ) (part part' : ℕ → ℕ) (n : ℕ) (side : ℕ → Bool) (lawful : Lawful cs) (core : Core cs D k part n)
    (shear : Shear cs (inside part n) k m side) (move : (d : ℕ) → d < 128 → part' d ≡ moved n (n + 1) (side d) (part d)) where
  next : n + 1 ≡ suc n
  next = omega arith

  step : Step part n side part'
  step = record {
    raised = λ d b e t. move d b ∙ moved_to n (n + 1) (side d) (part d) e t ∙ next;
    left = λ d b e f. move d b ∙ moved_side n (n + 1) (side d) (part d) f ∙ e;
    others = λ d b ne. move d b ∙ moved_off n (n + 1) (side d) (part d) ne;
  }

  -- the core contains the list, so a cut that ties it is no more than the list's strength
  bound : (l : List ℕ) → Names l D → m ≤ strength_of cs l
  bound l names = ⊎_elim tied (λ le. omega (arith, core.bound l names)) (cases_lt k m)
    where
      own : Own cs l k part n
      own = core.own l names

      tied : k < m → m ≤ strength_of cs l
      tied lt = tied_weak cs (inside part n) m (strength_of cs l) (shear.tied lt)
          (set_weak cs l (inside part n) (inside_devices part n side shear.split) (λ d i. inside_from part n d (own.devices d i) (own.listed d i)))

  own_now : (l : List ℕ) → Names l D → Own cs l m part n
  own_now l names = own_raised cs l k m part n shear.above (core.own l names)

  numbered : Numbered part' (suc (suc n))
  numbered = numbered_more part (λ _. m) part' (λ _. m) n (suc n) m side core.parts shear.split turn
    where
      turn : Turn part (λ _. m) n (suc n) m side part' (λ _. m)
      turn = record {
        fresh = λ d b e. omega (arith, core.parts.low d b, e);
        gone = step.raised;
        left = step.left;
        same = step.others;
        floor_p = refl;
        floor_q = refl;
        floors = λ r np nq. refl;
      }

  module _ (other : ℕ → Bool) (opposite : (d : ℕ) → d < 128 → other d ≡ not (side d)) where
    -- a cut with the list on one side sheds the other
    pub core_more : (Meets D other → ⊥) → Core cs D m part' (n + 1)
    core_more none = subst (Core cs D m part') (sym next) (record {
      own = λ l names. own_more cs l m part part' n side lawful (own_now l names) shear.few step (λ d i. all l names d i);
      bound = bound;
      parts = numbered;
    })
      where
        all : (l : List ℕ) → Names l D → (d : ℕ) → member l d ≡ true → side d ≡ true
        all l names d i = ⊎_elim
            (λ t. t)
            (λ f. absurd (none (d, names d ∙ i, opposite d ((core.own l names).devices d i) ∙ not_from_false (side d) f)))
            (cases_Bool (side d))

    -- a cut that parts the list ends the sheet
    pub core_done : ((x : ℕ) → D x ≡ true → Meets D side) → Meets D other → Shows cs D m part'
    core_done on off = record {
      strength = λ l names x mx. sheet_shows cs l m part' (core.own l names).devices (bound l names) (sheet l names x mx);
      good = sheet;
      low = numbers_low part' (suc (suc n)) numbered;
    }
      where
        sheet : (l : List ℕ) → Names l D → (x : ℕ) → member l x ≡ true → GoodSheet cs l m part'
        sheet l names x mx =
            let a = on x (names x ∙ mx) in
            let y = off.0 in
            let my = sym (names y) ∙ off.1 in
            own_done cs l m part part' n side lawful (own_now l names) shear.few step a.0 y (sym (names a.0) ∙ a.1) my a.2
            (not-true (side y) (sym (opposite y ((core.own l names).devices y my)) ∙ off.2))
