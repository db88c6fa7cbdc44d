-- A cut sheet of the list's own: parts are shed from a core that holds the list. Assumes nothing.
--   Own cs l k part n          the parts are 0 to n, the core n holds the list, and each part below it leads up by k cables or fewer
--   Step part n side part'     the devices of the core n on the true side become the part n + 1, the core from then on
use Rattle.std.specs.Prelude.{◌≡◌, ℕ, suc, ◌<◌, ◌≤◌, Bool, true, false, List, ◌≢◌}
use Rattle.network.specs.Lists.{member}
use Rattle.network.specs.Marks.{OfDevices}
use Rattle.network.specs.Sheets.{leading}
use Rattle.network.specs.declared.cable.Cable.{Cable}

pub record Own (cs : List Cable) (l : List ℕ) (k : ℕ) (part : ℕ → ℕ) (n : ℕ) : Type 0 where
  pub devices : OfDevices l
  pub listed : (d : ℕ) → member l d ≡ true → part d ≡ n
  pub high : (d : ℕ) → d < 128 → part d ≤ n
  pub few : (r : ℕ) → r < n → leading cs part r ≤ k

pub record Step (part : ℕ → ℕ) (n : ℕ) (side : ℕ → Bool) (part' : ℕ → ℕ) : Type 0 where
  pub raised : (d : ℕ) → d < 128 → part d ≡ n → side d ≡ true → part' d ≡ suc n
  pub left : (d : ℕ) → d < 128 → part d ≡ n → side d ≡ false → part' d ≡ n
  pub others : (d : ℕ) → d < 128 → (part d ≢ n) → part' d ≡ part d
