-- Labels of the 128 devices: `label ls d` is the label of the device d. Assumes nothing.
--   relabel old new v     a label after `old` became `new`
--   Merged ls old new ls' so is each label of ls'
--   Alike ls c            the ends of the cable have one label
--   Labelled ls P         two devices have one label exactly when cables of the kind P link them
--   OneLabel ls D         the devices of D have one label
--   Tells b P             b is the answer to whether P holds
use Rattle.std.specs.Prelude.{◌≡◌, ℕ, ◌<◌, Bool, true, false, cond, List, length, ◌==◌}
use Rattle.network.specs.declared.cable.Cable.{Cable}
use Rattle.network.specs.Chains.{Linked}
use Rattle.cuts.specs.Links.{label}

abbrev pub relabel : (old new : ℕ) → ℕ → ℕ
relabel old new v = cond (v == old) new v

pub record Merged (ls : List ℕ) (old new : ℕ) (ls' : List ℕ) : Type 0 where
  pub size : length ls' ≡ 128
  pub each : (d : ℕ) → d < 128 → label ls' d ≡ relabel old new (label ls d)

abbrev pub Alike : List ℕ → Cable → Type 0
Alike ls c = label ls c.a ≡ label ls c.b

pub record Labelled (ls : List ℕ) (P : Cable → Type 0) : Type 0 where
  pub size : length ls ≡ 128
  pub small : (d : ℕ) → d < 128 → label ls d < 128
  pub ranged : (c : Cable) → P c → (c.a < 128) × (c.b < 128)
  pub sound : (c : Cable) → P c → Alike ls c
  pub whole : (x y : ℕ) → x < 128 → y < 128 → label ls x ≡ label ls y → Linked P x y

abbrev pub OneLabel : List ℕ → (D : ℕ → Bool) → Type 0
OneLabel ls D = (x y : ℕ) → D x ≡ true → D y ≡ true → label ls x ≡ label ls y

abbrev pub Tells : Bool → Type 0 → Type 0
Tells true P = P
Tells false P = P → ⊥
