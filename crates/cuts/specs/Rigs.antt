-- What a rig holds, and what a push does. Assumes nothing.
--   rig_cables r              the cables of the rig, in their order
--   Pushed old cable new r    by the answer r: the cable is lawful, there is room, and it now stands after the others;
--                             or it is unlawful, or it is lawful and there are 512 already, and nothing has changed
use Rattle.std.specs.Prelude.{◌≡◌, ◌<◌, List, [], ◌∷◌, ◌++◌, length, Result, Ok, Err}
use Rattle.network.specs.declared.cable.Cable.{Cable}
use Rattle.network.specs.Cables.{LawfulCable}
use Rattle.cuts.specs.declared.rig.Rig.{Rig}
use Rattle.cuts.specs.declared.rig.Unfit.{Unfit}
use Rattle.cuts.specs.declared.rig.Unfit.TheVariants.{Unlawful, Full}

abbrev pub rig_cables : Rig → List Cable
rig_cables r = r.cables.items

abbrev pub Pushed : (old : List Cable) (cable : Cable) (new : List Cable) → Result (Unit {0}) Unfit → Type 0
Pushed old cable new (Ok _) = LawfulCable cable × (length old < 512) × (new ≡ old ++ (cable ∷ []))
Pushed old cable new (Err Unlawful) = (LawfulCable cable → ⊥) × (new ≡ old)
Pushed old cable new (Err Full) = LawfulCable cable × (length old ≡ 512) × (new ≡ old)
