use Rattle.network.proofs.Strengths.{one_strength, none_stronger, one_group}
use Rattle.network.proofs.Unions.{union_tied}
use Rattle.network.proofs.Removals.{tied_just_holds, strength_parts}
use Rattle.network.proofs.Figures.{has_strength, has_set_strength, has_group}
use Rattle.network.proofs.strength_laws.Goals as goal

pub returns : goal.returns
returns c = record { one_strength = one_strength; none_stronger = none_stronger; one_group = one_group; union = union_tied; holds = tied_just_holds; parts = strength_parts; has_strength = has_strength; has_set_strength = has_set_strength; has_group = has_group }
