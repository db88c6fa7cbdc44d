use Rattle.network.proofs.MarkChains.{together_chain, list_chained, several_joined, lone_touched}
use Rattle.network.proofs.Groups.{group_chained}
use Rattle.network.proofs.mark_laws.Goals as goal

pub returns : goal.returns
returns c = record { common_chain = together_chain; list_chained = list_chained; several_linked = several_joined; lone_touched = lone_touched; group_chained = group_chained }
