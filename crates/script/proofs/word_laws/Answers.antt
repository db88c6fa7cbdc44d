use Rattle.script.proofs.Laws.{words_are_runs, one_cut}
use Rattle.script.proofs.word_laws.Goals as goal

pub returns : goal.returns
returns c = record { runs = words_are_runs; one_cut = one_cut }
