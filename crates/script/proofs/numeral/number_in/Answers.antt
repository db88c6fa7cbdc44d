use Rattle.std.proofs.Common.{◌∙◌, rules}
use Rattle.script.proofs.Numerals.{number_read}
use Rattle.script.proofs.numeral.number_in.Goals as goal

pub returns : goal.returns
returns c =
    c.ok_or.ensures.value ∙ number_read c.args.limit c.args.word.now c.parse.result _ (search rules) c.ranges.limit.fits c.parse.ensures.value.0 (search rules)
