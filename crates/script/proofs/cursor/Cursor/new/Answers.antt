use Rattle.std.proofs.Common.{lit<, Ok, ap, ◌∙◌, rules}
use Rattle.std.specs.Str.Iter.{split_text, split_has_more, split_pattern}
use Rattle.std.proofs.lemmas.Iterator.Consumers.{map_from_collect, YieldsList-from_filter}
use Rattle.std.proofs.lemmas.Iterator.Splits.{YieldsList-from_str_split}
use Rattle.script.specs.Words.{filled}
use Rattle.script.proofs.cursor.Cursor.new.Goals as goal

pub returns-clause-words : goal.returns-clause-words
returns-clause-words c =
    let at = c.filter.ensures.source in
    let cut = c.split.ensures in
    map_from_collect {E = Unit {0}} (Ok c.in_ok-words.words) c.in_ok-words.ensures.ran
    (YieldsList-from_filter _ filled
    (YieldsList-from_str_split 32 c.args.line.now (lit< tt) (ap split_text at ∙ cut.text) (ap split_has_more at ∙ cut.has_more) (ap split_pattern at ∙ cut.pattern))
    c.filter.ensures.closure
    (λ x b q k. search rules))
