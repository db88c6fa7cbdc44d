use Rattle.std.proofs.Common.{◌≡◌, ◌&&◌, not, ap, ◌∙◌, rules}
use Rattle.std.specs.Char.{is_digit}
use Rattle.std.proofs.lemmas.Iterator.Search.{all_from_yields_List}
use Rattle.std.proofs.lemmas.Iterator.Adapters.{YieldsList-from_bytes}
use Rattle.script.specs.Numerals.{digits_only}
use Rattle.script.proofs.numeral.is_numeral.Goals as goal

pub returns-then-not-is_empty : goal.returns-then-not-is_empty
returns-then-not-is_empty c =
    let all : c.all.result ≡ digits_only 10 c.args.word.now =
    all_from_yields_List (λ b. is_digit b 10) _ _ _ c.all.ensures.ran (YieldsList-from_bytes c.args.word.now c.bytes.ensures.rest) (λ x b q k. search rules) in
    all ∙ ap (λ b. not b && digits_only 10 c.args.word.now) c.if-not-is_empty.ensures
