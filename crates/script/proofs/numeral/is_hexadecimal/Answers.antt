use Rattle.std.proofs.Common.{◌≡◌, ◌&&◌, not, sym, ap, ap₂, ◌∙◌, rules}
use Rattle.std.specs.Char.{is_digit}
use Rattle.std.proofs.lemmas.Bool.{true≢false}
use Rattle.std.proofs.lemmas.Iterator.Search.{all_from_yields_List}
use Rattle.std.proofs.lemmas.Iterator.Adapters.{YieldsList-from_bytes}
use Rattle.script.specs.Numerals.{digits_only}
use Rattle.script.proofs.numeral.is_hexadecimal.Goals as goal
use Rattle.script.proofs.numeral.is_hexadecimal.Goals.{then-not-is_empty, else-not-is_empty}

pub returns-then-word-eq0 : goal.returns-then-word-eq0
returns-then-word-eq0 c =
    let all : c.all.result ≡ digits_only 16 c.args.word.now =
    all_from_yields_List (λ b. is_digit b 16) _ _ _ c.all.ensures.ran (YieldsList-from_bytes c.args.word.now c.bytes.ensures.rest) (λ x b q k. search rules) in
    elim c.if-not-is_empty.branch [
      | then-not-is_empty w ↦ all ∙ ap₂ (λ some even. some && (even && digits_only 16 c.args.word.now)) (ap not w.if-not-is_empty.ensures) (sym c.if-word-eq0.true ∙ w.value-is)
      | else-not-is_empty w ↦ absurd (true≢false (sym c.if-word-eq0.true ∙ w.value-is ∙ ap not w.if-not-is_empty.false))
    ]
