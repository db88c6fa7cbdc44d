-- What a word that writes a number or bytes is read as. Assumes nothing.
use Rattle.std.proofs.Common.{◌≡◌, ℕ, ◌%◌, ◌^◌, ◌<◌, true, false, cond, Bool, eqb, leb, ◌&&◌, List, [], ◌∷◌, ◌++◌, length, None, Ok, Err, Option, Result, MatchOption, sym, refl, ap, ◌∙◌, ⊎_elim, arith, rules}
use Rattle.std.specs.Bool.{then_some}
use Rattle.std.specs.Option.{ok_or}
use Rattle.std.specs.Result.{OkIff, result_ok}
use Rattle.std.specs.Str.Parse.{digits_value, ParsesUnsigned}
use Rattle.std.proofs.lemmas.Bool.{and_parts, lt-leb, cond-true, cond-false, cases_lt, true≢false}
use Rattle.std.proofs.lemmas.Str.Parse.{IsNumeralModel, numerals_by_value, parse_digits}
use Rattle.script.specs.declared.mistake.Fault.TheVariants.{NumberTooLarge}
use Rattle.script.specs.Words.{filled}
use Rattle.script.specs.Numerals.{digits_only, numeral, number, bytes}

digits : IsNumeralModel (λ w. digits_only 10 w ≡ true) (digits_value 10)
digits = numerals_by_value (λ w. digits_only 10 w ≡ true) (search rules)

pub filled_length : (w : List ℕ) → filled w ≡ true → 0 < length w
filled_length [] e = absurd (true≢false (sym e))
filled_length (c ∷ cs) e = omega arith

kept : (b : Bool) (x : ℕ) → ok_or (then_some b x) NumberTooLarge ≡ cond b (Ok x) (Err NumberTooLarge)
kept true x = refl
kept false x = refl

-- the number that `parse` reads, kept if it is at most the limit
pub number_read : {E : Type 0} (limit : ℕ) (w : List ℕ) (r : Result ℕ E) (o : Option ℕ) → numeral w ≡ true → limit < 2 ^ 16 → ParsesUnsigned 16 10 w r → MatchOption (result_ok r) (o ≡ None) (λ x. o ≡ then_some (leb x limit) x) → ok_or o NumberTooLarge ≡ number limit w
number_read {E = E} limit w r o good small parsed held =
    by_result r o (parse_digits digits 16 w r parsed only) held ∙ sym (cond-true (numeral w) _ _ good)
  where
    only : digits_only 10 w ≡ true
    only = (and_parts (filled w) (digits_only 10 w) good).1

    by_result : (r : Result ℕ E) (o : Option ℕ) → OkIff r ((0 < length w) × (digits_value 10 w < 2 ^ 16)) (digits_value 10 w) → MatchOption (result_ok r) (o ≡ None) (λ x. o ≡ then_some (leb x limit) x) → ok_or o NumberTooLarge ≡ cond (leb (digits_value 10 w) limit) (Ok (digits_value 10 w)) (Err NumberTooLarge)
    by_result (Ok x) o is held =
        ap (λ p. ok_or p NumberTooLarge) held ∙ kept (leb x limit) x ∙ ap (λ v. cond (leb v limit) (Ok v) (Err NumberTooLarge)) is.1
    by_result (Err e) o bad none =
        let over : limit < digits_value 10 w =
        ⊎_elim (λ fits. absurd (bad (filled_length w (and_parts (filled w) (digits_only 10 w) good).0, fits))) (λ wide. omega arith) (cases_lt (digits_value 10 w) (2 ^ 16)) in
        ap (λ p. ok_or p NumberTooLarge) none ∙ sym (cond-false (leb (digits_value 10 w) limit) _ _ (lt-leb (digits_value 10 w) limit over))

-- an even number of hexadecimal digits
abbrev paired : List ℕ → Bool
paired w = eqb (length w % 2) 0 && digits_only 16 w

-- the bytes found were read of the digits of `word` before `rest`
pub record HexSofar (word rest found : List ℕ) : Type 0 where
  pub digits : paired rest ≡ paired word
  pub whole : found ++ bytes rest ≡ bytes word
