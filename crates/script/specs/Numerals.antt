-- Decimal numbers and hexadecimal bytes. Assumes nothing.
--   digit_value c       the value of the digit c: 0 to 9, and from 10 on for letters of either case; 36 for any other byte
--   digits_only r w     every byte of w is a digit of the radix r
--   digits_value 10 w   the number that the decimal digits of w write
--   numeral w           w is one decimal digit or more, and nothing else
--   number limit w      that number, where w is a numeral and the number is at most the limit
--   hexadecimal w       w is an even number of hexadecimal digits, and some
--   byte high low       the byte that two hexadecimal digits write
--   bytes w             the bytes that hexadecimal digits write, two to a byte, the high one first
--   hex w               those bytes, where w is hexadecimal; none where w is `-`
use Rattle.std.specs.Prelude.{ℕ, ◌+◌, ◌*◌, ◌%◌, Bool, cond, ◌&&◌, List, [], ◌∷◌, length, Some, None, Ok, Err, codes, Option, Result, ◌==◌, nat_le}
use Rattle.std.specs.Str.Parse.{digits_value}
use Rattle.std.specs.Char.{digit_value, is_digit}
use Rattle.std.specs.Str.{bytes_eq}
use Rattle.std.specs.List.{list_all}
use Rattle.script.specs.declared.mistake.Fault.{Fault}
use Rattle.script.specs.declared.mistake.Fault.TheVariants.{NotANumber, NumberTooLarge, NotHexadecimal}
use Rattle.script.specs.Words.{filled}

abbrev pub digits_only : ℕ → List ℕ → Bool
digits_only radix w = list_all (λ c. is_digit c radix) w

abbrev pub numeral : List ℕ → Bool
numeral w = filled w && digits_only 10 w

abbrev pub number : ℕ → List ℕ → Result ℕ Fault
number limit w =
    cond (numeral w) (cond (nat_le (digits_value 10 w) limit) (Ok (digits_value 10 w)) (Err NumberTooLarge)) (Err NotANumber)

abbrev pub hexadecimal : List ℕ → Bool
hexadecimal w = filled w && (length w % 2 == 0 && digits_only 16 w)

abbrev pub byte : ℕ → ℕ → Option ℕ
byte high low = cond (is_digit high 16 && is_digit low 16) (Some (digit_value high * 16 + digit_value low)) None

abbrev pub bytes : List ℕ → List ℕ
bytes [] = []
bytes (c ∷ []) = []
bytes (high ∷ low ∷ cs) = (digit_value high * 16 + digit_value low) ∷ bytes cs

abbrev pub hex : List ℕ → Result (List ℕ) Fault
hex w = cond (bytes_eq w (codes "-")) (Ok []) (cond (hexadecimal w) (Ok (bytes w)) (Err NotHexadecimal))
