-- What is read of the words of a line, step by step. Assumes nothing.
use Rattle.std.proofs.Common.{◌≡◌, ℕ, Bool, true, false, cond, codes, Option, Some, None, Vec, vec_items, option_map, refl, List, MatchResult, OnOk, IsErrAnd, Ok, Err, Result, sym, ap, ◌∙◌, subst}
use Rattle.std.proofs.lemmas.Result.{err_from_is_err_and}
use Rattle.std.specs.Option.{ok_or}
use Rattle.std.specs.Str.{bytes_eq}
use Rattle.std.proofs.lemmas.Option.{same_Some, none-some}
use Rattle.std.proofs.lemmas.Bool.{cond-false}
use Rattle.script.specs.declared.mistake.Fault.{Fault}
use Rattle.script.specs.declared.mistake.Fault.TheVariants.{NotHexadecimal}
use Rattle.script.specs.declared.mistake.Mistake.{Mistake}
use Rattle.script.specs.declared.stop.Stop.{Stop}
use Rattle.script.specs.declared.stop.Stop.TheVariants as stop
use Rattle.script.specs.Numerals.{hexadecimal, bytes, hex}
use Rattle.script.specs.Arguments.{given, blamed, word_at, read_at, stop_at, same, Reads}

-- what stops the reading of a part stops the whole
pub stops_whole : {X X' Y Y' : Type 0} (f : X → Y) (g : X' → Y') (e : Stop) (s : Result Y Mistake) (t : Result Y' Mistake) → ((m : Mistake) → s ≡ Err m → t ≡ Err m) → Reads f (Err e) s → Reads g (Err e) t
stops_whole f g (stop.Mistake m) s t on h = on m h
stops_whole f g stop.Memory s t on h = tt

-- the same at the exit of a `?`
pub stops_through : {X X' Y Y' : Type 0} (f : X → Y) (g : X' → Y') (e : Stop) (r : Result X' Stop) (s : Result Y Mistake) (t : Result Y' Mistake) → IsErrAnd r (λ d. d ≡ e) → ((m : Mistake) → s ≡ Err m → t ≡ Err m) → Reads f (Err e) s → Reads g r t
stops_through f g e r s t by on h =
    let p = err_from_is_err_and r by in
    subst (λ x. Reads g x t) (sym (p.1 ∙ ap Err p.2)) (stops_whole f g e s t on h)

pub given_ok : {A B : Type 0} (s : Result A Mistake) (then : A → Result B Mistake) (x : A) → s ≡ Ok x → given s then ≡ then x
given_ok s then x is = ap (λ r. given r then) is

-- a word that was read gives what a reader says of it, or its fault
pub read_word : {A : Type 0} (says : List ℕ → Result A Fault) (ws : List (List ℕ)) (n : ℕ) (w : List ℕ) (q : Result A Fault) (r : Result A Stop) → word_at ws n ≡ Ok w → q ≡ says w → MatchResult q (λ x. r ≡ Ok x) (λ fault. r ≡ Err (stop_at n fault)) → Reads same r (read_at says ws n)
read_word says ws n w (Ok x) r at is so =
    subst (λ t. Reads same t (read_at says ws n)) (sym so) (given_ok (word_at ws n) (λ v. blamed n (says v)) w at ∙ ap (blamed n) (sym is))
read_word says ws n w (Err fault) r at is so =
    subst (λ t. Reads same t (read_at says ws n)) (sym so) (given_ok (word_at ws n) (λ v. blamed n (says v)) w at ∙ ap (blamed n) (sym is))

-- and likewise bytes in hexadecimal, at a word that is not `-`
pub read_bytes : {Z : Type 0} (ws : List (List ℕ)) (n : ℕ) (w : List ℕ) (o : Option (Vec ℕ Z)) (r : Result (Vec ℕ Z) Stop) → word_at ws n ≡ Ok w → bytes_eq w (codes "-") ≡ false → option_map vec_items o ≡ cond (hexadecimal w) (Some (bytes w)) None → r ≡ ok_or o (stop_at n NotHexadecimal) → Reads vec_items r (read_at hex ws n)
read_bytes {Z = Z} ws n w o r at some is so = by_test (hexadecimal w) refl o is so
  where
    spoken : (t : Bool) → hexadecimal w ≡ t → read_at hex ws n ≡ blamed n (cond t (Ok (bytes w)) (Err NotHexadecimal))
    spoken t e =
        given_ok (word_at ws n) (λ v. blamed n (hex v)) w at
        ∙ ap (blamed n) (cond-false (bytes_eq w (codes "-")) _ _ some ∙ ap (λ b. cond b (Ok (bytes w)) (Err NotHexadecimal)) e)

    by_test : (t : Bool) → hexadecimal w ≡ t → (o : Option (Vec ℕ Z)) → option_map vec_items o ≡ cond t (Some (bytes w)) None → r ≡ ok_or o (stop_at n NotHexadecimal) → Reads vec_items r (read_at hex ws n)
    by_test true e (Some v) is so =
        subst (λ t. Reads vec_items t (read_at hex ws n)) (sym so) (spoken true e ∙ ap Ok (sym (same_Some (vec_items v) (bytes w) is)))
    by_test true e None is so = absurd (none-some (bytes w) is)
    by_test false e (Some v) is so = absurd (none-some (vec_items v) (sym is))
    by_test false e None is so = subst (λ t. Reads vec_items t (read_at hex ws n)) (sym so) (spoken false e)

pub on_ok : {T E P : Type 0} (r : Result T E) → P → OnOk r P
on_ok (Ok x) p = p
on_ok (Err e) p = tt
