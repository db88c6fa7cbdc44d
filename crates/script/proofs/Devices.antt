-- The devices that the words of a line name, read one by one. Assumes nothing.
use Rattle.std.proofs.Common.{◌≡◌, ℕ, ◌+◌, ◌-◌, ◌<◌, ◌≤◌, List, [], ◌∷◌, ◌++◌, length, get_or, drop, Ok, Err, Result, sym, refl, ap, ◌∙◌, append_assoc, arith}
use Rattle.std.proofs.lemmas.List.{drop_more}
use Rattle.std.proofs.lemmas.Option.{slice_get-get_or}
use Rattle.script.specs.declared.mistake.Mistake.{Mistake}
use Rattle.script.specs.Numerals.{number}
use Rattle.script.specs.Arguments.{given, present, blamed, word_at, read_at, devices, devices_from}

-- the devices in front of those that s reads
abbrev pub after : List ℕ → Result (List ℕ) Mistake → Result (List ℕ) Mistake
after xs s = given s (λ ds. Ok (xs ++ ds))

after_one : (xs : List ℕ) (d : ℕ) (s : Result (List ℕ) Mistake) → after xs (given s (λ ds. Ok (d ∷ ds))) ≡ after (xs ++ (d ∷ [])) s
after_one xs d (Ok ds) = ap Ok (sym (append_assoc xs (d ∷ []) ds))
after_one xs d (Err m) = refl

-- the devices xs were read from the words before the word n
abbrev pub ReadTo : List (List ℕ) → ℕ → ℕ → List ℕ → Type 0
ReadTo ws place n xs = after xs (devices_from ws n) ≡ devices_from ws place

module _ (ws : List (List ℕ)) (place n : ℕ) (xs : List ℕ) (h : ReadTo ws place n xs) where
  module _ (some : 0 < n) (within : n ≤ length ws) where
    next_device : devices_from ws place ≡ after xs (given (read_at (number 255) ws n) (λ d. given (devices_from ws (n + 1)) (λ ds. Ok (d ∷ ds))))
    next_device =
        let back : n - 1 + 1 ≡ n + 1 - 1 = omega arith in
        let there : word_at ws n ≡ Ok (get_or ws (n - 1) []) = ap (present n) (slice_get-get_or ws (n - 1) [] (omega arith)) in
        sym h ∙ ap (λ l. after xs (devices n l)) (drop_more ws (n - 1) [] (omega arith))
        ∙ ap (λ k. after xs (devices n (get_or ws (n - 1) [] ∷ drop k ws))) back
        ∙ ap (λ s. after xs (given s (λ d. given (devices_from ws (n + 1)) (λ ds. Ok (d ∷ ds))))) (sym (ap (λ s. given s (λ w. blamed n (number 255 w))) there))

    pub one_read : (d : ℕ) (xs' : List ℕ) → read_at (number 255) ws n ≡ Ok d → xs' ≡ xs ++ (d ∷ []) → ReadTo ws place (n + 1) xs'
    one_read d xs' is more =
        ap (λ l. after l (devices_from ws (n + 1))) more
        ∙ sym (next_device ∙ ap (λ s. after xs (given s (λ d. given (devices_from ws (n + 1)) (λ ds. Ok (d ∷ ds))))) is ∙ after_one xs d (devices_from ws (n + 1)))

    pub stop_read : (m : Mistake) → read_at (number 255) ws n ≡ Err m → devices_from ws place ≡ Err m
    stop_read m is = next_device ∙ ap (λ s. after xs (given s (λ d. given (devices_from ws (n + 1)) (λ ds. Ok (d ∷ ds))))) is
