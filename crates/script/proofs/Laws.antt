-- The words of a line are its maximal runs, and these are one. Assumes nothing.
use Rattle.std.proofs.Common.{◌≡◌, ℕ, suc, ◌<◌, cond, eqb, filter, not, List, [], ◌∷◌, ◌++◌, length, get_or, sym, refl, ap, ◌∙◌, subst, ⊎_elim, append-nil, arith}
use Rattle.std.proofs.lemmas.Bool.{eq-eqb, ne_eqb, cond-true, cond-false, cases_eq}
use Rattle.std.proofs.lemmas.List.Splits.{slice_split-cons_yes}
use Rattle.std.specs.List.{slice_split, onto_first}
use Rattle.std.specs.Str.Iter.{LacksByte}
use Rattle.script.specs.Words.{space, filled, words}
use Rattle.script.specs.Laws.{Spaces, Word, Opens, Runs, over, next, WordsAreRuns, OneCut}

-- what stands before, between and after the spaces
abbrev pieces : List ℕ → List (List ℕ)
pieces bs = slice_split space bs

lacks_tail : (b : ℕ) (w : List ℕ) → LacksByte 32 (b ∷ w) → LacksByte 32 w
lacks_tail b w no_space i lt e = no_space (suc i) (omega arith) e

head_stays : (b : ℕ) (w : List ℕ) → LacksByte 32 (b ∷ w) → (xs ys : List (List ℕ)) → cond (eqb b 32) xs ys ≡ ys
head_stays b w no_space xs ys = cond-false (eqb b 32) xs ys (ne_eqb b 32 (λ e. no_space 0 (omega arith) e))

-- bytes with no space are one piece
pieces_whole : (w : List ℕ) → LacksByte 32 w → pieces w ≡ w ∷ []
pieces_whole [] no_space = refl
pieces_whole (b ∷ w) no_space =
    head_stays b w no_space _ _ ∙ ap (onto_first b) (pieces_whole w (lacks_tail b w no_space))

-- and a piece of their own before a space
pieces_cut : (w rest : List ℕ) → LacksByte 32 w → pieces (w ++ (32 ∷ rest)) ≡ w ∷ pieces rest
pieces_cut [] rest no_space = refl
pieces_cut (b ∷ w) rest no_space =
    head_stays b w no_space _ _ ∙ ap (onto_first b) (pieces_cut w rest (lacks_tail b w no_space))

-- a space in front changes no word
words_after_space : (b : ℕ) (bs : List ℕ) → b ≡ 32 → words (b ∷ bs) ≡ words bs
words_after_space b bs is = ap (filter filled) (slice_split-cons_yes space b bs (eq-eqb b 32 is))

words_after_gap : (gap bs : List ℕ) → Spaces gap → words (gap ++ bs) ≡ words bs
words_after_gap [] bs h = refl
words_after_gap (b ∷ gap) bs h = words_after_space b (gap ++ bs) h.0 ∙ words_after_gap gap bs h.1

filled_word : (w : List ℕ) (ws : List (List ℕ)) → 0 < length w → filter filled (w ∷ ws) ≡ w ∷ filter filled ws
filled_word w ws some = cond-true (filled w) _ _ (ap not (ne_eqb (length w) 0 (λ e. omega arith)))

first_word : (w rest : List ℕ) → Word w → Opens rest → words (w ++ rest) ≡ w ∷ words rest
first_word w [] h o = ap words (append-nil w) ∙ ap (filter filled) (pieces_whole w h.1) ∙ filled_word w [] h.0
first_word w (b ∷ rest) h o =
    ap (λ c. words (w ++ (c ∷ rest))) o ∙ ap (filter filled) (pieces_cut w rest h.1) ∙ filled_word w (pieces rest) h.0
    ∙ ap (λ l. w ∷ l) (sym (words_after_space b rest o))

pub one_cut : OneCut
one_cut bs [] (over h) = sym (ap words (sym (append-nil bs)) ∙ words_after_gap bs [] h)
one_cut bs (w ∷ ws) (next gap _ rest is h word o more) =
    sym (ap words is ∙ words_after_gap gap (w ++ rest) h ∙ first_word w rest word o ∙ ap (λ l. w ∷ l) (sym (one_cut rest ws more)))

runs_after_space : {ws : List (List ℕ)} (b : ℕ) (bs : List ℕ) → b ≡ 32 → Runs bs ws → Runs (b ∷ bs) ws
runs_after_space b bs is (over h) = over (is, h)
runs_after_space b bs is (next gap w rest cut h word o more) = next (b ∷ gap) w rest (ap (λ l. b ∷ l) cut) (is, h) word o more

one_byte_word : (b : ℕ) → (b ≡ 32 → ⊥) → Word (b ∷ [])
one_byte_word b dark = (omega arith, λ i lt e. dark (sym (ap (λ k. get_or (b ∷ []) k 0) (zero_index i lt)) ∙ e))
  where
    zero_index : (i : ℕ) → i < 1 → i ≡ 0
    zero_index i lt = omega arith

-- a byte that is no space goes in front of the first word, or is a word of its own
abbrev Grown : ℕ → List ℕ → Type 0
Grown b bs = (ws : List (List ℕ)) × Runs (b ∷ bs) ws

longer_word : (b : ℕ) (w : List ℕ) → (b ≡ 32 → ⊥) → Word w → Word (b ∷ w)
longer_word b w dark word = (omega arith, at)
  where
    at : (i : ℕ) → i < length (b ∷ w) → get_or (b ∷ w) i 0 ≡ 32 → ⊥
    at Prim.Native.Nat.zero lt e = dark e
    at (suc i) lt e = word.1 i (omega arith) e

grown : {ws : List (List ℕ)} (b : ℕ) (bs : List ℕ) → (b ≡ 32 → ⊥) → Runs bs ws → Grown b bs
grown b [] dark r = ((b ∷ []) ∷ [], next [] (b ∷ []) [] refl tt (one_byte_word b dark) refl (over tt))
grown {ws} b (c ∷ bs) dark r =
    ⊎_elim (λ is. ((b ∷ []) ∷ ws, next [] (b ∷ []) (c ∷ bs) refl tt (one_byte_word b dark) is r)) (λ apart. joined r apart) (cases_eq c 32)
  where
    joined : {ws : List (List ℕ)} → Runs (c ∷ bs) ws → (c ≡ 32 → ⊥) → Grown b (c ∷ bs)
    joined (over h) apart = absurd (apart h.0)
    joined (next {ws = vs} [] w rest cut h word o more) apart = ((b ∷ w) ∷ vs, next [] (b ∷ w) rest (ap (λ l. b ∷ l) cut) tt (longer_word b w dark word) o more)
    joined (next (d ∷ gap) w rest cut h word o more) apart = absurd (apart (ap (λ l. get_or l 0 0) cut ∙ h.0))

some_runs : (bs : List ℕ) → (ws : List (List ℕ)) × Runs bs ws
some_runs [] = ([], over tt)
some_runs (b ∷ bs) =
    let rest = some_runs bs in
    ⊎_elim (λ is. (rest.0, runs_after_space b bs is rest.1)) (λ dark. grown b bs dark rest.1) (cases_eq b 32)

pub words_are_runs : WordsAreRuns
words_are_runs bs = let r = some_runs bs in subst (Runs bs) (one_cut bs r.0 r.1) r.1
