-- What is true of the words of a line. Assumes nothing.
--   Spaces bs      every byte is the space
--   Word w         w is not empty, and has no space
--   Opens rest     nothing follows, or a space does
--   Runs bs ws     ws are the maximal runs of bytes other than the space in bs, in order: spaces, a word that ends at a
--                  space or at the end, and so on
--   WordsAreRuns   the words of a line are its maximal runs
--   OneCut         a line has no other maximal runs than its words
use Rattle.std.specs.Prelude.{◌≡◌, ℕ, ◌<◌, List, [], ◌∷◌, ◌++◌, length, slice_index_or}
use Rattle.std.specs.Str.Iter.{LacksByte}
use Rattle.script.specs.Words.{words}

abbrev pub Spaces : List ℕ → Type 0
Spaces [] = Unit {0}
Spaces (b ∷ bs) = (b ≡ 32) × Spaces bs

abbrev pub Word : List ℕ → Type 0
Word w = (0 < length w) × LacksByte 32 w

abbrev pub Opens : List ℕ → Type 0
Opens rest = slice_index_or rest 0 32 ≡ 32

pub data Runs : List ℕ → List (List ℕ) → Type 0 where
  over : {bs : List ℕ} → Spaces bs → Runs bs []
  next : {bs : List ℕ} {ws : List (List ℕ)} (gap w rest : List ℕ) → bs ≡ gap ++ (w ++ rest) → Spaces gap → Word w → Opens rest → Runs rest ws → Runs bs (w ∷ ws)

abbrev pub WordsAreRuns : Type 0
WordsAreRuns = (bs : List ℕ) → Runs bs (words bs)

abbrev pub OneCut : Type 0
OneCut = (bs : List ℕ) (ws : List (List ℕ)) → Runs bs ws → ws ≡ words bs
