-- The words of a line. Assumes nothing.
--   space b       b is the space
--   filled w      w is not empty
--   words bs      the words of bs: what stands before, between and after its spaces, in order, where it is not empty
--   text w        the bytes of a word
use Rattle.std.specs.Prelude.{ℕ, Bool, not, List, length, filter, ◌==◌}
use Rattle.std.specs.List.{slice_split}
use Rattle.std.specs.Borrow.{Bor}

abbrev pub space : ℕ → Bool
space b = b == 32

abbrev pub filled : List ℕ → Bool
filled w = not (length w == 0)

abbrev pub words : List ℕ → List (List ℕ)
words bs = filter filled (slice_split space bs)

abbrev pub text : Bor (List ℕ) → List ℕ
text w = w.now
