-- What the lines say. Assumes nothing.
--   mark_text p m      the line of the place p and the marked cable m: the place, the two ends and the mark, and a newline
--   refusal_text n p   the line of the refusal with the number n at the place p
use Rattle.std.specs.Prelude.{ℕ, List, ◌++◌, codes, decimal}
use Rattle.network.specs.declared.cable.MarkedCable.{MarkedCable}

abbrev pub mark_text : ℕ → MarkedCable → List ℕ
mark_text p m =
    decimal p ++ codes " " ++ decimal m.cable.a ++ codes " " ++ decimal m.cable.b ++ codes " " ++ decimal m.mark
    ++ codes "\n"

abbrev pub refusal_text : ℕ → ℕ → List ℕ
refusal_text n p = codes "refused " ++ decimal n ++ codes " at " ++ decimal p ++ codes "\n"
