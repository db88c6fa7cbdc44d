-- What a plan replies over its life. Assumes nothing.
--   tour r        to a lay or a lift: the tour's new count, or the refusal
--   turned        to a close or a reopen
--   strength r    to the question for a strength
--   group r b     to the question for a group, with what its buffer then holds
--   run r         to the question for a run
--   elsewhere e   to the question for a run under a yardstick of any other type: the refusal alone, absent where it is answered
--   not_now       to an ask that the plan's state does not allow: nothing is called
--   refusal_in r  the refusal of an answer, absent where there is none
use Rattle.std.specs.Prelude.{ℕ, List, Some, None, Ok, Err, Option, Result}
use Rattle.network.specs.declared.refusal.Refusal.{Refusal}

pub data Reply (G : Type 0) : Type 0 where
  tour : Result ℕ Refusal → Reply G
  turned : Reply G
  strength : Result (Option ℕ) Refusal → Reply G
  group : Result (Option (ℕ × ℕ)) Refusal → List ℕ → Reply G
  run : Result (Option G) Refusal → Reply G
  elsewhere : Option Refusal → Reply G
  not_now : Reply G

abbrev pub refusal_in : {A : Type 0} → Result A Refusal → Option Refusal
refusal_in (Ok x) = None
refusal_in (Err e) = Some e
