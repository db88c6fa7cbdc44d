-- The meaning of a sheet's bytes. Assumes nothing.
--   read o n skip bs   the cables of the records in bytes that begin at offset o, with n cables read before them and the
--                      first `skip` bytes the rest of a body; or the first fault, with the offset of its record's kind byte
--   meaning bs         the cables of a sheet in order, or its first fault
--   cables_of m        the cables that a meaning has; none at a fault
--   counted n m        n and as many as a meaning has cables, or its fault
use Rattle.std.specs.Prelude.{ℕ, zero, suc, ◌+◌, cond, List, [], ◌∷◌, ◌++◌, length, Ok, Err, Result, nat_lt}
use Rattle.network.specs.declared.cable.Cable.{Cable}
use Rattle.network.specs.declared.refusal.Refusal.{Refusal}
use Rattle.network.specs.declared.refusal.Refusal.TheVariants.{TooManyCables}
use Rattle.houses.specs.Records.{front, body, span, spread}
use Rattle.houses.specs.declared.misread.Misread.{Misread}
use Rattle.houses.specs.declared.records.Record.{Record}

abbrev pub Meaning : Type 0
Meaning = Result (List Cable) Misread

-- the cables of a record before those of what follows it
abbrev pub before : List Cable → Meaning → Meaning
before cs (Ok ds) = Ok (cs ++ ds)
before cs (Err f) = Err f

-- a record at an offset, after n cables, and what follows it
abbrev pub read_record : (o n : ℕ) → Result Record Refusal → (ℕ → Meaning) → Meaning
read_record o n (Err e) rest = Err (record { cause = e; place = o })
read_record o n (Ok r) rest = cond (nat_lt 256 (n + span r)) (Err (record { cause = TooManyCables; place = o })) (before (spread r) (rest (n + span r)))

abbrev pub read : (o n skip : ℕ) → List ℕ → Meaning
read o n skip [] = Ok []
read o n (suc s) (b ∷ bs) = read (o + 1) n s bs
read o n zero (b ∷ bs) = read_record o n (front (b ∷ bs)) (λ m. read (o + 1) m (body b) bs)

abbrev pub meaning : List ℕ → Meaning
meaning bs = read 0 0 0 bs

abbrev pub cables_of : Meaning → List Cable
cables_of (Ok cs) = cs
cables_of (Err f) = []

abbrev pub counted : ℕ → Meaning → Result ℕ Misread
counted n (Ok cs) = Ok (n + length cs)
counted n (Err f) = Err f
