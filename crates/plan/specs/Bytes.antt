-- A set of devices as bytes. Assumes nothing.
--   Written S n bs bs'    bs' is bs, except that its first n bytes, of 128 at most, are 1 for the devices of S and else 0
use Rattle.std.specs.Prelude.{◌≡◌, ℕ, ◌<◌, Bool, cond, List, length, drop, slice_index}

pub record Written (S : ℕ → Bool) (n : ℕ) (bs bs' : List ℕ) : Type 0 where
  pub long : length bs' ≡ length bs
  pub later : drop 128 bs' ≡ drop 128 bs
  pub bytes : (d : ℕ) → d < n → slice_index bs' d ≡ cond (S d) 1 0
