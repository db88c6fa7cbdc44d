-- A rig stays one where a lawful cable is put behind its cables, if there is room.
use Rattle.std.proofs.Common.{◌≡◌, ◌<◌, ◌≤◌, ◌+◌, ◌↔◌, true, [], ◌∷◌, ◌++◌, Result, Ok, Err, IsOk, OnOk, OnErr, is_ok, refl, sym, ap, subst, arith}
use Rattle.std.proofs.lemmas.Bool.{false≢true}
use Rattle.arrayvec.specs.ArrayVec.{ArrayVec, array_vec_len}
use Rattle.network.specs.declared.cable.Cable.{Cable}
use Rattle.network.specs.Cables.{Lawful, LawfulCable}
use Rattle.network.specs.Refusals.{cable_check}
use Rattle.network.specs.declared.refusal.Refusal.{Refusal}
use Rattle.network.proofs.Checks.{checked_lawful}
use Rattle.network.proofs.ListPlaces.{lawful_push}

-- a cable that passes is lawful
pub passed_lawful : (c : Cable) (r : Result (Unit {0}) Refusal) → r ≡ cable_check c → is_ok r ≡ true → LawfulCable c
passed_lawful c (Ok u) is ok = checked_lawful c u is
passed_lawful c (Err e) is ok = absurd (false≢true ok)

module _ {A B : Type 0} (old : ArrayVec Cable) (cable : Cable) (new : ArrayVec Cable) where
  pub lawful_more : (r : Result A B) → OnOk r (new.items ≡ old.items ++ cable ∷ []) → OnErr r (new ≡ old) → LawfulCable cable → Lawful old.items → Lawful new.items
  lawful_more (Ok _) put same c all = subst Lawful (sym put) (lawful_push old.items cable all c)
  lawful_more (Err _) put same c all = subst Lawful (sym (ap (λ v. v.items) same)) all

  pub few_more : (r : Result A B) → (IsOk r ↔ (array_vec_len old < 512)) → OnOk r (array_vec_len new ≡ array_vec_len old + 1) → OnErr r (new ≡ old)
      → array_vec_len old ≤ 512 → array_vec_len new ≤ 512
  few_more (Ok _) room put same few = omega (arith, room.0 refl, put)
  few_more (Err _) room put same few = omega (arith, ap (λ (v : ArrayVec Cable). array_vec_len v) same)
