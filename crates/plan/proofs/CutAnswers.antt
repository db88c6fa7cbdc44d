-- What a cut writes and answers is a good sheet at the list's strength, and every judge accepts it. Assumes nothing.
use Rattle.std.proofs.Common.{◌≡◌, ℕ, ◌<◌, ◌≤◌, ◌⊎◌, List, length, get_or, take, drop, IsErrAnd, Ok, Result, sym, ap, ◌∙◌, subst, inl, inr, ⊎_elim, arith}
use Rattle.std.proofs.lemmas.Result.{err_from_is_err_and}
use Rattle.std.proofs.lemmas.List.{get_or-take, length-take-le}
use Rattle.network.specs.Cables.{Lawful}
use Rattle.network.specs.Lists.{ListStrength}
use Rattle.network.specs.Marks.{OfDevices}
use Rattle.network.specs.Sheets.{leads_up, leading, Lacks, Lone, GoodSheet}
use Rattle.network.specs.declared.cable.Cable.{Cable}
use Rattle.network.specs.declared.refusal.Refusal.{Refusal}
use Rattle.network.proofs.Counts.{count_le}
use Rattle.network.proofs.Sheets.{up_says, up_from}
use Rattle.plan.specs.Tests.{list_check}
use Rattle.plan.specs.Questions.{CutAnswer}
use Rattle.plan.specs.Judging.{part_of, Accepted, OwnAccepted}
use Rattle.plan.proofs.Checking.{buffer_long}
use Rattle.plan.proofs.Verdicts.{good_accepted}

-- whether a sheet is good depends on the parts of devices alone
module _ (cs : List Cable) (l : List ℕ) (k : ℕ) (lawful : Lawful cs) (devices : OfDevices l) (f g : ℕ → ℕ) (same : (d : ℕ) → d < 128 → f d ≡ g d) where
  leading_same : (p : ℕ) → leading cs g p ≤ leading cs f p
  leading_same p = count_le (leads_up g p) (leads_up f p) cs (λ i c st e.
      let b = lawful i c st in
      up_from f p c (⊎_elim
      (λ u. inl (same c.a b.0 ∙ u.0, omega (arith, u.1, same c.b b.1)))
      (λ u. inr (same c.b b.1 ∙ u.0, omega (arith, u.1, same c.a b.0)))
      (up_says g p c e)))

  small_same : (p : ℕ) → Lacks f l p ⊎ Lone f p → Lacks g l p ⊎ Lone g p
  small_same p (inl w) = inl (w.0, w.1, λ e. w.2 (same w.0 (devices w.0 w.1) ∙ e))
  small_same p (inr lone) = inr (λ x y lx ly ex ey. lone x y lx ly (same x lx ∙ ex) (same y ly ∙ ey))

  good_same : GoodSheet cs l k f → GoodSheet cs l k g
  good_same good = record {
    few = λ d b. subst (λ p. leading cs g p ≤ k) (same d b) (omega (arith, leading_same (f d), good.few d b));
    small = λ d b. subst (λ p. Lacks g l p ⊎ Lone g p) (same d b) (small_same (f d) (good.small d b));
  }

module _ (cs : List Cable) (l : List ℕ) (k : ℕ) (before after parts : List ℕ) (lawful : Lawful cs) (devices : OfDevices l) (fit : list_check l ≡ Ok tt)
    (room : 128 ≤ length before) (long : length after ≡ length before) (first : take 128 after ≡ parts) (later : drop 128 after ≡ drop 128 before)
    (strength : ListStrength cs l k) (low : (d : ℕ) → d < 128 → part_of parts d < 128) (good : GoodSheet cs l k (part_of parts)) where
  byte : (d : ℕ) → d < 128 → part_of parts d ≡ part_of after d
  byte d h = sym (ap (λ xs. get_or xs d 0) first) ∙ get_or-take 128 after d 0 h

  pub cut_answer : CutAnswer cs l before (Ok k) after
  cut_answer = record {
    answer = (
      buffer_long (length before) l fit room,
      record { strength = strength; bytes = λ d h. omega (arith, low d h, byte d h); good = good_same cs l k lawful devices (part_of parts) (part_of after) byte good },
    );
    buffer = (long, later);
  }

  pub cut_accepted : Accepted cs l k (take 128 after)
  cut_accepted = good_accepted cs l k (take 128 after) fit (length-take-le 128 after (omega (arith, room, long)))
      (λ d h. omega (arith, low d h, ap (λ xs. get_or xs d 0) first))
      (subst (λ xs. GoodSheet cs l k (part_of xs)) (sym first) good)

-- a refused cut claims nothing
pub refused_accepted : (cs : List Cable) (l b : List ℕ) (e : Refusal) (r : Result ℕ Refusal) → IsErrAnd r (λ y. y ≡ e) → OwnAccepted cs l r b
refused_accepted cs l b e r exit = subst (λ q. OwnAccepted cs l q b) (sym (err_from_is_err_and r exit).1) tt
