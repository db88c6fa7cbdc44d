-- How the tests of a question follow each other, from the list's on. Assumes nothing.
use Rattle.std.proofs.Common.{◌≡◌, ℕ, ◌≤◌, Bool, true, false, not, eqb, ltb, List, [], ◌∷◌, length, is_some, Some, None, IsErrAnd, MatchOption, Ok, Err, Option, Result, sym, refl, ap, ◌∙◌, subst, ⊎_elim, arith}
use mathlib.Core.Path.{fun_ext}
use Rattle.std.specs.Option.{ok_or}
use Rattle.std.proofs.lemmas.Result.{err_from_is_err_and}
use Rattle.std.proofs.lemmas.Bool.{false≢true, cases_Bool, le-ltb}
use Rattle.network.specs.Figures.{several}
use Rattle.network.specs.Lists.{member}
use Rattle.network.specs.Marks.{OfDevices}
use Rattle.network.specs.Refusals.{refuse}
use Rattle.network.specs.Sets.{DeviceSet}
use Rattle.network.specs.declared.refusal.Refusal.{Refusal}
use Rattle.network.specs.declared.refusal.Refusal.TheVariants.{DeviceOutOfRange, ListEmpty, ListTooLong, BufferTooShort, TooFewDevices}
use Rattle.network.proofs.Members.{here}
use Rattle.network.proofs.SetTests.{several_from, several_says}
use Rattle.cuts.specs.Members.{set_of}
use Rattle.cuts.specs.declared.devices.Devices.{Devices}
use Rattle.cuts.proofs.Membership.{held_low}
use Rattle.cutsheets.specs.Listing.{Names}
use Rattle.plan.specs.Tests.{outside, list_then, list_check, buffer_check, run_check, Gives, Writes}

abbrev Answer : Type 0
Answer = Result (Unit {0}) Refusal

-- a test of whether there is an answer, and what the answer says
pub some_says : {X : Type 0} (A : Type 0) (B : X → Type 0) (o : Option X) → is_some o ≡ true → MatchOption o A B → (x : X) × B x
some_says A B (Some x) e p = (x, p)
some_says A B None e p = absurd (false≢true e)

pub none_says : {X : Type 0} (A : Type 0) (B : X → Type 0) (o : Option X) → is_some o ≡ false → MatchOption o A B → A
none_says A B (Some x) e p = absurd (false≢true (sym e))
none_says A B None e p = p

-- two things that are said of one answer
pub both_say : {X A C Z : Type 0} (B D : X → Type 0) (o : Option X) → MatchOption o A B → MatchOption o C D → (A → C → Z) → ((x : X) → B x → D x → Z) → Z
both_say B D (Some x) p q none some = some x p q
both_say B D None p q none some = none p q

-- three tests in a row, and then x
abbrev thrice : (a b c : Bool) → Answer → Answer
thrice a b c x = refuse ListEmpty a (refuse ListTooLong b (refuse DeviceOutOfRange c x))

never_passed : {A : Type 0} (e : Refusal) → ◌≡◌ {A = Answer} (Err e) (Ok tt) → A
never_passed e p = let z : ◌≡◌ {A = ℕ} 0 1 = cc in absurd (omega arith)

never_refused : {A : Type 0} (e : Refusal) → ◌≡◌ {A = Answer} (Ok tt) (Err e) → A
never_refused e p = let z : ◌≡◌ {A = ℕ} 0 1 = cc in absurd (omega arith)

passed : (a b c : Bool) (x : Answer) → thrice a b c (Ok tt) ≡ Ok tt → thrice a b c x ≡ x
passed true b c x p = never_passed ListEmpty p
passed false true c x p = never_passed ListTooLong p
passed false false true x p = never_passed DeviceOutOfRange p
passed false false false x p = refl

refused : (a b c : Bool) (x : Answer) (e : Refusal) → thrice a b c (Ok tt) ≡ Err e → thrice a b c x ≡ Err e
refused true b c x e p = p
refused false true c x e p = p
refused false false true x e p = p
refused false false false x e p = never_refused e p

-- a list that passes names a device
pub listed_one : (l : List ℕ) → list_check l ≡ Ok tt → (x : ℕ) × (member l x ≡ true)
listed_one [] p = never_passed ListEmpty p
listed_one (x ∷ l) p = (x, here x l)

module _ (l : List ℕ) (x : Answer) where
  -- past the list's tests the later ones decide
  pub list_passed : list_check l ≡ Ok tt → list_then l x ≡ x
  list_passed = passed (eqb (length l) 0) (ltb 128 (length l)) (outside l) x

  -- a refused list is refused whatever comes later
  pub list_refused : (e : Refusal) → list_check l ≡ Err e → list_then l x ≡ Err e
  list_refused = refused (eqb (length l) 0) (ltb 128 (length l)) (outside l) x

  -- what the exit of a `?` at the list returns
  pub refused_gives : {A : Type 0} (P : A → Type 0) (e : Refusal) (r : Result A Refusal) → IsErrAnd r (λ y. y ≡ e) → list_check l ≡ Err e → Gives (list_then l x) P r
  refused_gives P e r exit bad =
      let p = err_from_is_err_and r exit in
      subst (Gives (list_then l x) P) (sym (p.1 ∙ ap Err p.2)) (list_refused e bad)

-- what the exit of a `?` past the list returns
pub gives_err : {A : Type 0} (P : A → Type 0) (check : Answer) (e : Refusal) (r : Result A Refusal) → IsErrAnd r (λ y. y ≡ e) → check ≡ Err e → Gives check P r
gives_err P check e r exit is =
    let p = err_from_is_err_and r exit in
    subst (Gives check P) (sym (p.1 ∙ ap Err p.2)) is

-- a refusal by `ok_or`, and a pass
module _ {X : Type 0} (A : Type 0) (B : X → Type 0) (o : Option X) (said : MatchOption o A B) (e : Refusal) where
  pub refused_or : (f : Refusal) → ok_or o e ≡ Err f → A × (e ≡ f)
  refused_or f is = go o said is
    where
      go : (p : Option X) → MatchOption p A B → ok_or p e ≡ Err f → A × (e ≡ f)
      go (Some x) m is = let z : ◌≡◌ {A = ℕ} 0 1 = cc in absurd (omega arith)
      go None m is = (m, cc)

  pub passed_or : (x : X) → ok_or o e ≡ Ok x → B x
  passed_or x is = go o said is
    where
      go : (p : Option X) → MatchOption p A B → ok_or p e ≡ Ok x → B x
      go (Some y) m is = let q : y ≡ x = cc in subst B q m
      go None m is = let z : ◌≡◌ {A = ℕ} 0 1 = cc in absurd (omega arith)

pub refused_writes : {A : Type 0} (e : Refusal) (r : Result A Refusal) (bs : List ℕ) → IsErrAnd r (λ y. y ≡ e) → Writes bs r bs
refused_writes e r bs exit = subst (λ q. Writes bs q bs) (sym (err_from_is_err_and r exit).1) refl

module _ (s : Devices) (l : List ℕ) (names : Names l (set_of s)) where
  pub named : set_of s ≡ member l
  named = fun_ext names

  pub names_devices : OfDevices l
  names_devices d m = held_low s d (names d ∙ m)

  pub too_few : list_check l ≡ Ok tt → (DeviceSet (set_of s) → ⊥) → run_check l ≡ Err TooFewDevices
  too_few ok few =
      let off : several (member l) ≡ false = ⊎_elim (λ t. absurd (few (subst DeviceSet (sym named) (several_says (member l) names_devices t)))) (λ f. f) (cases_Bool (several (member l))) in
      list_passed l (refuse TooFewDevices (not (several (member l))) (Ok tt)) ok ∙ ap (λ b. refuse TooFewDevices (not b) (Ok tt)) off

  pub enough : list_check l ≡ Ok tt → DeviceSet (set_of s) → run_check l ≡ Ok tt
  enough ok set =
      list_passed l (refuse TooFewDevices (not (several (member l))) (Ok tt)) ok
      ∙ ap (λ b. refuse TooFewDevices (not b) (Ok tt)) (several_from (member l) (subst DeviceSet named set))

-- past the list's tests the buffer's decides
pub buffer_tested : (l : List ℕ) (n : ℕ) → list_check l ≡ Ok tt → buffer_check l n ≡ refuse BufferTooShort (ltb n 128) (Ok tt)
buffer_tested l n ok = list_passed l (refuse BufferTooShort (ltb n 128) (Ok tt)) ok

module _ (n : ℕ) where
  -- a buffer that passes has room
  pub roomy : ◌≡◌ {A = Answer} (refuse BufferTooShort (ltb n 128) (Ok tt)) (Ok tt) → 128 ≤ n
  roomy is = go (ltb n 128) refl is
    where
      go : (t : Bool) → ltb n 128 ≡ t → ◌≡◌ {A = Answer} (refuse BufferTooShort t (Ok tt)) (Ok tt) → 128 ≤ n
      go true e p = never_passed BufferTooShort p
      go false e p = search arith

  pub buffer_long : (l : List ℕ) → list_check l ≡ Ok tt → 128 ≤ n → buffer_check l n ≡ Ok tt
  buffer_long l ok h = buffer_tested l n ok ∙ ap (λ b. refuse BufferTooShort b (Ok tt)) (le-ltb n 128 h)
