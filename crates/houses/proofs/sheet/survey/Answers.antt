use Rattle.std.proofs.Common.{◌≡◌, ℕ, Ok, Err, Result, MatchResult, sym, refl, ap, ◌∙◌, rules, arith}
use Rattle.std.specs.Prelude.{IsErrAnd}
use Rattle.houses.specs.declared.misread.Misread.{Misread}
use Rattle.network.specs.declared.refusal.Refusal.{Refusal}
use Rattle.houses.specs.declared.records.Record.{Record}
use Rattle.houses.proofs.Reading.{surveyed_step, surveyed_end}
use Rattle.houses.proofs.sheet.survey.Goals as goal

-- a fault that was given its place has the refusal of the record
told : {P : Refusal → Misread → Type 0} (x : Result Record Refusal) (made : Result Record Misread) (out : Misread) (place : ℕ)
    → ((e : Refusal) (f : Misread) → P e f → f ≡ record { cause = e; place = place })
    → MatchResult x (λ r. made ≡ Ok r) (λ e. IsErrAnd made (λ f. P e f)) → made ≡ Err out
    → (e : Refusal) × (x ≡ Err e) × (out ≡ record { cause = e; place = place })
told (Ok r) made out place said h was = absurd (let z : ◌≡◌ {A = ℕ} 0 1 = cc in omega arith)
told (Err e) (Ok r) out place said h was = absurd h
told (Err e) (Err f) out place said h was = let same : f ≡ out = cc in (e, refl, sym same ∙ said e f h)

pub returns-in_err-map_err : goal.returns-in_err-map_err
returns-in_err-map_err c =
    let l = c.loop-place in
    let out : ◌≡◌ {A = Result ℕ Misread} c.from_residual.result (Err c.in_err-map_err.field-0.0) = search rules in
    let p = told c.in-Some.record c.map_err.result c.in_err-map_err.field-0.0 c.in-Some.place (λ e f k. search rules) c.map_err.ensures.cases c.in_err-map_err.was in
    out ∙ ap Err p.2 ∙ surveyed_end c.args.bytes.now l.place-iterator.left.now c.next.new.self.left.now l.place-iterator.place l.count c.in-Some.place
    c.next.new.self.place c.in-Some.record p.0 c.in-Some.ensures.steps p.1 l.invariant

pub loop-place-preserved : goal.loop-place-preserved
loop-place-preserved c =
    let l = c.loop-place in
    let same : ◌≡◌ {A = Result Record Refusal} c.in-Some.record (Ok c.in_ok-map_err.field-0) = search rules in
    surveyed_step c.args.bytes.now l.place-iterator.left.now c.next.new.self.left.now l.place-iterator.place l.count c.span-more.result c.in-Some.place
    c.next.new.self.place c.in-Some.record c.in_ok-map_err.field-0 c.in-Some.ensures.steps same c.span-more.ensures c.if-count-more-gt256.false l.invariant
