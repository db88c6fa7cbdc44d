use Rattle.std.proofs.Common.{sym, ◌∙◌, rules}
use Rattle.std.proofs.lemmas.Bool.{both_ways}
use Rattle.cuts.specs.Members.{set_of}
use Rattle.plan.specs.Grading.{mark_at}
use Rattle.plan.specs.Strengths.{Highest}
use Rattle.plan.specs.Tables.{rows_of, table_cables}
use Rattle.plan.proofs.Checking.{some_says, none_says, both_say, names_devices}
use Rattle.plan.proofs.Strengths.{several_strength, lone_strength}
use Rattle.plan.proofs.strength.figure_of.Goals as goal

pub returns-then-is_some : goal.returns-then-is_some
returns-then-is_some c l x names i =
    let one = some_says _ _ c.one_of_several.result (sym c.is_some.ensures ∙ c.if-is_some.true) c.one_of_several.ensures in
    several_strength c.args.table.now c.args.devices.now l names c.joining_mark.result one.1.0 c.joining_mark.ensures

pub returns : goal.returns
returns c l x names i =
    let t = c.args.table.now in
    let s = c.args.devices.now in
    let lone = none_says _ _ c.one_of_several.result (sym c.is_some.ensures ∙ c.if-is_some.false) c.one_of_several.ensures in
    both_say _ _ c.lowest.result c.lowest.ensures c.map_or.ensures
    (λ off is. absurd (both_ways (set_of s x) (off x (names_devices s l names x i)) (names x ∙ i)))
    (λ d held post.
    let h : Highest (table_cables t) (mark_at (rows_of t)) d c.map_or.result = search (rules, post) in
    lone_strength t s l names c.map_or.result d lone held.1 h)
