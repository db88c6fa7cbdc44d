use Rattle.std.proofs.Common.{◌≡◌, ℕ, ◌<◌, true, leb, ◌↔◌, ◌∙◌, rules}
use Rattle.std.proofs.lemmas.Bool.{both_ways}
use Rattle.network.specs.Chains.{Linked}
use Rattle.cuts.specs.Members.{set_of}
use Rattle.forest.specs.Places.{Reaching}
use Rattle.plan.specs.Grading.{mark_at}
use Rattle.plan.specs.Tables.{rows_of, table_cables}
use Rattle.plan.proofs.Checking.{both_say, names_devices}
use Rattle.plan.proofs.Grouping.{group_joined}
use Rattle.plan.proofs.group.group_of.Goals as goal

pub returns : goal.returns
returns c l x names i pos strength =
    let t = c.args.table.now in
    let s = c.args.devices.now in
    both_say _ _ c.lowest.result c.lowest.ensures c.map_or_else.ensures
    (λ off is. absurd (both_ways (set_of s x) (off x (names_devices s l names x i)) (names x ∙ i)))
    (λ d held post.
    let near : (e : ℕ) → e < 128 → (set_of c.map_or_else.result e ≡ true) ↔ Linked (Reaching (λ a b. leb b a) (table_cables t) (mark_at (rows_of t)) c.args.k) d e = search (rules, post) in
    group_joined t c.args.k d s l names held.1 pos strength c.map_or_else.result near)
