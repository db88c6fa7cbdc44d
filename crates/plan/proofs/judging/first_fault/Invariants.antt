use Rattle.std.proofs.Common.{◌≡◌, ℕ, ◌+◌, ◌-◌, ◌<◌, ◌≤◌, List, take, count_by}
use Rattle.network.specs.Sheets.{leads_up}
use Rattle.cuts.specs.Members.{set_of}
use Rattle.cutsheets.specs.Listing.{Names}
use Rattle.plan.specs.Judging.{part_of, Sound}
use Rattle.plan.specs.Tables.{table_cables}
use Rattle.plan.proofs.judging.first_fault.Given as goal

abbrev pub invariant-loop-row : goal.invariant-loop-row
invariant-loop-row l = (l.leading ≡ count_by (λ r. leads_up (part_of l.parts) l.part r.cable) (take l.row-index l.row-items)) × (l.leading ≤ l.row-index)

abbrev pub invariant-loop-part : goal.invariant-loop-part
invariant-loop-part l =
    (l.part ≤ 128)
    × ((x : List ℕ) → Names x (set_of l.devices) → (q : ℕ) → q < l.part → Sound (table_cables l.table) x l.k (part_of l.parts) q)

abbrev pub decreases-loop-part : goal.decreases-loop-part
decreases-loop-part l = 127 + 1 - l.part
