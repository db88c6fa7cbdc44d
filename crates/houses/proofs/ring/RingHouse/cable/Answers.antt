use Rattle.std.proofs.Common.{◌≡◌, ℕ, ◌+◌, ◌%◌, ◌<◌, Option, Some, sym, ap, ◌∙◌, arith, zero-add}
use Rattle.std.specs.List.{slice_get}
use Rattle.network.specs.declared.cable.Cable.{Cable}
use Rattle.network.specs.declared.cable.Run.{Run}
use Rattle.network.proofs.ListPlaces.{nth_counted, nth_counted_past}
use Rattle.houses.specs.Rings.{link, ring}
use Rattle.houses.proofs.ring.RingHouse.cable.Goals as goal

ring_at : (f c : ℕ) (run : Run) (k next a b : ℕ) → k < c → next ≡ (k + 1) % c → a ≡ (f + k) % 128 → b ≡ (f + next) % 128
    → ◌≡◌ {A = Option Cable} (Some (record { a = a; b = b; run = run })) (slice_get (ring f c run) k)
ring_at f c run k next a b low e p q =
    let there = nth_counted (link f c run) 0 c k low ∙ ap (λ i. Some (link f c run i)) (zero-add k) in cc

pub returns-then-place-from : goal.returns-then-place-from
returns-then-place-from c =
    let r = c.args.self.now in
    sym (nth_counted_past (link r.first r.count r.run) 0 r.count c.args.place (omega arith))

pub returns : goal.returns
returns c =
    let r = c.args.self.now in
    ring_at r.first r.count r.run c.args.place _ _ _ (omega arith) c.counted_up-next.ensures c.counted_up.ensures c.counted_up-2.ensures
