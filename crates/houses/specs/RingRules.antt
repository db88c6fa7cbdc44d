-- A ring keeps the house rules. Assumes nothing.
use Rattle.std.specs.Prelude.{◌≡◌, ℕ, ◌+◌, ◌%◌, ◌<◌, ◌≤◌, ◌≢◌, length}
use Rattle.std.proofs.Common.{ap, ◌∙◌, ⊎_elim, arith, mod-eq_of_lt}
use Rattle.std.proofs.Math.Nat.{mod_self}
use Rattle.std.proofs.lemmas.Bool.{cases_lt}
use Rattle.std.proofs.lemmas.List.FromFn.{length-map-range_with_len}
use Rattle.network.specs.Cables.{LawfulCable, Lawful, reach}
use Rattle.network.specs.declared.cable.Run.{Run}
use Rattle.houses.specs.Rings.{link, ring}
use Rattle.network.proofs.ListPlaces.{lawful_counted}

-- the next device's place is a different one, also at the end, where it is the first
next_place : (c i : ℕ) → 3 ≤ c → i < c → ((i + 1) % c < c) × ((i + 1) % c ≢ i)
next_place c i h low = ⊎_elim
    (λ (more : i + 1 < c). let e = mod-eq_of_lt {n = i + 1} {m = c} more in (omega arith, omega arith))
    (λ (last : c ≤ i + 1). let e : i + 1 ≡ c = omega arith in let z = ap (λ n. n % c) e ∙ mod_self c in (omega arith, omega arith))
    (cases_lt (i + 1) c)

lawful_link : (f c : ℕ) (run : Run) → 3 ≤ c → c ≤ 128 → (1 ≤ run.length) × (run.length ≤ reach run.medium)
    → (i : ℕ) → i < c → LawfulCable (link f c run i)
lawful_link f c run least most fit i low =
    let n = next_place c i least low in
    (omega arith, omega arith, ends_differ f i ((i + 1) % c) (omega arith) (omega arith) n.1, fit.0, fit.1)
  where
    ends_differ : (f i j : ℕ) → i < 128 → j < 128 → j ≢ i → (f + i) % 128 ≢ (f + j) % 128
    ends_differ f i j p q ne e = ne (omega arith)

pub few_ring : (f c : ℕ) (run : Run) → c ≤ 128 → length (ring f c run) ≤ 256
few_ring f c run h = omega (arith, length-map-range_with_len (link f c run) 0 c)

pub lawful_ring : (f c : ℕ) (run : Run) → 3 ≤ c → c ≤ 128 → (1 ≤ run.length) × (run.length ≤ reach run.medium) → Lawful (ring f c run)
lawful_ring f c run least most fit = lawful_counted (link f c run) 0 c (λ i p q. lawful_link f c run least most fit i (omega arith))
