-- Words of the method, not of the subject: links between labels, and how many go across a side. A link is a cable of the set
-- at hand; a labelling L names the group that a device is in. Assumes nothing.
--   one b               1 or 0
--   flagged xs d        the flag at d is set
--   label xs d          the label of d
--   cell m y u          row y, column u of a matrix
--   joins L x v l       the link joins the labels x and v
--   between L x v ls    how many links join x and v
--   Matrix L ls m       each cell of m has how many links join its row and its column
--   spans A l           the link has an end on each side of A
--   across A ls         how many links do
--   degree L ls x       how many links lead from the label x to another
--   Ends L S ls         each end of each link is of S, by its label
--   Keeps cs S ls       the links are the cables that belong to S
use Rattle.std.specs.Prelude.{◌≡◌, ℕ, ◌<◌, ◌≤◌, Bool, true, false, cond, ◌&&◌, List, [], length, count_by, ◌==◌, nat_eq, slice_index, slice_index_or}
use Rattle.std.specs.List.{AllByRecursion}
use Rattle.network.specs.Sets.{differ, crossings}
use Rattle.network.specs.declared.cable.Cable.{Cable}
use Rattle.cuts.specs.declared.adjacency.link.Link.{Link}

abbrev pub one : Bool → ℕ
one b = cond b 1 0

abbrev pub flagged : List Bool → ℕ → Bool
flagged xs d = slice_index_or xs d false

abbrev pub label : List ℕ → ℕ → ℕ
label xs d = slice_index xs d

abbrev pub cell : List (List ℕ) → ℕ → ℕ → ℕ
cell m y u = slice_index (slice_index_or m y []) u

abbrev pub joins : (ℕ → ℕ) → ℕ → ℕ → Link → Bool
joins L x v l = cond (L l.a == x) (L l.b == v) (L l.b == x && L l.a == v)

abbrev pub between : (ℕ → ℕ) → ℕ → ℕ → List Link → ℕ
between L x v ls = count_by (joins L x v) ls

abbrev pub Matrix : (ℕ → ℕ) → List Link → List (List ℕ) → Type 0
Matrix L ls m = (y u : ℕ) → y < 128 → u < 128 → cell m y u ≡ between L y u ls

abbrev pub spans : (ℕ → Bool) → Link → Bool
spans A l = differ (A l.a) (A l.b)

abbrev pub across : (ℕ → Bool) → List Link → ℕ
across A ls = count_by (spans A) ls

abbrev pub degree : (ℕ → ℕ) → List Link → ℕ → ℕ
degree L ls x = across (λ d. nat_eq (L d) x) ls

abbrev pub Ends : (ℕ → ℕ) → (ℕ → Bool) → List Link → Type 0
Ends L S ls = AllByRecursion (λ l. (S (L l.a) ≡ true) × (S (L l.b) ≡ true)) ls

pub record Keeps (cs : List Cable) (S : ℕ → Bool) (links : List Link) : Type 0 where
  pub fits : length links ≤ length cs
  pub ends : Ends (λ d. d) S links
  pub same : (A : ℕ → Bool) → across A links ≡ crossings cs S A
