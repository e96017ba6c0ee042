-- The columns of a diagram.
use Rattle.std.proofs.Common.{◌≡◌, ℕ, zero, suc, ◌+◌, ◌-◌, ◌<◌, ◌≤◌, cond, nat_le, List, [], ◌∷◌, slice_index, count_by}
use Rattle.std.proofs.Common.{◌∙◌, ap, subst, arith, le-leb}
use Rattle.std.proofs.lemmas.List.FromFn.{get_or-map-range_with_len}
use Rattle.std.proofs.lemmas.List.Sums.{sum_by-cons}
use Rattle.sp_defs.specs.Partition.{part, conjugate, IsPartition}
use Rattle.sp_defs.specs.Node.{hook}
use Rattle.sp_shapes.proofs.Diagram.{IsPartition-tail, Inside}
use Rattle.sp_shapes.proofs.Regular.{descends}

-- The number of parts that are at least c.
abbrev pub column : List ℕ → ℕ → ℕ
column parts c = count_by (λ p. nat_le c p) parts

-- a row of the conjugate is a column
pub part-conjugate : (parts : List ℕ) (c : ℕ) → 1 ≤ c → c ≤ part parts 1 → part (conjugate parts) c ≡ column parts c
part-conjugate parts c lo hi =
    get_or-map-range_with_len (column parts) 1 (part parts 1) (c - 1) c 0 (omega arith) (omega arith)

-- no row is longer than the first
pub first_longest : (parts : List ℕ) (r : ℕ) → IsPartition parts → part parts r ≤ part parts 1
first_longest parts r h = subst (λ n. slice_index parts n ≤ part parts 1) (omega arith) (descends parts h 0 (r - 1))

counts_one : (c p : ℕ) (parts : List ℕ) → c ≤ p → column (p ∷ parts) c ≡ 1 + column parts c
counts_one c p parts h =
    sum_by-cons (λ q. cond (nat_le c q) 1 0) p parts ∙ ap (λ b. cond b 1 0 + column parts c) (le-leb c p h)

-- A column has a node in each row that is long enough.
column_past : (parts : List ℕ) (k c : ℕ) → IsPartition parts → 1 ≤ c → c ≤ slice_index parts k → k < column parts c
column_past [] k c h lo hi = absurd (omega arith)
column_past (p ∷ parts) zero c h lo hi = omega (arith, counts_one c p parts hi)
column_past (p ∷ parts) (suc k) c h lo hi =
    let place : 0 + suc k ≡ suc k = omega arith in
    let longest = subst (λ n. slice_index (p ∷ parts) n ≤ p) place (descends (p ∷ parts) h 0 (suc k)) in
    let wide : c ≤ p = omega (arith, longest) in
    omega (arith, counts_one c p parts wide, column_past parts k c (IsPartition-tail p parts h) lo hi)

-- a column goes down to each row that is long enough
pub column_reaches : (parts : List ℕ) (r c : ℕ) → IsPartition parts → 1 ≤ r → 1 ≤ c → c ≤ part parts r
    → r ≤ column parts c
column_reaches parts r c h row lo hi = omega (arith, column_past parts (r - 1) c h lo hi)

-- the hook of a node, by its row and its column
pub hook-column : (parts : List ℕ) (r c : ℕ) → IsPartition parts → Inside parts r c
    → hook parts (r, c) ≡ (part parts r - c) + (column parts c - r) + 1
hook-column parts r c h node =
    let longest = first_longest parts r h in
    let within = node.within in
    ap (λ n. (part parts r - c) + (n - r) + 1) (part-conjugate parts c node.column (omega arith))
