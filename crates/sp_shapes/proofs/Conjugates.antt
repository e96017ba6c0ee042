-- The conjugate of a partition is a partition of the same degree.
use Rattle.std.proofs.Common.{◌≡◌, ℕ, zero, suc, ◌+◌, ◌-◌, ◌<◌, ◌≤◌, min, cond, nat_le, List, [], ◌∷◌, map}
use Rattle.std.proofs.Common.{length, get_or}
use Rattle.std.proofs.Common.{slice_index, refl, sym, ◌∙◌, ap, subst, arith, sum, sum_by, ◌⊎◌, inl, inr, le-leb}
use Rattle.std.proofs.lemmas.Bool.{lt-leb}
use Rattle.std.proofs.lemmas.Grind.{common_steps}
use Rattle.std.proofs.lemmas.List.FromFn.{get_or-map-range_with_len, length-map-range_with_len}
use Rattle.std.proofs.lemmas.List.FromFn.{sum_by-map-range_with_len_more}
use Rattle.std.proofs.lemmas.List.Sums.{sum_by-cons, sum_by-le-sum_by}
use Rattle.sp_defs.specs.Partition.{degree, part, IsPartition, conjugate, from_one_to}
use Rattle.sp_lists.proofs.Elements.{le_or_lt}
use Rattle.sp_shapes.proofs.Columns.{column, column_reaches, first_longest}

-- Whether a row reaches column c, as a number.
abbrev pub reaches : ℕ → ℕ → ℕ
reaches c p = cond (nat_le c p) 1 0

-- it does where the row is as long
pub reaches_yes : (c p : ℕ) → c ≤ p → reaches c p ≡ 1
reaches_yes c p h = ap (λ b. cond b 1 0) (le-leb c p h)

-- it does not where the row is shorter
pub reaches_no : (c p : ℕ) → p < c → reaches c p ≡ 0
reaches_no c p h = ap (λ b. cond b 1 0) (lt-leb c p h)

-- ---- the columns fall

reaches_less : (c p : ℕ) → reaches (c + 1) p ≤ reaches c p
reaches_less c p = at (le_or_lt (c + 1) p)
  where
    at : (c + 1 ≤ p) ⊎ (p < c + 1) → reaches (c + 1) p ≤ reaches c p
    at (inl h) = omega (arith, reaches_yes (c + 1) p h, reaches_yes c p (omega arith))
    at (inr h) = omega (arith, reaches_no (c + 1) p h)

column_falls : (parts : List ℕ) (c : ℕ) → column parts (c + 1) ≤ column parts c
column_falls parts c = sum_by-le-sum_by (reaches (c + 1)) (reaches c) parts (reaches_less c)

-- the conjugate has so many rows as the first row has nodes
pub length-conjugate : (parts : List ℕ) → length (conjugate parts) ≡ part parts 1
length-conjugate parts = length-map-range_with_len (column parts) 1 (part parts 1)

-- its row k, counted from 0, is column k + 1
pub conjugate_at : (parts : List ℕ) (k d : ℕ) → k < part parts 1 → get_or (conjugate parts) k d ≡ column parts (k + 1)
conjugate_at parts k d h = get_or-map-range_with_len (column parts) 1 (part parts 1) k (k + 1) d h (omega arith)

-- past the end of a list of parts there are zeros
pub past_end : (xs : List ℕ) (k : ℕ) → length xs ≤ k → slice_index xs k ≡ 0
past_end xs k h = grind (arith, common_steps)

-- the conjugate of a partition is a partition
pub conjugate_partition : (parts : List ℕ) → IsPartition parts → IsPartition (conjugate parts)
conjugate_partition parts is = record {
  descending = λ k. falls k (le_or_lt (part parts 1) (k + 1));
  positive = λ k d h.
      let within : k < part parts 1 = omega (arith, length-conjugate parts) in
      let reached : 1 ≤ column parts (k + 1) =
      column_reaches parts 1 (k + 1) is (omega arith) (omega arith) (omega arith)
      in omega (arith, conjugate_at parts k d within, reached);
}
  where
    falls : (k : ℕ) → (part parts 1 ≤ k + 1) ⊎ (k + 1 < part parts 1) →
        slice_index (conjugate parts) (k + 1) ≤ slice_index (conjugate parts) k
    falls k (inl past) = omega (arith, past_end (conjugate parts) (k + 1) (omega (arith, length-conjugate parts)))
    falls k (inr within) =
        omega (
          arith,
          conjugate_at parts (k + 1) 0 within,
          conjugate_at parts k 0 (omega arith),
          column_falls parts (k + 1),
        )

-- ---- the nodes by columns are the nodes by rows

-- The nodes in the first w columns.
abbrev in_columns : ℕ → List ℕ → ℕ
in_columns w parts = sum_by (λ p. min p w) parts

one_more : (w p : ℕ) → min p (w + 1) ≡ min p w + reaches (w + 1) p
one_more w p = at (le_or_lt (w + 1) p)
  where
    at : (w + 1 ≤ p) ⊎ (p < w + 1) → min p (w + 1) ≡ min p w + reaches (w + 1) p
    at (inl h) = omega (arith, reaches_yes (w + 1) p h)
    at (inr h) = omega (arith, reaches_no (w + 1) p h)

one_column : (w : ℕ) (parts : List ℕ) → in_columns (w + 1) parts ≡ in_columns w parts + column parts (w + 1)
one_column w [] = refl
one_column w (p ∷ parts) =
    omega (
      arith,
      one_more w p,
      one_column w parts,
      sum_by-cons (λ q. min q (w + 1)) p parts,
      sum_by-cons (λ q. min q w) p parts,
      sum_by-cons (reaches (w + 1)) p parts,
    )

no_columns : (parts : List ℕ) → in_columns 0 parts ≡ 0
no_columns [] = refl
no_columns (p ∷ parts) = omega (arith, no_columns parts, sum_by-cons (λ q. min q 0) p parts)

columns_sum : (w : ℕ) (parts : List ℕ) → sum (map (column parts) (from_one_to w)) ≡ in_columns w parts
columns_sum zero parts = sym (no_columns parts)
columns_sum (suc w) parts =
    subst (λ n. sum (map (column parts) (from_one_to n)) ≡ in_columns n parts) (plus_one w)
    (omega (
      arith,
      sum_by-map-range_with_len_more (λ x. x) (column parts) 1 w (w + 1) (omega arith),
      one_column w parts,
      columns_sum w parts,
    ))
  where
    plus_one : (w : ℕ) → w + 1 ≡ suc w
    plus_one w = omega arith

all_columns : (w : ℕ) (parts : List ℕ) → ((k : ℕ) → slice_index parts k ≤ w) → in_columns w parts ≡ sum parts
all_columns w [] h = refl
all_columns w (p ∷ parts) h =
    omega (
      arith,
      h 0,
      all_columns w parts (λ k. h (suc k)),
      sum_by-cons (λ q. min q w) p parts,
      sum_by-cons (λ q. q) p parts,
    )

-- the conjugate has the same degree
pub degree-conjugate : (parts : List ℕ) → IsPartition parts → degree (conjugate parts) ≡ degree parts
degree-conjugate parts is =
    columns_sum (part parts 1) parts
    ∙ all_columns (part parts 1) parts (λ k. subst (λ n. slice_index parts n ≤ part parts 1) (less k)
    (first_longest parts (k + 1) is))
  where
    less : (k : ℕ) → k + 1 - 1 ≡ k
    less k = omega arith
