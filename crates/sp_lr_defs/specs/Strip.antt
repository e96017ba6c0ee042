-- Chains of horizontal strips, with sums over rows in place of words. Rows are counted from 0 here.
use Rattle.std.specs.Prelude.{◌≡◌, ℕ, zero, suc, ◌+◌, ◌-◌, ◌≤◌, List, [], ◌∷◌, slice_index}
use Rattle.sp_defs.specs.Partition.{degree, part, IsPartition}

-- The sum of the first n values (this project's own).
abbrev pub first : ℕ → (ℕ → ℕ) → ℕ
first zero f = 0
first (suc n) f = f 0 + first n (λ i. f (suc i))

-- How many nodes each row has more (this project's own).
abbrev pub gained : List ℕ → List ℕ → ℕ → ℕ
gained before after i = slice_index after i - slice_index before i

-- In rows up to each, `more` has at most `spare` nodes above those that `given` has in the rows before (this project's
-- own).
abbrev pub Covers : ℕ → (ℕ → ℕ) → (ℕ → ℕ) → Type 0
Covers spare given more = (i : ℕ) → first (suc i) more ≤ spare + first i given

-- `after` is a partition with n nodes more than `last`, no two of them in a column.
-- (Macdonald, Symmetric Functions and Hall Polynomials, I.1: a horizontal n-strip)
pub record IsStrip (last after : List ℕ) (n : ℕ) : Type 0 where
  pub partition : IsPartition after
  pub grows : (i : ℕ) → slice_index last i ≤ slice_index after i
  pub apart : (i : ℕ) → slice_index after (i + 1) ≤ slice_index last i
  pub total : degree after ≡ degree last + n

-- A strip whose nodes are covered by those of the strip before, from `before` to `last` (this project's own).
pub record IsNext (before last : List ℕ) (spare n : ℕ) (after : List ℕ) : Type 0 where
  pub strip : IsStrip last after n
  pub covered : Covers spare (gained before last) (gained last after)

-- The partitions after `last` make strips of these sizes, each covered by the one before it. The first is covered
-- where it has at most `spare` nodes, beside those from `before` to `last` (this project's own).
abbrev pub AreStrips : List ℕ → List ℕ → ℕ → List ℕ → List (List ℕ) → Type 0
AreStrips before last spare [] [] = Unit {0}
AreStrips before last spare [] (shape ∷ shapes) = ⊥
AreStrips before last spare (n ∷ ns) [] = ⊥
AreStrips before last spare (n ∷ ns) (shape ∷ shapes) =
    IsNext before last spare n shape × AreStrips last shape 0 ns shapes

-- A chain from `lambda` on, whose strips have the sizes that mu says, and each but the first is covered by the one
-- before
-- (this project's own).
abbrev pub IsStripChain : List ℕ → List ℕ → List (List ℕ) → Type 0
IsStripChain lambda mu [] = ⊥
IsStripChain lambda mu (inner ∷ shapes) = (inner ≡ lambda) × AreStrips lambda lambda (part mu 1) mu shapes

-- The last partition of a chain from `inner` on (this project's own).
abbrev pub end_from : List ℕ → List (List ℕ) → List ℕ
end_from inner [] = inner
end_from inner (shape ∷ shapes) = end_from shape shapes
