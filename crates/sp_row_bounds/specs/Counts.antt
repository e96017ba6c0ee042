-- How many partitions there are, and bounds on the number of the e-regular ones, as statements that contracts name.
use Rattle.std.specs.Prelude.{◌≡◌, ℕ, ◌≤◌, ◌<◌, List, [], ◌∷◌, map, length}
use Rattle.std.specs.List.{range_with_len}
use Rattle.sp_defs.specs.Partition.{degree, partitions, regulars}
use Rattle.sp_defs.specs.Row.{earlier}
use Rattle.sp_defs.specs.Statements.{IsLabel}
use Rattle.sp_row_bounds.specs.Powers.{row_bound}

-- The numbers of the partitions of 0, 1, 2, .. 32.
-- (Andrews, The Theory of Partitions, 1976)
abbrev pub partition_numbers : List ℕ
partition_numbers =
    1 ∷ 1 ∷ 2 ∷ 3 ∷ 5 ∷ 7 ∷ 11 ∷ 15 ∷ 22 ∷ 30 ∷ 42 ∷ 56 ∷ 77 ∷ 101 ∷ 135 ∷ 176 ∷ 231 ∷ 297 ∷ 385 ∷ 490 ∷ 627 ∷ 792 ∷
    1002 ∷ 1255 ∷ 1575 ∷ 1958 ∷ 2436 ∷ 3010 ∷ 3718 ∷ 4565 ∷ 5604 ∷ 6842 ∷ 8349 ∷ []

-- The partitions of n up to 32, counted; bounds on these counts for all n up to 30 and 32; and the e-regular ones
-- among them (this project's own).
pub record CountLaw : Type 0 where
  pub numbers : map (λ n. length (partitions n)) (range_with_len 0 33) ≡ partition_numbers
  pub up_to_30 : (n : ℕ) → n ≤ 30 → length (partitions n) ≤ 5604
  pub up_to_32 : (n : ℕ) → n ≤ 32 → length (partitions n) ≤ 8349
  -- some partition is e-regular, and not more are than there are partitions
  pub some_regular : (e n : ℕ) → 2 ≤ e → 1 ≤ length (regulars e n)
  pub few_regulars : (e n : ℕ) → length (regulars e n) ≤ length (partitions n)
  -- so a rank is less than the number of partitions
  pub few_earlier : (e : ℕ) (mu : List ℕ) → IsLabel e mu → length (earlier e mu) < length (regulars e (degree mu))
  -- and the bound on the powers of a row is a number
  pub row_bound_30 : (e : ℕ) (mu : List ℕ) → IsLabel e mu → degree mu ≤ 30 → row_bound e mu ≤ 5043600
  pub row_bound_32 : (e : ℕ) (mu : List ℕ) → IsLabel e mu → degree mu ≤ 32 → row_bound e mu ≤ 8549376
