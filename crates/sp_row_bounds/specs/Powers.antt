-- How far the powers in ladder vectors, regular rows and shares lie from 0, as statements that contracts name.
use Rattle.std.specs.Prelude.{ℕ, ◌+◌, ◌*◌, Bool, List, length, filter, drop}
use Rattle.std.specs.List.{AllByRecursion}
use Rattle.sp_defs.specs.Partition.{degree, IsPartition}
use Rattle.sp_defs.specs.Laurent.{Laurent, plus, negate, times}
use Rattle.sp_defs.specs.Ladder.{ladder_vector}
use Rattle.sp_defs.specs.Row.{combination, earlier, regular_row, shares, share}
use Rattle.sp_defs.specs.Statements.{IsLabel}
use Rattle.sp_defs.specs.Within.{PowersWithin, ProductWithin}

-- The square of the degree, within which the powers of a ladder vector lie (this project's own).
abbrev pub ladder_bound : List ℕ → ℕ
ladder_bound mu = degree mu * degree mu

-- That square for mu and for each of the e-regular partitions before it (this project's own).
abbrev pub row_bound : ℕ → List ℕ → ℕ
row_bound e mu = (length (earlier e mu) + 1) * ladder_bound mu

-- The powers in the ladder vector, the shares and the regular row of mu, and in all that is made on the way from the
-- ladder vector to the row by taking off the earlier rows times their shares (this project's own).
pub record RowPowers (e : ℕ) (mu : List ℕ) : Type 0 where
  pub ladder : (lambda : List ℕ) → IsPartition lambda → PowersWithin (ladder_bound mu) (ladder_vector e mu lambda)
  pub shares_at : AllByRecursion (λ a. PowersWithin (ladder_bound mu) a.1) (shares e mu)
  pub share_of : (nu : List ℕ) → PowersWithin (ladder_bound mu) (share e mu nu)
  pub row : (lambda : List ℕ) → IsPartition lambda → PowersWithin (row_bound e mu) (regular_row e mu lambda)
  -- a share times its row
  pub products : (lambda : List ℕ) → IsPartition lambda →
      AllByRecursion (λ a. ProductWithin (row_bound e mu) a.1 (regular_row e a.0 lambda)) (shares e mu)
  pub terms : (lambda : List ℕ) → IsPartition lambda →
      AllByRecursion (λ a. PowersWithin (row_bound e mu) (times a.1 (regular_row e a.0 lambda))) (shares e mu)
  -- what is left of the ladder vector without those of the shares from some rank on that pass a test, as not being 0
  pub left : (t : ℕ) (test : List ℕ × Laurent → Bool) (lambda : List ℕ) → IsPartition lambda →
      PowersWithin (row_bound e mu)
      (plus (ladder_vector e mu lambda)
      (negate (combination (regular_row e) (filter test (drop t (shares e mu))) lambda)))

-- RowPowers for each e and mu.
abbrev pub PowersLaw : Type 0
PowersLaw = (e : ℕ) (mu : List ℕ) → IsLabel e mu → RowPowers e mu
