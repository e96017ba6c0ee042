-- Columns of certificates. A column claims that a vector is the row of an e-regular partition mu, and shows it by
-- shares: bar-invariant factors of earlier rows, which are listed already, with which the ladder vector of mu is the
-- sum of the vector and of the factors times their rows.
use Rattle.std.specs.Prelude.{◌≡◌, ◌≢◌, ℕ, ◌+◌, ◌*◌, List, map, max, sum_by}
use Rattle.std.specs.List.{AllByRecursion}
use Rattle.sp_defs.specs.Partition.{degree, partitions, IsPartitionOf}
use Rattle.sp_defs.specs.Laurent.{one, plus, size, IsBarInvariant, IsPositive}
use Rattle.sp_defs.specs.Power.{Vector, greatest}
use Rattle.sp_defs.specs.Ladder.{ladder_vector, ladder_weight}
use Rattle.sp_defs.specs.Row.{Factors, combination}

-- The sizes of all that is added up at a partition: the ladder vector of mu, and each share times the vector that is
-- listed for its partition (this project's own).
abbrev pub column_size : ℕ → (List ℕ → Vector) → List ℕ → Factors → List ℕ → ℕ
column_size e listed mu shares lambda =
    size (ladder_vector e mu lambda) + sum_by (λ a. size a.1 * size (listed a.0 lambda)) shares

-- The greatest of these, and of the sizes of coefficients in partial ladder vectors of mu: past the limit the column is
-- too large (this project's own).
unfoldable pub column_weight : ℕ → (List ℕ → Vector) → List ℕ → Factors → ℕ
column_weight e listed mu shares =
    max (ladder_weight e mu) (greatest (map (column_size e listed mu shares) (partitions (degree mu))))

-- A column is right where its vector has 1 at mu and polynomials in vZ[v] elsewhere, its shares are bar-invariant, and
-- the ladder vector of mu is the sum of the vector and of each share times the vector that is listed for its partition.
-- (after Lascoux, Leclerc and Thibon, Comm. Math. Phys. 181, 1996, section 6; certificates: this project's own)
pub record IsRight (e : ℕ) (listed : List ℕ → Vector) (mu : List ℕ) (shares : Factors) (w : Vector) : Type 0 where
  pub at_mu : w mu ≡ one
  pub elsewhere : (lambda : List ℕ) → IsPartitionOf (degree mu) lambda → lambda ≢ mu → IsPositive (w lambda)
  pub invariant : AllByRecursion (λ a. IsBarInvariant a.1) shares
  pub sum : (lambda : List ℕ) → IsPartitionOf (degree mu) lambda →
      ladder_vector e mu lambda ≡ plus (w lambda) (combination listed shares lambda)
