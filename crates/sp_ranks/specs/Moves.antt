-- What a table says of the partitions that have one node more, and of the corners of each.
use Rattle.std.specs.Prelude.{◌≡◌, ℕ, ◌+◌, ◌-◌, ◌<◌, ◌≤◌, true, List, [], length, get_or}
use Rattle.std.specs.Global.{Vec}
use Rattle.sp_defs.specs.Node.{is_addable}
use Rattle.sp_defs.specs.Partition.{part, partitions}
use Rattle.sp_defs.specs.Signature.{grow}
use Rattle.sp_partition.specs.declared.TheConstants.{DEGREE_LIMIT}
use Rattle.sp_ranks.specs.Corners.{AreCorners}
use Rattle.sp_ranks.specs.declared.corners.CornerNode.{CornerNode}

-- For which e a table is made, and up to which degree.
pub record Scope : Type 0 where
  pub e : ℕ
  pub degree : ℕ

-- Where the partition has an addable node in this row, this is the place of the partition with it.
abbrev pub IsGain : List (List ℕ) → List ℕ → ℕ → ℕ → Type 0
IsGain next p row rank =
    is_addable p (row, part p row + 1) ≡ true → (rank < length next) × (get_or next rank [] ≡ grow (row - 1) p)

-- So it is for each of the rows that are filled, and the next one. There is room for all rows.
pub record AreGains (next : List (List ℕ)) (p : List ℕ) (gains : List ℕ) : Type 0 where
  pub room : length gains ≡ 32
  pub each : (k : ℕ) (d : ℕ) → k < length p + 1 → IsGain next p (k + 1) (get_or gains k d)

-- So it is for each partition of a list.
pub record AreRows (next all : List (List ℕ)) (gains : List (List ℕ)) : Type 0 where
  pub count : length gains ≡ length all
  pub each : (k : ℕ) (d : List ℕ) → k < length all → AreGains next (get_or all k []) (get_or gains k d)

-- The lists of the partitions of each degree below n.
pub record AreLists (n : ℕ) (lists : List (Vec (List ℕ))) : Type 0 where
  pub count : length lists ≡ n
  pub each : (k : ℕ) (d : Vec (List ℕ)) → k < n → (get_or lists k d).items ≡ partitions k

-- The gains of the partitions of each degree below n.
pub record AreTables (n : ℕ) (gains : List (Vec (List ℕ))) : Type 0 where
  pub count : length gains ≡ n
  pub each : (k : ℕ) (d : Vec (List ℕ)) → k < n → AreRows (partitions (k + 1)) (partitions k) (get_or gains k d).items

-- The corners of each partition of a list.
pub record AreCornerRows (e : ℕ) (all : List (List ℕ)) (corners : List (Vec CornerNode)) : Type 0 where
  pub count : length corners ≡ length all
  pub each : (k : ℕ) (d : Vec CornerNode) → k < length all → AreCorners e (get_or all k []) (get_or corners k d).items

-- The corners of the partitions of each degree below n.
pub record AreCornerTables (e n : ℕ) (corners : List (Vec (Vec CornerNode))) : Type 0 where
  pub count : length corners ≡ n
  pub each : (k : ℕ) (d : Vec (Vec CornerNode)) → k < n → AreCornerRows e (partitions k) (get_or corners k d).items

-- The corners of the partitions of all degrees up to one, and the gains for each degree but it.
pub record AreMoves (table : Scope) (gains : List (Vec (List ℕ))) (corners : List (Vec (Vec CornerNode))) : Type 0 where
  pub e_least : 2 ≤ table.e
  pub small : table.degree ≤ DEGREE_LIMIT
  pub gained : AreTables table.degree gains
  pub cornered : AreCornerTables table.e (table.degree + 1) corners
