-- A partition is e-regular where no two parts that stand e - 1 places apart are equal.
use Rattle.std.proofs.Common.{◌≡◌, ◌≢◌, ℕ, ◌+◌, ◌-◌, ◌<◌, ◌≤◌, Bool, true, List, slice_index, arith}
use Rattle.std.specs.Bool.{IsTrue}
use Rattle.std.specs.Cmp.{both_ways}
use Rattle.sp_defs.specs.Partition.{IsPartition, is_regular}
use Rattle.sp_shapes.proofs.Regular.{index_short, descends, regular_gap}
use Rattle.sp_shapes.proofs.Grow.{full_rows}
use Rattle.sp_shapes.proofs.RowRegular.{rows_regular}
use Rattle.sp_partition.specs.Nodes.{Differ}

-- Where they differ, the partition is e-regular.
pub differ_regular : (e : ℕ) (parts : List ℕ) → 2 ≤ e → IsPartition parts → Differ (e - 1) parts →
    is_regular e parts ≡ true
differ_regular e parts he h differ = rows_regular e parts he h (λ i lt.
    let apart : slice_index parts i ≢ slice_index parts (i + (e - 1)) = differ i (index_short parts (i + (e - 1)) lt) in
    omega (arith, descends parts h i (e - 1), apart))

-- Where it is e-regular, they differ.
pub regular_differ : (e : ℕ) (parts : List ℕ) → 2 ≤ e → IsPartition parts → is_regular e parts ≡ true →
    Differ (e - 1) parts
regular_differ e parts he h reg k lt same =
    let gap : slice_index parts (k + (e - 1)) < slice_index parts k =
    regular_gap e parts (omega arith) h reg k (full_rows parts (k + (e - 1)) h lt) in
    absurd (omega arith)

-- So a test of the one is a test of the other.
pub same_test : (e : ℕ) (parts : List ℕ) (test : Bool) → 2 ≤ e → IsPartition parts →
    (IsTrue test → Differ (e - 1) parts) × (Differ (e - 1) parts → IsTrue test) → test ≡ is_regular e parts
same_test e parts test he h tells =
    both_ways test (is_regular e parts) (λ t. differ_regular e parts he h (tells.0 t))
    (λ r. tells.1 (regular_differ e parts he h r))
