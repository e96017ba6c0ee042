-- Labels are taken as the partitions are that they stand for.
use Rattle.std.proofs.Common.{◌≤◌, ℕ, List, sym, subst}
use Rattle.sp_shapes.proofs.Conjugates.{conjugate_partition, degree-conjugate}
use Rattle.sp_partition.specs.declared.TheConstants.{DEGREE_LIMIT}
use Rattle.sp_lang.specs.Convention.{label_in}
use Rattle.sp_lang.specs.Given.{IsGiven}
use Rattle.sp_lang.specs.declared.convention.Convention.{Convention}
use Rattle.sp_lang.specs.declared.convention.Convention.TheVariants.{Regular, Restricted}

-- What a partition stands for is taken where the partition is.
pub label-given : (convention : Convention) (p : List ℕ) → IsGiven p → IsGiven (label_in convention p)
label-given Regular p is = is
label-given Restricted p is =
    record {
      partition = conjugate_partition p is.partition;
      small = subst (λ n. n ≤ DEGREE_LIMIT) (sym (degree-conjugate p is.partition)) is.small;
    }
