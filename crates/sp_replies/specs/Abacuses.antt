-- Answers on cores, quotients and the abacus. This project's own.
use Rattle.std.specs.Prelude.{ℕ, ◌+◌, ◌*◌, Bool, ◌&&◌, not, cond, nat_eq, nat_lt, List, [], ◌++◌, find, length, map}
use Rattle.std.specs.Prelude.{sum_by, Option, Some, None, codes}
use Rattle.std.specs.Cmp.Lexicographic.{pointwise}
use Rattle.std.specs.Fmt.{decimal}
use Rattle.sp_defs.specs.Partition.{degree, partitions}
use Rattle.sp_defs.specs.Abacus.{core, quotient, weight}
use Rattle.sp_defs.specs.Text.{joined_by, partition_text}
use Rattle.sp_partition.specs.declared.TheConstants.{DEGREE_LIMIT}
use Rattle.sp_replies.specs.Orders.{partition_line}
use Rattle.sp_replies.specs.Refusals.{refusal_line}
use Rattle.sp_replies.specs.Words.{line_of}
use Rattle.sp_replies.specs.declared.refusals.Refusal.TheVariants.{NotCore, WrongCount, PastDegree}

-- The core, the weight and the entries of the quotient.
abbrev pub core_text : ℕ → List ℕ → List ℕ
core_text e p = line_of (
    codes "core " ++ partition_text (core e p) ++ codes " weight " ++ decimal (weight e p)
    ++ codes " quotient " ++ joined_by (codes "|") (map partition_text (quotient e p)))

abbrev pub is_partition : List ℕ → List ℕ → Bool
is_partition p q = pointwise nat_eq p q

-- It has this core and this quotient.
abbrev pub is_made_of : ℕ → List ℕ → List (List ℕ) → List ℕ → Bool
is_made_of e kappa quotients p =
    is_partition (core e p) kappa && pointwise is_partition (quotient e p) quotients

-- The nodes of a core with this quotient.
-- (James and Kerber, The Representation Theory of the Symmetric Group, ch. 2)
abbrev pub size_of : ℕ → List ℕ → List (List ℕ) → ℕ
size_of e kappa quotients = degree kappa + e * sum_by degree quotients

-- There always is one.
abbrev pub found_line : Option (List ℕ) → List ℕ
found_line None = []
found_line (Some p) = partition_line p

-- The partition with this core and this quotient, if the first is a core, there are e others and it isn't too great.
abbrev pub combined_text : ℕ → List ℕ → List (List ℕ) → List ℕ
combined_text e kappa quotients =
    cond (not (is_partition (core e kappa) kappa)) (refusal_line NotCore)
    (cond (not (nat_eq (length quotients) e)) (refusal_line WrongCount)
    (cond (nat_lt DEGREE_LIMIT (size_of e kappa quotients)) (refusal_line PastDegree)
    (found_line (find (is_made_of e kappa quotients) (partitions (size_of e kappa quotients))))))
