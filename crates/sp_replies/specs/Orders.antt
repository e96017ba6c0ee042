-- Answers on partitions and their orders. This project's own.
use Rattle.std.specs.Prelude.{ℕ, Bool, cond, nat_le, List, flat_map, length, reverse, sum, take, codes}
use Rattle.std.specs.List.{list_all}
use Rattle.sp_defs.specs.Partition.{conjugate, from_one_to, partitions, regulars}
use Rattle.sp_defs.specs.Text.{partition_text}
use Rattle.sp_replies.specs.Words.{line_of}

abbrev pub partition_line : List ℕ → List ℕ
partition_line p = line_of (partition_text p)

-- One line each.
abbrev pub partition_lines : List (List ℕ) → List ℕ
partition_lines ps = flat_map partition_line ps

-- The partitions of n, descending.
abbrev pub partitions_text : ℕ → List ℕ
partitions_text n = partition_lines (reverse (partitions n))

-- The e-regular ones, descending.
abbrev pub regulars_text : ℕ → ℕ → List ℕ
regulars_text e n = partition_lines (reverse (regulars e n))

abbrev pub conjugate_text : List ℕ → List ℕ
conjugate_text p = partition_line (conjugate p)

-- Each initial sum of `upper` is at least that of `lower`, which says it all for partitions of one degree: where
-- `lower` ends its sum is the whole.
abbrev pub does_dominate : List ℕ → List ℕ → Bool
does_dominate upper lower =
    list_all (λ k. nat_le (sum (take k lower)) (sum (take k upper))) (from_one_to (length lower))

abbrev pub dominance_text : List ℕ → List ℕ → List ℕ
dominance_text upper lower = line_of (cond (does_dominate upper lower) (codes "yes") (codes "no"))
