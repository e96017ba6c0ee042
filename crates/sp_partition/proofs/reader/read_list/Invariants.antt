-- The list is read up to what is left.
use Rattle.std.proofs.Common.{ℕ, suc, List, length, Option, Some, None}
use Rattle.std.specs.Option.{option_copied}
use Rattle.sp_partition.proofs.Progress.{Progress}
use Rattle.sp_partition.proofs.reader.read_list.Given as goal

abbrev pub invariant-loop-rest : goal.invariant-loop-rest
invariant-loop-rest l = Progress l.text l.held (option_copied l.last) (option_copied l.rest)

-- How many bytes are left to be read, and one more while the end has not been seen.
abbrev pub length_left : Option (List ℕ) → ℕ
length_left None = 0
length_left (Some rest) = suc (length rest)

abbrev pub decreases-loop-rest : goal.decreases-loop-rest
decreases-loop-rest l = length_left (option_copied l.rest)
