-- The first parts of a list, read one after the other.
use Rattle.std.proofs.Common.{◌≡◌, ℕ, ◌+◌, ◌-◌, ◌<◌, ◌≤◌, List, length, slice_index, arith, ◌⊎◌, inl, inr}
use Rattle.std.proofs.lemmas.Grind.{common_steps}
use Rattle.sp_defs.specs.Partition.{IsPartition}
use Rattle.sp_lists.proofs.Elements.{le_or_lt}

-- The first `count` parts are positive and don't rise, and `most` is the last of them.
pub record FallsTo (most count : ℕ) (parts : List ℕ) : Type 0 where
  pub positive : (k : ℕ) → k < count → 0 < slice_index parts k
  pub descending : (k : ℕ) → k + 1 < count → slice_index parts (k + 1) ≤ slice_index parts k
  pub last : 0 < count → most ≡ slice_index parts (count - 1)

-- Where it has come to the end, the parts are those of a partition.
pub falls_whole : (most count : ℕ) (parts : List ℕ) → length parts ≤ count → FallsTo most count parts →
    IsPartition parts
falls_whole most count parts all h = record {
  descending = λ k. step k (le_or_lt (length parts) (k + 1));
  positive = λ k d lt. let p = h.positive k (omega arith) in grind (arith, common_steps);
}
  where
    step : (k : ℕ) → (length parts ≤ k + 1) ⊎ (k + 1 < length parts) → slice_index parts (k + 1) ≤ slice_index parts k
    step k (inl past) = grind (arith, common_steps)
    step k (inr within) = h.descending k (omega arith)
