-- The fields that hold a partition.
use Rattle.std.proofs.Common.{◌≡◌, ℕ, suc, ◌-◌, ◌≤◌, List, ◌++◌, take, length, replicate, sym, ◌∙◌, ap, subst, arith}
use Rattle.std.proofs.lemmas.Grind.{common_steps}
use Rattle.sp_defs.specs.Partition.{degree}
use Rattle.sp_shapes.proofs.Degrees.{length-degree}
use Rattle.sp_partition.specs.Held.{IsHeld}
use Rattle.sp_partition.specs.Padded.{IsPadded, padded, padded-count, padded-array}
use Rattle.sp_partition.specs.declared.TheConstants.{CAPACITY}

-- One less of each number leaves the difference.
pub less_one : (m n : ℕ) → suc m - suc n ≡ m - n
less_one m n = omega arith

-- There are no more parts than there is room for.
pub few_parts : (parts : List ℕ) → IsHeld parts → length parts ≤ CAPACITY
few_parts parts h = omega (arith, length-degree parts h.partition, h.small)

-- The parts are in front of the padded array.
pub take-padded : (parts : List ℕ) → take (length parts) (padded parts) ≡ parts
take-padded parts = grind (arith, common_steps)

-- These fields hold a partition that there is room for.
pub held_fields : (parts : List ℕ) → IsHeld parts → IsPadded (degree parts) (length parts) (padded parts)
held_fields parts h = record {
  size = let few : length parts ≤ CAPACITY = few_parts parts h in grind (arith, common_steps);
  few = few_parts parts h;
  zeros = ap (λ xs. xs ++ replicate (CAPACITY - length parts) 0) (sym (take-padded parts));
  total = ap degree (sym (take-padded parts));
  held = subst IsHeld (sym (take-padded parts)) h;
}

-- Fields that hold this partition are these.
pub record Holds (parts : List ℕ) (degree_is count : ℕ) (array : List ℕ) : Type 0 where
  pub total : degree_is ≡ degree parts
  pub count_is : count ≡ length parts
  pub array_is : array ≡ padded parts

-- Fields that meet the invariant hold what they show.
pub fields_hold : (degree_is count : ℕ) (array : List ℕ) → IsPadded degree_is count array →
    Holds (take count array) degree_is count array
fields_hold degree_is count array is =
    record {
      total = is.total;
      count_is = sym (padded-count degree_is count array is);
      array_is = sym
          (padded-array degree_is count array is);
    }

-- Fields that hold a partition meet the invariant, and show it.
pub holds_padded : (parts : List ℕ) (degree_is count : ℕ) (array : List ℕ) → IsHeld parts →
    Holds parts degree_is count array →
    IsPadded degree_is count array
holds_padded parts degree_is count array h is =
    subst (λ d. IsPadded d count array) (sym is.total)
    (subst (λ c. IsPadded (degree parts) c array) (sym is.count_is)
    (subst (λ xs. IsPadded (degree parts) (length parts) xs) (sym is.array_is) (held_fields parts h)))

-- Fields that hold a partition show it.
pub holds_view : (parts : List ℕ) (degree_is count : ℕ) (array : List ℕ) → Holds parts degree_is count array →
    take count array ≡ parts
holds_view parts degree_is count array is =
    ap (λ c. take c array) is.count_is ∙ ap (take (length parts)) is.array_is ∙ take-padded parts
