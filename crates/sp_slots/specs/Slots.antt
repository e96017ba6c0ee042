-- The tally that a list of slots means.
use Rattle.std.specs.Prelude.{◌≡◌, ℕ, cond, List, [], ◌∷◌, length}
use Rattle.std.specs.List.{AllByRecursion}
use Rattle.std.specs.Ordering.{is_eq}
use Rattle.sp_defs.specs.Partition.{compare, partitions}
use Rattle.sp_defs.specs.Power.{Vector, fock_vector}
use Rattle.sp_fock_law.specs.Tally.{TallyValue, totals}
use Rattle.sp_slots.specs.declared.slot.Slot.{Slot}
use Rattle.sp_slots.specs.Slot.{nothing, IsSlot}

-- The slot of a partition, where the slots belong to the partitions of a list, in order.
unfoldable pub slot_of : List (List ℕ) → List Slot → List ℕ → Slot
slot_of [] slots lambda = nothing
slot_of (kappa ∷ kappas) [] lambda = nothing
slot_of (kappa ∷ kappas) (slot ∷ slots) lambda = cond (is_eq (compare kappa lambda)) slot (slot_of kappas slots lambda)

-- What the slots of the partitions of n have at each.
abbrev pub coefficient_in : ℕ → List Slot → Vector
coefficient_in n slots lambda = (slot_of (partitions n) slots lambda).coefficient

abbrev pub total_in : ℕ → List Slot → List ℕ → ℕ
total_in n slots lambda = (slot_of (partitions n) slots lambda).total

abbrev pub tally_in : ℕ → List Slot → TallyValue
tally_in n slots = record {
  vector = fock_vector n (coefficient_in n slots);
  totals = totals n (total_in n slots);
}

-- One slot for each partition of n.
pub record AreSlots (n : ℕ) (slots : List Slot) : Type 0 where
  pub count : length slots ≡ length (partitions n)
  pub each : AllByRecursion IsSlot slots
