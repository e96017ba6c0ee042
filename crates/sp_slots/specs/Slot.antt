-- What a tally has at one partition.
use Rattle.std.specs.Prelude.{ℕ, ◌+◌, ◌*◌, ◌≤◌, []}
use Rattle.sp_defs.specs.Laurent.{Laurent, IsLaurent, plus, times, size}
use Rattle.sp_slots.specs.declared.slot.Slot.{Slot}

abbrev pub slot_with : Laurent → ℕ → Slot
slot_with p k = record { coefficient = p; total = k }

abbrev pub nothing : Slot
nothing = slot_with [] 0

-- A polynomial with its size as the total.
abbrev pub sized : Laurent → Slot
sized p = slot_with p (size p)

-- With a times b added, and the total grown by the product of their sizes.
abbrev pub grown : Laurent → Slot → Laurent → Slot
grown a s b = slot_with (plus s.coefficient (times a b)) (s.total + size a * size b)

-- The total is at least the size of the polynomial.
pub record IsSlot (s : Slot) : Type 0 where
  pub laurent : IsLaurent s.coefficient
  pub covered : size s.coefficient ≤ s.total
