-- Sums of entries.
use Rattle.std.specs.Prelude.{ℕ, List, ◌+◌, ◌*◌, ◌≤◌}
use Rattle.std.specs.List.{AllByRecursion}
use Rattle.sp_defs.specs.Laurent.{Laurent, IsLaurent, plus, times, size}
use Rattle.sp_fock_law.specs.Joined.{Joint}
use Rattle.sp_partition.specs.Held.{IsHeld as IsHeldPartition}
use Rattle.sp_laurent.specs.Held.{power_limit}
use Rattle.sp_defs.specs.Within.{ProductWithin}

-- The second can be multiplied by a and added to the first, within the limit.
pub record CanAdd (a : Laurent) (limit : ℕ) (j : Joint) : Type 0 where
  pub partition : IsHeldPartition j.at
  pub laurent : IsLaurent j.first
  pub powers : ProductWithin power_limit a j.second
  pub fits : size j.first + size a * size j.second ≤ limit

abbrev pub added : Laurent → Laurent → Laurent → Laurent
added a p q = plus p (times a q)

-- No size passes the limit where the second has a factor of this size.
abbrev pub AllFit : ℕ → ℕ → List Joint → Type 0
AllFit factor limit js = AllByRecursion (λ j. size j.first + factor * size j.second ≤ limit) js
