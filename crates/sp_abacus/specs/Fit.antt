-- A core and a quotient that fit each other.
use Rattle.std.specs.Prelude.{◌≡◌, ℕ, ◌+◌, ◌*◌, ◌≤◌, List, length, sum_by}
use Rattle.std.specs.List.{AllByRecursion}
use Rattle.sp_defs.specs.Partition.{degree}
use Rattle.sp_defs.specs.Abacus.{core}
use Rattle.sp_partition.specs.Held.{IsHeld}

-- kappa is its own core, q has a partition for each runner, and the partition that has both is of a degree within 32
-- (this project's own).
pub record Fit (e : ℕ) (kappa : List ℕ) (q : List (List ℕ)) : Type 0 where
  pub e_least : 2 ≤ e
  pub e_most : e ≤ 64
  pub kappa_held : IsHeld kappa
  pub count : length q ≡ e
  pub own : core e kappa ≡ kappa
  pub held : AllByRecursion IsHeld q
  pub small : degree kappa + e * sum_by degree q ≤ 32
