-- The way down along good nodes, and the way up along cogood nodes.
use Rattle.std.specs.Prelude.{◌≡◌, ℕ, ◌-◌, ◌%◌, ◌<◌, List, [], map, reverse, take, length, slice_index, Some, None}
use Rattle.sp_defs.specs.Node.{Node}
use Rattle.sp_defs.specs.Signature.{path, climb, cogood}
use Rattle.sp_nodes.specs.Nodes.{pair}
use Rattle.sp_good.specs.declared.paths.Step.{Step}
use Rattle.sp_good.specs.declared.images.NoPath.{NoPath}

-- What `least_good` of the definitions finds.
abbrev pub found : Step → ℕ × Node
found step = (step.residue, pair step.node)

-- The residues of the way up: those of the path from the last to the first, each negated.
-- (Kleshchev, 1996; Ford and Kleshchev, 1997)
abbrev pub negated_path : ℕ → List ℕ → List ℕ
negated_path e parts = map (λ i. (e - i) % e) (reverse (path e parts))

-- The way up along these residues stops: after `step` of them it is at a partition without a cogood node of the residue
-- that comes next (this project's own).
pub record Stops (e : ℕ) (residues : List ℕ) (stop : NoPath) : Type 0 where
  pub more : stop.step < length residues
  pub next : stop.residue ≡ slice_index residues stop.step
  pub reached : climb e (take stop.step residues) [] ≡ Some stop.at
  pub none : cogood e stop.residue stop.at ≡ None
