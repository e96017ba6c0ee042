-- What stands at the nodes of a diagram.
use Rattle.std.specs.Prelude.{ℕ, ◌≤◌, List}
use Rattle.sp_defs.specs.Node.{residue, hook}
use Rattle.sp_nodes.specs.declared.texts.Filling.{Filling}
use Rattle.sp_nodes.specs.declared.texts.Filling.TheVariants.{Residues, HookLengths}

abbrev pub number_at : Filling → List ℕ → ℕ × ℕ → ℕ
number_at (Residues e) parts x = residue e x
number_at HookLengths parts x = hook parts x

-- Residues are those of an e from 2 to 64.
abbrev pub IsFilling : Filling → Type 0
IsFilling (Residues e) = (2 ≤ e) × (e ≤ 64)
IsFilling HookLengths = Unit {0}
