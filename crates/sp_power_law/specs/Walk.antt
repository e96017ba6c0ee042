-- The plain way from a partition to all with m more nodes of one residue: down the signature, each addable node
-- chosen or passed.
use Rattle.std.specs.Prelude.{◌≡◌, ℕ, zero, suc, ◌+◌, true, List, [], ◌∷◌, ◌++◌, ℤ, pos, ◌+ℤ◌, ◌-ℤ◌}
use Rattle.sp_defs.specs.Partition.{part}
use Rattle.sp_defs.specs.Node.{is_addable}
use Rattle.sp_defs.specs.Signature.{Addable, Removable, Mark, signature, add_node}

-- A partition that a move leads to, and the exponent of the move.
abbrev pub Reached : Type 0
Reached = List ℕ × ℤ

-- With m nodes still to choose, `parts` has those chosen so far. `difference` counts the addable nodes passed and not
-- chosen minus the removable nodes passed. At each node chosen it goes onto `sum`.
unfoldable pub moves_through : List Mark → ℕ → List ℕ → ℤ → ℤ → List Reached
moves_through marks zero parts difference sum = (parts, sum) ∷ []
moves_through [] (suc m) parts difference sum = []
moves_through ((Addable, x) ∷ marks) (suc m) parts difference sum =
    moves_through marks m (add_node parts x) difference (sum +ℤ difference) ++ moves_through marks (suc m) parts
    (difference +ℤ pos 1) sum
moves_through ((Removable, x) ∷ marks) (suc m) parts difference sum =
    moves_through marks (suc m) parts (difference -ℤ pos 1) sum

-- All moves of m nodes of residue i from a partition.
unfoldable pub moves : ℕ → ℕ → ℕ → List ℕ → List Reached
moves e i m parts = moves_through (signature e i parts) m parts (pos 0) (pos 0)

-- Each addable node of the marks can be added when its turn comes, whatever was chosen above it.
abbrev pub CanGrow : List Mark → List ℕ → Type 0
CanGrow [] parts = Unit {0}
CanGrow ((Addable, x) ∷ marks) parts =
    (is_addable parts (x.0, part parts x.0 + 1) ≡ true) × CanGrow marks (add_node parts x) × CanGrow marks parts
CanGrow ((Removable, x) ∷ marks) parts = CanGrow marks parts
