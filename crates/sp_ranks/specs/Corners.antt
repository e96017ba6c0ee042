-- The addable and removable nodes of a partition, whatever their residues.
use Rattle.std.specs.Prelude.{◌≡◌, ℕ, ◌+◌, cond, List, [], ◌∷◌, ◌++◌, map, length, flat_map}
use Rattle.std.specs.List.{AllByRecursion}
use Rattle.sp_defs.specs.Node.{is_addable, is_removable, residue}
use Rattle.sp_defs.specs.Partition.{part, from_one_to}
use Rattle.sp_defs.specs.Signature.{Addable, Removable, Mark}
use Rattle.sp_nodes.specs.Marks.{mark_of}
use Rattle.sp_nodes.specs.Nodes.{pair}
use Rattle.sp_ranks.specs.declared.corners.CornerNode.{CornerNode}

-- What row r has: its last node, if it is removable, and the place after it, if it is addable.
abbrev pub row_corners : List ℕ → ℕ → List Mark
row_corners parts r =
    cond (is_removable parts (r, part parts r)) ((Removable, (r, part parts r)) ∷ []) []
    ++ cond (is_addable parts (r, part parts r + 1)) ((Addable, (r, part parts r + 1)) ∷ []) []

-- Those of all rows, from top to bottom.
abbrev pub corners : List ℕ → List Mark
corners parts = flat_map (row_corners parts) (from_one_to (length parts + 1))

abbrev pub mark_at : CornerNode → Mark
mark_at s = mark_of s.mark

abbrev pub HasResidue : ℕ → CornerNode → Type 0
HasResidue e s = s.residue ≡ residue e (pair s.mark.node)

-- They are those of a partition, each with its residue.
pub record AreCorners (e : ℕ) (parts : List ℕ) (xs : List CornerNode) : Type 0 where
  pub marks : map mark_at xs ≡ corners parts
  pub residues : AllByRecursion (HasResidue e) xs
