-- The addable and the removable nodes of one row.
use Rattle.std.specs.Prelude.{ℕ, ◌+◌, cond, List, [], ◌∷◌, map}
use Rattle.sp_defs.specs.Partition.{part, from_one_to}
use Rattle.sp_defs.specs.Node.{is_addable, is_removable}
use Rattle.sp_nodes.specs.Nodes.{of_residue}

-- The addable node of row r, where it has one and its residue is i.
abbrev pub gained : ℕ → ℕ → List ℕ → ℕ → List (ℕ × ℕ)
gained e i parts r =
    of_residue e i (cond (is_addable parts (r, part parts r + 1)) ((r, part parts r + 1) ∷ []) [])

-- The removable node of row r, where it has one and its residue is i.
abbrev pub lost : ℕ → ℕ → List ℕ → ℕ → List (ℕ × ℕ)
lost e i parts r = of_residue e i (cond (is_removable parts (r, part parts r)) ((r, part parts r) ∷ []) [])

-- The first n nodes of row r.
abbrev pub row_nodes : ℕ → ℕ → List (ℕ × ℕ)
row_nodes r n = map (λ c. (r, c)) (from_one_to n)
