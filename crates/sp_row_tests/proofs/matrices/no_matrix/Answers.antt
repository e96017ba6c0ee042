use Rattle.std.proofs.Common.{◌≡◌, ℕ, List, [], ◌∷◌, refl, sym, ◌∙◌, ap₂, subst, rules}
use Rattle.sp_defs.specs.Partition.{partitions, partitions_within, regulars}
use Rattle.sp_defs.specs.Laurent.{Laurent}
use Rattle.sp_fock.specs.Cells.{rows_of}
use Rattle.sp_module_defs.proofs.Places.{gridded}
use Rattle.sp_matrix.specs.Agreements.{HasAll}
use Rattle.sp_row_tests.proofs.matrices.no_matrix.Goals as goal

abbrev columns : List (List ℕ)
columns = (3 ∷ []) ∷ (2 ∷ 1 ∷ []) ∷ []

abbrev lines : List (List ℕ)
lines = (3 ∷ []) ∷ (2 ∷ 1 ∷ []) ∷ (1 ∷ 1 ∷ 1 ∷ []) ∷ []

has_all : (cells : List (List Laurent)) → HasAll 2 (gridded 3 columns lines cells)
unfolding partitions partitions_within regulars
has_all cells = record { lines = refl; columns = refl }

pub returns : goal.returns
returns c =
    let cells = rows_of c.in_ok-cells.cells.items in
    let columns_are : c.in_ok-columns.columns.items ≡ columns = search rules in
    let lines_are : c.in_ok-lines.lines.items ≡ lines = search rules in
    subst (HasAll 2) (sym (c.in_ok-build.ensures ∙ ap₂ (λ a b. gridded 3 a b cells) columns_are lines_are))
    (has_all cells)
