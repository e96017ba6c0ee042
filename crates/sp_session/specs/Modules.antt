-- Answers on the Specht modules and the simple modules of a degree, in the labels of a convention. This project's own.
use Rattle.std.specs.Prelude.{◌≡◌, ◌≤◌, ℕ, List, [], ◌∷◌, ◌++◌, cond, filter, flat_map, Option, Some, None}
use Rattle.std.specs.Prelude.{Result, Ok, Err, codes, slice_index_or}
use Rattle.std.specs.Prelude.{ℤ, pos, ◌-ℤ◌}
use Rattle.std.specs.Fmt.{decimal, signed_decimal}
use Rattle.sp_defs.specs.Partition.{is_regular}
use Rattle.sp_defs.specs.Text.{partition_text}
use Rattle.sp_dims.specs.Solution.{IsSolution, first_past}
use Rattle.sp_fock_law.specs.Grid.{GridValue}
use Rattle.sp_lang.specs.Convention.{label_in}
use Rattle.sp_lang.specs.declared.convention.Convention.{Convention}
use Rattle.sp_matrix.specs.Agreements.{agreement_of, is_past}
use Rattle.sp_matrix.specs.Matrix.{lines_of}
use Rattle.sp_matrix.specs.declared.comparison.Agreement.{Agreement}
use Rattle.sp_module_defs.specs.Agreement.{Cells}
use Rattle.sp_module_defs.specs.Cells.{cell_at, place}
use Rattle.sp_module_defs.specs.Dims.{Dims, composed_dim, specht_dim}
use Rattle.sp_replies.specs.Labels.{refusal_in}
use Rattle.sp_replies.specs.Refusals.{refusal_line}
use Rattle.sp_replies.specs.Words.{line_of}
use Rattle.sp_replies.specs.declared.refusals.Refusal.{Refusal}
use Rattle.sp_replies.specs.declared.refusals.Refusal.TheVariants.{TooLarge, LargeColumn}
use Rattle.sp_session.specs.Tables.{crystal_table}

-- A text on the grid, or why there is none.
abbrev pub on_table : (GridValue → List ℕ) → Result GridValue Refusal → List ℕ
on_table text (Ok grid) = text grid
on_table text (Err why) = refusal_line why

-- The grid, or why there is none with the labels of a convention.
abbrev pub refused_in : Convention → Result GridValue Refusal → Result GridValue Refusal
refused_in convention (Ok grid) = Ok grid
refused_in convention (Err why) = Err (refusal_in convention why)

-- ---- the simple modules

-- The labels of the simple modules of degree n, descending: the e-regular partitions, or their conjugates.
-- (Mathas, Iwahori-Hecke Algebras and Schur Algebras of the Symmetric Group, ch. 3)
abbrev pub labels_of : Convention → ℕ → ℕ → List (List ℕ)
labels_of convention e n = filter (λ p. is_regular e (label_in convention p)) (lines_of n)

-- The dimensions of the simple modules of the columns, where those before are known: that of the Specht module, less
-- what the greater columns make up of it.
-- (Mathas, Iwahori-Hecke Algebras and Schur Algebras of the Symmetric Group, ch. 2)
unfoldable pub dims_after : Cells → Dims → List (List ℕ) → List ℤ
dims_after d known [] = []
dims_after d known (mu ∷ columns) =
    let dim : ℤ = pos (specht_dim mu) -ℤ composed_dim d known mu in
    dim ∷ dims_after d (known ++ (mu, dim) ∷ []) columns

abbrev pub simple_dims_of : GridValue → List ℤ
simple_dims_of grid = dims_after (cell_at grid) [] grid.columns

-- The dimension of the simple module of a column, from the list of all. It is 0 where the column isn't there.
abbrev pub dim_at : List (List ℕ) → List ℤ → List ℕ → ℤ
dim_at columns dims mu = slice_index_or dims (place columns mu) (pos 0)

-- A label, the dimension of the Specht module and that of the simple one.
abbrev pub dims_line : List ℕ → ℕ → ℤ → List ℕ
dims_line label specht simple =
    line_of (partition_text label ++ codes " " ++ decimal specht ++ codes " " ++ signed_decimal simple)

-- The line of the column that the label stands for.
abbrev pub label_line : Convention → List (List ℕ) → List ℤ → List ℕ → List ℕ
label_line convention columns dims label =
    let mu : List ℕ = label_in convention label in dims_line label (specht_dim mu) (dim_at columns dims mu)

-- One line for each label, unless a dimension weight is too large.
abbrev pub dims_or_refusal : Convention → (labels : List (List ℕ)) → Option (List ℕ) → (columns : List (List ℕ)) →
    List ℤ → List ℕ
dims_or_refusal convention labels None columns dims = flat_map (label_line convention columns dims) labels
dims_or_refusal convention labels (Some at) columns dims = refusal_line (refusal_in convention (LargeColumn at))

abbrev pub grid_dims_text : ℕ → Convention → (labels : List (List ℕ)) → GridValue → List ℕ
grid_dims_text limit convention labels grid =
    dims_or_refusal convention labels (first_past limit grid.columns (cell_at grid) (simple_dims_of grid))
    grid.columns (simple_dims_of grid)

unfoldable pub dims_text : ℕ → Convention → ℕ → ℕ → List ℕ
dims_text limit convention e n =
    on_table (grid_dims_text limit convention (labels_of convention e n))
    (refused_in convention (crystal_table limit e n))

-- A text tells the only list of numbers that solves the equations of the simple dimensions, or that it gets too large.
-- (Mathas, Iwahori-Hecke Algebras and Schur Algebras of the Symmetric Group, ch. 2)
pub record IsSolved (limit : ℕ) (convention : Convention) (labels : List (List ℕ)) (grid : GridValue)
    (text : List ℕ) : Type 0 where
  pub dims : List ℤ
  pub solution : IsSolution grid.columns (cell_at grid) dims
  pub told : text ≡
      dims_or_refusal convention labels (first_past limit grid.columns (cell_at grid) dims) grid.columns dims

-- Where no column is refused, the answer to `dims` tells the only solution.
-- (Mathas, Iwahori-Hecke Algebras and Schur Algebras of the Symmetric Group, ch. 2)
abbrev pub DimsLaw : Type 0
DimsLaw =
    (limit : ℕ) (convention : Convention) (e n : ℕ) → 2 ≤ e → (grid : GridValue) → crystal_table limit e n ≡ Ok grid →
    IsSolved limit convention (labels_of convention e n) grid (dims_text limit convention e n)

-- ---- Jantzen sums

-- The greatest line that doesn't agree, if there is one.
abbrev pub differ_text : Convention → Option (List ℕ) → List ℕ
differ_text convention None = []
differ_text convention (Some lambda) = line_of (codes "differ at " ++ partition_text (label_in convention lambda))

abbrev pub agreement_text : Convention → Agreement → List ℕ
agreement_text convention a =
    line_of (codes "agree " ++ decimal a.agreeing ++ codes " of " ++ decimal a.total)
    ++ differ_text convention a.first

-- How far the grid agrees with the Jantzen sums of its lines, unless the numbers get too large.
abbrev pub grid_schaper_text : ℕ → Convention → ℕ → GridValue → List ℕ
grid_schaper_text limit convention e grid =
    cond (is_past e limit (cell_at grid) grid.lines) (refusal_line TooLarge)
    (agreement_text convention (agreement_of e (cell_at grid) grid.lines))

unfoldable pub schaper_text : ℕ → Convention → ℕ → ℕ → List ℕ
schaper_text limit convention e n =
    on_table (grid_schaper_text limit convention e) (refused_in convention (crystal_table limit e n))
