-- The pages and the trailers of painters, by their forms.
use Rattle.std.specs.Prelude.{ℕ, cond, nat_eq, List, [], ◌∷◌, ◌++◌, map, flat_map, codes}
use Rattle.std.specs.List.{zip}
use Rattle.std.specs.Fmt.{decimal}
use Rattle.sp_defs.specs.Laurent.{Laurent}
use Rattle.sp_defs.specs.Text.{joined_by, partition_text, polynomial_text}
use Rattle.sp_fock_law.specs.Grid.{GridValue}
use Rattle.sp_paint.specs.declared.form.Form.{Form}
use Rattle.sp_paint.specs.declared.form.Form.TheVariants.{Plain, Tex, Gap}
use Rattle.sp_paint.specs.declared.notation.Notation.TheVariants.{Braced, Starred}
use Rattle.sp_paint.specs.Notation as notation
use Rattle.sp_paint.specs.State.{PainterState, one_more}

-- The lines of a grid, each with its cells.
abbrev pub rows_of : GridValue → List (List ℕ × List Laurent)
rows_of g = zip g.lines g.cells

-- ---- the form Plain

-- A dot stands for 0 (this project's own).
abbrev pub plain_cell_text : Laurent → List ℕ
plain_cell_text [] = codes " ."
plain_cell_text (t ∷ ts) = codes " " ++ polynomial_text (t ∷ ts)

abbrev pub plain_column_text : List ℕ → List ℕ
plain_column_text mu = codes " " ++ partition_text mu

abbrev pub plain_row_text : List ℕ × List Laurent → List ℕ
plain_row_text (lambda, cells) = partition_text lambda ++ codes ":" ++ flat_map plain_cell_text cells ++ codes "\n"

-- The line for the columns (this project's own).
abbrev pub plain_head : List (List ℕ) → List ℕ
plain_head columns = codes "columns" ++ flat_map plain_column_text columns ++ codes "\n"

-- Then there is a line for each line of the grid (this project's own).
abbrev pub plain_page : GridValue → List ℕ
plain_page g = plain_head g.columns ++ flat_map plain_row_text (rows_of g)

-- ---- the form Tex

abbrev pub tex_partition_text : List ℕ → List ℕ
tex_partition_text lambda = codes "$" ++ notation.partition_text Braced lambda ++ codes "$"

-- A dot stands for 0 (this project's own).
abbrev pub tex_cell_text : Laurent → List ℕ
tex_cell_text [] = codes " & ."
tex_cell_text (t ∷ ts) = codes " & $" ++ notation.polynomial_text Braced (t ∷ ts) ++ codes "$"

abbrev pub tex_column_text : List ℕ → List ℕ
tex_column_text mu = codes " & " ++ tex_partition_text mu

abbrev pub tex_row_text : List ℕ × List Laurent → List ℕ
tex_row_text (lambda, cells) = tex_partition_text lambda ++ flat_map tex_cell_text cells ++ codes " \\\\\n"

-- The number of the page, and one c for each column (this project's own).
abbrev pub tex_opening : ℕ → List (List ℕ) → List ℕ
tex_opening number columns =
    codes "% table " ++ decimal number ++ codes "\n\\begin{tabular}{l|" ++ flat_map (λ mu. codes "c") columns
    ++ codes "}\n"

-- The line for the columns (this project's own).
abbrev pub tex_head : List (List ℕ) → List ℕ
tex_head columns = flat_map tex_column_text columns ++ codes " \\\\\n"

-- A table that is numbered, of LaTeX's environment tabular (this project's own).
abbrev pub tex_page : ℕ → GridValue → List ℕ
tex_page number g =
    tex_opening number g.columns ++ tex_head g.columns ++ flat_map tex_row_text (rows_of g)
    ++ codes "\\end{tabular}\n"

-- ---- the form Gap

abbrev pub gap_row_text : List Laurent → List ℕ
gap_row_text cells = codes "[" ++ joined_by (codes ",") (map (notation.polynomial_text Starred) cells) ++ codes "]"

-- A cell behind another one.
abbrev pub gap_later_text : Laurent → List ℕ
gap_later_text p = codes "," ++ notation.polynomial_text Starred p

-- An assignment to a variable that is numbered: the list of the lines, each the list of its cells
-- (this project's own).
abbrev pub gap_page : ℕ → GridValue → List ℕ
gap_page number g =
    codes "m" ++ decimal number ++ codes " := [" ++ joined_by (codes ",") (map gap_row_text g.cells) ++ codes "];\n"

-- ---- painters

-- The page of this number (this project's own).
abbrev pub page_text : Form → ℕ → GridValue → List ℕ
page_text Plain number g = plain_page g
page_text Tex number g = tex_page number g
page_text Gap number g = gap_page number g

-- A painter's next page (this project's own).
abbrev pub page_of : PainterState → GridValue → List ℕ
page_of state g = page_text state.form (one_more state.pages) g

-- The last line that a painter adds after this number of pages (this project's own).
abbrev pub closing_text : Form → ℕ → List ℕ
closing_text Plain pages = []
closing_text Tex pages = cond (nat_eq pages 0) [] (codes "% tables " ++ decimal pages ++ codes "\n")
closing_text Gap pages = cond (nat_eq pages 0) [] (codes "# matrices " ++ decimal pages ++ codes "\n")

abbrev pub trailer_of : PainterState → List ℕ
trailer_of state = closing_text state.form state.pages
