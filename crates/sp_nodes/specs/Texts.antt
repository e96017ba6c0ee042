-- The texts of a diagram, with a number at each node. They are this project's own.
use Rattle.std.specs.Prelude.{ℕ, List, [], ◌∷◌, ◌++◌, map, flat_map, length, codes}
use Rattle.std.specs.Fmt.{decimal}
use Rattle.sp_defs.specs.Partition.{part, from_one_to}
use Rattle.sp_defs.specs.Node.{residue, hook}
use Rattle.sp_defs.specs.Text.{joined_by}

abbrev pub newline : List ℕ
newline = 10 ∷ []

-- The line of a row of n nodes: its numbers, with one space between.
abbrev pub line_text : (ℕ × ℕ → ℕ) → ℕ → ℕ → List ℕ
line_text number r n = joined_by (codes " ") (map (λ c. decimal (number (r, c))) (from_one_to n)) ++ newline

abbrev pub row_line : (ℕ × ℕ → ℕ) → List ℕ → ℕ → List ℕ
row_line number parts r = line_text number r (part parts r)

-- One line for each row. The empty partition has a line with a dash.
abbrev pub grid_text : (ℕ × ℕ → ℕ) → List ℕ → List ℕ
grid_text number [] = codes "-" ++ newline
grid_text number (p ∷ parts) =
    flat_map (row_line number (p ∷ parts)) (from_one_to (length (p ∷ parts)))

abbrev pub diagram_text : ℕ → List ℕ → List ℕ
diagram_text e parts = grid_text (residue e) parts

abbrev pub hooks_text : List ℕ → List ℕ
hooks_text parts = grid_text (hook parts) parts
