-- A matrix held against Jantzen sums: what is told of it, line by line.
-- James and Mathas, 1997: A q-analogue of the Jantzen-Schaper theorem; Ryom-Hansen, 2003: The Schaper formula and the
-- Lascoux, Leclerc and Thibon algorithm.
use Rattle.std.specs.Prelude.{◌≡◌, ◌≤◌, ◌<◌, ◌^◌, ℕ, Bool, true, false, not, nat_lt, max}
use Rattle.std.specs.Prelude.{List, map, length, find, count_by, ℤ}
use Rattle.std.specs.List.{list_any}
use Rattle.std.specs.Ordering.{int_eq}
use Rattle.std.specs.declared.result.Result.{Result}
use Rattle.std.specs.declared.result.Result.TheVariants.{Ok, Err}
use Rattle.sp_defs.specs.Partition.{IsPartitionOf}
use Rattle.sp_defs.specs.Laurent.{Laurent, value_at_one, slope_at_one}
use Rattle.sp_fock_law.specs.Grid.{GridValue, cell_of}
use Rattle.sp_module_defs.specs.Agreement.{Cells, agrees, agreement_weight, jantzen_entries, slope_size}
use Rattle.sp_module_defs.specs.Cells.{place}
use Rattle.sp_matrix.specs.declared.comparison.Agreement.{Agreement}
use Rattle.sp_matrix.specs.declared.comparison.CompareFault.{CompareFault}
use Rattle.sp_matrix.specs.declared.comparison.CompareFault.TheVariants as fault
use Rattle.sp_matrix.specs.declared.line.Term.{Term}
use Rattle.sp_matrix.specs.Matrix.{lines_of, columns_of}

-- All partitions of the degree are lines, and all e-regular ones columns (this project's own).
pub record HasAll (e : ℕ) (g : GridValue) : Type 0 where
  pub lines : g.lines ≡ lines_of g.degree
  pub columns : g.columns ≡ columns_of e g.degree

-- Some line is too large to be compared (this project's own).
abbrev pub is_past : ℕ → ℕ → Cells → List (List ℕ) → Bool
is_past e limit d lines = list_any (λ p. nat_lt limit (agreement_weight e d p)) lines

-- How many lines agree, how many there are, and the first that doesn't agree.
-- (Ryom-Hansen, 2003)
abbrev pub agreement_of : ℕ → Cells → List (List ℕ) → Agreement
agreement_of e d lines = record {
  agreeing = count_by (agrees e d) lines;
  total = length lines;
  first = find (λ p. not (agrees e d p)) lines;
}

-- ---- one line, and one cell

-- What a line is compared with, and the limit, are as they have to be.
pub record IsCalled (e limit : ℕ) (g : GridValue) (p : List ℕ) : Type 0 where
  pub e_least : 2 ≤ e
  pub e_most : e ≤ 64
  pub least : 1 ≤ limit
  pub most : limit < 2 ^ 127
  pub all : HasAll e g
  pub line : IsPartitionOf g.degree p

-- What a line answers.
abbrev pub LineIs : ℕ → ℕ → Cells → List ℕ → Result Bool CompareFault → Type 0
LineIs e limit d p (Ok b) = (nat_lt limit (agreement_weight e d p) ≡ false) × (b ≡ agrees e d p)
LineIs e limit d p (Err fault.TooLarge) = nat_lt limit (agreement_weight e d p) ≡ true
LineIs e limit d p (Err fault.Memory) = Unit {0}

-- What a cell answers, with the factors of its products.
abbrev pub CellIs : ℕ → List (ℤ × ℤ) → Laurent → Result Bool CompareFault → Type 0
CellIs limit ps q (Ok b) =
    (nat_lt limit (max (slope_size ps) (slope_size q)) ≡ false) × (b ≡ int_eq (slope_at_one ps) (slope_at_one q))
CellIs limit ps q (Err fault.TooLarge) = nat_lt limit (max (slope_size ps) (slope_size q)) ≡ true
CellIs limit ps q (Err fault.Memory) = Unit {0}

-- The terms of a Jantzen sum, by the places of their lines.
abbrev pub term_of : GridValue → List ℕ × Laurent → Term
term_of g t = record { coefficient = value_at_one t.1; line = place g.lines t.0 }

abbrev pub terms_of : ℕ → GridValue → List ℕ → List Term
terms_of e g p = map (term_of g) (jantzen_entries e p)

-- The factors of the products in a column.
abbrev pub products_at : GridValue → ℕ → List Term → List (ℤ × ℤ)
products_at g column terms = map (λ t. (t.coefficient, value_at_one (cell_of g t.line column))) terms
