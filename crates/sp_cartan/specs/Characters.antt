-- Simple modules in terms of Specht modules.
use Rattle.std.specs.Prelude.{ℕ, List, [], map, filter, length, nat_lt, pos, reverse, slice_index_or}
use Rattle.std.specs.List.{range_with_len}
use Rattle.sp_defs.specs.Laurent.{monomial, value_at_one}
use Rattle.sp_defs.specs.Power.{Entries, Vector}
use Rattle.sp_fock_law.specs.Grid.{GridValue, cell_of}
use Rattle.sp_module_defs.specs.Cells.{cell_at}

-- The simple module of mu as a sum of Specht modules, by the inverse h of the square part of the decomposition matrix:
-- at each column it is the value at v = 1 of the cell in the line of mu, as a constant, and elsewhere 0.
-- (Mathas, Iwahori-Hecke Algebras and Schur Algebras of the Symmetric Group, ch. 6)
unfoldable pub simple_character : GridValue → List ℕ → Vector
simple_character h mu lambda = monomial (pos 0) (value_at_one (cell_at h mu lambda))

-- Of the first so many columns, from the last on, those at which the line's cell isn't 0 at v = 1, each with that value
-- (this project's own).
abbrev pub values_below : GridValue → ℕ → ℕ → Entries
values_below g line count =
    filter (λ t. nat_lt 0 (length t.1))
    (map (λ k. (slice_index_or g.columns k [], monomial (pos 0) (value_at_one (cell_of g line k))))
    (reverse (range_with_len 0 count)))
