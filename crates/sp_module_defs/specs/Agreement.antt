-- A matrix held against Jantzen sums: at v = 1 the sum over the terms is the derivative of the cell.
-- James and Mathas, 1997: A q-analogue of the Jantzen-Schaper theorem; Ryom-Hansen, 2003: The Schaper formula and the
-- Lascoux, Leclerc and Thibon algorithm.
use Rattle.std.specs.Prelude.{ℕ, ◌*◌, Bool, List, map, sum_by, max, ℤ, ◌*ℤ◌, unsigned_abs}
use Rattle.std.specs.List.{list_all}
use Rattle.std.specs.Ordering.{int_eq}
use Rattle.sp_defs.specs.Partition.{degree, regulars}
use Rattle.sp_defs.specs.Laurent.{Laurent, int_sum, value_at_one, slope_at_one}
use Rattle.sp_defs.specs.Power.{Entries, entries, greatest}
use Rattle.sp_module_defs.specs.Jantzen.{jantzen_sum}

-- The cell of a matrix at a line and a column (this project's own).
abbrev pub Cells : Type 0
Cells = List ℕ → List ℕ → Laurent

-- The partitions at which the Jantzen sum isn't 0, ascending, each with its constant (this project's own).
abbrev pub jantzen_entries : ℕ → List ℕ → Entries
jantzen_entries e p = entries (degree p) (jantzen_sum e p)

-- The Jantzen sum of p in column mu, at v = 1.
-- (James and Mathas, 1997)
unfoldable pub jantzen_value : ℕ → Cells → List ℕ → List ℕ → ℤ
jantzen_value e d p mu =
    int_sum (map (λ t. value_at_one t.1 *ℤ value_at_one (d t.0 mu)) (jantzen_entries e p))

-- The same with absolute values (this project's own).
unfoldable pub jantzen_size : ℕ → Cells → List ℕ → List ℕ → ℕ
jantzen_size e d p mu =
    sum_by (λ t. unsigned_abs (value_at_one t.1) * unsigned_abs (value_at_one (d t.0 mu))) (jantzen_entries e p)

-- The absolute values of the powers, each times that of its coefficient (this project's own).
abbrev pub slope_size : Laurent → ℕ
slope_size q = sum_by (λ t. unsigned_abs t.0 * unsigned_abs t.1) q

-- In each e-regular column the Jantzen sum of p is the derivative of the cell of p.
-- (Ryom-Hansen, 2003)
abbrev pub agrees : ℕ → Cells → List ℕ → Bool
agrees e d p = list_all (λ mu. int_eq (jantzen_value e d p mu) (slope_at_one (d p mu))) (regulars e (degree p))

-- How large the numbers get where line p is compared: past the limit the comparison is too large (this project's own).
abbrev pub agreement_weight : ℕ → Cells → List ℕ → ℕ
agreement_weight e d p =
    greatest (map (λ mu. max (jantzen_size e d p mu) (slope_size (d p mu))) (regulars e (degree p)))
