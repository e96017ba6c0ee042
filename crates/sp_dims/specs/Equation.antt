-- One equation: the products that it sums up, and its own dimension when those of the greater columns are known.
use Rattle.std.specs.Prelude.{ℕ, ◌+◌, ◌*◌, List, map, sum_by, ℤ, pos, ◌-ℤ◌, unsigned_abs}
use Rattle.std.specs.List.{zip}
use Rattle.sp_defs.specs.Laurent.{Laurent, value_at_one}
use Rattle.sp_module_defs.specs.Agreement.{Cells}
use Rattle.sp_module_defs.specs.Dims.{Dims, specht_dim, composed_dim}

-- The values at v = 1 of the cells, each with the dimension of its column.
unfoldable pub products_of : List Laurent → List ℤ → List (ℤ × ℤ)
products_of cells known = zip (map value_at_one cells) known

unfoldable pub products_weight : List Laurent → List ℤ → ℕ
products_weight cells known = sum_by (λ t. unsigned_abs t.0 * unsigned_abs t.1) (products_of cells known)

-- The dimension at a column.
unfoldable pub next_dim : Cells → Dims → List ℕ → ℤ
next_dim d known lambda = pos (specht_dim lambda) -ℤ composed_dim d known lambda

-- Its weight.
unfoldable pub known_weight : Cells → Dims → List ℕ → ℕ
known_weight d known lambda =
    specht_dim lambda + sum_by (λ t. unsigned_abs (value_at_one (d lambda t.0)) * unsigned_abs t.1) known
