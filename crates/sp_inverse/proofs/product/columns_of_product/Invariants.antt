use Rattle.std.proofs.Common.{ℕ, ◌<◌, length}
use Rattle.sp_grid_law.specs.Products.{IsProductWithin, product_cell}
use Rattle.sp_inverse.specs.Turned.{AreColumns}
use Rattle.sp_inverse.proofs.product.columns_of_product.Given as goal

abbrev pub invariant-loop-column : goal.invariant-loop-column
invariant-loop-column l =
    AreColumns l.column (length l.a.lines) (product_cell l.a l.b) l.columns.items
    × ((k : ℕ) → k < l.column → IsProductWithin l.limit l.a l.b k)
