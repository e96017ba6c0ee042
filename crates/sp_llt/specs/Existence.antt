-- Where a row exists.
use Rattle.std.specs.Prelude.{ℕ, List}
use Rattle.sp_defs.specs.Power.{Vector}
use Rattle.sp_defs.specs.Row.{IsRow, regular_row}
use Rattle.sp_defs.specs.Statements.{IsLabel}

-- If any vector is a row of mu, the regular row is one. So there is a row exactly where the regular row is one.
-- (Lusztig, 1990, and Kashiwara, 1991, for uniqueness)
abbrev pub RowsAreRegular : Type 0
RowsAreRegular = (e : ℕ) (mu : List ℕ) → IsLabel e mu → (w : Vector) → IsRow e mu w → IsRow e mu (regular_row e mu)
