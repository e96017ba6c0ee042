-- The columns of products and inverses as the lines of a grid.
use Rattle.std.specs.Prelude.{◌≡◌, ◌≤◌, ◌<◌, ℕ, List, length}
use Rattle.std.specs.Global.{Vec}
use Rattle.sp_defs.specs.Laurent.{Laurent}
use Rattle.sp_fock_law.specs.Grid.{GridValue, IsGrid}
use Rattle.sp_grid_law.specs.Tables.{HasPowersWithin}
use Rattle.sp_grid_law.specs.Inverses.{IsTriangular}
use Rattle.sp_grid_law.specs.Lines.{IsLine}
use Rattle.sp_inverse.specs.Lines.{line_at}

-- So many lines, each with the polynomials of a column at the places below a height.
pub record AreColumns (width height : ℕ) (cell : ℕ → ℕ → Laurent) (rows : List (Vec (ℕ × Laurent))) : Type 0 where
  pub count : length rows ≡ width
  pub lines : (column : ℕ) → column < width → IsLine height (λ line. cell line column) (line_at rows column)

-- What is asked of a grid that is inverted.
pub record CanInvert (g : GridValue) : Type 0 where
  pub grid : IsGrid g
  pub triangular : IsTriangular g
  pub lines : length g.lines ≤ 5604
  pub powers : HasPowersWithin 100000 g
