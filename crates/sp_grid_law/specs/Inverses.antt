-- Triangular grids and their inverses.
-- Curtis and Reiner, Methods of Representation Theory, vol. I, section 18, for Cartan matrices as products of
-- decomposition matrices; Mathas, Iwahori-Hecke Algebras and Schur Algebras of the Symmetric Group, ch. 2.
use Rattle.std.specs.Prelude.{◌≡◌, ℕ, ◌-◌, ◌*◌, ◌<◌, ◌≤◌, [], length, sum_by}
use Rattle.std.specs.List.{range_with_len}
use Rattle.sp_defs.specs.Laurent.{IsLaurent, one, size}
use Rattle.sp_fock_law.specs.Grid.{GridValue, IsGrid, cell_of}
use Rattle.sp_grid_law.specs.Tables.{identity}
use Rattle.sp_grid_law.specs.Products.{product}

-- The lines are the columns; 1 stands at each equal pair, and 0 where the line is the greater partition. Lines and
-- columns descend, so that the greater partition is the one with the lesser place.
-- (Lang, Linear Algebra, ch. II, 3; Mathas, ch. 2)
pub record IsTriangular (g : GridValue) : Type 0 where
  pub square : g.columns ≡ g.lines
  pub own : (line : ℕ) → line < length g.lines → cell_of g line line ≡ one
  pub greater : (line column : ℕ) → line < column → column < length g.columns → cell_of g line column ≡ []

-- The grid of polynomials with the same lines and columns whose product with g, on both sides, has 1 at each equal
-- pair and 0 elsewhere.
-- (Lang, Linear Algebra, ch. II, 3)
pub record IsInverse (g h : GridValue) : Type 0 where
  pub grid : IsGrid h
  pub polynomials :
      (line column : ℕ) → line < length h.lines → column < length h.columns → IsLaurent (cell_of h line column)
  pub degree : h.degree ≡ g.degree
  pub columns : h.columns ≡ g.columns
  pub lines : h.lines ≡ g.lines
  pub right : product g h ≡ identity g.degree g.lines
  pub left : product h g ≡ identity g.degree g.lines

-- One grid is an inverse, and no other one (this project's own).
pub record HasOneInverse (g : GridValue) : Type 0 where
  pub inverse : GridValue
  pub is : IsInverse g inverse
  pub only : (other : GridValue) → IsInverse g other → other ≡ inverse

-- A triangular grid has exactly one inverse.
-- (Lang, Linear Algebra, ch. II, 3)
abbrev pub InverseLaw : Type 0
InverseLaw = (g : GridValue) → IsGrid g → IsTriangular g → HasOneInverse g

-- The sum, over the places k from that of the column to the one before the line's, of the products of the sizes of g's
-- cell in the line and the inverse's cell in the column (this project's own).
abbrev pub inverse_size : GridValue → GridValue → ℕ → ℕ → ℕ
inverse_size g h line column =
    sum_by (λ k. size (cell_of g line k) * size (cell_of h k column)) (range_with_len column (line - column))

-- A column of the inverse isn't too large for the limit: in each line behind the column's own the sum of the sizes is
-- within it (this project's own).
abbrev pub IsInverseWithin : ℕ → GridValue → GridValue → ℕ → Type 0
IsInverseWithin limit g h column =
    (line : ℕ) → column < line → line < length g.lines → inverse_size g h line column ≤ limit
