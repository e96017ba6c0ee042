-- The only solution of the equations for the simple dimensions, and the first column that is too large.
use Rattle.std.specs.Prelude.{◌≡◌, ℕ, List, Option, Some, None, nat_lt, find, ℤ}
use Rattle.std.specs.List.{zip}
use Rattle.sp_module_defs.specs.Agreement.{Cells}
use Rattle.sp_module_defs.specs.Dims.{IsSimpleDims, dim_weight}

-- These are the dimensions of the simple modules, and no others solve the equations.
-- (Mathas, Iwahori-Hecke Algebras and Schur Algebras of the Symmetric Group, ch. 2)
pub record IsSolution (columns : List (List ℕ)) (d : Cells) (dims : List ℤ) : Type 0 where
  pub solves : IsSimpleDims columns d dims
  pub only : (others : List ℤ) → IsSimpleDims columns d others → others ≡ dims

-- The first of the columns, which descend, whose dimension weight passes the limit (this project's own).
unfoldable pub first_past : ℕ → List (List ℕ) → Cells → List ℤ → Option (List ℕ)
first_past limit columns d dims = find (λ lambda. nat_lt limit (dim_weight d (zip columns dims) lambda)) columns

-- The solution, in which no weight passes the limit (this project's own).
pub record IsWithin (limit : ℕ) (columns : List (List ℕ)) (d : Cells) (dims : List ℤ) : Type 0 where
  pub solution : IsSolution columns d dims
  pub within : first_past limit columns d dims ≡ None

-- In the solution the weight at this column, and at no greater one, passes the limit (this project's own).
pub record IsPast (limit : ℕ) (columns : List (List ℕ)) (d : Cells) (at : List ℕ) : Type 0 where
  pub dims : List ℤ
  pub solution : IsSolution columns d dims
  pub first : first_past limit columns d dims ≡ Some at
