use Rattle.std.proofs.Common.{◌≡◌, ◌≤◌, length, sym, ap, subst, IfSome, is_some}
use Rattle.std.proofs.lemmas.Result.{on_ok_weaker}
use Rattle.sp_fock_law.specs.Grid.{GridValue, IsGrid}
use Rattle.sp_grid_law.specs.Columns.{AreWithin, IsColumnWithin, IsGreatestPast}
use Rattle.sp_grid_law.specs.Inverses.{IsInverse, IsInverseWithin, IsTriangular}
use Rattle.sp_grid_law.specs.Solved.{inverse_of}
use Rattle.sp_grid_law.specs.Tables.{HasPowersWithin}
use Rattle.sp_grid_law.proofs.InverseLaw.{inverse_is, only_inverse}
use Rattle.sp_module_defs.specs.Cells.{IsSquareUnitriangular, cell_at}
use Rattle.sp_cartan.specs.Square.{square_of}
use Rattle.sp_cartan.proofs.Refusing.{far_refuses, large_refuses, none_refuses}
use Rattle.sp_cartan.proofs.SquarePart.{has_square, square_is_grid, square_powers, square_triangular}
use Rattle.sp_cartan.proofs.inverses.inverse_matrix.Goals as goal

pub square-requires : goal.square-requires
square-requires c = has_square c.args.g.now c.degree-degree.ensures.grid c.requires.triangular

pub returns-in-Some-clause-too_large : goal.returns-in-Some-clause-too_large
returns-in-Some-clause-too_large c =
    let g = c.args.g.now in
    let told = subst (λ o. IfSome o (IsGreatestPast g.columns (IsColumnWithin 100000 g))) c.in-Some.is
    c.in_ok-at.ensures.some in
    λ at is.
    let same : c.in-Some.at ≡ at = cc in
    far_refuses c.args.limit g at (subst (IsGreatestPast g.columns (IsColumnWithin 100000 g)) same told)

pub invert-requires-clause-triangular : goal.invert-requires-clause-triangular
invert-requires-clause-triangular c =
    subst IsTriangular (sym c.in_ok-square.ensures)
    (square_triangular c.args.g.now c.degree-degree.ensures.grid c.requires.triangular)

pub invert-requires-clause-lines : goal.invert-requires-clause-lines
invert-requires-clause-lines c =
    subst (λ (s : GridValue). length s.lines ≤ 5604) (sym c.in_ok-square.ensures) c.requires.few

pub invert-requires-clause-powers : goal.invert-requires-clause-powers
invert-requires-clause-powers c =
    subst (HasPowersWithin 100000) (sym c.in_ok-square.ensures)
    (square_powers c.args.g.now c.degree-degree.ensures.grid c.requires.triangular 100000
    (c.in_ok-at.ensures.none (ap is_some c.in_default.is)))

-- the inverse of the square part that the code makes
inverse_there : (g s : GridValue) → s ≡ square_of g → IsGrid g → IsSquareUnitriangular g.columns (cell_at g) →
    IsInverse s (inverse_of (square_of g))
inverse_there g s is h u =
    subst (λ (x : GridValue). IsInverse x (inverse_of (square_of g))) (sym is)
    (inverse_is (square_of g) (square_is_grid g h) (square_triangular g h u))

pub returns-clause-inverse : goal.returns-clause-inverse
returns-clause-inverse c =
    let g = c.args.g.now in
    c.invert.ensures.only (inverse_of (square_of g))
    (inverse_there g c.in_ok-square.square c.in_ok-square.ensures c.degree-degree.ensures.grid c.requires.triangular)

pub returns-clause-is : goal.returns-clause-is
returns-clause-is c =
    let g = c.args.g.now in
    let h = c.degree-degree.ensures.grid in
    on_ok_weaker c.invert.result
    (λ _. inverse_is (square_of g) (square_is_grid g h) (square_triangular g h c.requires.triangular))
    (c.invert.ensures.within (inverse_of (square_of g))
    (inverse_there g c.in_ok-square.square c.in_ok-square.ensures h c.requires.triangular))

pub returns-clause-only : goal.returns-clause-only
returns-clause-only c =
    let g = c.args.g.now in
    let h = c.degree-degree.ensures.grid in
    λ other is.
    on_ok_weaker c.invert.result
    (λ _. only_inverse (square_of g) (square_is_grid g h) (square_triangular g h c.requires.triangular) other is)
    (c.invert.ensures.within (inverse_of (square_of g))
    (inverse_there g c.in_ok-square.square c.in_ok-square.ensures h c.requires.triangular))

pub returns-clause-fits : goal.returns-clause-fits
returns-clause-fits c =
    let g = c.args.g.now in
    on_ok_weaker c.invert.result
    (λ all. none_refuses c.args.limit g (c.in_ok-at.ensures.none (ap is_some c.in_default.is))
    (subst (λ (s : GridValue). AreWithin s.columns (IsInverseWithin c.args.limit s (inverse_of (square_of g))))
    c.in_ok-square.ensures all))
    (c.invert.ensures.within (inverse_of (square_of g))
    (inverse_there g c.in_ok-square.square c.in_ok-square.ensures c.degree-degree.ensures.grid
    c.requires.triangular))

pub returns-clause-too_large : goal.returns-clause-too_large
returns-clause-too_large c =
    let g = c.args.g.now in
    λ at is. large_refuses c.args.limit g (c.in_ok-at.ensures.none (ap is_some c.in_default.is)) at
    (subst (λ (s : GridValue). IsGreatestPast s.columns (IsInverseWithin c.args.limit s (inverse_of (square_of g))) at)
    c.in_ok-square.ensures
    (c.invert.ensures.too_large (inverse_of (square_of g)) at
    (inverse_there g c.in_ok-square.square c.in_ok-square.ensures c.degree-degree.ensures.grid
    c.requires.triangular) is))
