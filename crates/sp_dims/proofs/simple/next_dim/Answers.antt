use Rattle.std.proofs.Common.{◌≡◌, ◌+◌, ◌<◌, ◌↔◌, ◌-ℤ◌, pos, ◌∙◌, ap, ap₂, subst, IfSome, IsNone}
use Rattle.sp_defs.specs.Laurent.{slope_at_one}
use Rattle.sp_fock_law.specs.Grid.{row_of}
use Rattle.sp_dims.specs.Equation.{products_of, products_weight}
use Rattle.sp_dims.proofs.Rows.{next_by_row, weight_by_row}
use Rattle.sp_dims.proofs.simple.next_dim.Goals as goal

pub returns-clause-some : goal.returns-clause-some
returns-clause-some c =
    subst (λ v. IfSome c.solve.result (λ dim. dim ≡ v))
    (ap₂ (λ n row. pos n -ℤ slope_at_one (products_of row c.args.known.now)) c.specht_dim.ensures.value
    (ap (row_of c.args.grid.now) c.line_of.ensures.place)
    ∙ next_by_row c.args.grid.now c.args.column.now c.args.known.now c.line_of.ensures.grid c.requires.line)
    c.solve.ensures.some

pub returns-clause-none : goal.returns-clause-none
returns-clause-none c =
    subst (λ w. IsNone c.solve.result ↔ (c.args.limit < w))
    (ap₂ (λ n row. n + products_weight row c.args.known.now) c.specht_dim.ensures.value
    (ap (row_of c.args.grid.now) c.line_of.ensures.place)
    ∙ weight_by_row c.args.grid.now c.args.column.now c.args.known.now c.line_of.ensures.grid c.requires.line)
    c.solve.ensures.none
