use Rattle.std.proofs.Common.{◌≡◌, ◌+◌, ◌≤◌, get_or, length, refl, ◌∙◌, ap, pos, arith, rules}
use Rattle.std.proofs.Common.{SFits, to_z, of_z, to_z-of_z, take, []}
use Rattle.std.proofs.lemmas.Int.{ints}
use Rattle.std.specs.Int.{w128}
use Rattle.sp_defs.specs.Laurent.{value_at_one}
use Rattle.sp_fock_law.specs.Grid.{row_of}
use Rattle.sp_dims.specs.Equation.{products_weight}
use Rattle.sp_dims.proofs.Products.{products-none, weight-none, product_passes, room_next, dim_next, within_limit}
use Rattle.sp_dims.proofs.Rows.{row_width}
use Rattle.sp_dims.proofs.equation.solve.Goals as goal

pub loop-column-init : goal.loop-column-init
loop-column-init c = record {
  is =
      let same : to_z w128 c.args.number ≡ pos c.args.number = omega (arith, ints) in
      same ∙ products-none (row_of c.args.grid.now c.args.line) c.args.number;
  whole = omega (arith, weight-none (row_of c.args.grid.now c.args.line));
}

pub less_product-requires : goal.less_product-requires
less_product-requires c =
    omega (
      arith,
      c.requires.most,
      within_limit (row_of c.args.grid.now c.args.line) (take c.loop-column.column c.args.known.now)
          (to_z w128 c.loop-column.dim-bits) c.args.number c.loop-column.room c.args.limit c.loop-column.invariant.is
          c.loop-column.invariant.whole,
    )

pub returns-in-None-clause-none : goal.returns-in-None-clause-none
returns-in-None-clause-none c =
    let g = c.args.grid.now in
    let known = c.args.known.now in
    let column = c.loop-column.column in
    let row = row_of g c.args.line in
    let m_fits : SFits w128 c.at_one.result = search rules in
    let x_fits : SFits w128 (get_or known column (pos 0)) = search rules in
    let wide : length known ≤ length row = omega (arith, row_width g c.args.line c.requires.grid c.requires.line) in
    let passes =
    product_passes row known column (to_z w128 (of_z w128 c.at_one.result))
    (to_z w128 (of_z w128 (get_or known column (pos 0)))) c.loop-column-test.true wide
    (to_z-of_z m_fits ∙ c.at_one.ensures ∙ ap value_at_one c.cell.ensures) (to_z-of_z x_fits) c.args.number
    c.loop-column.room c.args.limit c.loop-column.invariant.whole (omega (arith, c.in-None.ensures)) in
    ((λ _. passes), (λ _. refl))

pub loop-column-preserved : goal.loop-column-preserved
loop-column-preserved c =
    let g = c.args.grid.now in
    let known = c.args.known.now in
    let column = c.loop-column.column in
    let row = row_of g c.args.line in
    let m = to_z w128 (of_z w128 c.at_one.result) in
    let x = to_z w128 (of_z w128 (get_or known column (pos 0))) in
    let m_fits : SFits w128 c.at_one.result = search rules in
    let x_fits : SFits w128 (get_or known column (pos 0)) = search rules in
    let less_fits : SFits w128 c.in-Some.less = search rules in
    let wide : length known ≤ length row = omega (arith, row_width g c.args.line c.requires.grid c.requires.line) in
    let cell : m ≡ value_at_one (get_or row column []) =
    to_z-of_z m_fits ∙ c.at_one.ensures ∙ ap value_at_one c.cell.ensures in
    record {
      is =
          to_z-of_z less_fits
          ∙ ap (λ t. t.0) c.in-Some.ensures.1
          ∙ dim_next row known column m x c.loop-column-test.true wide cell (to_z-of_z x_fits)
          (to_z w128 c.loop-column.dim-bits) c.args.number c.loop-column.invariant.is;
      whole =
          ap (λ t. c.args.number + products_weight row (take (column + 1) known) + t.1) c.in-Some.ensures.1
          ∙ room_next row known column m x c.loop-column-test.true wide cell (to_z-of_z x_fits) c.args.number
          c.loop-column.room c.args.limit c.loop-column.invariant.whole c.in-Some.ensures.0;
    }
