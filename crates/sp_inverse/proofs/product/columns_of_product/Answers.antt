use Rattle.std.proofs.Common.{◌≡◌, ◌+◌, ◌≤◌, [], length, get_or, sym, ◌∙◌, ap, subst, Err}
use Rattle.std.proofs.lemmas.List.{get_or_default}
use Rattle.sp_fock_law.specs.Grid.{GridValue, row_of}
use Rattle.sp_grid_law.specs.Products.{IsProductWithin, product_cell}
use Rattle.sp_grid_law.proofs.Columns.{factors_within, one_further, product_line, product_total}
use Rattle.sp_inverse.specs.Turned.{AreColumns}
use Rattle.sp_inverse.proofs.Places.{place_in}
use Rattle.sp_inverse.proofs.Rows.{columns_more}
use Rattle.sp_inverse.proofs.product.columns_of_product.Goals as goal

pub column_of_product-requires-clause-factors : goal.column_of_product-requires-clause-factors
column_of_product-requires-clause-factors c =
    let column = c.loop-column.column in
    factors_within c.args.a.now c.args.b.now c.requires.meet column
    (place_in c.columns-column-end.result.now c.args.b.now.columns column c.columns-column-end.ensures.value
    c.loop-column-test.true) c.deref.result.now
    (c.deref.ensures.value
    ∙ c.in_ok-factors.ensures
    ∙ ap (λ (t : GridValue). row_of t column) c.in_ok-turned.ensures)
    500000000 c.requires.second_powers

pub returns-in-Err-TooLarge-clause-too_large : goal.returns-in-Err-TooLarge-clause-too_large
returns-in-Err-TooLarge-clause-too_large c =
    let a = c.args.a.now in
    let b = c.args.b.now in
    let column = c.loop-column.column in
    let in_range = place_in c.columns-column-end.result.now b.columns column c.columns-column-end.ensures.value
    c.loop-column-test.true in
    let same = c.deref.ensures.value
    ∙ c.in_ok-factors.ensures
    ∙ ap (λ (t : GridValue). row_of t column) c.in_ok-turned.ensures in
    λ at is.
    let named : c.index-columns-column.result ≡ at = cc in
    record {
      column = column;
      in_range = in_range;
      is =
          sym named
          ∙ c.index-columns-column.is
          ∙ ap (λ xs. get_or xs column c.index-columns-column.result) c.columns.ensures.value
          ∙ get_or_default b.columns column c.index-columns-column.result [] in_range;
      past = λ within. c.in-Err-TooLarge.ensures.too_large (ap Err c.in-Err-TooLarge.field-0-is)
          (λ line lt. subst (λ n. n ≤ c.args.limit)
          (sym (product_total a b c.requires.meet column in_range c.deref.result.now same line)) (within line lt));
      greater = c.loop-column.invariant.1;
    }

pub loop-column-preserved : goal.loop-column-preserved
loop-column-preserved c =
    let a = c.args.a.now in
    let b = c.args.b.now in
    let column = c.loop-column.column in
    let in_range = place_in c.columns-column-end.result.now b.columns column c.columns-column-end.ensures.value
    c.loop-column-test.true in
    let same = c.deref.ensures.value
    ∙ c.in_ok-factors.ensures
    ∙ ap (λ (t : GridValue). row_of t column) c.in_ok-turned.ensures in (
      subst (AreColumns (column + 1) (length a.lines) (product_cell a b)) (sym c.in_ok-push_line-in-Ok.ensures)
          (columns_more c.loop-column.columns.items c.in-Ok.cells column (length a.lines) (product_cell a b)
          c.loop-column.invariant.0
          (product_line a b c.requires.meet column in_range c.deref.result.now same c.in-Ok.cells.items
          c.in-Ok.ensures.cells)),
      one_further (λ k. IsProductWithin c.args.limit a b k) column c.loop-column.invariant.1
          (λ line lt. subst (λ n. n ≤ c.args.limit)
          (product_total a b c.requires.meet column in_range c.deref.result.now same line)
          (c.in-Ok.ensures.within line lt)),
    )
