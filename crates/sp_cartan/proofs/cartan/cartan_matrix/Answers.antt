use Rattle.std.proofs.Common.{◌≡◌, ◌/◌, sym, ap, subst, IfOk}
use Rattle.std.proofs.lemmas.Result.{on_ok_weaker}
use Rattle.sp_defs.specs.Within.{PowersWithin}
use Rattle.sp_laurent.specs.Held.{power_limit}
use Rattle.sp_fock_law.specs.Grid.{GridValue, cell_of}
use Rattle.sp_grid_law.specs.Columns.{AreWithin, IsGreatestPast}
use Rattle.sp_grid_law.specs.Products.{IsProductWithin, product}
use Rattle.sp_grid_law.specs.Tables.{HasPowersWithin}
use Rattle.sp_grid_law.proofs.Tabulated.{cell_tabulated}
use Rattle.sp_cartan.proofs.Refusing.{product_refuses, product_whole}
use Rattle.sp_cartan.proofs.cartan.cartan_matrix.Goals as goal

pub multiply-requires-clause-one_degree : goal.multiply-requires-clause-one_degree
multiply-requires-clause-one_degree c = ap (λ (t : GridValue). t.degree) c.in_ok-turned.ensures

pub multiply-requires-clause-meet : goal.multiply-requires-clause-meet
multiply-requires-clause-meet c = ap (λ (t : GridValue). t.columns) c.in_ok-turned.ensures

pub multiply-requires-clause-first_powers : goal.multiply-requires-clause-first_powers
multiply-requires-clause-first_powers c =
    let g = c.args.g.now in
    subst (HasPowersWithin (power_limit / 2)) (sym c.in_ok-turned.ensures)
    (λ line column hl hc. subst (PowersWithin (power_limit / 2))
    (sym (cell_tabulated g.degree g.lines g.columns (λ line column. cell_of g column line) line column hl hc))
    (c.requires.powers column line hc hl))

pub returns-clause-product : goal.returns-clause-product
returns-clause-product c =
    subst (λ (t : GridValue). IfOk c.multiply.result (λ p. p ≡ product t c.args.g.now)) c.in_ok-turned.ensures
    c.multiply.ensures.product

pub returns-clause-fits : goal.returns-clause-fits
returns-clause-fits c =
    let g = c.args.g.now in
    on_ok_weaker c.multiply.result
    (λ all. product_whole c.args.limit g
    (subst (λ (t : GridValue). AreWithin g.columns (IsProductWithin c.args.limit t g)) c.in_ok-turned.ensures all))
    c.multiply.ensures.within

pub returns-clause-too_large : goal.returns-clause-too_large
returns-clause-too_large c =
    let g = c.args.g.now in
    λ at is. product_refuses c.args.limit g at
    (subst (λ (t : GridValue). IsGreatestPast g.columns (IsProductWithin c.args.limit t g) at) c.in_ok-turned.ensures
    (c.multiply.ensures.too_large at is))
