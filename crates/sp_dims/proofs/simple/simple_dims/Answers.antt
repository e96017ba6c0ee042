use Rattle.std.proofs.Common.{◌≡◌, ◌<◌, ◌≤◌, ◌++◌, ◌∷◌, [], length, get_or, refl, sym, ◌∙◌, ap, subst}
use Rattle.std.proofs.Common.{List, ℕ}
use Rattle.std.proofs.Common.{◌⊎◌, inl, inr, true, false, ◌+◌, drop, length-append, rules, SFits, to_z-of_z}
use Rattle.std.specs.Int.{w128}
use Rattle.std.specs.List.{zip}
use Rattle.sp_defs.specs.Laurent.{one}
use Rattle.sp_lists.proofs.Elements.{le_or_lt}
use Rattle.sp_lists.proofs.Places.{all_at}
use Rattle.sp_fock_law.specs.Grid.{GridValue, IsGrid}
use Rattle.sp_module_defs.specs.Cells.{IsSquareUnitriangular, cell_at}
use Rattle.sp_dims.specs.Equation.{next_dim, known_weight}
use Rattle.sp_dims.specs.Solution.{IsSolution, IsPast, first_past}
use Rattle.sp_dims.proofs.Solving.{solved, past, solution, upper, past-first_past}
use Rattle.sp_module_defs.proofs.Places.{descends, column_is_line}
use Rattle.sp_dims.proofs.Walk.{zip-none, solved_step, past_step, past_here, solved_done, past_done}
use Rattle.sp_dims.proofs.simple.simple_dims.Goals as goal

-- ---- over any grid

the_solution : (g : GridValue) → IsGrid g → IsSquareUnitriangular g.columns (cell_at g) →
    IsSolution g.columns (cell_at g) (solved (cell_at g) [] g.columns)
the_solution g h u =
    solution (cell_at g) g.columns (upper (cell_at g) g.columns (descends g.columns h.columns.descending) u)

the_first : (g : GridValue) (limit : ℕ) → IsGrid g →
    past limit (cell_at g) [] g.columns ≡ first_past limit g.columns (cell_at g) (solved (cell_at g) [] g.columns)
the_first g limit h = past-first_past limit (cell_at g) g.columns (descends g.columns h.columns.descending)

item_at : (cs items : List (List ℕ)) (i : ℕ) (item : List ℕ) → items ≡ cs → item ≡ get_or items i item →
    item ≡ get_or cs i item
item_at cs items i item e is = is ∙ ap (λ ys. get_or ys i item) e

within : (cs items : List (List ℕ)) (i : ℕ) → items ≡ cs → i < length items → i < length cs
within cs items i e lt = subst (λ ys. i < length ys) e lt

pub loop-column-init : goal.loop-column-init
loop-column-init c =
    let g = c.args.grid.now in
    let d = cell_at g in
    record {
      columns = c.columns-column-items.ensures.value;
      count = ap length c.new-dims.ensures.items;
      is =
          ap (λ ys. ys ++ solved d (zip g.columns ys) g.columns) c.new-dims.ensures.items
          ∙ ap (λ k. solved d k g.columns) (zip-none g.columns);
      first =
          ap (λ ys. past c.args.limit d (zip g.columns ys) g.columns) c.new-dims.ensures.items
          ∙ ap (λ k. past c.args.limit d k g.columns) (zip-none g.columns);
    }

pub next_dim-requires-clause-line : goal.next_dim-requires-clause-line
next_dim-requires-clause-line c =
    let g = c.args.grid.now in
    let column = c.column-item.result in
    let i = c.loop-column.column-index in
    let lt = within g.columns c.columns-column-items.result.now i c.columns-column-items.ensures.value
    c.loop-column-test.true in
    let at = item_at g.columns c.columns-column-items.result.now i column c.columns-column-items.ensures.value
    c.column-item.is in
    column_is_line g column c.columns-column-items.ensures.grid
    (subst (λ mu. cell_at g mu mu ≡ one) (sym at)
    (all_at (λ mu. cell_at g mu mu ≡ one) g.columns i column c.requires.triangular.own lt))

pub returns-in-None-clause-too_large : goal.returns-in-None-clause-too_large
returns-in-None-clause-too_large c =
    let g = c.args.grid.now in
    let d = cell_at g in
    let xs = c.loop-column.dims.items in
    let column = c.column-item.result in
    let i = c.loop-column.column-index in
    let lt = within g.columns c.columns-column-items.result.now i c.columns-column-items.ensures.value
    c.loop-column-test.true in
    let at = item_at g.columns c.columns-column-items.result.now i column c.columns-column-items.ensures.value
    c.column-item.is in
    let heavy : c.args.limit < known_weight d (zip g.columns xs) column =
    subst (λ ks. c.args.limit < known_weight d (zip g.columns ks) column) c.deref.ensures.value
    (c.in-None.ensures.none.0 refl) in
    let here : IsPast c.args.limit g.columns d column = record {
      dims = solved d [] g.columns;
      solution = the_solution g c.columns-column-items.ensures.grid c.requires.triangular;
      first =
          sym (the_first g c.args.limit c.columns-column-items.ensures.grid)
          ∙ sym c.loop-column.invariant.first
          ∙ past_here d c.args.limit g.columns xs i column lt c.loop-column.invariant.count at heavy;
    } in
    λ other e. let same : column ≡ other = cc in subst (IsPast c.args.limit g.columns d) same here

pub loop-column-preserved : goal.loop-column-preserved
loop-column-preserved c =
    let g = c.args.grid.now in
    let d = cell_at g in
    let xs = c.loop-column.dims.items in
    let column = c.column-item.result in
    let i = c.loop-column.column-index in
    let x = c.in-Some.dim in
    let lt = within g.columns c.columns-column-items.result.now i c.columns-column-items.ensures.value
    c.loop-column-test.true in
    let at = item_at g.columns c.columns-column-items.result.now i column c.columns-column-items.ensures.value
    c.column-item.is in
    let next : x ≡ next_dim d (zip g.columns xs) column =
    c.in-Some.ensures.some ∙ ap (λ ks. next_dim d (zip g.columns ks) column) c.deref.ensures.value in
    let light : known_weight d (zip g.columns xs) column ≤ c.args.limit =
    subst (λ ks. known_weight d (zip g.columns ks) column ≤ c.args.limit) c.deref.ensures.value
    (lighter (known_weight d (zip g.columns c.deref.result.now) column) c.args.limit c.in-Some.ensures.none.1) in
    let fits : SFits w128 x = search rules in
    let grown : c.push.new.dims.items ≡ xs ++ x ∷ [] =
    c.in_ok-push-in-Some.ensures ∙ ap (λ y. xs ++ y ∷ []) (to_z-of_z fits) in
    record {
      columns = c.columns-column-items.ensures.value;
      count = ap length grown ∙ length-append xs (x ∷ []) ∙ ap (λ n. n + 1) c.loop-column.invariant.count;
      is =
          ap (λ ys. ys ++ solved d (zip g.columns ys) (drop (i + 1) g.columns)) grown
          ∙ solved_step d c.args.limit g.columns xs i column lt c.loop-column.invariant.count at x
          (solved d [] g.columns) next c.loop-column.invariant.is;
      first =
          ap (λ ys. past c.args.limit d (zip g.columns ys) (drop (i + 1) g.columns)) grown
          ∙ past_step d c.args.limit g.columns xs i column lt c.loop-column.invariant.count at x
          (past c.args.limit d [] g.columns) next light c.loop-column.invariant.first;
    }
  where
    lighter : (w limit : ℕ) → (limit < w → true ≡ false) → w ≤ limit
    lighter w limit h = settle (le_or_lt w limit)
      where
        settle : (w ≤ limit) ⊎ (limit < w) → w ≤ limit
        settle (inl le) = le
        settle (inr lt) = absurd (let e = h lt in cc)

pub returns-clause-dims : goal.returns-clause-dims
returns-clause-dims c =
    let g = c.args.grid.now in
    let d = cell_at g in
    let xs = c.loop-column.dims.items in
    let past_all : length g.columns ≤ c.loop-column.column-index =
    subst (λ ys. length ys ≤ c.loop-column.column-index) c.columns-column-items.ensures.value
    c.loop-column-test.false in
    let is : xs ≡ solved d [] g.columns =
    solved_done d g.columns xs (solved d [] g.columns) c.loop-column.column-index past_all c.loop-column.invariant.is in
    record {
      solution =
          subst (IsSolution g.columns d) (sym is)
          (the_solution g c.columns-column-items.ensures.grid c.requires.triangular);
      within =
          ap (first_past c.args.limit g.columns d) is
          ∙ sym (the_first g c.args.limit c.columns-column-items.ensures.grid)
          ∙ sym c.loop-column.invariant.first
          ∙ past_done d c.args.limit g.columns xs c.loop-column.column-index past_all;
    }
