use Rattle.std.proofs.Common.{◌-◌, ◌++◌, [], List, ℕ, length, get_or, ◌∙◌, ap, subst, arith, sym, pos}
use Rattle.std.proofs.lemmas.List.{get_or_default}
use Rattle.sp_defs.specs.Laurent.{monomial, value_at_one}
use Rattle.sp_fock.specs.Held.{ArePairs}
use Rattle.sp_cartan.specs.Characters.{values_below}
use Rattle.sp_cartan.proofs.Values.{pairs_kept, values_more, values_none}
use Rattle.sp_cartan.proofs.characters.values_in.Goals as goal

pub loop-column-init : goal.loop-column-init
loop-column-init c =
    let g = c.args.g.now in
    record {
      values =
          ap (λ vs. vs ++ values_below g c.args.line (length c.columns-columns.result.now)) c.new-values.ensures.items
          ∙ ap (λ (cs : List (List ℕ)). values_below g c.args.line (length cs)) c.columns-columns.ensures.value;
      held = subst ArePairs (sym c.new-values.ensures.items) tt;
    }

pub loop-column-preserved : goal.loop-column-preserved
loop-column-preserved c =
    let g = c.args.g.now in
    let k = c.loop-column.column in
    let p = c.index-columns-column.result in
    record {
      values =
          values_more g c.args.line k c.loop-column-test.true p c.in_ok-value.value
          (c.index-columns-column.is
          ∙ ap (λ cs. get_or cs (k - 1) p) c.columns-columns.ensures.value
          ∙ get_or_default g.columns (k - 1) p []
          (omega (
            arith,
            c.loop-column-test.true,
            c.loop-column.auto.column,
            ap length c.columns-columns.ensures.value,
          )))
          (c.in_ok-value.ensures ∙ ap (λ q. monomial (pos 0) (value_at_one q)) c.cell.ensures)
          c.loop-column.values.items c.push_nonzero.new.pairs.items (values_below g c.args.line (length g.columns))
          c.in_ok-push_nonzero.ensures.pairs c.loop-column.invariant.values;
      held =
          pairs_kept c.loop-column.values.items c.push_nonzero.new.pairs.items p c.in_ok-value.value
          c.loop-column.invariant.held c.push_nonzero.ensures.held.0 c.push_nonzero.ensures.held.1
          c.in_ok-push_nonzero.ensures.pairs;
    }

pub returns-clause-values : goal.returns-clause-values
returns-clause-values c =
    values_none c.args.g.now c.args.line c.loop-column.column c.loop-column.values.items
    (values_below c.args.g.now c.args.line (length c.args.g.now.columns)) c.loop-column-test.false
    c.loop-column.invariant.values
