use Rattle.std.proofs.Common.{[], ◌∷◌, ◌++◌, ◌≤◌, sym, ◌∙◌, ap, ap₂, subst, arith}
use Rattle.std.proofs.lemmas.List.FromFn.{map-range_with_len_more}
use Rattle.sp_defs.specs.Partition.{degree}
use Rattle.sp_defs.specs.Abacus.{beta, runner, shown}
use Rattle.sp_abacus_law.specs.Beads.{Falls}
use Rattle.sp_abacus.proofs.Showing.{runner_falls, runner_small}
use Rattle.sp_abacus.proofs.parts.quotient.Goals as goal

pub shown-requires-clause-falls : goal.shown-requires-clause-falls
shown-requires-clause-falls c =
    let places = c.as_slice-in-loop-i.ensures.value ∙ c.runner.ensures
    ∙ ap (λ bs. runner c.args.e bs c.loop-i.i) (c.as_slice.ensures.value ∙ c.beta-numbers.ensures.numbers) in
    subst Falls (sym places)
    (runner_falls c.args.e c.loop-i.i c.args.p.now c.requires.e_least c.beta-numbers.ensures.held)

pub shown-requires-clause-small : goal.shown-requires-clause-small
shown-requires-clause-small c =
    let places = c.as_slice-in-loop-i.ensures.value ∙ c.runner.ensures
    ∙ ap (λ bs. runner c.args.e bs c.loop-i.i) (c.as_slice.ensures.value ∙ c.beta-numbers.ensures.numbers) in
    subst (λ bs. degree (shown bs) ≤ 32) (sym places)
    (runner_small c.args.e c.loop-i.i c.args.p.now c.requires.e_least c.loop-i-test.true c.beta-numbers.ensures.held)

pub loop-i-preserved : goal.loop-i-preserved
loop-i-preserved c =
    let places = c.as_slice-in-loop-i.ensures.value ∙ c.runner.ensures
    ∙ ap (λ bs. runner c.args.e bs c.loop-i.i) (c.as_slice.ensures.value ∙ c.beta-numbers.ensures.numbers) in
    record {
      is = c.push.ensures.items
          ∙ ap₂ (λ xs x. xs ++ x ∷ []) c.loop-i.invariant.is (c.shown.ensures ∙ ap shown places)
          ∙ sym (map-range_with_len_more (λ i. shown (runner c.args.e (beta c.args.e c.args.p.now) i)) 0 c.loop-i.i
          c.loop-i.i (omega arith));
      len = omega arith;
    }
