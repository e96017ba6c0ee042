use Rattle.std.proofs.Common.{◌≡◌, ◌++◌, ◌-◌, ◌∙◌, ap, arith, flat_map, slice_index}
use Rattle.std.specs.List.{range_with_len}
use Rattle.sp_lists.proofs.FlatMaps.{appended_step}
use Rattle.sp_module_defs.specs.Jantzen.{term, terms_of_pair}
use Rattle.sp_jantzen.proofs.term.push_pair.Goals as goal

pub loop-steps-preserved : goal.loop-steps-preserved
loop-steps-preserved c =
    c.in_ok-push_found.ensures
    ∙ ap (λ found. c.loop-steps.terms.items ++ found) c.term.ensures
    ∙ appended_step (term c.args.e c.args.numbers.now c.args.to c.args.from) c.args.terms.now.items
    c.loop-steps.terms.items c.loop-steps.steps (omega arith) c.loop-steps.invariant

pub returns : goal.returns
unfolding terms_of_pair
returns c =
    let all : c.loop-steps.steps - 1 ≡ slice_index c.args.numbers.now c.args.from = omega arith in
    c.loop-steps.invariant
    ∙ ap (λ n. c.args.terms.now.items ++ flat_map (term c.args.e c.args.numbers.now c.args.to c.args.from)
    (range_with_len 1 n)) all
