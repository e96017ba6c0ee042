use Rattle.std.proofs.Common.{◌≡◌, ◌<◌, [], length, take, ◌∙◌, arith, rules}
use Rattle.std.proofs.lemmas.Grind.{common_steps}
use Rattle.sp_defs.specs.Text.{partition_text}
use Rattle.sp_partition.proofs.Holding.{few_parts}
use Rattle.sp_partition.proofs.Kept.{kept_on, kept_append, kept_more}
use Rattle.sp_partition.proofs.Runs.{first_run, written_first, written_next}
use Rattle.sp_partition.proofs.text.put_parts.Goals as goal

pub returns-then-is_empty-clause-text : goal.returns-then-is_empty-clause-text
unfolding partition_text
returns-then-is_empty-clause-text c = let none : c.args.parts.now ≡ [] = grind (arith, common_steps) in
    rw none c.in_ok-push.ensures.items

pub put_run-requires-clause-few : goal.put_run-requires-clause-few
put_run-requires-clause-few c = omega (arith, few_parts c.args.parts.now c.requires)

pub loop-rest-init : goal.loop-rest-init
loop-rest-init c =
    let some : 0 < length c.args.parts.now = grind (arith, common_steps) in
    record {
      held = rw c.in_ok-rest.ensures.rest (first_run c.args.parts.now c.requires some).rest;
      text = rw c.in_ok-rest.ensures.rest
          (written_first _ _ c.args.parts.now c.requires some c.in_ok-rest.ensures.text);
      kept = rw c.in_ok-rest.ensures.text (kept_append _ _);
    }

pub put_run-requires-in-loop-rest-clause-few : goal.put_run-requires-in-loop-rest-clause-few
put_run-requires-in-loop-rest-clause-few c = omega (arith, few_parts c.loop-rest.rest.now c.loop-rest.invariant.held)

pub loop-rest-preserved : goal.loop-rest-preserved
loop-rest-preserved c =
    let some : 0 < length c.loop-rest.rest.now = grind (arith, common_steps) in
    record {
      held = rw c.in_ok-rest-2.ensures.rest (first_run c.loop-rest.rest.now c.loop-rest.invariant.held some).rest;
      text = rw c.in_ok-rest-2.ensures.rest
          (written_next _ _ _ c.loop-rest.rest.now c.loop-rest.invariant.held some
          c.in_ok-push-2.ensures.items c.in_ok-rest-2.ensures.text ∙ c.loop-rest.invariant.text);
      kept = kept_more _ _ _ _
          (kept_more _ _ _ _ c.loop-rest.invariant.kept c.in_ok-push-2.ensures.items) c.in_ok-rest-2.ensures.text;
    }

pub returns-in_err-rest-2-clause-kept : goal.returns-in_err-rest-2-clause-kept
returns-in_err-rest-2-clause-kept c =
    let kept : take (length c.args.out.now.items) c.put_run-in-loop-rest.new.out.items ≡ c.args.out.now.items =
    kept_on _ _ _
    (kept_more _ _ _ _ c.loop-rest.invariant.kept c.in_ok-push-2.ensures.items) c.in_err-rest-2.ensures.kept in
    search rules
