use Rattle.std.proofs.Common.{◌≡◌, ◌<◌, [], ◌++◌, length, arith, sym, ◌∙◌, ap}
use Rattle.std.proofs.lemmas.Grind.{common_steps}
use Rattle.sp_paint.specs.Notation.{partition_text}
use Rattle.sp_paint.proofs.PartsWritten.{written_more, written_all}
use Rattle.sp_paint.proofs.parts.put_partition.Goals as goal

pub returns-then-is_empty-clause-text : goal.returns-then-is_empty-clause-text
unfolding partition_text
returns-then-is_empty-clause-text c =
    let none : c.parts-parts.result.now ≡ [] = grind (arith, common_steps) in
    let empty : c.args.partition.now ≡ [] = sym c.parts-parts.ensures.parts ∙ none in
    rw empty c.in_ok-push.ensures.items

pub loop-place-preserved : goal.loop-place-preserved
loop-place-preserved c =
    written_more _ _ _ _ _ c.loop-place.invariant _ c.loop-place-test.true c.in_ok-put_new_part.ensures.text

pub returns-clause-text : goal.returns-clause-text
returns-clause-text c =
    let some : 0 < length c.parts-parts.result.now = grind (arith, common_steps) in
    written_all _ _ _ _ _ c.loop-place.invariant some c.loop-place-test.false
    ∙ ap (λ parts. c.args.out.now.items ++ partition_text c.args.notation parts) c.parts-parts.ensures.parts
