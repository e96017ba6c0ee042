use Rattle.std.proofs.Common.{[], get_or, refl, sym, subst, arith}
use Rattle.sp_cert.specs.Counts.{AreContents}
use Rattle.sp_cert.proofs.Heading.{blocks_more, blocks_whole}
use Rattle.sp_cert.proofs.awaited.blocks_of.Goals as goal

pub loop-place-preserved : goal.loop-place-preserved
loop-place-preserved c = λ n are.
    blocks_more c.args.e n c.loop-place.place c.args.regulars.now (get_or c.args.regulars.now c.loop-place.place [])
    c.loop-place.heads.items c.push_block_if.new.heads.items are c.loop-place-test.true refl
    (c.loop-place.invariant n are)
    (c.in_ok-push_block_if.ensures c.args.e
    (subst (AreContents c.args.e c.args.regulars.now) (sym c.deref.ensures.value) c.in_ok-contents.ensures))

pub returns : goal.returns
returns c = λ n are.
    blocks_whole c.args.e n c.loop-place.place c.args.regulars.now c.loop-place.heads.items are (omega arith)
    (c.loop-place.invariant n are)
