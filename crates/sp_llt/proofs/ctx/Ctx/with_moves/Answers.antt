use Rattle.sp_llt.proofs.Places.{context_of}
use Rattle.sp_llt.proofs.ctx.Ctx.with_moves.Goals as goal

pub invariant_of-result : goal.invariant_of-result
invariant_of-result c =
    context_of c.args.key c.in_ok-all.all.items c.deref.result.now c.in_ok-regulars.regulars.items
    c.in_ok-regulars.places.items c.args.moves c.requires.key c.requires.moves c.in_ok-all.ensures.list
    c.deref.ensures.value c.in_ok-regulars.ensures.regulars c.in_ok-regulars.ensures.places
