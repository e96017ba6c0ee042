-- The marks are the signature of the pair at hand, so what is found there are its moves.
use Rattle.std.proofs.Common.{◌≡◌, ◌++◌, map, ◌∙◌, ap}
use Rattle.sp_defs.specs.Signature.{signature}
use Rattle.sp_nodes.specs.Marks.{mark_of}
use Rattle.sp_power.specs.Arrivals.{arrive_from}
use Rattle.sp_power.proofs.Found.{moves_are, grows_at, found_more, found_all}
use Rattle.sp_power.proofs.moves.all_moves.Goals as goal

pub push_moves-requires-clause-grows : goal.push_moves-requires-clause-grows
push_moves-requires-clause-grows c =
    let marks : map mark_of c.deref.result.now ≡ signature c.args.e c.args.i c.index-pairs-source.result.0 =
    ap (map mark_of) c.deref.ensures.0 ∙ c.marks-marks.ensures in
    grows_at c.args.e c.args.i c.args.m c.loop-source.source c.args.pairs.now c.index-pairs-source.result
    (map mark_of c.deref.result.now) c.from.result.partition c.requires.e_least c.loop-source-test.true c.requires.room
    c.index-pairs-source.is marks c.from.ensures.partition

pub loop-source-preserved : goal.loop-source-preserved
loop-source-preserved c =
    let marks : map mark_of c.deref.result.now ≡ signature c.args.e c.args.i c.index-pairs-source.result.0 =
    ap (map mark_of) c.deref.ensures.0 ∙ c.marks-marks.ensures in
    found_more c.args.e c.args.i c.args.m c.loop-source.source c.args.pairs.now c.index-pairs-source.result
    c.loop-source.found.items c.push_moves.new.arrivals.items _ c.loop-source-test.true c.index-pairs-source.is
    (c.in_ok-push_moves.ensures
    ∙ ap (λ l. c.loop-source.found.items ++ map (arrive_from c.loop-source.source) l)
    (moves_are c.args.e c.args.i c.args.m c.index-pairs-source.result.0 c.from.result.partition
    (map mark_of c.deref.result.now) c.from.result.difference c.from.result.exponent
    marks c.from.ensures.partition c.from.ensures.difference c.from.ensures.exponent))
    c.loop-source.invariant

pub returns : goal.returns
returns c =
    found_all c.args.e c.args.i c.args.m c.loop-source.source c.args.pairs.now c.loop-source.found.items _
    c.loop-source-test.false c.loop-source.invariant
