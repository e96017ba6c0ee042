-- The marks are the signature of the partition at hand, so what is found there are its moves.
use Rattle.std.proofs.Common.{◌+◌, ◌<◌, ◌∙◌, length, refl, sym, ap, subst, arith, pos}
use Rattle.sp_defs.specs.Partition.{partitions}
use Rattle.sp_power_law.specs.Runs.{arrivals}
use Rattle.sp_power.proofs.Found.{found_all}
use Rattle.sp_ranks.specs.Ranks.{partition_at}
use Rattle.sp_ranks.specs.Arrivals.{arrivals_at}
use Rattle.sp_ranks.proofs.Sources.{marks_at, grows_at, found_next}
use Rattle.sp_ranks.proofs.walk.all_moves.Goals as goal

pub push_moves-requires-clause-grows : goal.push_moves-requires-clause-grows
push_moves-requires-clause-grows c =
    let n = c.degree-n.result in
    let rank = c.rank-rank.result in
    let there = subst (λ k. rank < length (partitions k)) (sym c.degree-n.ensures.value) c.rank-rank.ensures.there in
    grows_at c.args.e c.args.i n rank c.deref.result.now c.requires.e_least there
    (marks_at c.args.e c.args.moves.now.e c.args.i n rank c.deref.result.now c.marks-marks.result.items
    c.requires.residues c.marks-marks.ensures c.deref.ensures.0)

pub loop-source-preserved : goal.loop-source-preserved
loop-source-preserved c =
    let n = c.degree-n.result in
    let rank = c.rank-rank.result in
    let there = subst (λ k. rank < length (partitions k)) (sym c.degree-n.ensures.value) c.rank-rank.ensures.there in
    record {
      found = found_next c.args.e c.args.i c.args.m n c.loop-source.source c.args.v.now.entries c.deref.result.now
          (record { rank = rank; difference = pos 0; exponent = pos 0 }) c.loop-source.found.items
          c.push_moves.new.found.items (omega (arith, c.loop-source-test.true, c.count-source-end.ensures.value))
          (ap (λ k. partition_at k rank) c.degree-n.ensures.value ∙ c.rank-rank.ensures.partition)
          (marks_at c.args.e c.args.moves.now.e c.args.i n rank c.deref.result.now c.marks-marks.result.items
          c.requires.residues c.marks-marks.ensures c.deref.ensures.0) refl refl
          c.in_ok-push_moves.ensures.found c.loop-source.invariant.found;
      there = c.in_ok-push_moves.ensures.there c.loop-source.invariant.there;
    }

pub returns-clause-found : goal.returns-clause-found
returns-clause-found c =
    ap (λ k. arrivals_at (k + c.args.m) c.loop-source.found.items) (sym c.degree-n.ensures.value)
    ∙ found_all c.args.e c.args.i c.args.m c.loop-source.source c.args.v.now.entries
    (arrivals_at (c.degree-n.result + c.args.m) c.loop-source.found.items)
    (arrivals c.args.e c.args.i c.args.m 0 c.args.v.now.entries)
    (omega (arith, c.loop-source-test.false, c.count-source-end.ensures.value)) c.loop-source.invariant.found
