-- What has the residue among the corners of the partition is its signature.
use Rattle.std.proofs.Common.{◌∙◌, ap, arith, filter, map, nat_eq}
use Rattle.sp_defs.specs.Signature.{signature}
use Rattle.sp_nodes.specs.Marks.{mark_of}
use Rattle.sp_shapes.proofs.Degrees.{length-degree}
use Rattle.sp_ranks.specs.Moves.{Scope}
use Rattle.sp_ranks.specs.Ranks.{partition_at}
use Rattle.sp_ranks.proofs.Overs.{partition_there}
use Rattle.sp_ranks.proofs.Signatures.{corners_at, few_of, marks_map, signature_of}
use Rattle.sp_ranks.proofs.moves.Moves.marks.Goals as goal

pub marks_among-requires : goal.marks_among-requires
marks_among-requires c =
    let are = corners_at (record { e = c.self.inside.e; degree = c.self.inside.degree }) c.self.inside.gains.items
    c.self.inside.corners.items c.args.n c.args.rank c.from.result c.from-2.result c.index.result.now
    c.index-2.result.now c.deref.result.now c.self.invariant
    (omega (arith, c.requires.degree, ap (λ (scope : Scope). scope.degree) c.self.view_is)) c.requires.rank
    c.from.ensures c.index.ensures c.from-2.ensures c.index-2.ensures c.deref.ensures.value in
    let p = partition_there c.args.n c.args.rank c.requires.rank in
    omega (
      arith,
      few_of c.self.inside.e c.args.i (partition_at c.args.n c.args.rank) c.deref.result.now c.self.invariant.e_least
          are,
      length-degree (partition_at c.args.n c.args.rank) p.partition,
      p.total,
      c.requires.degree,
      ap (λ (scope : Scope). scope.degree) c.self.view_is,
      c.self.invariant.small,
    )

pub returns : goal.returns
returns c =
    let are = corners_at (record { e = c.self.inside.e; degree = c.self.inside.degree }) c.self.inside.gains.items
    c.self.inside.corners.items c.args.n c.args.rank c.from.result c.from-2.result c.index.result.now
    c.index-2.result.now c.deref.result.now c.self.invariant
    (omega (arith, c.requires.degree, ap (λ (scope : Scope). scope.degree) c.self.view_is)) c.requires.rank
    c.from.ensures c.index.ensures c.from-2.ensures c.index-2.ensures c.deref.ensures.value in
    ap (map mark_of) c.marks_among.ensures
    ∙ marks_map (filter (λ s. nat_eq s.residue c.args.i) c.deref.result.now)
    ∙ signature_of c.self.inside.e c.args.i (partition_at c.args.n c.args.rank) c.deref.result.now are
    ∙ ap (λ (scope : Scope). signature scope.e c.args.i (partition_at c.args.n c.args.rank)) c.self.view_is
