use Rattle.std.proofs.Common.{ap, arith}
use Rattle.sp_shapes.proofs.Corners.{addable_room}
use Rattle.sp_shapes.proofs.Degrees.{length-degree}
use Rattle.sp_ranks.specs.Moves.{Scope}
use Rattle.sp_ranks.specs.Ranks.{partition_at}
use Rattle.sp_ranks.proofs.Overs.{partition_there}
use Rattle.sp_ranks.proofs.moves.Moves.grown.Goals as goal

pub bounds-index-from : goal.bounds-index-from
bounds-index-from c =
    let p = partition_there c.args.n c.args.rank c.requires.rank in
    omega (
      arith,
      c.from-3.ensures,
      (addable_room (partition_at c.args.n c.args.rank) c.args.row c.requires.addable).there,
      length-degree (partition_at c.args.n c.args.rank) p.partition,
      p.total,
      c.requires.degree,
      ap (λ (scope : Scope). scope.degree) c.self.view_is,
      c.self.invariant.small,
    )
