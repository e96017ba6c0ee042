use Rattle.std.proofs.Common.{◌≡◌, ◌++◌, flat_map, filter, take}
use Rattle.sp_llt.specs.Place.{label, labels}
use Rattle.sp_cert.specs.Order.{same_content}
use Rattle.sp_cert.specs.Texts.{block_line, column_text}
use Rattle.sp_cert.proofs.writing.put_block.Given as goal

abbrev pub invariant-loop-rank : goal.invariant-loop-rank
invariant-loop-rank l =
    l.out.items
    ≡ (l.fn.out.items ++ block_line l.ctx.e (label l.ctx l.leader)) ++
    flat_map (column_text l.ctx.e l.ctx.degree)
    (filter (same_content l.ctx.e (label l.ctx l.leader)) (take l.rank (labels l.ctx)))
