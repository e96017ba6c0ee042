use Rattle.std.proofs.Common.{◌≡◌, ◌++◌, flat_map, filter, take, not}
use Rattle.std.specs.List.{list_any}
use Rattle.sp_defs.specs.Row.{before}
use Rattle.sp_llt.specs.Place.{labels}
use Rattle.sp_cert.specs.Order.{same_content}
use Rattle.sp_cert.specs.Texts.{block_text}
use Rattle.sp_cert.proofs.writing.put_blocks.Given as goal

abbrev pub invariant-loop-rank : goal.invariant-loop-rank
invariant-loop-rank l =
    l.out.items
    ≡ l.fn.out.items ++
    flat_map (block_text l.ctx.e l.ctx.degree)
    (filter (λ mu. not (list_any (same_content l.ctx.e mu) (before mu (labels l.ctx)))) (take l.rank (labels l.ctx)))
