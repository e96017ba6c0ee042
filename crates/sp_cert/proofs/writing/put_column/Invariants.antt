use Rattle.std.proofs.Common.{◌≡◌, ◌++◌, flat_map, take, drop, reverse}
use Rattle.sp_llt.specs.Place.{label}
use Rattle.sp_cert.specs.Texts.{column_line, share_line, entry_line}
use Rattle.sp_cert.proofs.writing.put_column.Given as goal

abbrev pub invariant-loop-place : goal.invariant-loop-place
invariant-loop-place l =
    l.out.items
    ≡ (l.fn.out.items ++ column_line (label l.ctx l.entry.rank)) ++
    flat_map (share_line l.ctx.e l.ctx.degree) (take l.place l.shares)

abbrev pub invariant-loop-place-2 : goal.invariant-loop-place-2
invariant-loop-place-2 l = l.out.items ≡ l.initial.out.items ++ flat_map entry_line (reverse (drop l.place l.pairs))
