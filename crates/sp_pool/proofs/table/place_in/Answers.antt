use Rattle.sp_pool.proofs.Searching.{is_found, is_not_missed}
use Rattle.sp_pool.proofs.table.place_in.Goals as goal

pub returns-clause-at : goal.returns-clause-at
returns-clause-at c =
    (is_found c.args.numbers.now c.requires.rise c.args.number c.in-Ok.place c.in-Ok.ensures.position).1

pub unreachable-requires : goal.unreachable-requires
unreachable-requires c =
    is_not_missed c.args.numbers.now c.requires.rise c.args.number c.in-Err.field-0 c.requires.there
    c.in-Err.ensures.position
