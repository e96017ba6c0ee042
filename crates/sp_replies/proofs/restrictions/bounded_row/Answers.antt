use Rattle.sp_defs.specs.Row.{regular_row}
use Rattle.sp_llt.specs.Place.{label}
use Rattle.sp_replies.proofs.BranchedRows.{bounded}
use Rattle.sp_replies.proofs.restrictions.bounded_row.Goals as goal

pub returns-clause-powers : goal.returns-clause-powers
returns-clause-powers c =
    bounded c.args.entry.now c.args.entry.now.key.degree
    (regular_row c.args.entry.now.key.e (label c.args.entry.now.key c.args.entry.now.rank)) c.row.result
    c.regular_row-within.result c.mu-held.ensures.held c.row.ensures.outcome c.row.ensures.row
    c.regular_row-within.ensures.none
    c.regular_row-within.ensures.some c.regular_row-within.ensures.law
