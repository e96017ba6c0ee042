use Rattle.std.proofs.Common.{sym, ◌∙◌, ap, subst, length, get_or, arith}
use Rattle.std.specs.List.Sorted.{IsStrictlyIncreasing}
use Rattle.sp_pool.proofs.Ranks.{ranks_rise}
use Rattle.sp_pool.proofs.Searching.{stands_earlier}
use Rattle.sp_pool.proofs.table.Table.place_of.Goals as goal

pub place_in-requires-clause-rise : goal.place_in-requires-clause-rise
place_in-requires-clause-rise c =
    subst IsStrictlyIncreasing (sym (c.deref.ensures.value ∙ c.args.self.now.whole))
    (ranks_rise c.args.self.now.cells.key c.args.self.now.core)

pub returns-clause-earlier : goal.returns-clause-earlier
returns-clause-earlier c = λ later above.
    stands_earlier c.args.self.now.ranks.items
    (subst IsStrictlyIncreasing (sym c.args.self.now.whole)
    (ranks_rise c.args.self.now.cells.key c.args.self.now.core)) c.place_in.result later
    (omega (arith, c.place_in.ensures.within, ap length c.deref.ensures.value))
    (omega (
      arith,
      above.least,
      c.place_in.ensures.at,
      ap (λ ranks. get_or ranks c.place_in.result 0) c.deref.ensures.value,
    ))
