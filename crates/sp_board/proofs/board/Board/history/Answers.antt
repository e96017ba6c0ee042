use Rattle.std.proofs.Common.{arith}
use Rattle.std.proofs.lemmas.List.Sums.{count_by-le-length}
use Rattle.sp_board.specs.History.{marks}
use Rattle.sp_board.specs.Kept.{is_settled}
use Rattle.sp_board.proofs.board.Board.history.Goals as goal

pub returns-clause-replays : goal.returns-clause-replays
returns-clause-replays g c =
    let v = c.self.inside in
    rw (← c.self.view_is) (marks v.marks.items v.next, c.self.invariant.is_run.replays)

pub returns-clause-run : goal.returns-clause-run
returns-clause-run g c = rw (← c.self.view_is) (c.self.invariant.is_run.world, c.self.invariant.is_run.runs)

pub returns-clause-bound : goal.returns-clause-bound
returns-clause-bound g c =
    let h = c.self.invariant.is_run in
    let most = count_by-le-length is_settled c.self.inside.marks.items in
    rw (← c.self.view_is) (omega (arith, h.count, h.within, most))
