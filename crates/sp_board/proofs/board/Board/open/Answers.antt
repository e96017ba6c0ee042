use Rattle.sp_board.proofs.Boards.{opening_kept}
use Rattle.sp_board.proofs.board.Board.open.Goals as goal

pub invariant_of-board : goal.invariant_of-board
invariant_of-board g c =
    rw (c.in_ok-marks.ensures.items_if_clones_equal (λ y e. e), c.in_ok-history.ensures.items, c.in_ok-slots.ensures)
    (opening_kept g.T.Piece.key g.T.Piece.number c.args.key c.args.workers c.args.rows _
    c.in_ok-history.ensures.capacity)
