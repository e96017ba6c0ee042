use Rattle.std.proofs.Common.{◌≡◌, ◌<◌, length, slice_get, refl, sym, ◌∙◌, ap, arith, length-set}
use Rattle.std.proofs.Common.{vec_capacity}
use Rattle.std.proofs.lemmas.Option.{slice_get_read}
use Rattle.std.specs.declared.option.Option.TheVariants.{Some}
use Rattle.sp_core.specs.declared.machine.RowState.{RowState}
use Rattle.sp_core.specs.declared.machine.RowState.TheVariants.{Taken, Lost}
use Rattle.sp_board.specs.declared.stored.Stored.TheVariants.{Lose}
use Rattle.sp_board.specs.Kept.{pieces_of}
use Rattle.sp_board.specs.Table.{Table, mark_at}
use Rattle.sp_board.proofs.Runs.{lose_extends, room_to_end}
use Rattle.sp_board.proofs.Boards.{holds_on, mark_is, stores}
use Rattle.sp_board.proofs.board.Board.lose.Goals as goal

pub push_reserved-requires : goal.push_reserved-requires
push_reserved-requires g c =
    let v = c.self.inside in
    let row = c.row-row.result in
    let w = c.worker-w.result in
    let within : row < length v.marks.items = omega arith in
    let read = slice_get_read v.marks.items (length v.marks.items) row c.index-state.result.now refl within
    c.index-state.ensures in
    let mine : slice_get v.marks.items row ≡ Some (Taken w) =
    read ∙ ap (λ (r : RowState). Some r) c.if-not-is_taken_by.ensures in
    let room = room_to_end v.workers v.next (vec_capacity v.history) v.marks.items v.history.items w row
    c.self.invariant.is_run mine c.self.invariant.reserved in
    omega (arith, room)

pub invariant_of-self : goal.invariant_of-self
invariant_of-self g c =
    let v = c.self.inside in
    let row = c.row-row.result in
    let w = c.worker-w.result in
    let within : row < length v.marks.items = omega arith in
    let read = slice_get_read v.marks.items (length v.marks.items) row c.index-state.result.now refl within
    c.index-state.ensures in
    let mine : slice_get v.marks.items row ≡ Some (Taken w) =
    read ∙ ap (λ (r : RowState). Some r) c.if-not-is_taken_by.ensures in
    let x = lose_extends v.workers v.next v.marks.items v.history.items w row c.self.invariant.is_run mine in
    let holds = holds_on g.T.Piece.key g.T.Piece.number v.key v.marks.items (pieces_of v.slots.items) row Lost (λ e. cc)
    c.self.invariant.holds in
    let same = length-set v.marks.items row Lost in
    rw c.push_reserved.ensures.items (record {
      is_run = x.longer;
      holds = holds;
      reserved = omega (arith, c.self.invariant.reserved, same, c.push_reserved.ensures.capacity);
    })

pub returns : goal.returns
returns g c =
    let v = c.self.inside in
    let row = c.row-row.result in
    let w = c.worker-w.result in
    let run = c.self.invariant.is_run in
    let within : row < length v.marks.items = omega arith in
    let read = slice_get_read v.marks.items (length v.marks.items) row c.index-state.result.now refl within
    c.index-state.ensures in
    let mine : slice_get v.marks.items row ≡ Some (Taken w) =
    read ∙ ap (λ (r : RowState). Some r) c.if-not-is_taken_by.ensures in
    let x = lose_extends v.workers v.next v.marks.items v.history.items w row run mine in
    let old = pieces_of v.slots.items in
    let stored = stores v.key v.workers v.next v.next v.marks.items v.history.items c.push_reserved.new.self.items old
    old c.args.self.now.pieces row Lost (Lose w row) c.args.self.now c.self.view_is c.push_reserved.ensures.items
    (ap (λ (t : Table _). t.pieces) (sym c.self.view_is)) run (λ j done. refl) x in
    let own : mark_at c.args.self.now row ≡ Some (Taken w) =
    rw (← c.self.view_is) (mark_is v.key v.workers v.next v.marks.items v.history.items old row run ∙ mine) in
    rw (← c.worker-w.ensures, ← c.row-row.ensures) (record {
      same = c.into_seat-seat.ensures ∙ sym c.worker-w.ensures;
      own = own;
      stores = stored;
    })
