use Rattle.std.proofs.Common.{◌<◌, length, arith, length-set}
use Rattle.sp_core.specs.declared.machine.RowState.TheVariants.{Taken}
use Rattle.sp_board.specs.Kept.{pieces_of}
use Rattle.sp_board.proofs.Runs.{claim_extends}
use Rattle.sp_board.proofs.Boards.{holds_on, claim_ends}
use Rattle.sp_board.proofs.board.Board.claim.Goals as goal

pub invariant_of-self : goal.invariant_of-self
invariant_of-self g c =
    let v = c.self.inside in
    let w = c.worker-w.result in
    let lt : v.next < length v.marks.items = omega arith in
    let idle = rw c.deref.ensures.value at c.if-takes.ensures in
    let x = claim_extends v.workers v.next v.marks.items v.history.items w c.self.invariant.is_run lt c.if-w-self.false
    idle in
    let holds = holds_on g.T.Piece.key g.T.Piece.number v.key v.marks.items (pieces_of v.slots.items) v.next (Taken w)
    (λ e. cc) c.self.invariant.holds in
    let same = length-set v.marks.items v.next (Taken w) in
    rw c.push_reserved.ensures.items (record {
      is_run = x.longer;
      holds = holds;
      reserved = omega (arith, c.self.invariant.reserved, same, c.push_reserved.ensures.capacity);
    })

pub returns : goal.returns
returns g c =
    let v = c.self.inside in
    let w = c.worker-w.result in
    let lt : v.next < length v.marks.items = omega arith in
    let idle = rw c.deref.ensures.value at c.if-takes.ensures in
    let h = claim_ends v.key v.workers v.next v.marks.items v.history.items c.push_reserved.new.self.items
    (pieces_of v.slots.items) w c.args.self.now c.self.view_is c.push_reserved.ensures.items
    c.self.invariant.is_run lt c.if-w-self.false idle in
    rw (c.new.ensures, ← c.worker-w.ensures) h
