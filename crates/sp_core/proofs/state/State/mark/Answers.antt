use Rattle.std.proofs.Common.{◌≡◌, ◌∙◌, sym, ap, arith, List, slice_get, slice_set, refl, ◌<◌, length}
use Rattle.std.proofs.lemmas.List.{with_items_is}
use Rattle.std.proofs.lemmas.Option.{slice_get_read}
use Rattle.std.specs.Vec.{with_items}
use Rattle.std.specs.declared.option.Option.TheVariants.{Some}
use Rattle.sp_core.specs.declared.machine.RowState.{RowState}
use Rattle.sp_core.specs.declared.machine.WorkerState.{WorkerState}
use Rattle.sp_core.specs.declared.machine.WorkerState.TheVariants.{Busy, Free}
use Rattle.sp_core.specs.declared.machine.Answer.TheVariants.{Freed}
use Rattle.sp_core.specs.Machine.{world}
use Rattle.sp_core.proofs.state.State.mark.Goals as goal

-- the worker that was read is busy with the row that is written
pub returns : goal.returns
returns c =
    let workers = c.self.inside.workers.items in
    let rows = c.self.inside.rows in
    let within : c.args.w < length workers = omega arith in
    let read : slice_get workers c.args.w ≡ Some (Busy c.in-Busy.row c.in-Busy.last) =
    slice_get_read workers (length workers) c.args.w c.index.result.now refl within c.index.ensures
    ∙ ap (λ (x : WorkerState). Some x) c.in-Busy.is in
    let written : (with_items rows c.write_mark.new.rows).items ≡ slice_set rows.items c.in-Busy.row c.args.mark =
    with_items_is rows c.write_mark.new.rows (omega arith)
    ∙ c.write_mark.ensures
    ∙ ap (λ (r : List RowState). slice_set r c.in-Busy.row c.args.mark) c.deref_mut.ensures.value in
    rw (← c.self.view_is, read)
    (ap (λ (r : List RowState). Some (world r (slice_set workers c.args.w Free), Freed)) (sym written))
