use Rattle.std.proofs.Common.{◌+◌, ◌++◌, [], arith, subst, sym, ◌∙◌, ap, ap₂}
use Rattle.sp_lr.specs.Strips.{strips, Falls, all_gained, AreHeld, behind}
use Rattle.sp_lr.proofs.Rounds.{behind-nil}
use Rattle.sp_lr.proofs.RowsOf.{rows_fall, rows_gained, listed_held}
use Rattle.sp_lr.proofs.strips.strips.Goals as goal

pub push_strips-requires-clause-falls : goal.push_strips-requires-clause-falls
push_strips-requires-clause-falls c =
    subst (Falls (c.part.result + c.args.count)) (sym (c.as_slice.ensures.value ∙ c.rows-rows.ensures))
    (rows_fall c.args.before.now c.args.last.now (c.part.result + c.args.count) c.requires.room.held.partition
    (omega (arith, c.part.ensures.value)))

pub push_strips-requires-clause-spared : goal.push_strips-requires-clause-spared
push_strips-requires-clause-spared c =
    omega (
      arith,
      ap all_gained (c.as_slice.ensures.value ∙ c.rows-rows.ensures),
      rows_gained c.args.before.now c.args.last.now,
      c.requires.room.held.small,
      c.requires.room.spare_small,
    )

pub push_strips-requires-clause-held : goal.push_strips-requires-clause-held
push_strips-requires-clause-held c =
    subst (λ front. AreHeld front (strips c.as_slice.result.now (c.part.result
    + c.args.count) c.args.spare c.args.count))
    (sym c.new-front.ensures)
    (subst (AreHeld [])
    (sym (ap₂ (λ rows top. strips rows (top + c.args.count) c.args.spare c.args.count)
    (c.as_slice.ensures.value ∙ c.rows-rows.ensures) c.part.ensures.value))
    (listed_held c.args.before.now c.args.last.now c.args.spare c.args.count c.requires.room.held.partition
    c.requires.small))

pub returns : goal.returns
returns c =
    c.in_ok-push_strips.ensures.strips
    ∙ ap₂ (λ xs front. xs ++ behind front (strips c.as_slice.result.now (c.part.result + c.args.count) c.args.spare
    c.args.count)) c.new-list.ensures.items c.new-front.ensures
    ∙ behind-nil (strips c.as_slice.result.now (c.part.result + c.args.count) c.args.spare c.args.count)
    ∙ ap₂ (λ rows top. strips rows (top + c.args.count) c.args.spare c.args.count)
    (c.as_slice.ensures.value ∙ c.rows-rows.ensures) c.part.ensures.value
