use Rattle.std.proofs.Common.{rules, ◌≡◌, ◌+◌, ◌-◌, ◌<◌, ◌≤◌, take, get_or, refl, sym, ◌∙◌, subst, pos, arith}
use Rattle.std.proofs.Common.{SFits, to_z-of_z, w32}
use Rattle.std.specs.Int.{w128}
use Rattle.sp_laurent.proofs.Slopes.{slope-nought, slope_weight, weight_is, weight_passes, slope_fits, slope_next}
use Rattle.sp_laurent.proofs.values.slope_of.Goals as goal

pub loop-power-init : goal.loop-power-init
loop-power-init c = (sym slope-nought, omega arith)

pub returns-in_default-clause-too_large : goal.returns-in_default-clause-too_large
returns-in_default-clause-too_large c =
    let t = get_or c.args.terms.now c.loop-power.power-index (pos 0, pos 0) in
    let power_fits : SFits w32 t.0 = search rules in
    let fits : SFits w128 t.1 = search rules in
    let weight = weight_is t power_fits fits (c.from.ensures ∙ c.unsigned_abs.ensures.value)
    c.unsigned_abs-in-loop-power.ensures.value c.in-Some.ensures.1 in (
      (λ _. weight_passes c.args.terms.now c.loop-power.power-index (pos 0, pos 0) c.loop-power.room c.args.limit
          c.loop-power-test.true c.loop-power.invariant.1
          (subst (λ w. c.loop-power.room < w) weight c.if-weight-room.false)),
      (λ _. refl),
    )

pub overflow_add-slope : goal.overflow_add-slope
overflow_add-slope c =
    let t = get_or c.args.terms.now c.loop-power.power-index (pos 0, pos 0) in
    let power_fits : SFits w32 t.0 = search rules in
    let read_fits : SFits w128 c.from-in-loop-power.result = search rules in
    let fits : SFits w128 t.1 = search rules in
    let weight = weight_is t power_fits fits (c.from.ensures ∙ c.unsigned_abs.ensures.value)
    c.unsigned_abs-in-loop-power.ensures.value c.in-Some.ensures.1 in
    slope_fits c.args.terms.now c.loop-power.power-index (pos 0, pos 0) c.loop-power-test.true _ _
    c.loop-power.room c.args.limit c.loop-power.invariant.0 c.loop-power.invariant.1 c.requires
    (subst (λ w. w ≤ c.loop-power.room) weight c.if-weight-room.true)
    (c.from-in-loop-power.ensures ∙ to_z-of_z power_fits) read_fits fits

pub loop-power-preserved : goal.loop-power-preserved
loop-power-preserved c =
    let t = get_or c.args.terms.now c.loop-power.power-index (pos 0, pos 0) in
    let power_fits : SFits w32 t.0 = search rules in
    let read_fits : SFits w128 c.from-in-loop-power.result = search rules in
    let fits : SFits w128 t.1 = search rules in
    let weight = weight_is t power_fits fits (c.from.ensures ∙ c.unsigned_abs.ensures.value)
    c.unsigned_abs-in-loop-power.ensures.value c.in-Some.ensures.1 in
    let next = slope_next c.args.terms.now c.loop-power.power-index (pos 0, pos 0) c.loop-power-test.true _ _
    c.loop-power.room c.args.limit c.loop-power.invariant.0 c.loop-power.invariant.1 c.requires
    (subst (λ w. w ≤ c.loop-power.room) weight c.if-weight-room.true)
    (c.from-in-loop-power.ensures ∙ to_z-of_z power_fits) read_fits fits in (
      next.0,
      subst (λ w. slope_weight (take (c.loop-power.power-index + 1) c.args.terms.now) + (c.loop-power.room - w)
          ≡ c.args.limit) (sym weight) next.1,
    )
