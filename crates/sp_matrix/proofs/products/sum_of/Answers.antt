use Rattle.std.proofs.Common.{◌≡◌, ◌+◌, ◌-◌, ◌*◌, ◌≤◌, take, get_or, refl, sym, ◌∙◌, ap, ap₂, subst, pos, arith, rules}
use Rattle.std.proofs.Common.{SFits, to_z-of_z}
use Rattle.std.specs.Int.{w128}
use Rattle.std.specs.Int.RustNames.{unsigned_abs}
use Rattle.sp_laurent.proofs.Slopes.{slope-nought, slope_weight, slope_fits, slope_next}
use Rattle.sp_matrix.proofs.products.sum_of.Goals as goal

pub loop-factor-init : goal.loop-factor-init
loop-factor-init c = (sym slope-nought, omega arith)

pub overflow_add-sum : goal.overflow_add-sum
overflow_add-sum c =
    let t = get_or c.args.products.now c.loop-factor.factor-index (pos 0, pos 0) in
    let factor_fits : SFits w128 t.0 = search rules in
    let value_fits : SFits w128 t.1 = search rules in
    let weight : c.in-Some.weight ≡ unsigned_abs t.0 * unsigned_abs t.1 =
    c.in-Some.ensures.1
    ∙ ap₂ (λ x y. x * y) (c.unsigned_abs.ensures.value ∙ ap unsigned_abs (to_z-of_z factor_fits))
    (c.unsigned_abs-in-loop-factor.ensures.value ∙ ap unsigned_abs (to_z-of_z value_fits)) in
    slope_fits c.args.products.now c.loop-factor.factor-index (pos 0, pos 0) c.loop-factor-test.true _ t.0
    c.loop-factor.room c.args.limit c.loop-factor.invariant.0 c.loop-factor.invariant.1 c.requires
    (subst (λ w. w ≤ c.loop-factor.room) weight c.if-weight-room.true) refl factor_fits value_fits

pub loop-factor-preserved : goal.loop-factor-preserved
loop-factor-preserved c =
    let t = get_or c.args.products.now c.loop-factor.factor-index (pos 0, pos 0) in
    let factor_fits : SFits w128 t.0 = search rules in
    let value_fits : SFits w128 t.1 = search rules in
    let weight : c.in-Some.weight ≡ unsigned_abs t.0 * unsigned_abs t.1 =
    c.in-Some.ensures.1
    ∙ ap₂ (λ x y. x * y) (c.unsigned_abs.ensures.value ∙ ap unsigned_abs (to_z-of_z factor_fits))
    (c.unsigned_abs-in-loop-factor.ensures.value ∙ ap unsigned_abs (to_z-of_z value_fits)) in
    let next = slope_next c.args.products.now c.loop-factor.factor-index (pos 0, pos 0) c.loop-factor-test.true _ t.0
    c.loop-factor.room c.args.limit c.loop-factor.invariant.0 c.loop-factor.invariant.1 c.requires
    (subst (λ w. w ≤ c.loop-factor.room) weight c.if-weight-room.true) refl factor_fits value_fits in (
      next.0,
      subst
          (λ w. slope_weight (take (c.loop-factor.factor-index + 1) c.args.products.now) + (c.loop-factor.room - w)
          ≡ c.args.limit) (sym weight) next.1,
    )
