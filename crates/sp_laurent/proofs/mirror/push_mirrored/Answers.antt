use Rattle.std.proofs.Common.{rules, ◌++◌, ◌∷◌, [], ◌∙◌, ap₂, neg_ℤ, arith, SFits, w32, to_z-of_z}
use Rattle.std.specs.Int.{w128}
use Rattle.std.proofs.lemmas.Int.{ints, fits_signed_from_abs}
use Rattle.sp_laurent.proofs.Machine.{neg_back, neg_fits}
use Rattle.sp_laurent.proofs.Mirroring.{last_within, turning_more, turning_all}
use Rattle.sp_laurent.proofs.mirror.push_mirrored.Goals as goal

pub overflow_sub-power : goal.overflow_sub-power
overflow_sub-power c =
    let t = c.in-Some.field-0.now in
    let fits : SFits w32 t.0 = search rules in
    let small = last_within _ _ _ _ _ t c.loop-power.invariant c.in-Some.ensures.steps in
    neg_fits w32 t.0 fits (fits_signed_from_abs w32 (neg_ℤ t.0) (omega (arith, ints, small)))

pub loop-power-preserved : goal.loop-power-preserved
loop-power-preserved c =
    let t = c.in-Some.field-0.now in
    let fits : SFits w32 t.0 = search rules in
    let coefficient_fits : SFits w128 t.1 = search rules in
    let small = last_within _ _ _ _ _ t c.loop-power.invariant c.in-Some.ensures.steps in
    let power = neg_back w32 t.0 fits (fits_signed_from_abs w32 (neg_ℤ t.0) (omega (arith, ints, small))) in
    turning_more _ _ _ _ _ t c.loop-power.invariant c.in-Some.ensures.steps c.push.new.self.items
    (c.in_ok-push.ensures.items ∙ ap₂ (λ k a. c.loop-power.out.items ++ ((k, a) ∷ [])) power
    (to_z-of_z coefficient_fits))

pub returns : goal.returns
returns c = turning_all _ _ _ _ c.in-None.ensures.steps.0 c.loop-power.invariant
