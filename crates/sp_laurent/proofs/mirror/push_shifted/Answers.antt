use Rattle.std.proofs.Common.{rules, ◌++◌, ◌∷◌, [], pos, take, get_or, ◌∙◌, sym, ap, ap₂, ◌+ℤ◌, ◌≤◌, arith}
use Rattle.std.proofs.Common.{SFits, w32, to_z, of_z, to_z-of_z, append_assoc}
use Rattle.std.specs.Int.{w128}
use Rattle.std.specs.Int.RustNames.{unsigned_abs}
use Rattle.std.proofs.lemmas.Int.{fits_signed_from_abs}
use Rattle.std.proofs.lemmas.List.{take_more, map-append}
use Rattle.sp_defs.specs.Laurent.{Term}
use Rattle.sp_lists.proofs.Places.{all_at}
use Rattle.sp_algebra.proofs.Canonical.{shifted}
use Rattle.sp_laurent.specs.Held.{power_limit}
use Rattle.sp_laurent.proofs.Machine.{add_fits, add_back}
use Rattle.sp_laurent.proofs.mirror.push_shifted.Goals as goal

pub overflow_add-power : goal.overflow_add-power
overflow_add-power c =
    let t = get_or c.args.terms.now c.loop-place.place-index (pos 0, pos 0) in
    let fits : SFits w32 t.0 = search rules in
    let within = all_at
    (λ u. unsigned_abs (c.args.power +ℤ u.0) ≤ power_limit) c.args.terms.now c.loop-place.place-index
    (pos 0, pos 0) c.requires.0 c.loop-place-test.true in
    let sum_fits = fits_signed_from_abs w32 (c.args.power +ℤ t.0) (omega (arith, within)) in
    add_fits w32 c.args.power t.0 c.ranges.power fits sum_fits

pub loop-place-preserved : goal.loop-place-preserved
loop-place-preserved c =
    let t = get_or c.args.terms.now c.loop-place.place-index (pos 0, pos 0) in
    let fits : SFits w32 t.0 = search rules in
    let within = all_at
    (λ u. unsigned_abs (c.args.power +ℤ u.0) ≤ power_limit) c.args.terms.now c.loop-place.place-index
    (pos 0, pos 0) c.requires.0 c.loop-place-test.true in
    let sum_fits = fits_signed_from_abs w32 (c.args.power +ℤ t.0) (omega (arith, within)) in
    let coefficient_fits : SFits w128 t.1 = search rules in
    let k = to_z w32 (of_z w32 c.args.power) in
    let sum = add_back w32 c.args.power t.0 c.ranges.power fits sum_fits
    ∙ ap (λ x. x +ℤ t.0) (sym (to_z-of_z c.ranges.power)) in
    let before = take c.loop-place.place-index c.args.terms.now in
    c.in_ok-push.ensures.items ∙ ap₂ (λ j a. c.loop-place.out.items ++ ((j, a) ∷ [])) sum (to_z-of_z coefficient_fits)
    ∙ ap (λ p. p ++ ((k +ℤ t.0, t.1) ∷ [])) c.loop-place.invariant
    ∙ append_assoc c.args.out.now.items (shifted k before) ((k +ℤ t.0, t.1) ∷ [])
    ∙ ap (λ p. c.args.out.now.items ++ p)
    (sym (map-append (λ (u : Term). (k +ℤ u.0, u.1)) before (t ∷ []))
    ∙ ap (shifted k) (sym (take_more c.args.terms.now c.loop-place.place-index (pos 0, pos 0) c.loop-place-test.true)))
