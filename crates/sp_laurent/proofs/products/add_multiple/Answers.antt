use Rattle.std.proofs.Common.{rules, ◌<◌, ◌+◌, ◌≤◌, ◌^◌, pos, take, ◌+ℤ◌, ◌*ℤ◌, ◌<ℤ◌, ◌≤ℤ◌, get_or, w32, arith, sym}
use Rattle.std.proofs.Common.{◌∙◌, ap₂, subst, subst₂, SFits}
use Rattle.std.specs.Int.{w128}
use Rattle.std.specs.Int.RustNames.{unsigned_abs}
use Rattle.std.proofs.lemmas.Int.{fits_signed_from_abs}
use Rattle.std.specs.List.{AllByRecursion}
use Rattle.sp_defs.specs.Laurent.{IsLaurent, add_term, size}
use Rattle.sp_lists.proofs.Places.{all_at}
use Rattle.sp_algebra.proofs.Canonical.{canonical-from}
use Rattle.sp_laurent.specs.Held.{power_limit}
use Rattle.sp_laurent.proofs.Machine.{small_fits, add_back, mul_fits, mul_back}
use Rattle.sp_laurent.proofs.Multiple.{adding_laurent, adding_fits, adding_more, adding_all}
use Rattle.sp_laurent.proofs.products.add_multiple.Goals as goal

pub place_from-place-requires-clause-laurent : goal.place_from-place-requires-clause-laurent
place_from-place-requires-clause-laurent c =
    subst IsLaurent (sym c.deref.ensures.value) (adding_laurent _ _ _ _ _ _ (pos 0, pos 0) c.loop-power.invariant)

pub place_from-place-requires-clause-low : goal.place_from-place-requires-clause-low
place_from-place-requires-clause-low c =
    let t = get_or c.args.others.now c.loop-power.power-index (pos 0, pos 0) in
    let k_fits : SFits w32 c.args.term.0 = search rules in
    let j_fits : SFits w32 t.0 = search rules in
    let within = all_at
    (λ u. unsigned_abs (c.args.term.0 +ℤ u.0) ≤ power_limit) c.args.others.now c.loop-power.power-index
    (pos 0, pos 0) c.requires.within.0 c.loop-power-test.true in
    let power = add_back w32 c.args.term.0 t.0 k_fits j_fits
    (fits_signed_from_abs w32 (c.args.term.0 +ℤ t.0) (omega (arith, within))) in
    subst₂ (λ j p. AllByRecursion (λ u. u.0 <ℤ j) (take c.loop-power.place p)) (sym power) (sym c.deref.ensures.value)
    (c.loop-power.invariant.low c.loop-power.power-index (pos 0, pos 0) (omega arith) c.loop-power-test.true)

pub overflow_mul-term : goal.overflow_mul-term
overflow_mul-term c =
    let t = get_or c.args.others.now c.loop-power.power-index (pos 0, pos 0) in
    let fits : SFits w128 c.args.term.1 = search rules in
    let other_fits : SFits w128 t.1 = search rules in
    let small = adding_fits _ _ _ _ _ _ (pos 0, pos 0) c.loop-power.invariant
    (2 ^ 127) c.loop-power-test.true c.requires.fits in
    mul_fits w128 c.args.term.1 t.1 fits other_fits (small_fits (c.args.term.1 *ℤ t.1) (omega (arith, small)))

pub add_at-requires-clause-laurent : goal.add_at-requires-clause-laurent
add_at-requires-clause-laurent c = adding_laurent _ _ _ _ _ _ (pos 0, pos 0) c.loop-power.invariant

pub add_at-requires-clause-fits : goal.add_at-requires-clause-fits
add_at-requires-clause-fits c =
    let t = get_or c.args.others.now c.loop-power.power-index (pos 0, pos 0) in
    let fits : SFits w128 c.args.term.1 = search rules in
    let other_fits : SFits w128 t.1 = search rules in
    let small = adding_fits _ _ _ _ _ _ (pos 0, pos 0) c.loop-power.invariant
    (2 ^ 127) c.loop-power-test.true c.requires.fits in
    let back = mul_back w128 c.args.term.1 t.1 fits other_fits
    (small_fits (c.args.term.1 *ℤ t.1) (omega (arith, small))) in
    subst (λ x. size c.loop-power.terms.items + unsigned_abs x < 2 ^ 127) (sym back) small

pub loop-power-preserved : goal.loop-power-preserved
loop-power-preserved c =
    let t = get_or c.args.others.now c.loop-power.power-index (pos 0, pos 0) in
    let k_fits : SFits w32 c.args.term.0 = search rules in
    let j_fits : SFits w32 t.0 = search rules in
    let fits : SFits w128 c.args.term.1 = search rules in
    let other_fits : SFits w128 t.1 = search rules in
    let small = adding_fits _ _ _ _ _ _ (pos 0, pos 0) c.loop-power.invariant
    (2 ^ 127) c.loop-power-test.true c.requires.fits in
    let within = all_at
    (λ u. unsigned_abs (c.args.term.0 +ℤ u.0) ≤ power_limit) c.args.others.now c.loop-power.power-index
    (pos 0, pos 0) c.requires.within.0 c.loop-power-test.true in
    let power = add_back w32 c.args.term.0 t.0 k_fits j_fits
    (fits_signed_from_abs w32 (c.args.term.0 +ℤ t.0) (omega (arith, within))) in
    let coefficient = mul_back w128 c.args.term.1 t.1 fits other_fits
    (small_fits (c.args.term.1 *ℤ t.1) (omega (arith, small))) in
    let added = c.in_ok-place.ensures.added
    ∙ ap₂ (λ k a. add_term k a c.loop-power.terms.items) power coefficient in
    let low = subst (λ k. AllByRecursion (λ u. u.0 ≤ℤ k) (take c.in_ok-place.place c.add_at.new.terms.items)) power
    c.in_ok-place.ensures.low in
    adding_more _ _ _ _ _ _ (pos 0, pos 0) c.loop-power.invariant c.add_at.new.terms.items c.in_ok-place.place
    c.loop-power-test.true (canonical-from c.args.others.now c.requires.others_laurent) added
    c.in_ok-place.ensures.behind low

pub returns : goal.returns
returns c =
    adding_all c.args.terms.now.items c.args.term c.args.others.now c.loop-power.terms.items c.loop-power.place
    c.loop-power.power-index c.loop-power-test.false c.loop-power.invariant
