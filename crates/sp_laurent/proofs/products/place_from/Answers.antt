use Rattle.std.proofs.Common.{rules, ◌≤ℤ◌, get_or, pos, arith, SFits, w32}
use Rattle.std.proofs.lemmas.Int.{ints}
use Rattle.sp_algebra.proofs.Canonical.{canonical-from}
use Rattle.sp_laurent.proofs.Placing.{high_from}
use Rattle.sp_laurent.proofs.products.place_from.Goals as goal

pub returns-else-terms-place-clause-high : goal.returns-else-terms-place-clause-high
returns-else-terms-place-clause-high c =
    let terms = c.args.terms.now in
    let t = get_or terms c.loop-place.place (pos 0, pos 0) in
    let fits : SFits w32 t.0 = search rules in
    let reached : c.args.power ≤ℤ t.0 = omega (arith, ints, c.if-terms-place.false) in
    high_from terms c.loop-place.place (pos 0, pos 0) c.args.power (canonical-from terms c.requires.laurent)
    c.loop-place-test.true reached
