use Rattle.std.proofs.Common.{◌<◌, ◌^◌, sym, subst, rules, arith, SFits, to_z-of_z}
use Rattle.std.specs.Int.{w128}
use Rattle.std.specs.Int.RustNames.{unsigned_abs}
use Rattle.sp_algebra.proofs.Values.{value_le_size}
use Rattle.sp_cartan.proofs.characters.value_of.Goals as goal

pub monomial-requires-clause-small : goal.monomial-requires-clause-small
monomial-requires-clause-small c =
    let fits : SFits w128 c.at_one.result = search rules in
    let small : unsigned_abs c.at_one.result < 2 ^ 127 = subst (λ x. unsigned_abs x < 2 ^ 127) (sym c.at_one.ensures)
    (omega (arith, value_le_size c.args.p.now, c.size-held.ensures.held.small)) in
    subst (λ x. unsigned_abs x < 2 ^ 127) (sym (to_z-of_z fits)) small
