use Rattle.std.proofs.Common.{◌++◌, take, drop, length, ◌-◌, pos, rules, ◌∙◌, ap, arith, ◌≡◌, ◌≢◌, get_or, to_z-of_z}
use Rattle.std.proofs.Common.{SFits, w32, of_z}
use Rattle.std.specs.Int.{w128}
use Rattle.std.proofs.lemmas.Int.{ints}
use Rattle.sp_defs.specs.Laurent.{monomial}
use Rattle.sp_algebra.proofs.Canonical.{canonical-from}
use Rattle.sp_laurent.proofs.Merging.{first_there, rest_above, all_above_other}
use Rattle.sp_laurent.proofs.sums.split_first.Goals as goal

pub returns-then-first-power-clause-joined : goal.returns-then-first-power-clause-joined
returns-then-first-power-clause-joined c =
    let terms = c.args.terms.now in
    let first = get_or terms 0 (pos 0, pos 0) in
    let fits : SFits w32 first.0 = search rules in
    let coefficient_fits : SFits w128 first.1 = search rules in
    let same : first.0 ≡ c.args.power = omega (arith, ints, c.if-first-power.true) in
    ap (λ d. monomial c.args.power d ++ take (length terms - 1) (drop 1 terms)) (to_z-of_z coefficient_fits)
    ∙ first_there terms c.args.power (pos 0, pos 0)
    (canonical-from terms c.requires.laurent) c.in-len1-up.len_at_least same

pub returns-then-first-power-clause-above : goal.returns-then-first-power-clause-above
returns-then-first-power-clause-above c =
    let terms = c.args.terms.now in
    let first = get_or terms 0 (pos 0, pos 0) in
    let fits : SFits w32 first.0 = search rules in
    let same : first.0 ≡ c.args.power = omega (arith, ints, c.if-first-power.true) in
    rest_above terms c.args.power (pos 0, pos 0)
    (canonical-from terms c.requires.laurent) c.in-len1-up.len_at_least same

pub returns-else-first-power-clause-above : goal.returns-else-first-power-clause-above
returns-else-first-power-clause-above c =
    let terms = c.args.terms.now in
    let other : (get_or terms 0 (pos 0, pos 0)).0 ≢ c.args.power = λ same. c.if-first-power.false
    (ap (of_z w32) same) in
    all_above_other terms c.args.power (pos 0, pos 0)
    (canonical-from terms c.requires.laurent) c.in-len1-up.len_at_least c.requires.above other
