use Rattle.std.proofs.Common.{rules, ◌≤◌}
use Rattle.sp_fock_law.specs.Joined.{joined}
use Rattle.sp_fock_law.specs.Tally.{constants}
use Rattle.sp_fock.specs.Growth.{grown_to}
use Rattle.sp_fock.specs.Sum.{AllFit}
use Rattle.sp_fock.proofs.Growing.{head_fits, rest_fits, all_fit}
use Rattle.sp_fock.proofs.totals.totals_fit.Goals as goal

pub returns-then-not-fits : goal.returns-then-not-fits
returns-then-not-fits c =
    let fits : AllFit c.args.factor c.args.limit (joined (constants c.args.totals.now) c.args.terms.now)
    → grown_to c.args.factor c.in-Some.growth ≤ c.args.limit = λ h.
    head_fits c.args.factor c.in-Some.growth _ _ c.in-Some.ensures.steps c.args.limit (c.loop-growth.invariant.2.1 h) in
    search rules

pub loop-growth-preserved : goal.loop-growth-preserved
loop-growth-preserved c =
    let fits : grown_to c.args.factor c.in-Some.growth ≤ c.args.limit = search rules in (
      tt,
      tt,
      (
        (λ h. c.loop-growth.invariant.2.0 (all_fit c.args.factor c.in-Some.growth _ _ c.in-Some.ensures.steps
            c.args.limit fits h)),
        (λ h. rest_fits c.args.factor c.in-Some.growth _ _ c.in-Some.ensures.steps c.args.limit
            (c.loop-growth.invariant.2.1 h)),
      ),
    )
