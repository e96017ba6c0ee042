-- A unit has no power but 0, and a few nodes don't bring far ones.
use Rattle.std.proofs.Common.{ℕ, ◌≤◌, ◌+◌, ◌*◌, ap, arith}
use Rattle.std.proofs.lemmas.Result.{IfOk-at_ok}
use Rattle.sp_power.specs.Arrivals.{half_power_limit, AllWithin}
use Rattle.sp_power.proofs.Units.{unit_within, all_more}
use Rattle.sp_power.proofs.Induced.{few_moves}
use Rattle.sp_value_tests.proofs.power.induced.Goals as goal

pub induce-requires-clause-powers : goal.induce-requires-clause-powers
induce-requires-clause-powers g c =
    unit_within half_power_limit c.in_ok-p.p c.in_ok-v.v c.degree.ensures.held.partition c.in_ok-v.ensures

pub returns : goal.returns
returns g c =
    all_more (c.args.m * (c.in_ok-v.v.degree + 1) + 0) 2000 c.expect.result.entries
    (omega (arith, few_moves c.args.m c.in_ok-v.v.degree room))
    (IfOk-at_ok
    (λ w. (d : ℕ) → AllWithin d c.in_ok-v.v.entries → AllWithin (c.args.m * (c.in_ok-v.v.degree + 1) + d) w.entries)
    c.expect.ensures c.induce.ensures.powers 0
    (unit_within 0 c.in_ok-p.p c.in_ok-v.v c.degree.ensures.held.partition c.in_ok-v.ensures))
  where
    room : c.in_ok-v.v.degree + c.args.m ≤ 32
    room = omega (arith, ap (λ v. v.degree) c.in_ok-v.ensures, c.degree.ensures.sum)
