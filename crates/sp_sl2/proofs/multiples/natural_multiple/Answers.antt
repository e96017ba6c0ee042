-- Each step adds one term.
use Rattle.std.proofs.Common.{sym, ◌∙◌, ap, arith}
use Rattle.sp_defs.specs.Laurent.{size}
use Rattle.sp_power.proofs.Descent.{read_exponent}
use Rattle.sp_sl2.proofs.Products.{first_terms, no_terms, all_terms, shift_within, term_added}
use Rattle.sp_sl2.proofs.multiples.natural_multiple.Goals as goal

pub loop-j-init : goal.loop-j-init
loop-j-init c = record {
  sum = c.zero-multiple.ensures ∙ sym (no_terms c.args.k c.args.p.now);
  small = omega (arith, ap size c.zero-multiple.ensures);
}

pub plus_shifted_within-requires-clause-within : goal.plus_shifted_within-requires-clause-within
plus_shifted_within-requires-clause-within c =
    shift_within c.balanced_power.result _ c.args.p.now
    (read_exponent c.balanced_power.result (omega (arith, c.balanced_power.ensures.near)))
    (omega (arith, c.balanced_power.ensures.near)) c.requires.powers

pub loop-j-preserved : goal.loop-j-preserved
loop-j-preserved c =
    let s = term_added c.args.k c.loop-j.j c.args.p.now c.loop-j.multiple c.in_ok-multiple.multiple
    c.balanced_power.result _
    (record { sum_is = c.loop-j.invariant.sum; small_is = c.loop-j.invariant.small })
    (read_exponent c.balanced_power.result (omega (arith, c.balanced_power.ensures.near)))
    c.balanced_power.ensures.value c.in_ok-multiple.ensures.ok in
    record { sum = s.sum_is; small = s.small_is }

pub returns : goal.returns
returns c =
    c.loop-j.invariant.sum
    ∙ ap (first_terms c.args.k c.args.p.now) (omega (arith, c.loop-j-test.false, c.loop-j.auto.j-end))
    ∙ all_terms c.args.k c.args.p.now
