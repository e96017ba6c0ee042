use Rattle.std.proofs.Common.{◌∙◌, sym, ap, subst}
use Rattle.sp_abacus_law.specs.Beads.{numbers, Falls}
use Rattle.sp_abacus_law.proofs.Numbers.{beta-numbers, beta-falls}
use Rattle.sp_abacus.proofs.beads.beta.Goals as goal

pub returns-clause-numbers : goal.returns-clause-numbers
returns-clause-numbers c =
    c.numbers.ensures ∙ ap (numbers c.args.p.now) c.bead_count.ensures.value ∙ sym (beta-numbers c.args.e c.args.p.now)

pub returns-clause-falls : goal.returns-clause-falls
returns-clause-falls c =
    subst Falls
    (sym (c.numbers.ensures ∙ ap (numbers c.args.p.now) c.bead_count.ensures.value
    ∙ sym (beta-numbers c.args.e c.args.p.now)))
    (beta-falls c.args.e c.args.p.now c.bead_count.ensures.held.partition)
