use Rattle.std.proofs.Common.{◌+◌, ◌*◌, Ok, sym, ◌∙◌, ap, ap₂, arith}
use Rattle.sp_defs.specs.Abacus.{core, quotient, shown}
use Rattle.sp_abacus.proofs.Taking.{all_partitions}
use Rattle.sp_lists.proofs.Comparing.{told_other, told_same}
use Rattle.sp_abacus.proofs.Together.{its_own, combined_back, degree_back, count_back, has_both}
use Rattle.sp_abacus.proofs.combining.combine.Goals as goal

pub returns-then-ne-clause-given_back : goal.returns-then-ne-clause-given_back
returns-then-ne-clause-given_back c lambda h small ck cq =
    absurd (told_other c.core.result c.args.kappa.now c.ne.result c.ne.ensures c.if-ne.true
    (c.core.ensures ∙ its_own c.args.e (omega arith) c.args.kappa.now c.args.quotient.now lambda h ck cq))

pub returns-then-quotient-e-clause-given_back : goal.returns-then-quotient-e-clause-given_back
returns-then-quotient-e-clause-given_back c lambda h small ck cq =
    absurd (c.if-quotient-e.true
    (count_back c.args.e (omega arith) c.args.kappa.now c.args.quotient.now lambda h ck cq))

pub returns-then-degree-e-clause-given_back : goal.returns-then-degree-e-clause-given_back
returns-then-degree-e-clause-given_back c lambda h small ck cq =
    let whole = ap₂ (λ m n. m + c.args.e * n) c.degree.ensures.sum c.total_degree.ensures.sum in
    let back = degree_back c.args.e (omega arith) c.args.kappa.now c.args.quotient.now lambda h ck cq in
    absurd (omega (arith, c.if-degree-e.true, whole, back, small))

pub returns-clause-has : goal.returns-clause-has
returns-clause-has c =
    let is = c.shown.ensures ∙ ap shown (c.as_slice.ensures.value ∙ c.placed.ensures.numbers) in
    let both = has_both c.args.e (omega arith) c.args.kappa.now c.args.quotient.now
    c.degree.ensures.held.partition c.if-quotient-e.false
    (all_partitions c.args.quotient.now c.total_degree.ensures.held)
    (sym c.core.ensures ∙ told_same c.core.result c.args.kappa.now c.ne.result c.ne.ensures c.if-ne.false) in
    (ap (core c.args.e) is ∙ both.0, ap (quotient c.args.e) is ∙ both.1)

pub returns-clause-given_back : goal.returns-clause-given_back
returns-clause-given_back c lambda h small ck cq =
    ap Ok (c.shown.ensures ∙ ap shown (c.as_slice.ensures.value ∙ c.placed.ensures.numbers)
    ∙ combined_back c.args.e (omega arith) c.args.kappa.now c.args.quotient.now lambda h ck cq)
