use Rattle.std.proofs.Common.{◌≡◌, ◌≤◌, sym, ◌∙◌, ap, subst, arith, to_z, of_z, w8, pos}
use Rattle.std.proofs.lemmas.Int.{ints}
use Rattle.std.proofs.lemmas.List.{take_all}
use Rattle.std.specs.Int.RustNames.{unsigned_abs}
use Rattle.sp_defs.specs.Partition.{degree, IsPartitionOf}
use Rattle.sp_defs.specs.Laurent.{int_sum, monomial}
use Rattle.sp_defs.specs.Power.{fock_vector, unit}
use Rattle.sp_lists.proofs.Places.{all_at}
use Rattle.sp_fock_law.specs.Addition.{scaled_sum}
use Rattle.sp_module_defs.specs.Jantzen.{total_at, constants}
use Rattle.sp_jantzen.proofs.Totals.{weight_within, sum_more}
use Rattle.sp_jantzen.proofs.sum.sum_of.Goals as goal

pub loop-partition-init : goal.loop-partition-init
unfolding total_at int_sum
loop-partition-init c = c.zero-sum.ensures

pub add_term-requires-clause-weight : goal.add_term-requires-clause-weight
add_term-requires-clause-weight c =
    let ts = c.args.terms.now in
    let i = c.loop-partition.partition-index in
    let item = c.loop-partition-item.result in
    let small : unsigned_abs item.1 ≤ 1 =
    subst (λ t. unsigned_abs t.1 ≤ 1) (sym c.loop-partition-item.is)
    (all_at (λ t. unsigned_abs t.1 ≤ 1) ts i item c.requires.units c.loop-partition-test.true) in
    let part : IsPartitionOf c.args.degree item.0 =
    subst (λ t. IsPartitionOf c.args.degree t.0) (sym c.loop-partition-item.is)
    (all_at (λ t. IsPartitionOf c.args.degree t.0) ts i item c.requires.degrees c.loop-partition-test.true) in
    let same : to_z w8 (of_z w8 item.1) ≡ item.1 = omega (arith, ints, small) in
    weight_within c.args.degree c.loop-partition.sum ts i item.0 (to_z w8 (of_z w8 item.1)) c.loop-partition.invariant
    c.requires.units c.loop-partition-test.true (omega arith) (subst (λ x. unsigned_abs x ≤ 1) (sym same) small)
    part.total

pub loop-partition-preserved : goal.loop-partition-preserved
loop-partition-preserved c =
    let ts = c.args.terms.now in
    let i = c.loop-partition.partition-index in
    let item = c.loop-partition-item.result in
    let small : unsigned_abs item.1 ≤ 1 =
    subst (λ t. unsigned_abs t.1 ≤ 1) (sym c.loop-partition-item.is)
    (all_at (λ t. unsigned_abs t.1 ≤ 1) ts i item c.requires.units c.loop-partition-test.true) in
    let part : IsPartitionOf c.args.degree item.0 =
    subst (λ t. IsPartitionOf c.args.degree t.0) (sym c.loop-partition-item.is)
    (all_at (λ t. IsPartitionOf c.args.degree t.0) ts i item c.requires.degrees c.loop-partition-test.true) in
    let same : to_z w8 (of_z w8 item.1) ≡ item.1 = omega (arith, ints, small) in
    sum_more c.args.degree c.loop-partition.sum c.add_term.new.sum ts i item c.loop-partition.invariant
    c.loop-partition-test.true c.loop-partition-item.is part
    (c.in_ok-add_term.ensures.sum
    ∙ ap (λ x. scaled_sum c.loop-partition.sum (monomial (pos 0) x) (fock_vector (degree item.0) (unit item.0))) same)

pub returns-clause-sum : goal.returns-clause-sum
returns-clause-sum c =
    c.loop-partition.invariant
    ∙ ap (λ ts. fock_vector c.args.degree (constants ts))
    (take_all c.loop-partition.partition-index c.args.terms.now c.loop-partition-test.false)
