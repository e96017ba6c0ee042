use Rattle.std.proofs.Common.{refl, rules, arith, ◌≡◌, ◌+◌, length, length-append, [], ◌∷◌}
use Rattle.std.proofs.lemmas.Bool.{false≢true}
use Rattle.std.proofs.lemmas.Slice.Zip.{zip_end}
use Rattle.sp_partition.proofs.Crossing.{turn_next, sum_within, above_next, above_all}
use Rattle.sp_partition.proofs.dominance.sums_stay_above.Goals as goal

pub loop-part-init : goal.loop-part-init
loop-part-init c = (refl, refl, λ k h. let z : k ≡ 0 = omega arith in rw z (omega arith))

pub overflow_add-upper_sum : goal.overflow_add-upper_sum
overflow_add-upper_sum c =
    let turn = turn_next c.loop-part.yielded c.into_iter-part-iterator.result c.loop-part.part-iterator
    c.next.new.self (search rules) (search rules) c.loop-part.yielded_by c.in-Some.is c.next.ensures.steps
    c.loop-part.invariant.0 c.loop-part.invariant.1 in
    omega (arith, turn.upper_next, sum_within (length c.loop-part.yielded + 1) c.args.upper.now, c.requires.small)

pub overflow_add-lower_sum : goal.overflow_add-lower_sum
overflow_add-lower_sum c =
    let turn = turn_next c.loop-part.yielded c.into_iter-part-iterator.result c.loop-part.part-iterator
    c.next.new.self (search rules) (search rules) c.loop-part.yielded_by c.in-Some.is c.next.ensures.steps
    c.loop-part.invariant.0 c.loop-part.invariant.1 in
    let within = sum_within (length c.loop-part.yielded + 1) c.args.lower.now in
    omega (arith, turn.lower_next, within, c.requires.one_sum, c.requires.small)

pub returns-then-upper_sum-lower_sum : goal.returns-then-upper_sum-lower_sum
returns-then-upper_sum-lower_sum c =
    let turn = turn_next c.loop-part.yielded c.into_iter-part-iterator.result c.loop-part.part-iterator
    c.next.new.self (search rules) (search rules) c.loop-part.yielded_by c.in-Some.is c.next.ensures.steps
    c.loop-part.invariant.0 c.loop-part.invariant.1 in (
      (λ no. absurd (false≢true no)),
      λ above. absurd (omega (
        arith,
        turn.upper_next,
        turn.lower_next,
        c.if-upper_sum-lower_sum.true,
        above.sums (length c.loop-part.yielded + 1),
      )),
    )

pub loop-part-preserved : goal.loop-part-preserved
loop-part-preserved c =
    let turn = turn_next c.loop-part.yielded c.into_iter-part-iterator.result c.loop-part.part-iterator
    c.next.new.self (search rules) (search rules) c.loop-part.yielded_by c.in-Some.is c.next.ensures.steps
    c.loop-part.invariant.0 c.loop-part.invariant.1 in
    rw (length-append c.loop-part.yielded ((c.in-Some.part, c.in-Some.other) ∷ [])) (
      turn.upper_next,
      turn.lower_next,
      above_next (length c.loop-part.yielded) c.args.upper.now c.args.lower.now c.loop-part.invariant.2
          (omega (arith, turn.upper_next, turn.lower_next, c.if-upper_sum-lower_sum.false)),
    )

pub returns : goal.returns
returns c = (
  (λ _. above_all (length c.loop-part.yielded) c.args.upper.now c.args.lower.now c.requires.one_sum
      (zip_end c.args.upper.now c.args.lower.now c.loop-part.yielded c.into_iter-part-iterator.result
      c.loop-part.part-iterator c.next.new.self c.next.result (search rules) (search rules) c.loop-part.yielded_by
      c.in-None.is c.next.ensures.steps)
      c.loop-part.invariant.2),
  λ _. refl,
)
