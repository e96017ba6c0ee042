-- The marks are the signature, and the difference at the start counts all its nodes.
use Rattle.std.proofs.Common.{◌≤◌, ◌<◌, map, pos, ◌-ℤ◌, sym, ◌∙◌, ap, subst, arith}
use Rattle.std.specs.List.{AllByRecursion}
use Rattle.std.proofs.lemmas.Result.{IfOk-weaker, on_ok_weaker}
use Rattle.sp_defs.specs.Power.{vector_of}
use Rattle.sp_nodes.specs.Marks.{mark_of}
use Rattle.sp_power.proofs.Descent.{read_exponent}
use Rattle.sp_sl2_law.specs.Marks.{CanAdd, size_through}
use Rattle.sp_sl2_law.proofs.Descent.{all_can_add, signature_size}
use Rattle.sp_sl2.proofs.Brought.{taken_whole}
use Rattle.sp_sl2.proofs.shares.sum_at.Goals as goal

pub sum_through-requires-clause-can : goal.sum_through-requires-clause-can
sum_through-requires-clause-can c =
    subst (AllByRecursion (CanAdd c.args.at.now)) (sym (ap (map mark_of) c.deref.ensures.0 ∙ c.marks-marks.ensures))
    (all_can_add c.args.e c.args.i c.args.at.now)

pub returns-clause-sum : goal.returns-clause-sum
returns-clause-sum c =
    IfOk-weaker c.sum_through.result _ _ (λ sum h.
    taken_whole c.args.e c.args.i c.args.at.now (vector_of c.args.v.now.entries) _ _ sum c.requires.e_least
    c.requires.room.partition (ap (map mark_of) c.deref.ensures.0 ∙ c.marks-marks.ensures)
    (read_exponent c.negative.result (omega (arith, c.negative.ensures.near)) ∙ c.negative.ensures.value
    ∙ ap (λ x. pos 0 -ℤ x)
    (read_exponent c.corner_difference.result (omega (arith, c.corner_difference.ensures.near))
    ∙ c.corner_difference.ensures.value)) h) c.sum_through.ensures.sum

pub returns-clause-fits : goal.returns-clause-fits
returns-clause-fits c =
    on_ok_weaker c.sum_through.result (λ h. subst (λ n. n ≤ c.args.limit)
    (ap (size_through (vector_of c.args.v.now.entries) c.args.at.now)
    (ap (map mark_of) c.deref.ensures.0 ∙ c.marks-marks.ensures)
    ∙ signature_size c.args.e c.args.i c.requires.e_least c.args.at.now c.requires.room.partition
    (vector_of c.args.v.now.entries)) h) c.sum_through.ensures.fits

pub returns-clause-too_large : goal.returns-clause-too_large
returns-clause-too_large c =
    λ h. subst (λ n. c.args.limit < n)
    (ap (size_through (vector_of c.args.v.now.entries) c.args.at.now)
    (ap (map mark_of) c.deref.ensures.0 ∙ c.marks-marks.ensures)
    ∙ signature_size c.args.e c.args.i c.requires.e_least c.args.at.now c.requires.room.partition
    (vector_of c.args.v.now.entries)) (c.sum_through.ensures.too_large h)
