-- Mark by mark, its share goes onto the sum and its size is taken from the limit.
use Rattle.std.proofs.Common.{rules, ◌≡◌, ◌≤◌, map, refl, ◌∙◌, ap, arith}
use Rattle.std.specs.Int.RustNames.{unsigned_abs}
use Rattle.std.proofs.Common.{w32}
use mir.Val.{to_z, of_z}
use Rattle.sp_defs.specs.Laurent.{size}
use Rattle.sp_defs.specs.Power.{vector_of}
use Rattle.sp_nodes.specs.Marks.{mark_of}
use Rattle.sp_nodes.specs.declared.corners.Corner.TheVariants.{Addable}
use Rattle.sp_power.proofs.Descent.{read_exponent}
use Rattle.sp_sl2_law.specs.Marks.{CanAdd, taken_through}
use Rattle.sp_sl2.proofs.Brought.{mark_there, sum_begin, zero_laurent, sum_laurent, size_more, sum_more, sizes_more}
use Rattle.sp_sl2.proofs.Brought.{sizes_past, sum_end, sizes_end}
use Rattle.sp_sl2.proofs.shares.sum_through.Goals as goal

pub loop-mark-init : goal.loop-mark-init
loop-mark-init c = record {
  laurent = zero_laurent c.zero-sum.result c.zero-sum.ensures;
  sums = sum_begin (vector_of c.args.v.now.entries) c.args.at.now (map mark_of c.args.marks.now) c.zero-sum.result _
      c.zero-sum.ensures;
  sizes = refl;
  fits = omega (arith, ap size c.zero-sum.ensures);
  near = omega arith;
}

pub share-share-requires-clause-can : goal.share-share-requires-clause-can
share-share-requires-clause-can c =
    mark_there (CanAdd c.args.at.now) c.args.marks.now c.loop-mark.mark-index _ c.requires.can c.loop-mark-test.true

pub returns-in_err-left-clause-too_large : goal.returns-in_err-left-clause-too_large
returns-in_err-left-clause-too_large c =
    λ h. sizes_past (vector_of c.args.v.now.entries) c.args.at.now c.args.marks.now c.loop-mark.mark-index _
    c.loop-mark-test.true c.loop-mark.left _ c.args.limit _ c.loop-mark.invariant.sizes
    (c.in_err-left.ensures.too_large (search rules)) c.share-share.ensures.value

pub loop-mark-preserved : goal.loop-mark-preserved
loop-mark-preserved c =
    let start : unsigned_abs (to_z w32 (of_z w32 c.args.start)) ≡ unsigned_abs c.args.start =
    ap unsigned_abs (read_exponent c.args.start (omega (arith, c.requires.near))) in
    let small : unsigned_abs c.passed-difference.result ≤ 2000 =
    omega (arith, start, c.passed-difference.ensures.near, c.loop-mark.invariant.near, c.requires.near) in
    record {
      laurent = sum_laurent c.in_ok-sum.sum _ _ c.in_ok-sum.ensures;
      sums =
          sum_more (vector_of c.args.v.now.entries) c.args.at.now c.args.marks.now c.loop-mark.mark-index
          (record { corner = Addable; node = record { row = 0; column = 0 } })
          c.loop-mark-test.true c.loop-mark.sum c.in_ok-sum.sum _ _ _ _ c.loop-mark.invariant.sums
          (read_exponent c.passed-difference.result small
          ∙ c.passed-difference.ensures.value _) c.share-share.ensures.value c.in_ok-sum.ensures;
      sizes =
          sizes_more (vector_of c.args.v.now.entries) c.args.at.now c.args.marks.now c.loop-mark.mark-index
          (record { corner = Addable; node = record { row = 0; column = 0 } })
          c.loop-mark-test.true c.loop-mark.left c.in_ok-left.left _ c.args.limit _ c.loop-mark.invariant.sizes
          c.in_ok-left.ensures.ok c.share-share.ensures.value;
      fits = size_more c.loop-mark.sum c.in_ok-sum.sum _ _ c.loop-mark.left c.in_ok-left.left c.args.limit
          c.in_ok-sum.ensures c.loop-mark.invariant.fits c.in_ok-left.ensures.ok;
      near = omega (
        arith,
        ap unsigned_abs (read_exponent c.passed-difference.result small),
        c.passed-difference.ensures.near,
        c.loop-mark.invariant.near,
      );
    }

pub returns-clause-sum : goal.returns-clause-sum
returns-clause-sum c =
    sum_end (vector_of c.args.v.now.entries) c.args.at.now c.args.marks.now c.loop-mark.mark-index c.loop-mark.sum _ _
    c.loop-mark-test.false c.loop-mark.invariant.laurent c.loop-mark.invariant.sums
    ∙ ap (taken_through (vector_of c.args.v.now.entries) c.args.at.now (map mark_of c.args.marks.now))
    (read_exponent c.args.start (omega (arith, c.requires.near)))

pub returns-clause-fits : goal.returns-clause-fits
returns-clause-fits c =
    omega (
      arith,
      sizes_end (vector_of c.args.v.now.entries) c.args.at.now c.args.marks.now c.loop-mark.mark-index
          c.loop-mark.left _
          c.args.limit c.loop-mark-test.false c.loop-mark.invariant.sizes,
    )
