-- Each pair brings its product.
use Rattle.std.proofs.Common.{◌∙◌, ap, subst, sym, arith, ◌*◌, ◌≤◌}
use Rattle.std.specs.Int.RustNames.{unsigned_abs}
use Rattle.sp_defs.specs.Laurent.{times, size}
use Rattle.sp_lists.proofs.Places.{all_at}
use Rattle.sp_partition.specs.Held.{IsHeld as IsHeldPartition}
use Rattle.sp_laurent.specs.Held.{IsHeld as IsHeldPolynomial}
use Rattle.sp_power.proofs.Descent.{read_exponent}
use Rattle.sp_sl2_law.specs.Balanced.{balanced, corner_difference}
use Rattle.sp_sl2.specs.Multiples.{MultipleFits}
use Rattle.sp_sl2.proofs.Weights.{told_more, pairs_more, fits_more}
use Rattle.sp_sl2.proofs.relation.multiples.Goals as goal

pub loop-pair-preserved : goal.loop-pair-preserved
loop-pair-preserved c =
    let read = read_exponent c.corner_difference-k.result (omega (arith, c.corner_difference-k.ensures.near))
    ∙ c.corner_difference-k.ensures.value in
    record {
      told =
          told_more (λ t. (t.0, times (balanced (corner_difference c.args.e c.args.i t.0)) t.1)) c.args.pairs.now
          c.loop-pair.pair-index c.pair-item.result c.loop-pair.multiples.items c.push_nonzero.new.pairs.items _
          (c.pair-item.result.0, c.in_ok-multiple.multiple) c.loop-pair-test.true c.pair-item.is
          (ap (λ q. (c.pair-item.result.0, q)) (c.in_ok-multiple.ensures.ok
          ∙ ap (λ k. times (balanced k) c.pair-item.result.1) read))
          c.in_ok-push_nonzero.ensures.pairs c.loop-pair.invariant.told;
      pairs =
          pairs_more c.loop-pair.multiples.items c.push_nonzero.new.pairs.items
          (c.pair-item.result.0, c.in_ok-multiple.multiple) c.loop-pair.invariant.pairs
          (subst (λ t. IsHeldPartition t.0) (sym c.pair-item.is)
          (all_at (λ t. IsHeldPartition t.0 × IsHeldPolynomial t.1) c.args.pairs.now c.loop-pair.pair-index
          c.pair-item.result c.requires.held c.loop-pair-test.true).0)
          c.push_nonzero.ensures.held c.in_ok-push_nonzero.ensures.pairs;
      fits =
          fits_more (MultipleFits c.args.e c.args.i c.args.limit) c.args.pairs.now c.loop-pair.pair-index
          c.pair-item.result _ c.loop-pair-test.true c.pair-item.is
          (subst (λ k. unsigned_abs k * size c.pair-item.result.1 ≤ c.args.limit) read c.in_ok-multiple.ensures.fits)
          c.loop-pair.invariant.fits;
    }
