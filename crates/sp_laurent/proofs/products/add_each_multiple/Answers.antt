use Rattle.std.proofs.Common.{◌^◌, pos}
use Rattle.sp_laurent.proofs.Product.{part_none, part_laurent, part_fits, part_more, term_within}
use Rattle.sp_laurent.specs.Held.{power_limit}
use Rattle.sp_laurent.proofs.products.add_each_multiple.Goals as goal

pub loop-term-init : goal.loop-term-init
loop-term-init c = part_none c.args.terms.now.items c.args.few.now c.args.many.now c.requires.laurent

pub add_multiple-requires-clause-laurent : goal.add_multiple-requires-clause-laurent
add_multiple-requires-clause-laurent c = part_laurent _ _ _ _ _ c.loop-term.invariant

pub add_multiple-requires-clause-fits : goal.add_multiple-requires-clause-fits
add_multiple-requires-clause-fits c =
    part_fits _ _ _ _ _ c.loop-term.invariant (pos 0, pos 0) (2 ^ 127) c.loop-term-test.true c.requires.fits

pub add_multiple-requires-clause-within : goal.add_multiple-requires-clause-within
add_multiple-requires-clause-within c =
    term_within power_limit c.args.few.now c.args.many.now c.loop-term.term-index (pos 0, pos 0) c.loop-term-test.true
    c.requires.within

pub loop-term-preserved : goal.loop-term-preserved
loop-term-preserved c =
    part_more _ _ _ _ _ c.loop-term.invariant (pos 0, pos 0) c.add_multiple.new.terms.items c.loop-term-test.true
    c.in_ok-add_multiple.ensures
