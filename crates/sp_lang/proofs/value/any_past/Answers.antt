use Rattle.std.proofs.Common.{rules, tests, eqb}
use Rattle.std.proofs.lemmas.Iterator.Search.{any_from_yields_List}
use Rattle.std.proofs.lemmas.Iterator.Splits.{YieldsList-from_slice_split}
use Rattle.sp_lang.specs.Faults.{is_past}
use Rattle.sp_lang.proofs.value.any_past.Goals as goal

pub returns : goal.returns
returns c =
    any_from_yields_List (is_past 0) _ _ _ c.any.ensures.ran
    (YieldsList-from_slice_split _ (λ b. eqb b 124) c.args.word.now c.split.ensures.rest c.split.ensures.done
    c.split.ensures.closure
    (λ x b q k. search (rules, tests)))
    (λ x b q k. search (rules, tests))
