use Rattle.std.proofs.Common.{rules, tests, eqb}
use Rattle.std.proofs.lemmas.Iterator.{YieldsList-from_map, items_from_collect}
use Rattle.std.proofs.lemmas.Iterator.Consumers.{YieldsList-at}
use Rattle.std.proofs.lemmas.Iterator.Splits.{YieldsList-from_slice_split}
use Rattle.sp_lang.specs.Values.{fitting}
use Rattle.sp_lang.proofs.value.all_fitting.Goals as goal

pub returns : goal.returns
returns c =
    items_from_collect _ c.collect.ensures.ran
    (YieldsList-from_map _ fitting
    (YieldsList-at c.map.ensures.source
    (YieldsList-from_slice_split _ (λ b. eqb b 124) c.args.word.now c.split.ensures.rest c.split.ensures.done
    c.split.ensures.closure
    (λ x b q k. search (rules, tests))))
    c.map.ensures.closure
    (λ x b q k. search (rules, tests)))
