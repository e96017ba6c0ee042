use Rattle.std.proofs.Common.{rules, tests}
use Rattle.std.proofs.lemmas.Iterator.{YieldsList-from_slice}
use Rattle.std.proofs.lemmas.Iterator.Search.{any_from_yields_List}
use Rattle.sp_lang.specs.Values.{fails}
use Rattle.sp_lang.specs.declared.given.Given.{Given}
use Rattle.sp_lang.proofs.test.any_fails.Goals as goal

pub returns : goal.returns
returns c =
    any_from_yields_List (λ (one : Given). fails c.args.test one.place one.value) c.any.new.self _ c.any.result
    c.any.ensures.ran
    (YieldsList-from_slice c.args.given.now c.iter.ensures.rest)
    (λ x b q k. search (rules, tests))
