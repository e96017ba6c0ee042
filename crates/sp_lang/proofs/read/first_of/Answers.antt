use Rattle.std.proofs.Common.{◌∙◌, rules, tests}
use Rattle.std.proofs.lemmas.Iterator.{YieldsList-from_slice}
use Rattle.std.proofs.lemmas.Iterator.Search.{find_from_yields_List}
use Rattle.sp_lang.specs.Values.{any_given, fails}
use Rattle.sp_lang.specs.declared.test.Test.{Test}
use Rattle.sp_lang.specs.declared.fault.LineFault.{LineFault}
use Rattle.sp_lang.proofs.read.first_of.Goals as goal

pub returns : goal.returns
returns c =
    c.copied.ensures
    ∙ find_from_yields_List (λ (test : Test × LineFault). any_given (fails test.0) c.args.given.now)
    c.find.new.self _ c.find.result c.find.ensures.ran
    (YieldsList-from_slice c.args.tests.now c.iter.ensures.rest)
    (λ x b q k. search (rules, tests))
