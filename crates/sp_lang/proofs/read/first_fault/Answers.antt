use Rattle.std.proofs.Common.{◌∙◌, ap}
use Rattle.std.specs.Prelude.{find}
use Rattle.std.specs.Option.{option_map}
use Rattle.sp_lang.specs.Values.{any_given, fails}
use Rattle.sp_lang.specs.declared.fault.LineFault.{LineFault}
use Rattle.sp_lang.specs.declared.test.Test.{Test}
use Rattle.sp_lang.proofs.read.first_fault.Goals as goal

pub returns-in-Some : goal.returns-in-Some
returns-in-Some c =
    ap (option_map (λ (test : Test × LineFault). test.1))
    (c.in-Some.ensures
    ∙ ap (find (λ (test : Test × LineFault). any_given (fails test.0) c.args.given.now)) c.tests_of-tests.ensures)
