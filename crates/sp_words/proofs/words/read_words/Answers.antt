use Rattle.std.proofs.Common.{◌≡◌, ◌∙◌, true, false, string_bytes, sym}
use Rattle.sp_words.specs.Found.{is_dashes}
use Rattle.sp_words.proofs.Clap.{any_map}
use Rattle.sp_words.proofs.Saying.{one_saying, says_no_dashes, says_plain}
use Rattle.sp_words.proofs.words.read_words.Goals as goal

pub returns-then-has_dashes-clause-usage : goal.returns-then-has_dashes-clause-usage
returns-then-has_dashes-clause-usage c = λ _ said says.
    let none : c.has_dashes.result ≡ false =
    c.has_dashes.ensures ∙ sym (any_map is_dashes string_bytes c.args.words.now)
    ∙ says_no_dashes c.args.many _ said says in
    let bad : true ≡ false = sym c.if-has_dashes.true ∙ none in
    cc

pub returns-in-Some-clause-only : goal.returns-in-Some-clause-only
returns-in-Some-clause-only c = λ other says.
    let plain = says_plain c.args.many _ other says in
    let has = c.in-Ok.ensures.only says.options says.spelled says.allowed plain in
    one_saying _ other c.in-Some.said says.values (c.in-Some.ensures says.options has)

pub returns-in-Ok-clause-usage : goal.returns-in-Ok-clause-usage
returns-in-Ok-clause-usage c = λ _ said says.
    let plain = says_plain c.args.many _ said says in
    let has = c.in-Ok.ensures.only says.options says.spelled says.allowed plain in
    c.in-None.ensures said says.options has says.values

pub returns-clause-usage : goal.returns-clause-usage
returns-clause-usage c = λ _ said says.
    let plain = says_plain c.args.many _ said says in
    absurd (c.in_default.not-OutOfMemory (c.kind.ensures
    ∙ c.in-Err.ensures.fails says.options says.spelled says.allowed plain))
