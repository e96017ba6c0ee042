use Rattle.sp_cert.proofs.Splitting.{more_not_two}
use Rattle.sp_cert.proofs.words.two_words.Goals as goal

pub returns-in-Some-split_word : goal.returns-in-Some-split_word
returns-in-Some-split_word c =
    more_not_two c.args.text.now c.in-Some.first.now c.in-Some.rest.now c.in-Some-split_word.field-0.0.now
    c.in-Some-split_word.field-0.1.now c.in-Some.ensures c.in-Some-split_word.ensures
