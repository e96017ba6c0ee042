use Rattle.sp_cert.proofs.Splitting.{more_not_three}
use Rattle.sp_cert.proofs.words.three_words.Goals as goal

pub returns-in-Some-split_word-2 : goal.returns-in-Some-split_word-2
returns-in-Some-split_word-2 c =
    more_not_three c.args.text.now c.in-Some.first.now c.in-Some.rest.now c.in-Some-split_word.second.now
    c.in-Some-split_word.third.now c.in-Some-split_word-2.field-0.0.now c.in-Some-split_word-2.field-0.1.now
    c.in-Some.ensures c.in-Some-split_word.ensures c.in-Some-split_word-2.ensures
