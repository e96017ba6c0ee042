use Rattle.std.proofs.Common.{◌∷◌, ◌+◌, ◌∙◌, sym, ap, arith, take}
use Rattle.sp_partition.proofs.Marks.{rest_whole}
use Rattle.sp_cert.specs.Grammar.{words}
use Rattle.sp_cert.proofs.Splitting.{one_word, more_words}
use Rattle.sp_cert.proofs.words.split_word.Goals as goal

pub returns-then-end-text : goal.returns-then-end-text
returns-then-end-text c = one_word c.args.text.now c.place-end.result c.place-end.ensures c.if-end-text.true

pub returns-else-end-text : goal.returns-else-end-text
returns-else-end-text c =
    let text = c.args.text.now in
    let end = c.place-end.result in
    more_words text end c.place-end.ensures (omega (arith, c.if-end-text.false, c.place-end.ensures.within))
    ∙ ap (λ t. take end text ∷ words t) (sym (rest_whole text (end + 1)))
