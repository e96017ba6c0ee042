use Rattle.std.proofs.Common.{◌∙◌, ap, length}
use Rattle.std.specs.Prelude.{unwrap_or}
use Rattle.sp_lang.specs.Words.{is_blank}
use Rattle.sp_lang.proofs.Splitting.{position-or_len}
use Rattle.sp_lang.proofs.words.word_length.Goals as goal

pub returns : goal.returns
returns c =
    c.unwrap_or.ensures ∙ ap (λ o. unwrap_or o (length c.args.text.now)) c.first_blank.ensures
    ∙ position-or_len is_blank c.args.text.now
