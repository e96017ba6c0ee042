use Rattle.std.proofs.Common.{◌++◌, ◌-◌, ◌∙◌, sym, ap, append_assoc, flat_map, take, drop, length}
use Rattle.std.proofs.lemmas.Result.{on_ok_weaker}
use Rattle.sp_replies.proofs.WordRows.{joined_split}
use Rattle.sp_replies.proofs.words.put_joined.Goals as goal

pub returns-in_ok-put-in-len1-up : goal.returns-in_ok-put-in-len1-up
returns-in_ok-put-in-len1-up g c =
    let text = g.T.Word.text in
    let words = c.args.words.now in
    let first = c.first-item.result in
    let later = flat_map (λ x. c.args.separator.now ++ text x) (take (length words - 1) (drop 1 words)) in
    on_ok_weaker c.put_later.result
    (λ is. is
    ∙ ap (λ out. out ++ later) c.in_ok-put-in-len1-up.ensures
    ∙ append_assoc c.args.out.now.items (text first) later
    ∙ ap (λ text. c.args.out.now.items ++ text)
    (sym (joined_split c.args.separator.now text words first first c.first-item.is c.in-len1-up.len_at_least)))
    c.put_later.ensures
