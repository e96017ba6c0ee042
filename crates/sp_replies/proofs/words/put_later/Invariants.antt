use Rattle.std.proofs.Common.{◌≡◌, ◌++◌, flat_map, take}
use Rattle.sp_replies.proofs.words.put_later.Given as goal

abbrev pub invariant-loop-word : goal.invariant-loop-word
invariant-loop-word g l =
    l.out.items ≡ l.fn.out.items ++ flat_map (λ word. l.separator ++ g.T.Word.text word) (take l.word-index l.words)
