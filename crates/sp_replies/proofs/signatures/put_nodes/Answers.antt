use Rattle.std.proofs.Common.{◌++◌, ◌∙◌, ap}
use Rattle.std.proofs.lemmas.Result.{on_ok_weaker}
use Rattle.sp_nodes.specs.Nodes.{pair}
use Rattle.sp_replies.specs.Signatures.{node_text}
use Rattle.sp_replies.specs.Words.{dash_or_words}
use Rattle.sp_replies.proofs.WordRows.{map_seen}
use Rattle.sp_replies.proofs.signatures.put_nodes.Goals as goal

pub returns : goal.returns
returns c =
    on_ok_weaker c.put_words.result
    (λ is. is ∙ ap (λ words. c.args.out.now.items ++ dash_or_words words) (map_seen node_text pair c.args.nodes.now))
    c.put_words.ensures
