use Rattle.std.proofs.Common.{codes}
use Rattle.std.proofs.lemmas.Result.{on_ok_weaker}
use Rattle.sp_defs.specs.Text.{partition_text}
use Rattle.sp_replies.proofs.WordRows.{line_of_four}
use Rattle.sp_replies.proofs.refusals.put_stray_column.Goals as goal

pub returns : goal.returns
returns c =
    on_ok_weaker c.put_named.result
    (line_of_four c.args.out.now.items (codes "error 10 stray coefficient at ") (partition_text c.args.at.now)
    (codes " in column ") (partition_text c.args.column.now) (codes "\n") c.extend_from_slice.new.self.items
    c.print.new.out.items c.put_named.new.out.items c.in_ok-extend_from_slice.ensures.items
    c.in_ok-print.ensures.text)
    c.put_named.ensures
