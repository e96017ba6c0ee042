use Rattle.std.proofs.Common.{◌++◌, ◌∙◌, sym, ap, flat_map, append_assoc, arith}
use Rattle.std.specs.List.{range_with_len}
use Rattle.sp_lists.proofs.FlatMaps.{flat_map-range_more}
use Rattle.sp_replies.specs.Signatures.{residue_line}
use Rattle.sp_replies.proofs.signatures.put_good.Goals as goal

pub loop-i-preserved : goal.loop-i-preserved
loop-i-preserved c =
    let line = residue_line c.args.e c.args.p.now in
    let i = c.loop-i.i in
    c.in_ok-put_residue.ensures
    ∙ ap (λ text. text ++ line i) c.loop-i.invariant
    ∙ append_assoc c.args.out.now.items (flat_map line (range_with_len 0 i)) (line i)
    ∙ ap (λ text. c.args.out.now.items ++ text) (sym (flat_map-range_more line 0 i i (omega arith)))
