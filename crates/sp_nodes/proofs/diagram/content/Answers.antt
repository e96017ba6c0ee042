use Rattle.std.proofs.Common.{◌++◌, [], ◌∷◌, sym, ◌∙◌, ap₂, arith}
use Rattle.std.proofs.lemmas.List.FromFn.{map-range_with_len_more}
use Rattle.sp_defs.specs.Node.{content}
use Rattle.sp_nodes.proofs.diagram.content.Goals as goal

pub loop-i-preserved : goal.loop-i-preserved
loop-i-preserved c =
    let i = c.loop-i.i in
    record {
      is = c.push.ensures.items
          ∙ ap₂ (λ counts count. counts ++ count ∷ []) c.loop-i.invariant.is (c.tally-counts.ensures i (omega arith))
          ∙ sym (map-range_with_len_more (content c.args.e c.args.p.now) 0 i i (omega arith));
      len = omega arith;
    }
