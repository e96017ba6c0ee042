use Rattle.std.proofs.Common.{◌≡◌, ℕ, ◌+◌, List, ◌∷◌, [], length, get_or, ap, arith, length-append, subst, sym, ◌∙◌}
use Rattle.std.specs.Global.{Vec}
use Rattle.sp_defs.specs.Partition.{partitions}
use Rattle.sp_ranks.specs.Moves.{AreRows}
use Rattle.sp_ranks.proofs.Gains.{places_more}
use Rattle.sp_ranks.proofs.moves.gains_below.Goals as goal

pub loop-degree-preserved : goal.loop-degree-preserved
loop-degree-preserved c =
    let n = c.loop-degree.degree in
    let old = c.loop-degree.gains.items in
    let rows = c.in_ok-gains_of.field-0 in
    let more = c.in_ok-push.ensures.items in
    let all : c.deref.result.now ≡ partitions n =
    c.deref.ensures.value ∙ ap (λ v. v.items) c.index-lists-degree.is
    ∙ c.requires.lists.each n c.index-lists-degree.result (omega arith) in
    let next : c.deref-in-loop-degree.result.now ≡ partitions (n + 1) =
    c.deref-in-loop-degree.ensures.value ∙ ap (λ v. v.items) c.index-lists-degree-in-loop-degree.is
    ∙ c.requires.lists.each (n + 1) c.index-lists-degree-in-loop-degree.result (omega arith) in
    record {
      count = omega (arith, ap length more, length-append old (rows ∷ []));
      each = λ k d lt.
          subst (λ tables. AreRows (partitions (k + 1)) (partitions k) (get_or tables k d).items) (sym more)
          (places_more (λ k (table : Vec (List ℕ)). AreRows (partitions (k + 1)) (partitions k) table.items) old rows n
          c.loop-degree.invariant.count c.loop-degree.invariant.each
          (subst (λ xs. AreRows xs (partitions n) rows.items) next
          (subst (λ xs. AreRows c.deref-in-loop-degree.result.now xs rows.items) all c.in_ok-gains_of.ensures)) k d lt);
    }
