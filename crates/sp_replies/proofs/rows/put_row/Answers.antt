use Rattle.std.proofs.Common.{sym, ◌∙◌, ap, subst}
use Rattle.std.proofs.lemmas.Result.{on_ok_weaker}
use Rattle.sp_core.specs.declared.piece.Key.{Key}
use Rattle.sp_defs.specs.Partition.{IsPartition, degree}
use Rattle.sp_replies.proofs.Conventions.{label_degree, label_partition, told_no_row, told_row}
use Rattle.sp_replies.proofs.rows.put_row.Goals as goal

pub rank_of-requires-clause-partition : goal.rank_of-requires-clause-partition
rank_of-requires-clause-partition c =
    subst IsPartition (sym c.label-mu.ensures)
    (label_partition c.args.convention c.args.label.now c.degree-degree.ensures.held.partition)

pub rank_of-requires-clause-degree : goal.rank_of-requires-clause-degree
rank_of-requires-clause-degree c =
    ap degree c.label-mu.ensures
    ∙ label_degree c.args.convention c.args.label.now c.degree-degree.ensures.held.partition
    ∙ sym c.degree-degree.ensures.sum
    ∙ sym (ap (λ (q : Key). q.degree) c.in_ok-ctx.ensures)

pub returns-in-Ok : goal.returns-in-Ok
returns-in-Ok c =
    on_ok_weaker c.put_vector_in.result
    (λ is. is
    ∙ told_row c.args.limit c.args.e c.degree-degree.result c.args.convention c.args.label.now c.label-mu.result
    c.in_ok-ctx.ctx c.rank_of.result c.in_ok-entry.entry c.in_ok-ctx.ensures c.rank_of.ensures.label
    c.in_ok-entry.ensures c.label-mu.ensures
    (c.degree-degree.ensures.sum
    ∙ sym (ap degree c.label-mu.ensures
    ∙ label_degree c.args.convention c.args.label.now c.degree-degree.ensures.held.partition))
    c.args.out.now.items c.in-Ok.row.now c.in-Ok.ensures.row c.in-Ok.ensures.outcome)
    c.put_vector_in.ensures

pub returns : goal.returns
returns c =
    on_ok_weaker c.put_refusal.result
    (λ is. is
    ∙ told_no_row c.args.limit c.args.e c.degree-degree.result c.args.convention c.args.label.now c.label-mu.result
    c.in_ok-ctx.ctx c.rank_of.result c.in_ok-entry.entry c.in_ok-ctx.ensures c.rank_of.ensures.label
    c.in_ok-entry.ensures c.label-mu.ensures
    (c.degree-degree.ensures.sum
    ∙ sym (ap degree c.label-mu.ensures
    ∙ label_degree c.args.convention c.args.label.now c.degree-degree.ensures.held.partition))
    c.args.out.now.items c.in-Err.why c.from.result c.refusal_in.result c.from.ensures c.refusal_in.ensures
    c.in-Err.ensures.outcome)
    c.put_refusal.ensures
