use Rattle.std.proofs.Common.{◌++◌, ◌∙◌, sym, ap}
use Rattle.std.proofs.lemmas.Result.{on_ok_weaker}
use Rattle.sp_llt.specs.Place.{label, place}
use Rattle.sp_replies.proofs.BranchedRows.{branched_entry, refused_entry}
use Rattle.sp_replies.proofs.restrictions.put_branch.Goals as goal

pub returns-in-Ok : goal.returns-in-Ok
returns-in-Ok c =
    on_ok_weaker c.put_restricted.result
    (λ is. is ∙ ap (λ text. c.args.out.now.items ++ text)
    (branched_entry c.in_ok-entry.entry c.args.e c.degree.result c.args.limit c.rank_of.result c.args.i c.args.mu.now
    c.in-Ok.row.now c.requires.e_least c.degree.ensures.held.partition c.requires.regular
    (c.in_ok-entry.ensures ∙ ap (λ key. place key c.rank_of.result) c.in_ok-ctx.ensures)
    c.degree.ensures.sum
    (sym (ap (λ key. label key c.rank_of.result) c.in_ok-ctx.ensures) ∙ c.rank_of.ensures.label)
    c.in-Ok.ensures.row c.in-Ok.ensures.outcome)) c.put_restricted.ensures

pub returns : goal.returns
returns c =
    on_ok_weaker c.put_refusal.result
    (λ is. is ∙ ap (λ text. c.args.out.now.items ++ text)
    (refused_entry c.in_ok-entry.entry c.args.e c.degree.result c.args.limit c.rank_of.result c.args.i c.args.mu.now
    c.in-Err.why c.from.result
    (c.in_ok-entry.ensures ∙ ap (λ key. place key c.rank_of.result) c.in_ok-ctx.ensures)
    (sym (ap (λ key. label key c.rank_of.result) c.in_ok-ctx.ensures) ∙ c.rank_of.ensures.label)
    c.in-Err.ensures.outcome c.from.ensures)) c.put_refusal.ensures
