use Rattle.std.proofs.Common.{◌-◌, ◌∙◌, sym, ap, length}
use Rattle.std.specs.List.{slice_get}
use Rattle.sp_cert.proofs.Growing.{last_is}
use Rattle.sp_cert.proofs.draft.Begun.last_rank.Goals as goal

pub returns-in-Some : goal.returns-in-Some
returns-in-Some c =
    last_is c.args.self.now.rank c.args.self.now.shares.items c.in-Some.share.now
    (sym (c.in-Some.ensures.value ∙ ap (λ xs. slice_get xs (length xs - 1)) c.deref.ensures.value))
