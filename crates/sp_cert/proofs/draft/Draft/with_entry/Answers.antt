use Rattle.std.proofs.Common.{◌∙◌, refl, sym, ap, subst, IfSome}
use Rattle.std.specs.Option.{option_map}
use Rattle.sp_cert.specs.Drafts.{IsBegun, column_of}
use Rattle.sp_cert.proofs.Advancing.{begun_held, mu_kept}
use Rattle.sp_cert.proofs.draft.Draft.with_entry.Goals as goal

pub returns-clause-draft : goal.returns-clause-draft
returns-clause-draft c =
    begun_held c.args.self c.in-Some.begun c.in-Some-3.begun c.requires c.in-Some.is
    (subst (λ o. IfSome o (IsBegun c.args.self.header)) c.in-Some-3.is c.in_ok-begun.ensures.begun)
    (mu_kept _ c.args.self.header.degree c.in-Some-3.begun _ c.in-Some.begun.mu
    (ap (option_map (column_of c.args.self.header.degree)) (sym c.in-Some-3.is) ∙ c.in_ok-begun.ensures.next) refl)
