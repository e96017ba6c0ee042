use Rattle.std.proofs.Common.{◌≡◌, map, ◌∙◌, ap₂, subst, IfOk, OnOk, IfErr}
use Rattle.std.specs.List.{AllByRecursion}
use Rattle.sp_core.specs.declared.piece.Key.{Key}
use Rattle.sp_llt.specs.Place.{key_of}
use Rattle.sp_cert.specs.Checked.{entry_for}
use Rattle.sp_cert.specs.Verdict.{IsAccepted, IsRowColumn, IsCause}
use Rattle.sp_cert.proofs.checking.check.Goals as goal

pub returns : goal.returns
returns c =
    let columns = c.args.certificate.now.columns in
    let is = c.in_ok-ctx.ensures
    ∙ ap₂ (λ e n. key_of e n c.args.limit) c.e.ensures.value c.degree.ensures in
    record {
      entries = subst (λ (k : Key). IfOk c.check_in.result (λ es. es.items ≡ map (entry_for k) columns)) is
          c.check_in.ensures.entries;
      rows = subst (λ (k : Key). OnOk c.check_in.result (AllByRecursion (IsRowColumn k) columns)) is
          c.check_in.ensures.rows;
      accepted = subst (λ (k : Key). OnOk c.check_in.result (AllByRecursion (IsAccepted k columns) columns)) is
          c.check_in.ensures.accepted;
      refused = subst (λ (k : Key). IfErr c.check_in.result (IsCause k columns)) is c.check_in.ensures.refused;
    }
