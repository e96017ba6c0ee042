use Rattle.std.proofs.Common.{◌∙◌, length, sym, ap, Err}
use Rattle.std.proofs.lemmas.Bool.{eqb-true, eqb-false}
use Rattle.sp_cert.proofs.Spelled.{zero_refused, nonzero_read, other_refused}
use Rattle.sp_cert.proofs.terms.polynomial_with.Goals as goal

pub returns-then-is_empty-clause-value : goal.returns-then-is_empty-clause-value
returns-then-is_empty-clause-value c =
    sym (zero_refused c.args.text.now c.in-Ok.p c.in-Ok.ensures.ok.0 c.in-Ok.ensures.ok.1
    (sym (ap length c.terms.ensures.value)
    ∙ eqb-true (length c.terms.result.now) 0 (sym c.is_empty.ensures ∙ c.if-is_empty.true)))

pub returns-else-is_empty-clause-value : goal.returns-else-is_empty-clause-value
returns-else-is_empty-clause-value c =
    sym (nonzero_read c.args.text.now c.in-Ok.p c.in-Ok.ensures.ok.0 c.in-Ok.ensures.ok.1
    (λ none. eqb-false (length c.terms.result.now) 0 (sym c.is_empty.ensures ∙ c.if-is_empty.false)
    (ap length c.terms.ensures.value ∙ none)))

pub returns-in-Err-NotLaurent-clause-value : goal.returns-in-Err-NotLaurent-clause-value
returns-in-Err-NotLaurent-clause-value c =
    sym (other_refused c.args.text.now ((c.in-Err-NotLaurent.ensures.not_laurent
    (λ h. let is = c.in-Err-NotLaurent.field-0-is in cc)).0 (ap Err c.in-Err-NotLaurent.field-0-is)))
