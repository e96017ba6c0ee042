use Rattle.std.proofs.Common.{◌∙◌}
use Rattle.sp_cert.proofs.Small.{one_column}
use Rattle.sp_cert.specs.declared.certificate.Column.{Column}
use Rattle.sp_row_tests.proofs.certificates.of_degree_one.Goals as goal

pub of-requires : goal.of-requires
of-requires c =
    let column : Column = record { mu = c.in_ok-mu.mu; shares = c.of-shares.result; entries = c.args.entries } in
    one_column column c.in_ok-columns.columns.items c.in_ok-columns.ensures.items c.in_ok-mu.ensures.ok
    (c.of-shares.ensures ∙ c.new.ensures.items) c.requires.degree c.requires.powers
