-- A row is the regular row, so that one is a row too.
use Rattle.std.proofs.Common.{subst}
use Rattle.sp_defs.specs.Laurent.{IsPositive}
use Rattle.sp_row_law.proofs.RowsLaw.{rows_law}
use Rattle.sp_llt.specs.Existence.{RowsAreRegular}

-- where there is a row, it is the regular row
pub rows_are_regular : RowsAreRegular
rows_are_regular e mu label w row =
    let facts = rows_law e mu label in
    record {
      in_span = facts.in_span;
      at_mu = facts.at_mu;
      elsewhere = λ lambda p other. subst IsPositive (facts.row_is w row lambda p) (row.elsewhere lambda p other);
    }
