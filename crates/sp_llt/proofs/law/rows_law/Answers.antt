use Rattle.sp_row_law.proofs.RowsLaw.{rows_law}
use Rattle.sp_row_law.proofs.Contents.{row_content_law}
use Rattle.sp_llt.proofs.Existence.{rows_are_regular}
use Rattle.sp_outcome_law.proofs.Needed.{needed_law}
use Rattle.sp_row_bounds.proofs.Ranks.{count_law}
use Rattle.sp_row_bounds.proofs.Rows.{powers_law}
use Rattle.sp_llt.proofs.law.rows_law.Goals as goal

pub returns-clause-law : goal.returns-clause-law
returns-clause-law c = rows_law

pub returns-clause-exists : goal.returns-clause-exists
returns-clause-exists c = rows_are_regular

pub returns-clause-content : goal.returns-clause-content
returns-clause-content c = row_content_law

pub returns-clause-needed : goal.returns-clause-needed
returns-clause-needed c = needed_law

pub returns-clause-powers : goal.returns-clause-powers
returns-clause-powers c = powers_law

pub returns-clause-counts : goal.returns-clause-counts
returns-clause-counts c = count_law
