use Rattle.sp_lr_defs.proofs.Extending.{filling_extended}
use Rattle.sp_lr_defs.proofs.Unique.{one_filling}
use Rattle.sp_lr.proofs.ChainsOver.{lists_over, lists_to}
use Rattle.sp_lr.proofs.ProductPairs.{is_product}
use Rattle.sp_lr.proofs.law.filling_law.Goals as goal

pub returns-clause-extended : goal.returns-clause-extended
returns-clause-extended c = filling_extended

pub returns-clause-one : goal.returns-clause-one
returns-clause-one c = one_filling

pub returns-clause-lists : goal.returns-clause-lists
returns-clause-lists c = lists_over

pub returns-clause-lists_to : goal.returns-clause-lists_to
returns-clause-lists_to c = lists_to

pub returns-clause-product : goal.returns-clause-product
returns-clause-product c = is_product
