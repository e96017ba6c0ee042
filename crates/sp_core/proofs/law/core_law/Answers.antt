use Rattle.sp_core.proofs.Runs.{throughout, shared}
use Rattle.sp_core.proofs.Claims.{claims_in_order}
use Rattle.sp_core.proofs.Waits.{waits, least_never_waits}
use Rattle.sp_core.proofs.Going.{names_unless_ended, named_can_move, ends_settled}
use Rattle.sp_core.proofs.Falls.{each_change_falls, only_waits_stay, few_changes}
use Rattle.sp_core.specs.Law.{IsShared, OpenComeLast, WaitsAreForEarlier, LeastNeverWaits, NamesUnlessEnded}
use Rattle.sp_core.specs.Law.{NamedCanMove, EndsSettled, EachChangeFalls, OnlyWaitsStay}
use Rattle.sp_core.proofs.law.core_law.Goals as goal

pub returns : goal.returns
returns c = record {
  shared = throughout IsShared shared;
  open_come_last = throughout OpenComeLast (λ s h. h.late);
  claims_in_order = claims_in_order;
  waits = throughout WaitsAreForEarlier waits;
  least_never_waits = throughout LeastNeverWaits least_never_waits;
  names_unless_ended = throughout NamesUnlessEnded names_unless_ended;
  named_can_move = throughout NamedCanMove named_can_move;
  ends_settled = throughout EndsSettled ends_settled;
  each_change_falls = throughout EachChangeFalls each_change_falls;
  only_waits_stay = throughout OnlyWaitsStay only_waits_stay;
  few_changes = few_changes;
}
