use Rattle.sp_board.proofs.Histories.{each_is_claimed_once, others_are_absent}
use Rattle.sp_board.proofs.law.history_law.Goals as goal

pub returns : goal.returns
returns c = record { claimed_once = each_is_claimed_once; others = others_are_absent }
