use Rattle.std.proofs.Common.{◌≡◌, ℕ, List, false, take, get_or, []}
use Rattle.std.specs.List.{list_any}
use Rattle.sp_cert.specs.Order.{same_content}
use Rattle.sp_cert.specs.Counts.{AreContents}
use Rattle.sp_cert.proofs.contents.is_leader.Given as goal

abbrev pub invariant-loop-earlier : goal.invariant-loop-earlier
invariant-loop-earlier l =
    (e : ℕ) (list : List (List ℕ)) → AreContents e list l.contents →
    list_any (same_content e (get_or list l.place [])) (take l.earlier list) ≡ false
