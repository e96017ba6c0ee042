use Rattle.std.proofs.Common.{◌≡◌, ◌*◌, ◌≤◌, take}
use Rattle.std.specs.List.{sum}
use Rattle.sp_stream.proofs.summary.value_of.Given as goal

abbrev pub invariant-loop-byte : goal.invariant-loop-byte
invariant-loop-byte l = (l.value ≡ sum (take l.byte-index l.text)) × (l.value ≤ 255 * l.byte-index)
