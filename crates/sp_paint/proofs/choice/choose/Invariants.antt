use Rattle.std.proofs.Common.{take}
use Rattle.std.specs.Str.{bytes_eq}
use Rattle.sp_lists.proofs.Positions.{NoneOf}
use Rattle.sp_paint.specs.State.{name_of}
use Rattle.sp_paint.proofs.choice.choose.Given as goal

abbrev pub invariant-loop-place : goal.invariant-loop-place
invariant-loop-place g l =
    NoneOf (λ p. bytes_eq (name_of p) l.name) (λ b. (goal.Painter-dyn g (b.vtable, b.value)).state b.value)
    (take l.place l.painters)
