use Rattle.std.proofs.Common.{◌≡◌, ◌++◌, flat_map, map, take}
use Rattle.sp_paint.specs.Page.{trailer_of}
use Rattle.sp_session.proofs.easel.put_trailers.Given as goal

abbrev pub invariant-loop-painter : goal.invariant-loop-painter
invariant-loop-painter g l =
    l.out.items ≡ l.initial.out.items
    ++ flat_map trailer_of
    (map (λ b. (goal.Painter-dyn g (b.vtable, b.value)).state b.value) (take l.painter-index l.painters))
