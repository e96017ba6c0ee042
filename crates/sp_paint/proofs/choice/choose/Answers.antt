use Rattle.std.proofs.Common.{sym, ◌∙◌}
use Rattle.std.specs.Str.{bytes_eq}
use Rattle.sp_lists.proofs.Positions.{none_more, position_absent, position_found}
use Rattle.sp_paint.specs.State.{name_of}
use Rattle.sp_paint.proofs.choice.choose.Goals as goal

pub returns-then-has_name : goal.returns-then-has_name
returns-then-has_name g c =
    position_found _ _ c.args.painters.now c.loop-place.place c.index-painters-place.result c.loop-place-test.true
    c.index-painters-place.is (sym c.has_name.ensures ∙ c.if-has_name.true) c.loop-place.invariant

pub loop-place-preserved : goal.loop-place-preserved
loop-place-preserved g c =
    none_more (λ p. bytes_eq (name_of p) c.args.name.now) (λ b. (goal.Painter-dyn g (b.vtable, b.value)).state b.value)
    c.args.painters.now c.loop-place.place c.index-painters-place.result c.loop-place-test.true
    c.index-painters-place.is (sym c.has_name.ensures ∙ c.if-has_name.false) c.loop-place.invariant

pub returns : goal.returns
returns g c =
    position_absent _ _ c.args.painters.now c.loop-place.place c.loop-place-test.false c.loop-place.invariant
