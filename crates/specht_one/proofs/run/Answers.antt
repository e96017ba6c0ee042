use Rattle.std.proofs.Common.{false, map, string_bytes, List, ap, ◌∙◌, refl, inl, inr}
use denote.Param.Object.{read_made}
use mir.Syntax.{Dict}
use Rattle.sp_paint.specs.State.{PainterState, named_by_form}
use Rattle.sp_paint.specs.declared.form.Form.TheVariants.{Plain, Tex, Gap}
use Rattle.sp_session.specs.Run.{IsRun}
use Rattle.sp_session.proofs.Painted.{standard_states, with_standard}
use Rattle.specht_one.proofs.run.Object-1.{Members}
use Rattle.specht_one.proofs.run.OwnLists.{own-1}
use Rattle.specht_one.proofs.run.Goals as goal

pub returns-clause-run : goal.returns-clause-run
returns-clause-run g c =
    with_standard
    (λ (painters : List PainterState). IsRun g.S.Source.left g.S.Source.faults g.S.Source.steady g.K.Sink.written
    g.K.Sink.faults g.K.Sink.steady false (map string_bytes c.args.words.now) painters c.args.source.now
    c.run_alone.new.source c.args.sink.now c.run_alone.new.sink c.run_alone.result)
    _ c.push-3.new.self.items c.run_alone.ensures
    (standard_states _ c.new-painters.result.items c.push.new.self.items c.push-2.new.self.items
    c.push-3.new.self.items c.into_dyn_box.result c.into_dyn_box-in_ok-new-2.result
    c.into_dyn_box-in_ok-new-3.result c.new-painters.ensures.items c.in_ok-push.ensures.items
    c.in_ok-push-2.ensures.items c.in_ok-push-3.ensures.items
    (read_made {G = Members} {C = Dict} own-1 (own-1.entry (inl tt)) (inl tt) refl PainterState
    (λ kind painter. kind.1.state painter) _ _ c.in_ok-new.field-0.value c.into_dyn_box.ensures.1
    ∙ (ap (λ painter. named_by_form Plain painter.pages) c.in_ok-new.ensures.ok ∙ c.new.ensures))
    (read_made {G = Members} {C = Dict} own-1 (own-1.entry (inr (inl tt))) (inr (inl tt)) refl PainterState
    (λ kind painter. kind.1.state painter) _ _ c.in_ok-new-2.field-0.value c.into_dyn_box-in_ok-new-2.ensures.1
    ∙ (ap (λ painter. named_by_form Tex painter.pages) c.in_ok-new-2.ensures.ok ∙ c.new-3.ensures))
    (read_made {G = Members} {C = Dict} own-1 (own-1.entry (inr (inr (inl tt)))) (inr (inr (inl tt))) refl PainterState
    (λ kind painter. kind.1.state painter) _ _ c.in_ok-new-3.field-0.value c.into_dyn_box-in_ok-new-3.ensures.1
    ∙ (ap (λ painter. named_by_form Gap painter.pages) c.in_ok-new-3.ensures.ok ∙ c.new-5.ensures)))
