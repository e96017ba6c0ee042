use Rattle.std.proofs.Common.{◌++◌, ◌∙◌, ap}
use Rattle.std.proofs.lemmas.Result.{on_ok_weaker}
use Rattle.sp_session.specs.Easel.{after_page, page_text}
use Rattle.sp_session.proofs.Painted.{chosen_within, page_at, painters_with}
use Rattle.sp_session.proofs.easel.Easel.page.Goals as goal

pub returns-clause-text : goal.returns-clause-text
unfolding page_text
returns-clause-text g c =
    let easel = c.args.self.now in
    on_ok_weaker c.paint.result
    (λ is. is ∙ ap (λ text. c.args.out.now.items ++ text)
    (page_at _ c.args.grid.now easel.painters.items easel.chosen c.index_mut-painter.result.now
    (chosen_within _ easel.painters.items easel.chosen easel.within c.requires)
    c.index_mut-painter.ensures.value))
    c.paint.ensures.text

pub returns-clause-next : goal.returns-clause-next
unfolding after_page
returns-clause-next g c =
    let easel = c.args.self.now in
    on_ok_weaker c.paint.result
    (λ is. ap (λ painters. record { chosen = easel.chosen; painters = painters })
    (painters_with _ c.args.grid.now easel.painters.items easel.chosen c.index_mut-painter.result.now
    c.paint.new.painter (chosen_within _ easel.painters.items easel.chosen easel.within c.requires)
    c.index_mut-painter.ensures.value is))
    c.paint.ensures.next
