use Rattle.std.proofs.Common.{◌++◌, ◌∙◌, sym, ap, append_assoc, map}
use Rattle.std.specs.Prelude.{codes}
use Rattle.sp_defs.specs.Ladder.{ladders}
use Rattle.sp_ladder.specs.declared.step.Step.{Step}
use Rattle.sp_ladder.specs.Steps.{step_on}
use Rattle.sp_replies.specs.Vectors.{step_text}
use Rattle.sp_replies.specs.Words.{dash_or_words}
use Rattle.std.proofs.lemmas.Result.{on_ok_weaker}
use Rattle.sp_replies.proofs.WordRows.{appended, map_seen}
use Rattle.sp_replies.proofs.vectors.put_ladders.Goals as goal

pub returns : goal.returns
returns c =
    let e = c.args.e in
    let mu = c.args.mu.now in
    on_ok_weaker c.extend_from_slice.result
    (λ is. is
    ∙ ap (λ text. text ++ codes "\n") (c.in_ok-put_words.ensures
    ∙ ap (λ words. c.args.out.now.items ++ dash_or_words words)
    (ap (map (λ (s : Step). step_text s.ladder s.residue s.count)) (c.as_slice.ensures.value ∙ c.ladders.ensures)
    ∙ sym (map_seen (λ (s : Step). step_text s.ladder s.residue s.count) (step_on e mu) (ladders e mu))))
    ∙ append_assoc c.args.out.now.items _ (codes "\n"))
    (appended c.extend_from_slice.result _ _ _ c.extend_from_slice.ensures.items)
