use Rattle.std.proofs.Common.{◌≡◌, ◌+◌, ◌-◌, ◌++◌, ◌∷◌, [], List, ℕ, Some, None, false, length, take, drop, arith, ap}
use Rattle.std.proofs.Common.{sym, ◌∙◌, subst}
use Rattle.std.proofs.lemmas.Grind.{common_steps}
use Rattle.sp_stream.specs.declared.lines.TheConstants.{NEWLINE}
use Rattle.sp_stream.specs.Lines.{unless_empty}
use Rattle.sp_stream.specs.Summary.{IsSumOf, IsWith}
use Rattle.sp_stream.specs.Transcript.{Rules, replies, state_after}
use Rattle.sp_stream.proofs.Cutting.{first_newline}
use Rattle.sp_stream.proofs.Summing.{summed_next, summed_whole, within_more}
use Rattle.sp_stream.proofs.summary.summarize.Goals as goal

pub loop-end-preserved : goal.loop-end-preserved
loop-end-preserved g c =
    let at = c.loop-end.invariant in
    let now = g.A.Answers.state c.loop-end.answers in
    let rest : List ℕ = c.loop-end.rest.now in
    let i : ℕ = c.in-Some.end in
    let found = first_newline rest (Some i) c.in-Some.ensures in
    let later : List ℕ = take (length rest - (i + 1)) (drop (i + 1) rest) in
    let later_is : later ≡ drop (i + 1) rest = grind (arith, common_steps) in
    let done = c.in_ok-summary.ensures in (
      done.same ∙ at.0,
      summed_next (g.A.Answers.rules c.args.answers.now) (g.A.Answers.state c.args.answers.now) c.args.input.now now
          (g.A.Answers.state c.with_reply.new.answers) rest (take i rest) later c.loop-end.summary
          c.in_ok-summary.summary at.1 (found.1 ∙ ap (λ t. take i rest ++ NEWLINE ∷ t) (sym later_is)) found.0
          (done.next ∙ ap (λ (r : Rules g.A.Answers.State). r.next now (take i rest)) at.0)
          (λ texts h. subst (λ (r : Rules g.A.Answers.State).
          IsSumOf (texts ++ r.reply now (take i rest) ∷ []) c.in_ok-summary.summary) at.0 (done.sums texts h))
          done.within,
    )

pub with_text-requires : goal.with_text-requires
with_text-requires g c =
    let at = c.loop-end.invariant.1 in
    within_more (length at.done + 1) 16777217 c.in_ok-summary-2.summary (omega (arith, at.few, c.requires))
    (c.in_ok-summary-2.ensures.within (length at.done) at.within)

pub returns : goal.returns
returns g c =
    let at = c.loop-end.invariant in
    let now = g.A.Answers.state c.loop-end.answers in
    let next = g.A.Answers.state c.with_last.new.answers in
    let rest : List ℕ = c.loop-end.rest.now in
    let done = c.in_ok-summary-2.ensures in
    let closing = (g.A.Answers.rules c.with_last.new.answers).closing next in
    let text_is = c.deref.ensures.value ∙ c.in_ok-close.ensures.closing ∙ ap (λ t. t ++ closing) c.clear.ensures.items
    ∙ ap (λ (r : Rules g.A.Answers.State). r.closing next) (done.same ∙ at.0) in
    summed_whole (g.A.Answers.rules c.args.answers.now) (g.A.Answers.state c.args.answers.now) c.args.input.now now next
    rest c.loop-end.summary c.in_ok-summary-2.summary c.with_text.result at.1
    (first_newline rest None c.in_default.ensures)
    (done.next ∙ ap (λ (r : Rules g.A.Answers.State). state_after r now (unless_empty rest)) at.0)
    (λ texts h. subst (λ (r : Rules g.A.Answers.State).
    IsSumOf (texts ++ replies r now (unless_empty rest)) c.in_ok-summary-2.summary) at.0 (done.sums texts h))
    (subst (λ t. IsWith false t c.in_ok-summary-2.summary c.with_text.result) text_is c.with_text.ensures.is)
