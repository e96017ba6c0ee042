use Rattle.std.proofs.Common.{◌≡◌, ◌+◌, ◌-◌, ◌++◌, [], ◌∷◌, List, ℕ, Some, None, length, take, drop, arith, ap, sym}
use Rattle.std.proofs.Common.{◌∙◌, refl, append_assoc, append-nil, subst}
use Rattle.std.proofs.lemmas.Grind.{common_steps}
use Rattle.sp_stream.specs.declared.lines.Stop.{Stop}
use Rattle.sp_stream.specs.declared.lines.Stop.TheVariants.{Memory}
use Rattle.sp_stream.specs.Transcript.{texts_of}
use Rattle.sp_stream.specs.Lines.{IsOneLine}
use Rattle.sp_stream.specs.declared.lines.TheConstants.{NEWLINE}
use Rattle.sp_stream.specs.Writing.{Feeds, Stops}
use Rattle.sp_stream.proofs.Cutting.{first_newline}
use Rattle.sp_stream.proofs.Feeding.{feeds_begun, feeds_next, feeds_rest, next_stops, chunk_stops}
use Rattle.sp_stream.proofs.Returning.{if_err}
use Rattle.sp_stream.proofs.Sinks.{runs_out_at_once}
use Rattle.sp_stream.proofs.lines.feed.Goals as goal

pub loop-end-init : goal.loop-end-init
loop-end-init g c =
    let pending : List ℕ = c.args.pending.now.items in
    let begun : Feeds g.K.Sink.written g.K.Sink.steady g.K.Sink.faults c.args.sink.now c.args.sink.now
    (g.A.Answers.rules c.args.answers.now) (g.A.Answers.state c.args.answers.now)
    (g.A.Answers.state c.args.answers.now) pending (pending ++ []) =
    subst (λ (t : List ℕ). Feeds g.K.Sink.written g.K.Sink.steady g.K.Sink.faults c.args.sink.now c.args.sink.now
    (g.A.Answers.rules c.args.answers.now) (g.A.Answers.state c.args.answers.now)
    (g.A.Answers.state c.args.answers.now) pending t) (sym (append-nil pending))
    (feeds_begun _ _ _ _ _ _ pending c.requires) in
    record { same = refl; seen = ([], refl, begun) }

pub returns-in_err-end_line-clause-stops : goal.returns-in_err-end_line-clause-stops
returns-in_err-end_line-clause-stops g c =
    let at = c.loop-end.invariant in
    let rest : List ℕ = c.loop-end.rest.now in
    let i : ℕ = c.in-Some.end in
    let found = first_newline rest (Some i) c.in-Some.ensures in
    if_err c.from_residual.result c.from_residual.ensures.1 _ (λ stop is more.
    subst (λ (s : Stop). Stops g.K.Sink.written g.K.Sink.steady g.K.Sink.faults c.args.sink.now c.end_line.new.sink
    (texts_of (g.A.Answers.rules c.args.answers.now) (g.A.Answers.state c.args.answers.now)
    (c.args.pending.now.items ++ (c.args.chunk.now ++ more))) s) (sym is)
    (next_stops _ _ _ _ _ _ _ _ _ _ c.loop-end.pending.items c.args.pending.now.items at.seen.0 rest (take i rest)
    (drop (i + 1) rest) c.args.chunk.now more c.in_err-end_line.field-0.0 at.same at.seen.2 at.seen.1 found.1 found.0
    c.in_err-end_line.ensures.stops))

pub loop-end-preserved : goal.loop-end-preserved
loop-end-preserved g c =
    let at = c.loop-end.invariant in
    let rest : List ℕ = c.loop-end.rest.now in
    let i : ℕ = c.in-Some.end in
    let found = first_newline rest (Some i) c.in-Some.ensures in
    let line : List ℕ = take i rest ++ NEWLINE ∷ [] in
    let next : List ℕ = take (length rest - (i + 1)) (drop (i + 1) rest) in
    let next_is : next ≡ drop (i + 1) rest = grind (arith, common_steps) in
    let rest_is : rest ≡ line ++ next =
    found.1 ∙ ap (λ t. take i rest ++ NEWLINE ∷ t) (sym next_is) ∙
    sym (append_assoc (take i rest) (NEWLINE ∷ []) next) in
    record {
      same = c.in_ok-end_line.ensures.same ∙ at.same;
      seen = (
        at.seen.0 ++ line,
        at.seen.1 ∙ ap (λ t. at.seen.0 ++ t) rest_is ∙ sym (append_assoc at.seen.0 line next),
        subst (λ (p : List ℕ). Feeds g.K.Sink.written g.K.Sink.steady g.K.Sink.faults c.args.sink.now
            c.end_line.new.sink (g.A.Answers.rules c.args.answers.now) (g.A.Answers.state c.args.answers.now)
            (g.A.Answers.state c.end_line.new.answers) p (c.args.pending.now.items ++ (at.seen.0 ++ line)))
            (sym c.in_ok-end_line.ensures.cleared)
            (feeds_next _ _ _ _ _ _ _ _ _ _ _ _ _ _ (take i rest) at.same at.seen.2 found.0
            c.in_ok-end_line.ensures.next c.in_ok-end_line.ensures.puts),
      );
    }

pub returns-in_err-extend_from_slice-clause-stops :
    goal.returns-in_err-extend_from_slice-clause-stops
returns-in_err-extend_from_slice-clause-stops g c =
    let at = c.loop-end.invariant in
    if_err c.from_residual-in_err-extend_from_slice.result c.from_residual-in_err-extend_from_slice.ensures.1 _
    (λ stop is more.
    subst (λ (s : Stop). Stops g.K.Sink.written g.K.Sink.steady g.K.Sink.faults c.args.sink.now c.loop-end.sink
    (texts_of (g.A.Answers.rules c.args.answers.now) (g.A.Answers.state c.args.answers.now)
    (c.args.pending.now.items ++ (c.args.chunk.now ++ more))) s) (sym is)
    (chunk_stops g.K.Sink.written g.K.Sink.steady g.K.Sink.faults _ _ c.loop-end.sink c.loop-end.sink _ _
    c.loop-end.pending.items c.args.pending.now.items at.seen.0 c.loop-end.rest.now c.args.chunk.now more Memory
    at.seen.2 at.seen.1 (runs_out_at_once _ _ _ c.loop-end.sink _)))

pub returns-clause-feeds : goal.returns-clause-feeds
returns-clause-feeds g c =
    let at = c.loop-end.invariant in
    let rest : List ℕ = c.loop-end.rest.now in
    let one : IsOneLine rest = first_newline rest None c.in_default.ensures in
    let taken = feeds_rest _ _ _ _ _ _ _ _ c.loop-end.pending.items c.args.pending.now.items at.seen.0 rest
    at.seen.2 one in
    subst (λ (t : List ℕ). Feeds g.K.Sink.written g.K.Sink.steady g.K.Sink.faults c.args.sink.now c.loop-end.sink
    (g.A.Answers.rules c.args.answers.now) (g.A.Answers.state c.args.answers.now)
    (g.A.Answers.state c.loop-end.answers) t (c.args.pending.now.items ++ c.args.chunk.now))
    (sym c.in_ok-extend_from_slice.ensures.items)
    (subst (λ (t : List ℕ). Feeds g.K.Sink.written g.K.Sink.steady g.K.Sink.faults c.args.sink.now c.loop-end.sink
    (g.A.Answers.rules c.args.answers.now) (g.A.Answers.state c.args.answers.now)
    (g.A.Answers.state c.loop-end.answers) (c.loop-end.pending.items ++ rest) (c.args.pending.now.items ++ t))
    (sym at.seen.1) taken)
