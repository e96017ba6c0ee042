use Rattle.std.proofs.Common.{◌≡◌, ℕ, ◌+◌, ◌-◌, ◌<◌, ◌≤◌, get_or, length, arith, lit<, subst, sym, ◌∙◌, ap, ap₂, map}
use Rattle.std.proofs.Common.{◌++◌, ◌∷◌, []}
use Rattle.std.proofs.lemmas.List.{length-map}
use Rattle.sp_defs.specs.Ladder.{on_ladder, ladders}
use Rattle.sp_ladder.specs.declared.step.Step.{Step}
use Rattle.sp_ladder.specs.Steps.{step_on}
use Rattle.sp_ladder.proofs.Counts.{with_nodes, steps_few, found_more, found_same}
use Rattle.sp_ladder.specs.declared.counting.TheConstants.{LADDERS}
use Rattle.sp_ladder.proofs.counting.ladders.Goals as goal
use Rattle.sp_ladder.proofs.counting.ladders.Goals.{then-count-gt0, else-count-gt0}

pub push-requires : goal.push-requires
push-requires c =
    let mu = c.args.mu.now in
    let l = c.loop-ladder.ladder in
    let within : l < LADDERS = omega (arith, c.ladders_end-ladder-end.ensures.bound) in
    let here : 1 + (l - 1) ≡ l = omega arith in
    let some : 0 < on_ladder c.args.e mu (1 + (l - 1)) =
    subst (λ n. 0 < n) (c.nodes_on_ladders-counts.ensures.counts l within ∙ ap (on_ladder c.args.e mu) (sym here))
    c.if-count-gt0.true in
    let size : length c.loop-ladder.found.items ≡ length (with_nodes c.args.e mu (l - 1)) =
    ap length c.loop-ladder.invariant ∙ length-map (with_nodes c.args.e mu (l - 1)) (step_on c.args.e mu) in
    let few : length c.loop-ladder.found.items < 32 =
    subst (λ n. n < 32) (sym size) (steps_few c.args.e (l - 1) mu c.nodes_on_ladders-counts.ensures.held.small some) in
    (lit< tt, few)

pub loop-ladder-preserved : goal.loop-ladder-preserved
loop-ladder-preserved c =
    let mu = c.args.mu.now in
    let l = c.loop-ladder.ladder in
    let within : l < LADDERS = omega (arith, c.ladders_end-ladder-end.ensures.bound) in
    let count : get_or c.nodes_on_ladders-counts.result l 0 ≡ on_ladder c.args.e mu l =
    c.nodes_on_ladders-counts.ensures.counts l within in
    let least : 1 ≤ l = c.loop-ladder.auto.ladder in
    elim c.if-count-gt0.branch [
      | then-count-gt0 w ↦
          let some : 0 < on_ladder c.args.e mu l = subst (λ n. 0 < n) count w.if-count-gt0.true in
          let step : Step =
          record {
            ladder = l;
            residue = w.ladder_residue.result;
            count =
                get_or c.nodes_on_ladders-counts.result l 0;
          } in
          let is : step ≡ step_on c.args.e mu l =
          ap₂ (λ (r n : ℕ). let s : Step = record { ladder = l; residue = r; count = n } in s) w.ladder_residue.ensures
          count in
          ap (λ f. f.items) w.found-is ∙ w.push.ensures.items ∙ ap (λ s. c.loop-ladder.found.items ++ (s ∷ [])) is
          ∙ found_more c.args.e l mu c.loop-ladder.found.items least some c.loop-ladder.invariant
      | else-count-gt0 w ↦
          ap (λ f. f.items) w.found-is
          ∙ found_same c.args.e l mu c.loop-ladder.found.items least
          (subst (λ n. n ≤ 0) count w.if-count-gt0.false) c.loop-ladder.invariant
    ]

pub returns : goal.returns
unfolding ladders
returns c =
    let last : c.loop-ladder.ladder - 1 ≡ c.ladders_end-ladder-end.result = omega arith in
    c.loop-ladder.invariant
    ∙ ap (λ n. map (step_on c.args.e c.args.mu.now) (with_nodes c.args.e c.args.mu.now n))
    (last ∙ c.ladders_end-ladder-end.ensures.value)
