use Rattle.std.proofs.Common.{◌≤◌, ◌++◌, arith, sym, ◌∙◌, ap, append_assoc}
use Rattle.sp_fock_law.specs.Tally.{Totals}
use Rattle.sp_fock.specs.Growth.{grown_to, grown_along, growths_of, total_at}
use Rattle.sp_fock.proofs.Growing.{head_fits, rest_fits, grown_step}
use Rattle.sp_fock.proofs.totals.grown_totals.Goals as goal

pub grown-requires : goal.grown-requires
grown-requires c =
    let fits : grown_to c.args.factor c.in-Some.growth ≤ c.args.limit =
    head_fits c.args.factor c.in-Some.growth _ _ c.in-Some.ensures.steps c.args.limit c.loop-growth.invariant.2 in
    omega arith

pub loop-growth-preserved : goal.loop-growth-preserved
loop-growth-preserved c =
    let factor = c.args.factor in
    let growth = c.in-Some.growth in
    let before : Totals = c.loop-growth.sums.items in
    let rest : Totals = grown_along factor (growths_of c.next.new.self) in (
      tt,
      tt,
      rest_fits factor growth _ _ c.in-Some.ensures.steps c.args.limit c.loop-growth.invariant.2,
      ap (λ xs. xs ++ rest) c.in_ok-push_total.ensures
          ∙ ap (λ k. (before ++ total_at growth.at k) ++ rest) c.grown.ensures
          ∙ append_assoc before (total_at growth.at (grown_to factor growth)) rest
          ∙ ap (λ r. before ++ r) (sym (grown_step factor growth _ _ c.in-Some.ensures.steps))
          ∙ c.loop-growth.invariant.3,
    )
