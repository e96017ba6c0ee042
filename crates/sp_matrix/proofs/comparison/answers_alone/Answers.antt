use Rattle.std.proofs.Common.{◌+◌, ◌++◌, ◌∷◌, [], List, ℕ, Bool, Result, take, sym, ◌∙◌, ap, subst}
use Rattle.std.proofs.lemmas.List.{take_more}
use Rattle.std.specs.List.{AllZip}
use Rattle.sp_module_defs.specs.Cells.{cell_at}
use Rattle.sp_matrix.specs.declared.comparison.CompareFault.{CompareFault}
use Rattle.sp_matrix.specs.Agreements.{LineIs}
use Rattle.sp_lists.proofs.Zips.{zip_more}
use Rattle.sp_matrix.proofs.comparison.answers_alone.Goals as goal

pub loop-p-preserved : goal.loop-p-preserved
loop-p-preserved c =
    let is = λ (p : List ℕ) (answer : Result Bool CompareFault).
    LineIs c.args.e c.args.limit (cell_at c.args.grid.now) p answer in
    let xs = c.lines-p-items.result.now in
    let i = c.loop-p.p-index in
    let x = c.p-item.result in
    let old = c.loop-p.answers.items in
    let one = c.line_agrees.result in
    record {
      same = c.loop-p.invariant.same;
      answers =
          subst (λ ys. AllZip is (take (i + 1) xs) ys) (sym c.in_ok-push.ensures.items)
          (subst (λ zs. AllZip is zs (old ++ one ∷ []))
          (sym (take_more xs i x c.loop-p-test.true ∙ ap (λ y. take i xs ++ y ∷ []) (sym c.p-item.is)))
          (zip_more is (take i xs) old x one c.loop-p.invariant.answers c.line_agrees.ensures));
    }
