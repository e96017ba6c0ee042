use Rattle.std.proofs.Common.{List, ℕ, Bool, Result, ◌∙◌}
use Rattle.rayon.proofs.ListFacts.{IfOk-then}
use Rattle.rayon.proofs.ToStd.{slice-AllZip}
use Rattle.sp_module_defs.specs.Cells.{cell_at}
use Rattle.sp_matrix.specs.declared.comparison.CompareFault.{CompareFault}
use Rattle.sp_matrix.specs.Agreements.{LineIs}
use Rattle.sp_matrix.proofs.comparison.answers.Goals as goal

pub returns : goal.returns
returns g c =
    let is = λ (p : List ℕ) (answer : Result Bool CompareFault).
    LineIs c.args.e c.args.limit (cell_at c.args.grid.now) p answer in
    IfOk-then c.collect.result _ _ c.collect.ensures (λ v h.
    let chain = rw (c.map.ensures.base, c.map.ensures.f) at h.1 in
    rw h.2 (slice-AllZip chain.0 c.args.grid.now.lines (chain.1 ∙ c.par_iter.ensures ∙ c.lines.ensures.value) is h.0
    chain.2))
