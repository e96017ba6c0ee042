use Rattle.std.proofs.Common.{◌≡◌, ◌<◌, ◌-◌, [], length, true, false, get_or, sym, ◌∙◌, ap, subst, arith, IfOk}
use Rattle.std.proofs.lemmas.List.{get_or_default}
use Rattle.sp_defs.specs.Power.{vector_of}
use Rattle.sp_partition.specs.OrderLaws.{equal_lists, lists_equal}
use Rattle.sp_matrix.specs.Scope.{shown}
use Rattle.sp_matrix.proofs.Shown.{shown_nought}
use Rattle.sp_matrix.proofs.Passed.{value_here, value_absent}
use Rattle.sp_matrix.proofs.cells.cell.Goals as goal
use Rattle.sp_matrix.proofs.cells.cell.Goals.{else-end-gt0-via-then-end-gt0+else-eq, else-end-gt0-via-else-end-gt0}

pub returns-then-eq : goal.returns-then-eq
returns-then-eq c =
    let v = c.args.row.now in
    let k = c.args.end - 1 in
    let first = c.index-pairs-end.result in
    let pair = c.index-pairs-end-then-eq.result in
    let within : k < length v.entries = omega (arith, c.if-end-gt0.true, c.requires.passed.within) in
    let pair_is : get_or c.pairs-pairs.result.now k pair ≡ get_or v.entries k first =
    ap (λ es. get_or es k pair) c.pairs-pairs.ensures.value
    ∙ get_or_default v.entries k pair first within in
    let line : (get_or v.entries k first).0 ≡ c.args.line.now =
    ap (λ es. (get_or es k first).0) (sym c.pairs-pairs.ensures.value)
    ∙ equal_lists (get_or c.pairs-pairs.result.now k first).0 c.args.line.now (sym c.eq.ensures ∙ c.if-eq.true) in
    let value = value_here v c.pairs-pairs.ensures.held c.args.line.now c.args.end c.requires first c.if-end-gt0.true
    line in
    subst (λ q. IfOk c.shown_as.result (λ cell. cell ≡ shown c.args.form q)) (ap (λ t. t.1) pair_is ∙ sym value)
    c.shown_as.ensures

pub returns-else-end-gt0 : goal.returns-else-end-gt0
returns-else-end-gt0 c =
    let v = c.args.row.now in
    let absent : vector_of v.entries c.args.line.now ≡ [] = elim c.else-end-gt0.branch [
      | else-end-gt0-via-then-end-gt0+else-eq w ↦ value_absent v c.pairs-pairs.ensures.held c.args.line.now c.args.end
          c.requires w.index-pairs-end.result
          (λ some same. let k : true ≡ false =
          sym (lists_equal (get_or c.pairs-pairs.result.now (c.args.end - 1) w.index-pairs-end.result).0
          c.args.line.now (ap (λ es. (get_or es (c.args.end - 1) w.index-pairs-end.result).0)
          c.pairs-pairs.ensures.value ∙ same))
          ∙ (sym w.eq.ensures ∙ w.if-eq.false) in cc)
      | else-end-gt0-via-else-end-gt0 w ↦ value_absent v c.pairs-pairs.ensures.held c.args.line.now c.args.end
          c.requires ([], []) (λ some. absurd (omega (arith, some, w.if-end-gt0.false)))
    ] in
    c.zero.ensures ∙ sym (ap (shown c.args.form) absent ∙ shown_nought c.args.form)
