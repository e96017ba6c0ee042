use Rattle.std.proofs.Common.{◌≡◌, ◌≢◌, ◌<◌, ◌≤◌, ◌⊎◌, inl, inr, ℕ, List, [], length, get_or, sym, ◌∙◌, ap, arith}
use Rattle.std.proofs.Common.{eq-or-lt_of_le}
use Rattle.std.proofs.lemmas.List.{get_or_default}
use Rattle.sp_lists.proofs.Comparing.{told_other, told_same}
use Rattle.sp_module_defs.specs.Cells.{place}
use Rattle.sp_cartan.proofs.Placing.{at_place, first_place}
use Rattle.sp_cartan.proofs.squares.place_from.Goals as goal

-- a place up to that of p at which p doesn't stand is before it
before : (lines : List (List ℕ)) (p : List ℕ) (k : ℕ) (here : List ℕ) → place lines p < length lines →
    k ≤ place lines p → here ≡ get_or lines k here → here ≢ p → k < place lines p
before lines p k here within le is other = settle (eq-or-lt_of_le le)
  where
    settle : (k ≡ place lines p) ⊎ (k < place lines p) → k < place lines p
    settle (inr lt) = lt
    settle (inl same) =
        absurd (other (is
        ∙ get_or_default lines k here [] (omega (arith, le, within))
        ∙ ap (λ j. get_or lines j []) same
        ∙ at_place lines p within))

pub loop-line-preserved : goal.loop-line-preserved
loop-line-preserved c =
    let lt = before c.args.lines.now c.args.p.now c.loop-line.line c.index-lines-line.result c.requires.line
    c.loop-line.invariant c.index-lines-line.is
    (told_other c.index-lines-line.result c.args.p.now c.ne.result c.ne.ensures c.loop-line-test.true) in
    omega (arith, lt)

pub loop-line-smaller : goal.loop-line-smaller
loop-line-smaller c =
    let lt = before c.args.lines.now c.args.p.now c.loop-line.line c.index-lines-line.result c.requires.line
    c.loop-line.invariant c.index-lines-line.is
    (told_other c.index-lines-line.result c.args.p.now c.ne.result c.ne.ensures c.loop-line-test.true) in
    omega (arith, lt)

pub returns : goal.returns
returns c =
    let lines = c.args.lines.now in
    let p = c.args.p.now in
    let line = c.loop-line.line in
    let here = c.index-lines-line.result in
    let within : line < length lines = omega (arith, c.loop-line.invariant, c.requires.line) in
    let first = first_place lines p line within
    (sym (c.index-lines-line.is ∙ get_or_default lines line here [] within)
    ∙ told_same here p c.ne.result c.ne.ensures c.loop-line-test.false) in
    omega (arith, first, c.loop-line.invariant)
