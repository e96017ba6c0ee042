use Rattle.std.proofs.Common.{◌≡◌, ◌∷◌, length, sym, ◌∙◌, ap, Less, Equal, Greater}
use Rattle.std.proofs.lemmas.List.{length-map}
use Rattle.sp_defs.specs.Partition.{compare}
use Rattle.sp_fock_law.specs.Joined.{joined}
use Rattle.sp_fock_law.specs.Tally.{Totals, constant, constants}
use Rattle.sp_fock_law.proofs.Steps.{
  joined-none,
  joined-no_first,
  joined-no_second,
  joined-less,
  joined-equal,
  joined-greater,
}
use Rattle.sp_fock.proofs.totals.next_growth.Goals as goal

no_constants : (ts : Totals) → length ts ≡ 0 → length (constants ts) ≡ 0
no_constants ts h = length-map ts (λ t. (t.0, constant t.1)) ∙ h

pub returns-in-None-None-clause-none : goal.returns-in-None-None-clause-none
returns-in-None-None-clause-none c =
    joined-none _ _ (no_constants _ c.in-None-None.ensures.cases) c.in-None-None.ensures'.cases

pub returns-in-None-Some-clause-some : goal.returns-in-None-Some-clause-some
unfolding constant
returns-in-None-Some-clause-some c =
    joined-no_first _ _ _ _ (no_constants _ c.in-None-Some.ensures.cases) c.in-None-Some.ensures'.cases.0
    ∙ ap (λ j. j ∷ joined (constants c.args.totals.now) c.in-None-Some.others.now) (sym c.only_term.ensures)

pub returns-in-Some-None-clause-some : goal.returns-in-Some-None-clause-some
returns-in-Some-None-clause-some c =
    joined-no_second _ _ _ _ (ap constants c.in-Some-None.ensures.cases.0) c.in-Some-None.ensures'.cases
    ∙ ap (λ j. j ∷ joined (constants c.in-Some-None.others.now) c.args.terms.now) (sym c.only_total.ensures)

pub returns-in-Less-clause-some : goal.returns-in-Less-clause-some
returns-in-Less-clause-some c =
    let both = c.in-Some-Some in
    let ordered : compare both.total.now.0 both.term.now.0 ≡ Less =
    sym c.compare_parts.ensures ∙ c.in-Less.is in
    joined-less _ _ _ _ _ _ (ap constants both.ensures.cases.0) both.ensures'.cases.0 ordered
    ∙ ap (λ j. j ∷ joined (constants both.others.now) c.args.terms.now) (sym c.only_total-in-Less.ensures)

pub returns-in-Equal-clause-some : goal.returns-in-Equal-clause-some
returns-in-Equal-clause-some c =
    let both = c.in-Some-Some in
    let ordered : compare both.total.now.0 both.term.now.0 ≡ Equal =
    sym c.compare_parts.ensures ∙ c.in-Equal.is in
    joined-equal _ _ _ _ _ _ (ap constants both.ensures.cases.0) both.ensures'.cases.0 ordered
    ∙ ap (λ j. j ∷ joined (constants both.others.now) both.other_terms.now) (sym c.total_and_term.ensures)

pub returns-in-Greater-clause-some : goal.returns-in-Greater-clause-some
unfolding constant
returns-in-Greater-clause-some c =
    let both = c.in-Some-Some in
    let ordered : compare both.total.now.0 both.term.now.0 ≡ Greater =
    sym c.compare_parts.ensures ∙ c.in-Greater.is in
    joined-greater _ _ _ _ _ _ (ap constants both.ensures.cases.0) both.ensures'.cases.0 ordered
    ∙ ap (λ j. j ∷ joined (constants c.args.totals.now) both.other_terms.now) (sym c.only_term-in-Greater.ensures)
