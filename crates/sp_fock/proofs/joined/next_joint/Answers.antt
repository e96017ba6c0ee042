use Rattle.std.proofs.Common.{◌≡◌, ◌∷◌, sym, ◌∙◌, ap, Less, Equal, Greater}
use Rattle.sp_defs.specs.Partition.{compare}
use Rattle.sp_fock_law.specs.Joined.{joined}
use Rattle.sp_fock_law.proofs.Steps.{
  joined-none,
  joined-no_first,
  joined-no_second,
  joined-less,
  joined-equal,
  joined-greater,
}
use Rattle.sp_fock.proofs.joined.next_joint.Goals as goal

pub returns-in-None-None-clause-none : goal.returns-in-None-None-clause-none
returns-in-None-None-clause-none c = joined-none _ _ c.in-None-None.ensures.cases c.in-None-None.ensures'.cases

pub returns-in-None-Some-clause-some : goal.returns-in-None-Some-clause-some
returns-in-None-Some-clause-some c =
    joined-no_first _ _ _ _ c.in-None-Some.ensures.cases c.in-None-Some.ensures'.cases.0
    ∙ ap (λ j. j ∷ joined c.args.first.now c.in-None-Some.others.now) (sym c.only_second.ensures)

pub returns-in-Some-None-clause-some : goal.returns-in-Some-None-clause-some
returns-in-Some-None-clause-some c =
    joined-no_second _ _ _ _ c.in-Some-None.ensures.cases.0 c.in-Some-None.ensures'.cases
    ∙ ap (λ j. j ∷ joined c.in-Some-None.others.now c.args.second.now) (sym c.only_first.ensures)

pub returns-in-Less-clause-some : goal.returns-in-Less-clause-some
returns-in-Less-clause-some c =
    let pair = c.in-Some-Some in
    let ordered : compare pair.pair.now.0 pair.second_pair.now.0 ≡ Less =
    sym c.compare_parts.ensures ∙ c.in-Less.is in
    joined-less _ _ _ _ _ _ pair.ensures.cases.0 pair.ensures'.cases.0 ordered
    ∙ ap (λ j. j ∷ joined pair.others.now c.args.second.now) (sym c.only_first-in-Less.ensures)

pub returns-in-Equal-clause-some : goal.returns-in-Equal-clause-some
returns-in-Equal-clause-some c =
    let pair = c.in-Some-Some in
    let ordered : compare pair.pair.now.0 pair.second_pair.now.0 ≡ Equal =
    sym c.compare_parts.ensures ∙ c.in-Equal.is in
    joined-equal _ _ _ _ _ _ pair.ensures.cases.0 pair.ensures'.cases.0 ordered
    ∙ ap (λ j. j ∷ joined pair.others.now pair.second_others.now) (sym c.both.ensures)

pub returns-in-Greater-clause-some : goal.returns-in-Greater-clause-some
returns-in-Greater-clause-some c =
    let pair = c.in-Some-Some in
    let ordered : compare pair.pair.now.0 pair.second_pair.now.0 ≡ Greater =
    sym c.compare_parts.ensures ∙ c.in-Greater.is in
    joined-greater _ _ _ _ _ _ pair.ensures.cases.0 pair.ensures'.cases.0 ordered
    ∙ ap (λ j. j ∷ joined c.args.first.now pair.second_others.now) (sym c.only_second-in-Greater.ensures)
