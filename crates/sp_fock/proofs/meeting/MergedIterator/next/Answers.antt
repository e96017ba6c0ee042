use Rattle.std.proofs.Common.{◌≡◌, ◌∷◌, Some, None, length, sym, ◌∙◌, ap, ap₂, arith, Less, Equal, Greater}
use Rattle.std.specs.Vec.Iter.{into_iter_items}
use Rattle.sp_defs.specs.Partition.{compare}
use Rattle.sp_fock_law.specs.Joined.{joined}
use Rattle.sp_fock_law.proofs.Steps.{joined-none, joined-no_first, joined-no_second}
use Rattle.sp_fock_law.proofs.Steps.{joined-less, joined-equal, joined-greater}
use Rattle.sp_fock.specs.Left.{pairs_left}
use Rattle.sp_fock.specs.Merged.{meeting_of}
use Rattle.sp_fock.proofs.meeting.MergedIterator.next.Goals as goal

pub returns-in-None-None-clause-steps : goal.returns-in-None-None-clause-steps
returns-in-None-None-clause-steps c =
    let none : c.args.self.now.head ≡ None = sym c.take.ensures.value ∙ c.in-None-None.is-0 in (
      joined-none _ _ (ap (λ h. length (pairs_left h c.args.self.now.others)) none) c.in-None-None.ensures.cases,
      joined-none _ _ (ap (λ h. length (pairs_left h c.args.self.now.others)) c.take.ensures.after)
          c.in-None-None.ensures.cases,
    )

pub returns-in-None-Some-clause-steps : goal.returns-in-None-Some-clause-steps
returns-in-None-Some-clause-steps c =
    let none : c.args.self.now.head ≡ None = sym c.take.ensures.value ∙ c.in-None-Some.is-0 in
    joined-no_first _ _ _ _ (ap (λ h. length (pairs_left h c.args.self.now.others)) none)
    c.in-None-Some.ensures.cases.0
    ∙ ap₂ (λ m h. m ∷ joined (pairs_left h c.args.self.now.others) c.in-None-Some.terms.now)
    (sym c.only_term.ensures) (none ∙ sym c.take.ensures.after)

pub returns-in-None-Some-clause-goes : goal.returns-in-None-Some-clause-goes
returns-in-None-Some-clause-goes c =
    let shorter = ap length (returns-in-None-Some-clause-steps c) in
    record { on = λ _. (tt, tt, omega (arith, shorter)); keeps = tt; rests = λ _. tt }

pub returns-in-Some-None-clause-steps : goal.returns-in-Some-None-clause-steps
returns-in-Some-None-clause-steps c =
    let head : c.args.self.now.head ≡ Some c.in-Some-None.pair = sym c.take.ensures.value ∙ c.in-Some-None.is-0 in
    let left : pairs_left c.args.self.now.head c.args.self.now.others
    ≡ c.in-Some-None.pair ∷ into_iter_items c.args.self.now.others =
    ap (λ h. pairs_left h c.args.self.now.others) head in
    joined-no_second _ _ _ _ left c.in-Some-None.ensures'.cases
    ∙ ap (λ m. m ∷ joined (into_iter_items c.args.self.now.others) c.args.self.now.second.now) (sym c.only_pair.ensures)
    ∙ ap₂ (λ es s. meeting_of c.only_pair.result ∷ joined es s.now) (sym c.advance.ensures.pairs)
    (sym c.advance.ensures.second)

pub returns-in-Some-None-clause-goes : goal.returns-in-Some-None-clause-goes
returns-in-Some-None-clause-goes c =
    let shorter = ap length (returns-in-Some-None-clause-steps c) in
    record { on = λ _. (tt, tt, omega (arith, shorter)); keeps = tt; rests = λ _. tt }

pub returns-in-Less-clause-steps : goal.returns-in-Less-clause-steps
returns-in-Less-clause-steps c =
    let both = c.in-Some-Some in
    let head : c.args.self.now.head ≡ Some both.pair = sym c.take.ensures.value ∙ both.is-0 in
    let left : pairs_left c.args.self.now.head c.args.self.now.others
    ≡ both.pair ∷ into_iter_items c.args.self.now.others =
    ap (λ h. pairs_left h c.args.self.now.others) head in
    let ordered : compare both.pair.0 both.term.now.0 ≡ Less =
    sym c.compare_parts.ensures ∙ c.in-Less.is in
    joined-less _ _ _ _ _ _ left both.ensures'.cases.0 ordered
    ∙ ap (λ m. m ∷ joined (into_iter_items c.args.self.now.others) c.args.self.now.second.now)
    (sym c.only_pair-in-Less.ensures)
    ∙ ap₂ (λ es s. meeting_of c.only_pair-in-Less.result ∷ joined es s.now) (sym c.advance-in-Less.ensures.pairs)
    (sym c.advance-in-Less.ensures.second)

pub returns-in-Less-clause-goes : goal.returns-in-Less-clause-goes
returns-in-Less-clause-goes c =
    let shorter = ap length (returns-in-Less-clause-steps c) in
    record { on = λ _. (tt, tt, omega (arith, shorter)); keeps = tt; rests = λ _. tt }

pub returns-in-Equal-clause-steps : goal.returns-in-Equal-clause-steps
returns-in-Equal-clause-steps c =
    let both = c.in-Some-Some in
    let head : c.args.self.now.head ≡ Some both.pair = sym c.take.ensures.value ∙ both.is-0 in
    let left : pairs_left c.args.self.now.head c.args.self.now.others
    ≡ both.pair ∷ into_iter_items c.args.self.now.others =
    ap (λ h. pairs_left h c.args.self.now.others) head in
    let ordered : compare both.pair.0 both.term.now.0 ≡ Equal =
    sym c.compare_parts.ensures ∙ c.in-Equal.is in
    joined-equal _ _ _ _ _ _ left both.ensures'.cases.0 ordered
    ∙ ap₂ (λ m es. m ∷ joined es both.terms.now) (sym c.pair_and_term.ensures)
    (sym c.advance-in-Equal.ensures.pairs)

pub returns-in-Equal-clause-goes : goal.returns-in-Equal-clause-goes
returns-in-Equal-clause-goes c =
    let shorter = ap length (returns-in-Equal-clause-steps c) in
    record { on = λ _. (tt, tt, omega (arith, shorter)); keeps = tt; rests = λ _. tt }

pub returns-in-Greater-clause-steps : goal.returns-in-Greater-clause-steps
returns-in-Greater-clause-steps c =
    let both = c.in-Some-Some in
    let head : c.args.self.now.head ≡ Some both.pair = sym c.take.ensures.value ∙ both.is-0 in
    let left : pairs_left c.args.self.now.head c.args.self.now.others
    ≡ both.pair ∷ into_iter_items c.args.self.now.others =
    ap (λ h. pairs_left h c.args.self.now.others) head in
    let ordered : compare both.pair.0 both.term.now.0 ≡ Greater =
    sym c.compare_parts.ensures ∙ c.in-Greater.is in
    joined-greater _ _ _ _ _ _ left both.ensures'.cases.0 ordered
    ∙ ap₂ (λ m es. m ∷ joined es both.terms.now) (sym c.only_term-in-Greater.ensures) left

pub returns-in-Greater-clause-goes : goal.returns-in-Greater-clause-goes
returns-in-Greater-clause-goes c =
    let shorter = ap length (returns-in-Greater-clause-steps c) in
    record { on = λ _. (tt, tt, omega (arith, shorter)); keeps = tt; rests = λ _. tt }
