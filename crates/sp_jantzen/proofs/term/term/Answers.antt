use Rattle.std.proofs.Common.{◌≡◌, ◌≢◌, true, sym, ◌∙◌, ap, ap₂, subst, arith, pos, ◌∷◌, [], ℤ, ◌*ℤ◌, of_z, to_z, w8}
use Rattle.std.proofs.lemmas.Int.{ints}
use Rattle.sp_defs.specs.Abacus.{shown}
use Rattle.sp_module_defs.specs.Jantzen.{moved, is_distinct, descending, sorting_sign, step_value}
use Rattle.sp_jantzen.specs.Beads.{AreBeads}
use Rattle.sp_jantzen.proofs.Sorted.{AllBelow}
use Rattle.sp_jantzen.proofs.Moves.{bead_below, moved_below, sorted_beads}
use Rattle.sp_jantzen.proofs.Terms.{term-nought, term-meets, term-found}
use Rattle.sp_jantzen.proofs.term.term.Goals as goal

pub returns-then-value-eq0 : goal.returns-then-value-eq0
returns-then-value-eq0 c =
    let nought : c.step_value-value.result ≡ pos 0 = omega (arith, ints) in
    sym (term-nought c.args.e c.args.numbers.now c.args.to c.args.from c.args.steps
    (sym c.step_value-value.ensures.value ∙ nought))

pub moved-after-requires-clause-small : goal.moved-after-requires-clause-small
moved-after-requires-clause-small c =
    let from = bead_below c.args.numbers.now c.args.from c.requires.beads c.requires.step.within in
    let to = bead_below c.args.numbers.now c.args.to c.requires.beads (omega arith) in
    omega (arith, c.requires.step.steps)

pub returns-then-not-is_distinct : goal.returns-then-not-is_distinct
returns-then-not-is_distinct c =
    let after : c.as_slice.result.now ≡ moved c.args.numbers.now c.args.to c.args.from c.args.steps =
    c.as_slice.ensures.value ∙ c.moved-after.ensures in
    sym (term-meets c.args.e c.args.numbers.now c.args.to c.args.from c.args.steps
    (ap is_distinct (sym after) ∙ sym c.is_distinct.ensures ∙ c.if-not-is_distinct.true))

pub descending-requires-clause-small : goal.descending-requires-clause-small
descending-requires-clause-small c =
    let after : c.as_slice-2.result.now ≡ moved c.args.numbers.now c.args.to c.args.from c.args.steps =
    c.as_slice-2.ensures.value ∙ c.moved-after.ensures in
    subst (AllBelow 192) (sym after)
    (moved_below c.args.numbers.now c.args.to c.args.from c.args.steps c.requires.beads c.requires.step)

pub shown-partition-requires : goal.shown-partition-requires
shown-partition-requires c =
    let xs = c.args.numbers.now in
    let first : c.as_slice.result.now ≡ moved xs c.args.to c.args.from c.args.steps =
    c.as_slice.ensures.value ∙ c.moved-after.ensures in
    let distinct : is_distinct (moved xs c.args.to c.args.from c.args.steps) ≡ true =
    ap is_distinct (sym first) ∙ sym c.is_distinct.ensures ∙ c.if-not-is_distinct.false in
    let sorted : c.as_slice-3.result.now ≡ descending (moved xs c.args.to c.args.from c.args.steps) =
    c.as_slice-3.ensures.value ∙ c.descending.ensures
    ∙ ap descending (c.as_slice-2.ensures.value ∙ c.moved-after.ensures) in
    let beads : AreBeads c.as_slice-3.result.now =
    subst AreBeads (sym sorted)
    (sorted_beads xs c.args.to c.args.from c.args.steps c.requires.beads c.requires.step distinct) in
    record { falls = beads.falls; few = beads.few; small = beads.small }

pub returns : goal.returns
returns c =
    let xs = c.args.numbers.now in
    let after : c.as_slice.result.now ≡ moved xs c.args.to c.args.from c.args.steps =
    c.as_slice.ensures.value ∙ c.moved-after.ensures in
    let distinct : is_distinct (moved xs c.args.to c.args.from c.args.steps) ≡ true =
    ap is_distinct (sym after) ∙ sym c.is_distinct.ensures ∙ c.if-not-is_distinct.false in
    let nonzero : step_value c.args.e xs c.args.to c.args.from c.args.steps ≢ pos 0 =
    λ e. nonzero_value c.step_value-value.result (c.step_value-value.ensures.value ∙ e) c.if-value-eq0.false in
    let partition : c.shown-partition.result ≡ shown (descending (moved xs c.args.to c.args.from c.args.steps)) =
    c.shown-partition.ensures
    ∙ ap shown (c.as_slice-3.ensures.value ∙ c.descending.ensures
    ∙ ap descending (c.as_slice-2.ensures.value ∙ c.moved-after.ensures)) in
    let same : to_z w8 (of_z w8 c.step_value-value.result) ≡ c.step_value-value.result = omega (arith, ints) in
    let value : c.signed.result ≡
    sorting_sign (moved xs c.args.to c.args.from c.args.steps) *ℤ
    step_value c.args.e xs c.args.to c.args.from c.args.steps =
    c.signed.ensures
    ∙ ap₂ (λ ys v. sorting_sign ys *ℤ v) (c.as_slice-4.ensures.value ∙ c.moved-after.ensures)
    (same ∙ c.step_value-value.ensures.value) in
    let back : to_z w8 (of_z w8 c.signed.result) ≡ c.signed.result = omega (arith, ints) in
    ap₂ (λ kappa v. (kappa, v) ∷ []) partition (back ∙ value)
    ∙ sym (term-found c.args.e xs c.args.to c.args.from c.args.steps distinct nonzero)
  where
    nonzero_value : (v : ℤ) → v ≡ pos 0 → (of_z w8 v ≡ 0 → ⊥) → ⊥
    nonzero_value v e ne = ne (ap (of_z w8) e)
