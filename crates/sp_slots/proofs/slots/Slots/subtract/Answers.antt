use Rattle.std.proofs.Common.{◌≡◌, ℕ, ◌<◌, ◌≤◌, List, [], length, get_or, refl, sym, ◌∙◌, ap, ap₂, subst, arith}
use Rattle.std.proofs.Common.{Err, Result}
use Rattle.std.proofs.lemmas.List.{get_or_default}
use Rattle.std.proofs.Math.Seq.{take-length}
use Rattle.std.specs.List.{AllByRecursion}
use Rattle.std.specs.Result.{IsErrAnd}
use Rattle.sp_defs.specs.Partition.{IsPartitionOf}
use Rattle.sp_defs.specs.Laurent.{Laurent, negate}
use Rattle.sp_defs.specs.Power.{FockVector}
use Rattle.sp_defs.specs.Within.{ProductWithin}
use Rattle.sp_lists.proofs.Places.{all_at}
use Rattle.sp_laurent.specs.Held.{power_limit, IsHeld as IsHeldPolynomial}
use Rattle.sp_fock.specs.declared.fault.FockFault.{FockFault}
use Rattle.sp_fock.specs.declared.fault.FockFault.TheVariants.{TooLarge}
use Rattle.sp_fock_law.specs.Tally.{TallyValue, total_of, subtracted, subtraction_weight}
use Rattle.sp_fock_law.proofs.Tally.{within_negate}
use Rattle.sp_slots.specs.declared.slot.Slot.{Slot}
use Rattle.sp_slots.specs.Slot.{nothing, grown, IsSlot}
use Rattle.sp_slots.proofs.Indices.{IsEntry, entry, entry_at}
use Rattle.sp_slots.proofs.Growing.{IsReached, reached_none, reached_more, totals_fit, subtracted_tally, weight_fits}
use Rattle.sp_slots.proofs.Growing.{weight_past}
use Rattle.sp_slots.proofs.slots.Slots.subtract.Goals as goal

abbrev AreWithin : ℕ → TallyValue → Type 0
AreWithin limit t = (lambda : List ℕ) → IsPartitionOf t.vector.degree lambda → total_of t.totals lambda ≤ limit

pub loop-k-init : goal.loop-k-init
loop-k-init c =
    let n = c.self.inside.degree in
    let slots = c.self.inside.slots.items in
    reached_none n c.args.limit (negate c.args.a.now) c.args.w.now.entries slots c.self.invariant
    c.count-k-end.ensures.held.vector.ascending
    (totals_fit n c.args.limit slots c.self.invariant
    (subst (AreWithin c.args.limit) (sym c.self.view_is) c.requires.totals))

pub add_product-requires-clause-slot : goal.add_product-requires-clause-slot
add_product-requires-clause-slot c =
    let n = c.self.inside.degree in
    let w = c.args.w.now in
    let lt : c.loop-k.k < length c.args.w.now.entries = omega (arith, c.loop-k-test.true, c.count-k-end.ensures.value) in
    let e : IsEntry n w c.loop-k.k c.from-index.result (entry w c.loop-k.k) = entry_at n w c.indices-indices.result.now
    c.loop-k.k c.from-index.result c.indices-indices.ensures
    (ap (λ (s : TallyValue). s.vector.degree) c.self.view_is ∙ c.requires.one_degree) lt c.from-index.ensures in
    subst IsSlot (sym c.index_mut.ensures.value)
    (all_at IsSlot c.loop-k.slots.items c.from-index.result c.index_mut.result.now c.loop-k.invariant.each
    (omega (arith, e.within, c.loop-k.invariant.count)))

-- the powers of the products are within the limit
within_entry : (a b p : Laurent) (w : FockVector) (k : ℕ) → b ≡ negate a → IsHeldPolynomial a →
    AllByRecursion (λ t. ProductWithin power_limit a t.1) w.entries → p ≡ (entry w k).1 → k < length w.entries →
    ProductWithin power_limit b p
within_entry a b p w k negated held h is lt =
    subst (ProductWithin power_limit b) (sym is)
    (subst (λ x. ProductWithin power_limit x (entry w k).1) (sym negated)
    (within_negate power_limit a (entry w k).1 held.laurent
    (all_at (λ t. ProductWithin power_limit a t.1) w.entries k ([], []) h lt)))

pub add_product-requires-clause-within : goal.add_product-requires-clause-within
add_product-requires-clause-within c =
    within_entry c.args.a.now c.in_ok-negated.negated c.terms.result.now c.args.w.now c.loop-k.k
    c.in_ok-negated.ensures c.terms-held.ensures.held c.requires.within c.terms.ensures.value
    (omega (arith, c.loop-k-test.true, c.count-k-end.ensures.value))

-- the slot at a place, with its product added
made : (a b p q : Laurent) (slots : List Slot) (index : ℕ) (s old : Slot) → s ≡ grown b old p → b ≡ negate a →
    old ≡ get_or slots index old → index < length slots → p ≡ q →
    s ≡ grown (negate a) (get_or slots index nothing) q
made a b p q slots index s old is negated at lt same =
    is
    ∙ ap (λ x. grown x old p) negated
    ∙ ap₂ (λ u x. grown (negate a) u x) (at ∙ get_or_default slots index old nothing lt) same

pub loop-k-preserved : goal.loop-k-preserved
loop-k-preserved c =
    let n = c.self.inside.degree in
    let w = c.args.w.now in
    let slots = c.loop-k.slots.items in
    let k = c.loop-k.k in
    let index = c.from-index.result in
    let t = entry w k in
    let lt : c.loop-k.k < length c.args.w.now.entries = omega (arith, c.loop-k-test.true, c.count-k-end.ensures.value) in
    let e : IsEntry n w k index t = entry_at n w c.indices-indices.result.now k index c.indices-indices.ensures
    (ap (λ (s : TallyValue). s.vector.degree) c.self.view_is ∙ c.requires.one_degree) lt c.from-index.ensures in
    let is = made c.args.a.now c.in_ok-negated.negated c.terms.result.now t.1 slots index c.add_product.new.self
    c.index_mut.result.now c.in_ok-add_product.ensures.ok c.in_ok-negated.ensures c.index_mut.ensures.value
    (omega (arith, e.within, c.loop-k.invariant.count)) c.terms.ensures.value in
    reached_more n c.args.limit (negate c.args.a.now) w.entries c.self.inside.slots.items c.self.invariant
    c.count-k-end.ensures.held.vector.ascending slots k index t c.loop-k.invariant e.lt e.within e.is e.at
    c.add_product.new.self is
    (subst (λ m. m ≤ c.args.limit) (sym (ap (λ (s : Slot). s.total) c.in_ok-add_product.ensures.ok))
    c.in_ok-add_product.ensures.fits)

-- the loop has come to the end of the vector
ended : (n limit k : ℕ) (b : Laurent) (w : FockVector) (before slots : List Slot) →
    IsReached n limit b w.entries before slots k → k ≡ length w.entries →
    IsReached n limit b w.entries before slots (length w.entries)
ended n limit k b w before slots h end = subst (IsReached n limit b w.entries before slots) end h

pub returns : goal.returns
returns c =
    let n = c.self.inside.degree in
    let before = c.self.inside.slots.items in
    let slots = c.loop-k.slots.items in
    let w = c.args.w.now in
    let end : c.loop-k.k ≡ length c.args.w.now.entries = omega (arith, c.count-k-end.ensures.value) in
    let reached = ended n c.args.limit c.loop-k.k (negate c.args.a.now) w before slots c.loop-k.invariant end in
    record {
      ok =
          subtracted_tally n c.args.limit c.args.a.now w before c.self.invariant c.terms-held.ensures.held.laurent slots
          reached (take-length w.entries)
          ∙ ap (λ t. subtracted t c.args.a.now w) c.self.view_is;
      fits =
          subst (λ t. subtraction_weight t c.args.a.now w ≤ c.args.limit) c.self.view_is
          (weight_fits n c.args.limit c.args.a.now w before c.self.invariant c.terms-held.ensures.held.laurent slots
          reached (take-length w.entries));
      too_large = λ e. absurd (cc);
    }

-- the fault that is handed on is the one that came
fault_same : {T : Type 0} (r : Result T FockFault) (x : FockFault) → r ≡ Err TooLarge → IsErrAnd r (λ y. y ≡ x) →
    x ≡ TooLarge
fault_same r x large h = sym (subst (λ r. IsErrAnd r (λ y. y ≡ x)) large h)

pub returns-in_err-add_product-clause-too_large : goal.returns-in_err-add_product-clause-too_large
returns-in_err-add_product-clause-too_large c large =
    let n = c.self.inside.degree in
    let before = c.self.inside.slots.items in
    let w = c.args.w.now in
    let slots = c.loop-k.slots.items in
    let k = c.loop-k.k in
    let index = c.from-index.result in
    let t = entry w k in
    let lt : c.loop-k.k < length c.args.w.now.entries = omega (arith, c.loop-k-test.true, c.count-k-end.ensures.value) in
    let e : IsEntry n w k index t = entry_at n w c.indices-indices.result.now k index c.indices-indices.ensures
    (ap (λ (s : TallyValue). s.vector.degree) c.self.view_is ∙ c.requires.one_degree) lt c.from-index.ensures in
    let total = made c.args.a.now c.in_ok-negated.negated c.terms.result.now t.1 slots index
    (grown c.in_ok-negated.negated c.index_mut.result.now c.terms.result.now) c.index_mut.result.now refl
    c.in_ok-negated.ensures c.index_mut.ensures.value (omega (arith, e.within, c.loop-k.invariant.count))
    c.terms.ensures.value in
    let same = fault_same c.from_residual-in_err-add_product.result c.in_err-add_product.field-0.0 large
    c.from_residual-in_err-add_product.ensures.1 in
    subst (λ u. c.args.limit < subtraction_weight u c.args.a.now w) c.self.view_is
    (weight_past n c.args.limit c.args.a.now w before c.self.invariant c.terms-held.ensures.held.laurent
    c.count-k-end.ensures.held.vector.ascending slots k index t c.loop-k.invariant e.lt e.within e.is e.at
    (subst (λ m. c.args.limit < m) (ap (λ (s : Slot). s.total) total)
    (c.in_err-add_product.ensures.too_large (ap Err same))))

pub invariant_of-result : goal.invariant_of-result
invariant_of-result c = record { count = c.loop-k.invariant.count; each = c.loop-k.invariant.each }
