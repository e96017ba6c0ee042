use Rattle.std.proofs.Common.{◌≡◌, ℕ, ◌+◌, ◌<◌, List, [], ◌∷◌, ◌++◌, map, length, get_or, sym, ◌∙◌, ap, subst, arith, Vec}
use Rattle.std.proofs.lemmas.List.{get_or_default}
use Rattle.std.specs.declared.alloc.Global.{Global}
use Rattle.sp_defs.specs.Laurent.{Laurent}
use Rattle.sp_laurent.specs.Held.{IsHeld as IsHeldPolynomial}
use Rattle.std.proofs.Math.Seq.{take-length}
use Rattle.sp_defs.specs.Partition.{partitions}
use Rattle.sp_defs.specs.Power.{FockVector, Entries}
use Rattle.sp_fock.specs.Held.{held_as}
use Rattle.sp_fock_law.specs.Tally.{TallyValue}
use Rattle.sp_slots.specs.declared.slot.Slot.{Slot}
use Rattle.sp_slots.specs.Slots.{coefficient_in, AreSlots}
use Rattle.sp_slots.proofs.Collecting.{IsCollected, collected_none, collected_more, collected_same, all_pairs}
use Rattle.sp_slots.proofs.Collecting.{held_pairs, are_indexed, coefficient_at, polynomials_more}
use Rattle.sp_slots.proofs.slots.Slots.into_indexed.Goals as goal
use Rattle.sp_slots.proofs.slots.Slots.into_indexed.Goals.{
  then-not-is_zero+in_ok-copy+in_ok-push+in_ok-push-2+in_ok-push-3,
  else-not-is_zero,
}

abbrev items_of : Vec (List ℕ × Laurent) Global → Entries
items_of v = v.items

abbrev polynomials_of : Entries → List Laurent
polynomials_of = map (λ (t : List ℕ × Laurent). t.1)

pub loop-index-init : goal.loop-index-init
loop-index-init c =
    let n = c.self.inside.degree in
    let w = coefficient_in n c.self.inside.slots.items in (
      subst (λ es. IsCollected n w 0 es c.in_ok-indices.indices.items) (sym c.in_ok-pairs.ensures.items)
          (subst (IsCollected n w 0 []) (sym c.in_ok-indices.ensures.items) (collected_none n w)),
      c.in_ok-polynomials.ensures ∙ sym (ap polynomials_of c.in_ok-pairs.ensures.items),
    )

-- the partition at a place of the list that was handed over
listed : (n k : ℕ) (t : TallyValue) (all : List (List ℕ)) (q : List ℕ) → all ≡ partitions t.vector.degree →
    t.vector.degree ≡ n → k < length all → q ≡ get_or all k q → q ≡ get_or (partitions n) k []
listed n k t all q same degree lt is =
    is
    ∙ get_or_default all k q [] lt
    ∙ ap (λ xs. get_or xs k []) (same ∙ ap partitions degree)

pub loop-index-preserved : goal.loop-index-preserved
loop-index-preserved c =
    let n = c.self.inside.degree in
    let slots = c.self.inside.slots.items in
    let k = c.loop-index.index in
    let degree : c.args.self.vector.degree ≡ c.self.inside.degree =
    sym (ap (λ (t : TallyValue). t.vector.degree) c.self.view_is) in
    let below : c.loop-index.index < length c.self.inside.slots.items =
    omega (arith, ap length c.deref.ensures.value, c.deref.ensures.len, c.len-index-end.ensures) in
    let within : c.loop-index.index < length (partitions c.self.inside.degree) =
    omega (arith, below, c.self.invariant.count) in
    let listed_below : c.loop-index.index < length c.args.all.now =
    omega (arith, within, ap length (c.requires.all ∙ ap partitions degree)) in
    let value = coefficient_at n slots c.self.invariant k c.index-slot.result.now below c.index-slot.ensures in
    elim c.if-not-is_zero.branch [
      | then-not-is_zero+in_ok-copy+in_ok-push+in_ok-push-2+in_ok-push-3 w ↦ (
        subst (λ (ps : Vec (List ℕ × Laurent) Global).
            IsCollected n (coefficient_in n slots) (k + 1) ps.items c.if-not-is_zero.indices.items) (sym w.pairs-is)
            (subst (λ (is : Vec ℕ Global).
            IsCollected n (coefficient_in n slots) (k + 1) w.push.new.self.items is.items) (sym w.indices-is)
            (subst (λ es. IsCollected n (coefficient_in n slots) (k + 1) es w.push-then-not-is_zero.new.self.items)
            (sym w.in_ok-push.ensures.items)
            (subst (λ is. IsCollected n (coefficient_in n slots) (k + 1)
            (c.loop-index.pairs.items ++ ((c.index-all-index.result, w.in_ok-copy.field-0) ∷ [])) is)
            (sym w.in_ok-push-2.ensures.items)
            (collected_more n (coefficient_in n slots) k c.loop-index.pairs.items c.loop-index.indices.items
            c.loop-index.invariant.0 within c.index-all-index.result w.in_ok-copy.field-0
            (listed n k c.args.self c.args.all.now c.index-all-index.result c.requires.all degree listed_below
            c.index-all-index.is)
            (w.in_ok-copy.ensures ∙ value)
            (λ e. let z = c.is_zero.ensures.value.1 (sym w.in_ok-copy.ensures ∙ e) in cc)
            c.parts-held.ensures.held (subst IsHeldPolynomial (sym w.in_ok-copy.ensures) c.is_zero.ensures.held))))),
        w.polynomials-is
            ∙ w.in_ok-push-3.ensures
            ∙ polynomials_more c.loop-index.pairs.items c.loop-index.polynomials c.index-all-index.result
            w.in_ok-copy.field-0 w.terms.result.now c.loop-index.invariant.1
            (w.terms.ensures.value ∙ sym w.in_ok-copy.ensures)
            ∙ sym (ap polynomials_of (ap items_of w.pairs-is ∙ w.in_ok-push.ensures.items)),
      )
      | else-not-is_zero w ↦ (
        subst (λ (ps : Vec (List ℕ × Laurent) Global).
            IsCollected n (coefficient_in n slots) (k + 1) ps.items c.if-not-is_zero.indices.items) (sym w.pairs-is)
            (subst (λ (is : Vec ℕ Global).
            IsCollected n (coefficient_in n slots) (k + 1) c.loop-index.pairs.items is.items) (sym w.indices-is)
            (collected_same n (coefficient_in n slots) k c.loop-index.pairs.items c.loop-index.indices.items
            c.loop-index.invariant.0 within
            (sym value ∙ c.is_zero.ensures.value.0 w.if-not-is_zero.false))),
        w.polynomials-is ∙ c.loop-index.invariant.1 ∙ sym (ap polynomials_of (ap items_of w.pairs-is)),
      )
    ]

-- the loop has come to the end of the list
ended : (n k : ℕ) (slots : List Slot) (pairs : Entries) (indices : List ℕ) → AreSlots n slots →
    IsCollected n (coefficient_in n slots) k pairs indices → k ≡ length slots →
    IsCollected n (coefficient_in n slots) (length (partitions n)) pairs indices
ended n k slots pairs indices start h end =
    subst (λ i. IsCollected n (coefficient_in n slots) i pairs indices) (end ∙ start.count) h

pub from_pairs-requires : goal.from_pairs-requires
from_pairs-requires c =
    let n = c.self.inside.degree in
    let slots = c.self.inside.slots.items in
    let end : c.loop-index.index ≡ length c.self.inside.slots.items =
    omega (arith, ap length c.deref.ensures.value, c.deref.ensures.len, c.len-index-end.ensures) in
    held_pairs n slots c.self.invariant c.loop-index.pairs.items c.loop-index.indices.items
    (ended n c.loop-index.index slots c.loop-index.pairs.items c.loop-index.indices.items
    c.self.invariant c.loop-index.invariant.0 end) (take-length (partitions n))

pub new-requires : goal.new-requires
new-requires c =
    let n = c.self.inside.degree in
    let slots = c.self.inside.slots.items in
    let end : c.loop-index.index ≡ length c.self.inside.slots.items =
    omega (arith, ap length c.deref.ensures.value, c.deref.ensures.len, c.len-index-end.ensures) in
    are_indexed n slots c.self.invariant c.loop-index.pairs.items c.loop-index.indices.items
    (ended n c.loop-index.index slots c.loop-index.pairs.items c.loop-index.indices.items
    c.self.invariant c.loop-index.invariant.0 end) (take-length (partitions n))
    c.from_pairs.result c.loop-index.polynomials c.from_pairs.ensures c.loop-index.invariant.1

abbrev with_entries : ℕ → Entries → FockVector
with_entries n es = held_as n es

pub returns : goal.returns
returns c =
    let n = c.self.inside.degree in
    let slots = c.self.inside.slots.items in
    let end : c.loop-index.index ≡ length c.self.inside.slots.items =
    omega (arith, ap length c.deref.ensures.value, c.deref.ensures.len, c.len-index-end.ensures) in
    c.new.ensures
    ∙ c.from_pairs.ensures
    ∙ ap (with_entries n)
    (all_pairs n slots c.self.invariant c.loop-index.pairs.items c.loop-index.indices.items
    (ended n c.loop-index.index slots c.loop-index.pairs.items c.loop-index.indices.items
    c.self.invariant c.loop-index.invariant.0 end) (take-length (partitions n)))
    ∙ ap (λ (t : TallyValue). t.vector) c.self.view_is
