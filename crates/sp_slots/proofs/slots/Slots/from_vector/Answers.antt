use Rattle.std.proofs.Common.{◌≡◌, ◌≢◌, ℕ, ◌+◌, ◌<◌, List, [], ◌∷◌, ◌++◌, length, get_or, Vec, Global}
use Rattle.std.proofs.Common.{sym, ◌∙◌, ap, ap₂, subst, arith}
use Rattle.std.specs.Cmp.Lexicographic.{same_text, other_text}
use Rattle.sp_defs.specs.Laurent.{Laurent}
use Rattle.std.proofs.lemmas.List.{get_or_default}
use Rattle.sp_defs.specs.Partition.{partitions}
use Rattle.sp_defs.specs.Power.{Entries}
use Rattle.sp_slots.specs.declared.slot.Slot.{Slot}
use Rattle.sp_slots.specs.Slot.{sized}
use Rattle.sp_slots.specs.Slots.{AreSlots, tally_in}
use Rattle.sp_slots.proofs.Reading.{sized_slots, sized_tally}
use Rattle.sp_slots.proofs.Opening.{IsOpened, all_slots, opened_first, opened_here, opened_none, slots_of}
use Rattle.sp_slots.proofs.slots.Slots.from_vector.Goals as goal
use Rattle.sp_slots.proofs.slots.Slots.from_vector.Goals.{then-place-pairs+then-eq+in_ok-sized+in_ok-push}
use Rattle.sp_slots.proofs.slots.Slots.from_vector.Goals.{else-place-pairs+in_ok-push-2}
use Rattle.sp_slots.proofs.slots.Slots.from_vector.Goals.{else-place-pairs-via-then-place-pairs+else-eq}
use Rattle.sp_slots.proofs.slots.Slots.from_vector.Goals.{else-place-pairs-via-else-place-pairs}

pub invariant_of-result : goal.invariant_of-result
invariant_of-result c =
    let end : c.loop-p.p-index ≡ length c.args.all.now = omega arith in
    let whole = all_slots c.args.v.now c.args.all.now c.loop-p.p-index c.loop-p.slots.items c.requires
    c.loop-p.invariant.slots_are end in
    subst (AreSlots c.degree.result) (sym whole)
    (subst (λ n. AreSlots n (slots_of c.args.v.now (partitions c.args.v.now.degree))) (sym c.degree.ensures.value)
    (sized_slots c.args.v.now c.degree.ensures.held.vector))

pub returns : goal.returns
returns c =
    let end : c.loop-p.p-index ≡ length c.args.all.now = omega arith in
    let whole = all_slots c.args.v.now c.args.all.now c.loop-p.p-index c.loop-p.slots.items c.requires
    c.loop-p.invariant.slots_are end in
    ap₂ tally_in c.degree.ensures.value whole ∙ sized_tally c.args.v.now c.degree.ensures.held.vector

pub loop-p-init : goal.loop-p-init
loop-p-init c =
    subst (IsOpened c.args.v.now c.args.all.now 0 0) (sym c.in_ok-slots.ensures.items)
    (opened_first c.args.v.now c.pairs-pairs.ensures.held.vector c.args.all.now c.requires)

pub loop-p-preserved : goal.loop-p-preserved
loop-p-preserved c =
    let v = c.args.v.now in
    let all = c.args.all.now in
    let k = c.loop-p.p-index in
    let place = c.loop-p.place in
    let slots = c.loop-p.slots.items in
    let p = c.p-item.result in
    let lt : k < length all = omega (arith, c.loop-p-test.true) in
    let same = c.pairs-pairs.ensures.value in
    elim c.if-place-pairs.branch [
      | then-place-pairs+then-eq+in_ok-sized+in_ok-push w ↦
          let t = w.index-pairs-place-then-eq.result in
          let few : place < length v.entries = subst (λ (es : Entries). place < length es) same w.if-place-pairs.true in
          let made = ap (λ (s : Vec Slot Global). s.items) w.slots-is ∙ w.in_ok-push.ensures.items
          ∙ ap (λ x. slots ++ x ∷ []) w.in_ok-sized.ensures
          ∙ ap (λ (u : List ℕ × Laurent). slots ++ sized u.1 ∷ []) (sym w.index-pairs-place-then-eq.is) in
          let here = ap (λ (u : List ℕ × Laurent). u.0) (w.index-pairs-place-then-eq.is
          ∙ get_or_default c.pairs-pairs.result.now place t w.index-pairs-place.result w.if-place-pairs.true)
          ∙ same_text (get_or c.pairs-pairs.result.now place w.index-pairs-place.result).0 p w.if-eq.ensures in
          subst (λ i. IsOpened v all (k + 1) i c.if-place-pairs.slots.items) (sym w.place-is)
          (subst (IsOpened v all (k + 1) (place + 1)) (sym made)
          (opened_here v all c.requires k place slots c.loop-p.invariant p lt c.p-item.is t few
          (w.index-pairs-place-then-eq.is ∙ ap (λ (es : Entries). get_or es place t) same) here))
      | else-place-pairs+in_ok-push-2 w ↦
          let made = ap (λ (s : Vec Slot Global). s.items) w.slots-is ∙ w.in_ok-push-2.ensures.items
          ∙ ap (λ x. slots ++ x ∷ []) w.empty.ensures in
          subst (λ i. IsOpened v all (k + 1) i c.if-place-pairs.slots.items) (sym w.place-is)
          (subst (IsOpened v all (k + 1) place) (sym made)
          (elim w.else-place-pairs.branch [
            | else-place-pairs-via-then-place-pairs+else-eq u ↦
                let t = u.index-pairs-place.result in
                opened_none v all c.requires k place slots c.loop-p.invariant p lt c.p-item.is t
                (λ _. subst (λ (es : Entries). (get_or es place t).0 ≢ p) same
                (other_text (get_or c.pairs-pairs.result.now place t).0 p u.if-eq.ensures))
            | else-place-pairs-via-else-place-pairs u ↦
                opened_none v all c.requires k place slots c.loop-p.invariant p lt c.p-item.is ([], [])
                (λ few. absurd (omega (arith, few, u.if-place-pairs.false, ap (λ (es : Entries). length es) same)))
          ]))
    ]
