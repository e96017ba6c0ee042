use Rattle.std.proofs.Common.{◌≡◌, ◌≢◌, ℕ, ◌+◌, ◌<◌, List, [], ◌∷◌, ◌++◌, length, get_or, Vec, Global}
use Rattle.std.proofs.Common.{sym, ◌∙◌, ap, ap₂, subst, arith}
use Rattle.std.proofs.lemmas.List.{get_or_default}
use Rattle.sp_defs.specs.Laurent.{Laurent}
use Rattle.sp_defs.specs.Partition.{partitions}
use Rattle.sp_ranks.specs.Ranks.{partition_at}
use Rattle.sp_slots.specs.declared.slot.Slot.{Slot}
use Rattle.sp_slots.specs.Slot.{sized}
use Rattle.sp_slots.specs.Slots.{AreSlots, tally_in}
use Rattle.sp_slots.proofs.Reading.{sized_slots, sized_tally}
use Rattle.sp_slots.proofs.Opening.{IsOpened, all_slots, opened_first, opened_here, opened_none, other_rank, slots_of}
use Rattle.sp_slots.proofs.slots.Slots.from_ranks.Goals as goal
use Rattle.sp_slots.proofs.slots.Slots.from_ranks.Goals.{then-place-count+then-from-index+in_ok-of_terms+in_ok-push}
use Rattle.sp_slots.proofs.slots.Slots.from_ranks.Goals.{else-place-count+in_ok-push-2}
use Rattle.sp_slots.proofs.slots.Slots.from_ranks.Goals.{else-place-count-via-then-place-count+else-from-index}
use Rattle.sp_slots.proofs.slots.Slots.from_ranks.Goals.{else-place-count-via-else-place-count}

pub invariant_of-result : goal.invariant_of-result
invariant_of-result c =
    let v = c.args.v.now in
    let end : c.loop-index.index ≡ length c.args.all.now = omega arith in
    let whole = all_slots v c.args.all.now c.loop-index.index c.loop-index.slots.items c.requires
    c.loop-index.invariant.slots_are end in
    subst (AreSlots c.degree-degree.result) (sym whole)
    (subst (λ n. AreSlots n (slots_of v (partitions v.degree))) (sym c.degree-degree.ensures.value)
    (sized_slots c.args.v.now c.degree-degree.ensures.held))

pub returns : goal.returns
returns c =
    let end : c.loop-index.index ≡ length c.args.all.now = omega arith in
    let whole = all_slots c.args.v.now c.args.all.now c.loop-index.index c.loop-index.slots.items c.requires
    c.loop-index.invariant.slots_are end in
    ap₂ tally_in c.degree-degree.ensures.value whole ∙ sized_tally c.args.v.now c.degree-degree.ensures.held

pub loop-index-init : goal.loop-index-init
loop-index-init c =
    subst (IsOpened c.args.v.now c.args.all.now 0 0) (sym c.in_ok-slots.ensures.items)
    (opened_first c.args.v.now c.degree-degree.ensures.held c.args.all.now c.requires)

pub loop-index-preserved : goal.loop-index-preserved
loop-index-preserved c =
    let v = c.args.v.now in
    let all = c.args.all.now in
    let k = c.loop-index.index in
    let place = c.loop-index.place in
    let slots = c.loop-index.slots.items in
    let p = get_or all k [] in
    let lt = c.loop-index-test.true in
    let at : p ≡ get_or all k p = get_or_default all k [] p lt in
    let here : p ≡ partition_at v.degree k = ap (λ ps. get_or ps k []) c.requires in
    let there : k < length (partitions v.degree) = subst (λ (ps : List (List ℕ)). k < length ps) c.requires lt in
    elim c.if-place-count.branch [
      | then-place-count+then-from-index+in_ok-of_terms+in_ok-push w ↦
          let few : place < length v.entries = omega (arith, w.if-place-count.true, c.count.ensures.value) in
          let t = get_or v.entries place ([], []) in
          let rank_is : w.rank.result ≡ k = omega (arith, w.if-from-index.true, w.from.ensures) in
          let made = ap (λ (s : Vec Slot Global). s.items) w.slots-is ∙ w.in_ok-push.ensures.items
          ∙ ap (λ x. slots ++ x ∷ []) w.in_ok-of_terms.ensures
          ∙ ap (λ (q : Laurent). slots ++ sized q ∷ []) w.terms.ensures.value in
          let same = sym w.rank.ensures.partition ∙ ap (partition_at v.degree) rank_is ∙ sym here in
          subst (λ i. IsOpened v all (k + 1) i c.if-place-count.slots.items) (sym w.place-is)
          (subst (IsOpened v all (k + 1) (place + 1)) (sym made)
          (opened_here v all c.requires k place slots c.loop-index.invariant p lt at t few
          (get_or_default v.entries place ([], []) t few) same))
      | else-place-count+in_ok-push-2 w ↦
          let made = ap (λ (s : Vec Slot Global). s.items) w.slots-is ∙ w.in_ok-push-2.ensures.items
          ∙ ap (λ x. slots ++ x ∷ []) w.empty.ensures in
          subst (λ i. IsOpened v all (k + 1) i c.if-place-count.slots.items) (sym w.place-is)
          (subst (IsOpened v all (k + 1) place) (sym made)
          (elim w.else-place-count.branch [
            | else-place-count-via-then-place-count+else-from-index u ↦
                let differ : u.rank.result ≢ k =
                λ same. absurd (omega (arith, same, u.if-from-index.false, u.from.ensures)) in
                opened_none v all c.requires k place slots c.loop-index.invariant p lt at ([], [])
                (λ _ same. other_rank v.degree u.rank.result k u.rank.ensures.there there differ
                (u.rank.ensures.partition ∙ same ∙ here))
            | else-place-count-via-else-place-count u ↦
                opened_none v all c.requires k place slots c.loop-index.invariant p lt at ([], [])
                (λ few. absurd (omega (arith, few, u.if-place-count.false, c.count.ensures.value)))
          ]))
    ]
