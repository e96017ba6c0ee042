use Rattle.std.proofs.Common.{◌≡◌, ◌<◌, [], length, get_or, sym, ◌∙◌, ap, subst, arith}
use Rattle.std.proofs.lemmas.List.{get_or_default}
use Rattle.sp_defs.specs.Partition.{partitions}
use Rattle.sp_defs.specs.Power.{vector_of}
use Rattle.sp_fock_law.specs.Tally.{TallyValue}
use Rattle.sp_slots.specs.declared.slot.Slot.{Slot}
use Rattle.sp_slots.specs.Slot.{nothing}
use Rattle.sp_slots.proofs.Reading.{read_at}
use Rattle.sp_slots.proofs.slots.Slots.coefficient.Goals as goal

pub returns : goal.returns
returns c =
    let n = c.self.inside.degree in
    let slots = c.self.inside.slots.items in
    let lt = subst (λ (t : TallyValue). c.args.index < length (partitions t.vector.degree)) (sym c.self.view_is)
    c.requires in
    let here = c.index-slot.ensures
    ∙ get_or_default slots c.args.index c.index-slot.result.now nothing (omega (arith, lt, c.self.invariant.count)) in
    subst
    (λ (t : TallyValue). c.index-slot.result.now.coefficient
    ≡ vector_of t.vector.entries (get_or (partitions t.vector.degree) c.args.index []))
    c.self.view_is
    (ap (λ (s : Slot). s.coefficient) here ∙ sym (read_at n slots c.self.invariant c.args.index lt))
