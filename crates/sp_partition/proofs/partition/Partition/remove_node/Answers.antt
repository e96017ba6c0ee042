use Rattle.std.proofs.Common.{◌≡◌, ℕ, ◌-◌, slice_index, sym, ◌∙◌, subst}
use Rattle.sp_partition.specs.Held.{IsHeld}
use Rattle.sp_defs.specs.Signature.{shrink}
use Rattle.sp_defs.specs.Partition.{IsPartition}
use Rattle.sp_partition.proofs.WithNode.{less_with, removable_with}
use Rattle.sp_partition.proofs.Shrinking.{Shrinks, shrinks, parts_left, less_at, one_less, as_many}
use Rattle.sp_partition.proofs.partition.Partition.remove_node.Goals as goal
use Rattle.sp_partition.proofs.partition.Partition.remove_node.Goals.{then-shrunk-place-eq0, else-shrunk-place-eq0}

gone : (c : goal.Then-shrunk-place-eq0) →
    Shrinks c.shrunk.inside.degree (c.shrunk.inside.count - 1) c.shrunk.inside.parts c.args.self.now c.args.row
gone c = shrinks _ c.shrunk.inside.count _ _ _ _ c.shrunk.invariant c.shrunk.view_is c.if-not-can_shrink.ensures
    (one_less _ _ c.if-shrunk-place-eq0.true)

pub invariant_of-shrunk : goal.invariant_of-shrunk
invariant_of-shrunk c = (gone c).padded

stays : (c : goal.Else-shrunk-place-eq0) →
    Shrinks c.shrunk.inside.degree c.shrunk.inside.count c.shrunk.inside.parts c.args.self.now c.args.row
stays c = shrinks _ c.shrunk.inside.count _ _ _ _ c.shrunk.invariant c.shrunk.view_is c.if-not-can_shrink.ensures
    (as_many _ _ c.if-shrunk-place-eq0.false)

pub invariant_of-shrunk-else-shrunk-place-eq0 : goal.invariant_of-shrunk-else-shrunk-place-eq0
invariant_of-shrunk-else-shrunk-place-eq0 c = (stays c).padded

after : (c : goal.Joined-shrunk-place-eq0) →
    (c.if-shrunk-place-eq0.shrunk ≡ shrink (c.args.row - 1) c.args.self.now) × IsHeld
    (shrink (c.args.row - 1) c.args.self.now)
after c = elim c.if-shrunk-place-eq0.branch [
  | then-shrunk-place-eq0 w ↦ let s = less c (one_less _ _ w.if-shrunk-place-eq0.true) in
      (w.shrunk-is ∙ s.shows, s.held)
  | else-shrunk-place-eq0 w ↦ let s = less c (as_many _ _ w.if-shrunk-place-eq0.false) in
      (w.shrunk-is ∙ s.shows, s.held)
]
  where
    less : (c : goal.Joined-shrunk-place-eq0) {left : ℕ} →
        left ≡ parts_left c.shrunk.inside.count
        (slice_index (less_at c.shrunk.inside.parts (c.args.row - 1)) (c.args.row - 1)) →
        Shrinks c.shrunk.inside.degree left c.shrunk.inside.parts c.args.self.now c.args.row
    less c = shrinks _ c.shrunk.inside.count _ _ _ _ c.shrunk.invariant c.shrunk.view_is c.if-not-can_shrink.ensures

pub returns-clause-node : goal.returns-clause-node
returns-clause-node c = (sym c.if-not-can_shrink.ensures, (after c).0)

pub returns-clause-held : goal.returns-clause-held
returns-clause-held c = rw (after c).0 (after c).1

pub returns-clause-less : goal.returns-clause-less
returns-clause-less c =
    less_with c.args.self.now c.args.row _ (subst IsPartition c.shrunk.view_is c.shrunk.invariant.held.partition)
    (sym c.if-not-can_shrink.ensures, (after c).0)

pub returns-clause-removable : goal.returns-clause-removable
returns-clause-removable c = λ column.
    removable_with c.args.self.now c.args.row column
    (subst IsPartition c.shrunk.view_is c.shrunk.invariant.held.partition)
