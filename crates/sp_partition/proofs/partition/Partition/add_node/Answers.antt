use Rattle.std.proofs.Common.{rules, sym, subst}
use Rattle.sp_defs.specs.Partition.{IsPartition}
use Rattle.sp_partition.proofs.Growing.{Grows, grows}
use Rattle.sp_partition.proofs.WithNode.{more_with, addable_with}
use Rattle.sp_partition.proofs.partition.Partition.add_node.Goals as goal

pub bounds-grown-inside-row : goal.bounds-grown-inside-row
bounds-grown-inside-row c =
    (grows _ _ _ _ _ c.self.invariant c.self.view_is c.if-not-can_grow.ensures c.if-self-eq-CAPACITY.false).place

pub bounds-grown-inside-row-2 : goal.bounds-grown-inside-row-2
bounds-grown-inside-row-2 c =
    (grows _ _ _ _ _ c.self.invariant c.self.view_is c.if-not-can_grow.ensures c.if-self-eq-CAPACITY.false).place

grown : (c : goal.After-max) →
    Grows c.self.inside.degree c.self.inside.count c.self.inside.parts c.args.self.now c.args.row
grown c = grows _ _ _ _ _ c.self.invariant c.self.view_is c.if-not-can_grow.ensures c.if-self-eq-CAPACITY.false

pub invariant_of-result : goal.invariant_of-result
invariant_of-result c = rw c.max.ensures (grown c).padded

pub returns-clause-node : goal.returns-clause-node
returns-clause-node c = ((sym c.if-not-can_grow.ensures, (grown c).small), rw c.max.ensures (grown c).shows)

pub returns-clause-held : goal.returns-clause-held
returns-clause-held c = rw (c.max.ensures, (grown c).shows) (grown c).held

pub returns-then-self-eq-CAPACITY-clause-more : goal.returns-then-self-eq-CAPACITY-clause-more
returns-then-self-eq-CAPACITY-clause-more c =
    more_with c.args.self.now c.args.row _ (subst IsPartition c.self.view_is c.self.invariant.held.partition)
    (search rules)

pub returns-then-self-eq-CAPACITY-clause-addable : goal.returns-then-self-eq-CAPACITY-clause-addable
returns-then-self-eq-CAPACITY-clause-addable c = λ column.
    addable_with c.args.self.now c.args.row column
    (subst IsPartition c.self.view_is c.self.invariant.held.partition)

pub returns-clause-more : goal.returns-clause-more
returns-clause-more c =
    more_with c.args.self.now c.args.row _ (subst IsPartition c.self.view_is c.self.invariant.held.partition)
    ((sym c.if-not-can_grow.ensures, (grown c).small), rw c.max.ensures (grown c).shows)

pub returns-clause-addable : goal.returns-clause-addable
returns-clause-addable c = λ column.
    addable_with c.args.self.now c.args.row column
    (subst IsPartition c.self.view_is c.self.invariant.held.partition)
