use Rattle.std.proofs.Common.{◌≡◌, ℕ, ◌+◌, ◌-◌, arith}
use Rattle.sp_partition.proofs.Extending.{extends}
use Rattle.sp_partition.proofs.partition.Partition.with_run.Goals as goal

pub slice_bounds-fill-end : goal.slice_bounds-fill-end
slice_bounds-fill-end c = let few =
    (extends _ _ _ _ c.args.part c.args.times c.self.invariant c.self.view_is c.if-degree.false c.requires).few in
    omega (arith, c.self.invariant.size)

between : (m n : ℕ) → m + n - m ≡ n
between m n = omega arith

pub invariant_of-result : goal.invariant_of-result
invariant_of-result c =
    let e = extends _ _ _ _ c.args.part c.args.times c.self.invariant c.self.view_is c.if-degree.false c.requires in
    e.padded _ _ (between _ _) c.fill.ensures

pub returns : goal.returns
returns c =
    let e = extends _ _ _ _ c.args.part c.args.times c.self.invariant c.self.view_is c.if-degree.false c.requires in
    (e.small, e.shows _ _ (between _ _) c.fill.ensures)
