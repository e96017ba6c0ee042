-- What a sort leaves, and what is left of it without repetitions.
use Rattle.std.proofs.lemmas.List.Filters.{dedup_is}
use Rattle.std.specs.Cmp.Lexicographic.{pointwise}
use Rattle.std.proofs.Common.{nat_eq}
use Rattle.sp_sl2.proofs.Found.{are_targets}
use Rattle.sp_sl2.proofs.targets.targets.Goals as goal

pub returns : goal.returns
returns c =
    are_targets c.args.e c.args.i c.args.v.now.degree c.args.v.now.entries c.pairs.result.now c.in_ok-found.found.items
    c.sort_unstable.new.self.items c.dedup.new.self.items c.pairs.ensures.held.vector
    c.pairs.ensures.held.pairs c.pairs.ensures.value c.in_ok-found.ensures c.sort_unstable.ensures.permutation
    c.sort_unstable.ensures.sorted (dedup_is (pointwise nat_eq) _ _ c.dedup.ensures.filtered)
