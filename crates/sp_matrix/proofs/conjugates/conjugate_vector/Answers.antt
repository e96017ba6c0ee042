-- The conjugated pairs, sorted, are the entries of the conjugate.
use Rattle.std.proofs.Common.{sym, ◌∙◌, ap, subst, map}
use Rattle.std.specs.List.Sorted.{IsPermutation}
use Rattle.sp_fock.specs.Held.{IsHeld, held_as}
use Rattle.sp_matrix.specs.Conjugates.{conjugate_entry}
use Rattle.sp_matrix.proofs.Turning.{entries_sorted, held_sorted}
use Rattle.sp_matrix.proofs.conjugates.conjugate_vector.Goals as goal

pub from_pairs-requires : goal.from_pairs-requires
from_pairs-requires c =
    let v = c.args.v.now in
    let sorted = c.sort_by_partition.new.pairs.items in
    let moved : IsPermutation (map conjugate_entry v.entries) sorted =
    subst (λ ts. IsPermutation ts sorted) (c.in_ok-pairs.ensures ∙ ap (map conjugate_entry) c.pairs.ensures.value)
    c.sort_by_partition.ensures.permutation in
    subst (λ n. IsHeld (held_as n sorted)) (sym c.degree.ensures.value)
    (held_sorted v.degree v.entries sorted c.pairs.ensures.held.vector moved c.sort_by_partition.ensures.sorted
    c.pairs.ensures.held.pairs)

pub returns : goal.returns
returns c =
    let v = c.args.v.now in
    let sorted = c.sort_by_partition.new.pairs.items in
    let moved : IsPermutation (map conjugate_entry v.entries) sorted =
    subst (λ ts. IsPermutation ts sorted) (c.in_ok-pairs.ensures ∙ ap (map conjugate_entry) c.pairs.ensures.value)
    c.sort_by_partition.ensures.permutation in
    c.from_pairs.ensures
    ∙ ap (λ n. held_as n sorted) c.degree.ensures.value
    ∙ ap (held_as v.degree)
    (entries_sorted v.degree v.entries sorted c.pairs.ensures.held.vector moved c.sort_by_partition.ensures.sorted)
