use Rattle.std.proofs.Common.{◌≡◌, ◌∙◌, map, subst}
use Rattle.std.proofs.lemmas.List.Sorted.{IsPermutation-map}
use Rattle.std.specs.List.{AllByRecursion}
use Rattle.std.specs.List.Sorted.{IsPermutation}
use Rattle.sp_defs.specs.Partition.{conjugate}
use Rattle.sp_module_defs.specs.Cells.{place}
use Rattle.sp_matrix.proofs.Ascents.{all_permuted}
use Rattle.sp_matrix.proofs.Turning.{heading_sorted}
use Rattle.sp_matrix.proofs.conjugates.conjugate_heading.Goals as goal

pub returns : goal.returns
returns c = λ n h.
    let heading = c.args.heading.now in
    let placed = c.in_ok-turned.turned.items in
    let sorted = c.sort_by_partition.new.pairs.items in
    let moved : IsPermutation (map conjugate heading) (map (λ t. t.0) sorted) =
    subst (λ xs. IsPermutation xs (map (λ t. t.0) sorted)) c.in_ok-turned.ensures.partitions
    (IsPermutation-map (λ t. t.0) placed sorted c.sort_by_partition.ensures.permutation) in
    let places : AllByRecursion (λ t. t.1 ≡ place heading (conjugate t.0)) sorted =
    all_permuted (λ t. t.1 ≡ place heading (conjugate t.0)) placed sorted c.sort_by_partition.ensures.permutation
    c.in_ok-turned.ensures.places in
    c.reverse.ensures.items
    ∙ heading_sorted n heading h sorted moved c.sort_by_partition.ensures.sorted places
