use Rattle.std.proofs.Common.{◌≡◌, ◌∙◌, ap, refl}
use Rattle.std.specs.List.{slice_get}
use Rattle.std.specs.Option.{unwrap_or}
use Rattle.sp_defs.specs.Partition.{part}
use Rattle.sp_partition.proofs.Holding.{few_parts}
use Rattle.sp_partition.proofs.ColumnLengths.{columns_held, width_is}
use Rattle.sp_shapes.proofs.Involution.{conjugate_twice}
use Rattle.sp_partition.proofs.partition.Partition.conjugate.Goals as goal

pub column_lengths-columns-requires-clause-few : goal.column_lengths-columns-requires-clause-few
column_lengths-columns-requires-clause-few c =
    rw c.parts-parts.ensures.parts (few_parts c.args.self.now c.parts-parts.ensures.held)

pub unwrap-requires : goal.unwrap-requires
unwrap-requires c =
    let parts = c.args.self.now in
    let width : c.unwrap_or-width.result ≡ part parts 1 =
    c.unwrap_or-width.ensures
    ∙ ap (λ o. unwrap_or o 0)
    (c.copied.ensures ∙ c.first.ensures.value ∙ ap (λ xs. slice_get xs 0) c.parts-parts.ensures.parts)
    ∙ width_is parts in
    let held = columns_held parts c.column_lengths-columns.result c.unwrap_or-width.result
    c.parts-parts.ensures.held width (rw c.parts-parts.ensures.parts at c.column_lengths-columns.ensures.lengths) in
    rw (c.from_parts.ensures.held.0 held) refl

pub returns-clause-involution : goal.returns-clause-involution
returns-clause-involution c = conjugate_twice c.args.self.now c.parts-parts.ensures.held.partition
