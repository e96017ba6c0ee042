-- The conjugate is made column by column.
use Rattle.std.proofs.Common.{◌≡◌, ℕ, ◌+◌, ◌<◌, List, [], ◌∷◌, map}
use Rattle.std.proofs.Common.{length}
use Rattle.std.proofs.Common.{refl, sym, ◌∙◌, ap, ap₂, subst, arith}
use Rattle.std.proofs.Common.{◌++◌, take, slice_set}
use Rattle.std.proofs.lemmas.Grind.{common_steps}
use Rattle.std.proofs.lemmas.List.FromFn.{map-range_with_len_more}
use Rattle.std.specs.List.{slice_get}
use Rattle.std.specs.Option.{unwrap_or}
use Rattle.sp_defs.specs.Partition.{part, conjugate, from_one_to}
use Rattle.sp_shapes.proofs.Columns.{column}
use Rattle.sp_partition.specs.Held.{IsHeld}
use Rattle.sp_shapes.proofs.Conjugates.{conjugate_partition, degree-conjugate}

-- There is room for the conjugate.
pub conjugate_held : (parts : List ℕ) → IsHeld parts → IsHeld (conjugate parts)
conjugate_held parts h = record {
  partition = conjugate_partition parts h.partition;
  small = let e = degree-conjugate parts h.partition in let s = h.small in omega arith;
}

-- ---- the columns, filled one after the other

take_next : (xs : List ℕ) (k v : ℕ) → k < length xs → take (k + 1) (slice_set xs k v) ≡ take k xs ++ (v ∷ [])
take_next xs k v h = grind (arith, common_steps)

-- One column more is filled.
pub columns_next : (parts columns : List ℕ) (k v : ℕ) → k < length columns →
    take k columns ≡ map (column parts) (from_one_to k) → v ≡ column parts (k + 1) →
    take (k + 1) (slice_set columns k v) ≡ map (column parts) (from_one_to (k + 1))
columns_next parts columns k v h before is =
    take_next columns k v h ∙ ap₂ (λ xs n. xs ++ (n ∷ [])) before is
    ∙ sym (map-range_with_len_more (column parts) 1 k (k + 1) (omega arith))

-- There is room for all columns.
pub columns_held : (parts columns : List ℕ) (width : ℕ) → IsHeld parts → width ≡ part parts 1 →
    take width columns ≡ map (column parts) (from_one_to width) → IsHeld (take width columns)
columns_held parts columns width h is lengths =
    subst IsHeld (sym (lengths ∙ ap (λ w. map (column parts) (from_one_to w)) is)) (conjugate_held parts h)

-- The width is the first row.
pub width_is : (parts : List ℕ) → unwrap_or (slice_get parts 0) 0 ≡ part parts 1
width_is [] = refl
width_is (p ∷ parts) = refl
