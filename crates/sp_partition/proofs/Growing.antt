-- One node more: the fields.
use Rattle.std.proofs.Common.{◌≡◌, ◌≢◌, ℕ, zero, suc, ◌+◌, ◌-◌, ◌<◌, ◌≤◌, max, true, List, [], ◌∷◌, ◌++◌, take}
use Rattle.std.proofs.Common.{length, replicate, slice_index, slice_set, sym, ◌∙◌, ap, subst, arith}
use Rattle.sp_defs.specs.Partition.{degree, part}
use Rattle.sp_defs.specs.Node.{is_addable}
use Rattle.sp_defs.specs.Signature.{grow}
use Rattle.sp_shapes.proofs.Grow.{Room, IsPartition-grow, degree-grow, length-grow}
use Rattle.sp_shapes.proofs.Corners.{addable_least, addable_room}
use Rattle.sp_partition.specs.Held.{IsHeld}
use Rattle.sp_partition.specs.Padded.{IsPadded}
use Rattle.sp_partition.specs.declared.TheConstants.{CAPACITY}
use Rattle.sp_partition.proofs.Holding.{Holds, fields_hold, few_parts, holds_padded, holds_view, less_one}

-- The array, of any size, with one more at place k.
set-grow : (n k : ℕ) (parts : List ℕ) → k ≤ length parts → k < n →
    slice_set (parts ++ replicate (n - length parts) 0) k (slice_index (parts ++ replicate (n - length parts) 0) k + 1)
    ≡ grow k parts ++ replicate (n - length (grow k parts)) 0
unfolding grow
set-grow zero k parts h lt = absurd (omega arith)
set-grow (suc n) zero [] h lt =
    ap (λ zeros. slice_set zeros 0 (slice_index zeros 0 + 1)) (ap (λ m. replicate m 0) whole)
    ∙ ap (λ m. 1 ∷ replicate m 0) (sym rest)
  where
    whole : suc n - 0 ≡ suc n
    whole = omega arith

    rest : suc n - 1 ≡ n
    rest = omega arith
set-grow (suc n) zero (p ∷ parts) h lt = ap (λ x. x ∷ (parts ++ replicate (suc n - suc (length parts)) 0)) one_more
  where
    one_more : p + 1 ≡ suc p
    one_more = omega arith
set-grow (suc n) (suc k) [] h lt = absurd (omega arith)
set-grow (suc n) (suc k) (p ∷ parts) h lt = simp less_one
    (ap (λ xs. p ∷ xs) (set-grow n k parts (omega arith) (omega arith)))

-- What the fields are once the row has one node more, where they showed the parts `now`.
pub record Grows (degree_is count : ℕ) (array now : List ℕ) (row : ℕ) : Type 0 where
  pub small : degree now < CAPACITY
  pub place : row - 1 < CAPACITY
  pub padded : IsPadded (degree_is + 1) (max count row) (slice_set array (row - 1) (slice_index array (row - 1) + 1))
  pub shows : take (max count row) (slice_set array (row - 1) (slice_index array (row - 1) + 1)) ≡ grow (row - 1) now
  pub held : IsHeld (grow (row - 1) now)

grows_held : (degree_is count : ℕ) (array now : List ℕ) (row : ℕ) → Holds now degree_is count array → IsHeld now →
    is_addable now (row, part now row + 1) ≡ true → degree_is ≢ CAPACITY → Grows degree_is count array now row
grows_held degree_is count array now row is h adds below = record {
  small = small;
  place = place;
  padded = holds_padded (grow (row - 1) now) _ _ _ held holds;
  shows = holds_view (grow (row - 1) now) _ _ _ holds;
  held = held;
}
  where
    room : Room now (row - 1)
    room = addable_room now row adds

    small : degree now < CAPACITY
    small = let most : degree now ≤ CAPACITY = h.small in let e : degree_is ≡ degree now = is.total in omega arith

    more : degree (grow (row - 1) now) ≡ degree now + 1
    more = degree-grow now (row - 1) room.there

    held : IsHeld (grow (row - 1) now)
    held = record { partition = IsPartition-grow now (row - 1) h.partition room; small = omega (arith, more, small) }

    longer : length (grow (row - 1) now) ≡ max (length now) (row - 1 + 1)
    longer = length-grow now (row - 1) room.there

    place : row - 1 < CAPACITY
    place = omega (arith, few_parts (grow (row - 1) now) held, longer)

    back : row ≡ row - 1 + 1
    back = omega (arith, addable_least now row (part now row + 1) adds)

    holds : Holds (grow (row - 1) now) (degree_is + 1) (max count row)
        (slice_set array (row - 1) (slice_index array (row - 1) + 1))
    holds = record {
      total = omega (arith, is.total, more);
      count_is = ap (λ n. max n row) is.count_is ∙ ap (max (length now)) back ∙ sym longer;
      array_is = ap (λ xs. slice_set xs (row - 1) (slice_index xs (row - 1) + 1)) is.array_is
          ∙ set-grow CAPACITY (row - 1) now room.there place;
    }

-- The fields after a node more, from those before it.
pub grows : (degree_is count : ℕ) (array now : List ℕ) (row : ℕ) → IsPadded degree_is count array →
    take count array ≡ now →
    true ≡ is_addable now (row, part now row + 1) → degree_is ≢ CAPACITY → Grows degree_is count array now row
grows degree_is count array now row is shows adds below =
    grows_held degree_is count array now row
    (subst (λ xs. Holds xs degree_is count array) shows (fields_hold degree_is count array is))
    (subst IsHeld shows is.held) (sym adds) below
