-- One node less: the fields.
use Rattle.std.proofs.Common.{◌≡◌, ℕ, zero, suc, ◌+◌, ◌-◌, ◌<◌, ◌≤◌, true, false, cond, nat_eq, nat_le, List, [], ◌∷◌}
use Rattle.std.proofs.Common.{◌++◌, take, length, replicate, slice_index, slice_set, refl, sym, ◌∙◌, ap, ap₂, subst}
use Rattle.std.proofs.Common.{arith, leb-true, eq-eqb, ne_eqb, get_or-set_same, ◌≢◌}
use Rattle.std.proofs.lemmas.List.{get_or_append_left}
use Rattle.sp_defs.specs.Partition.{degree, part, IsPartition}
use Rattle.sp_defs.specs.Node.{is_removable}
use Rattle.sp_defs.specs.Signature.{shrink}
use Rattle.sp_shapes.proofs.Diagram.{IsPartition-tail, IsPartition-head}
use Rattle.sp_shapes.proofs.Regular.{index_short}
use Rattle.sp_shapes.proofs.Shrink.{Corner, corner-tail, IsPartition-shrink, degree-shrink, length-shrink}
use Rattle.sp_shapes.proofs.Corners.{removable_corner}
use Rattle.sp_partition.specs.Held.{IsHeld}
use Rattle.sp_partition.specs.Padded.{IsPadded}
use Rattle.sp_partition.specs.declared.TheConstants.{CAPACITY}
use Rattle.sp_partition.proofs.Holding.{Holds, held_fields, fields_hold, few_parts, holds_padded, holds_view}
use Rattle.sp_partition.proofs.Holding.{less_one}

-- A partition whose greatest part is less than 1 is empty.
none_left : (parts : List ℕ) → IsPartition parts → slice_index parts 0 < 1 → parts ≡ []
none_left [] h lt = refl
none_left (p ∷ parts) h lt = absurd (omega (arith, IsPartition-head p parts h))

-- The array, of any size, with one less at place k.
set-shrink : (n k : ℕ) (parts : List ℕ) → IsPartition parts → Corner parts k → length parts ≤ n →
    slice_set (parts ++ replicate (n - length parts) 0) k (slice_index (parts ++ replicate (n - length parts) 0) k - 1)
    ≡ shrink k parts ++ replicate (n - length (shrink k parts)) 0
unfolding shrink
set-shrink n k [] h c few = absurd (omega arith)
set-shrink zero k (p ∷ parts) h c few = absurd (omega arith)
set-shrink (suc n) zero (p ∷ parts) h c few =
    elim (nat_le p 1) as (λ b. nat_le p 1 ≡ b →
    (p - 1) ∷ (parts ++ replicate (suc n - suc (length parts)) 0)
    ≡ cond b parts ((p - 1) ∷ parts) ++ replicate (suc n - length (cond b parts ((p - 1) ∷ parts))) 0) [
      | true ↦ λ e. let low : p ≤ 1 = leb-true p 1 e in
          ap₂ (λ x xs. x ∷ (xs ++ replicate (suc n - suc (length xs)) 0)) (gone low) (empty low)
          ∙ ap (λ m. 0 ∷ replicate m 0) (less_one n 0 ∙ whole n) ∙ ap (λ m. replicate m 0) (sym (whole (suc n)))
          ∙ ap (λ xs. xs ++ replicate (suc n - length xs) 0) (sym (empty low))
      | false ↦ λ e. refl
    ] refl
  where
    whole : (m : ℕ) → m - 0 ≡ m
    whole m = omega arith

    gone : p ≤ 1 → p - 1 ≡ 0
    gone low = omega arith

    empty : p ≤ 1 → parts ≡ []
    empty low = none_left parts (IsPartition-tail p parts h) (omega (arith, c))
set-shrink (suc n) (suc k) (p ∷ parts) h c few =
    simp less_one
    (ap (λ xs. p ∷ xs) (set-shrink n k parts (IsPartition-tail p parts h) (corner-tail p parts k c) (omega arith)))

-- With 1 less at place k.
abbrev pub less_at : List ℕ → ℕ → List ℕ
less_at array k = slice_set array k (slice_index array k - 1)

-- A part that is 0 is no more counted.
abbrev pub parts_left : ℕ → ℕ → ℕ
parts_left count part = count - cond (nat_eq part 0) 1 0

-- A part that is gone leaves one part less.
pub one_less : (count part : ℕ) → part ≡ 0 → count - 1 ≡ parts_left count part
one_less count part e = ap (λ b. count - cond b 1 0) (sym (eq-eqb part 0 e))

-- A part that is left leaves as many.
pub as_many : (count part : ℕ) → part ≢ 0 → count ≡ parts_left count part
as_many count part n = whole count ∙ ap (λ b. count - cond b 1 0) (sym (ne_eqb part 0 n))
  where
    whole : (m : ℕ) → m ≡ m - 0
    whole m = omega arith

-- The fields once the row has one node less, with `left` parts, where they showed the parts `now`.
pub record Shrinks (degree_is left : ℕ) (array now : List ℕ) (row : ℕ) : Type 0 where
  pub padded : IsPadded (degree_is - 1) left (less_at array (row - 1))
  pub shows : take left (less_at array (row - 1)) ≡ shrink (row - 1) now
  pub held : IsHeld (shrink (row - 1) now)

shrinks_held : (degree_is count left : ℕ) (array now : List ℕ) (row : ℕ) → Holds now degree_is count array →
    IsHeld now →
    is_removable now (row, part now row) ≡ true →
    left ≡ parts_left count (slice_index (less_at array (row - 1)) (row - 1)) →
    Shrinks degree_is left array now row
shrinks_held degree_is count left array now row is h removes counted = record {
  padded = holds_padded (shrink (row - 1) now) _ _ _ held holds;
  shows = holds_view (shrink (row - 1) now) _ _ _ holds;
  held = held;
}
  where
    corner : Corner now (row - 1)
    corner = removable_corner now row removes

    less : degree (shrink (row - 1) now) + 1 ≡ degree now
    less = degree-shrink (row - 1) now h.partition corner

    held : IsHeld (shrink (row - 1) now)
    held = record {
      partition = IsPartition-shrink now (row - 1) h.partition corner;
      small = let most : degree now ≤ CAPACITY = h.small in omega (arith, less);
    }

    there : row - 1 < length now
    there = index_short now (row - 1) (omega (arith, corner))

    same_part : slice_index array (row - 1) ≡ slice_index now (row - 1)
    same_part = ap (λ xs. slice_index xs (row - 1)) is.array_is ∙ get_or_append_left now _ 0 (row - 1) there

    size : length array ≡ CAPACITY
    size = ap length is.array_is ∙ (held_fields now h).size

    part_after : slice_index (less_at array (row - 1)) (row - 1) ≡ slice_index now (row - 1) - 1
    part_after =
        let within : row - 1 < length array = omega (arith, there, few_parts now h, size) in
        get_or-set_same array (row - 1) (slice_index array (row - 1) - 1) 0 within ∙ ap (λ p. p - 1) same_part

    holds : Holds (shrink (row - 1) now) (degree_is - 1) left (less_at array (row - 1))
    holds = record {
      total = omega (arith, is.total, less);
      count_is = counted ∙ ap₂ parts_left is.count_is part_after
          ∙ sym (length-shrink (row - 1) now h.partition corner);
      array_is = ap (λ xs. less_at xs (row - 1)) is.array_is
          ∙ set-shrink CAPACITY (row - 1) now h.partition corner (few_parts now h);
    }

-- The fields after a node less, from those before it.
pub shrinks : (degree_is count left : ℕ) (array now : List ℕ) (row : ℕ) → IsPadded degree_is count array →
    take count array ≡ now →
    true ≡ is_removable now (row, part now row) →
    left ≡ parts_left count (slice_index (less_at array (row - 1)) (row - 1)) →
    Shrinks degree_is left array now row
shrinks degree_is count left array now row is shows removes counted =
    shrinks_held degree_is count left array now row
    (subst (λ xs. Holds xs degree_is count array) shows (fields_hold degree_is count array is))
    (subst IsHeld shows is.held) (sym removes) counted
