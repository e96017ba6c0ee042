-- A node is addable exactly where a diagram has it besides, and removable exactly where one lacks it alone.
use Rattle.std.proofs.Common.{◌≡◌, ◌↔◌, ℕ, suc, ◌+◌, ◌-◌, ◌<◌, ◌≤◌, true, List, slice_index, refl, sym, ◌∙◌, ap, subst}
use Rattle.std.proofs.Common.{arith, ◌⊎◌, inl, inr, Option, Some, None}
use Rattle.std.specs.Option.{SomeIff}
use Rattle.sp_defs.specs.Partition.{degree, part, IsPartition}
use Rattle.sp_defs.specs.Node.{is_addable, is_removable}
use Rattle.sp_defs.specs.Signature.{grow, shrink}
use Rattle.sp_lists.proofs.Elements.{le_or_lt}
use Rattle.sp_shapes.proofs.Diagram.{same_rows}
use Rattle.sp_shapes.proofs.Grow.{Room, IsPartition-grow, grow_same, grow_other, degree-grow}
use Rattle.sp_shapes.proofs.Shrink.{Corner, IsPartition-shrink, shrink_same, shrink_other}
use Rattle.sp_shapes.proofs.Corners.{part_is, row_addable, row_removable, addable_least, addable_column, addable_room}
use Rattle.sp_shapes.proofs.Corners.{removable_least, removable_column, removable_corner}
use Rattle.sp_partition.specs.Nodes.{IsWithNode, CanAdd, CanRemove}
use Rattle.sp_partition.specs.declared.TheConstants.{CAPACITY}

-- ---- partitions that agree

-- Two partitions that agree in one row and in all others are one.
rows_agree : (row : ℕ) (p q : List ℕ) → IsPartition p → IsPartition q → 1 ≤ row → part p row ≡ part q row →
    ((r : ℕ) → 1 ≤ r → (r ≡ row → ⊥) → part p r ≡ part q r) → p ≡ q
rows_agree row p q hp hq least here others =
    same_rows p q hp hq (λ k. at k (le_or_lt (suc k) row) (le_or_lt row (suc k)))
  where
    same : (r k : ℕ) → r ≡ suc k → part p r ≡ part q r → slice_index p k ≡ slice_index q k
    same r k e is = sym (part_is p r k e) ∙ is ∙ part_is q r k e

    at : (k : ℕ) → (suc k ≤ row) ⊎ (row < suc k) → (row ≤ suc k) ⊎ (suc k < row) → slice_index p k ≡ slice_index q k
    at k (inl le) (inl ge) = same row k (omega arith) here
    at k (inl le) (inr lt) = same (suc k) k refl (others (suc k) (omega arith) (λ e. omega arith))
    at k (inr gt) _ = same (suc k) k refl (others (suc k) (omega arith) (λ e. omega arith))

-- One node more makes one partition, and so does one node less.
one_larger : (row column : ℕ) (parts p q : List ℕ) → IsWithNode row column parts p → IsWithNode row column parts q →
    p ≡ q
one_larger row column parts p q h k =
    rows_agree row p q h.larger k.larger h.row_least (h.longer ∙ sym k.longer)
    (λ r least ne. h.others r least ne ∙ sym (k.others r least ne))

one_smaller : (row column : ℕ) (parts p q : List ℕ) → IsWithNode row column p parts → IsWithNode row column q parts →
    p ≡ q
one_smaller row column parts p q h k =
    rows_agree row p q h.smaller k.smaller h.row_least (omega (arith, h.column_is, k.column_is))
    (λ r least ne. sym (h.others r least ne) ∙ k.others r least ne)

-- ---- one node more

with_grown : (parts : List ℕ) (row : ℕ) → IsPartition parts → is_addable parts (row, part parts row + 1) ≡ true →
    IsWithNode row (part parts row + 1) parts (grow (row - 1) parts)
with_grown parts row h adds = record {
  row_least = least;
  column_is = refl;
  smaller = h;
  larger = IsPartition-grow parts (row - 1) h room;
  longer = grow_same parts (row - 1) room.there;
  others = λ r from ne. grow_other parts (row - 1) (r - 1) (λ e. ne (omega (arith, least)));
}
  where
    least : 1 ≤ row
    least = addable_least parts row (part parts row + 1) adds

    room : Room parts (row - 1)
    room = addable_room parts row adds

with_addable : (row column : ℕ) (parts p : List ℕ) → IsWithNode row column parts p →
    is_addable parts (row, column) ≡ true
with_addable row column parts p h =
    subst (λ c. is_addable parts (row, c) ≡ true) (sym h.column_is) (row_addable parts row h.row_least shorter)
  where
    shorter : 1 < row → part parts row < part parts (row - 1)
    shorter lt =
        let falls : part p row ≤ part p (row - 1) =
        subst (λ k. slice_index p k ≤ slice_index p (row - 1 - 1)) (omega arith) (h.larger.descending (row - 1 - 1)) in
        omega (arith, falls, h.longer, h.column_is, h.others (row - 1) (omega arith) (λ e. omega arith))

-- A node is addable exactly where some diagram has it besides.
pub addable_with : (parts : List ℕ) (row column : ℕ) → IsPartition parts →
    (is_addable parts (row, column) ≡ true) ↔ ((p : List ℕ) × IsWithNode row column parts p)
addable_with parts row column h = (
  λ adds.
      let is : column ≡ part parts row + 1 = addable_column parts row column adds in (
        grow (row - 1) parts,
        subst (λ c. IsWithNode row c parts (grow (row - 1) parts)) (sym is)
            (with_grown parts row h (subst (λ c. is_addable parts (row, c) ≡ true) is adds)),
      ),
  λ (p, w). with_addable row column parts p w,
)

-- So where there is room, the answer is the partition with one node more.
pub more_with : (parts : List ℕ) (row : ℕ) (result : Option (List ℕ)) → IsPartition parts →
    SomeIff result (CanAdd row parts) (grow (row - 1) parts) → (p : List ℕ) →
    (result ≡ Some p) ↔ (IsWithNode row (part parts row + 1) parts p × (degree p ≤ CAPACITY))
more_with parts row (Some q) h ((adds, room), is) p = (
  λ e.
      let same : p ≡ grow (row - 1) parts = (let s : q ≡ p = cc in sym s ∙ is) in (
        subst (IsWithNode row (part parts row + 1) parts) (sym same) (with_grown parts row h adds),
        omega (arith, ap degree same, larger adds, room),
      ),
  λ (w, small). ap Some (is ∙ one_larger row _ parts _ p (with_grown parts row h adds) w),
)
  where
    larger : is_addable parts (row, part parts row + 1) ≡ true → degree (grow (row - 1) parts) ≡ degree parts + 1
    larger adds = degree-grow parts (row - 1) (addable_room parts row adds).there
more_with parts row None h absent p = (
  λ e. cc,
  λ (w, small).
      let adds : is_addable parts (row, part parts row + 1) ≡ true = with_addable row _ parts p w in
      let same : p ≡ grow (row - 1) parts = one_larger row _ parts p _ w (with_grown parts row h adds) in
      let more : degree (grow (row - 1) parts) ≡ degree parts + 1 =
      degree-grow parts (row - 1) (addable_room parts row adds).there in
      absurd (absent (adds, omega (arith, ap degree same, more, small))),
)

-- ---- one node less

with_shrunk : (parts : List ℕ) (row : ℕ) → IsPartition parts → is_removable parts (row, part parts row) ≡ true →
    IsWithNode row (part parts row) (shrink (row - 1) parts) parts
with_shrunk parts row h removes = record {
  row_least = least;
  column_is = sym (shrink_same parts (row - 1) h corner);
  smaller = IsPartition-shrink parts (row - 1) h corner;
  larger = h;
  longer = refl;
  others = λ r from ne. sym (shrink_other parts (row - 1) (r - 1) h corner (λ e. ne (omega (arith, least))));
}
  where
    least : 1 ≤ row
    least = removable_least parts row (part parts row) removes

    corner : Corner parts (row - 1)
    corner = removable_corner parts row removes

with_removable : (row column : ℕ) (parts p : List ℕ) → IsWithNode row column p parts →
    is_removable parts (row, column) ≡ true
with_removable row column parts p h =
    subst (λ c. is_removable parts (row, c) ≡ true) h.longer (row_removable parts row h.row_least shorter)
  where
    shorter : part parts (row + 1) < part parts row
    shorter =
        let least = h.row_least in
        let falls : part p (row + 1) ≤ part p row =
        subst (λ k. slice_index p k ≤ slice_index p (row - 1)) (omega arith) (h.smaller.descending (row - 1)) in
        omega (arith, falls, h.longer, h.column_is, h.others (row + 1) (omega arith) (λ e. omega arith))

-- A node is removable exactly where some diagram lacks it alone.
pub removable_with : (parts : List ℕ) (row column : ℕ) → IsPartition parts →
    (is_removable parts (row, column) ≡ true) ↔ ((p : List ℕ) × IsWithNode row column p parts)
removable_with parts row column h = (
  λ removes.
      let is : column ≡ part parts row = removable_column parts row column removes in (
        shrink (row - 1) parts,
        subst (λ c. IsWithNode row c (shrink (row - 1) parts) parts) (sym is)
            (with_shrunk parts row h (subst (λ c. is_removable parts (row, c) ≡ true) is removes)),
      ),
  λ (p, w). with_removable row column parts p w,
)

-- So the answer is the partition with one node less.
pub less_with : (parts : List ℕ) (row : ℕ) (result : Option (List ℕ)) → IsPartition parts →
    SomeIff result (CanRemove row parts) (shrink (row - 1) parts) → (p : List ℕ) →
    (result ≡ Some p) ↔ IsWithNode row (part parts row) p parts
less_with parts row (Some q) h (removes, is) p = (
  λ e.
      let same : p ≡ shrink (row - 1) parts = (let s : q ≡ p = cc in sym s ∙ is) in
      subst (λ r. IsWithNode row (part parts row) r parts) (sym same) (with_shrunk parts row h removes),
  λ w. ap Some (is ∙ one_smaller row _ parts _ p (with_shrunk parts row h removes) w),
)
less_with parts row None h absent p = (λ e. cc, λ w. absurd (absent (with_removable row _ parts p w)))
