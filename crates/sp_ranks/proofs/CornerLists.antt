-- The corners of the first rows of a partition, and the marks that are found among the first corners.
use Rattle.std.proofs.Common.{◌≡◌, ℕ, ◌+◌, ◌-◌, ◌<◌, ◌≤◌, Bool, true, false, List, [], ◌∷◌, ◌++◌, map, length}
use Rattle.std.proofs.Common.{filter, flat_map, zero, suc, nat_eq, cond, take, get_or, sym, ◌∙◌, ap, subst, arith, append_assoc}
use Rattle.std.specs.List.{range_with_len, AllByRecursion}
use Rattle.std.proofs.lemmas.Bool.{eq-eqb}
use Rattle.std.proofs.lemmas.List.{length-map}
use Rattle.sp_defs.specs.Node.{is_addable, is_removable}
use Rattle.sp_defs.specs.Partition.{part}
use Rattle.sp_defs.specs.Signature.{Addable, Removable, Mark as Marked}
use Rattle.sp_lists.proofs.FlatMaps.{appended_step}
use Rattle.sp_nodes.specs.declared.corners.Mark.{Mark}
use Rattle.sp_ranks.specs.Corners.{row_corners, mark_at, AreCorners, HasResidue}
use Rattle.sp_ranks.specs.declared.corners.CornerNode.{CornerNode}

-- The corners of the rows before one.
pub record AreBefore (e : ℕ) (parts : List ℕ) (row : ℕ) (xs : List CornerNode) : Type 0 where
  pub marks : map mark_at xs ≡ flat_map (row_corners parts) (range_with_len 1 (row - 1))
  pub residues : AllByRecursion (HasResidue e) xs

-- With those of this row they are those before the next.
pub one_row : (e : ℕ) (parts : List ℕ) (row : ℕ) (old mid new : List CornerNode) → 1 ≤ row → AreBefore e parts row old →
    map mark_at mid ≡ map mark_at old
    ++ cond (is_removable parts (row, part parts row)) ((Removable, (row, part parts row)) ∷ []) [] →
    map mark_at new ≡ map mark_at mid
    ++ cond (is_addable parts (row, part parts row + 1)) ((Addable, (row, part parts row + 1)) ∷ []) [] →
    AllByRecursion (HasResidue e) new → AreBefore e parts (row + 1) new
one_row e parts row old mid new least are first second residues = record {
  marks =
      second
      ∙ ap (λ l. l ++ gained) first
      ∙ append_assoc (map mark_at old) lost gained
      ∙ appended_step (row_corners parts) [] (map mark_at old) row least are.marks;
  residues = residues;
}
  where
    lost : List Marked
    lost = cond (is_removable parts (row, part parts row)) ((Removable, (row, part parts row)) ∷ []) []

    gained : List Marked
    gained = cond (is_addable parts (row, part parts row + 1)) ((Addable, (row, part parts row + 1)) ∷ []) []

-- Behind the row below the last they are all.
pub all_rows : (e : ℕ) (parts : List ℕ) (row : ℕ) (xs : List CornerNode) → row ≡ length parts + 2 →
    AreBefore e parts row xs → AreCorners e parts xs
all_rows e parts row xs last are = record {
  marks = are.marks ∙ ap (λ n. flat_map (row_corners parts) (range_with_len 1 n)) counted;
  residues = are.residues;
}
  where
    counted : row - 1 ≡ length parts + 1
    counted = omega (arith, last)

-- Where the one of a place passes a test, those before it that pass are fewer than all.
pub room_left : {X : Type 0} (t : X → Bool) (xs : List X) (k : ℕ) (d : X) → k < length xs → t (get_or xs k d) ≡ true →
    length (filter t (take k xs)) + 1 ≤ length (filter t xs)
room_left t [] k d lt passes = absurd (omega arith)
room_left t (x ∷ xs) zero d lt passes =
    subst (λ b. 1 ≤ length (cond b (x ∷ filter t xs) (filter t xs))) (sym passes) (omega arith)
room_left t (x ∷ xs) (suc k) d lt passes = with_first t x xs k (t x) (room_left t xs k d (omega arith) passes)
  where
    with_first : {X : Type 0} (t : X → Bool) (x : X) (xs : List X) (k : ℕ) (b : Bool) →
        length (filter t (take k xs)) + 1 ≤ length (filter t xs) →
        length (cond b (x ∷ filter t (take k xs)) (filter t (take k xs))) + 1
        ≤ length (cond b (x ∷ filter t xs) (filter t xs))
    with_first t x xs k true fewer = omega (arith, fewer)
    with_first t x xs k false fewer = fewer

-- Where a corner of the residue is still to come, there is room for its mark.
pub room_for : (i : ℕ) (xs : List CornerNode) (found : List Mark) (k : ℕ) (d : CornerNode) →
    found ≡ map (λ s. s.mark) (filter (λ s. nat_eq s.residue i) (take k xs)) → k < length xs →
    (get_or xs k d).residue ≡ i → length (filter (λ s. nat_eq s.residue i) xs) ≤ 33 → length found < 33
room_for i xs found k d is lt same few =
    omega (
      arith,
      ap length is,
      length-map (filter (λ s. nat_eq s.residue i) (take k xs)) (λ s. s.mark),
      room_left (λ s. nat_eq s.residue i) xs k d lt (eq-eqb (get_or xs k d).residue i same),
      few,
    )
