-- On the way down a signature each addable node can be added in its turn.
use Rattle.std.proofs.Common.{◌≡◌, ℕ, zero, suc, ◌+◌, ◌-◌, ◌≤◌, Bool, true, false, cond, nat_eq, List, [], ◌∷◌, ◌++◌}
use Rattle.std.proofs.Common.{flat_map, length, refl, sym, ◌∙◌, subst, arith, ℤ, pos}
use Rattle.std.specs.List.{range_with_len}
use Rattle.sp_defs.specs.Partition.{part, IsPartition}
use Rattle.sp_defs.specs.Node.{residue, is_addable}
use Rattle.sp_defs.specs.Signature.{Addable, Removable, Mark, row_marks, signature, grow}
use Rattle.sp_lists.proofs.Elements.{and_split}
use Rattle.sp_power_law.specs.Walk.{CanGrow}
use Rattle.sp_power_law.proofs.Gains.{addable_at, removable_at}
use Rattle.sp_power_law.proofs.Rows.{row_marks_are}
use Rattle.sp_power_law.proofs.Steps.{Before, start, pass, choose, same_addable}

module _ (e i : ℕ) (he : 2 ≤ e) (parts : List ℕ) (pp : IsPartition parts) where
  grow_row : (r : ℕ) (rest : List Mark) (now : List ℕ) →
      (addable_at e i parts r ≡ true → is_addable now (r, part now r + 1) ≡ true) →
      (addable_at e i parts r ≡ true → CanGrow rest (grow (r - 1) now)) → CanGrow rest now →
      CanGrow (row_marks e i parts r ++ rest) now
  grow_row r rest now can chosen passed =
      subst (λ ms. CanGrow (ms ++ rest) now) (sym (row_marks_are e i parts r))
      (by_case (addable_at e i parts r) (removable_at e i parts r) can chosen)
    where
      by_case : (a b : Bool) → (a ≡ true → is_addable now (r, part now r + 1) ≡ true) →
          (a ≡ true → CanGrow rest (grow (r - 1) now)) →
          CanGrow ((cond b ((Removable, (r, part parts r)) ∷ []) [] ++ cond a ((Addable, (r, part parts r + 1)) ∷ [])
          []) ++ rest) now
      by_case true true f g = (f refl, g refl, passed)
      by_case true false f g = (f refl, g refl, passed)
      by_case false true f g = passed
      by_case false false f g = passed

  grow_through : (n r k : ℕ) (now : List ℕ) (d x : ℤ) → 1 ≤ r → Before e i parts r k now d x →
      CanGrow (flat_map (row_marks e i parts) (range_with_len r n)) now
  grow_through zero r k now d x hr st = tt
  grow_through (suc n) r k now d x hr st =
      grow_row r (flat_map (row_marks e i parts) (range_with_len (r + 1) n)) now
      (λ can. (and_split (is_addable now (r, part now r + 1)) (nat_eq (residue e (r, part now r + 1)) i)
      (same_addable e i he parts pp r k now d x hr st ∙ can)).0)
      (λ can. grow_through n (r + 1) (k + 1) (grow (r - 1) now) d _ (omega arith)
      (choose e i he parts pp r k now d x hr st can))
      (grow_through n (r + 1) k now _ x (omega arith) (pass e i he parts pp r k now d x hr st))

-- Down the signature of a partition each addable node can be added in its turn.
pub can_grow : (e i : ℕ) (parts : List ℕ) → 2 ≤ e → IsPartition parts → CanGrow (signature e i parts) parts
unfolding signature
can_grow e i parts he pp =
    grow_through e i he parts pp (length parts + 1) 1 0 parts (pos 0) (pos 0) (omega arith) (start e i parts pp)
