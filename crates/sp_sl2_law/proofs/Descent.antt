-- Down the signature of a partition: what is brought is the restriction there.
use Rattle.std.proofs.Common.{◌≡◌, ℕ, zero, suc, ◌+◌, ◌-◌, ◌≤◌, Bool, true, false, cond, List, [], ◌∷◌, ◌++◌, flat_map}
use Rattle.std.proofs.Common.{length, nat_eq, refl, sym, ◌∙◌, ap, ap₂, subst, arith, ℤ, pos, ◌+ℤ◌, ◌-ℤ◌}
use Rattle.std.proofs.lemmas.Int.{ints}
use Rattle.std.specs.List.{AllByRecursion, range_with_len}
use Rattle.sp_defs.specs.Partition.{part, degree, partitions, from_one_to, IsPartition}
use Rattle.sp_defs.specs.Laurent.{coefficient, collect, power, plus, times, size, IsLaurent}
use Rattle.sp_defs.specs.Node.{residue, is_addable}
use Rattle.sp_defs.specs.Power.{Vector, is_move}
use Rattle.sp_defs.specs.Signature.{Addable, Removable, Mark, row_marks, signature, grow}
use Rattle.sp_lists.proofs.Counts.{sum-filter}
use Rattle.sp_lists.proofs.Elements.{all_every, all_flat, and_split}
use Rattle.sp_algebra.proofs.Coefficients.{same_laurent}
use Rattle.sp_algebra.proofs.Laws.{IsLaurent-plus, coefficient-plus, nought_plus, times_nought}
use Rattle.sp_algebra.proofs.Sums.{IsLaurent-sum_over}
use Rattle.sp_power_law.proofs.Gains.{addable_at, removable_at, not_both}
use Rattle.sp_power_law.proofs.Rows.{row_marks_are, above_addable-next, above_removable-next, above_addable-first}
use Rattle.sp_power_law.proofs.Rows.{above_removable-first}
use Rattle.sp_sl2_law.specs.Restriction.{enlarged, restriction, restricted_size}
use Rattle.sp_sl2_law.specs.Balanced.{corner_difference}
use Rattle.sp_sl2_law.specs.Marks.{taken_through, size_through, share_at, passed, CanAdd}
use Rattle.sp_sl2_law.proofs.Totals.{total, total-alike, total-natural}
use Rattle.sp_sl2_law.proofs.Tilts.{one_if, lean, tilt, lean_gains}
use Rattle.sp_sl2_law.proofs.ByRows.{taken, coefficient-shift, restriction_rows, enlarged_rows}

-- What is brought is a polynomial.
pub IsLaurent-taken : (w : Vector) (parts : List ℕ) (marks : List Mark) (d : ℤ) →
    IsLaurent (taken_through w parts marks d)
unfolding taken_through collect
IsLaurent-taken w parts [] d = refl
IsLaurent-taken w parts ((Addable, x) ∷ marks) d = IsLaurent-plus _ _
IsLaurent-taken w parts ((Removable, x) ∷ marks) d = IsLaurent-taken w parts marks (d -ℤ pos 1)

-- One mark after the other.
pub taken-step : (w : Vector) (parts : List ℕ) (m : Mark) (marks : List Mark) (d : ℤ) →
    taken_through w parts (m ∷ marks) d ≡
    plus (times (power (passed m d)) (share_at w parts m)) (taken_through w parts marks (passed m d))
unfolding taken_through
taken-step w parts (Addable, x) marks d = refl
taken-step w parts (Removable, x) marks d =
    sym (ap (λ p. plus p (taken_through w parts marks (d -ℤ pos 1))) (times_nought (power (d -ℤ pos 1)))
    ∙ nought_plus (taken_through w parts marks (d -ℤ pos 1)) (IsLaurent-taken w parts marks (d -ℤ pos 1)))

-- And their sizes.
pub size-step : (w : Vector) (parts : List ℕ) (m : Mark) (marks : List Mark) →
    size_through w parts (m ∷ marks) ≡ size (share_at w parts m) + size_through w parts marks
unfolding size_through
size-step w parts (Addable, x) marks = refl
size-step w parts (Removable, x) marks = omega arith

-- The addable minus the removable nodes above the next row.
pub lean_next : (e i : ℕ) (parts : List ℕ) (r : ℕ) → 1 ≤ r →
    lean e i parts (r + 1) ≡ (lean e i parts r +ℤ one_if (addable_at e i parts r)) -ℤ one_if (removable_at e i parts r)
lean_next e i parts r hr = next _ _ _ _ (addable_at e i parts r) (removable_at e i parts r)
    (above_addable-next e i parts r hr) (above_removable-next e i parts r hr)
  where
    next : (m n m' n' : ℕ) (a b : Bool) → m' ≡ m + cond a 1 0 → n' ≡ n + cond b 1 0 →
        pos m' -ℤ pos n' ≡ ((pos m -ℤ pos n) +ℤ one_if a) -ℤ one_if b
    next m n m' n' a b h k = omega (arith, ints)

-- Nothing is above the first row.
pub lean_first : (e i : ℕ) (parts : List ℕ) → lean e i parts 1 ≡ pos 0
lean_first e i parts = ap₂ (λ a b. pos a -ℤ pos b) (above_addable-first e i parts) (above_removable-first e i parts)

module _ (e i : ℕ) (he : 2 ≤ e) (mu : List ℕ) (pm : IsPartition mu) (w : Vector) where
  abbrev whole : ℤ
  whole = corner_difference e i mu

  -- ---- the polynomials

  taken_row : (z : ℤ) (r : ℕ) (rest : List Mark) (later : ℤ) → 1 ≤ r →
      coefficient (taken_through w mu rest (lean e i mu (r + 1) -ℤ whole)) z ≡ later →
      coefficient (taken_through w mu (row_marks e i mu r ++ rest) (lean e i mu r -ℤ whole)) z ≡
      taken e i w mu z r +ℤ later
  unfolding taken_through
  taken_row z r rest later hr h =
      ap (λ ms. coefficient (taken_through w mu (ms ++ rest) (lean e i mu r -ℤ whole)) z) (row_marks_are e i mu r)
      ∙ by_case (addable_at e i mu r) (removable_at e i mu r) (lean e i mu r) (lean e i mu (r + 1))
      (tilt e i mu (r - 1)) (not_both e i mu r he) (lean_next e i mu r hr) (λ can. lean_gains e i mu r he hr pm can) h
    where
      by_case : (a b : Bool) (u v t : ℤ) → (a ≡ true → b ≡ true → ⊥) → v ≡ (u +ℤ one_if a) -ℤ one_if b →
          (a ≡ true → u ≡ t) → coefficient (taken_through w mu rest (v -ℤ whole)) z ≡ later →
          coefficient
          (taken_through w mu
          ((cond b ((Removable, (r, part mu r)) ∷ []) [] ++ cond a ((Addable, (r, part mu r + 1)) ∷ []) []) ++ rest)
          (u -ℤ whole)) z ≡
          cond a (coefficient (w (grow (r - 1) mu)) (z -ℤ ((t +ℤ pos 1) -ℤ whole))) (pos 0) +ℤ later
      by_case true true u v t never hv ht h = absurd (never refl refl)
      by_case true false u v t never hv ht h =
          coefficient-plus (times (power ((u -ℤ whole) +ℤ pos 1)) (w (grow (r - 1) mu)))
          (taken_through w mu rest ((u -ℤ whole) +ℤ pos 1)) z
          ∙ ap₂ (λ x y. x +ℤ y)
          (coefficient-shift ((u -ℤ whole) +ℤ pos 1) (w (grow (r - 1) mu)) z
          ∙ ap (λ k. coefficient (w (grow (r - 1) mu)) (z -ℤ k)) (power_is (ht refl)))
          (ap (λ k. coefficient (taken_through w mu rest k) z) down ∙ h)
        where
          power_is : u ≡ t → (u -ℤ whole) +ℤ pos 1 ≡ (t +ℤ pos 1) -ℤ whole
          power_is same = omega (arith, ints)

          down : (u -ℤ whole) +ℤ pos 1 ≡ v -ℤ whole
          down = omega (arith, ints, hv)
      by_case false true u v t never hv ht h =
          ap (λ k. coefficient (taken_through w mu rest k) z) down ∙ h ∙ plain later
        where
          down : (u -ℤ whole) -ℤ pos 1 ≡ v -ℤ whole
          down = omega (arith, ints, hv)

          plain : (x : ℤ) → x ≡ pos 0 +ℤ x
          plain x = omega (arith, ints)
      by_case false false u v t never hv ht h =
          ap (λ k. coefficient (taken_through w mu rest k) z) level ∙ h ∙ plain later
        where
          level : u -ℤ whole ≡ v -ℤ whole
          level = omega (arith, ints, hv)

          plain : (x : ℤ) → x ≡ pos 0 +ℤ x
          plain x = omega (arith, ints)

  taken_rows : (z : ℤ) (n r : ℕ) → 1 ≤ r →
      coefficient (taken_through w mu (flat_map (row_marks e i mu) (range_with_len r n)) (lean e i mu r -ℤ whole)) z ≡
      total (range_with_len r n) (taken e i w mu z)
  unfolding taken_through total coefficient
  taken_rows z zero r hr = refl
  taken_rows z (suc n) r hr =
      taken_row z r (flat_map (row_marks e i mu) (range_with_len (r + 1) n))
      (total (range_with_len (r + 1) n) (taken e i w mu z)) hr (taken_rows z n (r + 1) (omega arith))

  -- Down the whole signature the restriction is brought.
  pub signature_taken : (d : ℤ) → d ≡ pos 0 -ℤ corner_difference e i mu →
      taken_through w mu (signature e i mu) d ≡ restriction e i w mu
  unfolding signature restriction
  signature_taken d is =
      same_laurent _ _ (IsLaurent-taken w mu (signature e i mu) d) (IsLaurent-sum_over (enlarged e i mu) _)
      (λ z. ap (λ k. coefficient (taken_through w mu (signature e i mu) k) z)
      (is ∙ ap (λ x. x -ℤ whole) (sym (lean_first e i mu)))
      ∙ taken_rows z (length mu + 1) 1 (omega arith)
      ∙ sym (restriction_rows e i he mu pm (length mu + 1) w z (omega arith)))

  -- ---- the sizes

  size_row : ℕ → ℤ
  size_row r = cond (addable_at e i mu r) (pos (size (w (grow (r - 1) mu)))) (pos 0)

  size_rows : (n r : ℕ) →
      pos (size_through w mu (flat_map (row_marks e i mu) (range_with_len r n))) ≡ total (range_with_len r n) size_row
  unfolding size_through total size_row
  size_rows zero r = refl
  size_rows (suc n) r =
      ap (λ ms. pos (size_through w mu (ms ++ flat_map (row_marks e i mu) (range_with_len (r + 1) n))))
      (row_marks_are e i mu r)
      ∙ by_case (addable_at e i mu r) (removable_at e i mu r) (flat_map (row_marks e i mu) (range_with_len (r + 1) n))
      (total (range_with_len (r + 1) n) size_row) (not_both e i mu r he) (size_rows n (r + 1))
    where
      by_case : (a b : Bool) (rest : List Mark) (later : ℤ) → (a ≡ true → b ≡ true → ⊥) →
          pos (size_through w mu rest) ≡ later →
          pos
          (size_through w mu
          ((cond b ((Removable, (r, part mu r)) ∷ []) [] ++ cond a ((Addable, (r, part mu r + 1)) ∷ []) []) ++ rest)) ≡
          cond a (pos (size (w (grow (r - 1) mu)))) (pos 0) +ℤ later
      by_case true true rest later never h = absurd (never refl refl)
      by_case true false rest later never h = omega (arith, ints)
      by_case false true rest later never h = omega (arith, ints)
      by_case false false rest later never h = omega (arith, ints)

  -- and its sizes.
  pub signature_size : size_through w mu (signature e i mu) ≡ restricted_size e i w mu
  unfolding signature enlarged size_row
  signature_size = same_natural _ _
      (size_rows (length mu + 1) 1
      ∙ sym (enlarged_rows e i he mu pm (length mu + 1) w (pos 0) (omega arith) (λ x. pos (size (w x))))
      ∙ sym (ap pos (sum-filter (λ x. is_move e i 1 mu x) (λ x. size (w x)) (partitions (degree mu + 1)))
      ∙ total-natural (partitions (degree mu + 1)) (λ x. cond (is_move e i 1 mu x) (size (w x)) 0)
      ∙ total-alike (partitions (degree mu + 1)) _ _
      (all_every _ (partitions (degree mu + 1)) (λ x. inside (is_move e i 1 mu x) (size (w x))))))
    where
      same_natural : (m n : ℕ) → pos m ≡ pos n → m ≡ n
      same_natural m n h = omega (arith, ints)

      inside : (b : Bool) (k : ℕ) → pos (cond b k 0) ≡ cond b (pos k) (pos 0)
      inside true k = refl
      inside false k = refl

-- Each addable node of a signature is one.
pub all_can_add : (e i : ℕ) (parts : List ℕ) → AllByRecursion (CanAdd parts) (signature e i parts)
unfolding signature
all_can_add e i parts =
    all_flat (CanAdd parts) (row_marks e i parts) (from_one_to (length parts + 1))
    (all_every (λ r. AllByRecursion (CanAdd parts) (row_marks e i parts r)) (from_one_to (length parts + 1))
    (λ r. subst (AllByRecursion (CanAdd parts)) (sym (row_marks_are e i parts r))
    (by_case r (addable_at e i parts r) (removable_at e i parts r)
    (λ can. (and_split (is_addable parts (r, part parts r + 1)) (nat_eq (residue e (r, part parts r + 1)) i) can).0))))
  where
    by_case : (r : ℕ) (a b : Bool) → (a ≡ true → is_addable parts (r, part parts r + 1) ≡ true) →
        AllByRecursion (CanAdd parts)
        (cond b ((Removable, (r, part parts r)) ∷ []) [] ++ cond a ((Addable, (r, part parts r + 1)) ∷ []) [])
    by_case r true true h = (tt, (h refl, tt))
    by_case r true false h = (h refl, tt)
    by_case r false true h = (tt, tt)
    by_case r false false h = tt
