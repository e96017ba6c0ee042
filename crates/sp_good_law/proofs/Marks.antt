-- The marks of a signature: what each says, which marks a row has, and the signature by rows.
use Rattle.std.proofs.Common.{◌≡◌, ◌≢◌, ℕ, zero, suc, ◌+◌, ◌<◌, ◌≤◌, Bool, true, false, cond, ◌&&◌, nat_eq, List}
use Rattle.std.proofs.Common.{[]}
use Rattle.std.proofs.Common.{◌∷◌, ◌++◌, filter, flat_map, length, refl, sym, ◌∙◌, ap, ap₂, subst, arith}
use Rattle.std.proofs.Common.{eqb-true, eq-eqb, ne_eqb}
use Rattle.std.proofs.lemmas.Grind.{flat_map-append}
use Rattle.std.specs.List.{AllByRecursion, range_with_len}
use Rattle.sp_defs.specs.Partition.{part}
use Rattle.sp_defs.specs.Node.{residue, is_addable, is_removable}
use Rattle.sp_defs.specs.Signature.{Addable, Removable, Mark, row_marks, signature, joined, reduced}
use Rattle.sp_lists.proofs.Elements.{all_append, all_flat, range_all, range_add}
use Rattle.sp_shapes.proofs.Residues.{right_differs}
use Rattle.std.proofs.lemmas.Bool.{and_parts, and_from, and_right}
use Rattle.std.proofs.lemmas.List.Elements.{filter-append}
use Rattle.sp_lists.proofs.Places.{all_weaken}

-- ---- each mark that is left was one of the list

-- What holds of all marks holds of those that are left.
pub all_reduced : (P : Mark → Type 0) (ms : List Mark) → AllByRecursion P ms → AllByRecursion P (reduced ms)
unfolding reduced
all_reduced P [] h = tt
all_reduced P (m ∷ ms) (h, hs) = joined_all m (reduced ms) h (all_reduced P ms hs)
  where
    joined_all : (m : Mark) (ms : List Mark) → P m → AllByRecursion P ms → AllByRecursion P (joined m ms)
    joined_all (Removable, y) ms h hs = (h, hs)
    joined_all (Addable, y) [] h hs = (h, hs)
    joined_all (Addable, y) ((Removable, z) ∷ ms) h hs = hs.1
    joined_all (Addable, y) ((Addable, z) ∷ ms) h hs = (h, hs)

-- ---- a list with an element only where a test holds

kept_if : (t : Mark → Bool) (b : Bool) (m : Mark) → filter t (cond b (m ∷ []) []) ≡ cond (b && t m) (m ∷ []) []
kept_if t true m = refl
kept_if t false m = refl

all_if : (P : Mark → Type 0) (b : Bool) (m : Mark) → (b ≡ true → P m) → AllByRecursion P (cond b (m ∷ []) [])
all_if P true m h = (h refl, tt)
all_if P false m h = tt

-- ---- what a mark says

-- an R stands at the end of its row, an A right of it; both have the residue
abbrev pub IsMark : ℕ → ℕ → List ℕ → Mark → Type 0
IsMark e i parts (Removable, x) = (is_removable parts x ≡ true) × (residue e x ≡ i) × (x.1 ≡ part parts x.0)
IsMark e i parts (Addable, x) = (is_addable parts x ≡ true) × (residue e x ≡ i) × (x.1 ≡ part parts x.0 + 1)

module _ (e i : ℕ) (parts : List ℕ) where
  -- the two candidates of row r, as marks
  abbrev R : ℕ → Mark
  R r = (Removable, (r, part parts r))

  abbrev A : ℕ → Mark
  A r = (Addable, (r, part parts r + 1))

  abbrev has_R : ℕ → Bool
  has_R r = is_removable parts (r, part parts r) && nat_eq (residue e (r, part parts r)) i

  abbrev has_A : ℕ → Bool
  has_A r = is_addable parts (r, part parts r + 1) && nat_eq (residue e (r, part parts r + 1)) i

  row_is : (r : ℕ) → row_marks e i parts r ≡ cond (has_R r) (R r ∷ []) [] ++ cond (has_A r) (A r ∷ []) []
  row_is r =
      filter-append t (cond (is_removable parts (r, part parts r)) (R r ∷ []) [])
      (cond (is_addable parts (r, part parts r + 1)) (A r ∷ []) [])
      ∙ ap₂ (λ x y. x ++ y) (kept_if t (is_removable parts (r, part parts r)) (R r))
      (kept_if t (is_addable parts (r, part parts r + 1)) (A r))
    where
      t : Mark → Bool
      t m = nat_eq (residue e m.1) i

  row_facts : (r : ℕ) → AllByRecursion (λ m. (m.1.0 ≡ r) × IsMark e i parts m) (row_marks e i parts r)
  row_facts r = subst (AllByRecursion (λ m. (m.1.0 ≡ r) × IsMark e i parts m)) (sym (row_is r))
      (all_append (λ m. (m.1.0 ≡ r) × IsMark e i parts m) (cond (has_R r) (R r ∷ []) []) (cond (has_A r) (A r ∷ []) [])
      (all_if (λ m. (m.1.0 ≡ r) × IsMark e i parts m) (has_R r) (R r) removable)
      (all_if (λ m. (m.1.0 ≡ r) × IsMark e i parts m) (has_A r) (A r) addable))
    where
      removable : has_R r ≡ true → (r ≡ r) × IsMark e i parts (R r)
      removable h =
          let p = and_parts (is_removable parts (r, part parts r)) (nat_eq (residue e (r, part parts r)) i) h in
          (refl, (p.0, eqb-true (residue e (r, part parts r)) i p.1, refl))

      addable : has_A r ≡ true → (r ≡ r) × IsMark e i parts (A r)
      addable h =
          let p = and_parts (is_addable parts (r, part parts r + 1)) (nat_eq (residue e (r, part parts r + 1)) i) h in
          (refl, (p.0, eqb-true (residue e (r, part parts r + 1)) i p.1, refl))

  -- ---- rows by residue

  -- a row with an R of the residue has that alone
  pub row_R : 2 ≤ e → (r : ℕ) → is_removable parts (r, part parts r) ≡ true → residue e (r, part parts r) ≡ i →
      row_marks e i parts r ≡ (Removable, (r, part parts r)) ∷ []
  row_R he r rem res = row_is r ∙ ap₂ (λ a b. cond a (R r ∷ []) [] ++ cond b (A r ∷ []) [])
      (and_from (is_removable parts (r, part parts r)) (nat_eq (residue e (r, part parts r)) i) rem
      (eq-eqb (residue e (r, part parts r)) i res))
      (and_right (is_addable parts (r, part parts r + 1)) (nat_eq (residue e (r, part parts r + 1)) i)
      (ne_eqb (residue e (r, part parts r + 1)) i (λ q. right_differs e r (part parts r) he (q ∙ sym res))))

  -- and one with an A too
  pub row_A : 2 ≤ e → (r : ℕ) → is_addable parts (r, part parts r + 1) ≡ true →
      residue e (r, part parts r + 1) ≡ i → row_marks e i parts r ≡ (Addable, (r, part parts r + 1)) ∷ []
  row_A he r add res = row_is r ∙ ap₂ (λ a b. cond a (R r ∷ []) [] ++ cond b (A r ∷ []) [])
      (and_right (is_removable parts (r, part parts r)) (nat_eq (residue e (r, part parts r)) i)
      (ne_eqb (residue e (r, part parts r)) i (λ q. right_differs e r (part parts r) he (res ∙ sym q))))
      (and_from (is_addable parts (r, part parts r + 1)) (nat_eq (residue e (r, part parts r + 1)) i) add
      (eq-eqb (residue e (r, part parts r + 1)) i res))

  -- a row with other residues has nothing
  pub row_none : (r : ℕ) → residue e (r, part parts r) ≢ i → residue e (r, part parts r + 1) ≢ i →
      row_marks e i parts r ≡ []
  row_none r a b = row_is r ∙ ap₂ (λ a b. cond a (R r ∷ []) [] ++ cond b (A r ∷ []) [])
      (and_right (is_removable parts (r, part parts r)) (nat_eq (residue e (r, part parts r)) i)
      (ne_eqb (residue e (r, part parts r)) i a))
      (and_right (is_addable parts (r, part parts r + 1)) (nat_eq (residue e (r, part parts r + 1)) i)
      (ne_eqb (residue e (r, part parts r + 1)) i b))

  -- ---- several rows

  -- the marks of n rows, from row a on
  abbrev pub marks_from : ℕ → ℕ → List Mark
  marks_from a n = flat_map (row_marks e i parts) (range_with_len a n)

  -- each is a mark of one of these rows
  pub rows_facts : (a n : ℕ) →
      AllByRecursion (λ m. (a ≤ m.1.0) × (m.1.0 < a + n) × IsMark e i parts m) (marks_from a n)
  rows_facts a n = all_flat Within (row_marks e i parts) (range_with_len a n)
      (range_all (λ r. AllByRecursion Within (row_marks e i parts r)) a n one_row)
    where
      Within : Mark → Type 0
      Within m = (a ≤ m.1.0) × (m.1.0 < a + n) × IsMark e i parts m

      one_row : (r : ℕ) → a ≤ r → r < a + n → AllByRecursion Within (row_marks e i parts r)
      one_row r lo hi = all_weaken (λ m. (m.1.0 ≡ r) × IsMark e i parts m) Within (row_marks e i parts r)
          (λ m f. (omega (arith, f.0), omega (arith, f.0), f.1)) (row_facts r)

  -- rows without marks give none
  pub none_of : (a n : ℕ) → ((r : ℕ) → a ≤ r → r < a + n → row_marks e i parts r ≡ []) → marks_from a n ≡ []
  none_of a zero f = refl
  none_of a (suc n) f = ap₂ (λ x y. x ++ y) (f a (omega arith) (omega arith))
      (none_of (a + 1) n (λ r lo hi. f r (omega arith) (omega arith)))

  -- m rows, one row, and n more
  pub split_at : (a m n : ℕ) →
      marks_from a (m + suc n) ≡ marks_from a m ++ (row_marks e i parts (a + m) ++ marks_from (a + m + 1) n)
  split_at a m n =
      ap (flat_map (row_marks e i parts)) (range_add a m (suc n))
      ∙ flat_map-append (row_marks e i parts) (range_with_len a m) (range_with_len (a + m) (suc n))

  -- ---- the signature

  -- the signature is the marks of all rows that have one
  pub signature_rows : (n : ℕ) → length parts + 1 ≡ n → signature e i parts ≡ marks_from 1 n
  unfolding signature
  signature_rows n h = ap (marks_from 1) h
