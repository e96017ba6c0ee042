-- The addable and removable i-nodes of a partition row by row: the marks of a row, and the counts above the next row.
use Rattle.std.proofs.Common.{◌≡◌, ◌≢◌, ℕ, zero, suc, ◌+◌, ◌-◌, ◌<◌, ◌≤◌, Bool, true, false, cond, not, ◌&&◌, nat_eq}
use Rattle.std.proofs.Common.{nat_lt, List, [], ◌∷◌, ◌++◌, map, filter, length, refl, sym, ◌∙◌, ap, ap₂, subst, arith}
use Rattle.std.proofs.Common.{count_by, slice_index, ◌⊎◌, inl, inr, eq-eqb, ne_eqb}
use Rattle.std.specs.List.{AllByRecursion, range_with_len}
use Rattle.std.proofs.lemmas.List.Sums.{sum_by-append}
use Rattle.std.proofs.lemmas.Bool.{and_right, false_from_ne_true}
use Rattle.std.proofs.lemmas.Bool.Decides.{nat_tests}
use Rattle.std.proofs.Math.Bool.{and-true, and_assoc}
use Rattle.sp_defs.specs.Partition.{part, from_one_to}
use Rattle.sp_defs.specs.Node.{Node, in_diagram, nodes_from, residue, is_addable, is_removable, addable, removable}
use Rattle.sp_defs.specs.Node.{row_ends, nodes}
use Rattle.sp_defs.specs.Power.{above}
use Rattle.sp_defs.specs.Signature.{Addable, Removable, Mark, row_marks}
use Rattle.sp_lists.proofs.Elements.{count_zero, range_all, all_every, all_map, all_filter, le_or_lt}
use Rattle.sp_lists.proofs.Counts.{count-cons, count-filter, count-alike, count-map}
use Rattle.sp_lists.proofs.Places.{all_weaken}
use Rattle.sp_shapes.proofs.Diagram.{nodes_all, in_node, node_in}
use Rattle.sp_power_law.proofs.Gains.{addable_at, removable_at, addable_facts, gain_near}

-- ---- the marks of a row

two_kept : (a b : Bool) (x y : Mark) →
    cond a (x ∷ cond b (y ∷ []) []) (cond b (y ∷ []) []) ≡ cond a (x ∷ []) [] ++ cond b (y ∷ []) []
two_kept true b x y = refl
two_kept false b x y = refl

filter_two : (t : Mark → Bool) (a b : Bool) (x y : Mark) →
    filter t (cond a (x ∷ []) [] ++ cond b (y ∷ []) []) ≡ cond (a && t x) (x ∷ []) [] ++ cond (b && t y) (y ∷ []) []
filter_two t true true x y = two_kept (t x) (t y) x y
filter_two t true false x y = two_kept (t x) false x y
filter_two t false true x y = refl
filter_two t false false x y = refl

-- A row has a mark for its removable node and one for its addable node, where they have the residue.
pub row_marks_are : (e i : ℕ) (parts : List ℕ) (r : ℕ) →
    row_marks e i parts r ≡ cond (removable_at e i parts r) ((Removable, (r, part parts r)) ∷ []) [] ++ cond
    (addable_at e i parts r) ((Addable, (r, part parts r + 1)) ∷ []) []
row_marks_are e i parts r =
    filter_two (λ m. nat_eq (residue e m.1) i) (is_removable parts (r, part parts r))
    (is_addable parts (r, part parts r + 1)) (Removable, (r, part parts r)) (Addable, (r, part parts r + 1))

-- ---- the counts above the next row are those above this row and those in it

abbrev in_row : ℕ → ℕ → ℕ → Node → Bool
in_row e i r x = nat_eq (residue e x) i && nat_eq x.0 r

one_row : (q : Bool) (n r : ℕ) →
    cond (q && nat_lt n (r + 1)) 1 0 ≡ cond (q && nat_lt n r) 1 0 + cond (q && nat_eq n r) 1 0
one_row true n r = grind (arith, nat_tests)
one_row false n r = refl

above_next : (e i r : ℕ) (xs : List Node) → above e i (r + 1) xs ≡ above e i r xs + count_by (in_row e i r) xs
above_next e i r [] = refl
above_next e i r (x ∷ xs) =
    omega (
      arith,
      count-cons (λ x. nat_eq (residue e x) i && nat_lt x.0 (r + 1)) x xs,
      count-cons (λ x. nat_eq (residue e x) i && nat_lt x.0 r) x xs,
      count-cons (in_row e i r) x xs,
      one_row (nat_eq (residue e x) i) x.0 r,
      above_next e i r xs,
    )

-- ---- in a range, one place at most is r

elsewhere : (g : ℕ → Bool) (r a n : ℕ) → ((s : ℕ) → a ≤ s → s < a + n → s ≢ r) →
    count_by (λ s. g s && nat_eq s r) (range_with_len a n) ≡ 0
elsewhere g r a n ne = count_zero (λ s. g s && nat_eq s r) (range_with_len a n)
    (range_all (λ s. (g s && nat_eq s r) ≡ false) a n
    (λ s lo hi. and_right (g s) (nat_eq s r) (ne_eqb s r (ne s lo hi))))

here : (g : ℕ → Bool) (r a n : ℕ) → a ≤ r → r < a + n →
    count_by (λ s. g s && nat_eq s r) (range_with_len a n) ≡ cond (g r) 1 0
here g r a zero lo hi = absurd (omega arith)
here g r a (suc n) lo hi = count-cons (λ s. g s && nat_eq s r) a (range_with_len (a + 1) n)
    ∙ settle (here g r (a + 1) n) (le_or_lt r a)
  where
    settle : (a + 1 ≤ r → r < a + 1 + n →
        count_by (λ s. g s && nat_eq s r) (range_with_len (a + 1) n) ≡ cond (g r) 1 0) → (r ≤ a) ⊎ (a < r) →
        cond (g a && nat_eq a r) 1 0 + count_by (λ s. g s && nat_eq s r) (range_with_len (a + 1) n) ≡ cond (g r) 1 0
    settle later (inl le) =
        let same : a ≡ r = omega arith in
        let first : ◌≡◌ {A = ℕ} (cond (g a && nat_eq a r) 1 0) (cond (g r) 1 0) =
        ap₂ (λ b s. cond (g s && b) 1 0) (eq-eqb a r same) same ∙ ap (λ b. cond b 1 0) (and-true (g r)) in
        let rest : count_by (λ s. g s && nat_eq s r) (range_with_len (a + 1) n) ≡ 0 =
        elsewhere g r (a + 1) n (λ s lo hi. omega arith) in
        omega (arith, first, rest)
    settle later (inr lt) =
        let first : ◌≡◌ {A = ℕ} (cond (g a && nat_eq a r) 1 0) 0 =
        ap (λ b. cond b 1 0) (and_right (g a) (nat_eq a r) (ne_eqb a r (omega arith))) in
        omega (arith, first, later (omega arith) (omega arith))

-- ---- addable nodes

no_further : (e i : ℕ) (parts : List ℕ) (r : ℕ) → length parts + 1 < r → addable_at e i parts r ≡ false
no_further e i parts r far =
    false_from_ne_true (addable_at e i parts r)
    (λ h. let near : r ≤ length parts + 1 = gain_near e i parts r (addable_facts e i parts r h) in omega arith)

row_addable : (e i : ℕ) (parts : List ℕ) (r : ℕ) → 1 ≤ r →
    count_by (in_row e i r) (addable parts) ≡ cond (addable_at e i parts r) 1 0
row_addable e i parts r hr =
    count-filter (in_row e i r) (is_addable parts) (row_ends parts)
    ∙ count-map (λ x. is_addable parts x && in_row e i r x) (λ s. (s, part parts s + 1))
    (from_one_to (length parts + 1))
    ∙ count-alike (λ s. is_addable parts (s, part parts s + 1) && in_row e i r (s, part parts s + 1))
    (λ s. addable_at e i parts s && nat_eq s r) (from_one_to (length parts + 1))
    (all_every (λ s. (is_addable parts (s, part parts s + 1) && in_row e i r (s, part parts s + 1)) ≡
    (addable_at e i parts s && nat_eq s r)) (from_one_to (length parts + 1))
    (λ s. sym (and_assoc (is_addable parts (s, part parts s + 1)) (nat_eq (residue e (s, part parts s + 1)) i)
    (nat_eq s r))))
    ∙ settle (le_or_lt r (length parts + 1))
  where
    settle : (r ≤ length parts + 1) ⊎ (length parts + 1 < r) →
        count_by (λ s. addable_at e i parts s && nat_eq s r) (from_one_to (length parts + 1)) ≡ cond
        (addable_at e i parts r) 1 0
    settle (inl le) = here (λ s. addable_at e i parts s) r 1 (length parts + 1) hr (omega arith)
    settle (inr far) = elsewhere (λ s. addable_at e i parts s) r 1 (length parts + 1) (λ s lo hi. omega arith)
        ∙ sym (ap (λ b. cond b 1 0) (no_further e i parts r far))

-- The addable nodes above the next row are those above this row and the one in it.
pub above_addable-next : (e i : ℕ) (parts : List ℕ) (r : ℕ) → 1 ≤ r →
    above e i (r + 1) (addable parts) ≡ above e i r (addable parts) + cond (addable_at e i parts r) 1 0
above_addable-next e i parts r hr = above_next e i r (addable parts)
    ∙ ap (λ n. above e i r (addable parts) + n) (row_addable e i parts r hr)

-- ---- removable nodes

row_count : (g : Node → Bool) (a : ℕ) (parts : List ℕ) (k : ℕ) →
    count_by (λ x. g x && nat_eq x.0 (a + k)) (nodes_from a parts) ≡ count_by (λ c. g (a + k, c))
    (from_one_to (slice_index parts k))
unfolding nodes_from
row_count g a [] k = refl
row_count g a (p ∷ parts) k =
    sum_by-append (λ x. cond (g x && nat_eq x.0 (a + k)) 1 0) (map (λ c. (a, c)) (from_one_to p))
    (nodes_from (suc a) parts)
    ∙ ap (λ n. n + count_by (λ x. g x && nat_eq x.0 (a + k)) (nodes_from (suc a) parts))
    (count-map (λ x. g x && nat_eq x.0 (a + k)) (λ c. (a, c)) (from_one_to p))
    ∙ by_row k (row_count g (suc a) parts)
  where
    by_row : (k : ℕ) →
        ((j : ℕ) → count_by (λ x. g x && nat_eq x.0 (suc a + j)) (nodes_from (suc a) parts) ≡ count_by
        (λ c. g (suc a + j, c)) (from_one_to (slice_index parts j))) →
        count_by (λ c. g (a, c) && nat_eq a (a + k)) (from_one_to p) + count_by (λ x. g x && nat_eq x.0 (a + k))
        (nodes_from (suc a) parts) ≡ count_by (λ c. g (a + k, c)) (from_one_to (slice_index (p ∷ parts) k))
    by_row zero further =
        let this : count_by (λ c. g (a, c) && nat_eq a (a + 0)) (from_one_to p) ≡ count_by (λ c. g (a + 0, c))
        (from_one_to p) =
        count-alike (λ c. g (a, c) && nat_eq a (a + 0)) (λ c. g (a + 0, c)) (from_one_to p)
        (all_every (λ c. (g (a, c) && nat_eq a (a + 0)) ≡ g (a + 0, c)) (from_one_to p)
        (λ c. ap₂ (λ b n. g (n, c) && b) (eq-eqb a (a + 0) (plain a)) (plain a) ∙ and-true (g (a + 0, c)))) in
        let below : count_by (λ x. g x && nat_eq x.0 (a + 0)) (nodes_from (suc a) parts) ≡ 0 =
        count_zero (λ x. g x && nat_eq x.0 (a + 0)) (nodes_from (suc a) parts)
        (nodes_all (λ x. (g x && nat_eq x.0 (a + 0)) ≡ false) (suc a) parts
        (λ j c lo hi. and_right (g (suc a + j, c)) (nat_eq (suc a + j) (a + 0))
        (ne_eqb (suc a + j) (a + 0) (apart a j)))) in
        omega (arith, this, below)
      where
        plain : (a : ℕ) → a ≡ a + 0
        plain a = omega arith

        apart : (a j : ℕ) → suc a + j ≢ a + 0
        apart a j = omega arith
    by_row (suc k) further =
        let this : count_by (λ c. g (a, c) && nat_eq a (a + suc k)) (from_one_to p) ≡ 0 =
        count_zero (λ c. g (a, c) && nat_eq a (a + suc k)) (from_one_to p)
        (all_every (λ c. (g (a, c) && nat_eq a (a + suc k)) ≡ false) (from_one_to p)
        (λ c. and_right (g (a, c)) (nat_eq a (a + suc k)) (ne_eqb a (a + suc k) (apart a k)))) in
        let below : count_by (λ x. g x && nat_eq x.0 (a + suc k)) (nodes_from (suc a) parts) ≡ count_by
        (λ c. g (a + suc k, c)) (from_one_to (slice_index parts k)) =
        subst (λ n. count_by (λ x. g x && nat_eq x.0 n) (nodes_from (suc a) parts) ≡ count_by (λ c. g (n, c))
        (from_one_to (slice_index parts k))) (moved a k) (further k) in
        omega (arith, this, below)
      where
        apart : (a k : ℕ) → a ≢ a + suc k
        apart a k = omega arith

        moved : (a k : ℕ) → suc a + k ≡ a + suc k
        moved a k = omega arith

count_last : (h : ℕ → Bool) (a n : ℕ) → ((c : ℕ) → a ≤ c → c < a + n → h c ≡ false) →
    count_by h (range_with_len a (suc n)) ≡ cond (h (a + n)) 1 0
count_last h a zero f = count-cons h a [] ∙ ap (λ n. cond (h n) 1 0 + 0) (plain a) ∙ nothing (cond (h (a + 0)) 1 0)
  where
    plain : (a : ℕ) → a ≡ a + 0
    plain a = omega arith

    nothing : (n : ℕ) → n + 0 ≡ n
    nothing n = omega arith
count_last h a (suc n) f =
    let first : ◌≡◌ {A = ℕ} (cond (h a) 1 0) 0 = ap (λ b. cond b 1 0) (f a (omega arith) (omega arith)) in
    let rest : count_by h (range_with_len (a + 1) (suc n)) ≡ cond (h (a + suc n)) 1 0 =
    count_last h (a + 1) n (λ c lo hi. f c (omega arith) (omega arith)) ∙ ap (λ m. cond (h m) 1 0) (moved a n) in
    omega (arith, count-cons h a (range_with_len (a + 1) (suc n)), first, rest)
  where
    moved : (a n : ℕ) → a + 1 + n ≡ a + suc n
    moved a n = omega arith

-- only the last node of a row is removable
row_removable : (e i : ℕ) (parts : List ℕ) (r : ℕ) → 1 ≤ r →
    count_by (in_row e i r) (removable parts) ≡ cond (removable_at e i parts r) 1 0
row_removable e i parts r hr =
    count-filter (in_row e i r) (is_removable parts) (nodes parts)
    ∙ count-alike (λ x. is_removable parts x && in_row e i r x)
    (λ x. (is_removable parts x && nat_eq (residue e x) i) && nat_eq x.0 r) (nodes parts)
    (all_every (λ x. (is_removable parts x && in_row e i r x) ≡
    ((is_removable parts x && nat_eq (residue e x) i) && nat_eq x.0 r)) (nodes parts)
    (λ x. sym (and_assoc (is_removable parts x) (nat_eq (residue e x) i) (nat_eq x.0 r))))
    ∙ subst (λ n. count_by (λ x. (is_removable parts x && nat_eq (residue e x) i) && nat_eq x.0 n)
    (nodes parts) ≡ count_by (λ c. is_removable parts (n, c) && nat_eq (residue e (n, c)) i)
    (from_one_to (part parts r))) (back (r - 1) hr)
    (row_count (λ x. is_removable parts x && nat_eq (residue e x) i) 1 parts (r - 1))
    ∙ by_length (part parts r) refl
  where
    back : (k : ℕ) → 1 ≤ r → 1 + (r - 1) ≡ r
    back k h = omega arith

    inner : (c : ℕ) → 1 ≤ c → c < part parts r → (is_removable parts (r, c) && nat_eq (residue e (r, c)) i) ≡ false
    inner c lo hi =
        ap (λ b. (in_diagram parts (r, c) && (not b && not (in_diagram parts (r + 1, c)))) && nat_eq
        (residue e (r, c)) i) (in_node parts r (c + 1) hr (omega arith) (omega arith))
        ∙ ap (λ b. b && nat_eq (residue e (r, c)) i) (and_right (in_diagram parts (r, c)) false refl)

    by_length : (p : ℕ) → part parts r ≡ p →
        count_by (λ c. is_removable parts (r, c) && nat_eq (residue e (r, c)) i) (from_one_to p) ≡ cond
        (removable_at e i parts r) 1 0
    by_length zero is =
        sym (ap (λ c. cond (is_removable parts (r, c) && nat_eq (residue e (r, c)) i) 1 0) is
        ∙ ap (λ b. cond (b && nat_eq (residue e (r, 0)) i) 1 0) none)
      where
        none : is_removable parts (r, 0) ≡ false
        none = ap (λ b. b && (not (in_diagram parts (r, 0 + 1)) && not (in_diagram parts (r + 1, 0)))) outside
          where
            outside : in_diagram parts (r, 0) ≡ false
            outside = false_from_ne_true (in_diagram parts (r, 0))
                (λ h. let v = node_in parts r 0 h in omega (arith, v.column))
    by_length (suc p) is =
        count_last (λ c. is_removable parts (r, c) && nat_eq (residue e (r, c)) i) 1 p
        (λ c lo hi. inner c lo (omega arith))
        ∙ ap (λ c. cond (is_removable parts (r, c) && nat_eq (residue e (r, c)) i) 1 0) (one_more p ∙ sym is)
      where
        one_more : (p : ℕ) → 1 + p ≡ suc p
        one_more p = omega arith

-- The removable nodes above the next row are those above this row and the one in it.
pub above_removable-next : (e i : ℕ) (parts : List ℕ) (r : ℕ) → 1 ≤ r →
    above e i (r + 1) (removable parts) ≡ above e i r (removable parts) + cond (removable_at e i parts r) 1 0
above_removable-next e i parts r hr = above_next e i r (removable parts)
    ∙ ap (λ n. above e i r (removable parts) + n) (row_removable e i parts r hr)

-- ---- nothing is above the first row

none_above : (e i : ℕ) (xs : List Node) → AllByRecursion (λ x. 1 ≤ x.0) xs → above e i 1 xs ≡ 0
none_above e i xs h = count_zero (λ x. nat_eq (residue e x) i && nat_lt x.0 1) xs
    (all_weaken (λ x. 1 ≤ x.0) (λ x. (nat_eq (residue e x) i && nat_lt x.0 1) ≡ false) xs
    (λ x lo. and_right (nat_eq (residue e x) i) (nat_lt x.0 1) (not_less x.0 lo)) h)
  where
    not_less : (n : ℕ) → 1 ≤ n → nat_lt n 1 ≡ false
    not_less n h = grind (arith, nat_tests)

-- No addable node is above the first row.
pub above_addable-first : (e i : ℕ) (parts : List ℕ) → above e i 1 (addable parts) ≡ 0
above_addable-first e i parts = none_above e i (addable parts)
    (all_filter (λ x. 1 ≤ x.0) (is_addable parts) (row_ends parts)
    (all_map (λ x. is_addable parts x ≡ true → 1 ≤ x.0) (λ s. (s, part parts s + 1)) (from_one_to (length parts + 1))
    (range_all (λ s. is_addable parts (s, part parts s + 1) ≡ true → 1 ≤ s) 1 (length parts + 1) (λ s lo hi _. lo))))

-- No removable node is above the first row.
pub above_removable-first : (e i : ℕ) (parts : List ℕ) → above e i 1 (removable parts) ≡ 0
above_removable-first e i parts = none_above e i (removable parts)
    (all_filter (λ x. 1 ≤ x.0) (is_removable parts) (nodes parts)
    (nodes_all (λ x. is_removable parts x ≡ true → 1 ≤ x.0) 1 parts (λ k c lo hi _. least k)))
  where
    least : (k : ℕ) → 1 ≤ 1 + k
    least k = omega arith
