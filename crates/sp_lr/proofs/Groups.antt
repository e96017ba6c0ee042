-- Equal members of an ascending list, counted from its end.
use Rattle.std.proofs.Common.{◌≡◌, ◌≢◌, ℕ, zero, suc, ◌+◌, ◌-◌, ◌<◌, ◌≤◌, Bool, true, false, List, [], ◌∷◌, ◌++◌}
use Rattle.std.proofs.Common.{refl, sym}
use Rattle.std.proofs.Common.{◌∙◌, ap, ap₂, subst, arith, length, slice_index_or, replicate, take, append_assoc}
use Rattle.std.proofs.Common.{append-nil}
use Rattle.std.proofs.Common.{Less, Equal, Greater, Ordering, add-one, IsTrue, ◌↔◌, ◌⊎◌, inl, inr, nat_eq}
use Rattle.std.specs.List.{AllByRecursion}
use Rattle.std.specs.List.Sorted.{IsSorted}
use Rattle.std.specs.Ordering.{ordering_reverse, is_lt}
use Rattle.std.proofs.Math.Seq.{take-length}
use Rattle.std.proofs.lemmas.List.{take_more}
use Rattle.sp_defs.specs.Partition.{order}
use Rattle.sp_lists.proofs.Elements.{all_append, le_or_lt}
use Rattle.sp_lists.proofs.Places.{all_weaken}
use Rattle.std.specs.Cmp.Lexicographic.{pointwise}
use Rattle.sp_partition.specs.OrderLaws.{order_total, order_equal, equal_lists, lists_equal}
use Rattle.sp_lr.specs.Results.{spread, DescendingPairs, IsFirst}

-- a member of the list
abbrev pub at : List (List ℕ) → ℕ → List ℕ
at ends i = slice_index_or ends i []

-- the members from place i on are counted, `count` of them not yet in a pair
pub record AreCounted (ends : List (List ℕ)) (i count : ℕ) (pairs : List (List ℕ × ℕ)) : Type 0 where
  pub whole : ends ≡ take i ends ++ (replicate count (at ends i) ++ spread pairs)
  pub same : 0 < count → (0 < i) × (at ends (i - 1) ≡ at ends i)
  pub below : 0 < i → AllByRecursion (λ p. order (at ends (i - 1)) p.0 ≡ Less) pairs
  pub descending : DescendingPairs pairs
  pub some : AllByRecursion (λ p. 1 ≤ p.1) pairs
  pub few : count + i ≤ length ends

-- a pair behind others
spread-snoc : (pairs : List (List ℕ × ℕ)) (x : List ℕ) (k : ℕ) →
    spread (pairs ++ (x, k) ∷ []) ≡ replicate k x ++ spread pairs
spread-snoc [] x k = sym (append-nil (replicate k x))
spread-snoc (pair ∷ pairs) x k =
    ap (λ xs. xs ++ replicate pair.1 pair.0) (spread-snoc pairs x k)
    ∙ append_assoc (replicate k x) (spread pairs) (replicate pair.1 pair.0)

descending-snoc : (pairs : List (List ℕ × ℕ)) (x : List ℕ) (k : ℕ) → DescendingPairs pairs →
    AllByRecursion (λ p. order x p.0 ≡ Less) pairs → DescendingPairs (pairs ++ (x, k) ∷ [])
descending-snoc [] x k d h = (tt, tt)
descending-snoc (pair ∷ pairs) x k (first, d) (h, hs) = (
  all_append (λ p. order pair.0 p.0 ≡ Greater) pairs ((x, k) ∷ []) first
      (order_total.antisymm pair.0 x ∙ ap ordering_reverse h, tt),
  descending-snoc pairs x k d hs,
)

-- one member more
one_more : (ends : List (List ℕ)) (j count : ℕ) (pairs : List (List ℕ × ℕ)) → j < length ends →
    AreCounted ends (suc j) count pairs →
    ends ≡ take j ends ++ (replicate (count + 1) (at ends j) ++ spread pairs)
one_more ends j count pairs lt h =
    h.whole
    ∙ ap₂ (λ xs ys. xs ++ (ys ++ spread pairs)) front (alike count refl)
    ∙ append_assoc (take j ends) (at ends j ∷ []) (replicate count (at ends j) ++ spread pairs)
    ∙ ap (λ n. take j ends ++ (replicate n (at ends j) ++ spread pairs)) (sym (add-one count))
  where
    front : take (suc j) ends ≡ take j ends ++ at ends j ∷ []
    front = ap (λ n. take n ends) (sym (add-one j)) ∙ take_more ends j [] lt

    alike : (n : ℕ) → count ≡ n → replicate count (at ends (suc j)) ≡ replicate count (at ends j)
    alike zero e = ap₂ (λ a b. replicate a b) e refl ∙ ap (λ a. replicate a (at ends j)) (sym e)
    alike (suc n) e =
        ap (replicate count) (sym (ap (at ends) (omega arith) ∙ (h.same (omega arith)).1))

-- where the member before is the same, the count goes on
pub count_on : (ends : List (List ℕ)) (j count : ℕ) (pairs : List (List ℕ × ℕ)) → j < length ends → 0 < j →
    at ends (j - 1) ≡ at ends j → AreCounted ends (suc j) count pairs → AreCounted ends j (count + 1) pairs
count_on ends j count pairs lt pos e h = record {
  whole = one_more ends j count pairs lt h;
  same = λ _. (pos, e);
  below = λ _. all_weaken (λ p. order (at ends (suc j - 1)) p.0 ≡ Less) (λ p. order (at ends (j - 1)) p.0 ≡ Less) pairs
      (λ p l. ap (λ x. order x p.0) (e ∙ ap (at ends) (omega arith)) ∙ l) (h.below (omega arith));
  descending = h.descending;
  some = h.some;
  few = omega (arith, h.few);
}

-- in an ascending list a member that is not the same as the one before is later
rises_at : (ends : List (List ℕ)) (j : ℕ) → IsSorted order ends → j < length ends → 0 < j →
    at ends (j - 1) ≢ at ends j → order (at ends (j - 1)) (at ends j) ≡ Less
rises_at ends j sorted lt pos ne =
    settle (order (at ends (j - 1)) (at ends j)) refl
  where
    next : j - 1 + 1 ≡ j
    next = omega arith

    not_later : is_lt (order (at ends j) (at ends (j - 1))) ≡ false
    not_later = ap (λ i. is_lt (order (at ends i) (at ends (j - 1)))) (sym next)
        ∙ sorted (j - 1) [] (omega arith) (omega arith)

    settle : (o : Ordering) → order (at ends (j - 1)) (at ends j) ≡ o → order (at ends (j - 1)) (at ends j) ≡ Less
    settle Less e = e
    settle Equal e = absurd (ne (order_equal (at ends (j - 1)) (at ends j) e))
    settle Greater e =
        let less : order (at ends j) (at ends (j - 1)) ≡ Less =
        order_total.antisymm (at ends j) (at ends (j - 1)) ∙ ap ordering_reverse e in
        absurd (wrong (sym (ap is_lt less) ∙ not_later))
      where
        wrong : is_lt Less ≡ false → ⊥
        wrong e = cc

-- where it is another, the count makes a pair
pub count_ends : (ends : List (List ℕ)) (j count : ℕ) (pairs new : List (List ℕ × ℕ)) → IsSorted order ends →
    j < length ends → IsFirst ends j → new ≡ pairs ++ (at ends j, count + 1) ∷ [] →
    AreCounted ends (suc j) count pairs →
    AreCounted ends j 0 new
count_ends ends j count pairs new sorted lt is_first more h = subst (AreCounted ends j 0) (sym more) (record {
  whole =
      one_more ends j count pairs lt h
      ∙ ap (λ xs. take j ends ++ xs) (sym (spread-snoc pairs (at ends j) (count + 1)));
  same = λ l. absurd (omega arith);
  below = λ pos.
      let less : order (at ends (j - 1)) (at ends j) ≡ Less = rises_at ends j sorted lt pos (is_first pos) in
      all_append (λ p. order (at ends (j - 1)) p.0 ≡ Less) pairs ((at ends j, count + 1) ∷ [])
      (all_weaken (λ p. order (at ends j) p.0 ≡ Less) (λ p. order (at ends (j - 1)) p.0 ≡ Less) pairs
      (λ p l. order_total.trans (at ends (j - 1)) (at ends j) p.0 less l) here)
      (less, tt);
  descending = descending-snoc pairs (at ends j) (count + 1) h.descending here;
  some = all_append (λ p. 1 ≤ p.1) pairs ((at ends j, count + 1) ∷ []) h.some (omega arith, tt);
  few = omega (arith, h.few);
})
  where
    here : AllByRecursion (λ p. order (at ends j) p.0 ≡ Less) pairs
    here = all_weaken (λ p. order (at ends (suc j - 1)) p.0 ≡ Less) (λ p. order (at ends j) p.0 ≡ Less) pairs
        (λ p l. ap (λ i. order (at ends i) p.0) (omega arith) ∙ l) (h.below (omega arith))

-- before the first round
pub count_none : (ends : List (List ℕ)) (i : ℕ) (pairs : List (List ℕ × ℕ)) → i ≡ length ends → pairs ≡ [] →
    AreCounted ends i 0 pairs
count_none ends i pairs all none = subst (AreCounted ends i 0) (sym none) (record {
  whole = sym (append-nil (take i ends) ∙ ap (λ n. take n ends) all ∙ take-length ends);
  same = λ l. absurd (omega arith);
  below = λ _. tt;
  descending = tt;
  some = tt;
  few = omega arith;
})

-- after the last round all members are in pairs
pub count_all : (ends : List (List ℕ)) (i count : ℕ) (pairs : List (List ℕ × ℕ)) → i ≡ 0 →
    AreCounted ends i count pairs → ends ≡ spread pairs
count_all ends i count pairs z h =
    h.whole
    ∙ ap₂ (λ n k. take n ends ++ (replicate k (at ends i) ++ spread pairs)) z (none count refl)
  where
    none : (n : ℕ) → count ≡ n → count ≡ 0
    none zero e = e
    none (suc n) e = absurd (omega (arith, (h.same (omega arith)).0))

-- ---- what the code tells

-- a member that the code reads
pub same_member : (ends : List (List ℕ)) (j : ℕ) (x : List ℕ) → j < length ends → x ≡ slice_index_or ends j x →
    x ≡ at ends j
same_member ends j x lt e = e ∙ fallback ends j x [] lt
  where
    fallback : (xs : List (List ℕ)) (i : ℕ) (x y : List ℕ) → i < length xs →
        slice_index_or xs i x ≡ slice_index_or xs i y
    fallback [] i x y lt = absurd (omega arith)
    fallback (z ∷ xs) zero x y lt = refl
    fallback (z ∷ xs) (suc i) x y lt = fallback xs i x y (omega arith)

-- where a member is not the first of its kind, the one before is the same
pub same_before : (ends : List (List ℕ)) (j : ℕ) (b : Bool) → (IsTrue b ↔ IsFirst ends j) → b ≡ false →
    (0 < j) × (at ends (j - 1) ≡ at ends j)
same_before ends j b is e = settle (le_or_lt j 0)
  where
    never : IsFirst ends j → ⊥
    never f = let t : b ≡ true = is.1 f in cc

    settle : (j ≤ 0) ⊎ (0 < j) → (0 < j) × (at ends (j - 1) ≡ at ends j)
    settle (inl z) = absurd (never (λ pos. absurd (omega arith)))
    settle (inr pos) = (pos, known (pointwise nat_eq (at ends (j - 1)) (at ends j)) refl)
      where
        known : (d : Bool) → pointwise nat_eq (at ends (j - 1)) (at ends j) ≡ d → at ends (j - 1) ≡ at ends j
        known true h = equal_lists (at ends (j - 1)) (at ends j) h
        known false h = absurd (never (λ _ same. wrong (sym (lists_equal (at ends (j - 1)) (at ends j) same) ∙ h)))
          where
            wrong : true ≡ false → ⊥
            wrong w = cc
