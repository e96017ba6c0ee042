-- How many fillings there are, of all partitions and of each.
use Rattle.std.proofs.Common.{◌≡◌, ℕ, zero, suc, ◌+◌, ◌<◌, Bool, true, false, cond, List, [], ◌∷◌, map}
use Rattle.std.proofs.Common.{refl, sym, ◌∙◌, ap, ap₂, arith, length, count_by, sum, replicate, nat_eq}
use Rattle.std.proofs.Common.{◌⊎◌, inl, inr, Greater, Equal, Result, Err, true≢false, length-append}
use Rattle.std.specs.List.{AllByRecursion}
use Rattle.std.specs.List.Sorted.{IsPermutation}
use Rattle.std.specs.Cmp.Lexicographic.{pointwise}
use Rattle.std.proofs.lemmas.Cmp.{tied_itself}
use Rattle.std.proofs.lemmas.List.{length-replicate}
use Rattle.std.proofs.lemmas.List.Sorted.{sum_by-IsPermutation}
use Rattle.std.proofs.lemmas.List.Sums.{sum_by-cons, sum_by-append, length-filter}
use Rattle.sp_defs.specs.Partition.{part, IsPartition, order}
use Rattle.sp_lists.proofs.Counts.{count-cons, count-map}
use Rattle.sp_lists.proofs.Places.{all_weaken}
use Rattle.sp_lists.proofs.Occurrence.{Occurs, at_occurs}
use Rattle.sp_partition.specs.OrderLaws.{order_total, equal_lists, lists_equal}
use Rattle.sp_lr_defs.specs.Filling.{IsChain}
use Rattle.sp_lr_defs.specs.Strip.{end_from}
use Rattle.sp_lr_defs.specs.Listing.{chains_over, ends_with, littlewood_richardson}
use Rattle.sp_lr.specs.Strips.{chains}
use Rattle.sp_lr.specs.Results.{AreMore, DescendingPairs, spread}
use Rattle.sp_lr.proofs.ChainsOver.{lists_over, made_over, over-length}

-- the computed list is longer than `most` where the one that the code goes through is
pub past_most : (lambda mu : List ℕ) (most spare : ℕ) (sizes : List ℕ) → IsPartition lambda → spare ≡ part mu 1 →
    sizes ≡ mu → most < 0 + length (chains lambda lambda spare sizes) → most < length (chains_over lambda mu)
past_most lambda mu most spare sizes h e e' more = omega (arith, more, over-length lambda mu spare sizes h e e')

-- so there are more fillings
pub are_more : (lambda mu : List ℕ) (most spare : ℕ) (sizes : List ℕ) → IsPartition lambda → spare ≡ part mu 1 →
    sizes ≡ mu → most < 0 + length (chains lambda lambda spare sizes) → AreMore (IsChain lambda mu) most
are_more lambda mu most spare sizes h e e' more = record {
  all = length (chains_over lambda mu);
  count = record { chains = chains_over lambda mu; lists = lists_over lambda mu h; count = refl };
  more = past_most lambda mu most spare sizes h e e' more;
}

-- one fault in results of two types
pub err_same : {A B E : Type 0} (x y : E) → ◌≡◌ {A = Result A E} (Err x) (Err y) →
    ◌≡◌ {A = Result B E} (Err x) (Err y)
err_same x y e = let same : x ≡ y = cc in ap (λ z. Err z) same

-- ---- counts

-- the test whether a partition is this one
abbrev pub is_it : List ℕ → List ℕ → Bool
is_it nu x = pointwise nat_eq x nu

count-same : (nu : List ℕ) (n : ℕ) → count_by (is_it nu) (replicate n nu) ≡ n
count-same nu zero = refl
count-same nu (suc n) =
    count-cons (is_it nu) nu (replicate n nu)
    ∙ ap₂ (λ b m. cond b 1 0 + m) (lists_equal nu nu refl) (count-same nu n)
    ∙ plain n
  where
    plain : (n : ℕ) → 1 + n ≡ suc n
    plain n = omega arith

count-other : (nu x : List ℕ) (n : ℕ) → is_it nu x ≡ false → count_by (is_it nu) (replicate n x) ≡ 0
count-other nu x zero h = refl
count-other nu x (suc n) h =
    count-cons (is_it nu) x (replicate n x) ∙ ap₂ (λ b m. cond b 1 0 + m) h (count-other nu x n h)

count-spread : (nu : List ℕ) (pair : List ℕ × ℕ) (pairs : List (List ℕ × ℕ)) →
    count_by (is_it nu) (spread (pair ∷ pairs))
    ≡ count_by (is_it nu) (spread pairs) + count_by (is_it nu) (replicate pair.1 pair.0)
count-spread nu pair pairs = sum_by-append (λ x. cond (is_it nu x) 1 0) (spread pairs) (replicate pair.1 pair.0)

-- it is in no pair, so nowhere
pub none_spread : (nu : List ℕ) (pairs : List (List ℕ × ℕ)) → AllByRecursion (λ p. is_it nu p.0 ≡ false) pairs →
    count_by (is_it nu) (spread pairs) ≡ 0
none_spread nu [] h = refl
none_spread nu (pair ∷ pairs) (h, hs) =
    omega (arith, count-spread nu pair pairs, none_spread nu pairs hs, count-other nu pair.0 pair.1 h)

-- a later partition is another
later_other : (x y : List ℕ) → order x y ≡ Greater → pointwise nat_eq x y ≡ false
later_other x y h = tested (pointwise nat_eq x y) refl
  where
    wrong : Equal ≡ Greater → ⊥
    wrong e = cc

    tested : (b : Bool) → pointwise nat_eq x y ≡ b → pointwise nat_eq x y ≡ false
    tested true e = absurd (wrong (sym (tied_itself order_total x) ∙ ap (order x) (equal_lists x y e) ∙ h))
    tested false e = e

other_back : (x y : List ℕ) → pointwise nat_eq x y ≡ false → pointwise nat_eq y x ≡ false
other_back x y h = tested (pointwise nat_eq y x) refl
  where
    tested : (b : Bool) → pointwise nat_eq y x ≡ b → pointwise nat_eq y x ≡ false
    tested true e = absurd (true≢false (sym (lists_equal x y (sym (equal_lists y x e))) ∙ h))
    tested false e = e

-- a pair says how often its partition stands in the list
pub pair_count : (nu : List ℕ) (n : ℕ) (pairs : List (List ℕ × ℕ)) → DescendingPairs pairs → Occurs (nu, n) pairs →
    count_by (is_it nu) (spread pairs) ≡ n
pair_count nu n [] d o = absurd o
pair_count nu n (pair ∷ pairs) (first, d) (inl e) =
    let key : nu ≡ pair.0 = ap (λ p. p.0) e in
    let times : n ≡ pair.1 = ap (λ p. p.1) e in
    let none : count_by (is_it nu) (spread pairs) ≡ 0 = none_spread nu pairs
    (all_weaken (λ p. order pair.0 p.0 ≡ Greater) (λ p. is_it nu p.0 ≡ false) pairs
    (λ p l. other_back nu p.0 (later_other nu p.0 (ap (λ x. order x p.0) key ∙ l))) first) in
    count-spread nu pair pairs
    ∙ ap₂ (λ a b. a + b) none (ap₂ (λ k x. count_by (is_it nu) (replicate k x)) (sym times) (sym key) ∙ count-same nu n)
    ∙ plain n
  where
    plain : (n : ℕ) → 0 + n ≡ n
    plain n = omega arith
pair_count nu n (pair ∷ pairs) (first, d) (inr o) =
    let greater : order pair.0 nu ≡ Greater = at_occurs (λ p. order pair.0 p.0 ≡ Greater) (nu, n) pairs o first in
    omega (
      arith,
      count-spread nu pair pairs,
      pair_count nu n pairs d o,
      count-other nu pair.0 pair.1 (later_other pair.0 nu greater),
    )

-- a partition has a pair, or none of the pairs is of it
pub find_pair : (nu : List ℕ) (pairs : List (List ℕ × ℕ)) →
    ((n : ℕ) × Occurs (nu, n) pairs) ⊎ AllByRecursion (λ p. is_it nu p.0 ≡ false) pairs
find_pair nu [] = inr tt
find_pair nu (pair ∷ pairs) = tested (is_it nu pair.0) refl (find_pair nu pairs)
  where
    tested : (b : Bool) → is_it nu pair.0 ≡ b →
        ((n : ℕ) × Occurs (nu, n) pairs) ⊎ AllByRecursion (λ p. is_it nu p.0 ≡ false) pairs →
        ((n : ℕ) × Occurs (nu, n) (pair ∷ pairs)) ⊎ AllByRecursion (λ p. is_it nu p.0 ≡ false) (pair ∷ pairs)
    tested true e more = inl (pair.1, inl (ap (λ x. (x, pair.1)) (sym (equal_lists pair.0 nu e))))
    tested false e (inl (n, o)) = inl (n, inr o)
    tested false e (inr h) = inr (e, h)

-- all pairs together count all members
pub spread-length : (pairs : List (List ℕ × ℕ)) → length (spread pairs) ≡ sum (map (λ p. p.1) pairs)
spread-length [] = refl
spread-length (pair ∷ pairs) =
    omega (
      arith,
      length-append (spread pairs) (replicate pair.1 pair.0),
      length-replicate pair.1 pair.0,
      spread-length pairs,
      sum_by-cons (λ n. n) pair.1 (map (λ p. p.1) pairs),
    )

-- how often nu is an end, by the pairs
pub ends_counted : (lambda mu nu : List ℕ) (sorted : List (List ℕ)) (pairs : List (List ℕ × ℕ)) → IsPartition lambda →
    IsPermutation (map (end_from lambda) (chains lambda lambda (part mu 1) mu)) sorted → sorted ≡ spread pairs →
    count_by (is_it nu) (spread pairs) ≡ littlewood_richardson lambda mu nu
ends_counted lambda mu nu sorted pairs h perm is =
    ap (count_by (is_it nu)) (sym is)
    ∙ sum_by-IsPermutation (λ x. cond (is_it nu x) 1 0) (map (end_from lambda) (chains lambda lambda
    (part mu 1) mu)) sorted
    perm
    ∙ count-map (is_it nu) (end_from lambda) (chains lambda lambda (part mu 1) mu)
    ∙ sym
    (length-filter (ends_with nu) (chains_over lambda mu)
    ∙ ap (count_by (ends_with nu)) (sym (made_over lambda mu h))
    ∙ count-map (ends_with nu) (λ shapes. lambda ∷ shapes) (chains lambda lambda (part mu 1) mu))
