-- Where a column stands among the others: each partition of its block that is earlier stands before it, and from there
-- on the columns ascend.
use Rattle.std.proofs.Common.{◌≡◌, ℕ, zero, suc, ◌+◌, ◌-◌, ◌<◌, ◌≤◌, Bool, true, false}
use Rattle.std.proofs.Common.{cond, nat_eq, List, [], ◌∷◌, ◌++◌}
use Rattle.std.proofs.Common.{length, get_or, flat_map, refl, sym, ◌∙◌, ap, subst, arith, ◌⊎◌, inl, inr, Less, Equal}
use Rattle.std.proofs.Common.{length-append, append_assoc}
use Rattle.std.proofs.lemmas.List.{append-nil, get_or-append-add, get_or_append_left}
use Rattle.std.specs.List.{AllByRecursion, range_with_len}
use Rattle.sp_defs.specs.Partition.{regulars, IsEarlier, Ascending, IsRegularOf}
use Rattle.sp_defs.specs.Node.{content}
use Rattle.sp_defs.specs.Statements.{SameContent}
use Rattle.sp_lists.proofs.Elements.{le_or_lt, tests_all, all_tests, all_filter, all_flat, all_every}
use Rattle.sp_lists.proofs.Places.{all_at, all_weaken}
use Rattle.sp_lists.proofs.Occurrence.{Occurs, occurs_filter}
use Rattle.sp_shapes.proofs.Order.{ascends_at, less_trans, equal_self}
use Rattle.sp_shapes.proofs.Listing.{all_regulars, each_regular, regulars_ascend, Ascending-filter}
use Rattle.std.proofs.lemmas.Bool.{eqb-true, eq-eqb}
use Rattle.sp_cert.specs.Order.{same_content, block_of, leaders, columns_of}

-- ---- lists that ascend

not_earlier : (mu : List ℕ) → IsEarlier mu mu → ⊥
not_earlier mu e = let w : Less ≡ Equal = sym e ∙ equal_self mu in cc

-- the place of an element
pub record IsAt (x : List ℕ) (xs : List (List ℕ)) : Type 0 where
  pub place : ℕ
  pub within : place < length xs
  pub is : get_or xs place [] ≡ x

-- an element that occurs stands at a place
pub place_of : (x : List ℕ) (xs : List (List ℕ)) → Occurs x xs → IsAt x xs
place_of x [] o = absurd o
place_of x (y ∷ xs) (inl e) = record { place = zero; within = omega arith; is = sym e }
place_of x (y ∷ xs) (inr o) = later (place_of x xs o)
  where
    later : IsAt x xs → IsAt x (y ∷ xs)
    later a = record { place = suc a.place; within = omega (arith, a.within); is = a.is }

-- an earlier element of an ascending list stands at a lower place
lower_place : (xs : List (List ℕ)) → Ascending xs → (k j : ℕ) → k < length xs → j < length xs →
    IsEarlier (get_or xs j []) (get_or xs k []) → j < k
lower_place xs up k j lk lj e = settle (le_or_lt k j)
  where
    same : (k ≡ j) ⊎ (k < j) → ⊥
    same (inl s) = not_earlier (get_or xs j []) (subst (λ i. IsEarlier (get_or xs j []) (get_or xs i [])) s e)
    same (inr lt) = not_earlier (get_or xs j [])
        (less_trans (get_or xs j []) (get_or xs k []) (get_or xs j []) e (ascends_at xs up k j lt lj))

    parted : k ≤ j → (k ≡ j) ⊎ (k < j)
    parted le = by (le_or_lt j k)
      where
        by : (j ≤ k) ⊎ (k < j) → (k ≡ j) ⊎ (k < j)
        by (inl back) = inl (omega arith)
        by (inr lt) = inr lt

    settle : (k ≤ j) ⊎ (j < k) → j < k
    settle (inl le) = absurd (same (parted le))
    settle (inr lt) = lt

-- ---- a list in blocks

-- The place i of a list is in a block that ascends, and that has all that is `Among` its partition.
pub record InBlock (Among : List ℕ → List ℕ → Type 0) (xs : List (List ℕ)) (i : ℕ) : Type 0 where
  pub front : List (List ℕ)
  pub block : List (List ℕ)
  pub rest : List (List ℕ)
  pub place : ℕ
  pub whole : xs ≡ front ++ (block ++ rest)
  pub at : i ≡ length front + place
  pub within : place < length block
  pub ascends : Ascending block
  pub closed : (nu : List ℕ) → Among (get_or block place []) nu → Occurs nu block

-- An earlier partition stands before the place i, and from there to i the list ascends.
pub record IsLower (xs : List (List ℕ)) (i : ℕ) (nu : List ℕ) : Type 0 where
  pub place : ℕ
  pub lower : place < i
  pub is : get_or xs place [] ≡ nu
  pub chain : (q : ℕ) → place ≤ q → q < i → IsEarlier (get_or xs q []) (get_or xs (q + 1) [])

in_place : (front block rest : List (List ℕ)) (j : ℕ) → j < length block →
    get_or (front ++ (block ++ rest)) (length front + j) [] ≡ get_or block j []
in_place front block rest j lt =
    get_or-append-add front (block ++ rest) j [] ∙ get_or_append_left block rest [] j lt

module _ (Among : List ℕ → List ℕ → Type 0) where
  -- an earlier partition that the block has stands before the place
  pub lower_in : (xs : List (List ℕ)) (i : ℕ) (b : InBlock Among xs i) (nu : List ℕ) →
      Among (get_or xs i []) nu → IsEarlier nu (get_or xs i []) → IsLower xs i nu
  lower_in xs i b nu among earlier = record {
    place = length b.front + a.place;
    lower = omega (arith, lt, b.at);
    is = read a.place a.within ∙ a.is;
    chain = chain;
  }
    where
      read : (j : ℕ) → j < length b.block → get_or xs (length b.front + j) [] ≡ get_or b.block j []
      read j h = ap (λ ys. get_or ys (length b.front + j) []) b.whole ∙ in_place b.front b.block b.rest j h

      own : get_or xs i [] ≡ get_or b.block b.place []
      own = ap (λ k. get_or xs k []) b.at ∙ read b.place b.within

      a : IsAt nu b.block
      a = place_of nu b.block (b.closed nu (subst (λ m. Among m nu) own among))

      lt : a.place < b.place
      lt = lower_place b.block b.ascends b.place a.place b.within a.within
          (subst (λ m. IsEarlier m (get_or b.block b.place [])) (sym a.is) (subst (IsEarlier nu) own earlier))

      step : (q k : ℕ) → q ≡ length b.front + k → k + 1 ≤ b.place →
          IsEarlier (get_or xs q []) (get_or xs (q + 1) [])
      step q k e le =
          subst (λ m. IsEarlier m (get_or xs (q + 1) []))
          (sym (ap (λ j. get_or xs j []) e ∙ read k (omega (arith, b.within, le))))
          (subst (λ m. IsEarlier (get_or b.block k []) m)
          (sym (ap (λ j. get_or xs j []) next ∙ read (k + 1) (omega (arith, b.within, le))))
          (ascends_at b.block b.ascends k (k + 1) (omega arith) (omega (arith, b.within, le))))
        where
          next : q + 1 ≡ length b.front + (k + 1)
          next = omega (arith, e)

      chain : (q : ℕ) → length b.front + a.place ≤ q → q < i → IsEarlier (get_or xs q []) (get_or xs (q + 1) [])
      chain q lo hi = step q (q - length b.front) (omega (arith, lo)) (omega (arith, lo, hi, b.at))

  -- blocks one after the other
  module _ (f : List ℕ → List (List ℕ)) (up : (l : List ℕ) → Ascending (f l))
      (closed : (l : List ℕ) (k : ℕ) → k < length (f l) → (nu : List ℕ) → Among (get_or (f l) k []) nu →
      Occurs nu (f l)) where
    -- each place of blocks one after the other is in one of them
    pub in_flat : (ls : List (List ℕ)) (i : ℕ) → i < length (flat_map f ls) → InBlock Among (flat_map f ls) i
    in_flat [] i lt = absurd (omega arith)
    in_flat (l ∷ ls) i lt = settle (le_or_lt (length (f l)) i) (in_flat ls (i - length (f l)))
      where
        behind : length (f l) ≤ i → InBlock Among (flat_map f ls) (i - length (f l)) →
            InBlock Among (f l ++ flat_map f ls) i
        behind le b = record {
          front = f l ++ b.front;
          block = b.block;
          rest = b.rest;
          place = b.place;
          whole = ap (λ ys. f l ++ ys) b.whole ∙ sym (append_assoc (f l) b.front (b.block ++ b.rest));
          at = omega (arith, le, b.at, length-append (f l) b.front);
          within = b.within;
          ascends = b.ascends;
          closed = b.closed;
        }

        settle : (length (f l) ≤ i) ⊎ (i < length (f l)) →
            (i - length (f l) < length (flat_map f ls) → InBlock Among (flat_map f ls) (i - length (f l))) →
            InBlock Among (f l ++ flat_map f ls) i
        settle (inl le) more = behind le (more (omega (arith, le, lt, length-append (f l) (flat_map f ls))))
        settle (inr here) more = record {
          front = [];
          block = f l;
          rest = flat_map f ls;
          place = i;
          whole = refl;
          at = omega arith;
          within = here;
          ascends = up l;
          closed = closed l i here;
        }

-- ---- contents

-- the test passes where the contents are the same
pub content_test : (e : ℕ) (mu nu : List ℕ) → SameContent e mu nu → same_content e mu nu ≡ true
content_test e mu nu h =
    tests_all (λ i. nat_eq (content e mu i) (content e nu i)) (range_with_len 0 e)
    (all_every (λ i. nat_eq (content e mu i) (content e nu i) ≡ true) (range_with_len 0 e)
    (λ i. eq-eqb (content e mu i) (content e nu i) (h i)))

-- what has the content of something with mu's has mu's
test_trans : (e : ℕ) (mu nu kappa : List ℕ) → same_content e mu nu ≡ true → SameContent e nu kappa →
    same_content e mu kappa ≡ true
test_trans e mu nu kappa h k =
    tests_all (λ i. nat_eq (content e mu i) (content e kappa i)) (range_with_len 0 e)
    (all_weaken (λ i. nat_eq (content e mu i) (content e nu i) ≡ true)
    (λ i. nat_eq (content e mu i) (content e kappa i) ≡ true) (range_with_len 0 e)
    (λ i t. eq-eqb (content e mu i) (content e kappa i) (eqb-true (content e mu i) (content e nu i) t ∙ k i))
    (all_tests (λ i. nat_eq (content e mu i) (content e nu i)) (range_with_len 0 e) h))

-- ---- the columns of a certificate

-- An e-regular partition of n, in version 2 of the same content.
pub record IsAmong (version e n : ℕ) (mu nu : List ℕ) : Type 0 where
  pub regular : IsRegularOf e n nu
  pub content : version ≡ 2 → SameContent e mu nu

module _ (e n : ℕ) where
  block_closed : (l : List ℕ) (k : ℕ) → k < length (block_of e n l) → (nu : List ℕ) →
      IsAmong 2 e n (get_or (block_of e n l) k []) nu → Occurs nu (block_of e n l)
  block_closed l k lt nu among =
      occurs_filter (same_content e l) nu (regulars e n)
      (test_trans e l (get_or (block_of e n l) k []) nu
      (all_at (λ x. same_content e l x ≡ true) (block_of e n l) k [] passed lt) (among.content refl))
      (each_regular e n nu among.regular)
    where
      passed : AllByRecursion (λ x. same_content e l x ≡ true) (block_of e n l)
      passed = all_filter (λ x. same_content e l x ≡ true) (same_content e l) (regulars e n)
          (all_every (λ x. same_content e l x ≡ true → same_content e l x ≡ true) (regulars e n) (λ x t. t))

  one_block : (i : ℕ) → i < length (regulars e n) → InBlock (IsAmong 1 e n) (regulars e n) i
  one_block i lt = record {
    front = [];
    block = regulars e n;
    rest = [];
    place = i;
    whole = sym (append-nil (regulars e n));
    at = omega arith;
    within = lt;
    ascends = regulars_ascend e n;
    closed = λ nu among. each_regular e n nu among.regular;
  }

  -- each column stands in a block
  pub in_columns : (version i : ℕ) → 1 ≤ version → version ≤ 2 → i < length (columns_of version e n) →
      InBlock (IsAmong version e n) (columns_of version e n) i
  unfolding columns_of
  in_columns zero i least most lt = absurd (omega arith)
  in_columns (suc zero) i least most lt = one_block i lt
  in_columns (suc (suc zero)) i least most lt =
      in_flat (IsAmong 2 e n) (block_of e n)
      (λ l. Ascending-filter (same_content e l) (regulars e n) (regulars_ascend e n)) block_closed (leaders e n) i lt
  in_columns (suc (suc (suc v))) i least most lt = absurd (omega arith)

  -- all columns are e-regular partitions of n
  pub all_columns : (version : ℕ) → AllByRecursion (IsRegularOf e n) (columns_of version e n)
  unfolding columns_of
  all_columns version = by (nat_eq version 1)
    where
      by : (b : Bool) → AllByRecursion (IsRegularOf e n) (cond b (regulars e n) (flat_map (block_of e n) (leaders e n)))
      by true = all_regulars e n
      by false = all_flat (IsRegularOf e n) (block_of e n) (leaders e n)
          (all_every (λ l. AllByRecursion (IsRegularOf e n) (block_of e n l)) (leaders e n)
          (λ l. all_filter (IsRegularOf e n) (same_content e l) (regulars e n)
          (all_weaken (IsRegularOf e n) (λ x. same_content e l x ≡ true → IsRegularOf e n x) (regulars e n) (λ x h _. h)
          (all_regulars e n))))
