-- Moves in order, summed run by run: what each loop keeps.
use Rattle.std.proofs.Common.{◌≡◌, ◌≢◌, ℕ, suc, ◌+◌, ◌<◌, ◌≤◌, Bool, true, false, cond, nat_lt, List, [], ◌∷◌}
use Rattle.std.proofs.Common.{◌++◌, map}
use Rattle.std.proofs.Common.{length, take, drop, get_or, refl, sym, ◌∙◌, ap, ap₂, subst, arith, sum_by, append_assoc}
use Rattle.std.proofs.Common.{append-nil, length-drop, add-one, ◌-◌}
use Rattle.std.proofs.Common.{true≢false, filter, ℤ, pos, ◌⊎◌, inl, inr, not, nat_eq, ◌↔◌, IsTrue}
use Rattle.std.specs.Cmp.Lexicographic.{pointwise}
use Rattle.std.proofs.lemmas.List.{take_more, take_all, get_or_default, nil_from_length}
use Rattle.sp_lists.proofs.Places.{all_at, all_take, all_drop, rest-cons}
use Rattle.std.proofs.lemmas.List.Sums.{sum_by_more, sum_by_more_le, prefix_len-le-length, prefix_len_is}
use Rattle.sp_partition.specs.OrderLaws.{equal_lists, lists_equal}
use Rattle.sp_algebra.proofs.Laws.{plus_nought, nought_plus, IsLaurent-times}
use Rattle.sp_algebra.proofs.Sums.{sum_over-append}
use Rattle.std.specs.Int.RustNames.{unsigned_abs}
use Rattle.std.specs.List.{AllByRecursion, prefix_len}
use Rattle.std.specs.Ordering.{is_eq}
use Rattle.std.specs.declared.cmp.Ordering.{Ordering}
use Rattle.std.specs.declared.cmp.Ordering.TheVariants.{Less, Equal, Greater}
use Rattle.sp_defs.specs.Partition.{compare}
use Rattle.sp_defs.specs.Laurent.{Laurent, monomial, power, plus, sum_over, size}
use Rattle.sp_defs.specs.Power.{Entries, greatest}
use Rattle.sp_defs.specs.Within.{PowersWithin, ProductWithin}
use Rattle.sp_algebra.proofs.Sizes.{product_within, size_plus, size_times, size-cons}
use Rattle.sp_shapes.proofs.Order.{equal_self, same_lists}
use Rattle.sp_lists.proofs.Elements.{le_or_lt, all_append, all_filter}
use Rattle.sp_partition.specs.Held.{IsHeld as IsHeldPartition}
use Rattle.sp_lists.proofs.Greatest.{greatest_within, within_greatest}
use Rattle.sp_fock.specs.Held.{ArePairs}
use Rattle.sp_laurent.specs.Held.{IsHeld, power_limit}
use Rattle.sp_power_law.specs.Runs.{Arrival, is_at, runs, polynomial_at, share_of, size_of, sums_of, sizes_of}
use Rattle.sp_power_law.proofs.Blocks.{runs-block}
use Rattle.sp_power.specs.Arrivals.{IsBrought}
use Rattle.sp_power.proofs.Descent.{read_exponent}
use Rattle.std.proofs.Common.{w32}
use mir.Val.{to_z, of_z}

-- ---- one move

-- A power of an exponent times a polynomial has powers within the limit.
pub product_near : (x : ℤ) (p q : Laurent) → p ≡ monomial x (pos 1) → unsigned_abs x ≤ 2000 →
    PowersWithin 500000000 q → ProductWithin power_limit p q
product_near x p q is near h =
    subst (λ l. ProductWithin power_limit l q) (sym is)
    (product_within 2000 500000000 power_limit (power x) q (omega arith) (near, tt) h)

-- ---- the runs

-- the front of one partition is the first run
pub runs-front : (ts : List Arrival) (d : Arrival) → 1 ≤ length ts →
    runs ts ≡ ((get_or ts 0 d).0, take (prefix_len (is_at (get_or ts 0 d).0) ts) ts) ∷ runs
    (drop (prefix_len (is_at (get_or ts 0 d).0) ts) ts)
runs-front [] d h = absurd (omega arith)
runs-front (t ∷ ts) d h =
    runs-block t ts
    ∙ ap (λ n. (t.0, take n (t ∷ ts)) ∷ runs (drop n (t ∷ ts)))
    (sym (ap (λ o. cond (is_eq o) (1 + prefix_len (is_at t.0) ts) 0) (equal_self t.0)
    ∙ one_more (prefix_len (is_at t.0) ts)))
  where
    one_more : (n : ℕ) → 1 + n ≡ suc n
    one_more n = omega arith

-- ---- the loop over the runs

-- With the sums so far and the moves that are left.
pub record Progress (pairs : Entries) (arrivals : List Arrival) (limit : ℕ) (sums : Entries)
    (rest : List Arrival) : Type 0 where
  pub sums_are : sums ++ sums_of pairs (runs rest) ≡ sums_of pairs (runs arrivals)
  pub held : ArePairs sums
  pub brought : AllByRecursion (IsBrought pairs) rest
  pub fits : greatest (sizes_of pairs (runs rest)) ≤ limit → greatest (sizes_of pairs (runs arrivals)) ≤ limit
  pub within : greatest (sizes_of pairs (runs rest)) ≤ greatest (sizes_of pairs (runs arrivals))

-- ---- how long a run is

same_list : (x y : List ℕ) → false ≡ not (pointwise nat_eq x y) → x ≡ y
same_list x y h = equal_lists x y (by (pointwise nat_eq x y) refl)
  where
    by : (b : Bool) → pointwise nat_eq x y ≡ b → pointwise nat_eq x y ≡ true
    by true e = e
    by false e = absurd (true≢false (ap not (sym e) ∙ sym h))

other_list : (x y : List ℕ) → true ≡ not (pointwise nat_eq x y) → x ≢ y
other_list x y h same = true≢false (h ∙ ap not (lists_equal x y same))

-- Lists that the code finds the same are one partition.
pub at_same : (x y : List ℕ) → false ≡ not (pointwise nat_eq x y) → is_eq (compare x y) ≡ true
at_same x y h = ap is_eq (subst (λ l. compare l y ≡ Equal) (sym (same_list x y h)) (equal_self y))

-- Lists that the code finds different are two.
pub at_other : (x y : List ℕ) → true ≡ not (pointwise nat_eq x y) → is_eq (compare x y) ≡ false
at_other x y h = by (compare x y) refl
  where
    by : (o : Ordering) → compare x y ≡ o → is_eq o ≡ false
    by Less is = refl
    by Greater is = refl
    by Equal is = absurd (other_list x y h (same_lists x y is))

-- The run ends at the first move to another partition.
pub length_here : (ts : List Arrival) (nu : List ℕ) (n : ℕ) (t : Arrival) (at : List ℕ) → n < length ts →
    t ≡ get_or ts n t → t.0 ≡ at →
    true ≡ not (pointwise nat_eq at nu) → ((k : ℕ) (d : Arrival) → k < n → is_at nu (get_or ts k d) ≡ true) →
    n ≡ prefix_len (is_at nu) ts
length_here ts nu n t at lt is place ne before =
    sym (prefix_len_is (is_at nu) ts n t (omega arith) (λ k h. before k t h)
    (λ _. ap (is_at nu) (sym is) ∙ ap (λ l. is_eq (compare l nu)) place ∙ at_other at nu ne))

-- One move more leads to the partition.
pub passes_more : (ts : List Arrival) (nu : List ℕ) (n : ℕ) (t : Arrival) (at : List ℕ) → n < length ts →
    t ≡ get_or ts n t → t.0 ≡ at →
    false ≡ not (pointwise nat_eq at nu) → ((k : ℕ) (d : Arrival) → k < n → is_at nu (get_or ts k d) ≡ true) →
    (k : ℕ) (d : Arrival) → k < n + 1 → is_at nu (get_or ts k d) ≡ true
passes_more ts nu n t at lt is place eq before k d h = settle (le_or_lt n k)
  where
    settle : (n ≤ k) ⊎ (k < n) → is_at nu (get_or ts k d) ≡ true
    settle (inr less) = before k d less
    settle (inl least) = ap (λ j. is_at nu (get_or ts j d)) here ∙ ap (is_at nu) (get_or_default ts n d t lt ∙ sym is)
        ∙ ap (λ l. is_eq (compare l nu)) place ∙ at_same at nu eq
      where
        here : k ≡ n
        here = omega arith

-- The run ends where the moves end.
pub length_whole : (ts : List Arrival) (nu : List ℕ) (n : ℕ) → length ts ≤ n →
    ((k : ℕ) (d : Arrival) → k < n → is_at nu (get_or ts k d) ≡ true) → length ts ≡ prefix_len (is_at nu) ts
length_whole ts nu n past before =
    sym (prefix_len_is (is_at nu) ts (length ts) ([], 0, pos 0) (omega arith)
    (λ k h. before k ([], 0, pos 0) (omega arith)) (λ h. absurd (omega arith)))

-- ---- whether the sizes of a run fit

at_place : (pairs : Entries) (place : ℕ) (d : List ℕ × Laurent) → place < length pairs →
    (get_or pairs place d).1 ≡ polynomial_at pairs place
at_place pairs place d h = ap (λ s. s.1) (get_or_default pairs place d ([], []) h)

-- Each move of a run comes from a pair.
pub brought_at : (pairs : Entries) (run : List Arrival) (i : ℕ) (t : Arrival) → i < length run → t ≡ get_or run i t →
    AllByRecursion (IsBrought pairs) run → IsBrought pairs t
brought_at pairs run i t lt at all =
    subst (IsBrought pairs) (sym at) (all_at (IsBrought pairs) run i t all lt)

-- the size that the code reads
size_there : (pairs : Entries) (run : List Arrival) (i : ℕ) (t : Arrival) (source s : ℕ) (d : List ℕ × Laurent) →
    AllByRecursion (IsBrought pairs) run → i < length run → t ≡ get_or run i t → t.1 ≡ source →
    s ≡ size (get_or pairs source d).1 → s ≡ size_of pairs (get_or run i t)
size_there pairs run i t source s d all lt at place is =
    let b = brought_at pairs run i t lt at all in
    is ∙ ap size (ap (λ k. (get_or pairs k d).1) (sym place) ∙ at_place pairs t.1 d b.there) ∙ ap (size_of pairs) at

-- A size that is more than what is left takes the sum past the limit.
pub fits_none : (pairs : Entries) (run : List Arrival) (i : ℕ) (t : Arrival) (source s left limit : ℕ)
    (d : List ℕ × Laurent) →
    AllByRecursion (IsBrought pairs) run → i < length run → t ≡ get_or run i t → t.1 ≡ source →
    s ≡ size (get_or pairs source d).1 →
    (s ≤ left → ⊥) → left + sum_by (size_of pairs) (take i run) ≡ limit →
    IsTrue false ↔ (sum_by (size_of pairs) run ≤ limit)
fits_none pairs run i t source s left limit d all lt at place is past so_far =
    let more = sum_by_more_le (size_of pairs) run i t lt in (
      (λ h. absurd (true≢false (sym h))),
      λ h. absurd (omega (arith, more, size_there pairs run i t source s d all lt at place is, past, so_far, h)),
    )

-- ---- what one move brings

-- What one move brings has powers within the limit.
pub shift_near : (pairs : Entries) (t : Arrival) (source : ℕ) (x : ℤ) (d : List ℕ × Laurent) →
    IsBrought pairs t → t.1 ≡ source → t.2 ≡ x →
    ProductWithin power_limit (monomial x (pos 1)) (get_or pairs source d).1
shift_near pairs t source x d b place exponent =
    product_near x (monomial x (pos 1)) (get_or pairs source d).1 refl
    (subst (λ z. unsigned_abs z ≤ 2000) exponent b.near)
    (subst (PowersWithin 500000000) (sym (ap (λ k. (get_or pairs k d).1) (sym place) ∙ at_place pairs t.1 d b.there))
    b.powers)

-- So it has as the code makes the power.
pub share_near : (pairs : Entries) (t : Arrival) (source : ℕ) (x : ℤ) (p : Laurent) (d : List ℕ × Laurent) →
    IsBrought pairs t → t.1 ≡ source → t.2 ≡ x →
    p ≡ (to_z w32 (of_z w32 x), pos 1) ∷ [] → ProductWithin power_limit p (get_or pairs source d).1
share_near pairs t source x p d b place exponent is =
    subst (λ l. ProductWithin power_limit l (get_or pairs source d).1)
    (sym (is ∙ ap (λ z. (z, pos 1) ∷ []) (read_exponent x near))) (shift_near pairs t source x d b place exponent)
  where
    near : unsigned_abs x ≤ 2000
    near = subst (λ z. unsigned_abs z ≤ 2000) exponent b.near

-- ---- the sum over a run

-- The sum over the first n moves, and that it is no larger than what they brought.
pub record SoFar (pairs : Entries) (run : List Arrival) (n : ℕ) (sum : Laurent) : Type 0 where
  pub sum_is : sum ≡ sum_over (take n run) (share_of pairs)
  pub small : size sum ≤ sum_by (size_of pairs) (take n run)

share_size : (pairs : Entries) (t : Arrival) → size (share_of pairs t) ≤ size_of pairs t
share_size pairs t = omega (arith, size_times (power t.2) (polynomial_at pairs t.1), size-cons t.2 (pos 1) [])

-- One move more adds its share.
pub sum_more : (pairs : Entries) (run : List Arrival) (i : ℕ) (t : Arrival) (old new : Laurent) → i < length run →
    t ≡ get_or run i t → SoFar pairs run i old → new ≡ plus old (share_of pairs t) → SoFar pairs run (i + 1) new
unfolding sum_over
sum_more pairs run i t old new lt at so_far is = record {
  sum_is =
      is ∙ ap₂ (λ p q. plus p (share_of pairs q)) so_far.sum_is at
      ∙ ap (plus (sum_over (take i run) (share_of pairs)))
      (sym (plus_nought (share_of pairs (get_or run i t))
      (IsLaurent-times (power (get_or run i t).2) (polynomial_at pairs (get_or run i t).1))))
      ∙ sym (sum_over-append (take i run) (get_or run i t ∷ []) (share_of pairs))
      ∙ ap (λ l. sum_over l (share_of pairs)) (sym (take_more run i t lt));
  small = omega (
    arith,
    ap size is,
    size_plus old (share_of pairs t),
    share_size pairs t,
    so_far.small,
    sum_by_more (size_of pairs) run i t lt,
    ap (size_of pairs) at,
  );
}

-- Where there is no move the sum is 0.
pub sum_none : (pairs : Entries) (run : List Arrival) (sum : Laurent) → length run < 1 → sum ≡ [] →
    sum ≡ sum_over run (share_of pairs)
unfolding sum_over
sum_none pairs run sum none is = is ∙ ap (λ l. sum_over l (share_of pairs)) (sym (nil_from_length run (omega arith)))

-- The sum over the first move is its share.
pub sum_first : (pairs : Entries) (run : List Arrival) (t : Arrival) (new : Laurent) → 1 ≤ length run →
    t ≡ get_or run 0 t → new ≡ share_of pairs t → SoFar pairs run (0 + 1) new
unfolding sum_over
sum_first pairs run t new lt at is =
    sum_more pairs run 0 t [] new lt at (record { sum_is = refl; small = omega arith })
    (is ∙ sym (nought_plus (share_of pairs t) (IsLaurent-times (power t.2) (polynomial_at pairs t.1))))

-- The limit has room for one move more.
pub share_fits : (pairs : Entries) (run : List Arrival) (i : ℕ) (t : Arrival) (old : Laurent) (bound : ℕ) →
    i < length run → t ≡ get_or run i t → SoFar pairs run i old → sum_by (size_of pairs) run < bound →
    size old + size_of pairs t < bound
share_fits pairs run i t old bound lt at so_far h =
    omega (arith, sum_by_more_le (size_of pairs) run i t lt, ap (size_of pairs) at, so_far.small, h)

-- All moves are summed.
pub sum_whole : (pairs : Entries) (run : List Arrival) (n : ℕ) (sum : Laurent) → length run ≤ n →
    SoFar pairs run n sum → sum ≡ sum_over run (share_of pairs)
sum_whole pairs run n sum past so_far =
    so_far.sum_is ∙ ap (λ l. sum_over l (share_of pairs)) (take_all n run past)

-- The moves behind the first, as code takes a slice apart, and the place of each in the run.
abbrev pub others : List Arrival → List Arrival
others run = take (length run - 1) (drop 1 run)

-- They are one less.
pub length-others : (run : List Arrival) → 1 ≤ length run → length (others run) + 1 ≡ length run
length-others [] some = absurd (omega arith)
length-others (t ∷ ts) some = omega (arith, ap length (rest-cons t ts))

-- Move i of them is move i + 1 of the run.
pub others_at : (run : List Arrival) (i : ℕ) (t : Arrival) → 1 ≤ length run → t ≡ get_or (others run) i t →
    t ≡ get_or run (i + 1) t
others_at [] i t some at = absurd (omega arith)
others_at (u ∷ ts) i t some at =
    at ∙ ap (λ l. get_or l i t) (rest-cons u ts) ∙ ap (λ k. get_or (u ∷ ts) k t) (sym (add-one i))

-- ---- the loop over the runs, one run further

greatest_more : (x b : ℕ) (xs : List ℕ) → x ≤ b → greatest xs ≤ b → greatest (x ∷ xs) ≤ b
greatest_more x b xs h k = greatest_within b (x ∷ xs) (h, within_greatest b xs k)

greatest_first : (x : ℕ) (xs : List ℕ) → x ≤ greatest (x ∷ xs)
greatest_first x xs = (within_greatest (greatest (x ∷ xs)) (x ∷ xs) (omega arith)).0

greatest_rest : (x : ℕ) (xs : List ℕ) → greatest xs ≤ greatest (x ∷ xs)
greatest_rest x xs =
    greatest_within (greatest (x ∷ xs)) xs (within_greatest (greatest (x ∷ xs)) (x ∷ xs) (omega arith)).1

abbrev nonzero : List ℕ × Laurent → Bool
nonzero t = nat_lt 0 (length t.1)

filter_first : (t : List ℕ × Laurent) (es : Entries) →
    filter nonzero (t ∷ []) ++ filter nonzero es ≡ filter nonzero (t ∷ es)
filter_first t es =
    elim (nonzero t) as (λ b. cond b (t ∷ []) [] ++ filter nonzero es ≡ cond b (t ∷ filter nonzero es)
    (filter nonzero es)) [ true ↦ refl | false ↦ refl ]

-- What does not fit is past the limit.
pub is_past : (b : Bool) (n limit : ℕ) → IsTrue b ↔ (n ≤ limit) → b ≡ false → limit < n
is_past b n limit h is = settle (le_or_lt n limit)
  where
    settle : (n ≤ limit) ⊎ (limit < n) → limit < n
    settle (inl le) = absurd (true≢false (sym (h.1 le) ∙ is))
    settle (inr lt) = lt

-- The code's split of the moves that are left: the front of one partition, and what is later.
pub record Split (rest : List Arrival) (nu : List ℕ) (run later : List Arrival) : Type 0 where
  pub default : Arrival
  pub some : 1 ≤ length rest
  pub at : (get_or rest 0 default).0 ≡ nu
  pub run_is : run ≡ take (prefix_len (is_at nu) rest) rest
  pub later_is : later ≡ drop (prefix_len (is_at nu) rest) rest

-- The code splits the moves so.
pub split_by : (rest run later : List Arrival) (n : ℕ) (first : Arrival) (nu : List ℕ) → 1 ≤ length rest →
    first ≡ get_or rest 0 first → first.0 ≡ nu →
    n ≡ prefix_len (is_at nu) rest → run ≡ take n rest → later ≡ drop n rest → Split rest nu run later
split_by rest run later n first nu some at place is front back = record {
  default = first;
  some = some;
  at = ap (λ t. t.0) (sym at) ∙ place;
  run_is = front ∙ ap (λ k. take k rest) is;
  later_is = back ∙ ap (λ k. drop k rest) is;
}

split_runs : (rest : List Arrival) (nu : List ℕ) (run later : List Arrival) → Split rest nu run later →
    runs rest ≡ (nu, run) ∷ runs later
split_runs rest nu run later s =
    runs-front rest s.default s.some
    ∙ ap (λ l. (l, take (prefix_len (is_at l) rest) rest) ∷ runs (drop (prefix_len (is_at l) rest) rest)) s.at
    ∙ ap₂ (λ a b. (nu, a) ∷ runs b) (sym s.run_is) (sym s.later_is)

-- A run is no longer than the list.
pub length_past : (rest : List Arrival) (nu : List ℕ) → prefix_len (is_at nu) rest ≤ length rest
length_past rest nu = prefix_len-le-length (is_at nu) rest

-- The moves that are later are fewer.
pub later_shorter : (rest : List Arrival) (nu : List ℕ) (run later : List Arrival) → Split rest nu run later →
    length later < length rest
later_shorter [] nu run later s = absurd (let h : 1 ≤ 0 = s.some in omega arith)
later_shorter (t ∷ ts) nu run later s =
    subst (λ l. length l < length (t ∷ ts)) (sym (s.later_is ∙ ap (λ n. drop n (t ∷ ts)) some))
    (omega (arith, length-drop (prefix_len (is_at nu) ts) ts))
  where
    one_more : (n : ℕ) → 1 + n ≡ suc n
    one_more n = omega arith

    some : prefix_len (is_at nu) (t ∷ ts) ≡ suc (prefix_len (is_at nu) ts)
    some = ap (λ o. cond (is_eq o) (1 + prefix_len (is_at nu) ts) 0)
        (subst (λ l. compare l nu ≡ Equal) (sym s.at) (equal_self nu)) ∙ one_more (prefix_len (is_at nu) ts)

-- Each move of the run comes from a pair.
pub run_brought : (pairs : Entries) (rest : List Arrival) (nu : List ℕ) (run later : List Arrival) →
    Split rest nu run later → AllByRecursion (IsBrought pairs) rest → AllByRecursion (IsBrought pairs) run
run_brought pairs rest nu run later s h =
    subst (AllByRecursion (IsBrought pairs)) (sym s.run_is)
    (all_take (IsBrought pairs) rest (prefix_len (is_at nu) rest) (λ i d _ lt. all_at (IsBrought pairs) rest i d h lt))

first_brought : (pairs : Entries) (rest : List Arrival) (nu : List ℕ) (run later : List Arrival) →
    Split rest nu run later → AllByRecursion (IsBrought pairs) rest → IsHeldPartition nu
first_brought pairs rest nu run later s h =
    subst IsHeldPartition s.at
    (brought_at pairs rest 0 (get_or rest 0 s.default) s.some
    (get_or_default rest 0 s.default (get_or rest 0 s.default) s.some) h).partition

module _ (pairs : Entries) (arrivals : List Arrival) (limit : ℕ) (sums : Entries) (rest : List Arrival)
    (p : Progress pairs arrivals limit sums rest) where
  -- A run that is past the limit takes the induction past it.
  pub run_past : (nu : List ℕ) (run later : List Arrival) → Split rest nu run later →
      limit < sum_by (size_of pairs) run → limit < greatest (sizes_of pairs (runs arrivals))
  run_past nu run later s past =
      let first : sum_by (size_of pairs) run ≤ greatest (sizes_of pairs (runs rest)) =
      subst (λ rs. sum_by (size_of pairs) run ≤ greatest (sizes_of pairs rs))
      (sym (split_runs rest nu run later s))
      (greatest_first (sum_by (size_of pairs) run) (sizes_of pairs (runs later))) in
      omega (arith, first, p.within)

  -- Once the sum of a run is added, the loop has come one run further.
  pub run_further : (nu : List ℕ) (run later : List Arrival) (sum : Laurent) (new : Entries) →
      Split rest nu run later → sum_by (size_of pairs) run ≤ limit →
      sum ≡ sum_over run (share_of pairs) → IsHeld sum → new ≡ sums ++ filter nonzero ((nu, sum) ∷ []) →
      Progress pairs arrivals limit new later
  run_further nu run later sum new s fit is held added = record {
    sums_are =
        ap (λ l. l ++ sums_of pairs (runs later)) added
        ∙ append_assoc sums (filter nonzero ((nu, sum) ∷ [])) (sums_of pairs (runs later))
        ∙ ap (λ l. sums ++ l)
        (filter_first (nu, sum) (map (λ run. (run.0, sum_over run.1 (share_of pairs))) (runs later))
        ∙ ap (λ q. filter nonzero ((nu, q) ∷ map (λ run. (run.0, sum_over run.1 (share_of pairs))) (runs later))) is
        ∙ ap (sums_of pairs) (sym (split_runs rest nu run later s)))
        ∙ p.sums_are;
    held = subst ArePairs (sym added)
        (all_append (λ t. IsHeldPartition t.0 × IsHeld t.1) sums (filter nonzero ((nu, sum) ∷ [])) p.held
        (all_filter (λ t. IsHeldPartition t.0 × IsHeld t.1) nonzero ((nu, sum) ∷ [])
        ((λ _. (first_brought pairs rest nu run later s p.brought, held)), tt)));
    brought = subst (AllByRecursion (IsBrought pairs)) (sym s.later_is)
        (all_drop (IsBrought pairs) rest (prefix_len (is_at nu) rest)
        (λ i d _ lt. all_at (IsBrought pairs) rest i d p.brought lt));
    fits = λ h. p.fits
        (subst (λ rs. greatest (sizes_of pairs rs) ≤ limit) (sym (split_runs rest nu run later s))
        (greatest_more (sum_by (size_of pairs) run) limit (sizes_of pairs (runs later)) fit h));
    within =
        let more : greatest (sizes_of pairs (runs later)) ≤ greatest (sizes_of pairs (runs rest)) =
        subst (λ rs. greatest (sizes_of pairs (runs later)) ≤ greatest (sizes_of pairs rs))
        (sym (split_runs rest nu run later s))
        (greatest_rest (sum_by (size_of pairs) run) (sizes_of pairs (runs later))) in
        omega (arith, more, p.within);
  }

  -- No move is left: all sums are made.
  pub all_summed : length rest < 1 → sums ≡ sums_of pairs (runs arrivals)
  unfolding runs
  all_summed none =
      sym (append-nil sums)
      ∙ ap (λ l. sums ++ sums_of pairs (runs l)) (sym (nil_from_length rest (omega arith)))
      ∙ p.sums_are

  -- No move is left: all sizes fit.
  pub all_fit : length rest < 1 → greatest (sizes_of pairs (runs arrivals)) ≤ limit
  unfolding runs
  all_fit none =
      p.fits
      (subst (λ l. greatest (sizes_of pairs (runs l)) ≤ limit) (sym (nil_from_length rest (omega arith))) (omega arith))

-- At the start nothing is summed.
pub begins : (pairs : Entries) (arrivals : List Arrival) (limit : ℕ) → AllByRecursion (IsBrought pairs) arrivals →
    Progress pairs arrivals limit [] arrivals
begins pairs arrivals limit h = record { sums_are = refl; held = tt; brought = h; fits = λ k. k; within = omega arith }
