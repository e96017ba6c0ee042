-- A list in order as code takes it apart: the front of one partition is its first run.
use Rattle.std.proofs.Common.{◌≡◌, ℕ, suc, ◌+◌, Bool, true, false, cond, List, [], ◌∷◌}
use Rattle.std.proofs.Common.{take, drop}
use Rattle.std.proofs.Common.{refl, sym, ◌∙◌, ap, ap₂, subst, arith, get_or, true≢false, ◌⊎◌, inl, inr}
use Rattle.std.specs.List.{AllByRecursion, prefix_len}
use Rattle.std.specs.List.Sorted.{IsSortedByKey}
use Rattle.std.specs.Ordering.{is_eq, is_lt, nat_cmp, ordering_then}
use Rattle.std.specs.declared.cmp.Ordering.{Ordering}
use Rattle.std.specs.declared.cmp.Ordering.TheVariants.{Less, Equal, Greater}
use Rattle.std.proofs.lemmas.Cmp.{nat_cmp_total, tied_itself}
use Rattle.sp_defs.specs.Partition.{degree, compare, order, IsEarlier}
use Rattle.sp_lists.proofs.Places.{all_weaken}
use Rattle.sp_shapes.proofs.Order.{equal_self, same_lists, less_trans, later_than}
use Rattle.sp_power_law.specs.Runs.{is_at, Arrival, Run, joined, runs}
use Rattle.sp_power_law.proofs.Runs.{InOrder, runs-begin, same_or_later}

-- ---- the first run

-- An arrival in front of a run of another partition begins a run.
joined-apart : (t : Arrival) (run : Run) (rs : List Run) → is_eq (compare t.0 run.0) ≡ false →
    joined t (run ∷ rs) ≡ (t.0, t ∷ []) ∷ run ∷ rs
joined-apart t run rs h = ap (λ b. cond b ((run.0, t ∷ run.1) ∷ rs) ((t.0, t ∷ []) ∷ run ∷ rs)) h

-- `is_at` either way round
eq_sym : (x y : List ℕ) → is_eq (compare x y) ≡ false → is_eq (compare y x) ≡ false
eq_sym x y h = by_order (compare y x) refl
  where
    by_order : (o : Ordering) → compare y x ≡ o → is_eq o ≡ false
    by_order Less is = refl
    by_order Greater is = refl
    by_order Equal is =
        absurd (true≢false (sym (ap is_eq (subst (λ l. compare l y ≡ Equal) (same_lists y x is) (equal_self y))) ∙ h))

alone : (t u : Arrival) (ts : List Arrival) → is_at t.0 u ≡ false →
    joined t (runs (u ∷ ts)) ≡ (t.0, t ∷ []) ∷ runs (u ∷ ts)
alone t u ts h =
    let b = runs-begin u ts in
    ap (joined t) b.is
    ∙ joined-apart t b.run b.others (subst (λ l. is_eq (compare t.0 l) ≡ false) (sym b.at) (eq_sym u.0 t.0 h))
    ∙ ap (λ rs. (t.0, t ∷ []) ∷ rs) (sym b.is)

-- The first arrival and those after it that have its partition, and the runs of the others.
pub runs-block : (t : Arrival) (ts : List Arrival) →
    runs (t ∷ ts) ≡ (t.0, t ∷ take (prefix_len (is_at t.0) ts) ts) ∷ runs (drop (prefix_len (is_at t.0) ts) ts)
unfolding runs
runs-block t [] = refl
runs-block t (u ∷ ts) = by_test (is_at t.0 u) refl (runs-block u ts)
  where
    whole : Bool → ℕ
    whole b = cond b (1 + prefix_len (is_at t.0) ts) 0

    by_test : (b : Bool) → is_at t.0 u ≡ b →
        runs (u ∷ ts) ≡ (u.0, u ∷ take (prefix_len (is_at u.0) ts) ts) ∷ runs (drop (prefix_len (is_at u.0) ts) ts) →
        joined t (runs (u ∷ ts)) ≡ (t.0, t ∷ take (whole b) (u ∷ ts)) ∷ runs (drop (whole b) (u ∷ ts))
    by_test false is rest = alone t u ts is
    by_test true is rest =
        ap (joined t)
        (subst (λ l. runs (u ∷ ts) ≡ (l, u ∷ take (prefix_len (is_at l) ts) ts) ∷ runs
        (drop (prefix_len (is_at l) ts) ts)) same rest)
        ∙ ap (λ o. cond (is_eq o) ((t.0, t ∷ u ∷ front) ∷ back) ((t.0, t ∷ []) ∷ (t.0, u ∷ front) ∷ back))
        (equal_self t.0)
        ∙ ap (λ n. (t.0, t ∷ take n (u ∷ ts)) ∷ runs (drop n (u ∷ ts))) (sym (one_more (prefix_len (is_at t.0) ts)))
      where
        same : u.0 ≡ t.0
        same = by_order (compare u.0 t.0) refl is
          where
            by_order : (o : Ordering) → compare u.0 t.0 ≡ o → is_eq o ≡ true → u.0 ≡ t.0
            by_order Less e h = absurd (true≢false (sym h))
            by_order Equal e h = same_lists u.0 t.0 e
            by_order Greater e h = absurd (true≢false (sym h))

        front : List Arrival
        front = take (prefix_len (is_at t.0) ts) ts

        back : List Run
        back = runs (drop (prefix_len (is_at t.0) ts) ts)

        one_more : (n : ℕ) → 1 + n ≡ suc n
        one_more n = omega arith

-- ---- what a sort by the partition leaves is in order

order_one_degree : (n : ℕ) (x y : List ℕ) → degree x ≡ n → degree y ≡ n → order x y ≡ compare x y
order_one_degree n x y hx hy =
    ap (λ o. ordering_then o (compare x y)) (ap₂ (λ a b. nat_cmp a b) hx hy ∙ tied_itself nat_cmp_total n)

not_before_trans : (x y z : List ℕ) → is_lt (compare y x) ≡ false → is_lt (compare z y) ≡ false →
    is_lt (compare z x) ≡ false
not_before_trans x y z h k = by (same_or_later x y h) (same_or_later y z k)
  where
    later : IsEarlier x z → is_lt (compare z x) ≡ false
    later e = ap is_lt (later_than x z e)

    by : (x ≡ y) ⊎ IsEarlier x y → (y ≡ z) ⊎ IsEarlier y z → is_lt (compare z x) ≡ false
    by (inl s) b = subst (λ l. is_lt (compare z l) ≡ false) (sym s) k
    by (inr e) (inl s) = subst (λ l. is_lt (compare l x) ≡ false) s h
    by (inr e) (inr f) = later (less_trans x y z e f)

sorted_tail : (t : Arrival) (ts : List Arrival) → IsSortedByKey (λ t. t.0) order (t ∷ ts) →
    IsSortedByKey (λ t. t.0) order ts
sorted_tail t ts up k d lo hi =
    subst (λ j. is_lt (order (get_or (t ∷ ts) j d).0 (get_or ts k d).0) ≡ false) (moved k)
    (up (suc k) d (omega arith) (omega arith))
  where
    moved : (k : ℕ) → suc k + 1 ≡ suc (k + 1)
    moved k = omega arith

next_in_order : (t u : Arrival) (ts : List Arrival) → is_lt (compare u.0 t.0) ≡ false → InOrder (u ∷ ts) →
    InOrder (t ∷ u ∷ ts)
next_in_order t u ts first (later, rest) = (
  (
    first,
    all_weaken (λ v. is_lt (compare v.0 u.0) ≡ false) (λ v. is_lt (compare v.0 t.0) ≡ false) ts
        (λ v after. not_before_trans t.0 u.0 v.0 first after) later,
  ),
  (later, rest),
)

-- What a sort by the partition leaves is in order, where all partitions have one degree.
pub in_order : (n : ℕ) (ts : List Arrival) → AllByRecursion (λ t. degree t.0 ≡ n) ts →
    IsSortedByKey (λ t. t.0) order ts → InOrder ts
in_order n [] h up = tt
in_order n (t ∷ []) h up = (tt, tt)
in_order n (t ∷ u ∷ ts) (ht, (hu, hs)) up =
    next_in_order t u ts (ap is_lt (sym (order_one_degree n u.0 t.0 hu ht)) ∙ up 0 t (omega arith) (omega arith))
    (in_order n (u ∷ ts) (hu, hs) (sorted_tail t (u ∷ ts) up))
