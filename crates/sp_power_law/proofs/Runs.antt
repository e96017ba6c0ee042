-- The runs of a list in order: their partitions ascend, and each has just the arrivals at its partition.
use Rattle.std.proofs.Common.{◌≡◌, true, false, cond, List, [], ◌∷◌, map, filter, refl, sym, ◌∙◌, ap, ap₂, subst}
use Rattle.std.proofs.Common.{ℕ, ◌⊎◌, inl, inr, true≢false}
use Rattle.std.specs.List.{AllByRecursion}
use Rattle.std.specs.Ordering.{is_eq, is_lt, ordering_reverse}
use Rattle.std.specs.declared.cmp.Ordering.{Ordering}
use Rattle.std.specs.declared.cmp.Ordering.TheVariants.{Less, Equal, Greater}
use Rattle.std.proofs.lemmas.Cmp.{nat_list_cmp_total}
use Rattle.sp_defs.specs.Partition.{compare, Ascending, IsEarlier}
use Rattle.sp_lists.proofs.Elements.{all_both, all_map, map_all}
use Rattle.sp_lists.proofs.Places.{all_weaken}
use Rattle.sp_shapes.proofs.Order.{equal_self, same_lists, less_trans, later_than}
use Rattle.sp_shapes.proofs.Listing.{Occurs}
use Rattle.sp_power_law.specs.Runs.{Arrival, Run, is_at, joined, runs}

-- No arrival is at an earlier partition than one before it.
abbrev pub InOrder : List Arrival → Type 0
InOrder [] = Unit {0}
InOrder (t ∷ ts) = AllByRecursion (λ u. is_lt (compare u.0 t.0) ≡ false) ts × InOrder ts

-- The partitions of runs.
abbrev pub heads : List Run → List (List ℕ)
heads rs = map (λ run. run.0) rs

-- ---- what is not earlier is the same or later

-- What is not earlier is the same or later.
pub same_or_later : (x y : List ℕ) → is_lt (compare y x) ≡ false → (x ≡ y) ⊎ IsEarlier x y
same_or_later x y h = by_order (compare y x) refl
  where
    by_order : (o : Ordering) → compare y x ≡ o → (x ≡ y) ⊎ IsEarlier x y
    by_order Less is = absurd (true≢false (sym (ap is_lt is) ∙ h))
    by_order Equal is = inl (sym (same_lists y x is))
    by_order Greater is = inr (nat_list_cmp_total.antisymm x y ∙ ap ordering_reverse is)

not_at : (nu : List ℕ) (ts : List Arrival) → AllByRecursion (λ t. IsEarlier nu t.0) ts → filter (is_at nu) ts ≡ []
not_at nu [] h = refl
not_at nu (t ∷ ts) (h, hs) =
    ap₂ (λ o rest. cond (is_eq o) (t ∷ rest) rest) (later_than nu t.0 h) (not_at nu ts hs)

-- ---- the first run has the first partition

-- The first run is of the partition of t.
pub record Begins (t : Arrival) (rs : List Run) : Type 0 where
  pub run : Run
  pub others : List Run
  pub is : rs ≡ run ∷ others
  pub at : run.0 ≡ t.0

joined-begins : (t : Arrival) (rs : List Run) → Begins t (joined t rs)
joined-begins t [] = record { run = (t.0, t ∷ []); others = []; is = refl; at = refl }
joined-begins t (run ∷ rs) = by_order (compare t.0 run.0) refl
  where
    by_order : (o : Ordering) → compare t.0 run.0 ≡ o →
        Begins t (cond (is_eq o) ((run.0, t ∷ run.1) ∷ rs) ((t.0, t ∷ []) ∷ run ∷ rs))
    by_order Less is = record { run = (t.0, t ∷ []); others = run ∷ rs; is = refl; at = refl }
    by_order Equal is = record { run = (run.0, t ∷ run.1); others = rs; is = refl; at = sym (same_lists t.0 run.0 is) }
    by_order Greater is = record { run = (t.0, t ∷ []); others = run ∷ rs; is = refl; at = refl }

-- The first run of a list is of the partition of its first arrival.
pub runs-begin : (t : Arrival) (ts : List Arrival) → Begins t (runs (t ∷ ts))
unfolding runs
runs-begin t ts = joined-begins t (runs ts)

-- ---- what holds of all partitions of the list holds of those of its runs

joined-heads : (P : List ℕ → Type 0) (t : Arrival) (rs : List Run) → P t.0 → AllByRecursion (λ run. P run.0) rs →
    AllByRecursion (λ run. P run.0) (joined t rs)
joined-heads P t [] h hs = (h, tt)
joined-heads P t (run ∷ rs) h (hr, hs) =
    elim (is_eq (compare t.0 run.0)) as (λ b. AllByRecursion (λ run. P run.0)
    (cond b ((run.0, t ∷ run.1) ∷ rs) ((t.0, t ∷ []) ∷ run ∷ rs))) [
      | true ↦ (hr, hs)
      | false ↦ (h, (hr, hs))
    ]

-- What holds of all partitions of the list holds of those of its runs.
pub runs-heads : (P : List ℕ → Type 0) (ts : List Arrival) → AllByRecursion (λ t. P t.0) ts →
    AllByRecursion (λ run. P run.0) (runs ts)
unfolding runs
runs-heads P [] h = tt
runs-heads P (t ∷ ts) (h, hs) = joined-heads P t (runs ts) h (runs-heads P ts hs)

-- ---- the runs of a list in order

-- The partitions of the runs ascend, and each run has just the arrivals at its partition.
pub record AreRuns (ts : List Arrival) (rs : List Run) : Type 0 where
  pub ascending : Ascending (heads rs)
  pub exact : AllByRecursion (λ run. run.1 ≡ filter (is_at run.0) ts) rs

-- A run of another partition has nothing of t.
kept_run : (t : Arrival) (ts : List Arrival) (run : Run) → IsEarlier t.0 run.0 → run.1 ≡ filter (is_at run.0) ts →
    run.1 ≡ filter (is_at run.0) (t ∷ ts)
kept_run t ts run early is = is
    ∙ ap (λ o. cond (is_eq o) (t ∷ filter (is_at run.0) ts) (filter (is_at run.0) ts)) (sym early)

kept_runs : (t : Arrival) (ts : List Arrival) (rs : List Run) → AllByRecursion (λ run. IsEarlier t.0 run.0) rs →
    AllByRecursion (λ run. run.1 ≡ filter (is_at run.0) ts) rs →
    AllByRecursion (λ run. run.1 ≡ filter (is_at run.0) (t ∷ ts)) rs
kept_runs t ts rs early is =
    all_weaken (λ run. IsEarlier t.0 run.0 × (run.1 ≡ filter (is_at run.0) ts))
    (λ run. run.1 ≡ filter (is_at run.0) (t ∷ ts)) rs
    (λ run h. kept_run t ts run h.0 h.1)
    (all_both (λ run. IsEarlier t.0 run.0) (λ run. run.1 ≡ filter (is_at run.0) ts) rs early is)

taken : (t : Arrival) (nu : List ℕ) (ts : List Arrival) → t.0 ≡ nu →
    t ∷ filter (is_at nu) ts ≡ filter (is_at nu) (t ∷ ts)
taken t nu ts same =
    ap (λ o. cond (is_eq o) (t ∷ filter (is_at nu) ts) (filter (is_at nu) ts))
    (sym (subst (λ l. compare l nu ≡ Equal) (sym same) (equal_self nu)))

-- One more arrival, at the partition of the first run or before it; u is the first of the others.
one_more : (t u : Arrival) (ts : List Arrival) (run : Run) (rs : List Run) → InOrder (t ∷ u ∷ ts) → run.0 ≡ u.0 →
    AreRuns (u ∷ ts) (run ∷ rs) → AreRuns (t ∷ u ∷ ts) (joined t (run ∷ rs))
one_more t u ts run rs ((after, _), (later, _)) at h = by_order (compare t.0 run.0) refl
  where
    by_order : (o : Ordering) → compare t.0 run.0 ≡ o →
        AreRuns (t ∷ u ∷ ts) (cond (is_eq o) ((run.0, t ∷ run.1) ∷ rs) ((t.0, t ∷ []) ∷ run ∷ rs))
    by_order Equal is = record {
      ascending = h.ascending;
      exact = (
        ap (λ l. t ∷ l) h.exact.0 ∙ taken t run.0 (u ∷ ts) same,
        kept_runs t (u ∷ ts) rs
            (subst (λ l. AllByRecursion (λ run. IsEarlier l run.0) rs) (sym same)
            (map_all (IsEarlier run.0) (λ r. r.0) rs h.ascending.0)) h.exact.1,
      );
    }
      where
        same : t.0 ≡ run.0
        same = same_lists t.0 run.0 is
    by_order Less is = record {
      ascending = ((is, all_map (IsEarlier t.0) (λ r. r.0) rs early_others), h.ascending);
      exact = (
        ap (λ l. t ∷ l) (sym (not_at t.0 (u ∷ ts) (early_u, early_rest))) ∙ taken t t.0 (u ∷ ts) refl,
        kept_runs t (u ∷ ts) (run ∷ rs) (is, early_others) h.exact,
      );
    }
      where
        early_others : AllByRecursion (λ run. IsEarlier t.0 run.0) rs
        early_others =
            all_weaken (λ r. IsEarlier run.0 r.0) (λ r. IsEarlier t.0 r.0) rs (λ r e. less_trans t.0 run.0 r.0 is e)
            (map_all (IsEarlier run.0) (λ r. r.0) rs h.ascending.0)

        early_u : IsEarlier t.0 u.0
        early_u = subst (λ l. IsEarlier t.0 l) at is

        early_rest : AllByRecursion (λ v. IsEarlier t.0 v.0) ts
        early_rest = all_weaken (λ v. is_lt (compare v.0 u.0) ≡ false) (λ v. IsEarlier t.0 v.0) ts
            (λ v e. further v (same_or_later u.0 v.0 e)) later
          where
            further : (v : Arrival) → (u.0 ≡ v.0) ⊎ IsEarlier u.0 v.0 → IsEarlier t.0 v.0
            further v (inl same) = subst (λ l. IsEarlier t.0 l) same early_u
            further v (inr e) = less_trans t.0 u.0 v.0 early_u e
    by_order Greater is = absurd (clash (same_or_later t.0 u.0 after))
      where
        clash : (t.0 ≡ u.0) ⊎ IsEarlier t.0 u.0 → ⊥
        clash (inl same) = let k : Greater ≡ Equal = sym is
            ∙ subst (λ l. compare t.0 l ≡ Equal) (same ∙ sym at) (equal_self t.0) in cc
        clash (inr e) = let k : Greater ≡ Less = sym is ∙ subst (λ l. compare t.0 l ≡ Less) (sym at) e in cc

-- The runs of a list in order are this.
pub runs-are : (ts : List Arrival) → InOrder ts → AreRuns ts (runs ts)
unfolding runs
runs-are [] h = record { ascending = tt; exact = tt }
runs-are (t ∷ []) h = record { ascending = (tt, tt); exact = (taken t t.0 [] refl, tt) }
runs-are (t ∷ u ∷ ts) h =
    let b = runs-begin u ts in
    subst (λ rs. AreRuns (t ∷ u ∷ ts) (joined t rs)) (sym b.is)
    (one_more t u ts b.run b.others h b.at (subst (λ rs. AreRuns (u ∷ ts) rs) b.is (runs-are (u ∷ ts) h.1)))

-- ---- a partition has a run, or no arrival

joined-occurs : (nu : List ℕ) (t : Arrival) (rs : List Run) → Occurs nu (heads rs) → Occurs nu (heads (joined t rs))
joined-occurs nu t [] h = absurd h
joined-occurs nu t (run ∷ rs) h =
    elim (is_eq (compare t.0 run.0)) as (λ b. Occurs nu
    (heads (cond b ((run.0, t ∷ run.1) ∷ rs) ((t.0, t ∷ []) ∷ run ∷ rs)))) [
      | true ↦ h
      | false ↦ inr h
    ]

-- A partition has a run, or no arrival.
pub has_run : (nu : List ℕ) (ts : List Arrival) → Occurs nu (heads (runs ts)) ⊎ (filter (is_at nu) ts ≡ [])
unfolding runs
has_run nu [] = inr refl
has_run nu (t ∷ ts) = by_order (compare t.0 nu) refl (has_run nu ts)
  where
    further : Occurs nu (heads (runs ts)) ⊎ (filter (is_at nu) ts ≡ []) →
        Occurs nu (heads (joined t (runs ts))) ⊎ (filter (is_at nu) ts ≡ [])
    further (inl h) = inl (joined-occurs nu t (runs ts) h)
    further (inr h) = inr h

    by_order : (o : Ordering) → compare t.0 nu ≡ o → Occurs nu (heads (runs ts)) ⊎ (filter (is_at nu) ts ≡ []) →
        Occurs nu (heads (joined t (runs ts))) ⊎ (cond (is_eq o) (t ∷ filter (is_at nu) ts) (filter (is_at nu) ts) ≡ [])
    by_order Less is h = further h
    by_order Greater is h = further h
    by_order Equal is h =
        let b = joined-begins t (runs ts) in
        inl (subst (λ rs. Occurs nu (heads rs)) (sym b.is) (inl (sym (same_lists t.0 nu is) ∙ sym b.at)))
