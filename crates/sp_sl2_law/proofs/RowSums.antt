-- A sum over the partitions of a list that pass a test, as a sum over the rows that lead to them.
use Rattle.std.proofs.Common.{◌≡◌, ◌≢◌, ℕ, ◌≤◌, Bool, true, false, cond, ◌&&◌, List, refl, sym}
use Rattle.std.proofs.Common.{◌∙◌, ap, ap₂, subst, arith, ℤ, pos, Equal, true≢false}
use Rattle.std.specs.Ordering.{is_eq}
use Rattle.sp_defs.specs.Partition.{compare, Ascending, from_one_to}
use Rattle.sp_lists.proofs.Elements.{range_all, all_every}
use Rattle.sp_lists.proofs.Occurrence.{Occurs, all_occur}
use Rattle.sp_lists.proofs.Places.{all_weaken}
use Rattle.sp_shapes.proofs.Order.{differ, equal_self}
use Rattle.sp_sl2_law.proofs.Totals.{total, total-alike, total-zeros, total-swap, total-range_one, total-ascending_one}

-- Of the rows 1 to n, those that are on lead to just the members of an ascending list that pass the test, each to one.
module _ (xs : List (List ℕ)) (up : Ascending xs) (n : ℕ) (test : List ℕ → Bool) (on : ℕ → Bool) (to : ℕ → List ℕ)
    (there : (r : ℕ) → 1 ≤ r → r ≤ n → on r ≡ true → Occurs (to r) xs × (test (to r) ≡ true))
    (some : (x : List ℕ) → Occurs x xs → test x ≡ true → (r : ℕ) × (1 ≤ r) × (r ≤ n) × (on r ≡ true) × (to r ≡ x))
    (apart : (r s : ℕ) → 1 ≤ r → 1 ≤ s → on r ≡ true → on s ≡ true → to r ≡ to s → r ≡ s)
    (f : List ℕ → ℤ) where
  hit : List ℕ → ℕ → ℤ
  hit x r = cond (on r && is_eq (compare (to r) x)) (f x) (pos 0)

  column : (x : List ℕ) → Occurs x xs →
      cond (test x) (f x) (pos 0) ≡ total (from_one_to n) (hit x)
  unfolding hit
  column x o = by_test (test x) refl
    where
      off : (r : ℕ) → (b : Bool) → on r ≡ b → (b ≡ true → to r ≢ x) → hit x r ≡ pos 0
      off r false is h = ap (λ b. cond (b && is_eq (compare (to r) x)) (f x) (pos 0)) is
      off r true is h = ap₂ (λ b c. cond (b && c) (f x) (pos 0)) is (differ (to r) x (h refl))

      at_one : (r : ℕ) → on r ≡ true → to r ≡ x → hit x r ≡ f x
      at_one r is same = ap₂ (λ b c. cond (b && is_eq c) (f x) (pos 0)) is
          (subst (λ y. compare (to r) y ≡ Equal) same (equal_self (to r)))

      by_test : (b : Bool) → test x ≡ b → cond b (f x) (pos 0) ≡ total (from_one_to n) (hit x)
      by_test true is =
          let s = some x o is in
          sym (total-range_one (hit x) s.0 1 n s.1 (omega (arith, s.2))
          (λ r lo hi ne. off r (on r) refl (λ yes same. ne (apart r s.0 lo s.1 yes s.3 (same ∙ sym s.4))))
          ∙ at_one s.0 s.3 s.4)
      by_test false is =
          sym (total-zeros (from_one_to n) (hit x)
          (range_all (λ r. hit x r ≡ pos 0) 1 n
          (λ r lo hi. off r (on r) refl
          (λ yes same. true≢false (sym (there r lo (omega arith) yes).1 ∙ ap test same ∙ is)))))

  row : (r : ℕ) → 1 ≤ r → r ≤ n → total xs (λ x. hit x r) ≡ cond (on r) (f (to r)) (pos 0)
  unfolding hit
  row r lo hi = by_on (on r) refl
    where
      by_on : (b : Bool) → on r ≡ b → total xs (λ x. cond (on r && is_eq (compare (to r) x)) (f x) (pos 0)) ≡ cond b
          (f (to r)) (pos 0)
      by_on false is = total-zeros xs (λ x. cond (on r && is_eq (compare (to r) x)) (f x) (pos 0))
          (all_every (λ x. cond (on r && is_eq (compare (to r) x)) (f x) (pos 0) ≡ pos 0) xs
          (λ x. ap (λ b. cond (b && is_eq (compare (to r) x)) (f x) (pos 0)) is))
      by_on true is =
          total-ascending_one (λ x. cond (on r && is_eq (compare (to r) x)) (f x) (pos 0)) (to r) xs up
          (there r lo hi is).0
          (λ x ne. ap₂ (λ b c. cond (b && c) (f x) (pos 0)) is (differ (to r) x (λ e. ne (sym e))))
          ∙ ap₂ (λ b c. cond (b && is_eq c) (f (to r)) (pos 0)) is (equal_self (to r))

  -- So the sum over those that pass the test is the sum over the rows that are on.
  pub sum_by_rows : total xs (λ x. cond (test x) (f x) (pos 0)) ≡ total (from_one_to n)
      (λ r. cond (on r) (f (to r)) (pos 0))
  sum_by_rows =
      total-alike xs (λ x. cond (test x) (f x) (pos 0)) (λ x. total (from_one_to n) (hit x))
      (all_weaken (λ x. Occurs x xs) (λ x. cond (test x) (f x) (pos 0) ≡ total (from_one_to n) (hit x)) xs
      (λ x o. column x o) (all_occur xs))
      ∙ total-swap xs (from_one_to n) hit
      ∙ total-alike (from_one_to n) (λ r. total xs (λ x. hit x r)) (λ r. cond (on r) (f (to r)) (pos 0))
      (range_all (λ r. total xs (λ x. hit x r) ≡ cond (on r) (f (to r)) (pos 0)) 1 n
      (λ r lo hi. row r lo (omega arith)))
