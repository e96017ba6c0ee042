-- Numbers that descend strictly are their set, and so the beads on their runners.
use Rattle.std.proofs.Common.{◌≡◌, ◌≢◌, ℕ, zero, suc, ◌+◌, ◌*◌, ◌/◌, ◌%◌, ◌<◌, ◌≤◌, Bool, true, false, cond, nat_eq}
use Rattle.std.proofs.Common.{◌||◌, List, [], ◌∷◌, filter, refl, sym, ◌∙◌, ap, ap₂, subst, arith}
use Rattle.std.proofs.Common.{◌⊎◌, inl, inr, eq-eqb, eq-or-lt_of_le}
use Rattle.std.specs.List.{AllByRecursion}
use Rattle.std.proofs.lemmas.List.Elements.{filter_agree}
use Rattle.std.proofs.lemmas.Bool.Decides.{eqb_tells}
use native.Mathlib.Nat.{div-add-mod, mod-lt}
use Rattle.sp_defs.specs.Abacus.{runner}
use Rattle.sp_lists.proofs.Elements.{filter_alike}
use Rattle.sp_lists.proofs.Places.{all_weaken}
use Rattle.sp_abacus_law.specs.Beads.{down, Falls}
use Rattle.sp_abacus_law.specs.Combined.{member, placed}
use Rattle.sp_abacus_law.proofs.Falling.{down-below, falls-filter, down-falls}
use Rattle.std.proofs.Common.{ne_eqb}
use Rattle.sp_abacus_law.proofs.Runners.{runner-cons, runner-down}
use Rattle.sp_abacus_law.proofs.Runners.{runner-kept}

-- A number past all of a list is not in it.
pub not_member : (n : ℕ) (xs : List ℕ) → AllByRecursion (λ c. c < n) xs → member n xs ≡ false
not_member n [] h = refl
not_member n (x ∷ xs) (h, hs) = ap₂ (λ v w. v || w) (ne_eqb x n (λ same. omega arith)) (not_member n xs hs)

-- The numbers below n that are in the list, again.
pub filter-member : (n : ℕ) (bs : List ℕ) → Falls bs → AllByRecursion (λ c. c < n) bs →
    filter (λ c. member c bs) (down n) ≡ bs
filter-member zero [] f h = refl
filter-member zero (b ∷ bs) f (h, hs) = absurd (omega arith)
filter-member (suc n) [] f h = filter-member n [] f tt
filter-member (suc n) (b ∷ bs) (low, f) (h, hs) =
    settle (eq-or-lt_of_le (within h)) (filter-member n bs f) (filter-member n (b ∷ bs) (low, f))
  where
    within : b < suc n → b ≤ n
    within k = omega arith

    kept : Bool → List ℕ
    kept v = cond v (n ∷ filter (λ c. member c (b ∷ bs)) (down n)) (filter (λ c. member c (b ∷ bs)) (down n))

    settle : (b ≡ n) ⊎ (b < n) → (AllByRecursion (λ c. c < n) bs → filter (λ c. member c bs) (down n) ≡ bs) →
        (AllByRecursion (λ c. c < n) (b ∷ bs) → filter (λ c. member c (b ∷ bs)) (down n) ≡ b ∷ bs) →
        cond (member n (b ∷ bs)) (n ∷ filter (λ c. member c (b ∷ bs)) (down n))
        (filter (λ c. member c (b ∷ bs)) (down n)) ≡ b ∷ bs
    settle (inl e) rest _ =
        ap (λ v. cond (v || member n bs) (n ∷ filter (λ c. member c (b ∷ bs)) (down n))
        (filter (λ c. member c (b ∷ bs)) (down n))) (eq-eqb b n e)
        ∙ ap₂ (λ x xs. x ∷ xs) (sym e)
        (filter_alike (λ c. member c (b ∷ bs)) (λ c. member c bs) (down n)
        (others (down n) (down-below n n (omega arith)))
        ∙ rest (subst (λ m. AllByRecursion (λ c. c < m) bs) e low))
      where
        others : (cs : List ℕ) → AllByRecursion (λ c. c < n) cs →
            AllByRecursion (λ c. member c (b ∷ bs) ≡ member c bs) cs
        others [] h = tt
        others (c ∷ cs) (h, hs) = (ap (λ v. v || member c bs) (ne_eqb b c (λ same. omega arith)), others cs hs)
    settle (inr lt) _ more =
        ap (λ v. cond v (n ∷ filter (λ c. member c (b ∷ bs)) (down n)) (filter (λ c. member c (b ∷ bs)) (down n)))
        (not_member n (b ∷ bs) (lt, below))
        ∙ more (lt, below)
      where
        below : AllByRecursion (λ c. c < n) bs
        below = all_weaken (λ c. c < b) (λ c. c < n) bs (λ c k. omega arith) low

-- ---- membership by runners

same_number : (e b c : ℕ) → c % e ≡ b % e → nat_eq (c / e) (b / e) ≡ nat_eq c b
same_number e b c rest = told (eqb_tells c b)
  where
    told : ((nat_eq c b ≡ true) × (c ≡ b)) ⊎ ((nat_eq c b ≡ false) × (c ≢ b)) → nat_eq (c / e) (b / e) ≡ nat_eq c b
    told (inl (t, same)) = eq-eqb (c / e) (b / e) (ap (λ n. n / e) same) ∙ sym t
    told (inr (t, other)) = apart (eqb_tells (c / e) (b / e))
      where
        joined : c / e ≡ b / e → c ≡ b
        joined p = sym (div-add-mod c e) ∙ ap₂ (λ q r. e * q + r) p rest ∙ div-add-mod b e

        apart : ((nat_eq (c / e) (b / e) ≡ true) × (c / e ≡ b / e))
            ⊎ ((nat_eq (c / e) (b / e) ≡ false) × (c / e ≢ b / e)) → nat_eq (c / e) (b / e) ≡ nat_eq c b
        apart (inl (_, p)) = absurd (other (joined p))
        apart (inr (u, _)) = u ∙ sym t

member-runner : (e b : ℕ) (bs : List ℕ) → member (b / e) (runner e bs (b % e)) ≡ member b bs
member-runner e b [] = refl
member-runner e b (c ∷ bs) =
    ap (member (b / e)) (runner-cons e c bs (b % e))
    ∙ told (eqb_tells (c % e) (b % e)) (member-runner e b bs)
  where
    told : ((nat_eq (c % e) (b % e) ≡ true) × (c % e ≡ b % e)) ⊎ ((nat_eq (c % e) (b % e) ≡ false) × (c % e ≢ b % e)) →
        member (b / e) (runner e bs (b % e)) ≡ member b bs →
        member (b / e) (cond (nat_eq (c % e) (b % e)) ((c / e) ∷ runner e bs (b % e)) (runner e bs (b % e)))
        ≡ (nat_eq c b || member b bs)
    told (inl (t, same)) rest =
        ap (λ v. member (b / e) (cond v ((c / e) ∷ runner e bs (b % e)) (runner e bs (b % e)))) t
        ∙ ap₂ (λ v w. v || w) (same_number e b c same) rest
    told (inr (t, other)) rest =
        ap (λ v. member (b / e) (cond v ((c / e) ∷ runner e bs (b % e)) (runner e bs (b % e)))) t
        ∙ rest
        ∙ ap (λ v. v || member b bs) (sym (differ (eqb_tells c b)))
      where
        differ : ((nat_eq c b ≡ true) × (c ≡ b)) ⊎ ((nat_eq c b ≡ false) × (c ≢ b)) → nat_eq c b ≡ false
        differ (inl (_, same)) = absurd (other (ap (λ n. n % e) same))
        differ (inr (u, _)) = u

-- The beads placed by their own runners.
placed-runners : (e n : ℕ) (bs : List ℕ) → Falls bs → AllByRecursion (λ c. c < n) bs →
    placed e (runner e bs) n ≡ bs
placed-runners e n bs f h =
    filter_agree (λ b. member (b / e) (runner e bs (b % e))) (λ b. member b bs) (λ b. member-runner e b bs) (down n)
    ∙ filter-member n bs f h

top : (bs : List ℕ) → Falls bs → (n : ℕ) × AllByRecursion (λ c. c < n) bs
top [] f = (0, tt)
top (b ∷ bs) (low, f) = (suc b, (omega arith, all_weaken (λ c. c < b) (λ c. c < suc b) bs (λ c lt. omega arith) low))

-- Numbers with one list of runners are one.
pub same-runners : (e : ℕ) (xs ys : List ℕ) → 1 ≤ e → Falls xs → Falls ys →
    ((i : ℕ) → i < e → runner e xs i ≡ runner e ys i) → xs ≡ ys
same-runners e xs ys he fx fy same = both (top xs fx) (top ys fy)
  where
    both : (n : ℕ) × AllByRecursion (λ c. c < n) xs → (n : ℕ) × AllByRecursion (λ c. c < n) ys → xs ≡ ys
    both (m, hx) (n, hy) =
        sym (placed-runners e (m + n) xs fx (all_weaken (λ c. c < m) (λ c. c < m + n) xs (λ c lt. omega arith) hx))
        ∙ filter_agree (λ b. member (b / e) (runner e xs (b % e))) (λ b. member (b / e) (runner e ys (b % e)))
        (λ b. ap (member (b / e)) (same (b % e) (mod-lt b he))) (down (m + n))
        ∙ placed-runners e (m + n) ys fy (all_weaken (λ c. c < n) (λ c. c < m + n) ys (λ c lt. omega arith) hy)

-- ---- beads placed on runners

-- A runner has the beads that were placed on it.
pub runner-placed : (e n i : ℕ) (places : ℕ → List ℕ) → i < e → Falls (places i) →
    AllByRecursion (λ p. p < n) (places i) → runner e (placed e places (n * e)) i ≡ places i
runner-placed e n i places hi f h =
    runner-kept e i (λ p j. member p (places j)) (down (n * e))
    ∙ ap (filter (λ p. member p (places i))) (runner-down e i n hi)
    ∙ filter-member n (places i) f h

-- The numbers placed fall.
pub placed-falls : (e n : ℕ) (places : ℕ → List ℕ) → Falls (placed e places n)
placed-falls e n places = falls-filter (λ b. member (b / e) (places (b % e))) (down n) (down-falls n)
