-- A sum over the partitions of a list that pass a test, where all terms but one are 0.
use Rattle.std.proofs.Common.{◌≡◌, ◌≢◌, ℕ, Bool, true, false, cond, List, [], ◌∷◌, filter, refl, sym, ◌∙◌, ap, ap₂}
use Rattle.std.proofs.Common.{subst, inl, inr, Less, Equal}
use Rattle.std.specs.List.{AllByRecursion}
use Rattle.sp_defs.specs.Partition.{compare, Ascending}
use Rattle.sp_defs.specs.Laurent.{Laurent, plus, collect, sum_over, IsLaurent}
use Rattle.sp_algebra.proofs.Laws.{nought_plus, plus_nought}
use Rattle.sp_algebra.proofs.Sums.{IsLaurent-sum_over}
use Rattle.sp_shapes.proofs.Order.{equal_self}
use Rattle.sp_shapes.proofs.Listing.{Occurs, at_occurs}

-- an earlier partition is another one
earlier_other : (x y : List ℕ) → compare x y ≡ Less → x ≢ y
earlier_other x y l same =
    let v : Less ≡ Equal = sym l ∙ subst (λ z. compare x z ≡ Equal) same (equal_self x) in cc

-- each term is 0, for a list of partitions later than x0
zero_terms : (t : List ℕ → Bool) (P : List ℕ → Type 0) (f : List ℕ → Laurent) (x0 : List ℕ) (xs : List (List ℕ)) →
    AllByRecursion P xs → AllByRecursion (λ x. compare x0 x ≡ Less) xs →
    ((x : List ℕ) → P x → t x ≡ true → x ≢ x0 → f x ≡ []) → sum_over (filter t xs) f ≡ []
unfolding sum_over collect
zero_terms t P f x0 [] ps lt z = refl
zero_terms t P f x0 (x ∷ xs) (p, ps) (l, ls) z = tested (t x) refl (zero_terms t P f x0 xs ps ls z)
  where
    tested : (b : Bool) → t x ≡ b → sum_over (filter t xs) f ≡ [] →
        sum_over (cond b (x ∷ filter t xs) (filter t xs)) f ≡ []
    tested true e ih =
        ap₂ (λ a b. plus a b) (z x p e (λ same. earlier_other x0 x l (sym same))) ih ∙ nought_plus [] refl
    tested false e ih = ih

-- the sum is the term at x0
pub one_term : (t : List ℕ → Bool) (P : List ℕ → Type 0) (f : List ℕ → Laurent) (x0 : List ℕ) (xs : List (List ℕ)) →
    Ascending xs → Occurs x0 xs → AllByRecursion P xs → ((x : List ℕ) → P x → t x ≡ true → x ≢ x0 → f x ≡ []) →
    t x0 ≡ true → IsLaurent (f x0) → sum_over (filter t xs) f ≡ f x0
unfolding sum_over
one_term t P f x0 [] up o ps z tx l = absurd o
one_term t P f x0 (y ∷ xs) (u, us) (inl e) (p, ps) z tx l =
    ap (λ b. sum_over (cond b (y ∷ filter t xs) (filter t xs)) f) (ap t (sym e) ∙ tx)
    ∙ ap₂ (λ a b. plus a b) (ap f (sym e)) (zero_terms t P f x0 xs ps later z)
    ∙ plus_nought (f x0) l
  where
    later : AllByRecursion (λ x. compare x0 x ≡ Less) xs
    later = subst (λ w. AllByRecursion (λ x. compare w x ≡ Less) xs) (sym e) u
one_term t P f x0 (y ∷ xs) (u, us) (inr o) (p, ps) z tx l = tested (t y) refl (one_term t P f x0 xs us o ps z tx l)
  where
    other : y ≢ x0
    other = earlier_other y x0 (at_occurs (λ x. compare y x ≡ Less) x0 xs o u)

    tested : (b : Bool) → t y ≡ b → sum_over (filter t xs) f ≡ f x0 →
        sum_over (cond b (y ∷ filter t xs) (filter t xs)) f ≡ f x0
    tested true e ih =
        ap (λ a. plus a (sum_over (filter t xs) f)) (z y p e other)
        ∙ nought_plus (sum_over (filter t xs) f) (IsLaurent-sum_over (filter t xs) f)
        ∙ ih
    tested false e ih = ih
