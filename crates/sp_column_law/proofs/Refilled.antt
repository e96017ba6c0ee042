-- A list of factors that aren't 0, filled up with zeros over a list of partitions, and without its zeros again.
use Rattle.std.proofs.Common.{◌≡◌, ℕ, Bool, true, false, cond, List, [], ◌∷◌, map, filter, reverse, refl, sym, ◌∙◌}
use Rattle.std.proofs.Common.{ap, true≢false, Ordering, Less, Equal, Greater}
use Rattle.std.specs.List.{AllByRecursion}
use Rattle.std.specs.Ordering.{is_eq}
use Rattle.std.proofs.lemmas.List.{reverse-append}
use Rattle.sp_defs.specs.Partition.{compare}
use Rattle.sp_defs.specs.Laurent.{Laurent, plus}
use Rattle.sp_defs.specs.Power.{Vector, Entries, vector_of}
use Rattle.sp_defs.specs.Row.{Factors, combination}
use Rattle.sp_shapes.proofs.Order.{same_lists}
use Rattle.sp_fock_law.specs.Joined.{is_nonzero}
use Rattle.sp_fock_law.proofs.Vectors.{entries_at, vector_of-other}
use Rattle.sp_algebra.proofs.Laws.{plus_comm}
use Rattle.sp_triangle.proofs.Triangle.{combination-append}

-- partitions at which the vector is 0 can be left out of the list
pub entries_at-filter : (t : List ℕ → Bool) (xs : List (List ℕ)) (w : Vector) →
    ((x : List ℕ) → t x ≡ false → w x ≡ []) → entries_at (filter t xs) w ≡ entries_at xs w
entries_at-filter t [] w h = refl
entries_at-filter t (x ∷ xs) w h = tested (t x) refl (entries_at-filter t xs w h)
  where
    tested : (b : Bool) → t x ≡ b → entries_at (filter t xs) w ≡ entries_at xs w →
        entries_at (cond b (x ∷ filter t xs) (filter t xs)) w ≡ entries_at (x ∷ xs) w
    tested true e ih = ap (λ r. cond (is_nonzero (w x)) ((x, w x) ∷ r) r) ih
    tested false e ih =
        ih ∙ sym (ap (λ p. cond (is_nonzero p) ((x, p) ∷ entries_at xs w) (entries_at xs w)) (h x e))

-- where all entries pass a test, the vector is 0 at a partition that doesn't
pub vector_of-outside : (t : List ℕ → Bool) (fs : Entries) (x : List ℕ) → AllByRecursion (λ f. t f.0 ≡ true) fs →
    t x ≡ false → vector_of fs x ≡ []
unfolding vector_of
vector_of-outside t [] x h e = refl
vector_of-outside t ((kappa, p) ∷ fs) x (h, hs) e =
    vector_of-other kappa x p fs (differs (compare kappa x) refl) ∙ vector_of-outside t fs x hs e
  where
    differs : (o : Ordering) → compare kappa x ≡ o → is_eq (compare kappa x) ≡ false
    differs Less is = ap is_eq is
    differs Greater is = ap is_eq is
    differs Equal is = absurd (true≢false (sym h ∙ ap t (same_lists kappa x is) ∙ e))

-- the factors of a vector at each partition of a list
abbrev pub filled : List (List ℕ) → Vector → Factors
filled xs w = map (λ x. (x, w x)) xs

-- their partitions are the list
pub keys-filled : (xs : List (List ℕ)) (w : Vector) → map (λ f. f.0) (filled xs w) ≡ xs
keys-filled [] w = refl
keys-filled (x ∷ xs) w = ap (λ r. x ∷ r) (keys-filled xs w)

-- what holds of the vector everywhere holds of each factor
pub filled-all : (P : Laurent → Type 0) (xs : List (List ℕ)) (w : Vector) → ((x : List ℕ) → P (w x)) →
    AllByRecursion (λ f. P f.1) (filled xs w)
filled-all P [] w h = tt
filled-all P (x ∷ xs) w h = (h x, filled-all P xs w h)

-- the order of the factors doesn't matter
pub combination-reverse : (A : List ℕ → Vector) (fs : Factors) (lambda : List ℕ) →
    combination A (reverse fs) lambda ≡ combination A fs lambda
combination-reverse A [] lambda = refl
combination-reverse A (f ∷ fs) lambda =
    ap (λ gs. combination A gs lambda) (reverse-append (f ∷ []) fs)
    ∙ combination-append A (reverse fs) (f ∷ []) lambda
    ∙ ap (λ p. plus p (combination A (f ∷ []) lambda)) (combination-reverse A fs lambda)
    ∙ plus_comm (combination A fs lambda) (combination A (f ∷ []) lambda)
    ∙ sym (combination-append A (f ∷ []) fs lambda)
