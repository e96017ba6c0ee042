-- Lists of factors: those that aren't 0, their ranks, and the sizes of what they make.
use Rattle.std.proofs.Common.{◌≡◌, ℕ, ◌*◌, ◌<◌, ◌≤◌, Bool, true, false, cond, List, [], ◌∷◌, ◌++◌, map, filter, reverse}
use Rattle.std.proofs.Common.{refl, sym, ◌∙◌, ap, ap₂, subst, arith, sum_by}
use Rattle.std.specs.List.{AllByRecursion}
use Rattle.std.proofs.lemmas.List.{reverse-append, map-append}
use Rattle.std.proofs.lemmas.List.Sums.{sum_by-cons}
use Rattle.sp_defs.specs.Partition.{IsEarlier, Ascending, IsRegularOf}
use Rattle.sp_defs.specs.Laurent.{Laurent, times, sum_over, size}
use Rattle.sp_defs.specs.Power.{Vector}
use Rattle.sp_defs.specs.Row.{Factors, combination}
use Rattle.sp_lists.proofs.Elements.{all_append, all_both, all_filter, all_map, map_all, all_reverse}
use Rattle.sp_lists.proofs.Places.{all_weaken}
use Rattle.sp_algebra.proofs.Sizes.{size_plus, size_times}
use Rattle.sp_core.specs.declared.piece.Key.{Key}
use Rattle.sp_llt.specs.declared.share.Share.{Share}
use Rattle.sp_llt.specs.Place.{label}
use Rattle.sp_llt.specs.Shares.{rank_of, ranked_share}
use Rattle.sp_llt.specs.Adopting.{Falling, factors_at}
use Rattle.sp_cert.proofs.Ranking.{rank_lower}

-- ---- lists of factors

-- factors at ascending partitions ascend where some are left out
pub kept_ascending : (t : List ℕ × Laurent → Bool) (fs : Factors) → Ascending (map (λ a. a.0) fs) →
    Ascending (map (λ a. a.0) (filter t fs))
kept_ascending t [] h = tt
kept_ascending t (a ∷ fs) (h, hs) = tested (t a) (kept_ascending t fs hs)
  where
    later : AllByRecursion (IsEarlier a.0) (map (λ b. b.0) (filter t fs))
    later =
        all_map (IsEarlier a.0) (λ b. b.0) (filter t fs)
        (all_filter (λ b. IsEarlier a.0 b.0) t fs
        (all_weaken (λ b. IsEarlier a.0 b.0) (λ b. t b ≡ true → IsEarlier a.0 b.0) fs (λ b k _. k)
        (map_all (IsEarlier a.0) (λ b. b.0) fs h)))

    tested : (b : Bool) → Ascending (map (λ b. b.0) (filter t fs)) →
        Ascending (map (λ b. b.0) (cond b (a ∷ filter t fs) (filter t fs)))
    tested true rest = (later, rest)
    tested false rest = rest

-- one more number at the end, less than all others
falling_last : (xs : List ℕ) (x : ℕ) → Falling xs → AllByRecursion (λ k. x < k) xs → Falling (xs ++ (x ∷ []))
falling_last [] x h k = (tt, tt)
falling_last (y ∷ ys) x (h, hs) (k, ks) = (all_append (λ j. j < y) ys (x ∷ []) h (k, tt), falling_last ys x hs ks)

-- the ranks of ascending partitions, from the last one down, fall
pub falling_ranks : (e n : ℕ) (fs : Factors) → Ascending (map (λ a. a.0) fs) →
    AllByRecursion (λ a. IsRegularOf e n a.0) fs →
    Falling (map (λ s. s.rank) (reverse (map (ranked_share e) fs)))
falling_ranks e n [] h g = tt
falling_ranks e n (a ∷ fs) (h, hs) (g, gs) =
    subst Falling (sym last)
    (falling_last (map (λ s. s.rank) (reverse (map (ranked_share e) fs))) (rank_of e a.0) (falling_ranks e n fs hs gs)
    (all_map (λ k. rank_of e a.0 < k) (λ s. s.rank) (reverse (map (ranked_share e) fs))
    (all_reverse (λ s. rank_of e a.0 < s.rank) (map (ranked_share e) fs)
    (all_map (λ s. rank_of e a.0 < s.rank) (ranked_share e) fs
    (all_weaken (λ b. IsEarlier a.0 b.0 × IsRegularOf e n b.0) (λ b. rank_of e a.0 < rank_of e b.0) fs
    (λ b k. rank_lower e n a.0 b.0 g k.1 k.0)
    (all_both (λ b. IsEarlier a.0 b.0) (λ b. IsRegularOf e n b.0) fs (map_all (IsEarlier a.0) (λ b. b.0) fs h) gs))))))
  where
    last : map (λ s. s.rank) (reverse (map (ranked_share e) (a ∷ fs)))
        ≡ map (λ s. s.rank) (reverse (map (ranked_share e) fs)) ++ (rank_of e a.0 ∷ [])
    last =
        ap (map (λ (s : Share). s.rank)) (reverse-append (ranked_share e a ∷ []) (map (ranked_share e) fs))
        ∙ map-append (λ (s : Share). s.rank) (reverse (map (ranked_share e) fs)) (ranked_share e a ∷ [])

-- the factors of shares are the factors that they are the ranks of, from the last one down
pub factors_back : (key : Key) (fs : Factors) → AllByRecursion (λ a. label key (rank_of key.e a.0) ≡ a.0) fs →
    factors_at key (reverse (map (ranked_share key.e) fs)) ≡ reverse fs
factors_back key [] h = refl
factors_back key (a ∷ fs) (h, hs) =
    ap (factors_at key) (reverse-append (ranked_share key.e a ∷ []) (map (ranked_share key.e) fs))
    ∙ map-append (λ (s : Share). (label key s.rank, s.alpha)) (reverse (map (ranked_share key.e) fs))
    (ranked_share key.e a ∷ [])
    ∙ ap₂ (λ xs m. xs ++ ((m, a.1) ∷ [])) (factors_back key fs hs) h
    ∙ sym (reverse-append (a ∷ []) fs)

-- ---- sizes

-- the size of a sum of products is at most the sum of the products of their sizes
pub combination_size : (A : List ℕ → Vector) (fs : Factors) (lambda : List ℕ) →
    size (combination A fs lambda) ≤ sum_by (λ a. size a.1 * size (A a.0 lambda)) fs
unfolding combination sum_over
combination_size A [] lambda = omega arith
combination_size A (f ∷ fs) lambda =
    omega (
      arith,
      size_plus (times f.1 (A f.0 lambda)) (sum_over fs (λ g. times g.1 (A g.0 lambda))),
      size_times f.1 (A f.0 lambda),
      combination_size A fs lambda,
      sum_by-cons (λ a. size a.1 * size (A a.0 lambda)) f fs,
    )

-- each number of a list is at most their sum
pub terms_within : {X : Type 0} (f : X → ℕ) (xs : List X) (most : ℕ) → sum_by f xs ≤ most →
    AllByRecursion (λ x. f x ≤ most) xs
terms_within f [] most h = tt
terms_within f (x ∷ xs) most h =
    (omega (arith, sum_by-cons f x xs, h), terms_within f xs most (omega (arith, sum_by-cons f x xs, h)))
