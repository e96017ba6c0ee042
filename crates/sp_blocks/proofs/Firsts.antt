-- The places whose core no earlier place has: each core of a place is that of one of them, and their cores differ.
use Rattle.std.proofs.Common.{◌≡◌, ◌≢◌, ℕ, zero, suc, ◌+◌, Bool, true, false, cond, not, ◌||◌, List, [], ◌∷◌, ◌++◌}
use Rattle.std.proofs.Common.{filter, refl, sym, ◌∙◌, ap, subst, arith, inl, inr}
use Rattle.std.specs.List.{AllByRecursion, list_any, range_with_len}
use Rattle.std.proofs.lemmas.List.Folds.{list_any-append}
use Rattle.std.proofs.lemmas.List.{append-nil}
use Rattle.sp_lists.proofs.Elements.{filter_append, range_snoc}
use Rattle.sp_blocks.specs.Blocks.{has_core, is_first}
use Rattle.sp_blocks.proofs.Same.{Told, tells}

plain : (n : ℕ) → 0 + n ≡ n
plain n = omega arith

-- One place more.
pub range_more : (n : ℕ) → range_with_len 0 (suc n) ≡ range_with_len 0 n ++ n ∷ []
range_more n = range_snoc 0 n ∙ ap (λ m. range_with_len 0 n ++ m ∷ []) (plain n)

-- What one place more adds to those that pass a test.
pub kept_more : (t : ℕ → Bool) (n : ℕ) →
    filter t (range_with_len 0 (suc n)) ≡ filter t (range_with_len 0 n) ++ cond (t n) (n ∷ []) []
kept_more t n = ap (filter t) (range_more n) ∙ filter_append t (range_with_len 0 n) (n ∷ [])

any_one : (t : ℕ → Bool) (n : ℕ) → list_any t (n ∷ []) ≡ t n
any_one t n = settle (t n)
  where
    settle : (v : Bool) → (v || false) ≡ v
    settle true = refl
    settle false = refl

-- Whether one of one place more passes.
pub any_more : (t : ℕ → Bool) (n : ℕ) →
    list_any t (range_with_len 0 (suc n)) ≡ (list_any t (range_with_len 0 n) || t n)
any_more t n =
    ap (list_any t) (range_more n)
    ∙ list_any-append t (range_with_len 0 n) (n ∷ [])
    ∙ ap (λ v. list_any t (range_with_len 0 n) || v) (any_one t n)

module _ (core_of : ℕ → List ℕ) where
  -- The places below n whose core no earlier place has.
  abbrev pub firsts : ℕ → List ℕ
  firsts n = filter (is_first core_of) (range_with_len 0 n)

  -- Each core of a place below n is that of one of them.
  pub any_firsts : (n : ℕ) (kappa : List ℕ) →
      list_any (has_core core_of kappa) (firsts n) ≡ list_any (has_core core_of kappa) (range_with_len 0 n)
  any_firsts zero kappa = refl
  any_firsts (suc n) kappa =
      ap (list_any test) (kept_more (is_first core_of) n)
      ∙ list_any-append test (firsts n) (cond (is_first core_of n) (n ∷ []) [])
      ∙ ap (λ v. v || list_any test (cond (is_first core_of n) (n ∷ []) [])) (any_firsts n kappa)
      ∙ told (tells (core_of n) kappa)
      ∙ sym (any_more test n)
    where
      test : ℕ → Bool
      test = has_core core_of kappa

      none : (first : Bool) → test n ≡ false → list_any test (cond first (n ∷ []) []) ≡ false
      none true t = any_one test n ∙ t
      none false t = refl

      either : (a : Bool) → test n ≡ true → (a || list_any test (cond (not a) (n ∷ []) [])) ≡ (a || test n)
      either true t = refl
      either false t = any_one test n

      told : Told (core_of n) kappa →
          (list_any test (range_with_len 0 n) || list_any test (cond (is_first core_of n) (n ∷ []) []))
          ≡ (list_any test (range_with_len 0 n) || test n)
      told (inr (t, _)) =
          ap (λ v. list_any test (range_with_len 0 n) || v) (none (is_first core_of n) t ∙ sym t)
      told (inl (t, same)) =
          ap (λ x.
          list_any test (range_with_len 0 n)
          || list_any test (cond (not (list_any (has_core core_of x) (range_with_len 0 n))) (n ∷ []) [])) same
          ∙ either (list_any test (range_with_len 0 n)) t

  -- No two of these places have one core.
  abbrev pub Apart : List ℕ → Type 0
  Apart [] = Unit {0}
  Apart (k ∷ ks) = AllByRecursion (λ j. core_of j ≢ core_of k) ks × Apart ks

  other_than : (n k : ℕ) (ks : List ℕ) → AllByRecursion (λ j. core_of j ≢ core_of k) ks → core_of n ≢ core_of k →
      AllByRecursion (λ j. core_of j ≢ core_of k) (ks ++ n ∷ [])
  other_than n k [] h ne = (ne, tt)
  other_than n k (j ∷ ks) (h, hs) ne = (h, other_than n k ks hs ne)

  apart_more : (n : ℕ) (ks : List ℕ) → Apart ks → list_any (has_core core_of (core_of n)) ks ≡ false →
      Apart (ks ++ n ∷ [])
  apart_more n [] h none = (tt, tt)
  apart_more n (k ∷ ks) (h, hs) none = settle (tells (core_of k) (core_of n)) (apart_more n ks hs)
    where
      test : ℕ → Bool
      test = has_core core_of (core_of n)

      settle : Told (core_of k) (core_of n) → (list_any test ks ≡ false → Apart (ks ++ n ∷ [])) →
          Apart ((k ∷ ks) ++ n ∷ [])
      settle (inl (t, _)) rest = absurd (let is = ap (λ v. v || list_any test ks) t in cc)
      settle (inr (t, ne)) rest = (
        other_than n k ks h (λ e. ne (sym e)),
        rest (sym (ap (λ v. v || list_any test ks) t) ∙ none),
      )

  -- The cores of the first places differ.
  pub firsts_apart : (n : ℕ) → Apart (firsts n)
  firsts_apart zero = tt
  firsts_apart (suc n) =
      subst Apart (sym (kept_more (is_first core_of) n))
      (settle (list_any test (range_with_len 0 n)) (any_firsts n (core_of n)) (firsts_apart n))
    where
      test : ℕ → Bool
      test = has_core core_of (core_of n)

      settle : (v : Bool) → list_any test (firsts n) ≡ v → Apart (firsts n) →
          Apart (firsts n ++ cond (not v) (n ∷ []) [])
      settle true h apart = subst Apart (sym (append-nil (firsts n))) apart
      settle false h apart = apart_more n (firsts n) apart h
