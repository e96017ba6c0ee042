-- Stray partitions: the search through the entries of a vector finds what the search through all partitions finds.
use Rattle.std.proofs.Common.{◌≡◌, ℕ, Bool, true, false, cond, ◌&&◌, not, nat_lt, nat_eq}
use Rattle.std.proofs.Common.{List, [], ◌∷◌, map, filter, length}
use Rattle.std.proofs.Common.{reverse, refl, sym, ◌∙◌, ap, Option, Some, None}
use Rattle.std.specs.List.{find}
use Rattle.std.specs.Option.{option_map}
use Rattle.std.specs.Ordering.{is_eq}
use Rattle.std.specs.Cmp.Lexicographic.{pointwise}
use Rattle.sp_defs.specs.Partition.{compare, partitions, degree}
use Rattle.sp_defs.specs.Laurent.{Laurent}
use Rattle.sp_defs.specs.Power.{Vector, entries}
use Rattle.sp_defs.specs.Row.{is_positive, stray, regular_row}
use Rattle.sp_outcome_law.proofs.Listed.{no_element}
use Rattle.sp_lists.proofs.Comparing.{same_equality}
use Rattle.sp_llt.proofs.Lists.{found_first, if_passes, find_back}
use Rattle.sp_llt.specs.Search.{is_stray_entry}

-- ---- two tests of two partitions

-- a test that tells two lists apart says that one is before the other
pub told_other : (xs ys : List ℕ) (b : Bool) → b ≡ not (pointwise nat_eq xs ys) → b ≡ not (is_eq (compare xs ys))
told_other xs ys b h = h ∙ ap not (same_equality xs ys)

-- ---- the search

module _ (mu : List ℕ) (w : Vector) where
  abbrev is_stray : List ℕ → Bool
  is_stray lambda = not (is_eq (compare lambda mu)) && not (is_positive (w lambda))

  abbrev listed : List (List ℕ) → List (List ℕ × Laurent)
  listed xs = filter (λ t. nat_lt 0 (length t.1)) (map (λ x. (x, w x)) xs)

  not_zero : (x : List ℕ) → w x ≡ [] → is_stray x ≡ false
  not_zero x z = ap (λ p. not (is_eq (compare x mu)) && not (is_positive p)) z ∙ never (not (is_eq (compare x mu)))
    where
      never : (b : Bool) → (b && false) ≡ false
      never true = refl
      never false = refl

  -- the last stray entry of the listed ones is the last stray partition
  pub listed_stray : (xs : List (List ℕ)) →
      option_map (λ t. t.0) (find (is_stray_entry mu) (reverse (listed xs))) ≡ find is_stray (reverse xs)
  listed_stray [] = refl
  listed_stray (x ∷ xs) = tested (nat_lt 0 (length (w x))) refl (listed_stray xs) ∙ sym (find_back is_stray x xs)
    where
      kept : (o : Option (List ℕ × Laurent)) (b : Bool) →
          option_map (λ t. t.0) (found_first o (cond b (Some (x, w x)) None))
          ≡ found_first (option_map (λ t. t.0) o) (cond b (Some x) None)
      kept None true = refl
      kept None false = refl
      kept (Some t) b = refl

      none_more : (o : Option (List ℕ)) → o ≡ found_first o None
      none_more None = refl
      none_more (Some y) = refl

      tested : (b : Bool) → nat_lt 0 (length (w x)) ≡ b →
          option_map (λ t. t.0) (find (is_stray_entry mu) (reverse (listed xs))) ≡ find is_stray (reverse xs) →
          option_map (λ t. t.0) (find (is_stray_entry mu) (reverse (cond b ((x, w x) ∷ listed xs) (listed xs))))
          ≡ found_first (find is_stray (reverse xs)) (if_passes is_stray x)
      tested true e ih =
          ap (option_map (λ t. t.0)) (find_back (is_stray_entry mu) (x, w x) (listed xs))
          ∙ kept (find (is_stray_entry mu) (reverse (listed xs))) (is_stray x)
          ∙ ap (λ o. found_first o (if_passes is_stray x)) ih
      tested false e ih =
          ih
          ∙ none_more (find is_stray (reverse xs))
          ∙ ap (λ b. found_first (find is_stray (reverse xs)) (cond b (Some x) None)) (sym (not_zero x
          (no_element (w x) e)))

-- the stray partition of a row, from the row's entries
pub stray_found : (e n : ℕ) (mu : List ℕ) → degree mu ≡ n →
    option_map (λ t. t.0) (find (is_stray_entry mu) (reverse (entries n (regular_row e mu)))) ≡ stray e mu
stray_found e n mu h =
    listed_stray mu (regular_row e mu) (partitions n)
    ∙ ap (λ d. find (is_stray mu (regular_row e mu)) (reverse (partitions d))) (sym h)
