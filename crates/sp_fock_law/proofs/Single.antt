-- The vector 0, and vectors with a single entry.
use Rattle.std.proofs.Common.{◌≡◌, ◌≢◌, ℕ, cond, List, [], ◌∷◌, sym, refl, subst, arith, ◌≤◌, ◌+ℤ◌, pos}
use Rattle.std.proofs.lemmas.Int.{ints}
use Rattle.std.specs.Int.RustNames.{unsigned_abs}
use Rattle.std.specs.List.{AllByRecursion}
use Rattle.std.specs.Ordering.{is_eq}
use Rattle.sp_defs.specs.Partition.{compare, partitions, IsPartition, IsPartitionOf, degree}
use Rattle.sp_defs.specs.Laurent.{one, Laurent, IsLaurent, collect, add_term}
use Rattle.sp_defs.specs.Power.{vector_of, entries, unit, IsVector}
use Rattle.sp_defs.specs.Within.{PowersWithin, ProductWithin}
use Rattle.sp_shapes.proofs.Order.{all_mono}
use Rattle.sp_fock_law.proofs.Vectors.{entries_at, entries-vector_of}

-- the zero vector has no entries
pub entries-nought : (n : ℕ) → entries n (λ _. []) ≡ []
entries-nought n = nothing_at (partitions n)
  where
    nothing_at : (xs : List (List ℕ)) → entries_at xs (λ _. []) ≡ []
    nothing_at [] = refl
    nothing_at (x ∷ xs) = nothing_at xs

-- no entries are a vector
pub IsVector-nil : (n : ℕ) → IsVector n []
IsVector-nil n = record { partitions_of = tt; ascending = tt; polynomials = tt }

-- one entry that isn't 0 is a vector
pub IsVector-single : (n : ℕ) (kappa : List ℕ) (p : Laurent) → IsPartitionOf n kappa → IsLaurent p → p ≢ []
    → IsVector n ((kappa, p) ∷ [])
IsVector-single n kappa p h laurent ne =
    record { partitions_of = (h, tt); ascending = (tt, tt); polynomials = ((laurent, ne), tt) }

-- a vector that is 0 but at one partition has one entry
pub entries-single : (n : ℕ) (kappa : List ℕ) (p : Laurent) → IsPartitionOf n kappa → IsLaurent p → p ≢ []
    → entries n (λ lambda. cond (is_eq (compare kappa lambda)) p []) ≡ (kappa, p) ∷ []
unfolding vector_of
entries-single n kappa p h laurent ne = entries-vector_of n ((kappa, p) ∷ []) (IsVector-single n kappa p h laurent ne)

-- a basis vector has one entry, which is 1
pub entries-unit : (kappa : List ℕ) → IsPartition kappa → entries (degree kappa) (unit kappa) ≡ (kappa, one) ∷ []
unfolding collect add_term
entries-unit kappa h = entries-single (degree kappa) kappa one (record { partition = h; total = refl }) refl (λ e. cc)

-- A multiple of a vector with a single 1 has the powers of the factor.
pub unit_within : (d : ℕ) (a : Laurent) (kappa : List ℕ) → IsPartition kappa → PowersWithin d a
    → AllByRecursion (λ t. ProductWithin d a t.1) (entries (degree kappa) (unit kappa))
unit_within d a kappa h within =
    subst (AllByRecursion (λ t. ProductWithin d a t.1)) (sym (entries-unit kappa h)) (
      all_mono (λ s. unsigned_abs s.0 ≤ d) (λ s. AllByRecursion (λ t. unsigned_abs (s.0 +ℤ t.0) ≤ d) one) a
          (λ s k. (omega (arith, ints), tt)) within,
      tt,
    )

-- A product with 1 has the powers of the other factor.
pub one_within : (d : ℕ) (q : Laurent) → PowersWithin d q → ProductWithin d one q
one_within d q within =
    let sums : AllByRecursion (λ t. unsigned_abs (pos 0 +ℤ t.0) ≤ d) q =
    all_mono (λ t. unsigned_abs t.0 ≤ d) (λ t. unsigned_abs (pos 0 +ℤ t.0) ≤ d) q (λ t k. omega (arith, ints)) within in
    (sums, tt)
