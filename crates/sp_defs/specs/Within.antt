-- How far the powers of Laurent polynomials, and of their products, lie from 0.
use Rattle.std.specs.Prelude.{ℕ, ◌≤◌, ◌+ℤ◌, unsigned_abs}
use Rattle.std.specs.List.{AllByRecursion}
use Rattle.sp_defs.specs.Laurent.{Laurent}

-- Every power that occurs is from -d to d.
abbrev pub PowersWithin : ℕ → Laurent → Type 0
PowersWithin d p = AllByRecursion (λ t. unsigned_abs t.0 ≤ d) p

-- So is every sum of a power of p and a power of q.
abbrev pub ProductWithin : ℕ → Laurent → Laurent → Type 0
ProductWithin d p q = AllByRecursion (λ s. AllByRecursion (λ t. unsigned_abs (s.0 +ℤ t.0) ≤ d) q) p
