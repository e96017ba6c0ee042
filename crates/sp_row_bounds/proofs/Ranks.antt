-- The e-regular partitions of n: how many there are, that a rank is less than that, and what the bound on the powers of
-- a row comes to.
use Rattle.std.proofs.Common.{◌≡◌, ℕ, zero, suc, ◌+◌, ◌*◌, ◌<◌, ◌≤◌, true, cond, ◌&&◌, nat_eq, List, [], ◌∷◌, length}
use Rattle.std.proofs.Common.{refl, ap, arith, lt-ltb, eq-eqb, mul-le-mul_left, mul-le-mul_right}
use Rattle.std.proofs.lemmas.List.Sums.{length-filter, count_by-le-length}
use Rattle.sp_defs.specs.Partition.{degree, partitions, is_regular, regulars}
use Rattle.sp_defs.specs.Row.{earlier}
use Rattle.sp_defs.specs.Statements.{IsLabel}
use Rattle.sp_shapes.proofs.Listing.{IsPartition-nil, IsPartition-cons, each_regular, regulars_ascend}
use Rattle.sp_row_law.proofs.Setting.{good}
use Rattle.sp_row_bounds.specs.Powers.{row_bound}
use Rattle.sp_row_bounds.specs.Counts.{CountLaw}
use Rattle.sp_row_bounds.proofs.Shares.{fewer_before}
use Rattle.sp_row_bounds.proofs.Counts.{numbers, up_to_30, up_to_32}
use Rattle.sp_lists.proofs.Occurrence.{occurs_some}

few_regulars : (e n : ℕ) → length (regulars e n) ≤ length (partitions n)
unfolding regulars
few_regulars e n =
    omega (
      arith,
      length-filter (is_regular e) (partitions n),
      count_by-le-length (is_regular e) (partitions n),
    )

-- the partition with one part
some_regular : (e n : ℕ) → 2 ≤ e → 1 ≤ length (regulars e n)
some_regular e zero he =
    occurs_some [] (regulars e 0)
    (each_regular e 0 [] (record { partition = IsPartition-nil; total = refl; regular = refl }))
some_regular e (suc n) he =
    occurs_some (suc n ∷ []) (regulars e (suc n)) (each_regular e (suc n) (suc n ∷ []) (record {
      partition = IsPartition-cons (suc n) [] (omega arith) (omega arith) IsPartition-nil;
      total = omega arith;
      regular = once;
    }))
  where
    once : is_regular e (suc n ∷ []) ≡ true
    once =
        let same : 0 + cond (nat_eq (suc n) (suc n)) 1 0 ≡ 1 =
        ap (λ b. 0 + cond b 1 0) (eq-eqb (suc n) (suc n) refl) in
        ap (λ b. b && true) (lt-ltb (0 + cond (nat_eq (suc n) (suc n)) 1 0) e (omega arith))

few_earlier : (e : ℕ) (mu : List ℕ) → IsLabel e mu → length (earlier e mu) < length (regulars e (degree mu))
few_earlier e mu is =
    omega (
      arith,
      fewer_before mu (regulars e (degree mu)) (regulars_ascend e (degree mu))
          (each_regular e (degree mu) mu (good e mu is)),
    )

-- ---- the bound on powers

product : (a b c d : ℕ) → a ≤ b → c ≤ d → a * c ≤ b * d
product a b c d h k =
    let first : a * c ≤ b * c = mul-le-mul_right c h in
    let second : b * c ≤ b * d = mul-le-mul_left b k in
    omega arith

row_bound_within : (e : ℕ) (mu : List ℕ) (n b : ℕ) → IsLabel e mu → degree mu ≤ n →
    length (partitions (degree mu)) ≤ b → row_bound e mu ≤ b * (n * n)
row_bound_within e mu n b is le most =
    product (length (earlier e mu) + 1) b (degree mu * degree mu) (n * n) ranks squares
  where
    ranks : length (earlier e mu) + 1 ≤ b
    ranks = omega (arith, few_earlier e mu is, few_regulars e (degree mu))

    squares : degree mu * degree mu ≤ n * n
    squares = product (degree mu) n (degree mu) n le le

-- The counts of partitions, and what they bound.
pub count_law : CountLaw
count_law = record {
  numbers = numbers;
  up_to_30 = up_to_30;
  up_to_32 = up_to_32;
  some_regular = some_regular;
  few_regulars = few_regulars;
  few_earlier = few_earlier;
  row_bound_30 = λ e mu is le. row_bound_within e mu 30 5604 is le (up_to_30 (degree mu) le);
  row_bound_32 = λ e mu is le. row_bound_within e mu 32 8349 is le (up_to_32 (degree mu) le);
}
