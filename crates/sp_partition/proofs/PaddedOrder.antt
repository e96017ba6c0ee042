-- Arrays of parts with zeros behind stand in the order of the lists of parts, since parts are positive.
use Rattle.std.proofs.Common.{◌≡◌, ℕ, zero, suc, ◌-◌, ◌≤◌, List, [], ◌∷◌, ◌++◌, length, take, replicate, sym}
use Rattle.std.proofs.Common.{◌∙◌, ap, ap₂, subst, arith, nat_cmp, Less, Greater}
use Rattle.std.specs.Ordering.{ordering_then}
use Rattle.std.specs.Cmp.{nat_cmp_is}
use Rattle.sp_defs.specs.Partition.{IsPartition, compare}
use Rattle.sp_shapes.proofs.Diagram.{IsPartition-tail, IsPartition-head}
use Rattle.sp_shapes.proofs.Order.{equal_self}
use Rattle.sp_partition.specs.Held.{IsHeld}
use Rattle.sp_partition.specs.Padded.{padded, padded-array, IsPadded}
use Rattle.sp_partition.specs.declared.TheConstants.{CAPACITY}
use Rattle.sp_partition.proofs.Holding.{few_parts, less_one}

abbrev with_zeros : ℕ → List ℕ → List ℕ
with_zeros n parts = parts ++ replicate (n - length parts) 0

zeros_order : (n : ℕ) (xs ys : List ℕ) → IsPartition xs → IsPartition ys → length xs ≤ n → length ys ≤ n →
    compare (with_zeros n xs) (with_zeros n ys) ≡ compare xs ys
zeros_order n [] [] hx hy fx fy = equal_self (with_zeros n [])
zeros_order zero (x ∷ xs) ys hx hy fx fy = absurd (omega arith)
zeros_order zero [] (y ∷ ys) hx hy fx fy = absurd (omega arith)
zeros_order (suc n) [] (y ∷ ys) hx hy fx fy =
    ap (λ m. compare (replicate m 0) (with_zeros (suc n) (y ∷ ys))) whole
    ∙ ap (λ o. ordering_then o (compare (replicate n 0) (ys ++ replicate (suc n - suc (length ys)) 0)))
    (sym (nat_cmp_is 0 y Less (IsPartition-head y ys hy)))
  where
    whole : suc n - 0 ≡ suc n
    whole = omega arith
zeros_order (suc n) (x ∷ xs) [] hx hy fx fy =
    ap (λ m. compare (with_zeros (suc n) (x ∷ xs)) (replicate m 0)) whole
    ∙ ap (λ o. ordering_then o (compare (xs ++ replicate (suc n - suc (length xs)) 0) (replicate n 0)))
    (sym (nat_cmp_is x 0 Greater (IsPartition-head x xs hx)))
  where
    whole : suc n - 0 ≡ suc n
    whole = omega arith
zeros_order (suc n) (x ∷ xs) (y ∷ ys) hx hy fx fy =
    ap (ordering_then (nat_cmp x y))
    (ap₂ (λ k m. compare (xs ++ replicate k 0) (ys ++ replicate m 0)) (less_one n (length xs)) (less_one n (length ys))
    ∙ zeros_order n xs ys (IsPartition-tail x xs hx) (IsPartition-tail y ys hy) (omega arith) (omega arith))

-- The arrays of partitions that there is room for stand in their order.
pub padded_order : (xs ys : List ℕ) → IsHeld xs → IsHeld ys → compare (padded xs) (padded ys) ≡ compare xs ys
padded_order xs ys hx hy =
    zeros_order CAPACITY xs ys hx.partition hy.partition (few_parts xs hx) (few_parts ys hy)

-- So the arrays of two values of the type stand in the order of what they show.
pub arrays_order : (degree count : ℕ) (array now : List ℕ) (other_degree other_count : ℕ) (other_array other : List ℕ) →
    IsPadded degree count array → take count array ≡ now → IsPadded other_degree other_count other_array →
    take other_count other_array ≡ other → compare array other_array ≡ compare now other
arrays_order degree count array now other_degree other_count other_array other is shows other_is other_shows =
    ap₂ compare (array_of degree count array now is shows) (array_of other_degree other_count other_array other other_is
    other_shows)
    ∙ padded_order now other (subst IsHeld shows is.held) (subst IsHeld other_shows other_is.held)
  where
    array_of : (degree count : ℕ) (array now : List ℕ) → IsPadded degree count array → take count array ≡ now →
        array ≡ padded now
    array_of degree count array now is shows = sym (padded-array degree count array is) ∙ ap padded shows
