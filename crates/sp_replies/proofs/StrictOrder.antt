-- Lists of partitions in strict order: two of them with the same members are one.
use Rattle.std.proofs.Common.{◌≡◌, ℕ, List, [], ◌∷◌, ◌++◌, ◌⊎◌, inl, inr, Less, Equal, Greater, refl, sym, ◌∙◌, ap, ap₂}
use Rattle.std.specs.List.{AllByRecursion}
use Rattle.std.specs.List.Sorted.{IsStrictlySortedBy}
use Rattle.std.specs.Ordering.{ordering_reverse}
use Rattle.std.proofs.lemmas.Cmp.{tied_itself}
use Rattle.sp_defs.specs.Partition.{order}
use Rattle.sp_lists.proofs.Elements.{all_append}
use Rattle.sp_lists.proofs.Occurrence.{Occurs, at_occurs}
use Rattle.sp_partition.specs.OrderLaws.{order_total}

not_itself : (x y : List ℕ) → order x y ≡ Less → x ≡ y → ⊥
not_itself x y less same =
    let clash : Less ≡ Equal = sym (ap (order x) same ∙ less) ∙ tied_itself order_total x in cc

not_both : (x y : List ℕ) → order x y ≡ Less → order y x ≡ Less → ⊥
not_both x y less back =
    let clash : Less ≡ Greater = sym less ∙ order_total.antisymm x y ∙ ap ordering_reverse back in cc

-- Two lists in strict order with the same members are one.
pub same_members : (xs ys : List (List ℕ)) → IsStrictlySortedBy order xs → IsStrictlySortedBy order ys →
    ((p : List ℕ) → Occurs p xs → Occurs p ys) → ((p : List ℕ) → Occurs p ys → Occurs p xs) → xs ≡ ys
unfolding IsStrictlySortedBy
same_members [] [] a b there back = refl
same_members [] (y ∷ ys) a b there back = absurd (back y (inl refl))
same_members (x ∷ xs) [] a b there back = absurd (there x (inl refl))
same_members (x ∷ xs) (y ∷ ys) (behind_x, a) (behind_y, b) there back =
    ap₂ (λ p ps. p ∷ ps) first (same_members xs ys a b rest_there rest_back)
  where
    first : x ≡ y
    first = settle (there x (inl refl)) (back y (inl refl))
      where
        settle : (x ≡ y) ⊎ Occurs x ys → (y ≡ x) ⊎ Occurs y xs → x ≡ y
        settle (inl same) k = same
        settle (inr o) (inl same) = sym same
        settle (inr o) (inr k) =
            absurd (not_both x y (at_occurs (λ p. order x p ≡ Less) y xs k behind_x)
            (at_occurs (λ p. order y p ≡ Less) x ys o behind_y))

    rest_there : (p : List ℕ) → Occurs p xs → Occurs p ys
    rest_there p o = settle (there p (inr o))
      where
        settle : (p ≡ y) ⊎ Occurs p ys → Occurs p ys
        settle (inl same) =
            absurd (not_itself x p (at_occurs (λ q. order x q ≡ Less) p xs o behind_x) (first ∙ sym same))
        settle (inr k) = k

    rest_back : (p : List ℕ) → Occurs p ys → Occurs p xs
    rest_back p o = settle (back p (inr o))
      where
        settle : (p ≡ x) ⊎ Occurs p xs → Occurs p xs
        settle (inl same) =
            absurd (not_itself y p (at_occurs (λ q. order y q ≡ Less) p ys o behind_y) (sym first ∙ sym same))
        settle (inr k) = k

-- Two lists in strict order, of which the members of the first are before those of the second, joined.
pub joined_strict : (xs ys : List (List ℕ)) → IsStrictlySortedBy order xs → IsStrictlySortedBy order ys →
    AllByRecursion (λ x. AllByRecursion (λ y. order x y ≡ Less) ys) xs → IsStrictlySortedBy order (xs ++ ys)
unfolding IsStrictlySortedBy
joined_strict [] ys a b across = b
joined_strict (x ∷ xs) ys (behind, a) b (first, across) =
    (all_append (λ y. order x y ≡ Less) xs ys behind first, joined_strict xs ys a b across)
