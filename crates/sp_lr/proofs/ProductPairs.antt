-- The computed product is what the contract says, and the pairs of the sorted ends are this product.
use Rattle.std.proofs.Common.{◌≡◌, ℕ, ◌+◌, ◌≤◌, true, false, List, [], ◌∷◌, map, filter, nat_lt}
use Rattle.std.proofs.Common.{length, refl, sym, ◌∙◌, ap, subst, arith, ◌⊎◌, inl, inr, Greater, Less}
use Rattle.std.proofs.Common.{lt-ltb, ltb-true}
use Rattle.std.specs.List.{AllByRecursion}
use Rattle.std.specs.List.Sorted.{IsPermutation}
use Rattle.std.specs.Ordering.{ordering_reverse}
use Rattle.sp_defs.specs.Partition.{part, degree, partitions, IsPartition}
use Rattle.sp_lists.proofs.Elements.{all_both, all_every, all_filter, all_map, all_reverse}
use Rattle.sp_lists.proofs.Occurrence.{Occurs, all_occur, at_occurs, contains, occurs, occurs_filter, occurs_map}
use Rattle.sp_lists.proofs.Occurrence.{occurs_reverse, occurs_some}
use Rattle.sp_lists.proofs.Places.{all_weaken}
use Rattle.sp_shapes.proofs.Listing.{each_partition}
use Rattle.sp_partition.specs.OrderLaws.{order_total}
use Rattle.sp_lr_defs.specs.Filling.{IsChainTo, IsFilling, chain_of}
use Rattle.sp_lr_defs.specs.Strip.{IsStripChain, end_from}
use Rattle.sp_lr_defs.specs.Listing.{chains_to, littlewood_richardson, product_pairs}
use Rattle.sp_lr_defs.proofs.Strips.{strips_of_filling}
use Rattle.sp_lr_defs.proofs.Backward.{strips_length}
use Rattle.sp_lr_defs.proofs.Tableaux.{tableau_of_strips, tableau_degree}
use Rattle.sp_lr.specs.Strips.{chains}
use Rattle.sp_lr.specs.Results.{IsProduct, DescendingPairs, spread}
use Rattle.sp_lr.proofs.InOrder.{InOrder, in_order-filter, in_order-map, in_order-reverse, same_in_order}
use Rattle.sp_lr.proofs.Tableaux.{ComesLater, partitions_rise}
use Rattle.sp_lr.proofs.ChainsOver.{all_to, each_to, lists_to, chain_ends}
use Rattle.sp_lr.proofs.Totals.{ends_counted, find_pair, is_it, none_spread, pair_count}

-- ---- the computed product

-- the partition of a pair, with its coefficient
abbrev with_count : List ℕ → List ℕ → List ℕ → List ℕ × ℕ
with_count lambda mu nu = (nu, littlewood_richardson lambda mu nu)

-- all pairs, also those of 0
abbrev all_pairs : List ℕ → List ℕ → List (List ℕ × ℕ)
all_pairs lambda mu = map (with_count lambda mu) (partitions (degree lambda + degree mu))

-- the pair has the coefficient, which isn't 0
abbrev IsPair : List ℕ → List ℕ → List ℕ × ℕ → Type 0
IsPair lambda mu p = (littlewood_richardson lambda mu p.0 ≡ p.1) × (1 ≤ p.1)

all_are_pairs : (lambda mu : List ℕ) → AllByRecursion (IsPair lambda mu) (product_pairs lambda mu)
unfolding product_pairs
all_are_pairs lambda mu =
    all_reverse (IsPair lambda mu) (filter (λ p. nat_lt 0 p.1) (all_pairs lambda mu))
    (all_filter (IsPair lambda mu) (λ p. nat_lt 0 p.1) (all_pairs lambda mu)
    (all_map (λ p. nat_lt 0 p.1 ≡ true → IsPair lambda mu p) (with_count lambda mu)
    (partitions (degree lambda + degree mu))
    (all_every (λ nu. nat_lt 0 (littlewood_richardson lambda mu nu) ≡ true → IsPair lambda mu (with_count lambda mu nu))
    (partitions (degree lambda + degree mu))
    (λ nu t. (refl, ltb-true 0 (littlewood_richardson lambda mu nu) t)))))

-- the first of some
some_first : {X : Type 0} (P : X → Type 0) (xs : List X) → 1 ≤ length xs → AllByRecursion P xs → (x : X) × P x
some_first P [] some h = absurd (omega arith)
some_first P (x ∷ xs) some (h, hs) = (x, h)

-- a partition with a filling has the nodes of both
end_degree : (lambda mu nu : List ℕ) (rows chain : List (List ℕ)) → IsPartition lambda →
    IsFilling lambda mu nu rows → chain_of lambda (length mu) rows ≡ chain → IsStripChain lambda mu chain →
    degree nu ≡ degree lambda + degree mu
end_degree lambda mu nu rows [] h filling is s = absurd s
end_degree lambda mu nu rows (inner ∷ shapes) h filling is (first, s) =
    ap degree
    (sym (chain_ends lambda mu nu rows inner shapes h filling is
    (strips_length lambda lambda (part mu 1) mu shapes s)))
    ∙ ap (λ x. degree (end_from x shapes)) first
    ∙ tableau_degree lambda mu shapes (tableau_of_strips lambda lambda (part mu 1) mu shapes s)

chain_degree : (lambda mu nu : List ℕ) (chain : List (List ℕ)) → IsPartition lambda → IsChainTo lambda mu nu chain →
    degree nu ≡ degree lambda + degree mu
chain_degree lambda mu nu chain h (rows, (filling, is)) =
    end_degree lambda mu nu rows chain h filling is
    (subst (IsStripChain lambda mu) is (strips_of_filling lambda mu nu rows h filling))

-- a partition with a filling has a pair
has_pair : (lambda mu nu : List ℕ) (chain : List (List ℕ)) → IsPartition lambda → IsChainTo lambda mu nu chain →
    Occurs (with_count lambda mu nu) (product_pairs lambda mu)
unfolding product_pairs
has_pair lambda mu nu chain h to =
    occurs_reverse (with_count lambda mu nu) (filter (λ p. nat_lt 0 p.1) (all_pairs lambda mu))
    (occurs_filter (λ p. nat_lt 0 p.1) (with_count lambda mu nu) (all_pairs lambda mu)
    (lt-ltb 0 (littlewood_richardson lambda mu nu)
    (occurs_some chain (chains_to lambda mu nu) (each_to lambda mu nu chain h to)))
    (occurs_map (with_count lambda mu) nu (partitions (degree lambda + degree mu))
    (each_partition (degree lambda + degree mu) nu (to.1.0).outer (chain_degree lambda mu nu chain h to))))

-- so has one whose coefficient isn't 0
counted_pair : (lambda mu nu : List ℕ) → IsPartition lambda → 1 ≤ littlewood_richardson lambda mu nu →
    Occurs (with_count lambda mu nu) (product_pairs lambda mu)
counted_pair lambda mu nu h some =
    let first = some_first (IsChainTo lambda mu nu) (chains_to lambda mu nu) some (all_to lambda mu nu h) in
    has_pair lambda mu nu first.0 h first.1

-- the first pair is later
abbrev LaterPair : List ℕ × ℕ → List ℕ × ℕ → Type 0
LaterPair p q = ComesLater p.0 q.0

pairs_fall : (lambda mu : List ℕ) → InOrder LaterPair (product_pairs lambda mu)
unfolding product_pairs
pairs_fall lambda mu =
    in_order-reverse LaterPair (filter (λ p. nat_lt 0 p.1) (all_pairs lambda mu))
    (in_order-filter (λ p q. LaterPair q p) (λ p. nat_lt 0 p.1) (all_pairs lambda mu)
    (in_order-map (λ p q. LaterPair q p) (with_count lambda mu) (partitions (degree lambda + degree mu))
    (partitions_rise (degree lambda + degree mu))))

descending_pairs : (pairs : List (List ℕ × ℕ)) → InOrder LaterPair pairs → DescendingPairs pairs
descending_pairs [] h = tt
descending_pairs (pair ∷ pairs) (h, hs) = (h, descending_pairs pairs hs)

in_order_pairs : (pairs : List (List ℕ × ℕ)) → DescendingPairs pairs → InOrder LaterPair pairs
in_order_pairs [] d = tt
in_order_pairs (pair ∷ pairs) (first, d) = (first, in_order_pairs pairs d)

-- The computed product has each partition that has a filling, descending, with the number of its fillings.
pub is_product : (lambda mu : List ℕ) → IsPartition lambda → IsProduct lambda mu (product_pairs lambda mu)
is_product lambda mu h = record {
  each = λ nu n c.
      let pair : IsPair lambda mu (nu, n) =
      at_occurs (IsPair lambda mu) (nu, n) (product_pairs lambda mu) (occurs (nu, n) (product_pairs lambda mu) c)
      (all_are_pairs lambda mu) in
      (record { chains = chains_to lambda mu nu; lists = lists_to lambda mu nu h; count = pair.0 }, pair.1);
  all = λ nu chain to. (
    littlewood_richardson lambda mu nu,
    contains (with_count lambda mu nu) (product_pairs lambda mu) (has_pair lambda mu nu chain h to),
  );
  descending = descending_pairs (product_pairs lambda mu) (pairs_fall lambda mu);
}

-- ---- the pairs of the code

later_once : (p q : List ℕ × ℕ) → LaterPair p q → LaterPair q p → ⊥
later_once p q h k = wrong (sym (order_total.antisymm q.0 p.0 ∙ ap ordering_reverse h) ∙ k)
  where
    wrong : Less ≡ Greater → ⊥
    wrong e = cc

module _ (lambda mu : List ℕ) (sorted : List (List ℕ)) (pairs : List (List ℕ × ℕ)) (h : IsPartition lambda)
    (perm : IsPermutation (map (end_from lambda) (chains lambda lambda (part mu 1) mu)) sorted)
    (is : sorted ≡ spread pairs) (d : DescendingPairs pairs) (some : AllByRecursion (λ p. 1 ≤ p.1) pairs) where
  -- a pair of the code has the coefficient
  coefficient_is : (nu : List ℕ) (n : ℕ) → Occurs (nu, n) pairs → littlewood_richardson lambda mu nu ≡ n
  coefficient_is nu n o = sym (ends_counted lambda mu nu sorted pairs h perm is) ∙ pair_count nu n pairs d o

  -- so it is one of the product
  in_product : (p : List ℕ × ℕ) → Occurs p pairs → 1 ≤ p.1 → Occurs p (product_pairs lambda mu)
  in_product (nu, n) o least =
      subst (λ m. Occurs (nu, m) (product_pairs lambda mu)) (coefficient_is nu n o)
      (counted_pair lambda mu nu h (omega (arith, coefficient_is nu n o, least)))

  -- and each of the product is one of the code
  in_pairs : (p : List ℕ × ℕ) → IsPair lambda mu p → Occurs p pairs
  in_pairs (nu, n) (count, least) = settle (find_pair nu pairs)
    where
      settle : ((m : ℕ) × Occurs (nu, m) pairs) ⊎ AllByRecursion (λ p. is_it nu p.0 ≡ false) pairs →
          Occurs (nu, n) pairs
      settle (inl (m, o)) = subst (λ k. Occurs (nu, k) pairs) (sym (coefficient_is nu m o) ∙ count) o
      settle (inr none) =
          absurd
          (omega (
            arith,
            least,
            count,
            ends_counted lambda mu nu sorted pairs h perm is,
            none_spread nu pairs none,
          ))

  -- The pairs of the sorted ends are the product.
  pub product_of : pairs ≡ product_pairs lambda mu
  product_of =
      same_in_order LaterPair later_once pairs (product_pairs lambda mu) (in_order_pairs pairs d)
      (pairs_fall lambda mu)
      (all_weaken (λ p. Occurs p pairs × (1 ≤ p.1)) (λ p. Occurs p (product_pairs lambda mu)) pairs
      (λ p (o, least). in_product p o least)
      (all_both (λ p. Occurs p pairs) (λ p. 1 ≤ p.1) pairs (all_occur pairs) some))
      (all_weaken (IsPair lambda mu) (λ p. Occurs p pairs) (product_pairs lambda mu) (λ p pair. in_pairs p pair)
      (all_are_pairs lambda mu))
