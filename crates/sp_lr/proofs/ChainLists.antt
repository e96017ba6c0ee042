-- The chains that go on by strips: each is listed, once, descending.
use Rattle.std.proofs.Common.{◌≡◌, ℕ, ◌+◌, ◌-◌, ◌<◌, ◌≤◌, min, List, [], ◌∷◌, map, flat_map, refl, sym}
use Rattle.std.proofs.Common.{◌∙◌, ap, subst, arith, length, ◌⊎◌, inl, inr, Greater, nat_cmp}
use Rattle.std.specs.List.{AllByRecursion}
use Rattle.std.specs.Ordering.{ordering_then}
use Rattle.std.specs.Cmp.Lexicographic.{slice_cmp}
use Rattle.std.proofs.lemmas.Cmp.{nat_cmp_total, tied_itself}
use Rattle.std.proofs.lemmas.Bool.Decides.{nat_tests}
use Rattle.sp_defs.specs.Partition.{part, IsPartition, compare, order}
use Rattle.sp_lists.proofs.Elements.{all_flat, all_map, all_every, le_or_lt}
use Rattle.sp_lists.proofs.Places.{all_weaken}
use Rattle.sp_lists.proofs.Occurrence.{Occurs, occurs_flat, occurs_map, at_occurs, contains, occurs}
use Rattle.sp_partition.specs.OrderLaws.{order_total, order_one_degree}
use Rattle.sp_lr_defs.specs.Filling.{IsChain, chain_of, IsLaterChain, DescendingChains, ListsEach}
use Rattle.sp_lr_defs.specs.Strip.{IsNext, AreStrips, IsStripChain, end_from}
use Rattle.sp_lr_defs.proofs.Strips.{strips_of_filling}
use Rattle.sp_lr_defs.proofs.Backward.{filling_of_strips}
use Rattle.sp_lr.specs.Strips.{strips, down, last_rows, strips_after, chains, rows_of}
use Rattle.sp_lr.specs.declared.strips.Row.{Row}
use Rattle.sp_lr.proofs.InOrder.{InOrder, in_order-map, in_order-weaken, in_order-flat, down_descends}
use Rattle.sp_lr.proofs.LastRows.{last_rows-none, last_rows-zero, last_rows-one}
use Rattle.sp_lr.proofs.Rounds.{block, end_of, strips-cons, strips-nil}
use Rattle.sp_lr.proofs.RowsOf.{listed_next, next_listed}

-- ---- strips descend

-- the first list is later
abbrev pub IsLater : List ℕ → List ℕ → Type 0
IsLater first second = compare first second ≡ Greater

later_head : (a b : ℕ) (xs ys : List ℕ) → b < a → IsLater (a ∷ xs) (b ∷ ys)
later_head a b xs ys lt = ap (λ o. ordering_then o (compare xs ys)) (greater a b lt)
  where
    greater : (a b : ℕ) → b < a → nat_cmp a b ≡ Greater
    greater a b lt = grind (arith, nat_tests)

later_rest : (a : ℕ) (xs ys : List ℕ) → IsLater xs ys → IsLater (a ∷ xs) (a ∷ ys)
later_rest a xs ys h = ap (λ o. ordering_then o (compare xs ys)) (tied_itself nat_cmp_total a) ∙ h

last_in_order : (most left : ℕ) → InOrder IsLater (last_rows most left)
last_in_order most left = settle (le_or_lt left most) (le_or_lt left 0)
  where
    settle : (left ≤ most) ⊎ (most < left) → (left ≤ 0) ⊎ (0 < left) → InOrder IsLater (last_rows most left)
    settle (inr lt) w = subst (InOrder IsLater) (sym (last_rows-none most left lt)) tt
    settle (inl le) (inl z) = subst (InOrder IsLater) (sym (last_rows-zero most left le (omega arith))) (tt, tt)
    settle (inl le) (inr p) = subst (InOrder IsLater) (sym (last_rows-one most left le (λ e. omega arith))) (tt, tt)

-- The strips descend.
pub strips_descend : (rows : List Row) (above spare left : ℕ) → InOrder IsLater (strips rows above spare left)
strips_descend [] above spare left =
    subst (InOrder IsLater) (sym (strips-nil [] above spare left (min (min left spare) above) (omega arith) refl))
    (last_in_order (min (min left spare) above) left)
strips_descend (row ∷ rows) above spare left =
    subst (InOrder IsLater) (sym (strips-cons row rows above spare left))
    (in_order-flat (λ _. Unit {0}) (λ a b. b < a) IsLater (block row rows spare left) (down
    (end_of row above spare left))
    (all_every (λ _. Unit {0}) (down (end_of row above spare left)) (λ _. tt)) (down_descends
    (end_of row above spare left))
    (λ more _. in_order-map IsLater (λ below. (row.length + more) ∷ below)
    (strips rows row.length (spare - more + row.gained) (left - more))
    (in_order-weaken IsLater (λ xs ys. IsLater ((row.length + more) ∷ xs) ((row.length + more) ∷ ys))
    (strips rows row.length (spare - more + row.gained) (left - more)) (λ xs ys h. later_rest (row.length
    + more) xs ys h)
    (strips_descend rows row.length (spare - more + row.gained) (left - more))))
    (λ more fewer _ _ lt. all_map (λ xs. AllByRecursion (IsLater xs) (block row rows spare left fewer))
    (λ below. (row.length + more) ∷ below) (strips rows row.length (spare - more + row.gained) (left - more))
    (all_every (λ below. AllByRecursion (IsLater ((row.length + more) ∷ below)) (block row rows spare left fewer))
    (strips rows row.length (spare - more + row.gained) (left - more))
    (λ xs. all_map (IsLater ((row.length + more) ∷ xs)) (λ below. (row.length + fewer) ∷ below)
    (strips rows row.length (spare - fewer + row.gained) (left - fewer))
    (all_every (λ ys. IsLater ((row.length + more) ∷ xs) ((row.length + fewer) ∷ ys))
    (strips rows row.length (spare - fewer + row.gained) (left - fewer))
    (λ ys. later_head (row.length + more) (row.length + fewer) xs ys (omega (arith, lt))))))))

-- ---- chains

-- those that go on by each partition of a strip
abbrev pub chain_block : List ℕ → List ℕ → List ℕ → List (List (List ℕ))
chain_block last ns shape = map (λ shapes. shape ∷ shapes) (chains last shape 0 ns)

-- with no size there is the empty chain
pub chains-nil : (before last : List ℕ) (spare : ℕ) → chains before last spare [] ≡ [] ∷ []
unfolding chains
chains-nil before last spare = refl

-- with a size a chain goes on by each partition of the strip
pub chains-cons : (before last : List ℕ) (spare n : ℕ) (ns : List ℕ) →
    chains before last spare (n ∷ ns) ≡ flat_map (chain_block last ns) (strips_after before last spare n)
unfolding chains
chains-cons before last spare n ns = refl

-- What is listed is a chain of strips.
pub listed_chains : (before last : List ℕ) (spare : ℕ) (ns : List ℕ) → IsPartition last →
    AllByRecursion (AreStrips before last spare ns) (chains before last spare ns)
listed_chains before last spare [] h =
    subst (AllByRecursion (AreStrips before last spare [])) (sym (chains-nil before last spare)) (tt, tt)
listed_chains before last spare (n ∷ ns) h =
    subst (AllByRecursion (AreStrips before last spare (n ∷ ns))) (sym (chains-cons before last spare n ns))
    (all_flat (AreStrips before last spare (n ∷ ns)) (chain_block last ns) (strips_after before last spare n)
    (all_weaken (IsNext before last spare n)
    (λ shape. AllByRecursion (AreStrips before last spare (n ∷ ns)) (chain_block last ns shape))
    (strips_after before last spare n)
    (λ shape next. all_map (AreStrips before last spare (n ∷ ns)) (λ shapes. shape ∷ shapes) (chains last shape 0 ns)
    (all_weaken (AreStrips last shape 0 ns) (λ shapes. AreStrips before last spare (n ∷ ns) (shape ∷ shapes))
    (chains last shape 0 ns) (λ shapes more. (next, more)) (listed_chains last shape 0 ns next.strip.partition)))
    (listed_next before last spare n h)))

-- Each chain of strips is listed.
pub chains_listed : (before last : List ℕ) (spare : ℕ) (ns : List ℕ) (shapes : List (List ℕ)) → IsPartition last →
    AreStrips before last spare ns shapes → Occurs shapes (chains before last spare ns)
chains_listed before last spare [] [] h s = subst (Occurs []) (sym (chains-nil before last spare)) (inl refl)
chains_listed before last spare [] (shape ∷ shapes) h s = absurd s
chains_listed before last spare (n ∷ ns) [] h s = absurd s
chains_listed before last spare (n ∷ ns) (shape ∷ shapes) h (next, more) =
    subst (Occurs (shape ∷ shapes)) (sym (chains-cons before last spare n ns))
    (occurs_flat (chain_block last ns) shape (strips_after before last spare n) (shape ∷ shapes)
    (next_listed before last spare n shape h next)
    (occurs_map (λ rest. shape ∷ rest) shapes (chains last shape 0 ns)
    (chains_listed last shape 0 ns shapes next.strip.partition more)))

-- chains with a later first member are later
pub later_chain : (x y : List ℕ) (xs ys : List (List ℕ)) → order x y ≡ Greater → IsLaterChain (x ∷ xs) (y ∷ ys)
later_chain x y xs ys h = ap (λ o. ordering_then o (slice_cmp order xs ys)) h

-- and so are chains whose rest is later
pub later_chain_rest : (x : List ℕ) (xs ys : List (List ℕ)) → IsLaterChain xs ys → IsLaterChain (x ∷ xs) (x ∷ ys)
later_chain_rest x xs ys h = ap (λ o. ordering_then o (slice_cmp order xs ys)) (tied_itself order_total x) ∙ h

-- The chains descend.
pub chains_descend : (before last : List ℕ) (spare : ℕ) (ns : List ℕ) → IsPartition last →
    InOrder IsLaterChain (chains before last spare ns)
chains_descend before last spare [] h = subst (InOrder IsLaterChain) (sym (chains-nil before last spare)) (tt, tt)
chains_descend before last spare (n ∷ ns) h =
    subst (InOrder IsLaterChain) (sym (chains-cons before last spare n ns))
    (in_order-flat (IsNext before last spare n) IsLater IsLaterChain (chain_block last ns)
    (strips_after before last spare n) (listed_next before last spare n h)
    (strips_descend (rows_of before last) (part last 1 + n) spare n)
    (λ shape next. in_order-map IsLaterChain (λ shapes. shape ∷ shapes) (chains last shape 0 ns)
    (in_order-weaken IsLaterChain (λ xs ys. IsLaterChain (shape ∷ xs) (shape ∷ ys)) (chains last shape 0 ns)
    (λ xs ys later. later_chain_rest shape xs ys later) (chains_descend last shape 0 ns next.strip.partition)))
    (λ x y nx ny later. all_map (λ xs. AllByRecursion (IsLaterChain xs) (chain_block last ns y)) (λ shapes. x ∷ shapes)
    (chains last x 0 ns)
    (all_every (λ xs. AllByRecursion (IsLaterChain (x ∷ xs)) (chain_block last ns y)) (chains last x 0 ns)
    (λ xs. all_map (IsLaterChain (x ∷ xs)) (λ shapes. y ∷ shapes) (chains last y 0 ns)
    (all_every (λ ys. IsLaterChain (x ∷ xs) (y ∷ ys)) (chains last y 0 ns)
    (λ ys. later_chain x y xs ys
    (order_one_degree x y (nx.strip.total ∙ sym ny.strip.total) ∙ later)))))))

-- ---- all fillings

-- the chains of all fillings over lambda with content mu
abbrev pub all_chains : List ℕ → List ℕ → List (List (List ℕ))
all_chains lambda mu = map (λ shapes. lambda ∷ shapes) (chains lambda lambda (part mu 1) mu)

-- in the words of the contract
pub descending : (chains : List (List (List ℕ))) → InOrder IsLaterChain chains → DescendingChains chains
descending [] h = tt
descending (chain ∷ chains) (h, hs) = (h, descending chains hs)

chain_listed : (lambda mu : List ℕ) (chain : List (List ℕ)) → IsPartition lambda → IsStripChain lambda mu chain →
    Occurs chain (all_chains lambda mu)
chain_listed lambda mu [] h s = absurd s
chain_listed lambda mu (inner ∷ shapes) h (is, s) =
    subst (λ x. Occurs (x ∷ shapes) (all_chains lambda mu)) (sym is)
    (occurs_map (λ rest. lambda ∷ rest) shapes (chains lambda lambda (part mu 1) mu)
    (chains_listed lambda lambda (part mu 1) mu shapes h s))

-- each that is listed is the chain of a filling
pub all_fillings : (lambda mu : List ℕ) → IsPartition lambda → AllByRecursion (IsChain lambda mu) (all_chains lambda mu)
all_fillings lambda mu h =
    all_map (IsChain lambda mu) (λ shapes. lambda ∷ shapes) (chains lambda lambda (part mu 1) mu)
    (all_weaken (AreStrips lambda lambda (part mu 1) mu) (λ shapes. IsChain lambda mu (lambda ∷ shapes))
    (chains lambda lambda (part mu 1) mu)
    (λ shapes s. (end_from lambda shapes, filling_of_strips lambda mu shapes h s))
    (listed_chains lambda lambda (part mu 1) mu h))

-- The list has each filling once, and is descending.
pub lists_fillings : (lambda mu : List ℕ) → IsPartition lambda → ListsEach (IsChain lambda mu) (all_chains lambda mu)
lists_fillings lambda mu h = record {
  each = λ chain. (
    λ c. at_occurs (IsChain lambda mu) chain (all_chains lambda mu) (occurs chain (all_chains lambda mu) c)
        (all_fillings lambda mu h),
    λ (nu, (rows, (filling, is))). contains chain (all_chains lambda mu)
        (subst (λ x. Occurs x (all_chains lambda mu)) is
        (chain_listed lambda mu (chain_of lambda (length mu) rows) h (strips_of_filling lambda mu nu rows h filling))),
  );
  descending = descending (all_chains lambda mu)
      (in_order-map IsLaterChain (λ shapes. lambda ∷ shapes) (chains lambda lambda (part mu 1) mu)
      (in_order-weaken IsLaterChain (λ xs ys. IsLaterChain (lambda ∷ xs) (lambda ∷ ys))
      (chains lambda lambda (part mu 1) mu) (λ xs ys later. later_chain_rest lambda xs ys later)
      (chains_descend lambda lambda (part mu 1) mu h)));
}
