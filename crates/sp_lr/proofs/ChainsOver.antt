-- The computed list of all fillings has each once, descending; so has that of the fillings of each partition.
use Rattle.std.proofs.Common.{◌≡◌, ℕ, ◌+◌, Bool, true, List, [], ◌∷◌, ◌++◌, map, filter, length, sym}
use Rattle.std.proofs.Common.{◌∙◌, ap, ap₂, subst, arith, Less, Greater, slice_index_or}
use Rattle.std.specs.List.{AllByRecursion}
use Rattle.std.specs.Ordering.{ordering_reverse}
use Rattle.std.proofs.lemmas.Cmp.{lists_total}
use Rattle.std.proofs.lemmas.List.{length-map}
use Rattle.sp_defs.specs.Partition.{part, IsPartition}
use Rattle.sp_lists.proofs.Elements.{all_filter, all_map}
use Rattle.sp_lists.proofs.Occurrence.{Occurs, all_occur, at_occurs, contains, occurs, occurs_filter, occurs_map}
use Rattle.sp_lists.proofs.Places.{all_weaken}
use Rattle.sp_partition.specs.OrderLaws.{order_total, equal_lists, lists_equal}
use Rattle.sp_lr_defs.specs.Filling.{IsChain, IsChainTo, IsFilling, IsLaterChain, DescendingChains, ListsEach}
use Rattle.sp_lr_defs.specs.Filling.{chain_of, member, word}
use Rattle.sp_lr_defs.specs.Strip.{IsStripChain, end_from}
use Rattle.sp_lr_defs.specs.Listing.{chain_rows, is_lattice, tableaux_on, chains_over, ends_with, chains_to}
use Rattle.sp_lr_defs.proofs.Strips.{strips_of_filling}
use Rattle.sp_lr_defs.proofs.Backward.{strips_length, end_at}
use Rattle.sp_lr_defs.proofs.Forward.{member_last}
use Rattle.sp_lr_defs.proofs.Trimmed.{mapped_at}
use Rattle.sp_lr_defs.proofs.ChainRows.{filling_of_tested, strips_tested}
use Rattle.sp_lr_defs.proofs.Tableaux.{AreTableau, tableau_of_strips}
use Rattle.sp_lr.specs.Strips.{behind, chains}
use Rattle.sp_lr.proofs.InOrder.{InOrder, in_order-filter, in_order-map, in_order-weaken, same_in_order}
use Rattle.sp_lr.proofs.ChainLists.{all_chains, descending, later_chain_rest, lists_fillings}
use Rattle.sp_lr.proofs.Tableaux.{all_tableaux, each_tableau, tableaux_fall}

-- ---- all fillings

-- the test of a chain
abbrev passes : List ℕ → List (List ℕ) → Bool
passes mu chain = is_lattice (length mu) (word (chain_rows (length mu) chain))

all_over : (lambda mu : List ℕ) → IsPartition lambda → AllByRecursion (IsChain lambda mu) (chains_over lambda mu)
unfolding chains_over
all_over lambda mu h =
    all_filter (IsChain lambda mu) (passes mu) (map (λ shapes. lambda ∷ shapes) (tableaux_on lambda mu))
    (all_map (λ chain. passes mu chain ≡ true → IsChain lambda mu chain) (λ shapes. lambda ∷ shapes)
    (tableaux_on lambda mu)
    (all_weaken (AreTableau lambda mu) (λ shapes. passes mu (lambda ∷ shapes) ≡ true → IsChain lambda mu
    (lambda ∷ shapes)) (tableaux_on lambda mu)
    (λ shapes s t. (end_from lambda shapes, filling_of_tested lambda mu shapes h s t)) (all_tableaux lambda mu)))

-- each chain of strips is listed
strips_over : (lambda mu : List ℕ) (chain : List (List ℕ)) → IsPartition lambda → IsStripChain lambda mu chain →
    Occurs chain (chains_over lambda mu)
unfolding chains_over
strips_over lambda mu [] h s = absurd s
strips_over lambda mu (inner ∷ shapes) h (is, s) =
    subst (λ x. Occurs (x ∷ shapes) (filter (passes mu) (map (λ shapes. lambda ∷ shapes) (tableaux_on lambda mu))))
    (sym is)
    (occurs_filter (passes mu) (lambda ∷ shapes) (map (λ shapes. lambda ∷ shapes) (tableaux_on lambda mu))
    (strips_tested lambda mu shapes h s)
    (occurs_map (λ shapes. lambda ∷ shapes) shapes (tableaux_on lambda mu)
    (each_tableau lambda mu shapes (tableau_of_strips lambda lambda (part mu 1) mu shapes s))))

each_over : (lambda mu : List ℕ) (chain : List (List ℕ)) → IsPartition lambda → IsChain lambda mu chain →
    Occurs chain (chains_over lambda mu)
each_over lambda mu chain h (nu, (rows, (filling, is))) =
    strips_over lambda mu chain h
    (subst (IsStripChain lambda mu) is (strips_of_filling lambda mu nu rows h filling))

over_fall : (lambda mu : List ℕ) → InOrder IsLaterChain (chains_over lambda mu)
unfolding chains_over
over_fall lambda mu =
    in_order-filter IsLaterChain (passes mu) (map (λ shapes. lambda ∷ shapes) (tableaux_on lambda mu))
    (in_order-map IsLaterChain (λ shapes. lambda ∷ shapes) (tableaux_on lambda mu)
    (in_order-weaken IsLaterChain (λ xs ys. IsLaterChain (lambda ∷ xs) (lambda ∷ ys)) (tableaux_on lambda mu)
    (λ xs ys later. later_chain_rest lambda xs ys later) (tableaux_fall lambda mu)))

-- The computed list has each filling once, descending.
pub lists_over : (lambda mu : List ℕ) → IsPartition lambda → ListsEach (IsChain lambda mu) (chains_over lambda mu)
lists_over lambda mu h = record {
  each = λ chain. (
    λ c. at_occurs (IsChain lambda mu) chain (chains_over lambda mu) (occurs chain (chains_over lambda mu) c)
        (all_over lambda mu h),
    λ is. contains chain (chains_over lambda mu) (each_over lambda mu chain h is),
  );
  descending = descending (chains_over lambda mu) (over_fall lambda mu);
}

-- ---- such a list is the only one

in_order : (chains : List (List (List ℕ))) → DescendingChains chains → InOrder IsLaterChain chains
in_order [] d = tt
in_order (chain ∷ chains) (first, d) = (first, in_order chains d)

-- of two chains only one is later
later_once : (first second : List (List ℕ)) → IsLaterChain first second → IsLaterChain second first → ⊥
later_once first second h k =
    wrong (sym ((lists_total order_total).antisymm second first ∙ ap ordering_reverse h) ∙ k)
  where
    wrong : Less ≡ Greater → ⊥
    wrong e = cc

-- what one list has occurs in the other
listed_in : (P : List (List ℕ) → Type 0) (xs ys : List (List (List ℕ))) → ListsEach P xs → ListsEach P ys →
    AllByRecursion (λ chain. Occurs chain ys) xs
listed_in P xs ys hx hy =
    all_weaken (λ chain. Occurs chain xs) (λ chain. Occurs chain ys) xs
    (λ chain o. occurs chain ys ((hy.each chain).1 ((hx.each chain).0 (contains chain xs o)))) (all_occur xs)

-- There is only one list that has each chain with a property once, descending.
pub one_list : (P : List (List ℕ) → Type 0) (xs ys : List (List (List ℕ))) → ListsEach P xs → ListsEach P ys → xs ≡ ys
one_list P xs ys hx hy =
    same_in_order IsLaterChain later_once xs ys (in_order xs hx.descending) (in_order ys hy.descending)
    (listed_in P xs ys hx hy) (listed_in P ys xs hy hx)

-- The list that the code makes is the computed one.
pub made_over : (lambda mu : List ℕ) → IsPartition lambda → all_chains lambda mu ≡ chains_over lambda mu
made_over lambda mu h =
    one_list (IsChain lambda mu) (all_chains lambda mu) (chains_over lambda mu) (lists_fillings lambda mu h)
    (lists_over lambda mu h)

-- as long as the one that the code goes through
pub over-length : (lambda mu : List ℕ) (spare : ℕ) (sizes : List ℕ) → IsPartition lambda → spare ≡ part mu 1 →
    sizes ≡ mu → length (chains_over lambda mu) ≡ length (chains lambda lambda spare sizes)
over-length lambda mu spare sizes h e e' =
    ap length (sym (made_over lambda mu h))
    ∙ length-map (chains lambda lambda (part mu 1) mu) (λ shapes. lambda ∷ shapes)
    ∙ sym (ap₂ (λ n ns. length (chains lambda lambda n ns)) e e')

-- what the code found, where it began with nothing
pub found_over : (lambda mu : List ℕ) (before found : List (List (List ℕ))) (front : List (List ℕ)) (spare : ℕ)
    (sizes : List ℕ) → IsPartition lambda → before ≡ [] → front ≡ lambda ∷ [] → spare ≡ part mu 1 → sizes ≡ mu →
    found ≡ before ++ behind front (chains lambda lambda spare sizes) → found ≡ chains_over lambda mu
found_over lambda mu before found front spare sizes h none first e e' is =
    is
    ∙ ap₂ (λ xs ys. xs ++ behind ys (chains lambda lambda spare sizes)) none first
    ∙ ap₂ (λ n ns. behind (lambda ∷ []) (chains lambda lambda n ns)) e e'
    ∙ made_over lambda mu h

-- ---- the fillings of one partition

-- the chain of a filling of nu ends with nu
pub chain_ends : (lambda mu nu : List ℕ) (rows : List (List ℕ)) (inner : List ℕ) (shapes : List (List ℕ)) →
    IsPartition lambda → IsFilling lambda mu nu rows → chain_of lambda (length mu) rows ≡ inner ∷ shapes →
    length shapes ≡ length mu → end_from inner shapes ≡ nu
chain_ends lambda mu nu rows inner shapes h filling is size =
    sym (end_at inner shapes)
    ∙ ap₂ (λ xs n. slice_index_or xs n []) (sym is) size
    ∙ mapped_at (member lambda rows) [] 0 (length mu + 1) (length mu) (omega arith)
    ∙ ap (member lambda rows) (omega arith)
    ∙ member_last lambda mu nu rows h filling

-- so a chain to nu passes the test
ends_in : (lambda mu nu : List ℕ) (chain : List (List ℕ)) → IsPartition lambda → IsChainTo lambda mu nu chain →
    ends_with nu chain ≡ true
ends_in lambda mu nu chain h (rows, (filling, is)) =
    tested chain is (subst (IsStripChain lambda mu) is (strips_of_filling lambda mu nu rows h filling))
  where
    tested : (chain : List (List ℕ)) → chain_of lambda (length mu) rows ≡ chain → IsStripChain lambda mu chain →
        ends_with nu chain ≡ true
    tested [] e s = absurd s
    tested (inner ∷ shapes) e (first, s) =
        lists_equal (end_from inner shapes) nu
        (chain_ends lambda mu nu rows inner shapes h filling e (strips_length lambda lambda (part mu 1) mu shapes s))

-- a chain ends with one partition alone
one_end : (nu nu' : List ℕ) (chain : List (List ℕ)) → ends_with nu chain ≡ true → ends_with nu' chain ≡ true →
    nu ≡ nu'
one_end nu nu' [] e e' = cc
one_end nu nu' (inner ∷ shapes) e e' =
    sym (equal_lists (end_from inner shapes) nu e) ∙ equal_lists (end_from inner shapes) nu' e'

-- what ends with nu is a chain to it
pub all_to : (lambda mu nu : List ℕ) → IsPartition lambda →
    AllByRecursion (IsChainTo lambda mu nu) (chains_to lambda mu nu)
all_to lambda mu nu h =
    all_filter (IsChainTo lambda mu nu) (ends_with nu) (chains_over lambda mu)
    (all_weaken (IsChain lambda mu) (λ chain. ends_with nu chain ≡ true → IsChainTo lambda mu nu chain)
    (chains_over lambda mu)
    (λ chain (other, to) t. subst (λ x. IsChainTo lambda mu x chain)
    (one_end other nu chain (ends_in lambda mu other chain h to) t) to)
    (all_over lambda mu h))

-- each chain to nu is among those that end with it
pub each_to : (lambda mu nu : List ℕ) (chain : List (List ℕ)) → IsPartition lambda → IsChainTo lambda mu nu chain →
    Occurs chain (chains_to lambda mu nu)
each_to lambda mu nu chain h to =
    occurs_filter (ends_with nu) chain (chains_over lambda mu) (ends_in lambda mu nu chain h to)
    (each_over lambda mu chain h (nu, to))

-- The computed list has each filling of nu once, descending.
pub lists_to : (lambda mu nu : List ℕ) → IsPartition lambda →
    ListsEach (IsChainTo lambda mu nu) (chains_to lambda mu nu)
lists_to lambda mu nu h = record {
  each = λ chain. (
    λ c. at_occurs (IsChainTo lambda mu nu) chain (chains_to lambda mu nu)
        (occurs chain (chains_to lambda mu nu) c) (all_to lambda mu nu h),
    λ to. contains chain (chains_to lambda mu nu) (each_to lambda mu nu chain h to),
  );
  descending = descending (chains_to lambda mu nu)
      (in_order-filter IsLaterChain (ends_with nu) (chains_over lambda mu) (over_fall lambda mu));
}
