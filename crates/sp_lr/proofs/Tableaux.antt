-- The list of the chains of horizontal strips: each is listed, once, descending.
use Rattle.std.proofs.Common.{◌≡◌, ℕ, ◌+◌, true, List, [], ◌∷◌, map, flat_map, reverse, refl, sym, ◌∙◌, subst}
use Rattle.std.proofs.Common.{inl, Greater}
use Rattle.std.specs.List.{AllByRecursion}
use Rattle.sp_defs.specs.Partition.{degree, order, partitions, Ascending, IsEarlier, IsPartitionOf}
use Rattle.sp_lists.proofs.Elements.{all_every, all_filter, all_flat, all_map, all_reverse}
use Rattle.sp_lists.proofs.Occurrence.{Occurs, occurs_filter, occurs_flat, occurs_map, occurs_reverse}
use Rattle.sp_lists.proofs.Places.{all_weaken}
use Rattle.sp_shapes.proofs.Listing.{all_partitions, each_partition, partitions_ascend}
use Rattle.sp_shapes.proofs.Order.{later_than}
use Rattle.sp_partition.specs.OrderLaws.{order_one_degree}
use Rattle.sp_lr_defs.specs.Filling.{IsLaterChain}
use Rattle.sp_lr_defs.specs.Strip.{IsStrip}
use Rattle.sp_lr_defs.specs.Listing.{is_strip, strips_on, tableaux_on}
use Rattle.sp_lr_defs.proofs.Tableaux.{AreTableau, strip_tested, tested_strip}
use Rattle.sp_lr.proofs.InOrder.{InOrder, in_order-among, in_order-filter, in_order-flat, in_order-map}
use Rattle.sp_lr.proofs.InOrder.{in_order-reverse, in_order-weaken}
use Rattle.sp_lr.proofs.ChainLists.{later_chain, later_chain_rest}

-- ---- partitions

-- the first partition is later
abbrev pub ComesLater : List ℕ → List ℕ → Type 0
ComesLater first second = order first second ≡ Greater

ascending : (ps : List (List ℕ)) → Ascending ps → InOrder IsEarlier ps
ascending [] a = tt
ascending (p ∷ ps) (first, a) = (first, ascending ps a)

-- the partitions of n ascend in the order of partitions
pub partitions_rise : (n : ℕ) → InOrder (λ p q. ComesLater q p) (partitions n)
partitions_rise n =
    in_order-among (IsPartitionOf n) IsEarlier (λ p q. ComesLater q p) (partitions n) (all_partitions n)
    (λ p q hp hq earlier. order_one_degree q p (hq.total ∙ sym hp.total) ∙ later_than p q earlier)
    (ascending (partitions n) (partitions_ascend n))

-- ---- strips

all_strips : (last : List ℕ) (n : ℕ) → AllByRecursion (λ shape. IsStrip last shape n) (strips_on last n)
unfolding strips_on
all_strips last n =
    all_filter (λ shape. IsStrip last shape n) (is_strip last) (reverse (partitions (degree last + n)))
    (all_reverse (λ shape. is_strip last shape ≡ true → IsStrip last shape n) (partitions (degree last + n))
    (all_weaken (IsPartitionOf (degree last + n)) (λ shape. is_strip last shape ≡ true → IsStrip last shape n)
    (partitions (degree last + n)) (λ shape h t. strip_tested last shape n h t) (all_partitions (degree last + n))))

each_strip : (last shape : List ℕ) (n : ℕ) → IsStrip last shape n → Occurs shape (strips_on last n)
unfolding strips_on
each_strip last shape n s =
    occurs_filter (is_strip last) shape (reverse (partitions (degree last + n))) (tested_strip last shape n s)
    (occurs_reverse shape (partitions (degree last + n))
    (each_partition (degree last + n) shape s.partition s.total))

strips_fall : (last : List ℕ) (n : ℕ) → InOrder ComesLater (strips_on last n)
unfolding strips_on
strips_fall last n =
    in_order-filter ComesLater (is_strip last) (reverse (partitions (degree last + n)))
    (in_order-reverse ComesLater (partitions (degree last + n)) (partitions_rise (degree last + n)))

-- ---- chains

-- those that go on by this partition
abbrev tableau_block : List ℕ → List ℕ → List (List (List ℕ))
tableau_block ns shape = map (λ shapes. shape ∷ shapes) (tableaux_on shape ns)

tableaux-nil : (last : List ℕ) → tableaux_on last [] ≡ [] ∷ []
unfolding tableaux_on
tableaux-nil last = refl

tableaux-cons : (last : List ℕ) (n : ℕ) (ns : List ℕ) →
    tableaux_on last (n ∷ ns) ≡ flat_map (tableau_block ns) (strips_on last n)
unfolding tableaux_on
tableaux-cons last n ns = refl

-- What is listed makes horizontal strips.
pub all_tableaux : (last ns : List ℕ) → AllByRecursion (AreTableau last ns) (tableaux_on last ns)
all_tableaux last [] = subst (AllByRecursion (AreTableau last [])) (sym (tableaux-nil last)) (tt, tt)
all_tableaux last (n ∷ ns) =
    subst (AllByRecursion (AreTableau last (n ∷ ns))) (sym (tableaux-cons last n ns))
    (all_flat (AreTableau last (n ∷ ns)) (tableau_block ns) (strips_on last n)
    (all_weaken (λ shape. IsStrip last shape n)
    (λ shape. AllByRecursion (AreTableau last (n ∷ ns)) (tableau_block ns shape)) (strips_on last n)
    (λ shape strip. all_map (AreTableau last (n ∷ ns)) (λ shapes. shape ∷ shapes) (tableaux_on shape ns)
    (all_weaken (AreTableau shape ns) (λ shapes. AreTableau last (n ∷ ns) (shape ∷ shapes)) (tableaux_on shape ns)
    (λ shapes more. (strip, more)) (all_tableaux shape ns))) (all_strips last n)))

-- Each chain of horizontal strips is listed.
pub each_tableau : (last ns : List ℕ) (shapes : List (List ℕ)) → AreTableau last ns shapes →
    Occurs shapes (tableaux_on last ns)
each_tableau last [] [] s = subst (Occurs []) (sym (tableaux-nil last)) (inl refl)
each_tableau last [] (shape ∷ shapes) s = absurd s
each_tableau last (n ∷ ns) [] s = absurd s
each_tableau last (n ∷ ns) (shape ∷ shapes) (strip, more) =
    subst (Occurs (shape ∷ shapes)) (sym (tableaux-cons last n ns))
    (occurs_flat (tableau_block ns) shape (strips_on last n) (shape ∷ shapes) (each_strip last shape n strip)
    (occurs_map (λ rest. shape ∷ rest) shapes (tableaux_on shape ns) (each_tableau shape ns shapes more)))

-- The chains descend.
pub tableaux_fall : (last ns : List ℕ) → InOrder IsLaterChain (tableaux_on last ns)
tableaux_fall last [] = subst (InOrder IsLaterChain) (sym (tableaux-nil last)) (tt, tt)
tableaux_fall last (n ∷ ns) =
    subst (InOrder IsLaterChain) (sym (tableaux-cons last n ns))
    (in_order-flat (λ shape. Unit {0}) ComesLater IsLaterChain (tableau_block ns) (strips_on last n)
    (all_every (λ shape. Unit {0}) (strips_on last n) (λ shape. tt)) (strips_fall last n)
    (λ shape _. in_order-map IsLaterChain (λ shapes. shape ∷ shapes) (tableaux_on shape ns)
    (in_order-weaken IsLaterChain (λ xs ys. IsLaterChain (shape ∷ xs) (shape ∷ ys)) (tableaux_on shape ns)
    (λ xs ys later. later_chain_rest shape xs ys later) (tableaux_fall shape ns)))
    (λ x y _ _ later. all_map (λ xs. AllByRecursion (IsLaterChain xs) (tableau_block ns y)) (λ shapes. x ∷ shapes)
    (tableaux_on x ns)
    (all_every (λ xs. AllByRecursion (IsLaterChain (x ∷ xs)) (tableau_block ns y)) (tableaux_on x ns)
    (λ xs. all_map (IsLaterChain (x ∷ xs)) (λ shapes. y ∷ shapes) (tableaux_on y ns)
    (all_every (λ ys. IsLaterChain (x ∷ xs) (y ∷ ys)) (tableaux_on y ns) (λ ys. later_chain x y xs ys later))))))
