-- Parts that decrease weakly, and the partitions that words are read as.
use Rattle.std.proofs.Common.{◌≡◌, ℕ, zero, suc, ◌<◌, ◌≤◌, Bool, true, false, cond, nat_le, List, [], ◌∷◌, ◌++◌}
use Rattle.std.proofs.Common.{replicate, slice_index, codes, refl, subst, arith}
use Rattle.std.proofs.Common.{Option, Some, None, le-leb}
use Rattle.std.specs.Cmp.Lexicographic.{pointwise}
use Rattle.std.specs.List.{AllByRecursion}
use Rattle.std.specs.Option.{option_map, option_and_then}
use Rattle.std.proofs.lemmas.Bool.{leb-true, and_from, and_parts}
use Rattle.std.specs.Prelude.{nat_eq}
use Rattle.sp_defs.specs.Partition.{IsPartition}
use Rattle.sp_shapes.proofs.Diagram.{IsPartition-tail}
use Rattle.sp_shapes.proofs.Listing.{IsPartition-nil, IsPartition-cons}
use Rattle.sp_partition.specs.Reading.{positive_of, cut, item_of, items_of, falls, list_of, inner, partition_of}
use Rattle.sp_partition.proofs.ItemReading.{positive_number}
use Rattle.sp_partition.proofs.Numbers.{number_positive}

-- ---- the test

falls_tail : (p : ℕ) (parts : List ℕ) → falls (p ∷ parts) ≡ true → falls parts ≡ true
falls_tail p [] h = refl
falls_tail p (q ∷ parts) h = (and_parts (nat_le q p) (falls (q ∷ parts)) h).1

falls_head : (p : ℕ) (parts : List ℕ) → falls (p ∷ parts) ≡ true → slice_index parts 0 ≤ p
falls_head p [] h = omega arith
falls_head p (q ∷ parts) h = leb-true q p (and_parts (nat_le q p) (falls (q ∷ parts)) h).0

-- The parts of a partition pass the test.
pub falls_partition : (parts : List ℕ) → IsPartition parts → falls parts ≡ true
falls_partition [] h = refl
falls_partition (p ∷ []) h = refl
falls_partition (p ∷ q ∷ parts) h =
    and_from (nat_le q p) (falls (q ∷ parts)) (le-leb q p (h.descending 0))
    (falls_partition (q ∷ parts) (IsPartition-tail p (q ∷ parts) h))

-- In parts that pass, the next is at most the one before it.
pub falls_step : (before : List ℕ) (q p : ℕ) (more : List ℕ) → falls ((before ++ q ∷ []) ++ p ∷ more) ≡ true → p ≤ q
falls_step [] q p more h = falls_head q (p ∷ more) h
falls_step (x ∷ before) q p more h = falls_step before q p more (falls_tail x ((before ++ q ∷ []) ++ p ∷ more) h)

-- ---- what is read is a partition

-- No part is 0.
abbrev pub Positive : List ℕ → Type 0
Positive parts = AllByRecursion (λ p. 0 < p) parts

partition_falls : (parts : List ℕ) → Positive parts → falls parts ≡ true → IsPartition parts
partition_falls [] h f = IsPartition-nil
partition_falls (p ∷ parts) (h, hs) f =
    IsPartition-cons p parts h (falls_head p parts f) (partition_falls parts hs (falls_tail p parts f))

positive_run : (m p : ℕ) → 0 < p → Positive (replicate m p)
positive_run zero p h = tt
positive_run (suc m) p h = (h, positive_run m p h)

positive_append : (xs ys : List ℕ) → Positive xs → Positive ys → Positive (xs ++ ys)
positive_append [] ys h k = k
positive_append (x ∷ xs) ys (h, hs) k = (h, positive_append xs ys hs k)

-- The value is there, and it has the property.
abbrev pub Holds : (List ℕ → Type 0) → Option (List ℕ) → Type 0
Holds P None = Unit {0}
Holds P (Some parts) = P parts

read_positive : (text : List ℕ) (n : ℕ) → positive_of text ≡ Some n → 0 < n
read_positive text n e = number_positive text n (positive_number text n e)

item_positive : (pieces : List (List ℕ)) → Holds Positive (item_of pieces)
item_positive [] = tt
item_positive (base ∷ []) = settle (positive_of base) refl
  where
    settle : (o : Option ℕ) → positive_of base ≡ o → Holds Positive (option_map (λ p. p ∷ []) o)
    settle None e = tt
    settle (Some p) e = (read_positive base p e, tt)
item_positive (base ∷ exponent ∷ []) = settle (positive_of base) refl (positive_of exponent)
  where
    settle : (o : Option ℕ) → positive_of base ≡ o → (count : Option ℕ) →
        Holds Positive (option_and_then (λ p. option_map (λ m. replicate m p) count) o)
    settle None e count = tt
    settle (Some p) e None = tt
    settle (Some p) e (Some m) = positive_run m p (read_positive base p e)
item_positive (base ∷ exponent ∷ other ∷ pieces) = tt

items_positive : (items : List (List ℕ)) → Holds Positive (items_of items)
items_positive [] = tt
items_positive (item ∷ items) =
    settle (item_of (cut 94 item)) (items_of items) (item_positive (cut 94 item)) (items_positive items)
  where
    settle : (o rest : Option (List ℕ)) → Holds Positive o → Holds Positive rest →
        Holds Positive (option_and_then (λ parts. option_map (λ more. parts ++ more) rest) o)
    settle None rest h k = tt
    settle (Some parts) None h k = tt
    settle (Some parts) (Some more) h k = positive_append parts more h k

list_partition : (text : List ℕ) → Holds IsPartition (list_of text)
list_partition text = settle (items_of (cut 44 text)) (items_positive (cut 44 text))
  where
    settle : (o : Option (List ℕ)) → Holds Positive o →
        Holds IsPartition (option_and_then (λ parts. cond (falls parts) (Some parts) None) o)
    settle None h = tt
    settle (Some parts) h = decide (falls parts) refl
      where
        decide : (b : Bool) → falls parts ≡ b → Holds IsPartition (cond b (Some parts) None)
        decide true f = partition_falls parts h f
        decide false f = tt

-- A word is read as a partition, where it is read as anything.
pub reads_partition : (text p : List ℕ) → partition_of text ≡ Some p → IsPartition p
unfolding partition_of
reads_partition text p e = subst (Holds IsPartition) e (settle (pointwise nat_eq text (codes "-")))
  where
    settle : (b : Bool) → Holds IsPartition (cond b (Some []) (list_of (inner text)))
    settle true = IsPartition-nil
    settle false = list_partition (inner text)
