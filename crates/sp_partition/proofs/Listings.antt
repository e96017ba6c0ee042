-- The partitions of a number, listed by how often the greatest part stands in them.
use Rattle.std.proofs.Common.{◌≡◌, ℕ, zero, suc, ◌+◌, ◌-◌, ◌*◌, ◌/◌, ◌<◌, ◌≤◌, List, [], ◌∷◌, ◌++◌, map, flat_map}
use Rattle.std.proofs.Common.{replicate, slice_index, refl, sym, ◌∙◌, ap, ap₂, subst, arith, append_assoc, append-nil}
use Rattle.std.proofs.Common.{Bool, true, false, cond, nat_eq, eqb-true, le_trans, mul-le-mul_right, div-mul-le_self}
use Rattle.std.proofs.Common.{Option, Some, filter}
use Rattle.std.specs.Option.{SomeIff}
use Rattle.std.specs.List.{AllByRecursion, range_with_len}
use Rattle.std.proofs.lemmas.List.{map-append, map-id}
use Rattle.std.proofs.lemmas.List.Concat.{flat_map-cons}
use Rattle.sp_defs.specs.Partition.{IsPartition, degree, is_regular, partitions, partitions_within, regulars}
use Rattle.sp_lists.proofs.Elements.{all_append}
use Rattle.sp_lists.proofs.FlatMaps.{flat_map-range_more}
use Rattle.sp_lists.proofs.Places.{all_weaken}
use Rattle.sp_partition.proofs.Extending.{degree-run}
use Rattle.sp_shapes.proofs.Diagram.{IsPartition-tail, IsPartition-head}
use Rattle.sp_shapes.proofs.Listing.{IsPartition-nil, IsPartition-cons}

-- ---- equal parts behind parts that are as great

below_run : (x k p : ℕ) → p ≤ x → slice_index (replicate k p) 0 ≤ x
below_run x zero p h = omega arith
below_run x (suc k) p h = h

below_first : (x : ℕ) (front : List ℕ) (k p : ℕ) → p ≤ x → slice_index front 0 ≤ x →
    slice_index (front ++ replicate k p) 0 ≤ x
below_first x [] k p h first = below_run x k p h
below_first x (y ∷ front) k p h first = first

-- A run behind parts that are as great makes a partition.
pub run_after : (front : List ℕ) (k p : ℕ) → IsPartition front → 0 < p → AllByRecursion (λ q. p ≤ q) front →
    IsPartition (front ++ replicate k p)
run_after [] zero p h hp all = IsPartition-nil
run_after [] (suc k) p h hp all =
    IsPartition-cons p (replicate k p) hp (below_run p k p (omega arith)) (run_after [] k p h hp tt)
run_after (x ∷ front) k p h hp (hx, hs) =
    IsPartition-cons x (front ++ replicate k p) (IsPartition-head x front h)
    (below_first x front k p hx (h.descending 0)) (run_after front k p (IsPartition-tail x front h) hp hs)

all_run : (P : ℕ → Type 0) (k p : ℕ) → P p → AllByRecursion P (replicate k p)
all_run P zero p h = tt
all_run P (suc k) p h = (h, all_run P k p h)

-- The parts with the run are as great as the next smaller part.
pub least_after : (front : List ℕ) (k p : ℕ) → AllByRecursion (λ q. p ≤ q) front →
    AllByRecursion (λ q. p - 1 ≤ q) (front ++ replicate k p)
least_after front k p all =
    all_append (λ q. p - 1 ≤ q) front (replicate k p)
    (all_weaken (λ q. p ≤ q) (λ q. p - 1 ≤ q) front (λ q h. omega (arith, h)) all)
    (all_run (λ q. p - 1 ≤ q) k p (omega arith))

-- where so many parts more are some of the rest, there is room for what is left of it
pub room_after : (front longer : List ℕ) (k p rest room : ℕ) → longer ≡ front ++ replicate k p → k < rest / p + 1 →
    degree front + rest ≤ room → degree longer + (rest - k * p) ≤ room
room_after front longer k p rest room is few h =
    let within : k * p ≤ rest = le_trans (mul-le-mul_right p (below few)) (div-mul-le_self rest p) in
    fits (degree front) (degree longer) (k * p) rest (ap degree is ∙ degree-run front p k) within h
  where
    below : {a b : ℕ} → a < b + 1 → a ≤ b
    below h = omega (arith, h)

    fits : (d l part rest : ℕ) → l ≡ d + part → part ≤ rest → d + rest ≤ room → l + (rest - part) ≤ room
    fits d l part rest e w h = omega arith

-- The value that a call answered is the one that its contract names.
pub unwrapped : (r : Option (List ℕ)) (P : Type 0) (x v : List ℕ) → SomeIff r P v → r ≡ Some x → x ≡ v
unwrapped r P x v h is = (subst (λ o. SomeIff o P v) is h).1

-- ---- lists behind the same parts

-- The lists with `front` in front of each.
abbrev pub behind : List ℕ → List (List ℕ) → List (List ℕ)
behind front tails = map (λ tail. front ++ tail) tails

behind_both : (front run : List ℕ) (tails : List (List ℕ)) →
    behind (front ++ run) tails ≡ behind front (behind run tails)
behind_both front run [] = refl
behind_both front run (tail ∷ tails) = ap₂ (λ x xs. x ∷ xs) (append_assoc front run tail) (behind_both front run tails)

behind_flat : (front : List ℕ) (f : ℕ → List (List ℕ)) (ks : List ℕ) →
    flat_map (λ k. behind front (f k)) ks ≡ behind front (flat_map f ks)
behind_flat front f [] = refl
behind_flat front f (k ∷ ks) =
    flat_map-cons (λ k. behind front (f k)) k ks
    ∙ ap (λ xs. behind front (f k) ++ xs) (behind_flat front f ks)
    ∙ sym (map-append (λ tail. front ++ tail) (f k) (flat_map f ks))
    ∙ ap (behind front) (sym (flat_map-cons f k ks))

-- ---- the partitions, by how often the greatest part stands in them

-- those with so many parts `most`
abbrev pub block : ℕ → ℕ → ℕ → List (List ℕ)
block most rest k = behind (replicate k most) (partitions_within (most - 1) (rest - k * most))

-- those with fewer
abbrev pub blocks : List ℕ → ℕ → ℕ → ℕ → List (List ℕ)
blocks front most rest times = flat_map (λ k. behind front (block most rest k)) (range_with_len 0 times)

-- Before the first round nothing is added.
pub blocks_none : (before : List (List ℕ)) (front : List ℕ) (most rest : ℕ) →
    before ≡ before ++ blocks front most rest 0
blocks_none before front most rest = sym (append-nil before)

-- One round adds the block with so many parts.
pub blocks_more : (initial before after : List (List ℕ)) (front longer : List ℕ) (most rest times : ℕ) →
    before ≡ initial ++ blocks front most rest times → longer ≡ front ++ replicate times most →
    after ≡ before ++ behind longer (partitions_within (most - 1) (rest - times * most)) →
    after ≡ initial ++ blocks front most rest (times + 1)
blocks_more initial before after front longer most rest times so_far is more =
    more
    ∙ ap₂ (λ xs ys. xs ++ ys) so_far
    (ap (λ xs. behind xs tails) is ∙ behind_both front (replicate times most) tails)
    ∙ append_assoc initial (blocks front most rest times) (behind front (block most rest times))
    ∙ ap (λ xs. initial ++ xs)
    (sym (flat_map-range_more (λ k. behind front (block most rest k)) 0 times times (omega arith)))
  where
    tails : List (List ℕ)
    tails = partitions_within (most - 1) (rest - times * most)

within_blocks : (most rest : ℕ) → 0 < most →
    partitions_within most rest ≡ flat_map (block most rest) (range_with_len 0 (rest / most + 1))
unfolding partitions_within
within_blocks zero rest h = absurd (omega arith)
within_blocks (suc most) rest h =
    ap (λ m. flat_map (λ k. behind (replicate k (suc most)) (partitions_within m (rest - k * suc most)))
    (range_with_len 0 (rest / suc most + 1))) (one_less most)
  where
    one_less : (most : ℕ) → most ≡ suc most - 1
    one_less most = omega arith

-- All rounds add all partitions within the bound.
pub blocks_all : (front : List ℕ) (most rest : ℕ) → 0 < most →
    blocks front most rest (rest / most + 1) ≡ behind front (partitions_within most rest)
blocks_all front most rest h =
    behind_flat front (block most rest) (range_with_len 0 (rest / most + 1))
    ∙ ap (behind front) (sym (within_blocks most rest h))

-- ---- with no part left

-- Of nothing left there is the empty partition alone.
pub within_nothing : (front : List ℕ) (most rest : ℕ) → most ≡ 0 → rest ≡ 0 →
    front ∷ [] ≡ behind front (partitions_within most rest)
unfolding partitions_within
within_nothing front zero zero h e = ap (λ xs. xs ∷ []) (sym (append-nil front))
within_nothing front zero (suc rest) h e = absurd (omega arith)
within_nothing front (suc most) rest h e = absurd (omega arith)

-- With no part left there is none of anything else.
pub within_none : (before : List (List ℕ)) (front : List ℕ) (most rest : ℕ) → most ≡ 0 → 0 < rest →
    before ≡ before ++ behind front (partitions_within most rest)
unfolding partitions_within
within_none before front zero zero h e = absurd (omega arith)
within_none before front zero (suc rest) h e = nothing (nat_eq (suc rest) 0) refl
  where
    nothing : (b : Bool) → nat_eq (suc rest) 0 ≡ b → before ≡ before ++ behind front (cond b ([] ∷ []) [])
    nothing true is = absurd (let z = eqb-true (suc rest) 0 is in omega (arith, z))
    nothing false is = sym (append-nil before)
within_none before front (suc most) rest h e = absurd (omega arith)

-- ---- the whole list

-- Behind no parts they are the partitions of n.
pub partitions_behind : (front : List ℕ) (n : ℕ) → front ≡ [] → behind front (partitions_within n n) ≡ partitions n
unfolding partitions
partitions_behind front n is = ap (λ xs. behind xs (partitions_within n n)) is ∙ map-id (partitions_within n n)

-- Those that pass the test are the e-regular ones.
pub regulars_from : (e n : ℕ) → filter (is_regular e) (partitions n) ≡ regulars e n
unfolding regulars
regulars_from e n = refl
