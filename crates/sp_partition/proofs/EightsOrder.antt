-- Arrays of 32 parts stand in the order of their eights.
use Rattle.std.proofs.Common.{◌≡◌, ℕ, zero, suc, ◌+◌, ◌-◌, ◌<◌, ◌≤◌, List, [], ◌∷◌, take, drop, length, refl, sym, ◌∙◌}
use Rattle.std.proofs.Common.{ap, ap₂, subst, arith, slice_index, nat_cmp, Ordering, Less, Equal, Greater, length-drop}
use Rattle.std.proofs.Common.{length-take}
use Rattle.std.specs.Int.{w64, from_be_bytes}
use Rattle.std.specs.Ordering.{ordering_then}
use Rattle.std.proofs.lemmas.Grind.{common_steps}
use Rattle.std.proofs.lemmas.List.{drop-drop, get_or-take, get_or-drop}
use Rattle.sp_defs.specs.Partition.{compare}
use Rattle.sp_lists.proofs.Places.{all_places}
use Rattle.sp_partition.specs.Padded.{eight}
use Rattle.sp_partition.proofs.Weights.{weight_order, eight_weight, AreBytes}

then_assoc : (o p q : Ordering) → ordering_then o (ordering_then p q) ≡ ordering_then (ordering_then o p) q
then_assoc Less p q = refl
then_assoc Equal p q = refl
then_assoc Greater p q = refl

-- The first n elements decide, and then those behind them.
pub compare_parted : (n : ℕ) (xs ys : List ℕ) → length xs ≡ length ys →
    compare xs ys ≡ ordering_then (compare (take n xs) (take n ys)) (compare (drop n xs) (drop n ys))
compare_parted zero [] [] e = refl
compare_parted zero [] (y ∷ ys) e = refl
compare_parted zero (x ∷ xs) [] e = refl
compare_parted zero (x ∷ xs) (y ∷ ys) e = refl
compare_parted (suc n) [] [] e = refl
compare_parted (suc n) [] (y ∷ ys) e = absurd (omega arith)
compare_parted (suc n) (x ∷ xs) [] e = absurd (omega arith)
compare_parted (suc n) (x ∷ xs) (y ∷ ys) e =
    ap (ordering_then (nat_cmp x y)) (compare_parted n xs ys (omega arith))
    ∙ then_assoc (nat_cmp x y) (compare (take n xs) (take n ys)) (compare (drop n xs) (drop n ys))

-- The order of the eights at one place, of those behind it.
next_eight : (k : ℕ) (xs ys : List ℕ) → length xs ≡ length ys →
    compare (drop k xs) (drop k ys)
    ≡ ordering_then (compare (eight k xs) (eight k ys)) (compare (drop (k + 8) xs) (drop (k + 8) ys))
next_eight k xs ys e =
    compare_parted 8 (drop k xs) (drop k ys) (length-drop k xs ∙ ap (λ n. n - k) e ∙ sym (length-drop k ys))
    ∙ ap₂ (λ us vs. ordering_then (compare (eight k xs) (eight k ys)) (compare us vs))
    (drop-drop 8 k xs) (drop-drop 8 k ys)

last_eight : (xs : List ℕ) → length xs ≡ 32 → drop 24 xs ≡ eight 24 xs
last_eight xs size = grind (arith, common_steps)

-- Four orders, one after the other, each of which decides where those before it don't.
pub eights_order : (xs ys : List ℕ) → length xs ≡ 32 → length ys ≡ 32 → (first second third last : Ordering) →
    first ≡ compare (eight 0 xs) (eight 0 ys) → second ≡ ordering_then first (compare (eight 8 xs) (eight 8 ys)) →
    third ≡ ordering_then second (compare (eight 16 xs) (eight 16 ys)) →
    last ≡ ordering_then third (compare (eight 24 xs) (eight 24 ys)) → last ≡ compare xs ys
eights_order xs ys hx hy first second third last e f g h =
    h ∙ ap (λ o. ordering_then o (at 24))
    (g ∙ ap (λ o. ordering_then o (at 16)) (f ∙ ap (λ o. ordering_then o (at 8)) e))
    ∙ sym (then_assoc (ordering_then (at 0) (at 8)) (at 16) (at 24))
    ∙ sym (then_assoc (at 0) (at 8) (ordering_then (at 16) (at 24)))
    ∙ sym whole
  where
    at : ℕ → Ordering
    at k = compare (eight k xs) (eight k ys)

    one_size : length xs ≡ length ys
    one_size = hx ∙ sym hy

    whole : compare xs ys ≡ ordering_then (at 0) (ordering_then (at 8) (ordering_then (at 16) (at 24)))
    whole =
        next_eight 0 xs ys one_size
        ∙ ap (ordering_then (at 0)) (next_eight 8 xs ys one_size
        ∙ ap (ordering_then (at 8)) (next_eight 16 xs ys one_size
        ∙ ap (ordering_then (at 16)) (ap₂ compare (last_eight xs hx) (last_eight ys hy))))

-- ---- what the code computes

-- Eight of an array of bytes are bytes.
eight_bytes : (k : ℕ) (xs : List ℕ) → ((i : ℕ) → slice_index xs i < 256) → AreBytes (eight k xs)
eight_bytes k xs h = all_places (λ x. x < 256) (eight k xs) 0
    (λ i lt. byte i (omega (arith, length-take 8 (drop k xs))))
  where
    byte : (i : ℕ) → i < 8 → slice_index (eight k xs) i < 256
    byte i lt = subst (λ n. n < 256) (sym (get_or-take 8 (drop k xs) i 0 lt ∙ get_or-drop k xs i 0)) (h (k + i))

-- The numbers that the code makes of two eights stand in their order.
pub eight_order : (k : ℕ) (xs ys : List ℕ) → k + 8 ≤ 32 → length xs ≡ 32 → length ys ≡ 32 →
    ((i : ℕ) → slice_index xs i < 256) → ((i : ℕ) → slice_index ys i < 256) →
    nat_cmp (from_be_bytes w64 (eight k xs)) (from_be_bytes w64 (eight k ys)) ≡ compare (eight k xs) (eight k ys)
eight_order k xs ys small hx hy bx by =
    ap₂ nat_cmp (eight_weight (eight k xs) (size xs hx)) (eight_weight (eight k ys) (size ys hy))
    ∙ weight_order (eight k xs) (eight k ys) (size xs hx ∙ sym (size ys hy)) (eight_bytes k xs bx) (eight_bytes k ys by)
  where
    size : (xs : List ℕ) → length xs ≡ 32 → length (eight k xs) ≡ 8
    size xs h = grind (arith, common_steps)
