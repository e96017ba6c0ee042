-- Moved beads: their number, their sum, their bounds, and the pairs that ascend.
use Rattle.std.proofs.Common.{◌≡◌, ◌≢◌, ℕ, suc, ◌+◌, ◌-◌, ◌*◌, ◌<◌, ◌≤◌, true, nat_lt, List, [], ◌∷◌, drop}
use Rattle.std.proofs.Common.{length, slice_index, slice_set, get_or, ◌∙◌, ap, sum, count_by, arith}
use Rattle.std.proofs.Common.{length-set, get_or-set_other, add-one, mul-le-mul}
use Rattle.std.proofs.Math.Seq.{drop-cons}
use Rattle.std.proofs.lemmas.List.Sums.{sum_by-set, count_by-le-length}
use Rattle.sp_defs.specs.Partition.{degree}
use Rattle.sp_defs.specs.Abacus.{shown}
use Rattle.sp_lists.proofs.Places.{all_set, all_weaken, all_at}
use Rattle.sp_abacus_law.specs.Beads.{down, Falls}
use Rattle.sp_abacus_law.proofs.Shown.{degree-shown}
use Rattle.sp_abacus_law.proofs.Bounds.{falls-small}
use Rattle.sp_module_defs.specs.Jantzen.{moved, is_distinct, descending, inversions}
use Rattle.sp_jantzen.specs.Beads.{AreBeads, IsStep, count_greater}
use Rattle.sp_jantzen.proofs.Sorted.{AllBelow, descending-falls, sum-descending, length-descending}

-- ---- the numbers

-- The numbers of beads are below 96.
pub beads_below : (xs : List ℕ) → AreBeads xs → AllBelow 96 xs
beads_below xs h =
    all_weaken (λ x. x < degree (shown xs) + length xs) (λ x. x < 96) xs (λ x lt. omega (arith, h.small, h.few))
    (falls-small xs h.falls)

-- So is the number at a place.
pub bead_below : (xs : List ℕ) (i : ℕ) → AreBeads xs → i < length xs → slice_index xs i < 96
bead_below xs i h lt = all_at (λ x. x < 96) xs i 0 (beads_below xs h) lt

-- ---- after a step

-- A step changes neither how many numbers there are
pub length-moved : (xs : List ℕ) (a b h : ℕ) → length (moved xs a b h) ≡ length xs
length-moved xs a b h =
    length-set (slice_set xs a (slice_index xs a + h)) b (slice_index xs b - h)
    ∙ length-set xs a (slice_index xs a + h)

-- nor their sum.
pub sum-moved : (xs : List ℕ) (a b h : ℕ) → IsStep xs a b h → sum (moved xs a b h) ≡ sum xs
sum-moved xs a b h s =
    let up = slice_set xs a (slice_index xs a + h) in
    let wide : b < length up = omega (arith, s.within, length-set xs a (slice_index xs a + h)) in
    let same : get_or up b 0 ≡ get_or xs b 0 =
    get_or-set_other xs a b (slice_index xs a + h) 0 (apart s.earlier) in
    settle (sum up) (sum (moved xs a b h)) (sum xs) (get_or xs a 0) (get_or xs b 0) (get_or up b 0) same s.steps
    (sum_by-set (λ x. x) xs a (slice_index xs a + h) 0 (omega (arith, s.earlier, s.within)))
    (sum_by-set (λ x. x) up b (slice_index xs b - h) 0 wide)
  where
    apart : a < b → b ≢ a
    apart lt = λ e. omega arith

    settle : (u m w x y z : ℕ) → z ≡ y → h ≤ y → u + x ≡ w + (x + h) → m + z ≡ u + (y - h) → m ≡ w
    settle u m w x y z e le p q = omega arith

-- After a step they are below 192.
pub moved_below : (xs : List ℕ) (a b h : ℕ) → AreBeads xs → IsStep xs a b h → AllBelow 192 (moved xs a b h)
moved_below xs a b h beads s =
    let from = bead_below xs b beads s.within in
    let to = bead_below xs a beads (omega (arith, s.earlier, s.within)) in
    all_set (λ x. x < 192) (slice_set xs a (slice_index xs a + h)) b (slice_index xs b - h) (omega arith)
    (all_set (λ x. x < 192) xs a (slice_index xs a + h) (omega (arith, s.steps))
    (all_weaken (λ x. x < 96) (λ x. x < 192) xs (λ x lt. omega arith) (beads_below xs beads)))

-- ---- put in order again

-- Put in order again, they show a partition of the same degree.
pub degree-sorted : (xs : List ℕ) (a b h : ℕ) → Falls xs → IsStep xs a b h → is_distinct (moved xs a b h) ≡ true →
    degree (shown (descending (moved xs a b h))) ≡ degree (shown xs)
degree-sorted xs a b h f s d =
    let after = moved xs a b h in
    let count : length (descending after) ≡ length xs = length-descending after d ∙ length-moved xs a b h in
    settle (degree (shown (descending after))) (degree (shown xs)) (sum (down (length (descending after))))
    (sum (down (length xs))) (sum (descending after)) (sum xs) (ap (λ k. sum (down k)) count)
    (sum-descending (λ x. x) after d ∙ sum-moved xs a b h s)
    (degree-shown (descending after) (descending-falls after)) (degree-shown xs f)
  where
    settle : (p q m n x y : ℕ) → m ≡ n → x ≡ y → p + m ≡ x → q + n ≡ y → p ≡ q
    settle p q m n x y e k u v = omega arith

-- So they are beads again.
pub sorted_beads : (xs : List ℕ) (a b h : ℕ) → AreBeads xs → IsStep xs a b h → is_distinct (moved xs a b h) ≡ true →
    AreBeads (descending (moved xs a b h))
sorted_beads xs a b h beads s d = record {
  falls = descending-falls (moved xs a b h);
  few = omega (arith, beads.few, length-descending (moved xs a b h) d, length-moved xs a b h);
  small = omega (arith, beads.small, degree-sorted xs a b h beads.falls s d);
}

-- ---- the pairs that ascend

-- There are at most as many inversions as pairs.
pub inversions-few : (xs : List ℕ) → inversions xs ≤ length xs * length xs
unfolding inversions
inversions-few [] = omega arith
inversions-few (x ∷ xs) =
    settle (length xs) (inversions xs) (count_by (λ y. nat_lt x y) xs) (length xs * length xs) (inversions-few xs)
    (count_by-le-length (λ y. nat_lt x y) xs) (square (length xs))
  where
    square : (n : ℕ) → suc n * suc n ≡ n * n + (n + n + 1)
    square n = grind arith

    settle : (n i c s : ℕ) → i ≤ s → c ≤ n → suc n * suc n ≡ s + (n + n + 1) → c + i ≤ suc n * suc n
    settle n i c s p q r = omega arith

-- The inversions from a place on: those of the number there, and those from the next place on.
pub inversions-drop : (xs : List ℕ) (i : ℕ) → i < length xs → inversions (drop i xs) ≡
    count_by (λ y. nat_lt (slice_index xs i) y) (drop (i + 1) xs) + inversions (drop (i + 1) xs)
unfolding inversions
inversions-drop xs i h = rw add-one (ap inversions (drop-cons xs i 0 h))

-- One place more of the count.
pub inversions-step : (xs : List ℕ) (i count more : ℕ) → i < length xs →
    more ≡ count_greater (slice_index xs i) (drop (i + 1) xs) → count + inversions (drop i xs) ≡ inversions xs →
    count + more + inversions (drop (i + 1) xs) ≡ inversions xs
unfolding count_greater
inversions-step xs i count more lt is h = omega (arith, inversions-drop xs i lt)

-- Of 64 numbers there are at most 4096.
pub inversions-small : (xs : List ℕ) → length xs ≤ 64 → inversions xs ≤ 4096
inversions-small xs h = omega (arith, inversions-few xs, square (length xs) h)
  where
    square : (n : ℕ) → n ≤ 64 → n * n ≤ 4096
    square n h =
        let full : n * n ≤ 64 * 64 = mul-le-mul h h in
        omega arith
