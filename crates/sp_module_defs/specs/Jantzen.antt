-- Jantzen sums, by moving beads on the abacus.
-- James and Mathas, 1997: A q-analogue of the Jantzen-Schaper theorem; Mathas, Iwahori-Hecke Algebras and Schur
-- Algebras of the Symmetric Group, ch. 5.
use Rattle.std.specs.Prelude.{ℕ, ◌+◌, ◌-◌, ◌%◌, Bool, true, cond, ◌&&◌, not, nat_eq, nat_lt, List, [], ◌∷◌, map}
use Rattle.std.specs.Prelude.{reverse, length, filter, count_by, sum, flat_map, slice_index, slice_set}
use Rattle.std.specs.Prelude.{ℤ, pos, negsuc, ◌-ℤ◌, ◌*ℤ◌}
use Rattle.std.specs.List.{list_any, range_with_len}
use Rattle.std.specs.Ordering.{is_eq, int_eq}
use Rattle.sp_defs.specs.Partition.{compare, from_one_to}
use Rattle.sp_defs.specs.Laurent.{int_sum, monomial}
use Rattle.sp_defs.specs.Power.{Vector}
use Rattle.sp_defs.specs.Abacus.{beta, shown}

-- Partitions, each with a whole coefficient (this project's own).
abbrev pub Terms : Type 0
Terms = List (List ℕ × ℤ)

-- 1 where e divides x, and 0 otherwise: the valuation of a q-number, but for those of multiples of e among themselves.
-- (James and Mathas, 1997)
abbrev pub valuation : ℕ → ℕ → ℤ
valuation e x = cond (nat_eq (x % e) 0) (pos 1) (pos 0)

-- The number at place a greater by h, and that at place b less by h.
-- (James and Mathas, 1997)
abbrev pub moved : List ℕ → ℕ → ℕ → ℕ → List ℕ
moved numbers a b h =
    slice_set (slice_set numbers a (slice_index numbers a + h)) b (slice_index numbers b - h)

-- The list has this number (this project's own).
abbrev pub occurs : List ℕ → ℕ → Bool
occurs numbers x = list_any (λ y. nat_eq y x) numbers

-- No two of the numbers are equal (this project's own).
abbrev pub is_distinct : List ℕ → Bool
is_distinct [] = true
is_distinct (x ∷ others) = not (occurs others x) && is_distinct others

-- How many pairs of the numbers ascend.
-- (James and Kerber, The Representation Theory of the Symmetric Group, ch. 1)
unfoldable pub inversions : List ℕ → ℕ
inversions [] = 0
inversions (x ∷ others) = count_by (λ y. nat_lt x y) others + inversions others

-- The sign of the permutation that makes the numbers descend.
-- (James and Kerber, The Representation Theory of the Symmetric Group, ch. 1)
unfoldable pub sorting_sign : List ℕ → ℤ
sorting_sign numbers = cond (nat_eq (inversions numbers % 2) 0) (pos 1) (negsuc 0)

-- Distinct numbers in descending order: those up to their sum that occur (this project's own).
unfoldable pub descending : List ℕ → List ℕ
descending numbers = filter (occurs numbers) (reverse (range_with_len 0 (sum numbers + 1)))

-- What the bead at place b gives to that at place a by h steps: the difference of the valuations.
-- (James and Mathas, 1997)
abbrev pub step_value : ℕ → List ℕ → ℕ → ℕ → ℕ → ℤ
step_value e numbers a b h =
    valuation e (slice_index numbers a - slice_index numbers b + h) -ℤ valuation e h

-- The partition that the moved beads show, with the difference times the sign of the sorting. There is no term where
-- two beads meet, or where the difference is 0.
-- (James and Mathas, 1997)
unfoldable pub term : ℕ → List ℕ → ℕ → ℕ → ℕ → Terms
term e numbers a b h =
    let after = moved numbers a b h in
    let value = step_value e numbers a b h in
    cond (is_distinct after && not (int_eq value (pos 0)))
    ((shown (descending after), sorting_sign after *ℤ value) ∷ []) []

-- The terms over the steps down that the bead at place b can take for that at place a.
-- (James and Mathas, 1997)
unfoldable pub terms_of_pair : ℕ → List ℕ → ℕ → ℕ → Terms
terms_of_pair e numbers b a = flat_map (term e numbers a b) (from_one_to (slice_index numbers b))

-- The terms over the places before b.
-- (James and Mathas, 1997)
unfoldable pub terms_of_bead : ℕ → List ℕ → ℕ → Terms
terms_of_bead e numbers b = flat_map (terms_of_pair e numbers b) (range_with_len 0 b)

-- All terms: over the places b, the places before b, and the steps from 1 to the number at b.
-- (James and Mathas, 1997)
unfoldable pub jantzen_terms : ℕ → List ℕ → Terms
jantzen_terms e p = flat_map (terms_of_bead e (beta e p)) (range_with_len 0 (length (beta e p)))

-- The sum of the coefficients at a partition (this project's own).
unfoldable pub total_at : Terms → List ℕ → ℤ
total_at terms kappa = int_sum (map (λ t. t.1) (filter (λ t. is_eq (compare t.0 kappa)) terms))

-- The vector with these totals as constants (this project's own).
abbrev pub constants : Terms → Vector
constants terms kappa = monomial (pos 0) (total_at terms kappa)

-- The Jantzen sum, whose coefficients are constants.
-- (James and Mathas, 1997)
unfoldable pub jantzen_sum : ℕ → List ℕ → Vector
jantzen_sum e p = constants (jantzen_terms e p)
