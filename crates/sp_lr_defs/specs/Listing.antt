-- The fillings over a partition with a content as a list that is computed, and how many each partition has.
use Rattle.std.specs.Prelude.{ℕ, ◌+◌, ◌-◌, Bool, false, ◌&&◌, nat_le, nat_lt, nat_eq, List, [], ◌∷◌, map, filter}
use Rattle.std.specs.Prelude.{flat_map, reverse, replicate, take, length, slice_index_or, count_by}
use Rattle.std.specs.List.{list_all, range_with_len}
use Rattle.std.specs.Cmp.Lexicographic.{pointwise}
use Rattle.sp_defs.specs.Partition.{part, degree, from_one_to, partitions}
use Rattle.sp_lr_defs.specs.Filling.{word}
use Rattle.sp_lr_defs.specs.Strip.{end_from}

-- ---- semistandard tableaux, as chains of horizontal strips

-- The rows of two partitions interlace: the nodes of `after` outside `last` are a horizontal strip.
-- (Macdonald, Symmetric Functions and Hall Polynomials, I.1)
abbrev pub is_strip : List ℕ → List ℕ → Bool
is_strip last after =
    list_all (λ r. nat_le (part last r) (part after r) && nat_le (part after (r + 1)) (part last r))
    (from_one_to (length last + length after))

-- The partitions that a horizontal strip of n nodes makes of `last`, descending (this project's own).
unfoldable pub strips_on : List ℕ → ℕ → List (List ℕ)
strips_on last n = filter (is_strip last) (reverse (partitions (degree last + n)))

-- The partitions after `last` in each chain of horizontal strips of these sizes, descending: such chains are the
-- semistandard tableaux.
-- (Macdonald, Symmetric Functions and Hall Polynomials, I.1)
unfoldable pub tableaux_on : List ℕ → List ℕ → List (List (List ℕ))
tableaux_on last [] = [] ∷ []
tableaux_on last (n ∷ ns) =
    flat_map (λ shape. map (λ shapes. shape ∷ shapes) (tableaux_on shape ns)) (strips_on last n)

-- ---- their words

-- The member of a chain after k strips (this project's own).
abbrev pub after_strips : List (List ℕ) → ℕ → List ℕ
after_strips chain k = slice_index_or chain k []

-- Row r of the tableau of a chain of n strips: the number k as often as strip k has nodes there.
-- (Macdonald, Symmetric Functions and Hall Polynomials, I.1)
abbrev pub chain_row : ℕ → List (List ℕ) → ℕ → List ℕ
chain_row n chain r =
    flat_map (λ k. replicate (part (after_strips chain k) r - part (after_strips chain (k - 1)) r) k) (from_one_to n)

-- All its rows (this project's own).
abbrev pub chain_rows : ℕ → List (List ℕ) → List (List ℕ)
chain_rows n chain = map (chain_row n chain) (from_one_to (length (after_strips chain n)))

-- Whether a word of numbers up to m is a lattice word: each prefix has at least as many k as k + 1.
-- (Macdonald, Symmetric Functions and Hall Polynomials, I.9)
abbrev pub is_lattice : ℕ → List ℕ → Bool
is_lattice m letters =
    list_all
    (λ n. list_all
    (λ k. nat_le (count_by (nat_eq (k + 1)) (take n letters)) (count_by (nat_eq k) (take n letters)))
    (from_one_to m))
    (range_with_len 0 (length letters + 1))

-- ---- fillings

-- The fillings over lambda with content mu, by their chains, descending: the semistandard tableaux over lambda with
-- content mu whose word is a lattice word.
-- (Macdonald, Symmetric Functions and Hall Polynomials, I.9; Fulton, Young Tableaux, 5.2)
unfoldable pub chains_over : List ℕ → List ℕ → List (List (List ℕ))
chains_over lambda mu =
    filter (λ chain. is_lattice (length mu) (word (chain_rows (length mu) chain)))
    (map (λ shapes. lambda ∷ shapes) (tableaux_on lambda mu))

-- Whether nu is the last member of a chain (this project's own).
abbrev pub ends_with : List ℕ → List (List ℕ) → Bool
ends_with nu [] = false
ends_with nu (inner ∷ shapes) = pointwise nat_eq (end_from inner shapes) nu

-- The fillings of nu over lambda with content mu, by their chains, descending (this project's own).
abbrev pub chains_to : List ℕ → List ℕ → List ℕ → List (List (List ℕ))
chains_to lambda mu nu = filter (ends_with nu) (chains_over lambda mu)

-- How many fillings of nu over lambda with content mu there are: the coefficient of Littlewood and Richardson.
-- (Macdonald, Symmetric Functions and Hall Polynomials, I.9; Fulton, Young Tableaux, 5.2)
abbrev pub littlewood_richardson : List ℕ → List ℕ → List ℕ → ℕ
littlewood_richardson lambda mu nu = length (chains_to lambda mu nu)

-- The product of the Schur functions of lambda and mu: the partitions with a filling, descending, each with its
-- coefficient.
-- (Macdonald, Symmetric Functions and Hall Polynomials, I.9)
unfoldable pub product_pairs : List ℕ → List ℕ → List (List ℕ × ℕ)
product_pairs lambda mu =
    reverse
    (filter (λ pair. nat_lt 0 pair.1)
    (map (λ nu. (nu, littlewood_richardson lambda mu nu)) (partitions (degree lambda + degree mu))))
