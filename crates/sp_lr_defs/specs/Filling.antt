-- Fillings of skew shapes: numbers in the nodes of a partition that are outside another, whose word is a lattice word.
-- The rule of Littlewood and Richardson counts them.
use Rattle.std.specs.Prelude.{◌≡◌, ℕ, ◌+◌, ◌-◌, ◌<◌, ◌≤◌, nat_le, nat_lt, nat_eq, List, [], ◌∷◌, map, take, filter}
use Rattle.std.specs.Prelude.{reverse}
use Rattle.std.specs.Prelude.{length, flat_map, slice_index, slice_index_or, count_by}
use Rattle.std.specs.List.{AllByRecursion, Contains, range_with_len}
use Rattle.std.specs.Cmp.Lexicographic.{slice_cmp}
use Rattle.std.specs.declared.cmp.Ordering.TheVariants.{Greater}
use Rattle.sp_defs.specs.Partition.{part, order, from_one_to, IsPartition}
use Rattle.sp_defs.specs.Node.{Node}

-- A filling is given by its rows from the top: the numbers of the nodes outside `lambda`, from left to right.

-- The numbers in row r. Rows are counted from 1, and below the last there are none (this project's own).
abbrev pub row : List (List ℕ) → ℕ → List ℕ
row rows r = slice_index_or rows (r - 1) []

-- The number in a node, which is outside `lambda` (this project's own).
abbrev pub number_in : List ℕ → List (List ℕ) → Node → ℕ
number_in lambda rows (r, c) = slice_index (row rows r) (c - part lambda r - 1)

-- The node is of the skew shape nu / lambda: in the diagram of `nu`, and not in that of `lambda`.
-- (Macdonald, Symmetric Functions and Hall Polynomials, I.1)
pub record IsOutside (lambda nu : List ℕ) (r c : ℕ) : Type 0 where
  pub row_least : 1 ≤ r
  pub outside : part lambda r < c
  pub inside : c ≤ part nu r

-- The word of a filling reads the rows from top to bottom, each from right to left.
-- (Macdonald, Symmetric Functions and Hall Polynomials, I.9)
abbrev pub word : List (List ℕ) → List ℕ
word rows = flat_map (λ numbers. reverse numbers) rows

-- A lattice word: each prefix has at least as many k as k + 1.
-- (Macdonald, Symmetric Functions and Hall Polynomials, I.9; a reverse lattice word in Fulton, Young Tableaux, 5.2)
abbrev pub IsLattice : List ℕ → Type 0
IsLattice letters = (n k : ℕ) → 1 ≤ k → count_by (nat_eq (k + 1)) (take n letters) ≤ count_by (nat_eq k)
    (take n letters)

-- A filling of nu over lambda with content mu: each node of nu outside lambda, where lambda is inside nu, has a number
-- from 1 to the number of parts of mu. Rows increase weakly and columns strictly, the number k occurs as often as part
-- k
-- of mu says, and the word is a lattice word.
-- (Fulton, Young Tableaux, 5.2; Macdonald, Symmetric Functions and Hall Polynomials, I.9)
pub record IsFilling (lambda mu nu : List ℕ) (rows : List (List ℕ)) : Type 0 where
  pub outer : IsPartition nu
  pub height : length rows ≡ length nu
  pub widths : (r : ℕ) → 1 ≤ r → part nu r ≡ part lambda r + length (row rows r)
  pub least : (r c : ℕ) → IsOutside lambda nu r c → 1 ≤ number_in lambda rows (r, c)
  pub greatest : (r c : ℕ) → IsOutside lambda nu r c → number_in lambda rows (r, c) ≤ length mu
  pub along_rows : (r c : ℕ) → IsOutside lambda nu r c → IsOutside lambda nu r (c + 1) →
      number_in lambda rows (r, c) ≤ number_in lambda rows (r, c + 1)
  pub down_columns : (r c : ℕ) → IsOutside lambda nu r c → IsOutside lambda nu (r + 1) c →
      number_in lambda rows (r, c) < number_in lambda rows (r + 1, c)
  pub content : (k : ℕ) → 1 ≤ k → k ≤ length mu → count_by (nat_eq k) (word rows) ≡ part mu k
  pub lattice : IsLattice (word rows)

-- The partition of `lambda` and the nodes with a number of at most k.
-- (Macdonald, Symmetric Functions and Hall Polynomials, I.1, where tableaux are chains of partitions)
abbrev pub member : List ℕ → List (List ℕ) → ℕ → List ℕ
member lambda rows k =
    filter (nat_lt 0)
    (map (λ r. part lambda r + count_by (λ n. nat_le n k) (row rows r)) (from_one_to (length rows)))

-- The chain of a filling with numbers up to `most`: from `lambda` on, each further member adds the nodes with one
-- number.
-- (Macdonald, Symmetric Functions and Hall Polynomials, I.1)
abbrev pub chain_of : List ℕ → ℕ → List (List ℕ) → List (List ℕ)
chain_of lambda most rows = map (member lambda rows) (range_with_len 0 (most + 1))

-- The chain of a filling of nu over lambda with content mu (this project's own).
abbrev pub IsChainTo : List ℕ → List ℕ → List ℕ → List (List ℕ) → Type 0
IsChainTo lambda mu nu chain =
    (rows : List (List ℕ)) × (IsFilling lambda mu nu rows × (chain_of lambda (length mu) rows ≡ chain))

-- The chain of a filling over lambda with content mu, of any nu (this project's own).
abbrev pub IsChain : List ℕ → List ℕ → List (List ℕ) → Type 0
IsChain lambda mu chain = (nu : List ℕ) × IsChainTo lambda mu nu chain

-- The first chain is later: at the first member that differs, in the order of partitions (this project's own).
abbrev pub IsLaterChain : List (List ℕ) → List (List ℕ) → Type 0
IsLaterChain first second = slice_cmp order first second ≡ Greater

-- Each chain of the list is later than all that follow it, so that none stands there twice (this project's own).
abbrev pub DescendingChains : List (List (List ℕ)) → Type 0
DescendingChains [] = Unit {0}
DescendingChains (first ∷ rest) = AllByRecursion (IsLaterChain first) rest × DescendingChains rest

-- The list has each chain that the property names, once, and no other, descending (this project's own).
pub record ListsEach (P : List (List ℕ) → Type 0) (chains : List (List (List ℕ))) : Type 0 where
  pub each : (chain : List (List ℕ)) → (Contains chains chain → P chain) × (P chain → Contains chains chain)
  pub descending : DescendingChains chains
