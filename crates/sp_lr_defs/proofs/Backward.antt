-- A chain of horizontal strips is the chain of a filling where its word is a lattice word, and so where each strip is
-- covered by the one before.
use Rattle.std.proofs.Common.{◌≡◌, ℕ, zero, suc, ◌+◌, ◌-◌, ◌<◌, ◌≤◌, List, [], ◌∷◌, length, map}
use Rattle.std.proofs.Common.{slice_index, slice_index_or, nat_eq, count_by, refl, sym, ◌∙◌, ap, take}
use Rattle.std.proofs.Common.{subst, arith, add-one, ◌⊎◌, inl, inr}
use Rattle.std.specs.List.{AllByRecursion, range_with_len}
use Rattle.std.proofs.lemmas.List.{length-map}
use Rattle.sp_defs.specs.Partition.{IsPartition, part}
use Rattle.sp_lists.proofs.Elements.{le_or_lt}
use Rattle.sp_lists.proofs.Places.{all_at}
use Rattle.sp_shapes.proofs.Diagram.{same_rows}
use Rattle.sp_lr_defs.specs.Filling.{IsFilling, IsOutside, IsChain, IsChainTo, row, number_in, member, word, IsLattice}
use Rattle.sp_lr_defs.specs.Strip.{first, gained, Covers, IsStrip, AreStrips, IsStripChain, end_from}
use Rattle.sp_lr_defs.specs.Listing.{after_strips}
use Rattle.sp_lr_defs.proofs.Sorted.{Rises, rises_next, count_to, place_counted, counted_place}
use Rattle.sp_lr_defs.proofs.Sums.{first-zeros}
use Rattle.sp_lr_defs.proofs.Trimmed.{mapped_at, mapped_past, past_end, mapped_is}
use Rattle.sp_lr_defs.proofs.Words.{Counted, word-all, fronts_hold}
use Rattle.sp_lr_defs.proofs.Forward.{part_at, row_at, number_at, member_at, member_partition, reach}
use Rattle.sp_lr_defs.proofs.Strips.{degree-gained, times}
use Rattle.sp_lr_defs.proofs.Tableaux.{AreTableau, tableau_of_strips, tableau_length, strip_at}
use Rattle.sp_lr_defs.proofs.Built.{built, Grows, built_numbers, built_rises, built-length, built-count, built-times}
use Rattle.sp_lr_defs.proofs.Built.{built-none}

-- ---- strips by their places

-- there is a partition for each size
pub strips_length : (before last : List ℕ) (spare : ℕ) (ns : List ℕ) (shapes : List (List ℕ)) →
    AreStrips before last spare ns shapes → length shapes ≡ length ns
strips_length before last spare ns shapes s =
    tableau_length last ns shapes (tableau_of_strips before last spare ns shapes s)

-- each strip covers the next
pub covers_at : (before last : List ℕ) (spare : ℕ) (ns : List ℕ) (shapes : List (List ℕ)) →
    AreStrips before last spare ns shapes → (k : ℕ) → suc k < length ns →
    Covers 0 (gained (slice_index_or (last ∷ shapes) k []) (slice_index_or shapes k []))
    (gained (slice_index_or shapes k []) (slice_index_or shapes (suc k) []))
covers_at before last spare [] shapes s k lt = absurd (omega arith)
covers_at before last spare (n ∷ ns) [] s k lt = absurd s
covers_at before last spare (n ∷ []) (shape ∷ shapes) s k lt = absurd (omega arith)
covers_at before last spare (n ∷ n' ∷ ns) (shape ∷ []) (s, more) k lt = absurd more
covers_at before last spare (n ∷ n' ∷ ns) (shape ∷ shape' ∷ shapes) (s, more) zero lt = more.0.covered
covers_at before last spare (n ∷ n' ∷ ns) (shape ∷ shape' ∷ shapes) (s, more) (suc k) lt =
    covers_at last shape 0 (n' ∷ ns) (shape' ∷ shapes) more k (omega arith)

-- the last of them
pub end_at : (inner : List ℕ) (shapes : List (List ℕ)) → slice_index_or (inner ∷ shapes) (length shapes) []
    ≡ end_from inner shapes
end_at inner [] = refl
end_at inner (shape ∷ shapes) = end_at shape shapes

-- ---- the filling

-- what is known of a chain of horizontal strips, by places: its members are partitions, and so on
pub record AreMembers (mu : List ℕ) (shape : ℕ → List ℕ) : Type 0 where
  pub partitions : (k : ℕ) → k ≤ length mu → IsPartition (shape k)
  pub strips : (k : ℕ) → k < length mu → IsStrip (shape k) (shape (suc k)) (slice_index mu k)

-- each strip covers the next, by places
abbrev pub AreCovered : List ℕ → (ℕ → List ℕ) → Type 0
AreCovered mu shape =
    (k : ℕ) → suc k < length mu →
    Covers 0 (gained (shape k) (shape (suc k))) (gained (shape (suc k)) (shape (suc (suc k))))

-- how far row i reaches in member k
abbrev pub reached : (ℕ → List ℕ) → ℕ → ℕ → ℕ
reached shape i k = slice_index (shape k) i

-- the rows of the filling
abbrev pub filled : List ℕ → (ℕ → List ℕ) → List (List ℕ)
filled mu shape =
    map (λ i. built (reached shape i) (length mu)) (range_with_len 0 (length (shape (length mu))))

grows : (mu : List ℕ) (shape : ℕ → List ℕ) → AreMembers mu shape → (i : ℕ) → Grows (reached shape i) (length mu)
grows mu shape h i k lt = (h.strips k lt).grows i

nothing : (xs : List ℕ) → length xs ≡ 0 → [] ≡ xs
nothing [] e = refl
nothing (x ∷ xs) e = absurd (omega arith)

-- row i of the filling
filled_at : (mu : List ℕ) (shape : ℕ → List ℕ) → AreMembers mu shape → (i : ℕ) →
    slice_index_or (filled mu shape) i [] ≡ built (reached shape i) (length mu)
filled_at mu shape h i = settle (le_or_lt (length (shape (length mu))) i)
  where
    settle : (length (shape (length mu)) ≤ i) ⊎ (i < length (shape (length mu))) →
        slice_index_or (filled mu shape) i [] ≡ built (reached shape i) (length mu)
    settle (inl le) =
        mapped_past (λ i. built (reached shape i) (length mu)) [] 0 (length (shape (length mu))) i le
        ∙ nothing (built (reached shape i) (length mu))
        (omega (
          arith,
          built-length (reached shape i) (length mu) (grows mu shape h i),
          past_end (shape
              (length mu)) i le,
        ))
    settle (inr lt) =
        mapped_at (λ i. built (reached shape i) (length mu)) [] 0 (length (shape (length mu))) i lt
        ∙ ap (λ k. built (reached shape k) (length mu)) (omega arith)

range-length : (a n : ℕ) → length (range_with_len a n) ≡ n
range-length a zero = refl
range-length a (suc n) = ap suc (range-length (a + 1) n)

height_is : (mu : List ℕ) (shape : ℕ → List ℕ) → length (filled mu shape) ≡ length (shape (length mu))
height_is mu shape =
    length-map (range_with_len 0 (length (shape (length mu)))) (λ i. built (reached shape i) (length mu))
    ∙ range-length 0 (length (shape (length mu)))

-- its length
width_is : (mu : List ℕ) (shape : ℕ → List ℕ) → AreMembers mu shape → (i : ℕ) →
    slice_index (shape (length mu)) i ≡ slice_index (shape 0) i + length (slice_index_or (filled mu shape) i [])
width_is mu shape h i =
    omega (
      arith,
      built-length (reached shape i) (length mu) (grows mu shape h i),
      ap length (filled_at mu shape h i),
    )

-- a node outside lambda, by its place in the row
record IsPlace (mu : List ℕ) (shape : ℕ → List ℕ) (i c : ℕ) : Type 0 where
  place : ℕ
  column : c ≡ slice_index (shape 0) i + suc place
  within : place < length (slice_index_or (filled mu shape) i [])
  number : number_in (shape 0) (filled mu shape) (suc i, c) ≡ slice_index (slice_index_or (filled mu shape) i []) place

placed : (mu : List ℕ) (shape : ℕ → List ℕ) → AreMembers mu shape → (i c : ℕ) →
    IsOutside (shape 0) (shape (length mu)) (suc i) c → IsPlace mu shape i c
placed mu shape h i c o =
    let left : slice_index (shape 0) i < c = omega (arith, o.outside, part_at (shape 0) i) in
    let column : c ≡ slice_index (shape 0) i + suc (c - slice_index (shape 0) i - 1) = omega arith in
    record {
      place = c - slice_index (shape 0) i - 1;
      column = column;
      within = omega (arith, o.inside, part_at (shape (length mu)) i, width_is mu shape h i);
      number = number_at (shape 0) (filled mu shape) i (c - slice_index (shape 0) i - 1) c column;
    }

filled_rises : (mu : List ℕ) (shape : ℕ → List ℕ) → AreMembers mu shape → (i : ℕ) →
    Rises (slice_index_or (filled mu shape) i [])
filled_rises mu shape h i =
    subst Rises (sym (filled_at mu shape h i)) (built_rises (reached shape i) (length mu))

filled_numbers : (mu : List ℕ) (shape : ℕ → List ℕ) → AreMembers mu shape → (i : ℕ) →
    AllByRecursion (λ v. (1 ≤ v) × (v ≤ length mu)) (slice_index_or (filled mu shape) i [])
filled_numbers mu shape h i =
    subst (AllByRecursion (λ v. (1 ≤ v) × (v ≤ length mu))) (sym (filled_at mu shape h i))
    (built_numbers (reached shape i) (length mu))

-- the numbers up to k reach to the end of row i in member k
filled_count : (mu : List ℕ) (shape : ℕ → List ℕ) → AreMembers mu shape → (i k : ℕ) → k ≤ length mu →
    reach (shape 0) (filled mu shape) k i ≡ slice_index (shape k) i
filled_count mu shape h i k le =
    omega (
      arith,
      ap (count_to k) (filled_at mu shape h i),
      built-count (reached shape i) (length mu) (grows mu shape h i) k le,
    )

filled_times : (mu : List ℕ) (shape : ℕ → List ℕ) → AreMembers mu shape → (k : ℕ) → k < length mu →
    Counted (nat_eq (k + 1)) (filled mu shape) (gained (shape k) (shape (suc k)))
filled_times mu shape h k lt i =
    ap (count_by (nat_eq (k + 1))) (filled_at mu shape h i)
    ∙ built-times (reached shape i) (length mu) (grows mu shape h i) k lt

-- no number is greater than the number of sizes
pub filled_none : (mu : List ℕ) (shape : ℕ → List ℕ) → AreMembers mu shape → (k : ℕ) → length mu ≤ k →
    Counted (nat_eq (k + 1)) (filled mu shape) (λ _. 0)
filled_none mu shape h k le i =
    ap (count_by (nat_eq (k + 1))) (filled_at mu shape h i) ∙ built-none (reached shape i) (length mu) k le

number_of : (mu : List ℕ) (shape : ℕ → List ℕ) → AreMembers mu shape → (i c : ℕ) → IsPlace mu shape i c →
    (1 ≤ number_in (shape 0) (filled mu shape) (suc i, c))
    × (number_in (shape 0) (filled mu shape) (suc i, c) ≤ length mu)
number_of mu shape h i c p =
    subst (λ v. (1 ≤ v) × (v ≤ length mu)) (sym p.number)
    (all_at (λ v. (1 ≤ v) × (v ≤ length mu)) (slice_index_or (filled mu shape) i []) p.place 0
    (filled_numbers mu shape h i) p.within)

-- numbers increase along rows
along : (mu : List ℕ) (shape : ℕ → List ℕ) → AreMembers mu shape → (i c : ℕ) → IsPlace mu shape i c →
    IsPlace mu shape i (c + 1) →
    number_in (shape 0) (filled mu shape) (suc i, c) ≤ number_in (shape 0) (filled mu shape) (suc i, c + 1)
along mu shape h i c p q =
    let next : q.place ≡ suc p.place = omega (arith, p.column, q.column) in
    omega (
      arith,
      p.number,
      q.number,
      ap (slice_index (slice_index_or (filled mu shape) i [])) next,
      rises_next (slice_index_or (filled mu shape) i []) (filled_rises mu shape h i) p.place
          (omega (arith, next, q.within)),
    )

-- and down columns, strictly
down : (mu : List ℕ) (shape : ℕ → List ℕ) → AreMembers mu shape → (i c : ℕ) → IsPlace mu shape i c →
    IsPlace mu shape (suc i) c →
    number_in (shape 0) (filled mu shape) (suc i, c) < number_in (shape 0) (filled mu shape) (suc (suc i), c)
down mu shape h i c p q = below (number_in (shape 0) (filled mu shape) (suc (suc i), c) - 1) (omega (arith, ranges.0))
  where
    ranges : (1 ≤ number_in (shape 0) (filled mu shape) (suc (suc i), c))
        × (number_in (shape 0) (filled mu shape) (suc (suc i), c) ≤ length mu)
    ranges = number_of mu shape h (suc i) c q

    below : (k : ℕ) → number_in (shape 0) (filled mu shape) (suc (suc i), c) ≡ suc k →
        number_in (shape 0) (filled mu shape) (suc i, c) < number_in (shape 0) (filled mu shape) (suc (suc i), c)
    below k e =
        let few : k < length mu = omega (arith, ranges.1, e) in
        let counted : q.place < count_to (suc k) (slice_index_or (filled mu shape) (suc i) []) =
        place_counted (suc k) (slice_index_or (filled mu shape) (suc i) []) (filled_rises mu shape h (suc i)) q.place
        q.within (omega (arith, q.number, e)) in
        let apart : slice_index (shape (suc k)) (i + 1) ≤ slice_index (shape k) i = (h.strips k few).apart i in
        let here : p.place < count_to k (slice_index_or (filled mu shape) i []) =
        omega (
          arith,
          counted,
          apart,
          ap (slice_index (shape (suc k))) (add-one i),
          filled_count mu shape h (suc i) (suc k) (omega arith),
          filled_count mu shape h i k (omega arith),
          p.column,
          q.column,
        ) in
        omega (
          arith,
          e,
          p.number,
          counted_place k (slice_index_or (filled mu shape) i []) (filled_rises mu shape h i) p.place here,
        )

-- the number k + 1 occurs as often as the strip from member k on has nodes
content_is : (mu : List ℕ) (shape : ℕ → List ℕ) → AreMembers mu shape → (k : ℕ) → k < length mu →
    count_by (nat_eq (k + 1)) (word (filled mu shape)) ≡ slice_index mu k
content_is mu shape h k lt =
    total (length (shape k) + length (shape (suc k)) + length (filled mu shape)) (omega arith) (omega arith)
    (omega arith)
  where
    total : (n : ℕ) → length (shape k) ≤ n → length (shape (suc k)) ≤ n → length (filled mu shape) ≤ n →
        count_by (nat_eq (k + 1)) (word (filled mu shape)) ≡ slice_index mu k
    total n few few' height =
        omega (
          arith,
          word-all (nat_eq (k + 1)) n (filled mu shape) (gained (shape k) (shape (suc k))) height
              (filled_times mu shape h k lt),
          degree-gained n (shape k) (shape (suc k)) few few' (h.strips k lt).grows,
          (h.strips k lt).total,
        )

-- where each strip covers the next the word is a lattice word
lattice_is : (mu : List ℕ) (shape : ℕ → List ℕ) → AreMembers mu shape → AreCovered mu shape →
    IsLattice (word (filled mu shape))
lattice_is mu shape h covered n zero lo = absurd (omega arith)
lattice_is mu shape h covered n (suc k) lo = settle (le_or_lt (length mu) (suc k))
  where
    zeros : (i : ℕ) (f : ℕ → ℕ) → 0 + first (suc i) (λ _. 0) ≤ 0 + first i f
    zeros i f = omega (arith, first-zeros (suc i) (λ _. 0) (λ _. refl))

    settle : (length mu ≤ suc k) ⊎ (suc k < length mu) →
        count_by (nat_eq (suc k + 1)) (take n (word (filled mu shape)))
        ≤ count_by (nat_eq (suc k)) (take n (word (filled mu shape)))
    settle (inl le) =
        omega (
          arith,
          fronts_hold (nat_eq (suc k)) (nat_eq (suc k + 1)) (filled mu shape) (times (filled mu shape) (suc k))
              (λ _. 0) 0 0
              (λ i. refl) (filled_none mu shape h (suc k) le) (λ i. zeros i (times (filled mu shape) (suc k))) n,
        )
    settle (inr lt) =
        omega (
          arith,
          fronts_hold (nat_eq (suc k)) (nat_eq (suc k + 1)) (filled mu shape) (gained (shape k) (shape (suc k)))
              (gained (shape (suc k)) (shape (suc (suc k)))) 0 0
              (subst (λ j. Counted (nat_eq j) (filled mu shape) (gained (shape k) (shape (suc k)))) (add-one k)
              (filled_times mu shape h k (omega arith)))
              (filled_times mu shape h (suc k) lt) (λ i. omega (arith, covered k lt i)) n,
        )

-- The rows that were made are a filling where their word is a lattice word.
pub filling_of_members : (mu : List ℕ) (shape : ℕ → List ℕ) → AreMembers mu shape →
    IsLattice (word (filled mu shape)) → IsFilling (shape 0) mu (shape (length mu)) (filled mu shape)
filling_of_members mu shape h lattice = record {
  outer = h.partitions (length mu) (omega arith);
  height = height_is mu shape;
  widths = widths;
  least = least;
  greatest = greatest;
  along_rows = along_rows;
  down_columns = down_columns;
  content = content;
  lattice = lattice;
}
  where
    widths : (r : ℕ) → 1 ≤ r →
        part (shape (length mu)) r ≡ part (shape 0) r + length (row (filled mu shape) r)
    widths zero lo = absurd (omega arith)
    widths (suc i) lo =
        omega (
          arith,
          part_at (shape (length mu)) i,
          part_at (shape 0) i,
          ap length (row_at (filled mu shape) i),
          width_is mu shape h i,
        )

    least : (r c : ℕ) → IsOutside (shape 0) (shape (length mu)) r c → 1 ≤ number_in (shape 0) (filled mu shape) (r, c)
    least zero c o = absurd (omega (arith, o.row_least))
    least (suc i) c o = (number_of mu shape h i c (placed mu shape h i c o)).0

    greatest : (r c : ℕ) → IsOutside (shape 0) (shape (length mu)) r c →
        number_in (shape 0) (filled mu shape) (r, c) ≤ length mu
    greatest zero c o = absurd (omega (arith, o.row_least))
    greatest (suc i) c o = (number_of mu shape h i c (placed mu shape h i c o)).1

    along_rows : (r c : ℕ) → IsOutside (shape 0) (shape (length mu)) r c →
        IsOutside (shape 0) (shape (length mu)) r (c + 1) →
        number_in (shape 0) (filled mu shape) (r, c) ≤ number_in (shape 0) (filled mu shape) (r, c + 1)
    along_rows zero c o o' = absurd (omega (arith, o.row_least))
    along_rows (suc i) c o o' = along mu shape h i c (placed mu shape h i c o) (placed mu shape h i (c + 1) o')

    down_columns : (r c : ℕ) → IsOutside (shape 0) (shape (length mu)) r c →
        IsOutside (shape 0) (shape (length mu)) (r + 1) c →
        number_in (shape 0) (filled mu shape) (r, c) < number_in (shape 0) (filled mu shape) (r + 1, c)
    down_columns zero c o o' = absurd (omega (arith, o.row_least))
    down_columns (suc i) c o o' =
        subst (λ r. number_in (shape 0) (filled mu shape) (suc i, c) < number_in (shape 0) (filled mu shape) (r, c))
        (sym (add-one (suc i)))
        (down mu shape h i c (placed mu shape h i c o)
        (placed mu shape h (suc i) c
        (subst (λ r. IsOutside (shape 0) (shape (length mu)) r c) (add-one (suc i)) o')))

    content : (k : ℕ) → 1 ≤ k → k ≤ length mu → count_by (nat_eq k) (word (filled mu shape)) ≡ part mu k
    content zero lo hi = absurd (omega arith)
    content (suc k) lo hi =
        ap (λ j. count_by (nat_eq j) (word (filled mu shape))) (sym (add-one k))
        ∙ content_is mu shape h k (omega arith)
        ∙ sym (part_at mu k)

-- its chain has these members
pub chain_of_members : (mu : List ℕ) (shape : ℕ → List ℕ) → AreMembers mu shape →
    IsLattice (word (filled mu shape)) → (k : ℕ) → k ≤ length mu → member (shape 0) (filled mu shape) k ≡ shape k
chain_of_members mu shape h lattice k le =
    same_rows (member (shape 0) (filled mu shape) k) (shape k)
    (member_partition (shape 0) mu (shape (length mu)) (filled mu shape) (h.partitions 0 (omega arith))
    (filling_of_members mu shape h lattice) k)
    (h.partitions k le)
    (λ i. member_at (shape 0) mu (shape (length mu)) (filled mu shape) (h.partitions 0 (omega arith))
    (filling_of_members mu shape h lattice) k i ∙ filled_count mu shape h i k le)

-- ---- a chain of strips

-- its members, by places
pub members_of : (lambda mu : List ℕ) (shapes : List (List ℕ)) → IsPartition lambda → AreTableau lambda mu shapes →
    AreMembers mu (after_strips (lambda ∷ shapes))
members_of lambda mu shapes hl s =
    record { partitions = partitions; strips = strip_at lambda mu shapes s }
  where
    partitions : (k : ℕ) → k ≤ length mu → IsPartition (after_strips (lambda ∷ shapes) k)
    partitions zero le = hl
    partitions (suc k) le = (strip_at lambda mu shapes s k (omega arith)).partition

-- A chain of horizontal strips whose word is a lattice word is the chain of a filling of its last member.
pub filling_of_tableau : (lambda mu : List ℕ) (shapes : List (List ℕ)) → IsPartition lambda →
    AreTableau lambda mu shapes → IsLattice (word (filled mu (after_strips (lambda ∷ shapes)))) →
    IsChainTo lambda mu (end_from lambda shapes) (lambda ∷ shapes)
filling_of_tableau lambda mu shapes hl s lattice =
    let shape : ℕ → List ℕ = after_strips (lambda ∷ shapes) in
    let size : length shapes ≡ length mu = tableau_length lambda mu shapes s in
    let ends : shape (length mu) ≡ end_from lambda shapes = ap shape (sym size) ∙ end_at lambda shapes in
    let h : AreMembers mu shape = members_of lambda mu shapes hl s in
    let count : length mu + 1 ≡ length (lambda ∷ shapes) = omega arith in (
      filled mu shape,
      (
        subst (λ nu. IsFilling lambda mu nu (filled mu shape)) ends (filling_of_members mu shape h lattice),
        ap (λ n. map (member lambda (filled mu shape)) (range_with_len 0 n)) count
            ∙ mapped_is (member lambda (filled mu shape)) [] 0 (lambda ∷ shapes) (λ i lt.
            ap (member lambda (filled mu shape)) (omega arith)
            ∙ chain_of_members mu shape h lattice i (omega arith)),
      ),
    )

-- The word of a chain of strips, each covered by the one before, is a lattice word.
pub lattice_of_strips : (lambda mu : List ℕ) (shapes : List (List ℕ)) → IsPartition lambda →
    AreStrips lambda lambda (part mu 1) mu shapes → IsLattice (word (filled mu (after_strips (lambda ∷ shapes))))
lattice_of_strips lambda mu shapes hl s =
    lattice_is mu (after_strips (lambda ∷ shapes))
    (members_of lambda mu shapes hl (tableau_of_strips lambda lambda (part mu 1) mu shapes s))
    (covers_at lambda lambda (part mu 1) mu shapes s)

-- So it is the chain of a filling of its last member.
pub filling_of_strips : (lambda mu : List ℕ) (shapes : List (List ℕ)) → IsPartition lambda →
    AreStrips lambda lambda (part mu 1) mu shapes → IsChainTo lambda mu (end_from lambda shapes) (lambda ∷ shapes)
filling_of_strips lambda mu shapes hl s =
    filling_of_tableau lambda mu shapes hl (tableau_of_strips lambda lambda (part mu 1) mu shapes s)
    (lattice_of_strips lambda mu shapes hl s)

-- A chain of strips is the chain of a filling.
pub filling_of_chain : (lambda mu : List ℕ) (chain : List (List ℕ)) → IsPartition lambda →
    IsStripChain lambda mu chain →
    IsChain lambda mu chain
filling_of_chain lambda mu [] h s = absurd s
filling_of_chain lambda mu (inner ∷ shapes) h (is, s) =
    subst (λ x. IsChain lambda mu (x ∷ shapes)) (sym is) (
      end_from lambda shapes,
      filling_of_strips lambda mu shapes h
          s,
    )
