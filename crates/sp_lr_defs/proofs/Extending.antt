-- A chain of strips for the first sizes can be extended: in the row below each node of the last strip there is room for
-- a
-- node of the next.
use Rattle.std.proofs.Common.{◌≡◌, ℕ, zero, suc, ◌+◌, ◌-◌, ◌<◌, ◌≤◌, min, List, [], ◌∷◌, ◌++◌, length, slice_index}
use Rattle.std.proofs.Common.{refl}
use Rattle.std.proofs.Common.{◌∙◌, ap, subst, arith, sum, add-one}
use Rattle.std.specs.List.{AllByRecursion}
use Rattle.std.proofs.lemmas.List.Elements.{All-from_recursion, recursion_from_All}
use Rattle.std.proofs.lemmas.List.Sums.{sum_by-cons}
use Rattle.sp_defs.specs.Partition.{IsPartition}
use Rattle.sp_lr_defs.specs.Strip.{first, gained, IsStrip, IsNext, AreStrips, IsStripChain}
use Rattle.sp_lr_defs.proofs.Sums.{first-le, first-zeros}
use Rattle.sp_lr_defs.proofs.Trimmed.{past_end}
use Rattle.sp_lr_defs.proofs.Strips.{degree-gained, first_covers, strips_of_filling}
use Rattle.sp_lr_defs.proofs.Backward.{filling_of_chain}
use Rattle.sp_lr_defs.specs.Filling.{IsChain}
use Rattle.sp_shapes.proofs.Diagram.{IsPartition-tail, IsPartition-head}

-- `n` nodes for these rows and a new one below: from the top, in each at most as many as the row above it gained
pub record ArePlaced (n : ℕ) (given : ℕ → ℕ) (xs ys : List ℕ) : Type 0 where
  pub grows : (i : ℕ) → slice_index xs i ≤ slice_index ys i
  pub few : (i : ℕ) → slice_index ys i ≤ slice_index xs i + given i
  pub total : sum ys ≡ sum xs + n
  pub positive : AllByRecursion (λ p. 0 < p) ys

new_row : (n : ℕ) (given : ℕ → ℕ) → n ≤ given 0 → (ys : List ℕ) × ArePlaced n given [] ys
new_row zero given h = (
  [],
  record {
    grows = λ i. omega arith;
    few = λ i. omega arith;
    total = refl;
    positive = tt;
  },
)
new_row (suc n) given h = (
  suc n ∷ [],
  record {
    grows = λ i. omega arith;
    few = few;
    total = sum_by-cons (λ x. x) (suc n) [] ∙ plain n;
    positive = (omega arith, tt);
  },
)
  where
    few : (i : ℕ) → slice_index (suc n ∷ []) i ≤ slice_index [] i + given i
    few zero = omega arith
    few (suc i) = omega arith

    plain : (n : ℕ) → suc n + 0 ≡ 0 + suc n
    plain n = omega arith

-- there is a way to place them where the rows gained as many
placed : (n : ℕ) (given : ℕ → ℕ) (xs : List ℕ) → AllByRecursion (λ p. 0 < p) xs → n ≤ first (length xs + 1) given →
    (ys : List ℕ) × ArePlaced n given xs ys
placed n given [] pos h = new_row n given (omega (arith, h))
placed n given (x ∷ xs) (pos, poss) h =
    more (placed (n - min n (given 0)) (λ i. given (suc i)) xs poss (omega (arith, h, longer)))
  where
    longer : first (length (x ∷ xs) + 1) given ≡ given 0 + first (length xs + 1) (λ i. given (suc i))
    longer = ap (λ k. first k given) (count (length xs))
      where
        count : (k : ℕ) → suc k + 1 ≡ suc (k + 1)
        count k = omega arith

    more : (ys : List ℕ) × ArePlaced (n - min n (given 0)) (λ i. given (suc i)) xs ys →
        (ys : List ℕ) × ArePlaced n given (x ∷ xs) ys
    more (ys, p) = (
      (x + min n (given 0)) ∷ ys,
      record {
        grows = grows;
        few = few;
        total =
            omega (
              arith,
              p.total,
              sum_by-cons (λ y. y) (x + min n (given 0)) ys,
              sum_by-cons (λ y. y) x xs,
            );
        positive = (omega arith, p.positive);
      },
    )
      where
        grows : (i : ℕ) → slice_index (x ∷ xs) i ≤ slice_index ((x + min n (given 0)) ∷ ys) i
        grows zero = omega arith
        grows (suc i) = p.grows i

        few : (i : ℕ) → slice_index ((x + min n (given 0)) ∷ ys) i ≤ slice_index (x ∷ xs) i + given i
        few zero = omega arith
        few (suc i) = p.few i

-- what is placed below the first row makes the next strip
strip_of : (before xs ys : List ℕ) (c m n : ℕ) → IsPartition (c ∷ xs) → IsStrip before (c ∷ xs) m →
    ArePlaced n (gained before (c ∷ xs)) xs ys → IsNext before (c ∷ xs) 0 n (c ∷ ys)
strip_of before xs ys c m n h s p = record {
  strip = record {
    partition = record {
      descending = λ i. omega (arith, ap (slice_index (c ∷ ys)) (add-one i), below i, grows i);
      positive = All-from_recursion (λ q. 0 < q) (c ∷ ys) (
        (recursion_from_All (λ q. 0 < q)
            (c ∷ xs) h.positive).0,
        p.positive,
      );
    };
    grows = grows;
    apart = λ i. omega (arith, ap (slice_index (c ∷ ys)) (add-one i), below i);
    total =
        omega (
          arith,
          p.total,
          sum_by-cons (λ y. y) c ys,
          sum_by-cons (λ y. y) c xs,
        );
  };
  covered = λ i.
      omega (
        arith,
        first-le i (gained xs ys) (gained before (c ∷ xs)) (λ j. omega (arith, p.few j)),
      );
}
  where
    below : (i : ℕ) → slice_index ys i ≤ slice_index (c ∷ xs) i
    below i =
        let apart : slice_index (c ∷ xs) (i + 1) ≤ slice_index before i = s.apart i in
        let next : slice_index (c ∷ xs) (i + 1) ≡ slice_index xs i = ap (slice_index (c ∷ xs)) (add-one i) in
        omega (arith, p.few i, s.grows i)

    grows : (i : ℕ) → slice_index (c ∷ xs) i ≤ slice_index (c ∷ ys) i
    grows zero = omega arith
    grows (suc i) = p.grows i

-- a function that is 0 from k on adds nothing there
first-stops : (k j : ℕ) (f : ℕ → ℕ) → ((i : ℕ) → k ≤ i → f i ≡ 0) → first (k + j) f ≡ first k f
first-stops zero j f h = ap (λ n. first n f) (omega arith) ∙ first-zeros j f (λ i. h i (omega arith))
first-stops (suc k) j f h =
    ap (λ n. first n f) (moved k j)
    ∙ ap (λ n. f 0 + n) (first-stops k j (λ i. f (suc i)) (λ i le. h (suc i) (omega arith)))
  where
    moved : (k j : ℕ) → suc k + j ≡ suc (k + j)
    moved k j = omega arith

-- A strip of no more nodes can follow.
pub next_exists : (before last : List ℕ) (m n : ℕ) → IsPartition last → IsStrip before last m → n ≤ m →
    (after : List ℕ) × IsNext before last 0 n after
next_exists before [] m n h s le =
    let none : n ≡ 0 = omega (arith, s.total) in (
      [],
      record {
        strip = record {
          partition = h;
          grows = λ i. omega arith;
          apart = λ i. omega arith;
          total = omega arith;
        };
        covered = λ i. omega (arith, first-le (suc i) (gained [] []) (λ _. 0) (λ j. omega arith), zeros (suc i));
      },
    )
  where
    zeros : (k : ℕ) → first k (λ _. 0) ≡ 0
    zeros zero = refl
    zeros (suc k) = omega (arith, zeros k)
next_exists before (c ∷ xs) m n h s le =
    made (placed n (gained before (c ∷ xs)) xs (recursion_from_All (λ q. 0 < q) (c ∷ xs) h.positive).1 enough)
  where
    enough : n ≤ first (length xs + 1) (gained before (c ∷ xs))
    enough =
        omega (
          arith,
          s.total,
          degree-gained (length xs + 1 + length before) before (c ∷ xs) (omega arith) (omega arith) s.grows,
          first-stops (length xs + 1) (length before) (gained before (c ∷ xs))
              (λ i past. omega (arith, past_end (c ∷ xs) i (omega arith))),
        )

    made : (ys : List ℕ) × ArePlaced n (gained before (c ∷ xs)) xs ys →
        (after : List ℕ) × IsNext before (c ∷ xs) 0 n after
    made (ys, p) = (c ∷ ys, strip_of before xs ys c m n h s p)

-- ---- chains

-- none of the sizes is greater than the one before, of which the first is `most`
abbrev pub SizesFall : ℕ → List ℕ → Type 0
SizesFall most [] = Unit {0}
SizesFall most (n ∷ ns) = (n ≤ most) × SizesFall n ns

-- After a strip a chain can go on by strips of falling sizes.
pub goes_on : (before last : List ℕ) (m : ℕ) (ns : List ℕ) → IsPartition last → IsStrip before last m → SizesFall m ns →
    (shapes : List (List ℕ)) × AreStrips before last 0 ns shapes
goes_on before last m [] h s f = ([], tt)
goes_on before last m (n ∷ ns) h s (le, f) =
    let next = next_exists before last m n h s le in
    let more = goes_on last next.0 n ns next.1.strip.partition next.1.strip f in
    (next.0 ∷ more.0, (next.1, more.1))

-- A chain of strips whose sizes fall can go on by later sizes.
pub extended : (before last : List ℕ) (spare n : ℕ) (ns later : List ℕ) (shapes : List (List ℕ)) →
    AreStrips before last spare (n ∷ ns) shapes → SizesFall n (ns ++ later) →
    (more : List (List ℕ)) × AreStrips before last spare (n ∷ (ns ++ later)) (shapes ++ more)
extended before last spare n ns later [] s f = absurd s
extended before last spare n [] later (shape ∷ []) (next, s) f =
    further (goes_on last shape n later next.strip.partition next.strip f)
  where
    further : (more : List (List ℕ)) × AreStrips last shape 0 later more →
        (more : List (List ℕ)) × AreStrips before last spare (n ∷ later) (shape ∷ more)
    further (more, strips) = (more, (next, strips))
extended before last spare n [] later (shape ∷ other ∷ shapes) (next, s) f = absurd s
extended before last spare n (n' ∷ ns) later (shape ∷ shapes) (next, s) (le, f) =
    let more = extended last shape 0 n' ns later shapes s f in
    (more.0, (next, more.1))

-- ---- fillings

sizes_fall : (n : ℕ) (ns : List ℕ) → IsPartition (n ∷ ns) → SizesFall n ns
sizes_fall n [] h = tt
sizes_fall n (n' ∷ ns) h = (h.descending 0, sizes_fall n' ns (IsPartition-tail n (n' ∷ ns) h))

-- a strip of n nodes in the first row
first_exists : (lambda : List ℕ) (n : ℕ) → IsPartition lambda → 0 < n → (after : List ℕ) × IsStrip lambda after n
first_exists [] n h pos = (
  n ∷ [],
  record {
    partition = record {
      descending = λ i. omega (arith, ap (slice_index (n ∷ [])) (add-one i));
      positive = All-from_recursion (λ q. 0 < q) (n ∷ []) (pos, tt);
    };
    grows = λ i. omega arith;
    apart = λ i. omega (arith, ap (slice_index (n ∷ [])) (add-one i));
    total = sum_by-cons (λ y. y) n [] ∙ plain n;
  },
)
  where
    plain : (n : ℕ) → n + 0 ≡ 0 + n
    plain n = omega arith
first_exists (c ∷ xs) n h pos = (
  (c + n) ∷ xs,
  record {
    partition = record {
      descending = λ i. omega (arith, ap (slice_index ((c + n) ∷ xs)) (add-one i), below i, grows i);
      positive = All-from_recursion (λ q. 0 < q) ((c + n) ∷ xs) (
        omega arith,
        (recursion_from_All (λ q. 0 < q)
            (c ∷ xs) h.positive).1,
      );
    };
    grows = grows;
    apart = λ i. omega (arith, ap (slice_index ((c + n) ∷ xs)) (add-one i), below i);
    total = omega (arith, sum_by-cons (λ y. y) (c + n) xs, sum_by-cons (λ y. y) c xs);
  },
)
  where
    below : (i : ℕ) → slice_index xs i ≤ slice_index (c ∷ xs) i
    below i = omega (arith, h.descending i, ap (slice_index (c ∷ xs)) (add-one i))

    grows : (i : ℕ) → slice_index (c ∷ xs) i ≤ slice_index ((c + n) ∷ xs) i
    grows zero = omega arith
    grows (suc i) = omega arith

-- A chain of strips for the first parts of mu can be extended to one for all.
pub chain_extended : (lambda mu later : List ℕ) (chain : List (List ℕ)) → IsPartition lambda →
    IsPartition (mu ++ later) →
    IsStripChain lambda mu chain → (more : List (List ℕ)) × IsStripChain lambda (mu ++ later) (chain ++ more)
chain_extended lambda mu later [] h f s = absurd s
chain_extended lambda [] [] (inner ∷ []) h f (is, s) = ([], (is, tt))
chain_extended lambda [] (n ∷ later) (inner ∷ []) h f (is, s) =
    let after = first_exists lambda n h (IsPartition-head n later f) in
    let more = goes_on lambda after.0 n later after.1.partition after.1 (sizes_fall n later f) in (
      after.0 ∷ more.0,
      (is, (record { strip = after.1; covered = first_covers lambda after.0 n after.1 }, more.1)),
    )
chain_extended lambda [] later (inner ∷ shape ∷ shapes) h f (is, s) = absurd s
chain_extended lambda (n ∷ ns) later (inner ∷ shapes) h f (is, s) =
    let more = extended lambda lambda n n ns later shapes s (sizes_fall n (ns ++ later) f) in
    (more.0, (is, more.1))

-- The chain of a filling with the first parts of mu as content begins that of a filling with all of them.
pub filling_extended : (lambda mu later : List ℕ) (chain : List (List ℕ)) → IsPartition lambda →
    IsPartition (mu ++ later) → IsChain lambda mu chain → (more : List (List ℕ)) × IsChain lambda (mu ++ later)
    (chain ++ more)
filling_extended lambda mu later chain h f (nu, (rows, (filling, is))) =
    let more = chain_extended lambda mu later chain h f
    (subst (IsStripChain lambda mu) is (strips_of_filling lambda mu nu rows h filling)) in
    (more.0, filling_of_chain lambda (mu ++ later) (chain ++ more.0) h more.1)
