-- If from each ladder on a partition has at most as many nodes as an e-regular one of its degree, then the latter
-- dominates it.
use Rattle.std.proofs.Common.{◌≡◌, ℕ, zero, suc, ◌+◌, ◌-◌, ◌*◌, ◌<◌, ◌≤◌, Bool, true, false, cond, List, [], ◌∷◌}
use Rattle.std.proofs.Common.{map, take, refl, sym, ◌∙◌, ap, subst, arith, count_by, sum, nat_le, slice_index, ◌⊎◌, inl}
use Rattle.std.proofs.Common.{inr, le-leb, mul-le-mul_left}
use Rattle.std.specs.List.{range_with_len}
use Rattle.std.proofs.lemmas.List.Sums.{sum_by-cons, sum_by-append}
use Rattle.sp_defs.specs.Partition.{degree, IsPartition, Dominates, is_regular, from_one_to}
use Rattle.sp_defs.specs.Node.{Node, nodes_from}
use Rattle.sp_defs.specs.Ladder.{ladder_of}
use Rattle.std.proofs.lemmas.Bool.{lt-leb}
use Rattle.std.proofs.lemmas.List.{map-append}
use Rattle.sp_lists.proofs.Counts.{at_most_one}
use Rattle.sp_lists.proofs.Elements.{le_or_lt, count_zero, range_snoc}
use Rattle.sp_shapes.proofs.Diagram.{nodes_all}
use Rattle.sp_shapes.proofs.Regular.{lower_earlier}

-- the least of a function below n
least : (f : ℕ → ℕ) (n : ℕ) → (j : ℕ) × (j < suc n) × ((i : ℕ) → i < suc n → f j ≤ f i)
least f zero = (0, omega arith, λ i h. let z : i ≡ 0 = omega arith in subst (λ k. f 0 ≤ f k) (sym z) (omega arith))
least f (suc n) = step (least f n)
  where
    step : (j : ℕ) × (j < suc n) × ((i : ℕ) → i < suc n → f j ≤ f i) →
        (j : ℕ) × (j < suc (suc n)) × ((i : ℕ) → i < suc (suc n) → f j ≤ f i)
    step (j, lt, le) = settle (le_or_lt (f j) (f (suc n)))
      where
        settle : (f j ≤ f (suc n)) ⊎ (f (suc n) < f j) →
            (j : ℕ) × (j < suc (suc n)) × ((i : ℕ) → i < suc (suc n) → f j ≤ f i)
        settle (inl h) = (j, omega arith, λ i hi. last i hi (le_or_lt i n))
          where
            last : (i : ℕ) → i < suc (suc n) → (i ≤ n) ⊎ (n < i) → f j ≤ f i
            last i hi (inl w) = le i (omega arith)
            last i hi (inr w) = let z : suc n ≡ i = omega arith in subst (λ k. f j ≤ f k) z h
        settle (inr h) = (suc n, omega arith, λ i hi. last i hi (le_or_lt i n))
          where
            last : (i : ℕ) → i < suc (suc n) → (i ≤ n) ⊎ (n < i) → f (suc n) ≤ f i
            last i hi (inl w) = let k : f j ≤ f i = le i (omega arith) in omega arith
            last i hi (inr w) = let z : suc n ≡ i = omega arith in subst (λ k. f (suc n) ≤ f k) z (omega arith)

module _ (e L : ℕ) where
  -- nodes on ladders from L on, in the first p places of row r, and in the rows from r on
  abbrev pub high : Node → Bool
  high x = nat_le L (ladder_of e x)

  -- How many of them stand in the first p places of row r.
  abbrev pub in_row : ℕ → ℕ → ℕ
  in_row r p = count_by high (map (λ c. (r, c)) (from_one_to p))

  -- How many stand in the rows from r on.
  abbrev pub high_from : ℕ → List ℕ → ℕ
  high_from r parts = count_by high (nodes_from r parts)

  -- ---- one row

  row_suc : (r p : ℕ) → in_row r (suc p) ≡ in_row r p + cond (nat_le L (r + (e - 1) * p)) 1 0
  row_suc r p =
      ap (λ xs. count_by high (map (λ c. (r, c)) xs)) (range_snoc 1 p)
      ∙ ap (count_by high) (map-append {B = Node} (λ c. (r, c)) (range_with_len 1 p) ((1 + p) ∷ []))
      ∙ sum_by-append (λ x. cond (high x) 1 0) (map (λ c. (r, c)) (range_with_len 1 p)) ((r, 1 + p) ∷ [])
      ∙ ap (λ n. in_row r p + n)
      (ap (λ n. 0 + cond (nat_le L (r + (e - 1) * n)) 1 0) (less p) ∙ plain (cond (nat_le L (r + (e - 1) * p)) 1 0))
    where
      less : (p : ℕ) → 1 + p - 1 ≡ p
      less p = omega arith

      plain : (n : ℕ) → 0 + n ≡ n
      plain n = omega arith

  -- a row gains at most d by d places more, and just d from ladder L on
  row_low : (r p d : ℕ) → in_row r (p + d) ≤ in_row r p + d
  row_low r p zero = subst (λ n. in_row r n ≤ in_row r p + 0) (plain p) (omega arith)
    where
      plain : (p : ℕ) → p ≡ p + 0
      plain p = omega arith
  row_low r p (suc d) = subst (λ n. in_row r n ≤ in_row r p + suc d) (moved p d)
      (omega (arith, row_suc r (p + d), at_most_one (nat_le L (r + (e - 1) * (p + d))), row_low r p d))
    where
      moved : (p d : ℕ) → suc (p + d) ≡ p + suc d
      moved p d = omega arith

  row_high : (r p d : ℕ) → L ≤ r + (e - 1) * p → in_row r (p + d) ≡ in_row r p + d
  row_high r p zero h = ap (in_row r) (plain p) ∙ plain' (in_row r p)
    where
      plain : (p : ℕ) → p + 0 ≡ p
      plain p = omega arith

      plain' : (p : ℕ) → p ≡ p + 0
      plain' p = omega arith
  row_high r p (suc d) h = subst (λ n. in_row r n ≡ in_row r p + suc d) (moved p d)
      (omega (arith, row_suc r (p + d), counted (mul-le-mul_left (e - 1) (omega arith)), row_high r p d h))
    where
      moved : (p d : ℕ) → suc (p + d) ≡ p + suc d
      moved p d = omega arith

      counted : (e - 1) * p ≤ (e - 1) * (p + d) → ◌≡◌ {A = ℕ} (cond (nat_le L (r + (e - 1) * (p + d))) 1 0) 1
      counted m = ap (λ b. cond b 1 0) (le-leb L (r + (e - 1) * (p + d)) (omega arith))

  -- what a row gains over another, it gains from L on
  row_exchange : (r x y : ℕ) → L ≤ r + (e - 1) * y → x + in_row r y ≤ y + in_row r x
  row_exchange r x y h = settle (le_or_lt x y)
    where
      settle : (x ≤ y) ⊎ (y < x) → x + in_row r y ≤ y + in_row r x
      settle (inl l) = omega (arith, low)
        where
          back : x ≤ y → x + (y - x) ≡ y
          back h = omega arith

          low : in_row r y ≤ in_row r x + (y - x)
          low = subst (λ n. in_row r n ≤ in_row r x + (y - x)) (back l) (row_low r x (y - x))
      settle (inr l) = omega (arith, all)
        where
          back : y < x → y + (x - y) ≡ x
          back h = omega arith

          all : in_row r x ≡ in_row r y + (x - y)
          all = subst (λ n. in_row r n ≡ in_row r y + (x - y)) (back l) (row_high r y (x - y) h)

  -- ---- the rows of a partition

  high-cons : (r p : ℕ) (parts : List ℕ) → high_from r (p ∷ parts) ≡ in_row r p + high_from (suc r) parts
  unfolding nodes_from
  high-cons r p parts =
      sum_by-append (λ x. cond (high x) 1 0) (map (λ c. (r, c)) (from_one_to p)) (nodes_from (suc r) parts)

  high-nil : (r : ℕ) → high_from r [] ≡ 0
  unfolding nodes_from
  high-nil r = refl

  -- The first k sums and the counts from L on exchange: where no place of the first k rows right of ys is before L,
  -- what xs has more of in these rows it has on ladders from L on.
  sums_exchange : (k r : ℕ) (xs ys : List ℕ) → ((j : ℕ) → j < k → L ≤ r + j + (e - 1) * slice_index ys j) →
      sum (take k xs) + high_from r (take k ys) ≤ sum (take k ys) + high_from r (take k xs)
  sums_exchange zero r xs ys f = omega arith
  sums_exchange (suc k) r [] [] f = omega arith
  sums_exchange (suc k) r [] (y ∷ ys) f =
      let a : 0 + in_row r y ≤ y + in_row r 0 = row_exchange r 0 y (first (f 0 (omega arith))) in
      let b = sums_exchange k (suc r) [] ys (λ j h. next j (f (suc j) (omega arith))) in
      omega (arith, a, high-cons r y (take k ys), high-nil r, sum_by-cons (λ x. x) y (take k ys), at_nil k, b)
    where
      first : L ≤ r + 0 + (e - 1) * y → L ≤ r + (e - 1) * y
      first h = omega arith

      next : (j : ℕ) → L ≤ r + suc j + (e - 1) * slice_index ys j → L ≤ suc r + j + (e - 1) * slice_index ys j
      next j h = omega arith

      at_nil : (k : ℕ) → (high_from (suc r) (take k []) ≡ 0) × (sum (take k []) ≡ 0)
      at_nil zero = (high-nil (suc r), refl)
      at_nil (suc k) = (high-nil (suc r), refl)
  sums_exchange (suc k) r (x ∷ xs) [] f =
      let a : x + in_row r 0 ≤ 0 + in_row r x = row_exchange r x 0 (first (f 0 (omega arith))) in
      let b = sums_exchange k (suc r) xs [] (λ j h. next j (f (suc j) (omega arith))) in
      omega (arith, a, high-cons r x (take k xs), high-nil r, sum_by-cons (λ x. x) x (take k xs), at_nil k, b)
    where
      first : L ≤ r + 0 + (e - 1) * 0 → L ≤ r + (e - 1) * 0
      first h = omega arith

      next : (j : ℕ) → L ≤ r + suc j + (e - 1) * 0 → L ≤ suc r + j + (e - 1) * 0
      next j h = omega arith

      at_nil : (k : ℕ) → (high_from (suc r) (take k []) ≡ 0) × (sum (take k []) ≡ 0)
      at_nil zero = (high-nil (suc r), refl)
      at_nil (suc k) = (high-nil (suc r), refl)
  sums_exchange (suc k) r (x ∷ xs) (y ∷ ys) f =
      let a : x + in_row r y ≤ y + in_row r x = row_exchange r x y (first (f 0 (omega arith))) in
      let b = sums_exchange k (suc r) xs ys (λ j h. next j (f (suc j) (omega arith))) in
      omega (
        arith,
        a,
        high-cons r x (take k xs),
        high-cons r y (take k ys),
        sum_by-cons (λ x. x) x (take k xs),
        sum_by-cons (λ x. x) y (take k ys),
        b,
      )
    where
      first : L ≤ r + 0 + (e - 1) * y → L ≤ r + (e - 1) * y
      first h = omega arith

      next : (j : ℕ) → L ≤ r + suc j + (e - 1) * slice_index ys j → L ≤ suc r + j + (e - 1) * slice_index ys j
      next j h = omega arith

  -- the first k rows have no more than all
  first_rows : (k r : ℕ) (xs : List ℕ) → high_from r (take k xs) ≤ high_from r xs
  first_rows zero r xs = omega (arith, high-nil r)
  first_rows (suc k) r [] = omega arith
  first_rows (suc k) r (x ∷ xs) = omega (arith, high-cons r x (take k xs), high-cons r x xs, first_rows k (suc r) xs)

  -- and no fewer, where the other rows have nothing from L on
  no_further : (k r : ℕ) (ys : List ℕ) →
      ((j c : ℕ) → k ≤ j → 1 ≤ c → c ≤ slice_index ys j → r + j + (e - 1) * (c - 1) < L) →
      high_from r ys ≤ high_from r (take k ys)
  no_further zero r ys f =
      let z : high_from r ys ≡ 0 = count_zero high (nodes_from r ys)
      (nodes_all (λ x. high x ≡ false) r ys
      (λ j c lo hi. lt-leb L (r + j + (e - 1) * (c - 1)) (f j c (omega arith) lo hi))) in
      omega (arith, z)
  no_further (suc k) r [] f = omega arith
  no_further (suc k) r (y ∷ ys) f =
      omega (
        arith,
        high-cons r y (take k ys),
        high-cons r y ys,
        no_further k (suc r) ys (λ j c hj lo hi. next j c (f (suc j) c (omega arith) lo hi)),
      )
    where
      next : (j c : ℕ) → r + suc j + (e - 1) * (c - 1) < L → suc r + j + (e - 1) * (c - 1) < L
      next j c h = omega arith

-- For a row number k take the least ladder of the first places right of mu in the rows up to k: from it on, mu has no
-- node below row k, so its counts bound those of lambda's first rows, and the sums follow.
pub dominated : (e : ℕ) (mu lambda : List ℕ) → 2 ≤ e → IsPartition mu → is_regular e mu ≡ true →
    degree mu ≡ degree lambda → ((L : ℕ) → high_from e L 1 lambda ≤ high_from e L 1 mu) → Dominates mu lambda
dominated e mu lambda he pm reg deg counts = record { one_degree = deg; sums = λ k. at k }
  where
    at : (k : ℕ) → sum (take k lambda) ≤ sum (take k mu)
    at zero = omega arith
    at (suc k) = from (least (λ i. 1 + i + (e - 1) * slice_index mu i) k)
      where
        from : (j : ℕ) × (j < suc k) ×
            ((i : ℕ) → i < suc k → 1 + j + (e - 1) * slice_index mu j ≤ 1 + i + (e - 1) * slice_index mu i) →
            sum (take (suc k) lambda) ≤ sum (take (suc k) mu)
        from (j, lt, le) =
            let L : ℕ = 1 + j + (e - 1) * slice_index mu j in
            let a = sums_exchange e L (suc k) 1 lambda mu le in
            let b : high_from e L 1 (take (suc k) lambda) ≤ high_from e L 1 lambda = first_rows e L (suc k) 1 lambda in
            let c = no_further e L (suc k) 1 mu
            (λ i c hi lo w. lower_earlier e mu he pm reg j i c (omega arith) lo w) in
            omega (arith, a, b, c, counts L)
