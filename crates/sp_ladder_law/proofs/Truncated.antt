-- The nodes of a partition on the ladders up to a number, as a partition: row by row, that these cuts grow by the nodes
-- of the next ladder, and that a partition with as many nodes within a cut is the cut.
use Rattle.std.proofs.Common.{◌≡◌, ℕ, zero, suc, ◌+◌, ◌-◌, ◌*◌, ◌/◌, ◌<◌, ◌≤◌, min, true, false, cond, not, ◌&&◌}
use Rattle.std.proofs.Common.{nat_le, nat_eq, List, [], ◌∷◌, filter, length, refl, sym, ◌∙◌, ap, ap₂, subst, arith, sum}
use Rattle.std.proofs.Common.{slice_index, ◌⊎◌, inl, inr, le-leb, leb-true, eq-eqb, ne_eqb, le-div_iff_mul-le}
use Rattle.std.proofs.Common.{le_antisymm}
use Rattle.std.proofs.lemmas.List.Sums.{sum_by-cons, length-filter}
use Rattle.sp_defs.specs.Partition.{part, degree, IsPartition}
use Rattle.sp_defs.specs.Node.{in_diagram, nodes}
use Rattle.sp_defs.specs.Power.{added}
use Rattle.sp_defs.specs.Ladder.{ladder_of, ladder_residue, on_ladder}
use Rattle.sp_lists.proofs.Elements.{le_or_lt, filter_alike, filter_twice}
use Rattle.sp_shapes.proofs.Diagram.{IsPartition-tail, IsPartition-head, in_node, all_nodes, keep_filter}
use Rattle.sp_shapes.proofs.Diagram.{same_rows}
use Rattle.sp_shapes.proofs.Listing.{IsPartition-nil, IsPartition-cons}
use Rattle.std.proofs.lemmas.Bool.{lt-leb}
use Rattle.sp_shapes.proofs.Moves.{Move, degree_added, out_node}
use Rattle.sp_shapes.proofs.Residues.{residue_ladder}
use Rattle.sp_shapes.proofs.Within.{rows_sum}

-- the rows `parts`, from row r on, up to ladder l
unfoldable pub cut : ℕ → ℕ → ℕ → List ℕ → List ℕ
cut e l r [] = []
cut e l r (p ∷ parts) = cond (nat_le r l) (min p ((l - r) / (e - 1) + 1) ∷ cut e l (suc r) parts) []

-- ladder l ends in column (l - r) / f + 1 of row r, for f = e - 1
fits_row : (f l r c : ℕ) → 0 < f → r ≤ l → 1 ≤ c → r + f * (c - 1) ≤ l → c ≤ (l - r) / f + 1
fits_row f l r c hf hr hc h = let q : c - 1 ≤ (l - r) / f = (le-div_iff_mul-le hf).1 (omega arith) in omega arith

row_fits : (f l r c : ℕ) → 0 < f → r ≤ l → 1 ≤ c → c ≤ (l - r) / f + 1 → r + f * (c - 1) ≤ l
row_fits f l r c hf hr hc h = let q : (c - 1) * f ≤ l - r = (le-div_iff_mul-le hf).0 (omega arith) in omega arith

module _ (e : ℕ) (he : 2 ≤ e) where
  -- what is in a cut: the nodes of the partition on the ladders up to l
  pub cut_in : (l r : ℕ) (parts : List ℕ) (k c : ℕ) → 1 ≤ c → c ≤ slice_index parts k → r + k + (e - 1) * (c - 1) ≤ l →
      c ≤ slice_index (cut e l r parts) k
  unfolding cut
  cut_in l r [] k c hc w h = absurd (omega arith)
  cut_in l r (p ∷ parts) zero c hc w h =
      subst (λ b. c ≤ slice_index (cond b (min p ((l - r) / (e - 1) + 1) ∷ cut e l (suc r) parts) []) 0)
      (sym (le-leb r l (omega arith)))
      (let q : c ≤ (l - r) / (e - 1) + 1 = fits_row (e - 1) l r c (omega arith) (omega arith) hc (omega arith) in
      omega arith)
  cut_in l r (p ∷ parts) (suc k) c hc w h =
      subst (λ b. c ≤ slice_index (cond b (min p ((l - r) / (e - 1) + 1) ∷ cut e l (suc r) parts) []) (suc k))
      (sym (le-leb r l (omega arith)))
      (cut_in l (suc r) parts k c hc w (omega arith))

  -- And back: what is in a cut is in the partition, on the ladders up to l.
  pub cut_out : (l r : ℕ) (parts : List ℕ) (k c : ℕ) → 1 ≤ c → c ≤ slice_index (cut e l r parts) k →
      (c ≤ slice_index parts k) × (r + k + (e - 1) * (c - 1) ≤ l)
  unfolding cut
  cut_out l r [] k c hc w = absurd (omega arith)
  cut_out l r (p ∷ parts) zero c hc w =
      elim (nat_le r l) as (λ b. nat_le r l ≡ b →
      c ≤ slice_index (cond b (min p ((l - r) / (e - 1) + 1) ∷ cut e l (suc r) parts) []) 0 →
      (c ≤ p) × (r + 0 + (e - 1) * (c - 1) ≤ l)) [
        | true ↦ λ eq v.
            let hr : r ≤ l = leb-true r l eq in
            let q : r + (e - 1) * (c - 1) ≤ l = row_fits (e - 1) l r c (omega arith) hr hc (omega arith) in
            (omega arith, omega arith)
        | false ↦ λ eq v. absurd (omega arith)
      ] refl w
  cut_out l r (p ∷ parts) (suc k) c hc w = step (cut_out l (suc r) parts k c hc)
    where
      step : (c ≤ slice_index (cut e l (suc r) parts) k →
          (c ≤ slice_index parts k) × (suc r + k + (e - 1) * (c - 1) ≤ l)) →
          (c ≤ slice_index parts k) × (r + suc k + (e - 1) * (c - 1) ≤ l)
      step more =
          elim (nat_le r l) as (λ b. c
          ≤ slice_index (cond b (min p ((l - r) / (e - 1) + 1) ∷ cut e l (suc r) parts) []) (suc k) →
          (c ≤ slice_index parts k) × (r + suc k + (e - 1) * (c - 1) ≤ l)) [
            | true ↦ λ v. let q = more v in (q.0, omega (arith, q.1))
            | false ↦ λ v. absurd (omega arith)
          ] w

  -- A cut of a partition is one.
  pub IsPartition-cut : (l r : ℕ) (parts : List ℕ) → IsPartition parts → IsPartition (cut e l r parts)
  unfolding cut
  IsPartition-cut l r [] h = IsPartition-nil
  IsPartition-cut l r (p ∷ parts) h =
      elim (nat_le r l) as (λ b. nat_le r l ≡ b →
      IsPartition (cond b (min p ((l - r) / (e - 1) + 1) ∷ cut e l (suc r) parts) [])) [
        | true ↦ λ eq. IsPartition-cons (min p ((l - r) / (e - 1) + 1)) (cut e l (suc r) parts)
            (omega (arith, IsPartition-head p parts h))
            (below (leb-true r l eq) (le_or_lt (slice_index (cut e l (suc r) parts) 0) 0))
            (IsPartition-cut l (suc r) parts (IsPartition-tail p parts h))
        | false ↦ λ eq. IsPartition-nil
      ] refl
    where
      below : r ≤ l → (slice_index (cut e l (suc r) parts) 0 ≤ 0) ⊎ (0 < slice_index (cut e l (suc r) parts) 0) →
          slice_index (cut e l (suc r) parts) 0 ≤ min p ((l - r) / (e - 1) + 1)
      below hr (inl z) = omega arith
      below hr (inr w) =
          let q = cut_out l (suc r) parts 0 (slice_index (cut e l (suc r) parts) 0) w (omega arith) in
          let d : slice_index parts 0 ≤ p = h.descending 0 in
          let f : slice_index (cut e l (suc r) parts) 0 ≤ (l - r) / (e - 1) + 1 =
          fits_row (e - 1) l r (slice_index (cut e l (suc r) parts) 0) (omega arith) hr w (omega (arith, q.1)) in
          omega (arith, q.0, d, f)

  -- ---- the partition mu, cut after ladder l

  module _ (mu : List ℕ) (pm : IsPartition mu) where
    -- The nodes of mu on the ladders up to l.
    abbrev pub upto : ℕ → List ℕ
    upto l = cut e l 1 mu

    -- They are a partition.
    pub IsPartition-upto : (l : ℕ) → IsPartition (upto l)
    IsPartition-upto l = IsPartition-cut l 1 mu pm

    -- A node of mu on these ladders is in the cut.
    pub upto_in : (l r c : ℕ) → 1 ≤ r → 1 ≤ c → c ≤ part mu r → ladder_of e (r, c) ≤ l → c ≤ part (upto l) r
    upto_in l r c hr hc w h = cut_in l 1 mu (r - 1) c hc w (omega arith)

    -- A node of the cut is one of mu, on these ladders.
    pub upto_out : (l r c : ℕ) → 1 ≤ r → 1 ≤ c → c ≤ part (upto l) r → (c ≤ part mu r) × (ladder_of e (r, c) ≤ l)
    upto_out l r c hr hc w = let q = cut_out l 1 mu (r - 1) c hc w in (q.0, omega (arith, q.1))

    -- rows, from what each node of a row has
    rows_from : (xs ys : List ℕ) → ((k : ℕ) → 1 ≤ slice_index xs k → slice_index xs k ≤ slice_index ys k) → (k : ℕ) →
        slice_index xs k ≤ slice_index ys k
    rows_from xs ys f k = settle (le_or_lt (slice_index xs k) 0)
      where
        settle : (slice_index xs k ≤ 0) ⊎ (0 < slice_index xs k) → slice_index xs k ≤ slice_index ys k
        settle (inl z) = omega arith
        settle (inr h) = f k h

    -- A later cut has all rows of an earlier one.
    pub upto_mono : (l n : ℕ) → l ≤ n → (k : ℕ) → slice_index (upto l) k ≤ slice_index (upto n) k
    upto_mono l n h = rows_from (upto l) (upto n)
        (λ k w.
        let q = cut_out l 1 mu k (slice_index (upto l) k) w (omega arith) in
        cut_in n 1 mu k (slice_index (upto l) k) w q.0 (omega (arith, q.1)))

    -- a partition within a later cut, with no later ladder, is within the cut
    pub low_within : (n l : ℕ) (kappa : List ℕ) → ((k : ℕ) → slice_index kappa k ≤ slice_index (upto l) k) →
        ((r c : ℕ) → 1 ≤ r → 1 ≤ c → c ≤ part kappa r → ladder_of e (r, c) ≤ n) → (k : ℕ) →
        slice_index kappa k ≤ slice_index (upto n) k
    low_within n l kappa le low = rows_from kappa (upto n) (λ k w.
        let q = cut_out l 1 mu k (slice_index kappa k) w (le k) in
        let f : ladder_of e (suc k, slice_index kappa k) ≤ n =
        low (suc k) (slice_index kappa k) (omega arith) w
        (subst (λ i. slice_index kappa k ≤ slice_index kappa i) (back k) (omega arith)) in
        cut_in n 1 mu k (slice_index kappa k) w q.0 (omega (arith, f)))
      where
        back : (k : ℕ) → k ≡ suc k - 1
        back k = omega arith

    -- two tests of an order that agree
    same_test : (a b x y : ℕ) → (a ≤ b → x ≤ y) → (x ≤ y → a ≤ b) → nat_le a b ≡ nat_le x y
    same_test a b x y f g = settle (le_or_lt a b)
      where
        settle : (a ≤ b) ⊎ (b < a) → nat_le a b ≡ nat_le x y
        settle (inl h) = le-leb a b h ∙ sym (le-leb x y (f h))
        settle (inr h) = lt-leb a b h ∙ sym (again (le_or_lt x y))
          where
            again : (x ≤ y) ⊎ (y < x) → nat_le x y ≡ false
            again (inl w) = absurd (let v : a ≤ b = g w in omega arith)
            again (inr w) = lt-leb x y w

    -- the list of the cut's nodes
    nodes_upto : (l : ℕ) → filter (λ x. nat_le (ladder_of e x) l) (nodes mu) ≡ nodes (upto l)
    nodes_upto l = keep_filter (λ x. nat_le (ladder_of e x) l) 1 (upto l) mu
        (λ k c lo hi. same_test (1 + k + (e - 1) * (c - 1)) l c (slice_index (upto l) k) (cut_in l 1 mu k c lo hi)
        (λ w. (cut_out l 1 mu k c lo w).1))
        (rows_from (upto l) mu (λ k w. (cut_out l 1 mu k (slice_index (upto l) k) w (omega arith)).0))
        (IsPartition-upto l)

    -- the nodes that the next ladder adds
    added_test : (n r c : ℕ) → 1 ≤ r → 1 ≤ c → c ≤ part mu r →
        (nat_le (ladder_of e (r, c)) (suc n) && not (in_diagram (upto n) (r, c))) ≡ nat_eq (ladder_of e (r, c)) (suc n)
    added_test n r c hr hc w = settle (le_or_lt (ladder_of e (r, c)) n) (le_or_lt (ladder_of e (r, c)) (suc n))
      where
        L : ℕ
        L = ladder_of e (r, c)

        not_in : L ≡ suc n → in_diagram (upto n) (r, c) ≡ false
        not_in h = out_node (upto n) r c hr hc (outside (le_or_lt c (part (upto n) r)))
          where
            outside : (c ≤ part (upto n) r) ⊎ (part (upto n) r < c) → part (upto n) r < c
            outside (inl v) = absurd (let q = upto_out n r c hr hc v in omega (arith, q.1, h))
            outside (inr v) = v

        settle : (L ≤ n) ⊎ (n < L) → (L ≤ suc n) ⊎ (suc n < L) →
            (nat_le L (suc n) && not (in_diagram (upto n) (r, c))) ≡ nat_eq L (suc n)
        settle (inl h) k =
            ap₂ (λ a b. a && not b) (le-leb L (suc n) (omega arith))
            (in_node (upto n) r c hr hc (upto_in n r c hr hc w h))
            ∙ sym (ne_eqb L (suc n) (λ eq. omega arith))
        settle (inr h) (inl k) =
            let is : L ≡ suc n = omega arith in
            ap₂ (λ a b. a && not b) (le-leb L (suc n) k) (not_in is) ∙ sym (eq-eqb L (suc n) is)
        settle (inr h) (inr k) =
            ap (λ a. a && not (in_diagram (upto n) (r, c))) (lt-leb L (suc n) k)
            ∙ sym (ne_eqb L (suc n) (λ eq. omega arith))

    -- as many as mu has on that ladder
    pub count_next : (n : ℕ) → length (added (upto n) (upto (suc n))) ≡ on_ladder e mu (suc n)
    unfolding on_ladder
    count_next n =
        ap (λ xs. length (filter (λ x. not (in_diagram (upto n) x)) xs)) (sym (nodes_upto (suc n)))
        ∙ ap length (filter_twice (λ x. not (in_diagram (upto n) x)) (λ x. nat_le (ladder_of e x) (suc n)) (nodes mu)
        ∙ filter_alike (λ x. nat_le (ladder_of e x) (suc n) && not (in_diagram (upto n) x))
        (λ x. nat_eq (ladder_of e x) (suc n)) (nodes mu)
        (all_nodes
        (λ x. (nat_le (ladder_of e x) (suc n) && not (in_diagram (upto n) x)) ≡ nat_eq (ladder_of e x) (suc n))
        mu (added_test n)))
        ∙ length-filter (λ x. nat_eq (ladder_of e x) (suc n)) (nodes mu)

    -- a node of the next cut that isn't in the last stands on the next ladder
    pub on_next : (n r c : ℕ) → 1 ≤ r → 1 ≤ c → c ≤ part (upto (suc n)) r → part (upto n) r < c →
        (ladder_of e (r, c) ≡ suc n) × (c ≤ part mu r)
    on_next n r c hr hc w out =
        let q = upto_out (suc n) r c hr hc w in (settle q.0 q.1 (le_or_lt (ladder_of e (r, c)) n), q.0)
      where
        settle : c ≤ part mu r → ladder_of e (r, c) ≤ suc n → (ladder_of e (r, c) ≤ n) ⊎ (n < ladder_of e (r, c)) →
            ladder_of e (r, c) ≡ suc n
        settle a b (inl h) = absurd (let k : c ≤ part (upto n) r = upto_in n r c hr hc a h in omega arith)
        settle a b (inr h) = omega arith

    -- ---- the step of the next ladder leads from one cut to the next

    -- The step of the next ladder leads from one cut to the next.
    pub next_move : (n : ℕ) → Move e (ladder_residue e (suc n)) (on_ladder e mu (suc n)) (upto n) (upto (suc n))
    next_move n = record {
      rows = upto_mono n (suc n) (omega arith);
      residues = λ r c hr hc w out. residue_ladder e r c he hc ∙ ap (ladder_residue e) (on_next n r c hr hc w out).0;
      count = count_next n;
    }

    -- A cut has as many nodes more as mu has on the next ladder.
    pub next_degree : (n : ℕ) → degree (upto (suc n)) ≡ degree (upto n) + on_ladder e mu (suc n)
    next_degree n =
        degree_added (upto n) (upto (suc n)) (IsPartition-upto n) (upto_mono n (suc n) (omega arith))
        ∙ ap (λ m. degree (upto n) + m) (count_next n)

    -- rows within rows and one degree: one partition
    same_degree : (xs ys : List ℕ) → ((k : ℕ) → slice_index xs k ≤ slice_index ys k) → sum ys ≤ sum xs → (k : ℕ) →
        slice_index ys k ≤ slice_index xs k
    same_degree xs [] le h k = omega arith
    same_degree [] (y ∷ ys) le h zero = omega (arith, sum_by-cons (λ x. x) y ys)
    same_degree [] (y ∷ ys) le h (suc k) =
        same_degree [] ys (λ k. omega arith) (omega (arith, sum_by-cons (λ x. x) y ys)) k
    same_degree (x ∷ xs) (y ∷ ys) le h k = step k (same_degree xs ys (λ k. le (suc k)))
      where
        first : x ≤ y
        first = le 0

        rest : sum xs ≤ sum ys
        rest = rows_sum xs ys (λ k. le (suc k))

        step : (k : ℕ) → (sum ys ≤ sum xs → (k : ℕ) → slice_index ys k ≤ slice_index xs k) →
            slice_index (y ∷ ys) k ≤ slice_index (x ∷ xs) k
        step zero more = omega (arith, first, rest, h, sum_by-cons (λ x. x) x xs, sum_by-cons (λ x. x) y ys)
        step (suc k) more = more (omega (arith, first, h, sum_by-cons (λ x. x) x xs, sum_by-cons (λ x. x) y ys)) k

    -- ---- a partition with as many nodes within a cut is the cut

    -- A partition within a cut and of its degree is the cut.
    pub same_cut : (n : ℕ) (kappa : List ℕ) → IsPartition kappa →
        ((k : ℕ) → slice_index kappa k ≤ slice_index (upto n) k) → degree kappa ≡ degree (upto n) → kappa ≡ upto n
    same_cut n kappa pk le h = same_rows kappa (upto n) pk (IsPartition-upto n)
        (λ k. le_antisymm (le k) (same_degree kappa (upto n) le (omega arith) k))

    -- where the next ladder has no node, the next cut is the last
    pub cut_same : (n : ℕ) → on_ladder e mu (suc n) ≡ 0 → upto (suc n) ≡ upto n
    cut_same n z =
        sym
        (same_cut (suc n) (upto n) (IsPartition-upto n) (upto_mono n (suc n) (omega arith))
        (omega (arith, next_degree n, z)))

    -- past the last ladder nothing is cut
    pub cut_all : (n : ℕ) → ((r c : ℕ) → 1 ≤ r → 1 ≤ c → c ≤ part mu r → ladder_of e (r, c) ≤ n) → upto n ≡ mu
    cut_all n low = same_rows (upto n) mu (IsPartition-upto n) pm (λ k. le_antisymm
        (rows_from (upto n) mu (λ k w. (cut_out n 1 mu k (slice_index (upto n) k) w (omega arith)).0) k)
        (rows_from mu (upto n) (λ k w.
        let f : ladder_of e (suc k, slice_index mu k) ≤ n = low (suc k) (slice_index mu k) (omega arith) w
        (subst (λ i. slice_index mu k ≤ slice_index mu i) (back k) (omega arith)) in
        cut_in n 1 mu k (slice_index mu k) w (omega arith) (omega (arith, f))) k))
      where
        back : (k : ℕ) → k ≡ suc k - 1
        back k = omega arith

    -- Before the first ladder nothing is there.
    pub cut_none : upto 0 ≡ []
    cut_none = same_rows (upto 0) [] (IsPartition-upto 0) IsPartition-nil
        (λ k.
        le_antisymm
        (rows_from (upto 0) []
        (λ k w.
        absurd
        (let q = cut_out 0 1 mu k (slice_index (upto 0) k) w (omega arith) in omega (arith, q.1)))
        k) (omega arith))
