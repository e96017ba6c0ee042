-- Induction and restriction of one node as sums over the rows of a partition.
use Rattle.std.proofs.Common.{◌≡◌, ℕ, ◌+◌, ◌-◌, ◌<◌, ◌≤◌, Bool, true, false, cond, List, [], length, refl}
use Rattle.std.proofs.Common.{sym, ◌∙◌, ap, subst, arith, ℤ, pos, ◌+ℤ◌, ◌-ℤ◌, ◌*ℤ◌}
use Rattle.std.proofs.lemmas.Int.{ints}
use Rattle.sp_defs.specs.Partition.{degree, partitions, from_one_to, IsPartition, IsPartitionOf}
use Rattle.sp_defs.specs.Laurent.{Laurent, coefficient, power, times, int_sum}
use Rattle.sp_defs.specs.Power.{Vector, is_move, exponent, sources, divided_power}
use Rattle.sp_defs.specs.Signature.{grow, shrink}
use Rattle.sp_lists.proofs.Elements.{range_all, all_every}
use Rattle.sp_lists.proofs.Occurrence.{Occurs, at_occurs}
use Rattle.sp_algebra.proofs.Laws.{coefficient-product}
use Rattle.sp_algebra.proofs.Reordered.{sum_over-filter}
use Rattle.sp_shapes.proofs.Listing.{all_partitions, each_partition, partitions_ascend}
use Rattle.sp_shapes.proofs.Regular.{index_short}
use Rattle.sp_shapes.proofs.Shrink.{degree-shrink}
use Rattle.sp_power_law.proofs.Gains.{addable_at, removable_at, Gains, addable_facts, facts_addable, gain_near}
use Rattle.sp_sl2_law.specs.Restriction.{restriction_exponent, enlarged, restriction}
use Rattle.sp_sl2_law.specs.Balanced.{corner_difference}
use Rattle.sp_sl2_law.proofs.Totals.{total, total-alike, coefficient-total}
use Rattle.sp_sl2_law.proofs.RowSums.{sum_by_rows}
use Rattle.sp_sl2_law.proofs.OneNode.{Loses, removable_facts, facts_removable, Grown, grows, Shrunk, shrinks}
use Rattle.sp_sl2_law.proofs.OneNode.{gains_back}
use Rattle.sp_sl2_law.proofs.OneNode.{grown_back, loses_back, shrunk_back, grown_move, MovedRow, moved_row, grown_apart}
use Rattle.sp_sl2_law.proofs.OneNode.{shrunk_apart, corner_of}
use Rattle.sp_sl2_law.proofs.Tilts.{tilt, tilt-alike}
use Rattle.sp_sl2_law.proofs.Exponents.{induction_exponent, restriction_exponent_is}

-- A power of v in front moves the coefficients.
pub coefficient-shift : (k : ℤ) (p : Laurent) (z : ℤ) → coefficient (times (power k) p) z ≡ coefficient p (z -ℤ k)
unfolding int_sum
coefficient-shift k p z = coefficient-product (power k) p z ∙ plain (coefficient p (z -ℤ k))
  where
    plain : (x : ℤ) → pos 1 *ℤ x +ℤ pos 0 ≡ x
    plain x = omega (arith, ints)

-- The coefficient of what a test lets through.
pub coefficient-cond : (b : Bool) (p : Laurent) (z : ℤ) →
    coefficient (cond b p []) z ≡ cond b (coefficient p z) (pos 0)
unfolding coefficient
coefficient-cond true p z = refl
coefficient-cond false p z = refl

-- Numbers that are equal where a test is passed.
pub cond-alike : (b : Bool) (x y : ℤ) → (b ≡ true → x ≡ y) → cond b x (pos 0) ≡ cond b y (pos 0)
cond-alike true x y h = h refl
cond-alike false x y h = refl

-- The exponent of the restriction from row s.
abbrev pub taken_exponent : ℕ → ℕ → List ℕ → ℕ → ℤ
taken_exponent e i mu s = (tilt e i mu (s - 1) +ℤ pos 1) -ℤ corner_difference e i mu

-- What a restriction has at mu from row s.
abbrev pub taken : ℕ → ℕ → Vector → List ℕ → ℤ → ℕ → ℤ
taken e i w mu z s =
    cond (addable_at e i mu s) (coefficient (w (grow (s - 1) mu)) (z -ℤ taken_exponent e i mu s)) (pos 0)

-- What an induction has at mu from row t.
abbrev pub given : ℕ → ℕ → Vector → List ℕ → ℤ → ℕ → ℤ
given e j w mu z t =
    cond (removable_at e j mu t) (coefficient (w (shrink (t - 1) mu)) (z -ℤ tilt e j mu (t - 1))) (pos 0)

-- A removable row is one of the rows.
pub loss_near : (parts : List ℕ) (e i r : ℕ) → 1 ≤ r → Loses e i parts r → r ≤ length parts
loss_near parts e i r hr l =
    let short : r - 1 < length parts = index_short parts (r - 1) (omega (arith, l.corner)) in omega arith

module _ (e i : ℕ) (he : 2 ≤ e) (mu : List ℕ) (pm : IsPartition mu) (n : ℕ) (w : Vector) (z : ℤ) where
  -- A sum over the partitions with a node more is the sum over the rows that can gain a node.
  pub enlarged_rows : length mu + 1 ≤ n → (f : List ℕ → ℤ) →
      total (partitions (degree mu + 1)) (λ x. cond (is_move e i 1 mu x) (f x) (pos 0)) ≡
      total (from_one_to n) (λ r. cond (addable_at e i mu r) (f (grow (r - 1) mu)) (pos 0))
  enlarged_rows far f =
      sum_by_rows (partitions (degree mu + 1)) (partitions_ascend (degree mu + 1)) n (λ x. is_move e i 1 mu x)
      (λ r. addable_at e i mu r) (λ r. grow (r - 1) mu) there some
      (λ r s hr hs a b same. grown_apart e i mu r s hr hs pm (addable_facts e i mu r a)
      (addable_facts e i mu s b) same) f
    where
      there : (r : ℕ) → 1 ≤ r → r ≤ n → addable_at e i mu r ≡ true →
          Occurs (grow (r - 1) mu) (partitions (degree mu + 1)) × (is_move e i 1 mu (grow (r - 1) mu) ≡ true)
      there r lo hi can =
          let g : Grown mu r (grow (r - 1) mu) = grows e i mu r lo pm (addable_facts e i mu r can) in (
            each_partition (degree mu + 1) (grow (r - 1) mu) g.partition g.degree_is,
            grown_move e i mu r he lo pm can,
          )

      some : (x : List ℕ) → Occurs x (partitions (degree mu + 1)) → is_move e i 1 mu x ≡ true →
          (r : ℕ) × (1 ≤ r) × (r ≤ n) × (addable_at e i mu r ≡ true) × (grow (r - 1) mu ≡ x)
      some x o h =
          let px : IsPartitionOf (degree mu + 1) x =
          at_occurs (IsPartitionOf (degree mu + 1)) x (partitions (degree mu + 1)) o (all_partitions (degree mu + 1)) in
          let m : MovedRow e i mu x = moved_row e i mu x he pm px.partition h in
          let near : m.row ≤ length mu + 1 = gain_near e i mu m.row (addable_facts e i mu m.row m.gains) in
          (m.row, m.least, omega arith, m.gains, sym m.is)

  -- A restriction is the sum over the rows that can gain a node.
  pub restriction_rows : length mu + 1 ≤ n →
      coefficient (restriction e i w mu) z ≡ total (from_one_to n) (taken e i w mu z)
  unfolding restriction enlarged
  restriction_rows far =
      ap (λ p. coefficient p z)
      (sum_over-filter (λ larger. is_move e i 1 mu larger) (partitions (degree mu + 1)) term)
      ∙ coefficient-total (partitions (degree mu + 1)) (λ larger. cond (is_move e i 1 mu larger) (term larger) []) z
      ∙ total-alike (partitions (degree mu + 1)) _ (λ x. cond (is_move e i 1 mu x) (coefficient (term x) z) (pos 0))
      (all_every _ (partitions (degree mu + 1)) (λ x. coefficient-cond (is_move e i 1 mu x) (term x) z))
      ∙ enlarged_rows far (λ x. coefficient (term x) z)
      ∙ total-alike (from_one_to n)
      (λ r. cond (addable_at e i mu r) (coefficient (term (grow (r - 1) mu)) z) (pos 0)) (taken e i w mu z)
      (range_all _ 1 n (λ r lo hi. cond-alike (addable_at e i mu r) _ _ (λ can.
      coefficient-shift (restriction_exponent e i mu (grow (r - 1) mu)) (w (grow (r - 1) mu)) z
      ∙ ap (λ k. coefficient (w (grow (r - 1) mu)) (z -ℤ k)) (restriction_exponent_is e i mu r he lo pm can))))
    where
      term : List ℕ → Laurent
      term larger = times (power (restriction_exponent e i mu larger)) (w larger)

  -- An induction of one node is the sum over the rows that can lose a node.
  pub induction_rows : length mu ≤ n →
      coefficient (divided_power e i 1 w mu) z ≡ total (from_one_to n) (given e i w mu z)
  unfolding divided_power sources
  induction_rows far =
      ap (λ p. coefficient p z)
      (sum_over-filter (λ before. is_move e i 1 before mu) (partitions (degree mu - 1)) term)
      ∙ coefficient-total (partitions (degree mu - 1)) (λ before. cond (is_move e i 1 before mu) (term before) []) z
      ∙ total-alike (partitions (degree mu - 1)) _ (λ x. cond (is_move e i 1 x mu) (coefficient (term x) z) (pos 0))
      (all_every _ (partitions (degree mu - 1)) (λ x. coefficient-cond (is_move e i 1 x mu) (term x) z))
      ∙ sum_by_rows (partitions (degree mu - 1)) (partitions_ascend (degree mu - 1)) n (λ x. is_move e i 1 x mu)
      (λ r. removable_at e i mu r) (λ r. shrink (r - 1) mu) there some
      (λ r s hr hs a b same. shrunk_apart e i mu r s hr hs pm (removable_facts e i mu r a)
      (removable_facts e i mu s b) same)
      (λ x. coefficient (term x) z)
      ∙ total-alike (from_one_to n)
      (λ r. cond (removable_at e i mu r) (coefficient (term (shrink (r - 1) mu)) z) (pos 0)) (given e i w mu z)
      (range_all _ 1 n (λ r lo hi. cond-alike (removable_at e i mu r) _ _ (λ can.
      coefficient-shift (exponent e i (shrink (r - 1) mu) mu) (w (shrink (r - 1) mu)) z
      ∙ ap (λ k. coefficient (w (shrink (r - 1) mu)) (z -ℤ k)) (power_is r lo (removable_facts e i mu r can)))))
    where
      term : List ℕ → Laurent
      term before = times (power (exponent e i before mu)) (w before)

      can_gain : (r : ℕ) → 1 ≤ r → Loses e i mu r → addable_at e i (shrink (r - 1) mu) r ≡ true
      can_gain r lo l = facts_addable e i (shrink (r - 1) mu) r lo (gains_back e i mu r lo pm l)

      power_is : (r : ℕ) → 1 ≤ r → Loses e i mu r → exponent e i (shrink (r - 1) mu) mu ≡ tilt e i mu (r - 1)
      power_is r lo l =
          let s : Shrunk mu r (shrink (r - 1) mu) = shrinks e i mu r lo pm l in
          subst (λ x. exponent e i (shrink (r - 1) mu) x ≡ tilt e i (shrink (r - 1) mu) (r - 1))
          (grown_back e i mu r lo pm l)
          (induction_exponent e i (shrink (r - 1) mu) r he lo s.partition (can_gain r lo l))
          ∙ tilt-alike e i (shrink (r - 1) mu) mu (r - 1) (λ k a b. s.elsewhere k a (λ e. omega arith))

      there : (r : ℕ) → 1 ≤ r → r ≤ n → removable_at e i mu r ≡ true →
          Occurs (shrink (r - 1) mu) (partitions (degree mu - 1)) × (is_move e i 1 (shrink (r - 1) mu) mu ≡ true)
      there r lo hi can =
          let l : Loses e i mu r = removable_facts e i mu r can in
          let s : Shrunk mu r (shrink (r - 1) mu) = shrinks e i mu r lo pm l in
          let less : degree (shrink (r - 1) mu) + 1 ≡ degree mu =
          degree-shrink (r - 1) mu pm (corner_of e i mu r lo l) in (
            each_partition (degree mu - 1) (shrink (r - 1) mu) s.partition (omega (arith, less)),
            subst (λ x. is_move e i 1 (shrink (r - 1) mu) x ≡ true) (grown_back e i mu r lo pm l)
                (grown_move e i (shrink (r - 1) mu) r he lo s.partition (can_gain r lo l)),
          )

      some : (x : List ℕ) → Occurs x (partitions (degree mu - 1)) → is_move e i 1 x mu ≡ true →
          (r : ℕ) × (1 ≤ r) × (r ≤ n) × (removable_at e i mu r ≡ true) × (shrink (r - 1) mu ≡ x)
      some x o h =
          let px : IsPartitionOf (degree mu - 1) x =
          at_occurs (IsPartitionOf (degree mu - 1)) x (partitions (degree mu - 1)) o (all_partitions (degree mu - 1)) in
          let m : MovedRow e i x mu = moved_row e i x mu he px.partition pm h in
          let g : Gains e i x m.row = addable_facts e i x m.row m.gains in
          let l : Loses e i mu m.row =
          subst (λ y. Loses e i y m.row) (sym m.is) (loses_back e i x m.row m.least px.partition g) in
          let near : m.row ≤ length mu = loss_near mu e i m.row m.least l in (
            m.row,
            m.least,
            omega arith,
            facts_removable e i mu m.row m.least l,
            ap (shrink (m.row - 1)) m.is ∙ shrunk_back e i x m.row m.least px.partition g,
          )
