-- Induction of one node after a divided power: the next divided power, times a balanced integer.
use Rattle.std.proofs.Common.{◌≡◌, ℕ, zero, suc, ◌+◌, ◌-◌, ◌*◌, ◌≤◌, Bool, true, false, cond, List, [], length, refl}
use Rattle.std.proofs.Common.{sym}
use Rattle.std.proofs.Common.{◌∙◌, ap, ap₂, arith, ℤ, pos, ◌+ℤ◌, ◌-ℤ◌, true≢false, add-one}
use Rattle.std.proofs.lemmas.Int.{ints}
use Rattle.std.specs.List.{AllByRecursion, range_with_len}
use Rattle.sp_defs.specs.Partition.{degree, partitions, from_one_to, IsPartition, IsPartitionOf}
use Rattle.sp_defs.specs.Laurent.{Laurent, one, coefficient, collect, add_term, power, plus, products, times, sum_over}
use Rattle.sp_defs.specs.Power.{Vector, is_move, exponent, sources, divided_power}
use Rattle.sp_defs.specs.Signature.{shrink}
use Rattle.sp_lists.proofs.Elements.{range_all, all_every, all_filter}
use Rattle.sp_lists.proofs.Places.{all_weaken}
use Rattle.sp_algebra.proofs.Coefficients.{same_laurent}
use Rattle.sp_algebra.proofs.Laws.{IsLaurent-times, times_assoc, one_times}
use Rattle.sp_algebra.proofs.Reordered.{sum_over-filter}
use Rattle.sp_algebra.proofs.Steps.{times_comm}
use Rattle.sp_algebra.proofs.Sums.{IsLaurent-sum_over, times-sum_over, sum_over-alike}
use Rattle.sp_shapes.proofs.Listing.{all_partitions}
use Rattle.sp_shapes.proofs.Moves.{Move, move_facts, facts_move}
use Rattle.sp_shapes.proofs.Shrink.{degree-shrink}
use Rattle.sp_power_law.proofs.Gains.{removable_at}
use Rattle.sp_sl2_law.specs.Balanced.{balanced_natural}
use Rattle.sp_sl2_law.specs.Repeated.{balanced_factorial, repeated_induction, NextPowerLaw, DividedPowerLaw}
use Rattle.sp_sl2_law.proofs.ByRows.{coefficient-shift, coefficient-cond, cond-alike, given, induction_rows}
use Rattle.sp_sl2_law.proofs.LastMoved.{longer_move, is_among, loses, shorter_move, split_exponent}
use Rattle.sp_sl2_law.proofs.Longer.{count_to, is_longer, longer_count}
use Rattle.sp_sl2_law.proofs.OneNode.{Loses, removable_facts, facts_removable, corner_of}
use Rattle.sp_sl2_law.proofs.Relation.{never_both}
use Rattle.sp_sl2_law.proofs.Stairs.{total-range_last, total-range_later, coefficient-natural}
use Rattle.sp_sl2_law.proofs.Tilts.{tilt}
use Rattle.sp_sl2_law.proofs.Totals.{total, total-alike, total-swap, total-zeros, total-cond, coefficient-total}

-- ---- sums over ranges

-- A range backwards.
total-backwards : (f : ℕ → ℤ) (n : ℕ) → total (range_with_len 0 n) f ≡ total (range_with_len 0 n) (λ j. f (n - 1 - j))
unfolding total
total-backwards f zero = refl
total-backwards f (suc n) =
    total-range_last f 0 n
    ∙ turned (total (range_with_len 0 n) f) (f (0 + n)) (f (suc n - 1 - 0))
    (total (range_with_len (0 + 1) n) (λ j. f (suc n - 1 - j))) (ap f (first n))
    (total-backwards f n
    ∙ total-alike (range_with_len 0 n) (λ j. f (n - 1 - j)) (λ j. f (suc n - 1 - (j + 1)))
    (all_every _ (range_with_len 0 n) (λ j. ap f (later n j)))
    ∙ sym (total-range_later (λ j. f (suc n - 1 - j)) 0 n))
  where
    first : (n : ℕ) → 0 + n ≡ suc n - 1 - 0
    first n = omega arith

    later : (n j : ℕ) → n - 1 - j ≡ suc n - 1 - (j + 1)
    later n j = omega arith

    turned : (x y y' x' : ℤ) → y ≡ y' → x ≡ x' → x +ℤ y ≡ y' +ℤ x'
    turned x y y' x' h k = omega (arith, ints)

-- Over the rows that are on, f of the number of those above is f of each number once.
counted_once : (on : ℕ → Bool) (f : ℕ → ℤ) (n : ℕ) →
    total (from_one_to n) (λ r. cond (on r) (f (count_to on (r - 1))) (pos 0))
    ≡ total (range_with_len 0 (count_to on n)) f
unfolding total count_to
counted_once on f zero = refl
counted_once on f (suc n) =
    total-range_last (λ r. cond (on r) (f (count_to on (r - 1))) (pos 0)) 1 n
    ∙ ap₂ (λ x r. x +ℤ cond (on r) (f (count_to on (r - 1))) (pos 0)) (counted_once on f n) (turned n)
    ∙ ap (λ k. total (range_with_len 0 (count_to on n)) f +ℤ cond (on (suc n)) (f (count_to on k)) (pos 0)) (back n)
    ∙ by_test (on (suc n))
  where
    turned : (n : ℕ) → 1 + n ≡ suc n
    turned n = omega arith

    back : (n : ℕ) → suc n - 1 ≡ n
    back n = omega arith

    plain : (x : ℤ) → x +ℤ pos 0 ≡ x
    plain x = omega (arith, ints)

    same : (n : ℕ) → n ≡ n + 0
    same n = omega arith

    from_zero : (n : ℕ) → n ≡ 0 + n
    from_zero n = omega arith

    by_test : (b : Bool) →
        total (range_with_len 0 (count_to on n)) f +ℤ cond b (f (count_to on n)) (pos 0) ≡
        total (range_with_len 0 (count_to on n + cond b 1 0)) f
    by_test true =
        ap (λ k. total (range_with_len 0 (count_to on n)) f +ℤ f k) (from_zero (count_to on n))
        ∙ sym (total-range_last f 0 (count_to on n))
        ∙ ap (λ k. total (range_with_len 0 k) f) (sym (add-one (count_to on n)))
    by_test false =
        plain (total (range_with_len 0 (count_to on n)) f)
        ∙ ap (λ k. total (range_with_len 0 k) f) (same (count_to on n))

-- ---- a divided power

-- It is a sum over all partitions of m nodes less.
power_total : (e i m : ℕ) (w : Vector) (mu : List ℕ) (z : ℤ) →
    coefficient (divided_power e i m w mu) z ≡ total (partitions (degree mu - m))
    (λ x. cond (is_move e i m x mu) (coefficient (w x) (z -ℤ exponent e i x mu)) (pos 0))
unfolding divided_power sources
power_total e i m w mu z =
    ap (λ p. coefficient p z) (sum_over-filter (λ x. is_move e i m x mu) (partitions (degree mu - m)) term)
    ∙ coefficient-total (partitions (degree mu - m)) (λ x. cond (is_move e i m x mu) (term x) []) z
    ∙ total-alike (partitions (degree mu - m)) _
    (λ x. cond (is_move e i m x mu) (coefficient (w x) (z -ℤ exponent e i x mu)) (pos 0))
    (all_every _ (partitions (degree mu - m)) (λ x. coefficient-cond (is_move e i m x mu) (term x) z
    ∙ cond-alike (is_move e i m x mu) _ _ (λ _. coefficient-shift (exponent e i x mu) (w x) z)))
  where
    term : List ℕ → Laurent
    term x = times (power (exponent e i x mu)) (w x)

module _ (e i m : ℕ) (he : 2 ≤ e) (w : Vector) (nu : List ℕ) (pn : IsPartition nu) (z : ℤ) where
  -- What row t brings from x: it is the last to be moved.
  last_in : ℕ → List ℕ → ℤ
  last_in t x =
      cond (removable_at e i nu t)
      (cond (is_move e i m x (shrink (t - 1) nu))
      (coefficient (w x) ((z -ℤ tilt e i nu (t - 1)) -ℤ exponent e i x (shrink (t - 1) nu))) (pos 0)) (pos 0)

  -- What a move of m + 1 nodes brings from x with each power of the balanced integer.
  with_power : List ℕ → ℕ → ℤ
  with_power x j = coefficient (w x) ((z -ℤ (pos (2 * j + 1) -ℤ pos (m + 1))) -ℤ exponent e i x nu)

  left_total : coefficient (divided_power e i 1 (divided_power e i m w) nu) z ≡
      total (partitions (degree nu - (m + 1))) (λ x. total (from_one_to (length nu)) (λ t. last_in t x))
  unfolding last_in
  left_total =
      induction_rows e i he nu pn (length nu) (divided_power e i m w) z (omega arith)
      ∙ total-alike (from_one_to (length nu)) (given e i (divided_power e i m w) nu z)
      (λ t. total (partitions (degree nu - (m + 1))) (last_in t))
      (range_all _ 1 (length nu)
      (λ t lo hi. cond-alike (removable_at e i nu t) _ _ (λ can. row t lo (removable_facts e i nu t can))
      ∙ total-cond (removable_at e i nu t) (partitions (degree nu - (m + 1)))
      (λ x. cond (is_move e i m x (shrink (t - 1) nu))
      (coefficient (w x) ((z -ℤ tilt e i nu (t - 1)) -ℤ exponent e i x (shrink (t - 1) nu))) (pos 0))))
      ∙ total-swap (from_one_to (length nu)) (partitions (degree nu - (m + 1))) last_in
    where
      row : (t : ℕ) → 1 ≤ t → Loses e i nu t →
          coefficient (divided_power e i m w (shrink (t - 1) nu)) (z -ℤ tilt e i nu (t - 1)) ≡
          total (partitions (degree nu - (m + 1)))
          (λ x. cond (is_move e i m x (shrink (t - 1) nu))
          (coefficient (w x) ((z -ℤ tilt e i nu (t - 1)) -ℤ exponent e i x (shrink (t - 1) nu))) (pos 0))
      row t lo l =
          power_total e i m w (shrink (t - 1) nu) (z -ℤ tilt e i nu (t - 1))
          ∙ ap (λ n. total (partitions n)
          (λ x. cond (is_move e i m x (shrink (t - 1) nu))
          (coefficient (w x) ((z -ℤ tilt e i nu (t - 1)) -ℤ exponent e i x (shrink (t - 1) nu))) (pos 0)))
          (less (degree-shrink (t - 1) nu pn (corner_of e i nu t lo l)))
        where
          less : degree (shrink (t - 1) nu) + 1 ≡ degree nu → degree (shrink (t - 1) nu) - m ≡ degree nu - (m + 1)
          less h = omega arith

  right_total : coefficient (times (balanced_natural (m + 1)) (divided_power e i (m + 1) w nu)) z ≡
      total (partitions (degree nu - (m + 1)))
      (λ x. cond (is_move e i (m + 1) x nu) (total (range_with_len 0 (m + 1)) (with_power x)) (pos 0))
  unfolding with_power
  right_total =
      coefficient-natural (m + 1) (divided_power e i (m + 1) w nu) z
      ∙ total-alike (range_with_len 0 (m + 1)) _
      (λ j. total (partitions (degree nu - (m + 1))) (λ x. cond (is_move e i (m + 1) x nu) (with_power x j) (pos 0)))
      (all_every _ (range_with_len 0 (m + 1))
      (λ j. power_total e i (m + 1) w nu (z -ℤ (pos (2 * j + 1) -ℤ pos (m + 1)))))
      ∙ total-swap (range_with_len 0 (m + 1)) (partitions (degree nu - (m + 1)))
      (λ j x. cond (is_move e i (m + 1) x nu) (with_power x j) (pos 0))
      ∙ total-alike (partitions (degree nu - (m + 1))) _ _
      (all_every _ (partitions (degree nu - (m + 1)))
      (λ x. sym (total-cond (is_move e i (m + 1) x nu) (range_with_len 0 (m + 1)) (with_power x))))

  -- Each of the m + 1 nodes can be the last, and they bring the powers of the balanced integer.
  module _ (x : List ℕ) (px : IsPartition x) where
    lost : (t : ℕ) → removable_at e i nu t ≡ true → is_move e i m x (shrink (t - 1) nu) ≡ true → 1 ≤ t →
        is_move e i (m + 1) x nu ≡ true
    lost t a b lo =
        facts_move e i (m + 1) x nu
        (longer_move e i m he x px nu pn t lo (removable_facts e i nu t a)
        (move_facts e i m x (shrink (t - 1) nu) b))

    nodes_total : (b : Bool) → is_move e i (m + 1) x nu ≡ b →
        total (from_one_to (length nu)) (λ t. last_in t x) ≡
        cond b (total (range_with_len 0 (m + 1)) (with_power x)) (pos 0)
    unfolding last_in with_power
    nodes_total false is =
        total-zeros (from_one_to (length nu)) _
        (range_all _ 1 (length nu)
        (λ t lo hi. never_both (removable_at e i nu t) (is_move e i m x (shrink (t - 1) nu)) _
        (λ a b. true≢false (sym (lost t a b lo) ∙ is))))
    nodes_total true is =
        total-alike (from_one_to (length nu)) _
        (λ t. cond (is_longer x nu t) (by_count (count_to (is_longer x nu) (t - 1)))
        (pos 0))
        (range_all _ 1 (length nu) (λ t lo hi. row t lo (is_longer x nu t) refl))
        ∙ counted_once (is_longer x nu) by_count (length nu)
        ∙ ap (λ k. total (range_with_len 0 k) by_count)
        (longer_count e i he x px (m + 1) nu pn mv (length nu) (omega arith))
        ∙ total-backwards by_count (m + 1)
        ∙ total-alike (range_with_len 0 (m + 1)) (λ j. by_count (m + 1 - 1 - j)) _
        (range_all _ 0 (m + 1)
        (λ j lo hi. ap (coefficient (w x)) (same_power z (exponent e i x nu) m j (omega arith))))
      where
        mv : Move e i (m + 1) x nu
        mv = move_facts e i (m + 1) x nu is

        by_count : ℕ → ℤ
        by_count c = coefficient (w x) (z -ℤ (exponent e i x nu +ℤ (pos m -ℤ pos (2 * c))))

        same_power : (z k : ℤ) (m j : ℕ) → j ≤ m →
            z -ℤ (k +ℤ (pos m -ℤ pos (2 * (m + 1 - 1 - j)))) ≡ (z -ℤ (pos (2 * j + 1) -ℤ pos (m + 1))) -ℤ k
        same_power z k m j le = omega (arith, ints)

        moved : (z a b k : ℤ) → a +ℤ b ≡ k → (z -ℤ a) -ℤ b ≡ z -ℤ k
        moved z a b k h = omega (arith, ints)

        row : (t : ℕ) → 1 ≤ t → (on : Bool) → is_longer x nu t ≡ on →
            cond (removable_at e i nu t)
            (cond (is_move e i m x (shrink (t - 1) nu))
            (coefficient (w x) ((z -ℤ tilt e i nu (t - 1)) -ℤ exponent e i x (shrink (t - 1) nu))) (pos 0)) (pos 0) ≡
            cond on (by_count (count_to (is_longer x nu) (t - 1))) (pos 0)
        row t lo false off =
            never_both (removable_at e i nu t) (is_move e i m x (shrink (t - 1) nu)) _
            (λ a b. true≢false
            (sym (is_among e i m he x px nu pn t lo (removable_facts e i nu t a)
            (move_facts e i m x (shrink (t - 1) nu) b)) ∙ off))
        row t lo true on =
            ap₂ (λ a b. cond a
            (cond b (coefficient (w x) ((z -ℤ tilt e i nu (t - 1)) -ℤ exponent e i x (shrink (t - 1) nu))) (pos 0))
            (pos 0))
            (facts_removable e i nu t lo (loses e i m he x px nu pn t lo mv on))
            (facts_move e i m x (shrink (t - 1) nu) (shorter_move e i m he x px nu pn t lo mv on))
            ∙ ap (coefficient (w x))
            (moved z (tilt e i nu (t - 1)) (exponent e i x (shrink (t - 1) nu))
            (exponent e i x nu +ℤ (pos m -ℤ pos (2 * count_to (is_longer x nu) (t - 1))))
            (split_exponent e i m he x px nu pn t lo mv on))

-- f_i f_i^(m) = [m + 1] f_i^(m + 1)
pub next_power : NextPowerLaw
unfolding divided_power
next_power e i m he w nu pn =
    same_laurent _ _ (IsLaurent-sum_over (sources e i 1 nu) _)
    (IsLaurent-times (balanced_natural (m + 1)) (divided_power e i (m + 1) w nu))
    (λ z. left_total e i m he w nu pn z
    ∙ total-alike (partitions (degree nu - (m + 1)))
    (λ x. total (from_one_to (length nu)) (λ t. last_in e i m he w nu pn z t x))
    (λ x. cond (is_move e i (m + 1) x nu) (total (range_with_len 0 (m + 1)) (with_power e i m he w nu pn z x)) (pos 0))
    (all_weaken (IsPartitionOf (degree nu - (m + 1))) _ (partitions (degree nu - (m + 1)))
    (λ x h. nodes_total e i m he w nu pn z x h.partition (is_move e i (m + 1) x nu) refl)
    (all_partitions (degree nu - (m + 1))))
    ∙ sym (right_total e i m he w nu pn z))

-- ---- several times

all_sources : (e i m : ℕ) (nu : List ℕ) → AllByRecursion IsPartition (sources e i m nu)
unfolding sources
all_sources e i m nu =
    all_filter IsPartition (λ x. is_move e i m x nu) (partitions (degree nu - m))
    (all_weaken (IsPartitionOf (degree nu - m)) (λ x. is_move e i m x nu ≡ true → IsPartition x)
    (partitions (degree nu - m)) (λ x h _. h.partition) (all_partitions (degree nu - m)))

-- A factor goes through an induction.
induced-multiple : (e i m : ℕ) (a : Laurent) (u v : Vector) (nu : List ℕ) →
    ((x : List ℕ) → IsPartition x → u x ≡ times a (v x)) →
    divided_power e i m u nu ≡ times a (divided_power e i m v nu)
unfolding divided_power
induced-multiple e i m a u v nu same =
    sum_over-alike (sources e i m nu) (λ x. times (power (exponent e i x nu)) (u x))
    (λ x. times a (times (power (exponent e i x nu)) (v x)))
    (all_weaken IsPartition _ (sources e i m nu)
    (λ x h. ap (times (power (exponent e i x nu))) (same x h)
    ∙ sym (times_assoc (power (exponent e i x nu)) a (v x))
    ∙ ap (λ q. times q (v x)) (times_comm (power (exponent e i x nu)) a)
    ∙ times_assoc a (power (exponent e i x nu)) (v x)) (all_sources e i m nu))
    ∙ sym (times-sum_over a (sources e i m nu) (λ x. times (power (exponent e i x nu)) (v x)))

-- [1]! = 1
factorial_one : balanced_factorial 1 ≡ one
unfolding balanced_factorial balanced_natural sum_over times products plus collect add_term
factorial_one = refl

-- f_i applied m times is [m]! f_i^(m).
pub repeated_power : DividedPowerLaw
unfolding repeated_induction balanced_factorial divided_power
repeated_power e i zero he hm w nu pn = absurd (omega arith)
repeated_power e i (suc zero) he hm w nu pn =
    sym (ap (λ a. times a (divided_power e i 1 w nu)) factorial_one
    ∙ one_times (divided_power e i 1 w nu) (IsLaurent-sum_over (sources e i 1 nu) _))
repeated_power e i (suc (suc m)) he hm w nu pn =
    induced-multiple e i 1 (balanced_factorial (suc m)) (repeated_induction e i (suc m) w)
    (divided_power e i (suc m) w) nu (λ x h. repeated_power e i (suc m) he (omega arith) w x h)
    ∙ ap (times (balanced_factorial (suc m))) (next_power e i (suc m) he w nu pn
    ∙ ap (λ k. times (balanced_natural k) (divided_power e i k w nu)) (turned m))
    ∙ sym (times_assoc (balanced_factorial (suc m)) (balanced_natural (suc (suc m)))
    (divided_power e i (suc (suc m)) w nu))
    ∙ ap (λ q. times q (divided_power e i (suc (suc m)) w nu))
    (times_comm (balanced_factorial (suc m)) (balanced_natural (suc (suc m))))
  where
    turned : (m : ℕ) → suc m + 1 ≡ suc (suc m)
    turned m = omega arith
