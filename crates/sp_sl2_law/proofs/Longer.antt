-- The rows that a move of several nodes makes longer: how many they are, and its exponent as a sum over them.
use Rattle.std.proofs.Common.{◌≡◌, ◌≢◌, ℕ, zero, suc, ◌+◌, ◌-◌, ◌*◌, ◌<◌, ◌≤◌, Bool, true, false, cond, nat_eq, nat_lt}
use Rattle.std.proofs.Common.{List, length, refl, sym, ◌∙◌, ap, ap₂, subst, arith, ◌⊎◌, inl, inr, ℤ, pos}
use Rattle.std.proofs.Common.{◌+ℤ◌, ◌-ℤ◌, lt-ltb, le-ltb, eq-eqb, eqb-true}
use Rattle.std.proofs.lemmas.Bool.{false_from_ne_true}
use Rattle.std.proofs.lemmas.Int.{ints}
use Rattle.sp_defs.specs.Partition.{part, IsPartition}
use Rattle.sp_defs.specs.Node.{residue}
use Rattle.sp_defs.specs.Power.{added, exponent}
use Rattle.sp_defs.specs.Signature.{grow}
use Rattle.sp_lists.proofs.Elements.{le_or_lt}
use Rattle.sp_shapes.proofs.Moves.{Move}
use Rattle.sp_shapes.proofs.Regular.{index_short}
use Rattle.sp_shapes.proofs.Residues.{right_differs}
use Rattle.sp_power_law.proofs.Gains.{addable_at, removable_at, addable_facts, not_both}
use Rattle.sp_power_law.proofs.Ends.{RowCase, row_cases}
use Rattle.sp_power_law.proofs.Steps.{Before, start, pass, choose, grown_here, grown_elsewhere}
use Rattle.sp_sl2_law.proofs.OneNode.{same_parts}
use Rattle.sp_sl2_law.proofs.Tilts.{one_if, lean, turn, tilt, lean_gains}
use Rattle.sp_sl2_law.proofs.Descent.{lean_next, lean_first}

-- ---- sums over rows that are on

-- How many of the first r rows are on.
unfoldable pub count_to : (ℕ → Bool) → ℕ → ℕ
count_to on zero = 0
count_to on (suc r) = count_to on r + cond (on (suc r)) 1 0

-- A row that is on counts.
pub count_next : (on : ℕ → Bool) (r : ℕ) → on (suc r) ≡ true → count_to on (suc r) ≡ count_to on r + 1
unfolding count_to
count_next on r h = ap (λ b. count_to on r + cond b 1 0) h

-- For each of the first r rows that is on, f of the row above without the number of rows on above it.
unfoldable pub sum_to : (ℕ → ℤ) → (ℕ → Bool) → ℕ → ℤ
sum_to f on zero = pos 0
sum_to f on (suc r) = sum_to f on r +ℤ cond (on (suc r)) (f r -ℤ pos (count_to on r)) (pos 0)

-- Where row q + 1 is on, and off in its place with all others as they are.
module _ (f : ℕ → ℤ) (on off : ℕ → Bool) (q : ℕ) (there : on (suc q) ≡ true) (gone : off (suc q) ≡ false)
    (same : (r : ℕ) → r ≢ q → off (suc r) ≡ on (suc r)) where
  count_above : (r : ℕ) → r ≤ q → count_to off r ≡ count_to on r
  unfolding count_to
  count_above zero le = refl
  count_above (suc r) le =
      ap₂ (λ n b. n + cond b 1 0) (count_above r (omega arith)) (same r (λ e. omega arith))

  sum_above : (r : ℕ) → r ≤ q → sum_to f off r ≡ sum_to f on r
  unfolding sum_to
  sum_above zero le = refl
  sum_above (suc r) le =
      ap₂ (λ x b. x +ℤ cond b (f r -ℤ pos (count_to off r)) (pos 0)) (sum_above r (omega arith))
      (same r (λ e. omega arith))
      ∙ ap (λ n. sum_to f on r +ℤ cond (on (suc r)) (f r -ℤ pos n) (pos 0)) (count_above r (omega arith))

  count_below : (r : ℕ) → q < r → count_to off r + 1 ≡ count_to on r
  unfolding count_to
  count_below zero lt = absurd (omega arith)
  count_below (suc r) lt = settle (le_or_lt r q) (count_below r)
    where
      here : r ≡ q → count_to off r + cond (off (suc r)) 1 0 + 1 ≡ count_to on r + cond (on (suc r)) 1 0
      here is =
          let a : ◌≡◌ {A = ℕ} (cond (off (suc r)) 1 0) 0 = ap (λ n. cond (off (suc n)) 1 0) is
          ∙ ap (λ b. cond b 1 0) gone in
          let b : ◌≡◌ {A = ℕ} (cond (on (suc r)) 1 0) 1 = ap (λ n. cond (on (suc n)) 1 0) is
          ∙ ap (λ b. cond b 1 0) there in
          omega (arith, a, b, count_above r (omega arith))

      settle : (r ≤ q) ⊎ (q < r) → (q < r → count_to off r + 1 ≡ count_to on r) →
          count_to off r + cond (off (suc r)) 1 0 + 1 ≡ count_to on r + cond (on (suc r)) 1 0
      settle (inl le) so_far = here (omega arith)
      settle (inr gt) so_far =
          let a : ◌≡◌ {A = ℕ} (cond (off (suc r)) 1 0) (cond (on (suc r)) 1 0) =
          ap (λ b. cond b 1 0) (same r (λ e. omega arith)) in
          omega (arith, a, so_far gt)

  -- The sum loses the row's term, and each row on below it counts one less.
  pub sum_below : (r : ℕ) → q < r →
      sum_to f off r +ℤ (f q -ℤ pos (count_to on q)) ≡
      sum_to f on r +ℤ (pos (count_to on r) -ℤ pos (count_to on (suc q)))
  unfolding sum_to count_to
  sum_below zero lt = absurd (omega arith)
  sum_below (suc r) lt = settle (le_or_lt r q) (sum_below r)
    where
      Stands : ℕ → Type 0
      Stands k =
          (sum_to f off k +ℤ cond (off (suc k)) (f k -ℤ pos (count_to off k)) (pos 0)) +ℤ (f q -ℤ pos (count_to on q)) ≡
          (sum_to f on k +ℤ cond (on (suc k)) (f k -ℤ pos (count_to on k)) (pos 0)) +ℤ
          (pos (count_to on k + cond (on (suc k)) 1 0) -ℤ pos (count_to on q + cond (on (suc q)) 1 0))

      at_row : (x y t u : ℤ) (c : ℕ) (a b : Bool) → a ≡ false → b ≡ true → x ≡ y →
          (x +ℤ cond a u (pos 0)) +ℤ (t -ℤ pos c) ≡
          (y +ℤ cond b (t -ℤ pos c) (pos 0)) +ℤ (pos (c + cond b 1 0) -ℤ pos (c + cond b 1 0))
      at_row x y t u c a b ha hb h =
          let p : ◌≡◌ {A = ℤ} (cond a u (pos 0)) (pos 0) = ap (λ k. cond k u (pos 0)) ha in
          let k : ◌≡◌ {A = ℤ} (cond b (t -ℤ pos c) (pos 0)) (t -ℤ pos c) = ap (λ k. cond k (t -ℤ pos c) (pos 0)) hb in
          omega (arith, ints)

      later : (x y k t : ℤ) (c c' s : ℕ) (b : Bool) → x +ℤ k ≡ y +ℤ (pos c -ℤ pos s) → c' + 1 ≡ c →
          (x +ℤ cond b (t -ℤ pos c') (pos 0)) +ℤ k ≡
          (y +ℤ cond b (t -ℤ pos c) (pos 0)) +ℤ (pos (c + cond b 1 0) -ℤ pos s)
      later x y k t c c' s true h less = omega (arith, ints)
      later x y k t c c' s false h less = omega (arith, ints)

      settle : (r ≤ q) ⊎ (q < r) → (q < r → sum_to f off r +ℤ (f q -ℤ pos (count_to on q)) ≡
          sum_to f on r +ℤ (pos (count_to on r) -ℤ pos (count_to on q + cond (on (suc q)) 1 0))) → Stands r
      settle (inl le) so_far =
          let here : q ≡ r = omega arith in
          subst Stands here
          (at_row (sum_to f off q) (sum_to f on q) (f q) (f q -ℤ pos (count_to off q)) (count_to on q) (off (suc q))
          (on (suc q)) gone there (sum_above q (omega arith)))
      settle (inr gt) so_far =
          ap (λ b. (sum_to f off r +ℤ cond b (f r -ℤ pos (count_to off r)) (pos 0)) +ℤ (f q -ℤ pos (count_to on q)))
          (same r (λ e. omega arith))
          ∙ later (sum_to f off r) (sum_to f on r) (f q -ℤ pos (count_to on q)) (f r) (count_to on r) (count_to off r)
          (count_to on q + cond (on (suc q)) 1 0) (on (suc r)) (so_far gt) (count_below r gt)

-- ---- the rows that a move makes longer

-- Whether a row is longer in another partition.
abbrev pub is_longer : List ℕ → List ℕ → ℕ → Bool
is_longer parts nu r = nat_lt (part parts r) (part nu r)

module _ (e i : ℕ) (he : 2 ≤ e) (lambda : List ℕ) (pl : IsPartition lambda) (k : ℕ) (nu : List ℕ) (pn : IsPartition nu)
    (mv : Move e i k lambda nu) where
  -- The first r rows are done: `now` has those of nu, and from there on those of lambda.
  record Walked (r : ℕ) : Type 0 where
    now : List ℕ
    difference : ℤ
    sum : ℤ
    before : Before e i lambda (suc r) (count_to (is_longer lambda nu) r) now difference sum
    difference_is : difference ≡ lean e i lambda (suc r) -ℤ pos (count_to (is_longer lambda nu) r)
    sum_is : sum ≡ sum_to (tilt e i lambda) (is_longer lambda nu) r
    rows : (s : ℕ) → 1 ≤ s → s ≤ r → part now s ≡ part nu s

  begin : Walked 0
  unfolding count_to sum_to
  begin = record {
    now = lambda;
    difference = pos 0;
    sum = pos 0;
    before = start e i lambda pl;
    difference_is = omega (arith, ints, lean_first e i lambda);
    sum_is = refl;
    rows = λ s lo hi. absurd (omega arith);
  }

  kept : (r : ℕ) → Walked r → part nu (suc r) ≡ part lambda (suc r) → Walked (suc r)
  unfolding count_to sum_to
  kept r w same = record {
    now = w.now;
    difference =
        (w.difference +ℤ pos (cond (addable_at e i lambda (suc r)) 1 0)) -ℤ pos
        (cond (removable_at e i lambda (suc r)) 1 0);
    sum = w.sum;
    before =
        subst (λ n. Before e i lambda n
        (count_to (is_longer lambda nu) r + cond (is_longer lambda nu (suc r)) 1 0) w.now
        ((w.difference +ℤ pos (cond (addable_at e i lambda (suc r)) 1 0)) -ℤ pos
        (cond (removable_at e i lambda (suc r)) 1 0)) w.sum) (next r)
        (subst (λ n. Before e i lambda (suc r + 1) n w.now
        ((w.difference +ℤ pos (cond (addable_at e i lambda (suc r)) 1 0)) -ℤ pos
        (cond (removable_at e i lambda (suc r)) 1 0)) w.sum) stay
        (pass e i he lambda pl (suc r) (count_to (is_longer lambda nu) r) w.now w.difference w.sum (omega arith)
        w.before));
    difference_is =
        moved w.difference (lean e i lambda (suc r)) (lean e i lambda (suc r + 1)) (lean e i lambda (suc (suc r)))
        (addable_at e i lambda (suc r)) (removable_at e i lambda (suc r)) (count_to (is_longer lambda nu) r)
        (cond (is_longer lambda nu (suc r)) 1 0) w.difference_is (lean_next e i lambda (suc r) (omega arith))
        (ap (lean e i lambda) (next r)) none;
    sum_is =
        w.sum_is ∙ plain (sum_to (tilt e i lambda) (is_longer lambda nu) r)
        ∙ ap (λ b. sum_to (tilt e i lambda) (is_longer lambda nu) r +ℤ cond b
        (tilt e i lambda r -ℤ pos (count_to (is_longer lambda nu) r)) (pos 0)) (sym off);
    rows = λ s lo hi. at s lo hi (le_or_lt s r);
  }
    where
      next : (r : ℕ) → suc r + 1 ≡ suc (suc r)
      next r = omega arith

      off : is_longer lambda nu (suc r) ≡ false
      off = le-ltb (part lambda (suc r)) (part nu (suc r)) (omega (arith, same))

      none : ◌≡◌ {A = ℕ} (cond (is_longer lambda nu (suc r)) 1 0) 0
      none = ap (λ b. cond b 1 0) off

      stay : count_to (is_longer lambda nu) r ≡
          count_to (is_longer lambda nu) r + cond (is_longer lambda nu (suc r)) 1 0
      stay = omega (arith, none)

      plain : (x : ℤ) → x ≡ x +ℤ pos 0
      plain x = omega (arith, ints)

      moved : (d l l' l'' : ℤ) (a b : Bool) (c m : ℕ) → d ≡ l -ℤ pos c → l' ≡ (l +ℤ one_if a) -ℤ one_if b → l' ≡ l'' →
          m ≡ 0 → (d +ℤ one_if a) -ℤ one_if b ≡ l'' -ℤ pos (c + m)
      moved d l l' l'' a b c m hd hl h hm = omega (arith, ints)

      at : (s : ℕ) → 1 ≤ s → s ≤ suc r → (s ≤ r) ⊎ (r < s) → part w.now s ≡ part nu s
      at s lo hi (inl le) = w.rows s lo le
      at s lo hi (inr gt) =
          let here : suc r ≡ s = omega arith in
          subst (λ n. part w.now n ≡ part nu n) here (w.before.later (suc r) (omega arith) ∙ sym same)

  chosen : (r : ℕ) → Walked r → part nu (suc r) ≡ part lambda (suc r) + 1 → addable_at e i lambda (suc r) ≡ true →
      Walked (suc r)
  unfolding count_to sum_to
  chosen r w more can = record {
    now = grow (suc r - 1) w.now;
    difference = w.difference;
    sum = w.sum +ℤ w.difference;
    before =
        subst (λ n. Before e i lambda n (count_to (is_longer lambda nu) r + cond (is_longer lambda nu (suc r)) 1 0)
        (grow (suc r - 1) w.now) w.difference (w.sum +ℤ w.difference)) (next r)
        (subst (λ n. Before e i lambda (suc r + 1) n (grow (suc r - 1) w.now) w.difference (w.sum +ℤ w.difference))
        further
        (choose e i he lambda pl (suc r) (count_to (is_longer lambda nu) r) w.now w.difference w.sum (omega arith)
        w.before can));
    difference_is =
        moved w.difference (lean e i lambda (suc r)) (lean e i lambda (suc r + 1)) (lean e i lambda (suc (suc r)))
        (addable_at e i lambda (suc r)) (removable_at e i lambda (suc r)) (count_to (is_longer lambda nu) r)
        (cond (is_longer lambda nu (suc r)) 1 0) w.difference_is (lean_next e i lambda (suc r) (omega arith))
        (ap (lean e i lambda) (next r)) can
        (false_from_ne_true (removable_at e i lambda (suc r)) (not_both e i lambda (suc r) he can)) one;
    sum_is =
        ap₂ (λ x d. x +ℤ d) w.sum_is (w.difference_is ∙ ap (λ l. l -ℤ pos (count_to (is_longer lambda nu) r)) above_it)
        ∙ ap (λ b. sum_to (tilt e i lambda) (is_longer lambda nu) r +ℤ cond b
        (tilt e i lambda r -ℤ pos (count_to (is_longer lambda nu) r)) (pos 0)) (sym on);
    rows = λ s lo hi. at s lo hi (le_or_lt s r);
  }
    where
      next : (r : ℕ) → suc r + 1 ≡ suc (suc r)
      next r = omega arith

      on : is_longer lambda nu (suc r) ≡ true
      on = lt-ltb (part lambda (suc r)) (part nu (suc r)) (omega (arith, more))

      one : ◌≡◌ {A = ℕ} (cond (is_longer lambda nu (suc r)) 1 0) 1
      one = ap (λ b. cond b 1 0) on

      further : count_to (is_longer lambda nu) r + 1 ≡
          count_to (is_longer lambda nu) r + cond (is_longer lambda nu (suc r)) 1 0
      further = omega (arith, one)

      above_it : lean e i lambda (suc r) ≡ tilt e i lambda r
      above_it = lean_gains e i lambda (suc r) he (omega arith) pl can ∙ ap (tilt e i lambda) (back r)
        where
          back : (r : ℕ) → suc r - 1 ≡ r
          back r = omega arith

      moved : (d l l' l'' : ℤ) (a b : Bool) (c m : ℕ) → d ≡ l -ℤ pos c → l' ≡ (l +ℤ one_if a) -ℤ one_if b → l' ≡ l'' →
          a ≡ true → b ≡ false → m ≡ 1 → d ≡ l'' -ℤ pos (c + m)
      moved d l l' l'' a b c m hd hl h ha hb hm = omega (arith, ints, ap one_if ha, ap one_if hb)

      at : (s : ℕ) → 1 ≤ s → s ≤ suc r → (s ≤ r) ⊎ (r < s) → part (grow (suc r - 1) w.now) s ≡ part nu s
      at s lo hi (inl le) =
          grown_elsewhere e i he lambda pl (suc r) (count_to (is_longer lambda nu) r) w.now w.difference w.sum
          (omega arith) w.before can s lo (λ x. omega arith) ∙ w.rows s lo le
      at s lo hi (inr gt) =
          let here : suc r ≡ s = omega arith in
          subst (λ n. part (grow (suc r - 1) w.now) n ≡ part nu n) here
          (grown_here e i he lambda pl (suc r) (count_to (is_longer lambda nu) r) w.now w.difference w.sum
          (omega arith) w.before can ∙ ap (λ n. n + 1) (w.before.later (suc r) (omega arith)) ∙ sym more)

  walked : (r : ℕ) → Walked r
  walked zero = begin
  walked (suc r) =
      settle (row_cases e i he lambda pl k nu pn mv (suc r) (omega arith)) (walked r)
    where
      settle : RowCase e i lambda nu (suc r) → Walked r → Walked (suc r)
      settle (inl same) w = kept r w same
      settle (inr grown) w = chosen r w grown.0 grown.1

  -- Past the last row of nu the walk has arrived.
  arrived : (n : ℕ) → length nu ≤ n → (w : Walked n) → w.now ≡ nu
  arrived n far w = same_parts w.now nu w.before.partition pn (λ s lo. at s lo (le_or_lt s n))
    where
      past : (s : ℕ) → n < s → part nu s ≡ 0
      past s gt = by_size (le_or_lt (part nu s) 0)
        where
          by_size : (part nu s ≤ 0) ⊎ (0 < part nu s) → part nu s ≡ 0
          by_size (inl none) = omega arith
          by_size (inr some) = absurd (let short : s - 1 < length nu = index_short nu (s - 1) some in omega arith)

      at : (s : ℕ) → 1 ≤ s → (s ≤ n) ⊎ (n < s) → part w.now s ≡ part nu s
      at s lo (inl le) = w.rows s lo le
      at s lo (inr gt) = omega (arith, w.before.later s (omega arith), past s gt, mv.rows (s - 1))

  -- As many rows are longer as the move has nodes.
  pub longer_count : (n : ℕ) → length nu ≤ n → count_to (is_longer lambda nu) n ≡ k
  longer_count n far =
      sym (walked n).before.move.count ∙ ap (λ x. length (added lambda x)) (arrived n far (walked n)) ∙ mv.count

  -- The exponent is the sum over these rows.
  pub longer_sum : (n : ℕ) → length nu ≤ n →
      sum_to (tilt e i lambda) (is_longer lambda nu) n ≡ exponent e i lambda nu
  longer_sum n far =
      sym (walked n).sum_is ∙ (walked n).before.sum_is ∙ ap (exponent e i lambda) (arrived n far (walked n))

  -- Each of these rows turns the sum over the rows from one more to one less.
  pub tilt_after : (r : ℕ) → tilt e i nu r ≡ tilt e i lambda r -ℤ pos (2 * count_to (is_longer lambda nu) r)
  unfolding tilt count_to
  tilt_after zero = omega (arith, ints)
  tilt_after (suc r) = settle (row_cases e i he lambda pl k nu pn mv (suc r) (omega arith)) (tilt_after r)
    where
      level : (x y t u : ℤ) (c m : ℕ) → x ≡ y -ℤ pos (2 * c) → t ≡ u → m ≡ 0 → x +ℤ t ≡ (y +ℤ u) -ℤ pos (2 * (c + m))
      level x y t u c m h ht hm = omega (arith, ints)

      turned : (x y t u : ℤ) (c m : ℕ) → x ≡ y -ℤ pos (2 * c) → t ≡ pos 0 -ℤ pos 1 → u ≡ pos 1 → m ≡ 1 →
          x +ℤ t ≡ (y +ℤ u) -ℤ pos (2 * (c + m))
      turned x y t u c m h ht hu hm = omega (arith, ints)

      settle : RowCase e i lambda nu (suc r) → tilt e i nu r ≡ tilt e i lambda r -ℤ pos
          (2 * count_to (is_longer lambda nu) r) →
          tilt e i nu r +ℤ turn e i (suc r) (part nu (suc r)) ≡
          (tilt e i lambda r +ℤ turn e i (suc r) (part lambda (suc r))) -ℤ pos
          (2 * (count_to (is_longer lambda nu) r + cond (is_longer lambda nu (suc r)) 1 0))
      settle (inl same) so_far =
          level (tilt e i nu r) (tilt e i lambda r) (turn e i (suc r) (part nu (suc r)))
          (turn e i (suc r) (part lambda (suc r))) (count_to (is_longer lambda nu) r)
          (cond (is_longer lambda nu (suc r)) 1 0) so_far (ap (turn e i (suc r)) same)
          (ap (λ b. cond b 1 0) (le-ltb (part lambda (suc r)) (part nu (suc r)) (omega (arith, same))))
      settle (inr (more, can)) so_far =
          turned (tilt e i nu r) (tilt e i lambda r) (turn e i (suc r) (part nu (suc r)))
          (turn e i (suc r) (part lambda (suc r))) (count_to (is_longer lambda nu) r)
          (cond (is_longer lambda nu (suc r)) 1 0) so_far
          (ap (turn e i (suc r)) more ∙ ap₂ (λ a b. one_if a -ℤ one_if b) no_right yes)
          (ap₂ (λ a b. one_if a -ℤ one_if b) yes no_left)
          (ap (λ b. cond b 1 0) (lt-ltb (part lambda (suc r)) (part nu (suc r)) (omega (arith, more))))
        where
          residue_is : residue e (suc r, part lambda (suc r) + 1) ≡ i
          residue_is = (addable_facts e i lambda (suc r) can).residue_is

          yes : nat_eq (residue e (suc r, part lambda (suc r) + 1)) i ≡ true
          yes = eq-eqb (residue e (suc r, part lambda (suc r) + 1)) i residue_is

          no_right : nat_eq (residue e (suc r, part lambda (suc r) + 1 + 1)) i ≡ false
          no_right = false_from_ne_true (nat_eq (residue e (suc r, part lambda (suc r) + 1 + 1)) i)
              (λ h. right_differs e (suc r) (part lambda (suc r) + 1) he
              (eqb-true (residue e (suc r, part lambda (suc r) + 1 + 1)) i h ∙ sym residue_is))

          no_left : nat_eq (residue e (suc r, part lambda (suc r))) i ≡ false
          no_left = false_from_ne_true (nat_eq (residue e (suc r, part lambda (suc r))) i)
              (λ h. right_differs e (suc r) (part lambda (suc r)) he
              (residue_is ∙ sym (eqb-true (residue e (suc r, part lambda (suc r))) i h)))
