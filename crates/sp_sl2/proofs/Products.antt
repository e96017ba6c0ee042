-- Products with balanced integers, built up term by term.
use Rattle.std.proofs.Common.{◌≡◌, ℕ, suc, ◌+◌, ◌*◌, ◌<◌, ◌≤◌, List, [], ◌∷◌, refl, sym, ◌∙◌, ap, subst, arith, ℤ}
use Rattle.std.proofs.Common.{pos, negsuc, ◌-ℤ◌, ◌<ℤ◌, ◌≤ℤ◌, add-one}
use Rattle.std.proofs.Common.{map, filter, length, count_by, nat_eq}
use Rattle.std.proofs.lemmas.Int.{ints}
use Rattle.std.proofs.lemmas.List.{length-map}
use Rattle.std.proofs.lemmas.List.Sums.{length-filter}
use Rattle.std.specs.Int.RustNames.{unsigned_abs}
use Rattle.std.specs.Int.Signed.{lt_z}
use Rattle.std.proofs.Common.{true, false, true≢false, ltb-true}
use Rattle.std.specs.List.{range_with_len}
use Rattle.sp_defs.specs.Laurent.{Laurent, power, plus, negate, times, size, sum_over}
use Rattle.sp_defs.specs.Node.{Node, residue}
use Rattle.sp_nodes.specs.Nodes.{pair}
use Rattle.sp_nodes.specs.declared.node.Node.{Node as CodeNode}
use Rattle.sp_laurent.specs.Held.{power_limit}
use Rattle.sp_power.specs.Arrivals.{half_power_limit}
use Rattle.sp_defs.specs.Within.{PowersWithin, ProductWithin}
use Rattle.sp_lists.proofs.Elements.{range_snoc, all_every}
use Rattle.sp_algebra.proofs.Coefficients.{same_laurent}
use Rattle.sp_algebra.proofs.Laws.{IsLaurent-negate, IsLaurent-times, coefficient-negate, plus_nought}
use Rattle.sp_algebra.proofs.Sizes.{size_plus, size_times, product_within}
use Rattle.sp_algebra.proofs.Steps.{times_comm}
use Rattle.sp_algebra.proofs.Sums.{times-sum_over, sum_over-append, sum_over-alike}
use Rattle.sp_sl2_law.specs.Balanced.{balanced, balanced_natural}
use Rattle.sp_sl2_law.proofs.Stairs.{coefficient-negated}

-- One term of a product with the balanced integer of k.
abbrev pub term : ℕ → Laurent → ℕ → Laurent
term k p j = times (power (pos (2 * j + 1) -ℤ pos k)) p

-- The first j terms.
abbrev pub first_terms : ℕ → Laurent → ℕ → Laurent
first_terms k p j = sum_over (range_with_len 0 j) (term k p)

-- All terms are the product.
pub all_terms : (k : ℕ) (p : Laurent) → first_terms k p k ≡ times (balanced_natural k) p
unfolding balanced_natural
all_terms k p =
    sum_over-alike (range_with_len 0 k) (term k p) (λ j. times p (power (pos (2 * j + 1) -ℤ pos k)))
    (all_every _ (range_with_len 0 k) (λ j. times_comm (power (pos (2 * j + 1) -ℤ pos k)) p))
    ∙ sym (times-sum_over p (range_with_len 0 k) (λ j. power (pos (2 * j + 1) -ℤ pos k)))
    ∙ times_comm p (sum_over (range_with_len 0 k) (λ j. power (pos (2 * j + 1) -ℤ pos k)))

-- One term more.
pub more_terms : (k j : ℕ) (p : Laurent) → first_terms k p (j + 1) ≡ plus (first_terms k p j) (term k p j)
unfolding sum_over
more_terms k j p =
    ap (first_terms k p) (add-one j)
    ∙ ap (λ l. sum_over l (term k p)) (range_snoc 0 j)
    ∙ sum_over-append (range_with_len 0 j) ((0 + j) ∷ []) (term k p)
    ∙ ap (plus (first_terms k p j)) (plus_nought (term k p (0 + j)) (IsLaurent-times _ p) ∙ ap (term k p) (plain j))
  where
    plain : (j : ℕ) → 0 + j ≡ j
    plain j = omega arith

-- A term has no greater size than the polynomial.
pub term_size : (k j : ℕ) (p : Laurent) → size (term k p j) ≤ size p
term_size k j p = one_times (size_times (power (pos (2 * j + 1) -ℤ pos k)) p)
  where
    one_times : size (term k p j) ≤ 1 * size p → size (term k p j) ≤ size p
    one_times h = omega arith

-- A product with a negated factor is the negated product.
pub times_negated : (q p : Laurent) → times (negate q) p ≡ negate (times q p)
times_negated q p = same_laurent _ _ (IsLaurent-times (negate q) p) (IsLaurent-negate (times q p))
    (λ z. coefficient-negated q p z ∙ sym (coefficient-negate (times q p) z))

-- Below 0 the product is negated.
pub below_zero : (k : ℤ) (p : Laurent) → k <ℤ pos 0 →
    negate (times (balanced_natural (unsigned_abs k)) p) ≡ times (balanced k) p
unfolding balanced
below_zero (pos n) p lt = absurd (omega (arith, ints))
below_zero (negsuc n) p lt = sym (times_negated (balanced_natural (suc n)) p)

-- From 0 on it is as it is.
pub from_zero : (k : ℤ) (p : Laurent) → pos 0 ≤ℤ k →
    times (balanced_natural (unsigned_abs k)) p ≡ times (balanced k) p
unfolding balanced
from_zero (pos n) p le = refl
from_zero (negsuc n) p le = absurd (omega (arith, ints))

-- ---- as the code has it

-- Before the first term the sum is 0.
pub no_terms : (k : ℕ) (p : Laurent) → first_terms k p 0 ≡ []
unfolding sum_over
no_terms k p = refl

-- The length of a list of the nodes of residue i is their count.
pub counted : (e i n : ℕ) (items : List CodeNode) (xs : List Node) → n ≡ length items →
    map pair items ≡ filter (λ x. nat_eq (residue e x) i) xs → n ≡ count_by (λ x. nat_eq (residue e x) i) xs
counted e i n items xs is h =
    is ∙ sym (length-map items pair) ∙ ap length h ∙ length-filter (λ x. nat_eq (residue e x) i) xs

-- An exponent and a power within half of the limit are within the limit together.
pub shift_within : (x y : ℤ) (p : Laurent) → y ≡ x → unsigned_abs x ≤ 2000 → PowersWithin half_power_limit p →
    ProductWithin power_limit ((y, pos 1) ∷ []) p
shift_within x y p same near within =
    subst (λ z. ProductWithin power_limit ((z, pos 1) ∷ []) p) (sym same)
    (product_within 2000 half_power_limit power_limit ((x, pos 1) ∷ []) p (omega arith) (near, tt) within)

-- What is summed once a term is added.
pub record Summed (k j : ℕ) (p sum : Laurent) : Type 0 where
  pub sum_is : sum ≡ first_terms k p j
  pub small_is : size sum ≤ j * size p

-- One term is added.
pub term_added : (k j : ℕ) (p old new : Laurent) (x y : ℤ) → Summed k j p old → y ≡ x →
    x ≡ pos (2 * j + 1) -ℤ pos k → new ≡ plus old (times ((y, pos 1) ∷ []) p) → Summed k (j + 1) p new
term_added k j p old new x y so_far same power_is is =
    let step : new ≡ plus old (term k p j) = is ∙ ap (λ z. plus old (times ((z, pos 1) ∷ []) p)) (same ∙ power_is) in
    record {
      sum_is = step ∙ ap (λ q. plus q (term k p j)) so_far.sum_is ∙ sym (more_terms k j p);
      small_is =
          let small : size new ≤ size old + size (term k p j) =
          subst (λ q. size q ≤ size old + size (term k p j)) (sym step) (size_plus old (term k p j)) in
          let few : size (term k p j) ≤ size p = term_size k j p in
          omega (arith, so_far.small_is);
    }

-- Below 0, as a test of the code says it.
pub below_zero_test : (k x : ℤ) (p : Laurent) → x ≡ k → lt_z x (pos 0) ≡ true →
    negate (times (balanced_natural (unsigned_abs k)) p) ≡ times (balanced k) p
below_zero_test (pos n) x p same h =
    let z : lt_z (pos n) (pos 0) ≡ true = ap (λ y. lt_z y (pos 0)) (sym same) ∙ h in
    absurd (let lt : n < 0 = ltb-true n 0 z in omega arith)
below_zero_test (negsuc n) x p same h = below_zero (negsuc n) p (omega (arith, ints))

-- And from 0 on.
pub from_zero_test : (k x : ℤ) (p : Laurent) → x ≡ k → lt_z x (pos 0) ≡ false →
    times (balanced_natural (unsigned_abs k)) p ≡ times (balanced k) p
from_zero_test (pos n) x p same h = from_zero (pos n) p (omega (arith, ints))
from_zero_test (negsuc n) x p same h =
    let z : lt_z (negsuc n) (pos 0) ≡ false = ap (λ y. lt_z y (pos 0)) (sym same) ∙ h in
    absurd (true≢false z)
