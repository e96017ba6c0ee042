-- Numbers as digits: what they are worth, and how they compare.
use Rattle.std.proofs.Common.{◌≡◌, ◌≢◌, ℕ, suc, ◌+◌, ◌-◌, ◌*◌, ◌^◌, ◌<◌, ◌≤◌, Bool, true, false, cond, nat_eq, nat_lt}
use Rattle.std.proofs.Common.{List, [], ◌∷◌, length, slice_index, refl, sym, ◌∙◌, ap, ap₂, subst, arith, ◌⊎◌, inl}
use Rattle.std.proofs.Common.{inr, mul-le-mul_right, eqb-true, ltb-true, lt-ltb, true≢false, min, take}
use native.Mathlib.Nat.{pow-succ', pow-le-pow_right, one-le-pow}
use Rattle.std.specs.Char.{digit_value, is_digit}
use Rattle.std.specs.List.{list_all}
use Rattle.std.specs.Str.Parse.{AllDigits, digits_value, digits_value_after}
use Rattle.std.proofs.lemmas.Bool.{eqb-false, ltb-false, and_from, and_parts}
use Rattle.std.proofs.lemmas.Int.Digits.{digits_value-lt, digits_value_more}
use Rattle.std.proofs.lemmas.Str.{digit_value_digit}
use Rattle.std.proofs.lemmas.Str.Parse.{digit_from_value, digit_at}
use Rattle.sp_lists.proofs.Elements.{le_or_lt}
use Rattle.sp_partition.specs.Pieces.{IsNumber, DigitsAt}
use Rattle.sp_partition.specs.Reading.{is_number}

-- The digits so far weigh the more the more digits follow.
after_is : (n : ℕ) (ds : List ℕ) → digits_value_after 10 n ds ≡ n * 10 ^ length ds + digits_value 10 ds
after_is n [] = omega arith
after_is n (d ∷ ds) =
    after_is (n * 10 + digit_value d) ds ∙ ring n (digit_value d) (10 ^ length ds) (digits_value 10 ds)
    ∙ ap₂ (λ p v. n * p + v) (sym (pow-succ' 10 (length ds))) (sym (after_is (0 + digit_value d) ds))
  where
    ring : (n d p v : ℕ) → (n * 10 + d) * p + v ≡ n * (10 * p) + ((0 + d) * p + v)
    ring n d p v = omega arith

-- The first digit has the weight of the power that follows from its place.
pub value-cons : (d : ℕ) (ds : List ℕ) → digits_value 10 (d ∷ ds) ≡ digit_value d * 10 ^ length ds + digits_value 10 ds
value-cons d ds = after_is (0 + digit_value d) ds
    ∙ ap (λ n. n * 10 ^ length ds + digits_value 10 ds) (alone (digit_value d))
  where
    alone : (n : ℕ) → 0 + n ≡ n
    alone n = omega arith

-- ---- of one length: the first byte that differs decides

-- The first byte that differs is less, or the first list ends before the other.
abbrev pub digits_less : List ℕ → List ℕ → Bool
digits_less [] [] = false
digits_less [] (y ∷ ys) = true
digits_less (x ∷ xs) [] = false
digits_less (x ∷ xs) (y ∷ ys) = cond (nat_eq x y) (digits_less xs ys) (nat_lt x y)

-- The greater digit at the greatest place decides.
pub heavier : (x y p v w : ℕ) → x < y → v < p → x * p + v < y * p + w
heavier x y p v w lt small = omega (arith, mul-le-mul_right p (above x y lt), spread x p)
  where
    above : (x y : ℕ) → x < y → x + 1 ≤ y
    above x y lt = omega arith

    spread : (x p : ℕ) → (x + 1) * p ≡ x * p + p
    spread x p = omega arith

digits_apart : (x y : ℕ) → digit_value x < 10 → digit_value y < 10 → x < y → digit_value x < digit_value y
digits_apart x y hx hy lt = omega
    (arith, digit_value_digit x (digit_from_value x hx), digit_value_digit y (digit_from_value y hy))

below_power : (xs ys : List ℕ) → length xs ≡ length ys → AllDigits 10 xs → digits_value 10 xs < 10 ^ length ys
below_power xs ys e h = subst (λ n. digits_value 10 xs < 10 ^ n) e (digits_value-lt 10 xs h)

-- Of one length, numbers stand as their digits do.
pub less_value : (xs ys : List ℕ) → length xs ≡ length ys → AllDigits 10 xs → AllDigits 10 ys →
    (digits_less xs ys ≡ true → digits_value 10 xs < digits_value 10 ys) ×
    (digits_value 10 xs < digits_value 10 ys → digits_less xs ys ≡ true)
less_value [] [] e hx hy = ((λ t. absurd (true≢false (sym t))), λ lt. absurd (omega arith))
less_value [] (y ∷ ys) e hx hy = absurd (omega arith)
less_value (x ∷ xs) [] e hx hy = absurd (omega arith)
less_value (x ∷ xs) (y ∷ ys) e (hx, hxs) (hy, hys) = by_heads (nat_eq x y) refl (nat_lt x y) refl
    (less_value xs ys rest hxs hys)
  where
    rest : length xs ≡ length ys
    rest = omega arith

    worth_x : digits_value 10 (x ∷ xs) ≡ digit_value x * 10 ^ length ys + digits_value 10 xs
    worth_x = value-cons x xs ∙ ap (λ n. digit_value x * 10 ^ n + digits_value 10 xs) rest

    worth_y : digits_value 10 (y ∷ ys) ≡ digit_value y * 10 ^ length ys + digits_value 10 ys
    worth_y = value-cons y ys

    by_heads : (same : Bool) → nat_eq x y ≡ same → (lower : Bool) → nat_lt x y ≡ lower →
        (digits_less xs ys ≡ true → digits_value 10 xs < digits_value 10 ys) ×
        (digits_value 10 xs < digits_value 10 ys → digits_less xs ys ≡ true) →
        (cond same (digits_less xs ys) lower ≡ true → digits_value 10 (x ∷ xs) < digits_value 10 (y ∷ ys))
        × (digits_value 10 (x ∷ xs) < digits_value 10 (y ∷ ys) → cond same (digits_less xs ys) lower ≡ true)
    by_heads true s lower l ih =
        let e : digit_value x * 10 ^ length ys ≡ digit_value y * 10 ^ length ys = ap
        (λ d. digit_value d * 10 ^ length ys) (eqb-true x y s) in (
          (λ t. let lt : digits_value 10 xs < digits_value 10 ys = ih.0 t in
              omega (arith, worth_x, worth_y)),
          λ lt. ih.1 (omega (arith, worth_x, worth_y)),
        )
    by_heads false s true l ih = (
      (λ t. omega (
        arith,
        worth_x,
        worth_y,
        heavier (digit_value x) (digit_value y) (10 ^ length ys) (digits_value 10 xs) (digits_value 10 ys)
            (digits_apart x y hx hy (ltb-true x y l)) (below_power xs ys rest hxs),
      )),
      λ lt. refl,
    )
    by_heads false s false l ih =
        let apart : x ≢ y = eqb-false x y s in
        let high : y < x = let ge : y ≤ x = ltb-false x y l in omega arith in (
          (λ t. absurd (true≢false (sym t))),
          λ lt. absurd (omega (
            arith,
            worth_x,
            worth_y,
            heavier (digit_value y) (digit_value x) (10 ^ length ys) (digits_value 10 ys) (digits_value 10 xs)
                (digits_apart y x hy hx high) (digits_value-lt 10 ys hys),
          )),
        )

-- ---- the first digit

first_digit : (d : ℕ) (ds : List ℕ) (n : ℕ) → IsNumber (d ∷ ds) n → 1 ≤ digit_value d
first_digit d ds n h =
    let range = digit_from_value d h.digits.1.0 in
    let worth : digit_value d + 48 ≡ d = digit_value_digit d range in
    let some : d ≢ 48 = h.first in
    omega arith

-- ---- of two lengths: the longer is the greater

-- A number with more digits is the greater.
pub longer_value : (xs ys : List ℕ) (m n : ℕ) → IsNumber xs m → IsNumber ys n → length xs < length ys →
    digits_value 10 xs < digits_value 10 ys
longer_value xs [] m n hx hy lt = absurd (omega arith)
longer_value xs (y ∷ ys) m n hx hy lt =
    omega (
      arith,
      digits_value-lt 10 xs hx.digits.1,
      power,
      value-cons y ys,
      mul-le-mul_right (10 ^ length ys)
          (first_digit y ys n hy),
      one (10 ^ length ys),
    )
  where
    power : 10 ^ length xs ≤ 10 ^ length ys
    power = pow-le-pow_right (omega arith) (omega arith)

    one : (p : ℕ) → 1 * p ≡ p
    one p = omega arith

-- A number without leading zeros is not 0.
pub number_positive : (text : List ℕ) (n : ℕ) → IsNumber text n → 0 < n
number_positive [] n h = absurd (let some = h.digits.0 in omega arith)
number_positive (d ∷ ds) n h =
    omega (
      arith,
      h.value,
      value-cons d ds,
      mul-le-mul_right (10 ^ length ds) (first_digit d ds n h),
      one
          (10 ^ length ds),
      one-le-pow (length ds) 10 (omega arith),
    )
  where
    one : (p : ℕ) → 1 * p ≡ p
    one p = omega arith

-- So of two numbers of different lengths the shorter is the less.
pub shorter_less : (xs ys : List ℕ) (m n : ℕ) → IsNumber xs m → IsNumber ys n → length xs ≢ length ys →
    (nat_lt (length xs) (length ys) ≡ true → digits_value 10 xs < digits_value 10 ys)
    × (digits_value 10 xs < digits_value 10 ys → nat_lt (length xs) (length ys) ≡ true)
shorter_less xs ys m n hx hy ne = (
  (λ t. longer_value xs ys m n hx hy (ltb-true (length xs) (length ys) t)),
  λ lt. settle lt
      (le_or_lt (length ys) (length xs)),
)
  where
    settle : digits_value 10 xs < digits_value 10 ys → (length ys ≤ length xs) ⊎ (length xs < length ys) →
        nat_lt (length xs) (length ys) ≡ true
    settle lt (inl le) =
        let greater : digits_value 10 ys < digits_value 10 xs = longer_value ys xs n m hy hx (omega arith) in
        absurd (omega arith)
    settle lt (inr less) = lt-ltb (length xs) (length ys) less

-- ---- the number, up to a limit

-- With one digit more it is ten times the number so far and the digit, and no more than the limit.
pub next_up_to : (limit : ℕ) (ds : List ℕ) (i value tens whole : ℕ) → AllDigits 10 ds → i < length ds →
    value ≡ min (digits_value 10 (take i ds)) limit → tens ≡ min (value * 10) limit →
    whole ≡ min (tens + (slice_index ds i - 48)) limit →
    whole ≡ min (digits_value 10 (take (i + 1) ds)) limit
next_up_to limit ds i value tens whole h lt is is_tens is_whole =
    let worth : digit_value (slice_index ds i) + 48 ≡ slice_index ds i = digit_value_digit (slice_index ds i)
    (digit_at ds i h lt) in
    omega (arith, digits_value_more 10 ds i lt)

-- The limit of a byte.
pub next_value : (ds : List ℕ) (i value tens whole : ℕ) → AllDigits 10 ds → i < length ds →
    value ≡ min (digits_value 10 (take i ds)) 255 → tens ≡ min (value * 10) 255 →
    whole ≡ min (tens + (slice_index ds i - 48)) 255 →
    whole ≡ min (digits_value 10 (take (i + 1) ds)) 255
next_value = next_up_to 255

-- ---- digits, by place

-- Digits at each place are digits all.
pub all_digits : (ds : List ℕ) → DigitsAt ds → AllDigits 10 ds
all_digits [] h = tt
all_digits (d ∷ ds) h = (small, all_digits ds (λ k lt. h (suc k) (omega arith)))
  where
    small : digit_value d < 10
    small = let range = h 0 (omega arith) in omega (arith, digit_value_digit d range)

-- ---- digits, by test

-- Digits pass the test, and what passes it are digits.
pub digits_pass : (ds : List ℕ) → AllDigits 10 ds → list_all (λ c. is_digit c 10) ds ≡ true
digits_pass [] h = refl
digits_pass (d ∷ ds) (h, hs) =
    and_from (is_digit d 10) (list_all (λ c. is_digit c 10) ds) (lt-ltb (digit_value d) 10 h) (digits_pass ds hs)

-- What passes the test is digits.
pub passing_digits : (ds : List ℕ) → list_all (λ c. is_digit c 10) ds ≡ true → AllDigits 10 ds
passing_digits [] h = tt
passing_digits (d ∷ ds) h =
    let both = and_parts (is_digit d 10) (list_all (λ c. is_digit c 10) ds) h in
    (ltb-true (digit_value d) 10 both.0, passing_digits ds both.1)

-- A number has digits alone.
pub number_digits : (word : List ℕ) → is_number word ≡ true → AllDigits 10 word
number_digits [] h = tt
number_digits (d ∷ ds) h = passing_digits (d ∷ ds) (and_parts (list_all (λ c. is_digit c 10) (d ∷ ds)) _ h).0
