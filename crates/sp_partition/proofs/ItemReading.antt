-- Numbers and items: what they are read as.
use Rattle.std.proofs.Common.{◌≡◌, ◌≢◌, ℕ, ◌+◌, ◌<◌, ◌≤◌, min, Bool, true, false, not, ◌||◌, nat_eq, nat_lt, cond}
use Rattle.std.proofs.Common.{List, [], ◌∷◌, ◌++◌, take, drop, length, replicate, refl, sym, ◌∙◌, ap, arith, ◌⊎◌}
use Rattle.std.proofs.Common.{inl, inr, Option, Some, None, eqb-true, ltb-true, lt-ltb, ne_eqb}
use Rattle.std.specs.Char.{is_digit}
use Rattle.std.specs.List.{list_all, join_with_byte}
use Rattle.std.specs.Option.{option_map, option_and_then}
use Rattle.std.specs.Str.Parse.{digits_value}
use Rattle.std.proofs.lemmas.Bool.{and_from, and_parts, or_right, or_cases, not_from_false, not-true, eqb-false}
use Rattle.std.proofs.lemmas.Bool.{cases_Bool}
use Rattle.std.proofs.lemmas.List.{take_all}
use Rattle.std.proofs.lemmas.List.Splits.{join_with_byte-slice_split, length-slice_split}
use Rattle.sp_partition.specs.Reading.{is_number, number_of, positive_of, cut, item_of}
use Rattle.sp_partition.specs.Pieces.{IsNumber, StandsAt, IsItemOf, rest_of}
use Rattle.sp_partition.proofs.Marks.{digits_free_above, cut_free, cut_mark, pieces_left, first_piece, rest_some}
use Rattle.sp_partition.proofs.Marks.{split_there}
use Rattle.sp_partition.proofs.Numbers.{number_positive, digits_pass, passing_digits}

-- ---- numbers

-- A number is the value of its digits.
pub number_self : (text : List ℕ) (n : ℕ) → IsNumber text n → IsNumber text (digits_value 10 text)
number_self text n h = record { digits = h.digits; first = h.first; value = refl }

-- What comes of the test whether a word is a number, and of the one whether the number is of at least 1.
abbrev pub tested : Bool → ℕ → Option ℕ
tested b value = option_and_then (λ n. cond (nat_lt 0 n) (Some n) None) (cond b (Some value) None)

-- A number is read as its value.
pub positive_some : (text : List ℕ) (n : ℕ) → IsNumber text n → positive_of text ≡ Some n
unfolding number_of
positive_some [] n h = absurd (let some = h.digits.0 in omega arith)
positive_some (d ∷ ds) n h =
    ap (λ b. tested b (digits_value 10 (d ∷ ds))) test
    ∙ ap (λ v. cond (nat_lt 0 v) (Some v) None) h.value
    ∙ ap (λ b. cond b (Some n) None) (lt-ltb 0 n (number_positive (d ∷ ds) n h))
  where
    test : is_number (d ∷ ds) ≡ true
    test = and_from (list_all (λ c. is_digit c 10) (d ∷ ds)) (nat_eq (length ds) 0 || not (nat_eq d 48))
        (digits_pass (d ∷ ds) h.digits.1)
        (or_right (nat_eq (length ds) 0) (not (nat_eq d 48)) (not_from_false (nat_eq d 48) (ne_eqb d 48 h.first)))

lone_zero : (ds : List ℕ) → length ds ≡ 0 → digits_value 10 (48 ∷ ds) ≡ 0
lone_zero [] h = refl
lone_zero (d ∷ ds) h = absurd (omega arith)

no_zero : (d : ℕ) (ds : List ℕ) → (nat_eq (length ds) 0 || not (nat_eq d 48)) ≡ true →
    0 < digits_value 10 (d ∷ ds) → d ≢ 48
no_zero d ds t some e = settle (or_cases (nat_eq (length ds) 0) (not (nat_eq d 48)) t)
  where
    settle : (nat_eq (length ds) 0 ≡ true) ⊎ (not (nat_eq d 48) ≡ true) → ⊥
    settle (inl short) =
        let zero_is : digits_value 10 (d ∷ ds) ≡ 0 =
        ap (λ c. digits_value 10 (c ∷ ds)) e ∙ lone_zero ds (eqb-true (length ds) 0 short) in
        omega (arith, zero_is, some)
    settle (inr other) = eqb-false d 48 (not-true (nat_eq d 48) other) e

-- What is read as a value is a number.
pub positive_number : (text : List ℕ) (n : ℕ) → positive_of text ≡ Some n → IsNumber text n
unfolding number_of
positive_number [] n e = cc
positive_number (d ∷ ds) n e = settle (cases_Bool (is_number (d ∷ ds))) (cases_Bool (nat_lt 0 value))
  where
    value : ℕ
    value = digits_value 10 (d ∷ ds)

    settle : (is_number (d ∷ ds) ≡ true) ⊎ (is_number (d ∷ ds) ≡ false) →
        (nat_lt 0 value ≡ true) ⊎ (nat_lt 0 value ≡ false) → IsNumber (d ∷ ds) n
    settle (inr none) _ = let z : None ≡ Some n = ap (λ b. tested b value) (sym none) ∙ e in cc
    settle (inl test) (inr zero_is) =
        let z : None ≡ Some n =
        ap (λ b. cond b (Some value) None) (sym zero_is) ∙ ap (λ b. tested b value) (sym test) ∙ e in cc
    settle (inl test) (inl some) =
        let z : Some value ≡ Some n =
        ap (λ b. cond b (Some value) None) (sym some) ∙ ap (λ b. tested b value) (sym test) ∙ e in
        let both = and_parts (list_all (λ c. is_digit c 10) (d ∷ ds)) (nat_eq (length ds) 0 || not (nat_eq d 48))
        test in
        record {
          digits = (omega arith, passing_digits (d ∷ ds) both.0);
          first = no_zero d ds both.1 (ltb-true 0 value some);
          value = cc;
        }

-- What is no number is not read.
pub positive_none : (text : List ℕ) → (IsNumber text (digits_value 10 text) → ⊥) → positive_of text ≡ None
positive_none text no_number = settle (positive_of text) refl
  where
    settle : (o : Option ℕ) → positive_of text ≡ o → o ≡ None
    settle None e = refl
    settle (Some n) e = absurd (no_number (number_self text n (positive_number text n e)))

-- ---- items

-- 94 is the `^`.
pub plain_item : (text : List ℕ) (p : ℕ) → IsNumber text p → item_of (cut 94 text) ≡ Some (p ∷ [])
plain_item text p h =
    ap item_of (cut_free 94 text (digits_free_above 94 text (omega arith) h.digits.1))
    ∙ ap (option_map (λ q. q ∷ [])) (positive_some text p h)

-- A part with an exponent is read as so many parts.
pub power_item : (base exponent : List ℕ) (p m : ℕ) → IsNumber base p → IsNumber exponent m →
    item_of (cut 94 (base ++ 94 ∷ exponent)) ≡ Some (replicate m p)
power_item base exponent p m h k =
    ap item_of
    (cut_mark 94 base exponent (digits_free_above 94 base (omega arith) h.digits.1)
    ∙ ap (λ pieces. base ∷ pieces) (cut_free 94 exponent (digits_free_above 94 exponent (omega arith) k.digits.1)))
    ∙ ap (λ o. option_and_then (λ q. option_map (λ n. replicate n q) o) (positive_of base)) (positive_some exponent m k)
    ∙ ap (option_and_then (λ q. Some (replicate m q))) (positive_some base p h)

-- The part is no number.
base_none : (base : List ℕ) (pieces : List (List ℕ)) → positive_of base ≡ None → item_of (base ∷ pieces) ≡ None
base_none base [] e = ap (option_map (λ p. p ∷ [])) e
base_none base (x ∷ []) e = ap (option_and_then (λ p. option_map (λ m. replicate m p) (positive_of x))) e
base_none base (x ∷ y ∷ pieces) e = refl

no_count : (count part : Option ℕ) → count ≡ None →
    option_and_then (λ p. option_map (λ m. replicate m p) count) part ≡ None
no_count count None e = refl
no_count count (Some p) e = ap (option_map (λ m. replicate m p)) e

-- What stands behind the first `^` is no number.
exponent_none : (base exponent : List ℕ) → positive_of exponent ≡ None → item_of (base ∷ cut 94 exponent) ≡ None
exponent_none base exponent e = settle (cut 94 exponent) refl
  where
    settle : (pieces : List (List ℕ)) → cut 94 exponent ≡ pieces → item_of (base ∷ pieces) ≡ None
    settle [] c = absurd (omega (arith, ap length c, length-slice_split (λ b. nat_eq b 94) exponent))
    settle (x ∷ []) c =
        let same : x ≡ exponent = ap (join_with_byte 94) (sym c) ∙ join_with_byte-slice_split 94 exponent in
        no_count (positive_of x) (positive_of base) (ap positive_of same ∙ e)
    settle (x ∷ y ∷ pieces) c = refl

-- ---- at the first `^`, which stands at `end`

-- No item, where the part is no number.
pub item_no_part : (text : List ℕ) (end : ℕ) → StandsAt 94 text end →
    (IsNumber (take end text) (digits_value 10 (take end text)) → ⊥) → item_of (cut 94 text) ≡ None
item_no_part text end h no_number =
    ap item_of (first_piece 94 text end h)
    ∙ base_none (take end text) (pieces_left 94 (rest_of text end)) (positive_none (take end text) no_number)

-- The code reads what stands behind the `^` as `exponent`.
pub item_no_count : (text exponent : List ℕ) (end : ℕ) → StandsAt 94 text end → end < length text →
    exponent ≡ drop (end + 1) text → (IsNumber exponent (digits_value 10 exponent) → ⊥) → item_of (cut 94 text) ≡ None
item_no_count text exponent end h lt e no_number =
    ap item_of (first_piece 94 text end h
    ∙ ap (λ o. take end text ∷ pieces_left 94 o) (rest_some text end lt ∙ ap Some (sym e)))
    ∙ exponent_none (take end text) exponent (positive_none exponent no_number)

-- A part alone is an item.
pub item_once : (text : List ℕ) (n end : ℕ) → length text ≤ end → IsNumber (take end text) n →
    IsItemOf text (take end text) 1
item_once text n end le h = record {
  number = self;
  count = 1;
  some = omega arith;
  item = ap (λ t. item_of (cut 94 t)) (sym (take_all end text le)) ∙ plain_item (take end text) _ self;
  times_is = refl;
}
  where
    self : IsNumber (take end text) (digits_value 10 (take end text))
    self = number_self (take end text) n h

-- A part with an exponent is an item.
pub item_often : (text exponent : List ℕ) (p m times end : ℕ) → StandsAt 94 text end → end < length text →
    exponent ≡ drop (end + 1) text → IsNumber (take end text) p → IsNumber exponent m →
    times ≡ min (digits_value 10 exponent) 255 → IsItemOf text (take end text) times
item_often text exponent p m times end h lt e part count is = record {
  number = number_self (take end text) p part;
  count = digits_value 10 exponent;
  some = number_positive exponent _ (number_self exponent m count);
  item = ap (λ t. item_of (cut 94 t))
      (split_there 94 text end lt (h.there lt) ∙ ap (λ xs. take end text ++ 94 ∷ xs) (sym e))
      ∙ power_item (take end text) exponent _ _ (number_self (take end text) p part) (number_self exponent m count);
  times_is = is;
}
