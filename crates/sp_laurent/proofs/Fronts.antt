-- What stands in front of a text: digits, and marks.
use Rattle.std.proofs.Common.{◌≡◌, ℕ, zero, suc, ◌+◌, ◌-◌, ◌*◌, ◌^◌, ◌<◌, ◌≤◌, ◌⊎◌, inl, inr, true, false, min, List}
use Rattle.std.proofs.Common.{[], nat_eq, cond, ◌∷◌, ◌++◌, take, drop, length, slice_index, Some, None, refl, ◌∙◌}
use Rattle.std.proofs.Common.{ap, subst, arith}
use Rattle.std.specs.Char.{is_ascii_digit, digit_value}
use Rattle.std.specs.Fmt.{decimal}
use Rattle.std.specs.Str.Parse.{AllDigits, IsNumeral, digits_value}
use Rattle.std.proofs.lemmas.Bool.Decides.{nat_tests}
use Rattle.std.proofs.lemmas.Fmt.{decimal_is_IsNumeral_wide}
use Rattle.std.proofs.lemmas.Grind.{common_steps}
use Rattle.std.proofs.lemmas.Int.Digits.{digits_value_more}
use Rattle.std.proofs.lemmas.Str.Parse.{digit_from_value, digit_at}
use Rattle.std.proofs.lemmas.Str.{digit_value_digit}
use Rattle.sp_laurent.specs.Pieces.{IsPlain, IsSigned, EndsDigits, behind_mark}

-- ---- digits

-- a code whose value is below ten is that of a digit
pub digit_test : (c : ℕ) → digit_value c < 10 → is_ascii_digit c ≡ true
digit_test c h = let range = digit_from_value c h in grind (arith, nat_tests)

apart : (c : ℕ) → is_ascii_digit c ≡ true → is_ascii_digit c ≡ false → (X : Type 0) → X
apart c h k X = absurd (cc)

end_is : (ds rest : List ℕ) (end : ℕ) → AllDigits 10 ds → IsPlain rest → EndsDigits (ds ++ rest) end → end ≡ length ds
end_is [] [] end h plain e = omega (arith, e.within)
end_is [] (c ∷ rest) zero h plain e = refl
end_is [] (c ∷ rest) (suc end) h plain e = apart c (e.before 0 (omega arith)) plain (suc end ≡ 0)
end_is (d ∷ ds) rest zero (h, hs) plain e = apart d (digit_test d h) (e.there (omega arith)) (zero ≡ length (d ∷ ds))
end_is (d ∷ ds) rest (suc end) (h, hs) plain e = ap suc (end_is ds rest end hs plain shorter)
  where
    shorter : EndsDigits (ds ++ rest) end
    shorter = record {
      within = omega (arith, e.within);
      before = λ k lt. e.before (suc k) (omega arith);
      there = λ lt. e.there (omega arith);
    }

-- The text is cut at `end` into digits and the rest.
pub record SplitsAt (text digits rest : List ℕ) (end : ℕ) : Type 0 where
  pub front : take end text ≡ digits
  pub back : drop end text ≡ rest

-- where the digits in front end, the text is cut into the digits and the rest
pub splits_digits : (text digits rest : List ℕ) (end : ℕ) → AllDigits 10 digits → IsPlain rest → text ≡ digits ++ rest →
    EndsDigits text end → SplitsAt text digits rest end
splits_digits text digits rest end h plain is e =
    let there : end ≡ length digits = end_is digits rest end h plain (subst (λ t. EndsDigits t end) is e) in
    record { front = grind (arith, common_steps); back = grind (arith, common_steps) }

-- ---- the number that digits write

-- one more digit, by sums and products that stop at the greatest number
pub value_next : (ds : List ℕ) (i value tens unit whole : ℕ) → i < length ds →
    (AllDigits 10 ds → digits_value 10 (take i ds) < 2 ^ 128 → value ≡ digits_value 10 (take i ds)) →
    unit ≡ slice_index ds i - 48 → tens ≡ min (value * 10) (2 ^ 128 - 1) → whole ≡ min (tens + unit) (2 ^ 128 - 1) →
    AllDigits 10 ds → digits_value 10 (take (i + 1) ds) < 2 ^ 128 → whole ≡ digits_value 10 (take (i + 1) ds)
value_next ds i value tens unit whole lt so_far is_unit is_tens is_whole h small =
    let worth : digit_value (slice_index ds i) + 48 ≡ slice_index ds i = digit_value_digit (slice_index ds i)
    (digit_at ds i h lt) in
    let more : digits_value 10 (take (i + 1) ds) ≡ digits_value 10 (take i ds) * 10 + digit_value (slice_index ds i) =
    digits_value_more 10 ds i lt in
    let before : value ≡ digits_value 10 (take i ds) = so_far h (omega arith) in
    omega arith

-- the decimal text of a number is a numeral, and its digits write the number
pub numeral : (n : ℕ) → n < 2 ^ 128 → IsNumeral 10 (decimal n) × (digits_value 10 (decimal n) ≡ n)
numeral n h = decimal_is_IsNumeral_wide n (omega arith)

-- ---- marks

-- a sign is no digit
pub sign_plain : (rest : List ℕ) → IsSigned rest → IsPlain rest
sign_plain [] h = tt
sign_plain (c ∷ rest) (inl e) = ap is_ascii_digit e
sign_plain (c ∷ rest) (inr e) = ap is_ascii_digit e

-- The text has a first byte, from `least` to `most`.
pub record StartsWithin (least most : ℕ) (text : List ℕ) : Type 0 where
  pub first : ℕ
  pub others : List ℕ
  pub is : text ≡ first ∷ others
  pub above : least ≤ first
  pub below : first ≤ most

-- a text with another first byte does not begin with the mark
pub other_mark : (mark least most : ℕ) (text rest : List ℕ) → (mark < least) ⊎ (most < mark) →
    StartsWithin least most text → behind_mark mark (text ++ rest) ≡ None
other_mark mark least most text rest out s =
    ap (λ xs. behind_mark mark (xs ++ rest)) s.is ∙ at s.first (s.others ++ rest) (differs out)
  where
    differs : (mark < least) ⊎ (most < mark) → nat_eq s.first mark ≡ false
    differs (inl lt) = let a = s.above in grind (arith, nat_tests)
    differs (inr gt) = let b = s.below in grind (arith, nat_tests)

    at : (c : ℕ) (xs : List ℕ) → nat_eq c mark ≡ false → behind_mark mark (c ∷ xs) ≡ None
    at c xs e = ap (λ b. cond b (Some xs) None) e

starts_digit : (ds : List ℕ) → IsNumeral 10 ds → StartsWithin 48 57 ds
starts_digit [] h = absurd (omega (arith, h.0))
starts_digit (d ∷ ds) h =
    let range = digit_from_value d h.1.0 in
    record { first = d; others = ds; is = refl; above = range.0; below = range.1 }

-- the decimal text of a number begins with a digit
pub decimal_starts : (n : ℕ) → n < 2 ^ 128 → StartsWithin 48 57 (decimal n)
decimal_starts n h = starts_digit (decimal n) (numeral n h).0
