-- The text of the abacus, written place by place.
use Rattle.std.proofs.Common.{◌≡◌, ℕ, ◌+◌, ◌*◌, ◌/◌, ◌<◌, ◌≤◌, List, [], ◌∷◌, ◌++◌, map, flat_map, take, length}
use Rattle.std.proofs.Common.{sym, ◌∙◌, ap, subst, arith, append_assoc, inl, inr, Some, slice_get, mul-le-mul_left}
use Rattle.std.specs.List.{range_with_len, AllByRecursion}
use Rattle.std.proofs.Math.Nat.{div-mul-le_self, mul-div-le}
use Rattle.std.proofs.lemmas.Nat.{le-div}
use Rattle.std.proofs.lemmas.List.FromFn.{map-range_with_len_more}
use Rattle.sp_defs.specs.Partition.{degree}
use Rattle.sp_defs.specs.Abacus.{beta, shown}
use Rattle.sp_lists.proofs.Elements.{le_or_lt}
use Rattle.sp_lists.proofs.FlatMaps.{appended_more}
use Rattle.sp_lists.proofs.Places.{all_weaken}
use Rattle.sp_partition.specs.Held.{IsHeld}
use Rattle.sp_partition.proofs.Kept.{kept_on, kept_append}
use Rattle.sp_abacus_law.specs.Beads.{Falls}
use Rattle.sp_abacus_law.proofs.Numbers.{beta-falls, shown-beta}
use Rattle.sp_abacus_law.proofs.Bounds.{falls-small}
use Rattle.sp_abacus.specs.Text.{places}

-- ---- the greatest place

place_up : (e b n : ℕ) → 1 ≤ e → b ≤ n → b / e ≤ n / e
place_up e b n he h = le-div (b / e) n e (omega arith) (omega (arith, div-mul-le_self b e))

places_low : (e n : ℕ) (bs : List ℕ) → 1 ≤ e → AllByRecursion (λ c. c < n) bs → places e bs ≤ n / e + 1
places_low e n [] he h = omega arith
places_low e n (b ∷ bs) he h = omega (arith, place_up e b n he (omega (arith, h.0)), places_low e n bs he h.1)

-- The places are those of the greatest number.
pub places_first : (e b : ℕ) (numbers : List ℕ) → 2 ≤ e → Falls numbers → Some b ≡ slice_get numbers 0 →
    b / e + 1 ≡ places e numbers
places_first e b [] he h is = cc
places_first e b (c ∷ below) he h is =
    let same : b ≡ c = cc in
    omega (arith, ap (λ n. n / e) same, places_low e c below (omega arith) h.0)

below_places : (e place n : ℕ) (bs : List ℕ) → AllByRecursion (λ c. c < n) bs → place < places e bs → e * place ≤ n
below_places e place n [] h lt = absurd (omega arith)
below_places e place n (b ∷ bs) h lt = elim (le_or_lt (places e bs) place) [
  | inl past ↦
      let low : place ≤ b / e = omega arith in omega (arith, h.0, mul-div-le b e, mul-le-mul_left e low)
  | inr further ↦ below_places e place n bs h.1 further
]

-- the numbers of a place that has a bead fit a byte
pub place_small : (e place : ℕ) (parts : List ℕ) → 2 ≤ e → e ≤ 64 → IsHeld parts → length (beta e parts) ≤ 64 →
    place < places e (beta e parts) → e * place + e ≤ 255
place_small e place parts he most h few lt =
    omega (arith, most, below_places e place 96 (beta e parts) low lt)
  where
    falls : Falls (beta e parts)
    falls = beta-falls e parts h.partition

    shown_small : degree (shown (beta e parts)) ≤ 32
    shown_small = subst (λ p. degree p ≤ 32) (sym (shown-beta e parts (omega arith) h.partition)) h.small

    low : AllByRecursion (λ c. c < 96) (beta e parts)
    low = all_weaken (λ c. c < degree (shown (beta e parts)) + length (beta e parts)) (λ c. c < 96) (beta e parts)
        (λ c l. omega (arith, l, shown_small, few)) (falls-small (beta e parts) falls)

-- ---- what is written so far

-- One line more.
pub lines_more : (old now more piece : List ℕ) (line : ℕ → List ℕ) (place : ℕ) → more ≡ now ++ piece →
    piece ≡ line place → now ≡ old ++ flat_map line (range_with_len 0 place) →
    more ≡ old ++ flat_map line (range_with_len 0 (place + 1))
lines_more old now more piece line place appended is h =
    appended ∙ ap (λ xs. now ++ xs) is ∙ appended_more line old now 0 place place (omega arith) h

-- One character more in a line.
pub characters_more : (old now more : List ℕ) (x : ℕ) (at : ℕ → ℕ) (runner : ℕ) → more ≡ now ++ x ∷ [] →
    x ≡ at runner → now ≡ old ++ map at (range_with_len 0 runner) →
    more ≡ old ++ map at (range_with_len 0 (runner + 1))
characters_more old now more x at runner appended is h =
    appended
    ∙ ap (λ xs. xs ++ x ∷ []) h
    ∙ append_assoc old (map at (range_with_len 0 runner)) (x ∷ [])
    ∙ ap (λ y. old ++ (map at (range_with_len 0 runner) ++ y ∷ [])) is
    ∙ ap (λ xs. old ++ xs) (sym (map-range_with_len_more at 0 runner runner (omega arith)))

-- a failed write keeps what stood there before
pub front_kept : (old now written broken : List ℕ) → now ≡ old ++ written → take (length now) broken ≡ now →
    take (length old) broken ≡ old
front_kept old now written broken h kept =
    kept_on old now broken (ap (take (length old)) h ∙ kept_append old written) kept
