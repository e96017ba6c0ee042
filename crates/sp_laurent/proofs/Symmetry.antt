-- Terms that are the same from last to first with their powers negated, by their places.
use Rattle.std.proofs.Common.{◌≡◌, ℕ, ◌+◌, ◌-◌, ◌*◌, ◌/◌, ◌%◌, ◌<◌, ◌≤◌, min, reverse, length, get_or, sym}
use Rattle.std.proofs.Common.{◌∙◌, ap, ap₂, arith, ℤ, pos, neg_ℤ, inl, inr}
use Rattle.std.proofs.lemmas.Int.{ints}
use Rattle.std.proofs.lemmas.Bool.{cases_lt}
use Rattle.std.proofs.lemmas.Grind.{div_ceil_times}
use Rattle.std.proofs.lemmas.List.{get_or-map, get_or-reverse, ext_get_or, length-map, length-reverse}
use Rattle.sp_defs.specs.Laurent.{Laurent, Term}
use Rattle.sp_algebra.proofs.Mirrored.{mirrored}

-- the term with its power negated
abbrev pub mirror : Term → Term
mirror t = (neg_ℤ t.0, t.1)

-- the term at i is the mirror of the term at the same place from the end
abbrev pub IsMatched : Laurent → ℕ → Term → Type 0
IsMatched p i d = get_or p i d ≡ mirror (get_or p (length p - 1 - i) d)

get_or-turned : (p : Laurent) (i : ℕ) (d : Term) → i < length p
    → get_or (reverse (mirrored p)) i d ≡ mirror (get_or p (length p - 1 - i) d)
get_or-turned p i d lt =
    get_or-reverse (mirrored p) i d (omega (arith, length-map p mirror))
    ∙ ap (λ n. get_or (mirrored p) (n - 1 - i) d) (length-map p mirror)
    ∙ get_or-map mirror p (length p - 1 - i) d d (omega arith)

-- where one term is the mirror of another, so is the other of it
pub mirror_twice : (a b : Term) → a ≡ mirror b → b ≡ mirror a
mirror_twice (j, c) (k, d) e = ap₂ (λ x y. (x, y)) (powers j k (ap (λ t. t.0) e)) (sym (ap (λ t. t.1) e))
  where
    powers : (j k : ℤ) → j ≡ neg_ℤ k → k ≡ neg_ℤ j
    powers j k e = omega (arith, ints)

-- the first half decides the other
matched_everywhere : (p : Laurent) (n : ℕ) → length p ≤ n * 2 → ((i : ℕ) (d : Term) → i < n → IsMatched p i d)
    → (i : ℕ) (d : Term) → i < length p → IsMatched p i d
matched_everywhere p n half h i d lt = elim (cases_lt i n) [
  | inl low ↦ h i d low
  | inr high ↦
      let e : length p - 1 - (length p - 1 - i) ≡ i = omega arith in
      mirror_twice (get_or p (length p - 1 - i) d) (get_or p i d)
      (h (length p - 1 - i) d (omega arith) ∙ ap (λ k. mirror (get_or p k d)) e)
]

-- where the first half of the terms is matched, the list is its own mirror turned around
pub matched_all : (p : Laurent) (n : ℕ) → length p ≤ n * 2 → ((i : ℕ) (d : Term) → i < n → IsMatched p i d)
    → reverse (mirrored p) ≡ p
matched_all p n half h = ext_get_or (pos 0, pos 0) (reverse (mirrored p)) p size
    (λ i lt. get_or-turned p i (pos 0, pos 0) (omega (arith, size))
    ∙ sym (matched_everywhere p n half h i (pos 0, pos 0) (omega (arith, size))))
  where
    size : length (reverse (mirrored p)) ≡ length p
    size = length-reverse (mirrored p) ∙ length-map p mirror

-- a list that is its own mirror turned around is matched at each place
pub matched_at : (p : Laurent) (i : ℕ) (d : Term) → i < length p → reverse (mirrored p) ≡ p → IsMatched p i d
matched_at p i d lt e = ap (λ q. get_or q i d) (sym e) ∙ get_or-turned p i d lt

-- half of a number, rounded up
pub half_up : (n : ℕ) → n ≤ (n / 2 + min 1 (n % 2)) * 2
half_up n = (div_ceil_times n 2 (omega arith)).0
