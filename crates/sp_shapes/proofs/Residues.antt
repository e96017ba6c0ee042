-- Residues: neighbouring nodes differ, so do the nodes less than e rows further down in a column or the column before,
-- and after e - 1 rows there the residue is back. Residues and ladders agree modulo e.
use Rattle.std.proofs.Common.{◌≡◌, ◌≢◌, ℕ, suc, ◌+◌, ◌-◌, ◌*◌, ◌/◌, ◌%◌, ◌<◌, ◌≤◌, sym, ◌∙◌, ap, ap₂, subst, arith}
use Rattle.std.proofs.Common.{mul-le-mul_left, ◌⊎◌, inl, inr}
use native.Mathlib.Nat.{add-mul-mod_self_left, div-add-mod}
use Rattle.sp_lists.proofs.Elements.{le_or_lt}
use Rattle.sp_defs.specs.Node.{residue}
use Rattle.sp_defs.specs.Ladder.{ladder_of, ladder_residue}

-- a shift by less than e changes the remainder
pub shift_changes : (e x s : ℕ) → 0 < s → s < e → (x + s) % e ≢ x % e
shift_changes e x s lo hi same = compare_quotients (x / e) ((x + s) / e) (div-add-mod x e) (div-add-mod (x + s) e)
  where
    compare_quotients : (q p : ℕ) → e * q + x % e ≡ x → e * p + (x + s) % e ≡ x + s → ⊥
    compare_quotients q p h k = below (le_or_lt p q)
      where
        below : (p ≤ q) ⊎ (q < p) → ⊥
        below (inl l) = let m : e * p ≤ e * q = mul-le-mul_left e l in omega arith
        below (inr l) = let m : e * suc q ≤ e * p = mul-le-mul_left e l in omega arith

-- ---- neighbours

-- the node to the right has another residue
pub right_differs : (e r c : ℕ) → 2 ≤ e → residue e (r, c + 1) ≢ residue e (r, c)
right_differs e r c h same = shift_changes e (c + e * r - r) 1 (omega arith) (omega arith)
    (ap (λ n. n % e) (moved e r c (mul-le-mul_left r h)) ∙ same)
  where
    moved : (e r c : ℕ) → r * 2 ≤ r * e → c + e * r - r + 1 ≡ c + 1 + e * r - r
    moved e r c h = omega arith

-- the node below has another residue
pub below_differs : (e r c : ℕ) → 2 ≤ e → residue e (r + 1, c) ≢ residue e (r, c)
below_differs e r c h same = shift_changes e (c + e * r - r) (e - 1) (omega arith) (omega arith)
    (ap (λ n. n % e) (moved e r c h (mul-le-mul_left r h)) ∙ same)
  where
    moved : (e r c : ℕ) → 2 ≤ e → r * 2 ≤ r * e → c + e * r - r + (e - 1) ≡ c + e * (r + 1) - (r + 1)
    moved e r c h k = omega arith

-- ---- further down in the column, and in the column before

-- less than e rows further down in the column the residue is another
pub same_column : (e r c j : ℕ) → 2 ≤ e → 0 < j → j < e → residue e (r + j, c) ≢ residue e (r, c)
same_column e r c j he lo hi same =
    shift_changes e (c + e * (r + j) - (r + j)) j lo hi
    (ap (λ n. n % e) (sides e r c j (mul-le-mul_left r he) (mul-le-mul_left j he))
    ∙ add-mul-mod_self_left (c + e * r - r) e j
    ∙ sym same)
  where
    sides : (e r c j : ℕ) → r * 2 ≤ r * e → j * 2 ≤ j * e → c + e * (r + j) - (r + j) + j ≡ c + e * r - r + e * j
    sides e r c j h k = omega arith

-- so too in the column before, up to the last of e - 1 rows
pub column_before : (e r c j : ℕ) → 2 ≤ e → 1 ≤ c → j + 1 < e → residue e (r + j, c - 1) ≢ residue e (r, c)
column_before e r c j he hc hi same =
    shift_changes e (c - 1 + e * (r + j) - (r + j)) (j + 1) (omega arith) hi
    (ap (λ n. n % e) (sides e r c j hc (mul-le-mul_left r he) (mul-le-mul_left j he))
    ∙ add-mul-mod_self_left (c + e * r - r) e j
    ∙ sym same)
  where
    sides : (e r c j : ℕ) → 1 ≤ c → r * 2 ≤ r * e → j * 2 ≤ j * e →
        c - 1 + e * (r + j) - (r + j) + (j + 1) ≡ c + e * r - r + e * j
    sides e r c j hc h k = omega arith

-- e - 1 rows further down, in the column before, the residue is back
pub full_turn : (e r c : ℕ) → 2 ≤ e → 1 ≤ c → residue e (r + (e - 1), c - 1) ≡ residue e (r, c)
full_turn e r c he hc =
    sym (add-mul-mod_self_left (c - 1 + e * (r + (e - 1)) - (r + (e - 1))) e 1)
    ∙ ap (λ n. n % e) (sides (e - 1) e r c (omega arith) hc (mul-le-mul_left r he))
    ∙ add-mul-mod_self_left (c + e * r - r) e (e - 1)
  where
    sides : (f e r c : ℕ) → e ≡ f + 1 → 1 ≤ c → r * 2 ≤ r * e →
        c - 1 + e * (r + f) - (r + f) + e * 1 ≡ c + e * r - r + e * f
    sides f e r c eq hc h = let k : e * f ≡ (f + 1) * f = ap (λ n. n * f) eq in omega arith

-- ---- ladders

residue_ladder_at : (d r b : ℕ) → residue (2 + d) (r, 1 + b) ≡ ladder_residue (2 + d) (ladder_of (2 + d) (r, 1 + b))
residue_ladder_at d r b =
    sym (add-mul-mod_self_left (1 + b + (2 + d) * r - r) (2 + d) (b * d))
    ∙ ap (λ n. n % (2 + d))
    (sides d r b ∙ ap (λ l. 1 + (2 + d) * l - l) (sym (ap₂ (λ x y. r + x * y) (less_one d) (less_one' b))))
  where
    less_one : (d : ℕ) → 2 + d - 1 ≡ 1 + d
    less_one d = omega arith

    less_one' : (b : ℕ) → 1 + b - 1 ≡ b
    less_one' b = omega arith

    sides : (d r b : ℕ) →
        1 + b + (2 + d) * r - r + (2 + d) * (b * d) ≡ 1 + (2 + d) * (r + (1 + d) * b) - (r + (1 + d) * b)
    sides d r b = omega arith

-- a node has the residue of its ladder
pub residue_ladder : (e r c : ℕ) → 2 ≤ e → 1 ≤ c → residue e (r, c) ≡ ladder_residue e (ladder_of e (r, c))
residue_ladder e r c he hc =
    subst (λ x. residue x (r, c) ≡ ladder_residue x (ladder_of x (r, c))) (back_e e he)
    (subst (λ y. residue (2 + (e - 2)) (r, y) ≡ ladder_residue (2 + (e - 2)) (ladder_of (2 + (e - 2)) (r, y)))
    (back_c c hc) (residue_ladder_at (e - 2) r (c - 1)))
  where
    back_e : (e : ℕ) → 2 ≤ e → 2 + (e - 2) ≡ e
    back_e e h = omega arith

    back_c : (c : ℕ) → 1 ≤ c → 1 + (c - 1) ≡ c
    back_c c h = omega arith

-- two ladders of one residue that are less than e apart are equal or in order
pub ladder_step : (e upper lower : ℕ) → 2 ≤ e → ladder_residue e upper ≡ ladder_residue e lower → upper < lower + e →
    upper ≤ lower
ladder_step e upper lower he same h = settle (le_or_lt upper lower)
  where
    settle : (upper ≤ lower) ⊎ (lower < upper) → upper ≤ lower
    settle (inl l) = l
    settle (inr l) = absurd (gap (upper - lower) (omega arith) (omega arith) (omega arith))
      where
        gap : (s : ℕ) → upper ≡ lower + s → 0 < s → s < e → ⊥
        gap s eq lo hi = shift_changes e (1 + e * upper - upper) s lo hi
            (ap (λ n. n % e) (sides e upper lower s eq he (mul-le-mul_left lower he) (mul-le-mul_left s he))
            ∙ add-mul-mod_self_left (1 + e * lower - lower) e s
            ∙ sym same)
          where
            sides : (e upper lower s : ℕ) → upper ≡ lower + s → 2 ≤ e → lower * 2 ≤ lower * e → s * 2 ≤ s * e →
                1 + e * upper - upper + s ≡ 1 + e * lower - lower + e * s
            sides e upper lower s eq h k m = let p : e * upper ≡ e * (lower + s) = ap (λ n. e * n) eq in omega arith
