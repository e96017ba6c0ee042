-- Residues of nodes and of their right-hand neighbours.
use Rattle.std.proofs.Common.{◌≡◌, ℕ, ◌+◌, ◌-◌, ◌*◌, ◌/◌, ◌%◌, ◌≤◌, nat_eq, sym, ◌∙◌, ap, arith}
use Rattle.std.proofs.Common.{mul-le-mul_left, eqb-true, eq-eqb}
use native.Mathlib.Nat.{add-mul-mod_self_left, div-add-mod}
use Rattle.sp_defs.specs.Node.{residue}
use Rattle.sp_lists.proofs.Elements.{same_tests}

-- Numbers with one remainder have one remainder after the same number is added.
pub same_shift : (e x y k : ℕ) → x % e ≡ y % e → (x + k) % e ≡ (y + k) % e
same_shift e x y k same = short x ∙ ap (λ r. (r + k) % e) same ∙ sym (short y)
  where
    split : (x q r : ℕ) → q + r ≡ x → x + k ≡ r + k + q
    split x q r h = omega arith

    short : (x : ℕ) → (x + k) % e ≡ (x % e + k) % e
    short x = ap (λ n. n % e) (split x (e * (x / e)) (x % e) (div-add-mod x e))
        ∙ add-mul-mod_self_left (x % e + k) e (x / e)

-- The node to the right and below has the same residue.
pub diagonal : (e r c : ℕ) → 2 ≤ e → residue e (r + 1, c + 1) ≡ residue e (r, c)
diagonal e r c he = ap (λ n. n % e) (moved (mul-le-mul_left r he)) ∙ add-mul-mod_self_left (c + e * r - r) e 1
  where
    moved : r * 2 ≤ r * e → c + 1 + e * (r + 1) - (r + 1) ≡ c + e * r - r + e * 1
    moved h = omega arith

right_is : (e r c : ℕ) → 2 ≤ e → residue e (r, c + 1) ≡ (c + e * r - r + 1) % e
right_is e r c he = ap (λ n. n % e) (moved (mul-le-mul_left r he))
  where
    moved : r * 2 ≤ r * e → c + 1 + e * r - r ≡ c + e * r - r + 1
    moved h = omega arith

-- Nodes of one residue have right-hand neighbours of one residue.
pub right_same : (e r c s d : ℕ) → 2 ≤ e → residue e (r, c) ≡ residue e (s, d) →
    residue e (r, c + 1) ≡ residue e (s, d + 1)
right_same e r c s d he same =
    right_is e r c he ∙ same_shift e (c + e * r - r) (d + e * s - s) 1 same ∙ sym (right_is e s d he)

-- and the other way round.
pub left_same : (e r c s d : ℕ) → 2 ≤ e → residue e (r, c + 1) ≡ residue e (s, d + 1) →
    residue e (r, c) ≡ residue e (s, d)
left_same e r c s d he same = turned (c + e * r - r) ∙ same_shift e (c + e * r - r + 1) (d + e * s - s + 1) (e - 1)
    (sym (right_is e r c he) ∙ same ∙ right_is e s d he) ∙ sym (turned (d + e * s - s))
  where
    whole : (x : ℕ) → x + e * 1 ≡ x + 1 + (e - 1)
    whole x = omega arith

    turned : (x : ℕ) → x % e ≡ (x + 1 + (e - 1)) % e
    turned x = sym (add-mul-mod_self_left x e 1) ∙ ap (λ n. n % e) (whole x)

-- As a test: a node has the residue of another just where their right-hand neighbours have one residue.
pub right_test : (e r c s d : ℕ) → 2 ≤ e →
    nat_eq (residue e (r, c + 1)) (residue e (s, d + 1)) ≡ nat_eq (residue e (s, d)) (residue e (r, c))
right_test e r c s d he =
    same_tests (nat_eq (residue e (r, c + 1)) (residue e (s, d + 1))) (nat_eq (residue e (s, d)) (residue e (r, c)))
    (λ h. eq-eqb (residue e (s, d)) (residue e (r, c))
    (sym (left_same e r c s d he (eqb-true (residue e (r, c + 1)) (residue e (s, d + 1)) h))))
    (λ h. eq-eqb (residue e (r, c + 1)) (residue e (s, d + 1))
    (right_same e r c s d he (sym (eqb-true (residue e (s, d)) (residue e (r, c)) h))))
