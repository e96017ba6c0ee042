-- Each node of a row is one step of the row's bead: a node of residue i leads it from runner i - 1 to runner i. So
-- runner i gains a bead for each node of residue i, and loses one for each node of residue i + 1.
use Rattle.std.proofs.Common.{◌≡◌, ℕ, zero, suc, ◌+◌, ◌-◌, ◌*◌, ◌/◌, ◌%◌, ◌<◌, ◌≤◌, Bool, true, false, cond, nat_eq}
use Rattle.std.proofs.Common.{List, [], ◌∷◌, ◌++◌, map, length, count_by, sym, ◌∙◌, ap, ap₂, arith}
use Rattle.std.proofs.Common.{eqb-true, eq-eqb, mul-le-mul_right, ◌⊎◌, inl, inr}
use Rattle.std.specs.List.{range_with_len}
use Rattle.std.proofs.lemmas.List.Sums.{sum_by-append}
use native.Mathlib.Nat.{div-add-mod, mod-lt, add-mul-mod_self_left}
use Rattle.sp_defs.specs.Partition.{from_one_to}
use Rattle.sp_defs.specs.Node.{Node, nodes_from, residue}
use Rattle.sp_defs.specs.Abacus.{runner}
use Rattle.sp_lists.proofs.Elements.{le_or_lt, same_tests}
use Rattle.sp_lists.proofs.Counts.{count-cons}
use Rattle.sp_shapes.proofs.Residues.{shift_changes}
use Rattle.sp_abacus_law.specs.Beads.{down, numbers}
use Rattle.sp_abacus_law.proofs.Numbers.{numbers-nil}
use Rattle.sp_abacus_law.proofs.Runners.{runner-cons}

-- ---- one step

next_rest : (e x : ℕ) → (x + 1) % e ≡ (x % e + 1) % e
next_rest e x = ap (λ n. n % e) (split (div-add-mod x e)) ∙ add-mul-mod_self_left (x % e + 1) e (x / e)
  where
    split : e * (x / e) + x % e ≡ x → x + 1 ≡ x % e + 1 + e * (x / e)
    split eq = omega arith

same_rest : (e r s : ℕ) → r < e → s < e → (r + 1) % e ≡ (s + 1) % e → r ≡ s
same_rest e r s hr hs same = settle (le_or_lt r s)
  where
    apart : (m n : ℕ) → m < n → n < e → (n + 1) % e ≡ (m + 1) % e → ⊥
    apart m n lt hn eq =
        shift_changes e (m + 1) (n - m) (omega arith) (omega arith) (ap (λ k. k % e) (back m n lt) ∙ eq)
      where
        back : (m n : ℕ) → m < n → m + 1 + (n - m) ≡ n + 1
        back m n lt = omega arith

    settle : (r ≤ s) ⊎ (s < r) → r ≡ s
    settle (inr lt) = absurd (apart s r lt hr same)
    settle (inl le) = within (le_or_lt s r)
      where
        within : (s ≤ r) ⊎ (r < s) → r ≡ s
        within (inl ge) = omega arith
        within (inr lt) = absurd (apart r s lt hs (sym same))

-- A number is on runner i exactly where the next one is on the runner after it.
pub next_runner : (e x i : ℕ) → 1 ≤ e → i < e → nat_eq ((x + 1) % e) ((i + 1) % e) ≡ nat_eq (x % e) i
next_runner e x i he hi =
    same_tests (nat_eq ((x + 1) % e) ((i + 1) % e)) (nat_eq (x % e) i)
    (λ t. eq-eqb (x % e) i (same_rest e (x % e) i (mod-lt x he) hi
    (sym (next_rest e x) ∙ eqb-true ((x + 1) % e) ((i + 1) % e) t)))
    (λ t. eq-eqb ((x + 1) % e) ((i + 1) % e) (next_rest e x ∙ ap (λ n. (n + 1) % e) (eqb-true (x % e) i t)))

-- With k beads below the row's, where the row's number and k make a multiple of e, the bead's number after c nodes is
-- on the runner of the c-th node's residue.
residue_number : (e r k j c : ℕ) → 1 ≤ e → r + k ≡ j * e → residue e (r, c) ≡ (k + c) % e
residue_number e r k j c he total =
    sym (add-mul-mod_self_left (c + e * r - r) e j)
    ∙ ap (λ n. n % e) (sides e r k j c (mul-le-mul_right r he) total)
    ∙ add-mul-mod_self_left (k + c) e r
  where
    sides : (e r k j c : ℕ) → 1 * r ≤ e * r → r + k ≡ j * e → c + e * r - r + e * j ≡ k + c + e * r
    sides e r k j c le eq = omega arith

-- ---- one row

-- The nodes of residue i among these.
abbrev pub of_residue : ℕ → ℕ → List Node → ℕ
of_residue e i xs = count_by (λ x. nat_eq (residue e x) i) xs

abbrev one_if : Bool → ℕ
one_if b = cond b 1 0

row_steps : (e i r k j b n : ℕ) → 1 ≤ e → i < e → r + k ≡ j * e →
    one_if (nat_eq ((k + (b + n)) % e) i) + of_residue e ((i + 1) % e) (map (λ c. (r, c)) (range_with_len (b + 1) n))
    ≡ one_if (nat_eq ((k + b) % e) i) + of_residue e i (map (λ c. (r, c)) (range_with_len (b + 1) n))
row_steps e i r k j b zero he hi total = ap (λ m. one_if (nat_eq ((k + m) % e) i) + 0) (plain b)
  where
    plain : (b : ℕ) → b + 0 ≡ b
    plain b = omega arith
row_steps e i r k j b (suc n) he hi total =
    ap₂ (λ m x. one_if (nat_eq ((k + m) % e) i) + x) (moved b n)
    (count-cons (λ x. nat_eq (residue e x) ((i + 1) % e)) (r, b + 1) rest)
    ∙ ap (λ v. one_if (nat_eq ((k + (b + 1 + n)) % e) i) + (one_if v + of_residue e ((i + 1) % e) rest)) step
    ∙ turned (one_if (nat_eq ((k + (b + 1 + n)) % e) i)) (one_if (nat_eq ((k + b) % e) i))
    (of_residue e ((i + 1) % e) rest)
    ∙ ap (λ x. one_if (nat_eq ((k + b) % e) i) + x) (row_steps e i r k j (b + 1) n he hi total)
    ∙ ap (λ m. one_if (nat_eq ((k + b) % e) i) + (one_if (nat_eq m i) + of_residue e i rest))
    (sym (residue_number e r k j (b + 1) he total))
    ∙ ap (λ x. one_if (nat_eq ((k + b) % e) i) + x) (sym (count-cons (λ x. nat_eq (residue e x) i) (r, b + 1) rest))
  where
    rest : List Node
    rest = map (λ c. (r, c)) (range_with_len (b + 1 + 1) n)

    moved : (b n : ℕ) → b + suc n ≡ b + 1 + n
    moved b n = omega arith

    more : (k b : ℕ) → k + (b + 1) ≡ k + b + 1
    more k b = omega arith

    step : nat_eq (residue e (r, b + 1)) ((i + 1) % e) ≡ nat_eq ((k + b) % e) i
    step =
        ap (λ m. nat_eq m ((i + 1) % e)) (residue_number e r k j (b + 1) he total ∙ ap (λ m. m % e) (more k b))
        ∙ next_runner e (k + b) i he hi

    turned : (x y z : ℕ) → x + (y + z) ≡ y + (x + z)
    turned x y z = omega arith

-- ---- all rows

length_more : (v : Bool) (q : ℕ) (places : List ℕ) → length (cond v (q ∷ places) places) ≡ one_if v + length places
length_more true q places = omega arith
length_more false q places = omega arith

-- Of k beads, one for each row from r on: what each runner has gained and lost since all rows were empty.
pub bead_steps : (e i j r k : ℕ) (parts : List ℕ) → 1 ≤ e → i < e → r + k ≡ j * e + 1 → length parts ≤ k →
    length (runner e (numbers parts k) i) + of_residue e ((i + 1) % e) (nodes_from r parts)
    ≡ length (runner e (down k) i) + of_residue e i (nodes_from r parts)
unfolding nodes_from
bead_steps e i j r k [] he hi total few = ap (λ bs. length (runner e bs i) + 0) (numbers-nil k)
bead_steps e i j r zero (p ∷ parts) he hi total few = absurd (omega arith)
bead_steps e i j r (suc k) (p ∷ parts) he hi total few =
    joined (length (runner e ((p + k) ∷ numbers parts k) i)) (of_residue e ((i + 1) % e) (row ++ others))
    (one_if (nat_eq ((k + (0 + p)) % e) i)) (of_residue e ((i + 1) % e) row) (of_residue e ((i + 1) % e) others)
    (length (runner e (k ∷ down k) i)) (of_residue e i (row ++ others)) (one_if (nat_eq ((k + 0) % e) i))
    (of_residue e i row) (of_residue e i others) (length (runner e (numbers parts k) i)) (length (runner e (down k) i))
    (ap length (runner-cons e (p + k) (numbers parts k) i)
    ∙ length_more (nat_eq ((p + k) % e) i) ((p + k) / e) (runner e (numbers parts k) i)
    ∙ ap (λ m. one_if (nat_eq (m % e) i) + length (runner e (numbers parts k) i)) (turned p k))
    (sum_by-append (λ x. cond (nat_eq (residue e x) ((i + 1) % e)) 1 0) row others)
    (ap length (runner-cons e k (down k) i)
    ∙ length_more (nat_eq (k % e) i) (k / e) (runner e (down k) i)
    ∙ ap (λ m. one_if (nat_eq (m % e) i) + length (runner e (down k) i)) (plain k))
    (sum_by-append (λ x. cond (nat_eq (residue e x) i) 1 0) row others)
    (row_steps e i r k j 0 p he hi (omega arith))
    (bead_steps e i j (suc r) k parts he hi (omega arith) (omega arith))
  where
    row : List Node
    row = map (λ c. (r, c)) (from_one_to p)

    others : List Node
    others = nodes_from (suc r) parts

    turned : (p k : ℕ) → p + k ≡ k + (0 + p)
    turned p k = omega arith

    plain : (k : ℕ) → k ≡ k + 0
    plain k = omega arith

    joined : (l c o a b l' c' o' a' b' m m' : ℕ) → l ≡ o + m → c ≡ a + b → l' ≡ o' + m' → c' ≡ a' + b' →
        o + a ≡ o' + a' → m + b ≡ m' + b' → l + c ≡ l' + c'
    joined l c o a b l' c' o' a' b' m m' p q p' q' first rest = omega arith
