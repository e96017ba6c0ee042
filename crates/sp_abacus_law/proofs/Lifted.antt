-- More beads: all numbers rise, and the lowest places are filled. What is shown stays, and each runner has one more.
use Rattle.std.proofs.Common.{◌≡◌, ℕ, zero, suc, ◌+◌, ◌-◌, ◌*◌, ◌/◌, ◌%◌, ◌<◌, ◌≤◌, Bool, true, false, cond, nat_eq}
use Rattle.std.proofs.Common.{List, [], ◌∷◌, ◌++◌, map, length, refl, sym, ◌∙◌, ap, ap₂, arith, ◌⊎◌, inl, inr}
use Rattle.std.proofs.Common.{length-append}
use Rattle.std.proofs.lemmas.List.{length-map}
use Rattle.std.proofs.lemmas.Nat.{mod-mul-add, div-mul-add}
use native.Mathlib.Nat.{div-add-mod, mod-lt}
use Rattle.sp_defs.specs.Abacus.{shown, runner}
use Rattle.sp_lists.proofs.Elements.{le_or_lt, all_append, all_map}
use Rattle.sp_lists.proofs.Places.{all_weaken}
use Rattle.sp_abacus_law.specs.Beads.{down, numbers, Falls}
use Rattle.sp_abacus_law.proofs.Falling.{length-down, down-falls, down-below}
use Rattle.sp_abacus_law.proofs.Numbers.{numbers-nil, shown-more, shown-none}
use Rattle.sp_abacus_law.proofs.Shown.{shown-down}
use Rattle.sp_abacus_law.proofs.Runners.{runner-cons, runner-down}

-- c beads more, below the others, which go up by c.
abbrev pub lifted : ℕ → List ℕ → List ℕ
lifted c bs = map (λ b. b + c) bs ++ down c

-- So there are c more,
pub length-lifted : (c : ℕ) (bs : List ℕ) → length (lifted c bs) ≡ length bs + c
length-lifted c bs =
    length-append (map (λ b. b + c) bs) (down c) ∙ ap₂ (λ m n. m + n) (length-map bs (λ b. b + c)) (length-down c)

-- they fall,
pub lifted-falls : (c : ℕ) (bs : List ℕ) → Falls bs → Falls (lifted c bs)
lifted-falls c [] f = down-falls c
lifted-falls c (b ∷ bs) (low, f) = (
  all_append (λ d. d < b + c) (map (λ b. b + c) bs) (down c)
      (all_map (λ d. d < b + c) (λ b. b + c) bs
      (all_weaken (λ d. d < b) (λ d. d + c < b + c) bs (λ d lt. omega arith) low))
      (down-below c (b + c) (omega arith)),
  lifted-falls c bs f,
)

-- and show the same partition.
pub shown-lifted : (c : ℕ) (bs : List ℕ) → shown (lifted c bs) ≡ shown bs
shown-lifted c [] = shown-down c
shown-lifted c (b ∷ bs) = settle (le_or_lt b (length bs)) (shown-lifted c bs) (length-lifted c bs)
  where
    settle : (b ≤ length bs) ⊎ (length bs < b) → shown (lifted c bs) ≡ shown bs →
        length (lifted c bs) ≡ length bs + c → shown ((b + c) ∷ lifted c bs) ≡ shown (b ∷ bs)
    settle (inl h) rest len = shown-none (b + c) (lifted c bs) (omega arith) ∙ sym (shown-none b bs h)
    settle (inr h) rest len =
        shown-more (b + c) (lifted c bs) (omega arith)
        ∙ ap₂ (λ x xs. x ∷ xs) (less (length (lifted c bs)) (length bs) len) rest
        ∙ sym (shown-more b bs h)
      where
        less : (m n : ℕ) → m ≡ n + c → b + c - m ≡ b - n
        less m n e = omega arith

-- The numbers of a partition with c beads more are lifted by c.
pub numbers-lifted : (c : ℕ) (parts : List ℕ) (k : ℕ) → length parts ≤ k →
    numbers parts (k + c) ≡ lifted c (numbers parts k)
numbers-lifted c [] zero h = ap (numbers []) (plain c) ∙ numbers-nil c
  where
    plain : (c : ℕ) → 0 + c ≡ c
    plain c = omega arith
numbers-lifted c (p ∷ parts) zero h = absurd (omega arith)
numbers-lifted c [] (suc k) h =
    ap (numbers []) (moved k c) ∙ ap (λ xs. (k + c) ∷ xs) (numbers-lifted c [] k (omega arith))
  where
    moved : (k c : ℕ) → suc k + c ≡ suc (k + c)
    moved k c = omega arith
numbers-lifted c (p ∷ parts) (suc k) h =
    ap (numbers (p ∷ parts)) (moved k c)
    ∙ ap₂ (λ x xs. x ∷ xs) (spread p k c) (numbers-lifted c parts k (omega arith))
  where
    moved : (k c : ℕ) → suc k + c ≡ suc (k + c)
    moved k c = omega arith

    spread : (p k c : ℕ) → p + (k + c) ≡ p + k + c
    spread p k c = omega arith

-- With e beads more each runner has one more.
pub runner-lifted : (e i : ℕ) (bs : List ℕ) → i < e → runner e (lifted e bs) i ≡ lifted 1 (runner e bs i)
runner-lifted e i [] hi = ap (λ n. runner e (down n) i) (plain e) ∙ runner-down e i 1 hi
  where
    plain : (e : ℕ) → e ≡ 1 * e
    plain e = omega arith
runner-lifted e i (b ∷ bs) hi =
    runner-cons e (b + e) (lifted e bs) i
    ∙ ap₂ (λ m q. cond (nat_eq m i) (q ∷ runner e (lifted e bs) i) (runner e (lifted e bs) i)) same_rest next_place
    ∙ ap (λ r. cond (nat_eq (b % e) i) ((b / e + 1) ∷ r) r) (runner-lifted e i bs hi)
    ∙ tested (nat_eq (b % e) i) (runner e bs i)
    ∙ ap (lifted 1) (sym (runner-cons e b bs i))
  where
    place : b + e ≡ (b / e + 1) * e + b % e
    place = spread e (b / e) (b % e) (div-add-mod b e)
      where
        spread : (e q r : ℕ) → e * q + r ≡ b → b + e ≡ (q + 1) * e + r
        spread e q r eq = omega arith

    same_rest : (b + e) % e ≡ b % e
    same_rest = ap (λ n. n % e) place ∙ mod-mul-add (b / e + 1) e (b % e) (mod-lt b (omega arith))

    next_place : (b + e) / e ≡ b / e + 1
    next_place = ap (λ n. n / e) place ∙ div-mul-add (b / e + 1) e (b % e) (mod-lt b (omega arith))

    tested : (v : Bool) (r : List ℕ) →
        cond v ((b / e + 1) ∷ lifted 1 r) (lifted 1 r) ≡ lifted 1 (cond v ((b / e) ∷ r) r)
    tested true r = refl
    tested false r = refl
