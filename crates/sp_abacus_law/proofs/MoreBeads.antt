-- Core and quotient do not depend on the number of beads, as long as it is a multiple of e.
use Rattle.std.proofs.Common.{◌≡◌, ℕ, zero, suc, ◌+◌, ◌-◌, ◌*◌, ◌/◌, ◌%◌, ◌<◌, ◌≤◌, List, [], length, nat_lt, filter}
use Rattle.std.proofs.Common.{sym, ◌∙◌, ap, arith, ◌⊎◌, inl, inr, mul-le-mul_left}
use Rattle.std.proofs.lemmas.List.Elements.{filter_agree}
use native.Mathlib.Nat.{div-add-mod, mod-lt}
use Rattle.sp_defs.specs.Abacus.{beta, shown, runner, core}
use Rattle.sp_lists.proofs.Elements.{le_or_lt}
use Rattle.sp_abacus_law.specs.Beads.{down, numbers}
use Rattle.sp_abacus_law.proofs.Numbers.{numbers-nil, beta-numbers, beads-enough}
use Rattle.sp_abacus_law.proofs.Runners.{fallen, slid-under}
use Rattle.sp_abacus_law.proofs.Weight.{runner-fallen, fallen-falls}
use Rattle.sp_abacus_law.proofs.Lifted.{lifted, length-lifted, lifted-falls, shown-lifted, numbers-lifted}
use Rattle.sp_abacus_law.proofs.Lifted.{runner-lifted}
use Rattle.sp_abacus_law.proofs.Members.{same-runners}

-- Only the heights of the runners tell where the beads come to lie.
pub fallen-alike : (e : ℕ) (xs ys : List ℕ) → 1 ≤ e → length xs ≡ length ys →
    ((i : ℕ) → i < e → length (runner e xs i) ≡ length (runner e ys i)) → fallen e xs ≡ fallen e ys
fallen-alike e xs ys he len same =
    filter_agree (λ b. nat_lt (b / e) (length (runner e xs (b % e))))
    (λ b. nat_lt (b / e) (length (runner e ys (b % e))))
    (λ b. ap (nat_lt (b / e)) (same (b % e) (mod-lt b he))) (down (length xs * e))
    ∙ ap (λ n. under_heights n) len
  where
    under_heights : ℕ → List ℕ
    under_heights n = filter (λ b. nat_lt (b / e) (length (runner e ys (b % e)))) (down (n * e))

down-lifted : (n : ℕ) → down (n + 1) ≡ lifted 1 (down n)
down-lifted n =
    sym (numbers-nil (n + 1)) ∙ numbers-lifted 1 [] n (omega arith) ∙ ap (lifted 1) (numbers-nil n)

-- With e beads more, those slid down are lifted by e.
pub fallen-lifted : (e : ℕ) (bs : List ℕ) → 1 ≤ e → fallen e (lifted e bs) ≡ lifted e (fallen e bs)
fallen-lifted e bs he =
    same-runners e (fallen e (lifted e bs)) (lifted e (fallen e bs)) he (fallen-falls e (lifted e bs))
    (lifted-falls e (fallen e bs) (fallen-falls e bs)) each
  where
    each : (i : ℕ) → i < e → runner e (fallen e (lifted e bs)) i ≡ runner e (lifted e (fallen e bs)) i
    each i hi =
        runner-fallen e (lifted e bs) i hi
        ∙ ap down (ap length (runner-lifted e i bs hi) ∙ length-lifted 1 (runner e bs i))
        ∙ down-lifted (length (runner e bs i))
        ∙ ap (lifted 1) (sym (runner-fallen e bs i hi))
        ∙ sym (runner-lifted e i (fallen e bs) hi)

-- ---- e beads more, and d times e

more_numbers : (e j d : ℕ) (parts : List ℕ) → length parts ≤ j * e →
    numbers parts ((j + suc d) * e) ≡ lifted e (numbers parts ((j + d) * e))
more_numbers e j d parts h =
    ap (numbers parts) (next e j d) ∙ numbers-lifted e parts ((j + d) * e) (enough e j d (length parts) h)
  where
    next : (e j d : ℕ) → (j + suc d) * e ≡ (j + d) * e + e
    next e j d = omega arith

    enough : (e j d n : ℕ) → n ≤ j * e → n ≤ (j + d) * e
    enough e j d n h = omega arith

plain_numbers : (e j : ℕ) (parts : List ℕ) → numbers parts ((j + 0) * e) ≡ numbers parts (j * e)
plain_numbers e j parts = ap (λ n. numbers parts (n * e)) (plain j)
  where
    plain : (j : ℕ) → j + 0 ≡ j
    plain j = omega arith

shown_more : (e i j d : ℕ) (parts : List ℕ) → i < e → length parts ≤ j * e →
    shown (runner e (numbers parts ((j + d) * e)) i) ≡ shown (runner e (numbers parts (j * e)) i)
shown_more e i j zero parts hi h = ap (λ bs. shown (runner e bs i)) (plain_numbers e j parts)
shown_more e i j (suc d) parts hi h =
    ap shown (ap (λ bs. runner e bs i) (more_numbers e j d parts h)
    ∙ runner-lifted e i (numbers parts ((j + d) * e)) hi)
    ∙ shown-lifted 1 (runner e (numbers parts ((j + d) * e)) i)
    ∙ shown_more e i j d parts hi h

-- With d times e beads more each runner has d more.
pub height_more : (e i j d : ℕ) (parts : List ℕ) → i < e → length parts ≤ j * e →
    length (runner e (numbers parts ((j + d) * e)) i) ≡ length (runner e (numbers parts (j * e)) i) + d
height_more e i j zero parts hi h =
    ap (λ bs. length (runner e bs i)) (plain_numbers e j parts) ∙ plain (length (runner e (numbers parts (j * e)) i))
  where
    plain : (n : ℕ) → n ≡ n + 0
    plain n = omega arith
height_more e i j (suc d) parts hi h =
    ap length (ap (λ bs. runner e bs i) (more_numbers e j d parts h)
    ∙ runner-lifted e i (numbers parts ((j + d) * e)) hi)
    ∙ length-lifted 1 (runner e (numbers parts ((j + d) * e)) i)
    ∙ ap (λ n. n + 1) (height_more e i j d parts hi h)
    ∙ spread (length (runner e (numbers parts (j * e)) i)) d
  where
    spread : (n d : ℕ) → n + d + 1 ≡ n + suc d
    spread n d = omega arith

fallen_more : (e j d : ℕ) (parts : List ℕ) → 1 ≤ e → length parts ≤ j * e →
    shown (fallen e (numbers parts ((j + d) * e))) ≡ shown (fallen e (numbers parts (j * e)))
fallen_more e j zero parts he h = ap (λ bs. shown (fallen e bs)) (plain_numbers e j parts)
fallen_more e j (suc d) parts he h =
    ap shown (ap (fallen e) (more_numbers e j d parts h) ∙ fallen-lifted e (numbers parts ((j + d) * e)) he)
    ∙ shown-lifted e (fallen e (numbers parts ((j + d) * e)))
    ∙ fallen_more e j d parts he h

-- ---- any multiple of e that is enough

-- How many times e the beads are.
abbrev pub rounds : ℕ → List ℕ → ℕ
rounds e parts = (length parts + (e - 1)) / e

rounds_least : (e j : ℕ) (parts : List ℕ) → 1 ≤ e → length parts ≤ j * e → rounds e parts ≤ j
rounds_least e j parts he h = settle (le_or_lt (rounds e parts) j)
  where
    settle : (rounds e parts ≤ j) ⊎ (j < rounds e parts) → rounds e parts ≤ j
    settle (inl k) = k
    settle (inr k) =
        absurd (past e j (rounds e parts) ((length parts + (e - 1)) % e) (length parts) k h he
        (div-add-mod (length parts + (e - 1)) e))
      where
        past : (e j q r n : ℕ) → j < q → n ≤ j * e → 1 ≤ e → e * q + r ≡ n + (e - 1) → ⊥
        past e j q r n lt le he eq = let more : e * (j + 1) ≤ e * q = mul-le-mul_left e (omega arith) in omega arith

split_rounds : (e j : ℕ) (parts : List ℕ) → 1 ≤ e → length parts ≤ j * e → j ≡ rounds e parts + (j - rounds e parts)
split_rounds e j parts he h = omega (arith, rounds_least e j parts he h)

-- Any multiple of e that is enough shows the same quotient,
pub quotient-numbers : (e i j : ℕ) (parts : List ℕ) → 1 ≤ e → i < e → length parts ≤ j * e →
    shown (runner e (numbers parts (j * e)) i) ≡ shown (runner e (beta e parts) i)
quotient-numbers e i j parts he hi h =
    ap (λ n. shown (runner e (numbers parts (n * e)) i)) (split_rounds e j parts he h)
    ∙ shown_more e i (rounds e parts) (j - rounds e parts) parts hi (beads-enough e parts he)
    ∙ ap (λ bs. shown (runner e bs i)) (sym (beta-numbers e parts))

-- and the same core.
pub core-numbers : (e j : ℕ) (parts : List ℕ) → 1 ≤ e → length parts ≤ j * e →
    shown (fallen e (numbers parts (j * e))) ≡ core e parts
core-numbers e j parts he h =
    ap (λ n. shown (fallen e (numbers parts (n * e)))) (split_rounds e j parts he h)
    ∙ fallen_more e (rounds e parts) (j - rounds e parts) parts he (beads-enough e parts he)
    ∙ ap (λ bs. shown (fallen e bs)) (sym (beta-numbers e parts))
    ∙ ap shown (sym (slid-under e parts))
