-- Contents add up to the degree, and their differences give them back.
use Rattle.std.proofs.Common.{◌≡◌, ℕ, zero, suc, ◌+◌, ◌-◌, ◌*◌, ◌%◌, ◌<◌, ◌≤◌, nat_eq, false, List, [], ◌∷◌, map}
use Rattle.std.proofs.Common.{filter, length, sum_by, sym, ◌∙◌, ap, ap₂, arith, ne_eqb, ◌⊎◌, inl, inr}
use Rattle.std.proofs.Common.{mul-le-mul_left}
use Rattle.std.specs.List.{AllByRecursion, range_with_len}
use Rattle.std.proofs.lemmas.List.{length-map}
use Rattle.std.proofs.lemmas.List.Sums.{sum_by-cons, length-filter}
use Rattle.std.proofs.lemmas.List.FromFn.{length-range_with_len}
use native.Mathlib.Nat.{mod-lt, mod-eq_of_lt}
use Rattle.sp_defs.specs.Partition.{degree}
use Rattle.sp_defs.specs.Node.{Node, nodes, residue, content}
use Rattle.sp_defs.specs.Statements.{SameContent}
use Rattle.sp_lists.proofs.Elements.{le_or_lt, range_all, all_every, count_zero}
use Rattle.sp_lists.proofs.Counts.{count-map}
use Rattle.sp_lists.proofs.Sums.{sum-alike, sum-ones, sum-classes}
use Rattle.sp_shapes.proofs.Diagram.{degree-nodes}

-- The number whose remainder is the residue.
abbrev before_rest : ℕ → Node → ℕ
before_rest e x = x.1 + e * x.0 - x.0

-- The degree is the sum of the contents.
pub degree-contents : (e : ℕ) (parts : List ℕ) → 1 ≤ e →
    degree parts ≡ sum_by (content e parts) (range_with_len 0 e)
degree-contents e parts he =
    sym (degree-nodes 1 parts)
    ∙ sym (length-map (nodes parts) (before_rest e))
    ∙ sym (sum-ones bs)
    ∙ sum-classes e (λ b. b % e) (λ _. 1) bs (λ b. mod-lt b he)
    ∙ sum-alike (λ i. sum_by (λ _. 1) (filter (λ b. nat_eq (b % e) i) bs)) (content e parts) (range_with_len 0 e)
    (all_every (λ i. sum_by (λ _. 1) (filter (λ b. nat_eq (b % e) i) bs) ≡ content e parts i) (range_with_len 0 e) each)
  where
    bs : List ℕ
    bs = map (before_rest e) (nodes parts)

    each : (i : ℕ) → sum_by (λ _. 1) (filter (λ b. nat_eq (b % e) i) bs) ≡ content e parts i
    each i =
        sum-ones (filter (λ b. nat_eq (b % e) i) bs)
        ∙ length-filter (λ b. nat_eq (b % e) i) bs
        ∙ count-map (λ b. nat_eq (b % e) i) (before_rest e) (nodes parts)

-- No node has residue e or more.
content-past : (e i : ℕ) (parts : List ℕ) → 1 ≤ e → e ≤ i → content e parts i ≡ 0
content-past e i parts he le =
    count_zero (λ x. nat_eq (residue e x) i) (nodes parts)
    (all_every (λ x. nat_eq (residue e x) i ≡ false) (nodes parts)
    (λ x. ne_eqb (residue e x) i (λ same. omega (arith, mod-lt (before_rest e x) he))))

-- Sums of terms that differ by the same.
sums_apart : (f g : ℕ → ℕ) (a b : ℕ) (xs : List ℕ) → AllByRecursion (λ i. f i + b ≡ g i + a) xs →
    sum_by f xs + length xs * b ≡ sum_by g xs + length xs * a
sums_apart f g a b [] h = omega arith
sums_apart f g a b (x ∷ xs) (h, hs) =
    omega (arith, sum_by-cons f x xs, sum_by-cons g x xs, sums_apart f g a b xs hs)

cancel : (e a b : ℕ) → 1 ≤ e → e * a ≡ e * b → a ≡ b
cancel e a b he eq = settle (le_or_lt a b) (le_or_lt b a)
  where
    apart : (m n : ℕ) → m < n → e * m ≡ e * n → ⊥
    apart m n lt same = let more : e * (m + 1) ≤ e * n = mul-le-mul_left e (omega arith) in omega arith

    settle : (a ≤ b) ⊎ (b < a) → (b ≤ a) ⊎ (a < b) → a ≡ b
    settle (inl p) (inl q) = omega arith
    settle (inl p) (inr q) = absurd (apart a b q eq)
    settle (inr p) q = absurd (apart b a p (sym eq))

-- Partitions of one degree whose contents differ by the same at each residue and the next have the same contents.
pub contents_back : (e : ℕ) (x y : List ℕ) → 1 ≤ e → degree x ≡ degree y →
    ((i : ℕ) → i < e →
    content e x i + content e y ((i + 1) % e) ≡ content e y i + content e x ((i + 1) % e)) → SameContent e x y
contents_back e x y he total step i = settle (le_or_lt e i)
  where
    next : (i : ℕ) → suc i < e → (i + 1) % e ≡ suc i
    next i lt = ap (λ n. n % e) (one_more i) ∙ mod-eq_of_lt lt
      where
        one_more : (i : ℕ) → i + 1 ≡ suc i
        one_more i = omega arith

    to_first : (i : ℕ) → i < e → content e x i + content e y 0 ≡ content e y i + content e x 0
    to_first zero lt = omega arith
    to_first (suc i) lt =
        chained (content e x i) (content e y i) (content e x (suc i)) (content e y (suc i)) (content e x 0)
        (content e y 0)
        (ap (λ n. content e x i + content e y n) (sym (next i lt))
        ∙ step i (omega arith)
        ∙ ap (λ n. content e y i + content e x n) (next i lt))
        (to_first i (omega arith))
      where
        chained : (x y x' y' x0 y0 : ℕ) → x + y' ≡ y + x' → x + y0 ≡ y + x0 → x' + y0 ≡ y' + x0
        chained x y x' y' x0 y0 p q = omega arith

    first : content e x 0 ≡ content e y 0
    first =
        cancel e (content e x 0) (content e y 0) he
        (balanced (degree x) (degree y) (e * content e x 0) (e * content e y 0) total
        (ap₂ (λ m n. m + n * content e y 0) (degree-contents e x he) (sym (length-range_with_len 0 e))
        ∙ sums_apart (content e x) (content e y) (content e x 0) (content e y 0) (range_with_len 0 e)
        (range_all (λ i. content e x i + content e y 0 ≡ content e y i + content e x 0) 0 e
        (λ i lo hi. to_first i (below i hi)))
        ∙ sym (ap₂ (λ m n. m + n * content e x 0) (degree-contents e y he) (sym (length-range_with_len 0 e)))))
      where
        below : (i : ℕ) → i < 0 + e → i < e
        below i hi = omega arith

        balanced : (m n a b : ℕ) → m ≡ n → m + b ≡ n + a → a ≡ b
        balanced m n a b p q = omega arith

    settle : (e ≤ i) ⊎ (i < e) → content e x i ≡ content e y i
    settle (inl le) = content-past e i x he le ∙ sym (content-past e i y he le)
    settle (inr lt) = omega (arith, to_first i lt, first)
