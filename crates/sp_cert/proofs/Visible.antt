-- The texts of numbers, partitions and polynomials have no blank and no newline.
use Rattle.std.proofs.Common.{◌≡◌, ℕ, suc, ◌+◌, ◌<◌, ◌≤◌, ◌^◌, ◌==◌, Bool, true, false, cond, not, nat_eq}
use Rattle.std.proofs.Common.{nat_lt, count_by, flat_map, map, codes, List, [], ◌∷◌, ◌++◌}
use Rattle.std.proofs.Common.{arith, ℤ, pos, negsuc}
use Rattle.std.specs.List.{AllByRecursion}
use Rattle.std.specs.Fmt.{decimal, signed_decimal}
use Rattle.std.specs.Int.RustNames.{unsigned_abs}
use Rattle.std.specs.Ordering.{int_eq}
use Rattle.std.specs.Str.Parse.{AllDigits}
use Rattle.std.proofs.lemmas.List.Sums.{count_by-le-length}
use Rattle.std.proofs.lemmas.Str.Parse.{digit_from_value}
use Rattle.sp_defs.specs.Partition.{degree, IsPartition}
use Rattle.sp_defs.specs.Laurent.{Laurent, Term, size}
use Rattle.sp_defs.specs.Text.{joined_by, distinct, part_text, partition_text, is_negative, power_text, term_text}
use Rattle.sp_defs.specs.Text.{signed_term_text, polynomial_text}
use Rattle.sp_lists.proofs.Elements.{all_append, all_filter, all_map, all_flat, all_both}
use Rattle.sp_lists.proofs.Places.{all_weaken}
use Rattle.sp_lists.proofs.Sums.{all_below_sum}
use Rattle.sp_shapes.proofs.Degrees.{length-degree}
use Rattle.sp_laurent.specs.Readable.{IsReadable, read_limit}
use Rattle.sp_laurent.proofs.Fronts.{numeral}
use Rattle.sp_laurent.proofs.Terms.{size_terms}

-- All bytes are greater than a blank.
abbrev pub IsVisible : List ℕ → Type 0
IsVisible text = AllByRecursion (λ c. 32 < c) text

-- two texts without a blank, joined
pub visible_append : (xs ys : List ℕ) → IsVisible xs → IsVisible ys → IsVisible (xs ++ ys)
visible_append xs ys h k = all_append (λ c. 32 < c) xs ys h k

visible_cond : (b : Bool) (xs ys : List ℕ) → IsVisible xs → IsVisible ys → IsVisible (cond b xs ys)
visible_cond true xs ys h k = h
visible_cond false xs ys h k = k

-- ---- numbers

digits_visible : (ds : List ℕ) → AllDigits 10 ds → IsVisible ds
digits_visible [] h = tt
digits_visible (d ∷ ds) (h, hs) = let range = digit_from_value d h in (omega (arith, range), digits_visible ds hs)

-- the decimal text of a number
pub decimal_visible : (n : ℕ) → n < 2 ^ 128 → IsVisible (decimal n)
decimal_visible n small = digits_visible (decimal n) (numeral n small).0.1

signed_visible : (k : ℤ) → unsigned_abs k < 2 ^ 127 → IsVisible (signed_decimal k)
signed_visible (pos n) small = decimal_visible n (omega (arith, small))
signed_visible (negsuc n) small =
    visible_append (codes "-") (decimal (suc n)) (omega arith, tt) (decimal_visible (suc n) (omega (arith, small)))

-- ---- partitions

joined_visible : (texts : List (List ℕ)) → AllByRecursion IsVisible texts → IsVisible (joined_by (codes ",") texts)
joined_visible [] h = tt
joined_visible (t ∷ []) (h, hs) = h
joined_visible (t ∷ u ∷ texts) (h, hs) =
    visible_append (t ++ codes ",") (joined_by (codes ",") (u ∷ texts))
    (visible_append t (codes ",") h (omega arith, tt)) (joined_visible (u ∷ texts) hs)

all_distinct : (P : ℕ → Type 0) (xs : List ℕ) → AllByRecursion P xs → AllByRecursion P (distinct xs)
all_distinct P [] h = tt
all_distinct P (x ∷ xs) (h, hs) = (
  h,
  all_filter P (λ q. not (nat_eq q x)) (distinct xs)
      (all_weaken P (λ q. not (nat_eq q x) ≡ true → P q) (distinct xs) (λ q k _. k) (all_distinct P xs hs)),
)

part_visible : (p m : ℕ) → p < 2 ^ 64 → m < 2 ^ 64 → IsVisible (part_text p m)
part_visible p m hp hm =
    visible_append (decimal p) (cond (nat_lt 1 m) (codes "^" ++ decimal m) []) (decimal_visible p (omega arith))
    (visible_cond (nat_lt 1 m) (codes "^" ++ decimal m) []
    (visible_append (codes "^") (decimal m) (omega arith, tt) (decimal_visible m (omega arith))) tt)

-- the text of a partition
pub partition_visible : (parts : List ℕ) → IsPartition parts → degree parts < 2 ^ 63 → IsVisible (partition_text parts)
unfolding partition_text
partition_visible [] h small = (omega arith, tt)
partition_visible (p ∷ parts) h small =
    joined_visible (map (λ q. part_text q (count_by (nat_eq q) (p ∷ parts))) (distinct (p ∷ parts)))
    (all_map IsVisible (λ q. part_text q (count_by (nat_eq q) (p ∷ parts))) (distinct (p ∷ parts))
    (all_weaken (λ q. q < degree (p ∷ parts) + 1)
    (λ q. IsVisible (part_text q (count_by (nat_eq q) (p ∷ parts)))) (distinct (p ∷ parts))
    (λ q lt. part_visible q (count_by (nat_eq q) (p ∷ parts)) (omega (arith, lt, small))
    (omega (arith, count_by-le-length (nat_eq q) (p ∷ parts), length-degree (p ∷ parts) h, small)))
    (all_distinct (λ q. q < degree (p ∷ parts) + 1) (p ∷ parts) (all_below_sum (p ∷ parts)))))

-- ---- polynomials

power_visible : (k : ℤ) → unsigned_abs k < 2 ^ 127 → IsVisible (power_text k)
power_visible k small =
    visible_cond (int_eq k (pos 1)) (codes "v") (codes "v^" ++ signed_decimal k) (omega arith, tt)
    (visible_append (codes "v^") (signed_decimal k) (omega arith, (omega arith, tt)) (signed_visible k small))

term_visible : (k c : ℤ) → unsigned_abs k < 2 ^ 127 → unsigned_abs c < 2 ^ 127 → IsVisible (term_text (k, c))
unfolding term_text
term_visible k c hk hc =
    visible_cond (int_eq k (pos 0)) (decimal n) (cond (n == 1) [] (decimal n) ++ power_text k) number
    (visible_append (cond (n == 1) [] (decimal n)) (power_text k) (visible_cond (n == 1) [] (decimal n) tt number)
    (power_visible k hk))
  where
    n : ℕ
    n = unsigned_abs c

    number : IsVisible (decimal n)
    number = decimal_visible n (omega (arith, hc))

signed_term_visible : (t : Term) → unsigned_abs t.0 < 2 ^ 127 → unsigned_abs t.1 < 2 ^ 127 →
    IsVisible (signed_term_text t)
signed_term_visible (k, c) hk hc =
    visible_append (cond (is_negative (k, c)) (codes "-") (codes "+")) (term_text (k, c))
    (visible_cond (is_negative (k, c)) (codes "-") (codes "+") (omega arith, tt) (omega arith, tt))
    (term_visible k c hk hc)

-- the text of a polynomial
pub polynomial_visible : (p : Laurent) → IsReadable p → IsVisible (polynomial_text p)
unfolding polynomial_text
polynomial_visible p h =
    by p
    (all_both (λ t. unsigned_abs t.0 ≤ read_limit) (λ t. unsigned_abs t.1 ≤ size p) p h.powers
    (size_terms p (size p) (omega arith)))
  where
    by : (q : Laurent) → AllByRecursion (λ t. (unsigned_abs t.0 ≤ read_limit) × (unsigned_abs t.1 ≤ size p)) q →
        IsVisible (polynomial_text q)
    by [] k = (omega arith, tt)
    by ((k, c) ∷ ts) (b, bs) =
        visible_append (cond (is_negative (k, c)) (codes "-") [] ++ term_text (k, c)) (flat_map signed_term_text ts)
        (visible_append (cond (is_negative (k, c)) (codes "-") []) (term_text (k, c))
        (visible_cond (is_negative (k, c)) (codes "-") [] (omega arith, tt) tt)
        (term_visible k c (omega (arith, b.0)) (omega (arith, b.1, h.small))))
        (all_flat (λ x. 32 < x) signed_term_text ts
        (all_weaken (λ t. (unsigned_abs t.0 ≤ read_limit) × (unsigned_abs t.1 ≤ size p))
        (λ t. IsVisible (signed_term_text t)) ts
        (λ t d. signed_term_visible t (omega (arith, d.0)) (omega (arith, d.1, h.small))) bs))
