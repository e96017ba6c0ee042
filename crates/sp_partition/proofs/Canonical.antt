-- The canonical text of a partition is read as that partition.
use Rattle.std.proofs.Common.{◌≡◌, ℕ, zero, suc, ◌-◌, ◌*◌, ◌^◌, ◌<◌, ◌≤◌, cond, ◌&&◌, nat_eq, nat_lt}
use Rattle.std.proofs.Common.{nat_le, List, [], ◌∷◌, ◌++◌, length, take, drop, replicate, slice_index, codes, refl, sym}
use Rattle.std.proofs.Common.{◌∙◌, ap, subst, arith, ◌⊎◌, inl, inr, append-nil, append_assoc, lt-ltb, length-drop}
use Rattle.std.proofs.Common.{eq-or-lt_of_le, Some, None, Ok, Err, ne_eqb, le-leb}
use Rattle.std.specs.Cmp.Lexicographic.{pointwise}
use Rattle.std.specs.Fmt.{decimal}
use Rattle.std.specs.List.{starts_with, ends_with, slice_range}
use Rattle.std.specs.Option.{option_and_then}
use Rattle.std.specs.Prelude.{Result}
use Rattle.std.proofs.lemmas.Bool.{and_left, cond_both, cond-true, cond-false, false_from_ne_true}
use Rattle.std.proofs.lemmas.Fmt.{decimal_is_IsNumeral, first_decimal}
use Rattle.std.proofs.lemmas.List.Folds.{sum_by-replicate}
use Rattle.std.proofs.lemmas.List.Sums.{sum_by-append, sum_by-cons}
use Rattle.std.proofs.lemmas.Str.Parse.{digit_from_value}
use Rattle.sp_defs.specs.Partition.{degree, IsPartition}
use Rattle.sp_defs.specs.Text.{part_text, partition_text}
use Rattle.sp_shapes.proofs.Diagram.{IsPartition-tail, IsPartition-head}
use Rattle.sp_partition.specs.Held.{IsHeld}
use Rattle.sp_partition.specs.OrderLaws.{equal_lists}
use Rattle.sp_partition.specs.Pieces.{IsNumber}
use Rattle.sp_partition.specs.Reading.{cut, item_of, items_of, falls, list_of, inner, partition_of, parsed}
use Rattle.sp_partition.specs.Runs.{lead}
use Rattle.sp_partition.specs.declared.TheConstants.{CAPACITY}
use Rattle.sp_partition.specs.declared.partition.NotPartition.{NotPartition}
use Rattle.sp_partition.specs.declared.partition.NotPartition.TheVariants.{PastCapacity}
use Rattle.sp_partition.proofs.Falls.{falls_partition}
use Rattle.sp_partition.proofs.ItemReading.{plain_item, power_item}
use Rattle.sp_partition.proofs.Marks.{Free, free_append, digits_free, cut_free, cut_mark}
use Rattle.sp_partition.proofs.Progress.{factor_le, onto}
use Rattle.sp_partition.proofs.Runs.{Below, later_text, text-run, Splits, splits, lead_some}

-- ---- numbers and items

-- Numbers below 2 ^ 64 are written whole.
number_text : (n : ℕ) → 0 < n → n < 2 ^ 64 → IsNumber (decimal n) n
number_text n some small = record {
  digits = (decimal_is_IsNumeral n small).0;
  first = λ e. let lead : 48 < slice_index (decimal n) 0 = first_decimal n some small in absurd (omega arith);
  value = (decimal_is_IsNumeral n small).1;
}

often_text : (p m : ℕ) → 1 < m → decimal p ++ (codes "^" ++ decimal m) ≡ part_text p m
often_text p m two = ap (λ b. decimal p ++ cond b (codes "^" ++ decimal m) []) (sym (lt-ltb 1 m two))

item_text : (p m : ℕ) → 0 < p → p < 2 ^ 64 → 0 < m → m < 2 ^ 64 →
    item_of (cut 94 (part_text p m)) ≡ Some (replicate m p)
item_text p m hp sp hm sm = settle (eq-or-lt_of_le (least hm))
  where
    least : 0 < m → 1 ≤ m
    least h = omega arith

    settle : (1 ≡ m) ⊎ (1 < m) → item_of (cut 94 (part_text p m)) ≡ Some (replicate m p)
    settle (inl e) = subst (λ n. item_of (cut 94 (part_text p n)) ≡ Some (replicate n p)) e
        (ap (λ t. item_of (cut 94 t)) (append-nil (decimal p)) ∙ plain_item (decimal p) p (number_text p hp sp))
    settle (inr two) =
        ap (λ t. item_of (cut 94 t)) (sym (often_text p m two))
        ∙ power_item (decimal p) (decimal m) p m (number_text p hp sp) (number_text m hm sm)

-- 44 is the comma.
item_free : (p m : ℕ) → 0 < p → p < 2 ^ 64 → 0 < m → m < 2 ^ 64 → Free 44 (part_text p m)
item_free p m hp sp hm sm =
    free_append 44 (decimal p) (cond (nat_lt 1 m) (codes "^" ++ decimal m) [])
    (digits_free 44 (decimal p) (omega arith) (number_text p hp sp).digits.1)
    (cond_both (nat_lt 1 m) (codes "^" ++ decimal m) [] (Free 44)
    (λ _. ((λ e. omega arith), digits_free 44 (decimal m) (omega arith) (number_text m hm sm).digits.1)) (λ _. tt))

-- ---- runs

-- A partition whose numbers are written whole.
pub record IsWritten (parts : List ℕ) : Type 0 where
  pub partition : IsPartition parts
  pub small : degree parts < 2 ^ 64

-- The numbers of its first run.
pub record Small (m p : ℕ) (more : List ℕ) : Type 0 where
  pub part : p < 2 ^ 64
  pub count : m < 2 ^ 64
  pub more_written : IsWritten more

behind_written : (m p : ℕ) (more : List ℕ) → IsWritten (replicate m p ++ more) → IsWritten more
behind_written zero p more h = h
behind_written (suc m) p more h = behind_written m p more (record {
  partition = IsPartition-tail p (replicate m p ++ more) h.partition;
  small = let s : degree (p ∷ (replicate m p ++ more)) < 2 ^ 64 = h.small in
      omega (arith, sum_by-cons (λ x. x) p (replicate m p ++ more));
})

small_run : (m p : ℕ) (more : List ℕ) → 0 < m → 0 < p → IsWritten (replicate m p ++ more) → Small m p more
small_run m p more hm hp h = record {
  part = omega (arith, factor_le p m hm, product, commuted m p);
  count = omega (arith, factor_le m p hp, product);
  more_written = behind_written m p more h;
}
  where
    product : m * p < 2 ^ 64
    product = let s : degree (replicate m p ++ more) < 2 ^ 64 = h.small in
        omega (arith, sum_by-append (λ x. x) (replicate m p) more, sum_by-replicate (λ x. x) m p)

    commuted : (m p : ℕ) → p * m ≡ m * p
    commuted m p = omega arith

run_text : (m p : ℕ) (rest : List ℕ) → 0 < m → Below p rest →
    partition_text (replicate m p ++ rest) ≡ part_text p m ++ later_text rest
run_text zero p rest hm h = absurd (omega arith)
run_text (suc m) p rest hm h = text-run m p rest h

-- ---- the items of a text

items_text : (n : ℕ) (parts : List ℕ) → length parts ≤ n → 0 < length parts → IsWritten parts →
    items_of (cut 44 (partition_text parts)) ≡ Some parts
items_text zero parts le some h = absurd (omega arith)
items_text (suc n) [] le some h = absurd (omega arith)
items_text (suc n) (p ∷ parts) le some h =
    subst (λ xs. items_of (cut 44 (partition_text xs)) ≡ Some xs) (sym split.list)
    (behind (items_text n) (drop count (p ∷ parts)) refl)
  where
    count : ℕ
    count = lead (p ∷ parts)

    split : Splits p count (p ∷ parts)
    split = splits p (p ∷ parts) h.partition (omega arith)

    positive : 0 < count
    positive = omega (arith, lead_some p parts)

    some_part : 0 < p
    some_part = IsPartition-head p parts h.partition

    small : Small count p (drop count (p ∷ parts))
    small = small_run count p (drop count (p ∷ parts)) positive some_part (subst IsWritten split.list h)

    item : item_of (cut 94 (part_text p count)) ≡ Some (replicate count p)
    item = item_text p count some_part small.part positive small.count

    free : Free 44 (part_text p count)
    free = item_free p count some_part small.part positive small.count

    behind : ((ps : List ℕ) → length ps ≤ n → 0 < length ps → IsWritten ps →
        items_of (cut 44 (partition_text ps)) ≡ Some ps) →
        (rest : List ℕ) → drop count (p ∷ parts) ≡ rest →
        items_of (cut 44 (partition_text (replicate count p ++ rest))) ≡ Some (replicate count p ++ rest)
    behind shorter [] e =
        ap (λ t. items_of (cut 44 t)) (run_text count p [] positive tt ∙ append-nil (part_text p count))
        ∙ ap items_of (cut_free 44 (part_text p count) free)
        ∙ ap (option_and_then (λ run. onto run (Some []))) item
    behind shorter (q ∷ qs) e =
        let below : Below p (q ∷ qs) = subst (Below p) e split.below in
        let fewer : length (q ∷ qs) ≤ n = omega (arith, ap length (sym e), length-drop count (p ∷ parts), positive) in
        ap (λ t. items_of (cut 44 t)) (run_text count p (q ∷ qs) positive below)
        ∙ ap items_of (cut_mark 44 (part_text p count) (partition_text (q ∷ qs)) free)
        ∙ ap (option_and_then (λ run. onto run (items_of (cut 44 (partition_text (q ∷ qs)))))) item
        ∙ ap (onto (replicate count p)) (shorter (q ∷ qs) fewer (omega arith) (subst IsWritten e small.more_written))

-- ---- such a text begins with a digit

number_before : (text behind : List ℕ) (n : ℕ) → IsNumber text n → 48 ≤ slice_index (text ++ behind) 0
number_before [] behind n h = absurd (let some = h.digits.0 in omega arith)
number_before (d ∷ ds) behind n h = (digit_from_value d h.digits.1.0).0

text_first : (p : ℕ) (parts : List ℕ) → IsWritten (p ∷ parts) → 48 ≤ slice_index (partition_text (p ∷ parts)) 0
text_first p parts h =
    subst (λ xs. 48 ≤ slice_index (partition_text xs) 0) (sym split.list)
    (subst (λ t. 48 ≤ slice_index t 0) (sym (run_text count p rest positive split.below
    ∙ append_assoc (decimal p) (cond (nat_lt 1 count) (codes "^" ++ decimal count) []) (later_text rest)))
    (number_before (decimal p) (cond (nat_lt 1 count) (codes "^" ++ decimal count) [] ++ later_text rest) p
    (number_text p some_part small.part)))
  where
    count : ℕ
    count = lead (p ∷ parts)

    rest : List ℕ
    rest = drop count (p ∷ parts)

    split : Splits p count (p ∷ parts)
    split = splits p (p ∷ parts) h.partition (omega arith)

    positive : 0 < count
    positive = omega (arith, lead_some p parts)

    some_part : 0 < p
    some_part = IsPartition-head p parts h.partition

    small : Small count p rest
    small = small_run count p rest positive some_part (subst IsWritten split.list h)

digit_no_dash : (text : List ℕ) → 48 ≤ slice_index text 0 → text ≡ codes "-" → ⊥
digit_no_dash text h e = let is : slice_index text 0 ≡ 45 = ap (λ xs. slice_index xs 0) e in omega arith

-- 40 is the `(`.
inner_whole : (text : List ℕ) → 48 ≤ slice_index text 0 → inner text ≡ text
inner_whole [] h = absurd (omega arith)
inner_whole (c ∷ text) h =
    cond-false (starts_with nat_eq (c ∷ text) (codes "(") && ends_with nat_eq (c ∷ text) (codes ")"))
    (slice_range (c ∷ text) 1 (length (c ∷ text) - 1)) (c ∷ text)
    (and_left (starts_with nat_eq (c ∷ text) (codes "(")) (ends_with nat_eq (c ∷ text) (codes ")"))
    (and_left (nat_eq 40 c) (pointwise nat_eq [] (take 0 text)) (ne_eqb 40 c (λ e. omega arith))))

-- ---- what a text is read as

-- A dash is read as the empty partition.
pub dash_read : (text : List ℕ) → text ≡ codes "-" → partition_of text ≡ Some []
unfolding partition_of
dash_read text e = subst (λ t. partition_of t ≡ Some []) (sym e) refl

-- Any other text is read as a list.
pub list_read : (text : List ℕ) → (text ≡ codes "-" → ⊥) → partition_of text ≡ list_of (inner text)
unfolding partition_of
list_read text n = cond-false (pointwise nat_eq text (codes "-")) (Some []) (list_of (inner text))
    (false_from_ne_true (pointwise nat_eq text (codes "-")) (λ t. n (equal_lists text (codes "-") t)))

-- The items of the canonical text are the parts.
pub reads_text : (parts : List ℕ) → IsPartition parts → degree parts < 2 ^ 64 →
    partition_of (partition_text parts) ≡ Some parts
unfolding partition_text
reads_text [] h small = dash_read (codes "-") refl
reads_text (p ∷ parts) h small =
    list_read (partition_text (p ∷ parts)) (digit_no_dash (partition_text (p ∷ parts)) first)
    ∙ ap list_of (inner_whole (partition_text (p ∷ parts)) first)
    ∙ ap (option_and_then (λ ps. cond (falls ps) (Some ps) None))
    (items_text (length (p ∷ parts)) (p ∷ parts) (omega arith) (omega arith) written)
    ∙ cond-true (falls (p ∷ parts)) (Some (p ∷ parts)) None (falls_partition (p ∷ parts) h)
  where
    written : IsWritten (p ∷ parts)
    written = record { partition = h; small = small }

    first : 48 ≤ slice_index (partition_text (p ∷ parts)) 0
    first = text_first p parts written

-- ---- as the contract says it

-- The canonical text is read as its partition.
pub printed : (text parts : List ℕ) → IsPartition parts → degree parts < 2 ^ 64 → text ≡ partition_text parts →
    partition_of text ≡ Some parts
printed text parts h small e = ap partition_of e ∙ reads_text parts h small

-- So the answer is the partition, where there is room for it.
pub canonical : (text parts : List ℕ) (r : Result (List ℕ) NotPartition) → r ≡ parsed (partition_of text) →
    IsHeld parts → text ≡ partition_text parts → r ≡ Ok parts
canonical text parts r is h e =
    is ∙ ap parsed (printed text parts h.partition (let s : degree parts ≤ CAPACITY = h.small in omega arith) e)
    ∙ cond-true (nat_le (degree parts) CAPACITY) (Ok parts) (Err PastCapacity) (le-leb (degree parts) CAPACITY h.small)
