-- A partition's text, run by run.
use Rattle.std.proofs.Common.{◌≡◌, ◌≢◌, ℕ, zero, suc, ◌+◌, ◌<◌, ◌≤◌, Bool, true, false, cond, not, nat_eq, List, []}
use Rattle.std.proofs.Common.{◌∷◌, ◌++◌, map, filter, count_by, length, drop, replicate, slice_index, codes, refl}
use Rattle.std.proofs.Common.{sym, ◌∙◌, ap, ap₂, subst, arith, eq-eqb, ne_eqb, eqb-true, append_assoc, append-nil}
use Rattle.std.proofs.Common.{zero-add}
use Rattle.std.specs.List.{AllByRecursion, prefix_len}
use Rattle.std.proofs.lemmas.Bool.{eqb-false}
use Rattle.std.proofs.lemmas.List.Sums.{sum_by-cons}
use Rattle.sp_defs.specs.Partition.{degree, IsPartition}
use Rattle.sp_defs.specs.Text.{joined_by, distinct, part_text, partition_text}
use Rattle.sp_lists.proofs.Places.{all_weaken}
use Rattle.sp_lists.proofs.Maps.{map-alike}
use Rattle.sp_shapes.proofs.Diagram.{IsPartition-tail}
use Rattle.sp_partition.specs.Held.{IsHeld}
use Rattle.sp_partition.specs.Runs.{lead}
use Rattle.sp_partition.specs.declared.TheConstants.{CAPACITY}

-- Each part is less than p.
abbrev pub Below : ℕ → List ℕ → Type 0
Below p parts = AllByRecursion (λ q. q < p) parts

-- n parts p, and then lesser ones
abbrev pub run_on : ℕ → ℕ → List ℕ → List ℕ
run_on n p rest = replicate n p ++ rest

-- ---- distinct parts

other : ℕ → ℕ → Bool
other p q = not (nat_eq q p)

keep_below : (p : ℕ) (xs : List ℕ) → Below p xs → filter (λ q. not (nat_eq q p)) xs ≡ xs
keep_below p [] h = refl
keep_below p (x ∷ xs) (h, hs) =
    ap (λ b. cond (not b) (x ∷ filter (λ q. not (nat_eq q p)) xs) (filter (λ q. not (nat_eq q p)) xs))
    (ne_eqb x p (λ e. omega arith))
    ∙ ap (λ ys. x ∷ ys) (keep_below p xs hs)

below_filter : (p : ℕ) (t : ℕ → Bool) (xs : List ℕ) → Below p xs → Below p (filter t xs)
below_filter p t [] h = tt
below_filter p t (x ∷ xs) (h, hs) = elim (t x) as (λ b. Below p (cond b (x ∷ filter t xs) (filter t xs))) [
  | true ↦ (h, below_filter p t xs hs)
  | false ↦ below_filter p t xs hs
]

below_distinct : (p : ℕ) (xs : List ℕ) → Below p xs → Below p (distinct xs)
below_distinct p [] h = tt
below_distinct p (x ∷ xs) (h, hs) = (h, below_filter p (λ q. not (nat_eq q x)) (distinct xs) (below_distinct p xs hs))

-- Of a run and smaller parts behind it the distinct parts are its part and theirs.
pub distinct-run : (n p : ℕ) (rest : List ℕ) → Below p rest → distinct (run_on (suc n) p rest) ≡ p ∷ distinct rest
distinct-run zero p rest h = ap (λ xs. p ∷ xs) (keep_below p (distinct rest) (below_distinct p rest h))
distinct-run (suc n) p rest h =
    ap (λ xs. p ∷ filter (λ q. not (nat_eq q p)) xs) (distinct-run n p rest h)
    ∙ ap (λ b. p ∷ cond (not b) (p ∷ filter (λ q. not (nat_eq q p)) (distinct rest))
    (filter (λ q. not (nat_eq q p)) (distinct rest))) (eq-eqb p p refl)
    ∙ ap (λ xs. p ∷ xs) (keep_below p (distinct rest) (below_distinct p rest h))

-- ---- how often a part occurs

count-run_other : (n p q : ℕ) (rest : List ℕ) → q < p → count_by (nat_eq q) (run_on n p rest) ≡ count_by (nat_eq q) rest
count-run_other zero p q rest lt = refl
count-run_other (suc n) p q rest lt =
    sum_by-cons (λ x. cond (nat_eq q x) 1 0) p (run_on n p rest)
    ∙ ap (λ b. cond b 1 0 + count_by (nat_eq q) (run_on n p rest)) (ne_eqb q p (λ e. omega arith))
    ∙ zero-add (count_by (nat_eq q) (run_on n p rest)) ∙ count-run_other n p q rest lt

count_none : (p : ℕ) (xs : List ℕ) → Below p xs → count_by (nat_eq p) xs ≡ 0
count_none p [] h = refl
count_none p (x ∷ xs) (h, hs) =
    sum_by-cons (λ x. cond (nat_eq p x) 1 0) x xs
    ∙ ap (λ b. cond b 1 0 + count_by (nat_eq p) xs) (ne_eqb p x (λ e. omega arith))
    ∙ zero-add (count_by (nat_eq p) xs) ∙ count_none p xs hs

count-run : (n p : ℕ) (rest : List ℕ) → Below p rest → count_by (nat_eq p) (run_on n p rest) ≡ n
count-run zero p rest h = count_none p rest h
count-run (suc n) p rest h =
    sum_by-cons (λ x. cond (nat_eq p x) 1 0) p (run_on n p rest)
    ∙ ap₂ (λ b m. cond b 1 0 + m) (eq-eqb p p refl) (count-run n p rest h)
    ∙ more n
  where
    more : (n : ℕ) → 1 + n ≡ suc n
    more n = omega arith

-- ---- the text

-- What stands behind a run.
abbrev pub later_text : List ℕ → List ℕ
later_text [] = []
later_text (p ∷ parts) = codes "," ++ partition_text (p ∷ parts)

-- The text of a run and smaller parts behind it.
pub text-run : (n p : ℕ) (rest : List ℕ) → Below p rest →
    partition_text (run_on (suc n) p rest) ≡ part_text p (suc n) ++ later_text rest
unfolding partition_text
text-run n p rest h =
    ap (λ ps. joined_by (codes ",") (map whole ps)) (distinct-run n p rest h)
    ∙ ap₂ (λ m texts. joined_by (codes ",") (part_text p m ∷ texts)) (count-run (suc n) p rest h) same_texts
    ∙ joined rest
  where
    whole : ℕ → List ℕ
    whole q = part_text q (count_by (nat_eq q) (run_on (suc n) p rest))

    of : List ℕ → ℕ → List ℕ
    of xs q = part_text q (count_by (nat_eq q) xs)

    same_texts : map whole (distinct rest) ≡ map (λ q. part_text q (count_by (nat_eq q) rest)) (distinct rest)
    same_texts = map-alike whole (λ q. part_text q (count_by (nat_eq q) rest)) (distinct rest)
        (all_weaken (λ q. q < p) (λ q. whole q ≡ part_text q (count_by (nat_eq q) rest)) (distinct rest)
        (λ q lt. ap (part_text q) (count-run_other (suc n) p q rest lt)) (below_distinct p rest h))

    joined : (rest : List ℕ) →
        joined_by (codes ",") (part_text p (suc n) ∷ map (λ q. part_text q (count_by (nat_eq q) rest)) (distinct rest))
        ≡ part_text p (suc n) ++ later_text rest
    joined [] = sym (append-nil (part_text p (suc n)))
    joined (q ∷ qs) = append_assoc (part_text p (suc n)) (codes ",") (partition_text (q ∷ qs))

-- ---- the first run of a partition

-- The parts of a partition are below one that is greater than the first.
pub below_all : (p x : ℕ) (xs : List ℕ) → IsPartition (x ∷ xs) → x < p → Below p (x ∷ xs)
below_all p x [] h lt = (lt, tt)
below_all p x (y ∷ ys) h lt =
    let le : y ≤ x = h.descending 0 in (lt, below_all p y ys (IsPartition-tail x (y ∷ ys) h) (omega arith))

-- Without some parts in front there is room for what is left.
pub drop_held : (n : ℕ) (parts : List ℕ) → IsHeld parts → IsHeld (drop n parts)
drop_held zero parts h = h
drop_held (suc n) [] h = h
drop_held (suc n) (p ∷ parts) h = drop_held n parts (record {
  partition = IsPartition-tail p parts h.partition;
  small = let most : degree (p ∷ parts) ≤ CAPACITY = h.small in omega (arith, sum_by-cons (λ x. x) p parts);
})

-- A list is as many parts p as stand at its front, and then lesser ones.
pub record Splits (p n : ℕ) (parts : List ℕ) : Type 0 where
  pub list : parts ≡ run_on n p (drop n parts)
  pub below : Below p (drop n parts)

-- The run at the front, and the parts behind it.
pub splits : (p : ℕ) (parts : List ℕ) → IsPartition parts → slice_index parts 0 ≤ p →
    Splits p (prefix_len (λ q. nat_eq q p) parts) parts
splits p [] h le = record { list = refl; below = tt }
splits p (x ∷ xs) h le =
    elim (nat_eq x p) as (λ b. nat_eq x p ≡ b → Splits p (cond b (1 + prefix_len (λ q. nat_eq q p) xs) 0) (x ∷ xs)) [
      | true ↦ λ e.
          let same : x ≡ p = eqb-true x p e in
          let low : slice_index xs 0 ≤ x = h.descending 0 in
          subst (λ n. Splits p n (x ∷ xs)) (one (prefix_len (λ q. nat_eq q p) xs))
          (more same (splits p xs (IsPartition-tail x xs h) (omega arith)))
      | false ↦ λ e.
          let apart : x ≢ p = eqb-false x p e in
          record { list = refl; below = below_all p x xs h (omega arith) }
    ] refl
  where
    one : (n : ℕ) → suc n ≡ 1 + n
    one n = omega arith

    more : {n : ℕ} → x ≡ p → Splits p n xs → Splits p (suc n) (x ∷ xs)
    more e inner = record { list = ap₂ (λ y ys. y ∷ ys) e inner.list; below = inner.below }

-- The run at the front of a list of parts, and what is left of it.
pub record FirstRun (parts : List ℕ) : Type 0 where
  pub text : partition_text parts ≡ part_text (slice_index parts 0) (lead parts) ++ later_text (drop (lead parts) parts)
  pub rest : IsHeld (drop (lead parts) parts)

-- The first part is in the run at the front.
pub lead_some : (p : ℕ) (parts : List ℕ) → lead (p ∷ parts) ≡ suc (prefix_len (λ q. nat_eq q p) parts)
lead_some p parts = ap (λ b. cond b (1 + n) 0) (eq-eqb p p refl) ∙ one
  where
    n : ℕ
    n = prefix_len (λ q. nat_eq q p) parts

    one : 1 + n ≡ suc n
    one = omega arith

-- A partition that has parts has a run at its front.
pub first_run : (parts : List ℕ) → IsHeld parts → 0 < length parts → FirstRun parts
first_run [] h some = absurd (omega arith)
first_run (p ∷ parts) h some = record {
  text = ap partition_text split.list
      ∙ some_run (prefix_len (λ q. nat_eq q p) parts) (lead (p ∷ parts)) (drop (lead (p ∷ parts)) (p ∷ parts))
      (lead_some p parts) split.below;
  rest = drop_held (lead (p ∷ parts)) (p ∷ parts) h;
}
  where
    split : Splits p (lead (p ∷ parts)) (p ∷ parts)
    split = splits p (p ∷ parts) h.partition (omega arith)

    some_run : (m n : ℕ) (rest : List ℕ) → n ≡ suc m → Below p rest →
        partition_text (run_on n p rest) ≡ part_text p n ++ later_text rest
    some_run m n rest e below =
        subst (λ k. partition_text (run_on k p rest) ≡ part_text p k ++ later_text rest) (sym e)
        (text-run m p rest below)

-- ---- what is written

-- The first run behind a list, and what is left then.
pub written_first : (old now parts : List ℕ) → IsHeld parts → 0 < length parts →
    now ≡ old ++ part_text (slice_index parts 0) (lead parts) →
    now ++ later_text (drop (lead parts) parts) ≡ old ++ partition_text parts
written_first old now parts h some e =
    ap (λ xs. xs ++ later_text (drop (lead parts) parts)) e
    ∙ append_assoc old (part_text (slice_index parts 0) (lead parts)) (later_text (drop (lead parts) parts))
    ∙ ap (λ xs. old ++ xs) (sym (first_run parts h some).text)

-- A comma and the next run.
pub written_next : (old comma now parts : List ℕ) → IsHeld parts → 0 < length parts → comma ≡ old ++ codes "," →
    now ≡ comma ++ part_text (slice_index parts 0) (lead parts) →
    now ++ later_text (drop (lead parts) parts) ≡ old ++ later_text parts
written_next old comma now [] h some e f = absurd (omega arith)
written_next old comma now (p ∷ parts) h some e f =
    written_first comma now (p ∷ parts) h some f ∙ ap (λ xs. xs ++ partition_text (p ∷ parts)) e
    ∙ append_assoc old (codes ",") (partition_text (p ∷ parts))
