-- Equal parts behind the others: the fields.
use Rattle.std.proofs.Common.{◌≡◌, ℕ, ◌+◌, ◌-◌, ◌*◌, ◌≤◌, List, ◌++◌, take, drop, length, replicate, sym, ◌∙◌, ap}
use Rattle.std.proofs.Common.{ap₂, subst, arith, append_assoc}
use borrow.Rule.Slice.PartMut.{put_mid}
use Rattle.std.proofs.lemmas.List.{drop-replicate}
use Rattle.std.proofs.lemmas.List.Sums.{sum_by-append}
use Rattle.std.proofs.lemmas.List.Folds.{sum_by-replicate}
use Rattle.std.proofs.lemmas.Grind.{common_steps}
use Rattle.sp_defs.specs.Partition.{degree, IsPartition}
use Rattle.sp_partition.specs.Held.{IsHeld}
use Rattle.sp_partition.specs.Padded.{IsPadded, padded}
use Rattle.sp_partition.specs.declared.TheConstants.{CAPACITY}
use Rattle.sp_partition.proofs.Holding.{Holds, fields_hold, few_parts, holds_padded, holds_view}

-- A run behind adds its parts to the degree.
pub degree-run : (parts : List ℕ) (part times : ℕ) →
    degree (parts ++ replicate times part) ≡ degree parts + times * part
degree-run parts part times =
    sum_by-append (λ x. x) parts (replicate times part)
    ∙ ap (λ n. degree parts + n) (sum_by-replicate (λ x. x) times part)

length-run : (parts : List ℕ) (part times : ℕ) → length (parts ++ replicate times part) ≡ length parts + times
length-run parts part times = grind (arith, common_steps)

length-middle : (m n : ℕ) (xs : List ℕ) → n + m ≤ length xs → length (take m (drop n xs)) ≡ m
length-middle m n xs h = grind (arith, common_steps)

-- What the fields are once so many parts more stand behind those that they showed.
pub record Extends (degree_is count : ℕ) (array now : List ℕ) (part times : ℕ) : Type 0 where
  pub small : degree now + times * part ≤ CAPACITY
  pub few : count + times ≤ CAPACITY
  pub padded : (size : ℕ) (written : List ℕ) → size ≡ times →
      written ≡ replicate (length (take size (drop count array))) part →
      IsPadded (degree_is + times * part) (count + times) (put_mid count size array written)
  pub shows : (size : ℕ) (written : List ℕ) → size ≡ times →
      written ≡ replicate (length (take size (drop count array))) part →
      take (count + times) (put_mid count size array written) ≡ now ++ replicate times part

written_array : (now : List ℕ) (part times : ℕ) →
    put_mid (length now) times (padded now) (replicate times part) ≡ padded (now ++ replicate times part)
written_array now part times =
    ap₂ (λ xs ys. xs ++ (replicate times part ++ drop times ys)) front back
    ∙ ap (λ ys. now ++ (replicate times part ++ ys)) (drop-replicate times (CAPACITY - length now) 0)
    ∙ sym (append_assoc now (replicate times part) (replicate (CAPACITY - length now - times) 0))
    ∙ ap (λ n. (now ++ replicate times part) ++ replicate n 0)
    (less (length now) times (length (now ++ replicate times part)) (length-run now part times))
  where
    front : take (length now) (padded now) ≡ now
    front = grind (arith, common_steps)

    back : drop (length now) (padded now) ≡ replicate (CAPACITY - length now) 0
    back = grind (arith, common_steps)

    less : (l t n : ℕ) → n ≡ l + t → CAPACITY - l - t ≡ CAPACITY - n
    less l t n e = omega arith

-- The fields once the run stands behind, where there is room.
pub extends : (degree_is count : ℕ) (array now : List ℕ) (part times : ℕ) → IsPadded degree_is count array →
    take count array ≡ now →
    degree_is + times * part ≤ CAPACITY →
    (degree now + times * part ≤ CAPACITY → IsPartition (now ++ replicate times part)) →
    Extends degree_is count array now part times
extends degree_is count array now part times is shows below h = record {
  small = small;
  few = few;
  padded = λ size written e f. holds_padded (now ++ replicate times part) _ _ _ held (holds size written e f);
  shows = λ size written e f. holds_view (now ++ replicate times part) _ _ _ (holds size written e f);
}
  where
    before : Holds now degree_is count array
    before = subst (λ xs. Holds xs degree_is count array) shows (fields_hold degree_is count array is)

    count_is : count ≡ length now
    count_is = before.count_is

    small : degree now + times * part ≤ CAPACITY
    small = let e : degree_is ≡ degree now = before.total in omega arith

    held : IsHeld (now ++ replicate times part)
    held = record { partition = h small; small = omega (arith, degree-run now part times, small) }

    few : count + times ≤ CAPACITY
    few = omega (arith, few_parts (now ++ replicate times part) held, length-run now part times, count_is)

    room : (size : ℕ) → size ≡ times → length (take size (drop count array)) ≡ times
    room size e = length-middle size count array
        (let long : length array ≡ CAPACITY = is.size in omega (arith, few, e)) ∙ e

    holds : (size : ℕ) (written : List ℕ) → size ≡ times →
        written ≡ replicate (length (take size (drop count array))) part →
        Holds (now ++ replicate times part) (degree_is + times * part) (count + times)
        (put_mid count size array written)
    holds size written e f = record {
      total = omega (arith, before.total, degree-run now part times);
      count_is = omega (arith, count_is, length-run now part times);
      array_is = ap₂ (λ c xs. put_mid c size xs written) count_is before.array_is
          ∙ ap₂ (λ n ys. put_mid (length now) n (padded now) ys) e (f ∙ ap (λ n. replicate n part) (room size e))
          ∙ written_array now part times;
    }
