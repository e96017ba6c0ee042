-- The loops over beads: what they have found so far.
use Rattle.std.proofs.Common.{◌≡◌, ℕ, suc, ◌+◌, ◌-◌, ◌/◌, ◌%◌, ◌<◌, ◌≤◌, Bool, true, false, cond, nat_eq}
use Rattle.std.proofs.Common.{nat_lt, List, [], ◌∷◌, ◌++◌, map, filter, length, slice_index, slice_set}
use Rattle.std.proofs.Common.{replicate, refl, sym, ◌∙◌, ap, ap₂, inl, inr, arith, get_or-set_same}
use Rattle.std.proofs.Common.{get_or-set_other, length-set, append-nil, length-append}
use Rattle.std.proofs.Common.{◌≢◌}
use Rattle.std.proofs.lemmas.Bool.{cases_eq}
use Rattle.std.proofs.lemmas.Bool.Decides.{nat_tests}
use Rattle.std.proofs.lemmas.List.{map-append, get_or-replicate}
use Rattle.std.proofs.lemmas.List.Elements.{filter-append}
use Rattle.std.specs.List.{range_with_len}
use Rattle.std.proofs.lemmas.List.FromFn.{map-range_with_len_more}
use Rattle.sp_defs.specs.Partition.{part}
use Rattle.sp_defs.specs.Abacus.{runner}
use Rattle.std.proofs.Common.{lt-ltb, le-ltb}
use Rattle.std.proofs.lemmas.List.Elements.{filter_agree}
use native.Mathlib.Nat.{mod-lt}
use Rattle.std.proofs.Common.{append_assoc}
use Rattle.sp_defs.specs.Abacus.{beta, slid}
use Rattle.sp_partition.specs.Held.{IsHeld}
use Rattle.sp_abacus_law.specs.Beads.{down, numbers}
use Rattle.sp_abacus_law.proofs.Numbers.{rows-numbers}
use Rattle.sp_abacus_law.proofs.Weight.{runner-short}
use Rattle.sp_abacus_law.proofs.Bounds.{slid-small}

-- ---- one bead more

-- One bead more at the end.
pub runner-snoc : (e b : ℕ) (bs : List ℕ) (i : ℕ) →
    runner e (bs ++ b ∷ []) i ≡ runner e bs i ++ cond (nat_eq (b % e) i) ((b / e) ∷ []) []
runner-snoc e b bs i =
    ap (map (λ b. b / e)) (filter-append (λ b. nat_eq (b % e) i) bs (b ∷ []))
    ∙ map-append (λ b. b / e) (filter (λ b. nat_eq (b % e) i) bs) (filter (λ b. nat_eq (b % e) i) (b ∷ []))
    ∙ ap (λ r. runner e bs i ++ r) (last (nat_eq (b % e) i))
  where
    last : (v : Bool) → map (λ b. b / e) (cond v (b ∷ []) []) ≡ cond v ((b / e) ∷ []) []
    last true = refl
    last false = refl

-- ---- the heights

-- The counts are those of the numbers seen so far.
pub record Counted (e : ℕ) (counts seen : List ℕ) : Type 0 where
  pub room : length counts ≡ 64
  pub is : (i : ℕ) → i < 64 → slice_index counts i ≡ length (runner e seen i)

-- No beads have been counted.
pub counted_none : (e : ℕ) → Counted e (replicate 64 0) []
counted_none e = record { room = refl; is = λ i below. get_or-replicate 64 i 0 0 below }

one_more : (e b : ℕ) (seen : List ℕ) (i : ℕ) →
    length (runner e (seen ++ b ∷ []) i) ≡ length (runner e seen i) + cond (nat_eq (b % e) i) 1 0
one_more e b seen i =
    ap length (runner-snoc e b seen i)
    ∙ length-append (runner e seen i) (cond (nat_eq (b % e) i) ((b / e) ∷ []) [])
    ∙ ap (λ n. length (runner e seen i) + n) (last (nat_eq (b % e) i))
  where
    last : (v : Bool) → length {A = ℕ} (cond v ((b / e) ∷ []) []) ≡ cond v 1 0
    last true = refl
    last false = refl

-- One bead more has been counted.
pub counted_more : (e b : ℕ) (counts seen : List ℕ) → b % e < 64 → Counted e counts seen →
    Counted e (slice_set counts (b % e) (slice_index counts (b % e) + 1)) (seen ++ b ∷ [])
counted_more e b counts seen lt h = record {
  room = length-set counts (b % e) (slice_index counts (b % e) + 1) ∙ h.room;
  is = λ i below. elim (cases_eq i (b % e)) [
    | inl same ↦
        let yes : nat_eq (b % e) i ≡ true = grind (arith, nat_tests) in
        let here : b % e < length counts = omega (arith, h.room) in
        ap (slice_index (slice_set counts (b % e) (slice_index counts (b % e) + 1))) same
        ∙ get_or-set_same counts (b % e) (slice_index counts (b % e) + 1) 0 here
        ∙ ap (λ n. slice_index counts n + 1) (sym same)
        ∙ ap (λ n. n + 1) (h.is i below)
        ∙ sym (one_more e b seen i ∙ ap (λ v. length (runner e seen i) + cond v 1 0) yes)
    | inr other ↦
        let no : nat_eq (b % e) i ≡ false = grind (arith, nat_tests) in
        get_or-set_other counts (b % e) i (slice_index counts (b % e) + 1) 0 other
        ∙ h.is i below
        ∙ plain (length (runner e seen i))
        ∙ sym (one_more e b seen i ∙ ap (λ v. length (runner e seen i) + cond v 1 0) no)
  ];
}
  where
    plain : (n : ℕ) → n ≡ n + 0
    plain n = omega arith

-- ---- one runner

-- The places found so far on runner i, among the beads seen.
pub record Found (e i : ℕ) (places seen : List ℕ) : Type 0 where
  pub is : places ≡ runner e seen i
  pub few : length places ≤ length seen

-- A bead on the runner.
pub found_yes : (e i b : ℕ) (places seen : List ℕ) → b % e ≡ i → Found e i places seen →
    Found e i (places ++ (b / e) ∷ []) (seen ++ b ∷ [])
found_yes e i b places seen on h = record {
  is =
      let yes : nat_eq (b % e) i ≡ true = grind (arith, nat_tests) in
      ap (λ xs. xs ++ (b / e) ∷ []) h.is
      ∙ sym (runner-snoc e b seen i ∙ ap (λ v. runner e seen i ++ cond v ((b / e) ∷ []) []) yes);
  few = omega (arith, h.few, length-append places ((b / e) ∷ []), length-append seen (b ∷ []));
}

-- A bead on another runner.
pub found_no : (e i b : ℕ) (places seen : List ℕ) → b % e ≢ i → Found e i places seen →
    Found e i places (seen ++ b ∷ [])
found_no e i b places seen off h = record {
  is =
      let no : nat_eq (b % e) i ≡ false = grind (arith, nat_tests) in
      h.is
      ∙ sym (append-nil (runner e seen i))
      ∙ sym (runner-snoc e b seen i ∙ ap (λ v. runner e seen i ++ cond v ((b / e) ∷ []) []) no);
  few = omega (arith, h.few, length-append seen (b ∷ []));
}

-- A count stays within the number of beads.
pub counted_small : (e : ℕ) (counts seen : List ℕ) (i n : ℕ) → i < 64 → length seen ≤ n → Counted e counts seen →
    slice_index counts i ≤ n
counted_small e counts seen i n below few h = omega (arith, h.is i below, runner-short e seen i)

-- ---- the beads slid down

-- The numbers below n whose place is below the height in a table.
abbrev pub below_heights : ℕ → List ℕ → ℕ → List ℕ
below_heights e heights n = filter (λ b. nat_lt (b / e) (slice_index heights (b % e))) (down n)

-- The numbers below the heights are the beads slid down.
pub below_heights-all : (e : ℕ) (parts heights : List ℕ) → 2 ≤ e → e ≤ 64 → IsHeld parts →
    length (beta e parts) ≤ 64 → ((i : ℕ) → i < 64 → slice_index heights i ≡ length (runner e (beta e parts) i)) →
    below_heights e heights 96 ≡ slid e parts
below_heights-all e parts heights he most h few is =
    filter_agree (λ b. nat_lt (b / e) (slice_index heights (b % e)))
    (λ b. nat_lt (b / e) (length (runner e (beta e parts) (b % e))))
    (λ b. ap (nat_lt (b / e)) (is (b % e) (omega (arith, mod-lt b (positive he))))) (down 96)
    ∙ sym (slid-small e parts (positive he) h.partition 96 (omega (arith, h.small)))
  where
    positive : 2 ≤ e → 1 ≤ e
    positive k = omega arith

-- A number whose place is below the height of its runner.
pub below_heights-yes : (e n : ℕ) (heights : List ℕ) → n / e < slice_index heights (n % e) →
    below_heights e heights (suc n) ≡ n ∷ below_heights e heights n
below_heights-yes e n heights lt =
    ap (λ v. cond v (n ∷ below_heights e heights n) (below_heights e heights n))
    (lt-ltb (n / e) (slice_index heights (n % e)) lt)

-- A number whose place is not.
pub below_heights-no : (e n : ℕ) (heights : List ℕ) → slice_index heights (n % e) ≤ n / e →
    below_heights e heights (suc n) ≡ below_heights e heights n
below_heights-no e n heights le =
    ap (λ v. cond v (n ∷ below_heights e heights n) (below_heights e heights n))
    (le-ltb (n / e) (slice_index heights (n % e)) le)

-- ---- the beta numbers

-- The number of one row more.
pub numbers_more : (parts : List ℕ) (k row x : ℕ) (before after : List ℕ) → 1 ≤ row → x ≡ part parts row →
    before ≡ map (λ a. part parts a + k - a) (range_with_len 1 (row - 1)) → after ≡ before ++ (x + k - row) ∷ [] →
    after ≡ map (λ a. part parts a + k - a) (range_with_len 1 (row + 1 - 1))
numbers_more parts k row x before after least is h more =
    more
    ∙ ap₂ (λ xs y. xs ++ (y + k - row) ∷ []) h is
    ∙ sym (map-range_with_len_more (λ a. part parts a + k - a) 1 (row - 1) row (omega arith))
    ∙ ap (λ n. map (λ a. part parts a + k - a) (range_with_len 1 n)) (next least)
  where
    next : 1 ≤ row → row - 1 + 1 ≡ row + 1 - 1
    next k = omega arith

-- The numbers of all rows.
pub numbers_done : (k row : ℕ) (parts items : List ℕ) → row - 1 ≡ k →
    items ≡ map (λ a. part parts a + k - a) (range_with_len 1 (row - 1)) → items ≡ numbers parts k
numbers_done k row parts items all is =
    is ∙ ap (λ n. map (λ a. part parts a + k - a) (range_with_len 1 n)) all ∙ rows-numbers parts k

-- ---- the walk down the numbers

-- Where a bead is found there is room.
pub slid_room : (e n : ℕ) (parts heights found : List ℕ) → 1 ≤ n → (n - 1) / e < slice_index heights ((n - 1) % e) →
    length (slid e parts) ≤ 64 → found ++ below_heights e heights n ≡ slid e parts → length found < 64
slid_room e n parts heights found least lt few is =
    settle (length-append found (below_heights e heights n)) (ap length is) (ap length last)
  where
    back : 1 ≤ n → n ≡ suc (n - 1)
    back k = omega arith

    last : below_heights e heights n ≡ (n - 1) ∷ below_heights e heights (n - 1)
    last = ap (below_heights e heights) (back least) ∙ below_heights-yes e (n - 1) heights lt

    settle : length (found ++ below_heights e heights n) ≡ length found + length (below_heights e heights n) →
        length (found ++ below_heights e heights n) ≡ length (slid e parts) →
        length (below_heights e heights n) ≡ suc (length (below_heights e heights (n - 1))) → length found < 64
    settle p q r = omega arith

-- A bead slid down to this number.
pub slid_yes : (e n : ℕ) (heights found whole : List ℕ) → 1 ≤ n → (n - 1) / e < slice_index heights ((n - 1) % e) →
    found ++ below_heights e heights n ≡ whole → (found ++ (n - 1) ∷ []) ++ below_heights e heights (n - 1) ≡ whole
slid_yes e n heights found whole least lt is =
    append_assoc found ((n - 1) ∷ []) (below_heights e heights (n - 1))
    ∙ ap (λ r. found ++ r) (sym (ap (below_heights e heights) (back least) ∙ below_heights-yes e (n - 1) heights lt))
    ∙ is
  where
    back : 1 ≤ n → n ≡ suc (n - 1)
    back k = omega arith

-- None.
pub slid_no : (e n : ℕ) (heights found whole : List ℕ) → 1 ≤ n → slice_index heights ((n - 1) % e) ≤ (n - 1) / e →
    found ++ below_heights e heights n ≡ whole → found ++ below_heights e heights (n - 1) ≡ whole
slid_no e n heights found whole least le is =
    ap (λ r. found ++ r) (sym (ap (below_heights e heights) (back least) ∙ below_heights-no e (n - 1) heights le)) ∙ is
  where
    back : 1 ≤ n → n ≡ suc (n - 1)
    back k = omega arith

-- At the end all have been found.
pub slid_done : (e n : ℕ) (heights found whole : List ℕ) → n ≤ 0 → found ++ below_heights e heights n ≡ whole →
    found ≡ whole
slid_done e n heights found whole none is =
    sym (append-nil found) ∙ ap (λ m. found ++ below_heights e heights m) (sym (zero_is none)) ∙ is
  where
    zero_is : n ≤ 0 → n ≡ 0
    zero_is k = omega arith
