-- The walk down the numbers for a core and a quotient.
use Rattle.std.proofs.Common.{◌≡◌, ℕ, suc, ◌+◌, ◌-◌, ◌*◌, ◌/◌, ◌%◌, ◌<◌, ◌≤◌, Bool, true, false, cond}
use Rattle.std.proofs.Common.{List, [], ◌∷◌, ◌++◌, filter, length, slice_index, sum_by, sym, ◌∙◌, ap, ap₂, subst}
use Rattle.std.proofs.Common.{arith}
use Rattle.std.proofs.Common.{append_assoc, append-nil, length-append}
use Rattle.std.specs.Prelude.{slice_index_or}
use Rattle.std.specs.List.{AllByRecursion}
use Rattle.std.proofs.lemmas.List.Elements.{filter_agree}
use native.Mathlib.Nat.{mod-lt}
use Rattle.sp_defs.specs.Partition.{degree, IsPartition}
use Rattle.sp_defs.specs.Abacus.{beads, runner}
use Rattle.sp_lists.proofs.Places.{all_weaken}
use Rattle.sp_partition.specs.Held.{IsHeld}
use Rattle.sp_abacus.specs.Fit.{Fit}
use Rattle.sp_abacus_law.specs.Beads.{down, numbers, Falls}
use Rattle.sp_abacus_law.specs.Combined.{beads_for, combined_beads, combined, member}
use Rattle.sp_abacus_law.proofs.CoreQuotient.{set_total, set_falls}
use Rattle.sp_abacus_law.proofs.Placing.{beads-small, beads_for-few, degree-combined}

-- A bead is placed at this number.
abbrev pub taken : ℕ → List ℕ → List (List ℕ) → ℕ → Bool
taken e heights q b = member (b / e) (numbers (slice_index_or q (b % e) []) (slice_index heights (b % e)))

-- The numbers below n at which a bead is placed.
abbrev pub taken_below : ℕ → List ℕ → List (List ℕ) → ℕ → List ℕ
taken_below e heights q n = filter (λ b. taken e heights q b) (down n)

-- ---- what a core and a quotient that fit say

-- Partitions that are held are partitions.
pub all_partitions : (q : List (List ℕ)) → AllByRecursion IsHeld q → AllByRecursion IsPartition q
all_partitions q h = all_weaken IsHeld IsPartition q (λ p k. k.partition) h

-- There are at most 64 beads,
pub count_few : (e : ℕ) (kappa : List ℕ) (q : List (List ℕ)) → Fit e kappa q → beads_for e kappa q ≤ 64
count_few e kappa q f =
    beads_for-few e kappa q (omega (arith, f.e_least)) f.e_most f.kappa_held.partition (all_partitions q f.held) f.small

-- The beads as the code counts them.
pub counted_few : (e : ℕ) (kappa : List ℕ) (q : List (List ℕ)) (own rows : ℕ) → Fit e kappa q →
    own ≡ beads e kappa → rows ≡ sum_by length q → own + rows * e ≤ 64
counted_few e kappa q own rows f is rows_are =
    subst (λ n. n ≤ 64) (sym (ap₂ (λ m n. m + n * e) is rows_are)) (count_few e kappa q f)

-- and at most 64 are placed.
pub set_few : (e : ℕ) (kappa : List ℕ) (q : List (List ℕ)) → Fit e kappa q → length (combined_beads e kappa q) ≤ 64
set_few e kappa q f =
    omega (
      arith,
      count_few e kappa q f,
      set_total e (omega (arith, f.e_least)) kappa q f.kappa_held.partition f.count (all_partitions q f.held),
    )

-- The partition that they show is within 32.
pub combined_small : (e : ℕ) (kappa : List ℕ) (q : List (List ℕ)) → Fit e kappa q → degree (combined e kappa q) ≤ 32
combined_small e kappa q f =
    omega (
      arith,
      f.small,
      degree-combined e kappa q (omega (arith, f.e_least)) f.kappa_held.partition f.count
          (all_partitions q f.held) f.own,
    )

-- The numbers placed fall.
pub set_falling : (e : ℕ) (kappa : List ℕ) (q : List (List ℕ)) → Fit e kappa q → Falls (combined_beads e kappa q)
set_falling e kappa q f =
    set_falls e (omega (arith, f.e_least)) kappa q f.kappa_held.partition f.count (all_partitions q f.held)

-- ---- the walk

-- The numbers below 96 are all.
pub taken_all : (e : ℕ) (kappa heights nums : List ℕ) (q : List (List ℕ)) → Fit e kappa q →
    nums ≡ numbers kappa (beads_for e kappa q) →
    ((i : ℕ) → i < 64 → slice_index heights i ≡ length (runner e nums i)) →
    taken_below e heights q 96 ≡ combined_beads e kappa q
taken_all e kappa heights nums q f nums_are is =
    filter_agree (taken e heights q)
    (λ b. member (b / e) (numbers (slice_index_or q (b % e) [])
    (length (runner e (numbers kappa (beads_for e kappa q)) (b % e)))))
    (λ b. ap (λ n. member (b / e) (numbers (slice_index_or q (b % e) []) n))
    (is (b % e) (omega (arith, f.e_most, mod-lt b least)) ∙ ap (λ bs. length (runner e bs (b % e))) nums_are))
    (down 96)
    ∙ beads-small e kappa q least f.e_most f.kappa_held.partition f.count (all_partitions q f.held) f.own f.small
  where
    least : 1 ≤ e
    least = omega (arith, f.e_least)

taken_next : (e n : ℕ) (heights : List ℕ) (q : List (List ℕ)) (v : Bool) → 1 ≤ n → taken e heights q (n - 1) ≡ v →
    taken_below e heights q n
    ≡ cond v ((n - 1) ∷ taken_below e heights q (n - 1)) (taken_below e heights q (n - 1))
taken_next e n heights q v least t =
    ap (taken_below e heights q) (back least)
    ∙ ap (λ w. cond w ((n - 1) ∷ taken_below e heights q (n - 1)) (taken_below e heights q (n - 1))) t
  where
    back : 1 ≤ n → n ≡ suc (n - 1)
    back k = omega arith

-- A number at which a bead is placed.
pub taken_yes : (e n : ℕ) (heights found whole : List ℕ) (q : List (List ℕ)) → 1 ≤ n →
    taken e heights q (n - 1) ≡ true → found ++ taken_below e heights q n ≡ whole →
    (found ++ (n - 1) ∷ []) ++ taken_below e heights q (n - 1) ≡ whole
taken_yes e n heights found whole q least t is =
    append_assoc found ((n - 1) ∷ []) (taken_below e heights q (n - 1))
    ∙ ap (λ r. found ++ r) (sym (taken_next e n heights q true least t))
    ∙ is

-- A number at which none is.
pub taken_no : (e n : ℕ) (heights found whole : List ℕ) (q : List (List ℕ)) → 1 ≤ n →
    taken e heights q (n - 1) ≡ false → found ++ taken_below e heights q n ≡ whole →
    found ++ taken_below e heights q (n - 1) ≡ whole
taken_no e n heights found whole q least t is =
    ap (λ r. found ++ r) (sym (taken_next e n heights q false least t)) ∙ is

-- Where one is placed there is room.
pub taken_room : (e n : ℕ) (heights found whole : List ℕ) (q : List (List ℕ)) → 1 ≤ n →
    taken e heights q (n - 1) ≡ true → length whole ≤ 64 → found ++ taken_below e heights q n ≡ whole →
    length found < 64
taken_room e n heights found whole q least t few is =
    settle (length-append found (taken_below e heights q n)) (ap length is)
    (ap length (taken_next e n heights q true least t))
  where
    settle : length (found ++ taken_below e heights q n) ≡ length found + length (taken_below e heights q n) →
        length (found ++ taken_below e heights q n) ≡ length whole →
        length (taken_below e heights q n) ≡ suc (length (taken_below e heights q (n - 1))) → length found < 64
    settle p r s = omega arith

-- At the end all have been placed.
pub taken_done : (e n : ℕ) (heights found whole : List ℕ) (q : List (List ℕ)) → n ≤ 0 →
    found ++ taken_below e heights q n ≡ whole → found ≡ whole
taken_done e n heights found whole q none is =
    sym (append-nil found) ∙ ap (λ m. found ++ taken_below e heights q m) (sym (zero_is none)) ∙ is
  where
    zero_is : n ≤ 0 → n ≡ 0
    zero_is k = omega arith
