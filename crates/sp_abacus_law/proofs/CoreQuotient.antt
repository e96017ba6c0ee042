-- A core and a quotient are those of one partition.
use Rattle.std.proofs.Common.{◌≡◌, ℕ, ◌+◌, ◌*◌, ◌<◌, ◌≤◌, List, [], length}
use Rattle.std.proofs.Common.{sum_by, sym, ◌∙◌, ap, ap₂, arith, mul-le-mul_left}
use Rattle.std.specs.Prelude.{slice_index_or}
use Rattle.std.specs.List.{AllByRecursion, range_with_len}
use Rattle.std.proofs.lemmas.List.Sums.{get_or-le-sum_by}
use Rattle.std.proofs.lemmas.List.FromFn.{fill_by_all, get_or-map-range_with_len, length-map-range_with_len}
use Rattle.sp_defs.specs.Partition.{degree, IsPartition}
use Rattle.sp_defs.specs.Abacus.{beta, shown, runner, slid, core, quotient}
use Rattle.sp_lists.proofs.Elements.{range_all, all_map, all_every}
use Rattle.sp_lists.proofs.Places.{all_weaken, all_at}
use Rattle.sp_abacus_law.specs.Beads.{numbers, Falls}
use Rattle.sp_abacus_law.specs.Combined.{beads_for, places_for, placed, combined}
use Rattle.sp_abacus_law.proofs.Falling.{length-down}
use Rattle.sp_abacus_law.proofs.Numbers.{beta-falls, beads-enough, length-numbers, numbers-falls, numbers-below}
use Rattle.sp_abacus_law.proofs.Numbers.{shown-numbers, length-beta}
use Rattle.sp_abacus_law.proofs.Shown.{numbers-shown, shown-partition, shown-short}
use Rattle.sp_abacus_law.proofs.Runners.{fallen, slid-under, runner-falls}
use Rattle.sp_abacus_law.proofs.Weight.{runner-fallen, fallen-falls, length-fallen, runner-slid, slid-falls}
use Rattle.sp_abacus_law.proofs.Weight.{length-slid}
use Rattle.sp_abacus_law.proofs.Weight.{length-runners, runner-short, core-partition}
use Rattle.sp_abacus_law.proofs.Members.{same-runners, runner-placed, placed-falls}
use Rattle.sp_abacus_law.proofs.MoreBeads.{fallen-alike, height_more, rounds, quotient-numbers, core-numbers}
use Rattle.sp_lists.proofs.Sums.{sum-alike, first-le-sum}

-- ---- core and quotient determine the partition

module _ (e : ℕ) (he : 1 ≤ e) where
  -- The beads slid down are the core's.
  fallen_numbers : (j : ℕ) (parts : List ℕ) → length parts ≤ j * e →
      fallen e (numbers parts (j * e)) ≡ numbers (core e parts) (j * e)
  fallen_numbers j parts h =
      sym (numbers-shown (fallen e (numbers parts (j * e))) (fallen-falls e (numbers parts (j * e))))
      ∙ ap₂ numbers (core-numbers e j parts he h)
      (length-fallen e (numbers parts (j * e)) he ∙ length-numbers parts (j * e))

  height_core : (i j : ℕ) (parts : List ℕ) → i < e → length parts ≤ j * e →
      length (runner e (numbers parts (j * e)) i) ≡ length (runner e (numbers (core e parts) (j * e)) i)
  height_core i j parts hi h =
      sym (length-down (length (runner e (numbers parts (j * e)) i)))
      ∙ ap length (sym (runner-fallen e (numbers parts (j * e)) i hi))
      ∙ ap (λ bs. length (runner e bs i)) (fallen_numbers j parts h)

  -- A runner, by its entry of the quotient and its height.
  runner_shown : (i j : ℕ) (parts : List ℕ) → i < e → IsPartition parts → length parts ≤ j * e →
      runner e (numbers parts (j * e)) i
      ≡ numbers (shown (runner e (beta e parts) i)) (length (runner e (numbers (core e parts) (j * e)) i))
  runner_shown i j parts hi h enough =
      sym (numbers-shown (runner e (numbers parts (j * e)) i)
      (runner-falls e (numbers parts (j * e)) i he (numbers-falls parts (j * e) h)))
      ∙ ap₂ numbers (quotient-numbers e i j parts he hi enough) (height_core i j parts hi enough)

  -- Partitions with one core and one quotient are the same.
  pub one_partition : (x y : List ℕ) → IsPartition x → IsPartition y → core e x ≡ core e y →
      ((i : ℕ) → i < e → shown (runner e (beta e x) i) ≡ shown (runner e (beta e y) i)) → x ≡ y
  one_partition x y hx hy same_core same =
      sym (shown-numbers x (j * e) hx (enough (length x) (length y) he))
      ∙ ap shown (same-runners e (numbers x (j * e)) (numbers y (j * e)) he (numbers-falls x (j * e) hx)
      (numbers-falls y (j * e) hy) each)
      ∙ shown-numbers y (j * e) hy (enough' (length x) (length y) he)
    where
      j : ℕ
      j = length x + length y

      enough : (m n : ℕ) → 1 ≤ e → m ≤ (m + n) * e
      enough m n k = let more : (m + n) * 1 ≤ (m + n) * e = mul-le-mul_left (m + n) k in omega arith

      enough' : (m n : ℕ) → 1 ≤ e → n ≤ (m + n) * e
      enough' m n k = let more : (m + n) * 1 ≤ (m + n) * e = mul-le-mul_left (m + n) k in omega arith

      each : (i : ℕ) → i < e → runner e (numbers x (j * e)) i ≡ runner e (numbers y (j * e)) i
      each i hi =
          runner_shown i j x hi hx (enough (length x) (length y) he)
          ∙ ap₂ (λ parts c. numbers parts (length (runner e (numbers c (j * e)) i))) (same i hi) same_core
          ∙ sym (runner_shown i j y hi hy (enough' (length x) (length y) he))

  -- ---- a core is its own core

  -- A core is its own core.
  pub core_again : (parts : List ℕ) → core e (core e parts) ≡ core e parts
  core_again parts =
      sym (core-numbers e (rounds e parts) (core e parts) he short)
      ∙ ap (λ bs. shown (fallen e bs)) whole
      ∙ ap shown (fallen-alike e (slid e parts) (beta e parts) he (length-slid e parts he)
      (λ i hi. ap length (runner-slid e parts i hi) ∙ length-down (length (runner e (beta e parts) i))))
      ∙ ap shown (sym (slid-under e parts))
    where
      long : length (slid e parts) ≡ rounds e parts * e
      long = length-slid e parts he ∙ length-beta e parts

      short : length (core e parts) ≤ rounds e parts * e
      short = omega (arith, long, shown-short (slid e parts))

      whole : numbers (core e parts) (rounds e parts * e) ≡ slid e parts
      whole = ap (numbers (core e parts)) (sym long) ∙ numbers-shown (slid e parts) (slid-falls e parts)

  -- ---- beads placed for a core and a quotient

  module _ (kappa : List ℕ) (q : List (List ℕ)) (pk : IsPartition kappa) (count : length q ≡ e)
      (pq : AllByRecursion IsPartition q) where
    abbrev entry : ℕ → List ℕ
    entry i = slice_index_or q i []

    abbrev j : ℕ
    j = rounds e kappa + sum_by length q

    abbrev total : ℕ
    total = beads_for e kappa q

    total_is : total ≡ j * e
    total_is = spread (rounds e kappa) (sum_by length q) e
      where
        spread : (r s e : ℕ) → r * e + s * e ≡ (r + s) * e
        spread r s e = omega arith

    abbrev mine : List ℕ
    mine = numbers kappa total

    abbrev set : List ℕ
    set = placed e (places_for e kappa q) ((sum_by degree q + total) * e)

    entry_partition : (i : ℕ) → i < e → IsPartition (entry i)
    entry_partition i hi = all_at IsPartition q i [] pq (omega (arith, count))

    entry_short : (i : ℕ) → i < e → length (entry i) ≤ sum_by length q
    entry_short i hi = get_or-le-sum_by length q i [] (omega (arith, count))

    entry_small : (i : ℕ) → i < e → degree (entry i) ≤ sum_by degree q
    entry_small i hi = get_or-le-sum_by degree q i [] (omega (arith, count))

    enough : length kappa ≤ rounds e kappa * e
    enough = beads-enough e kappa he

    room : (i : ℕ) → i < e → length (entry i) ≤ length (runner e mine i)
    room i hi =
        omega (
          arith,
          entry_short i hi,
          ap (λ n. length (runner e (numbers kappa n) i)) total_is,
          height_more e i (rounds e kappa) (sum_by length q) kappa hi enough,
        )

    -- The places of the beads lie below the nodes of the quotient and all beads together.
    pub places_low : (i : ℕ) → i < e → AllByRecursion (λ p. p < sum_by degree q + total) (places_for e kappa q i)
    places_low i hi =
        all_weaken (λ c. c < degree (entry i) + length (runner e mine i)) (λ c. c < sum_by degree q + total)
        (places_for e kappa q i)
        (λ c lt. omega (arith, lt, entry_small i hi, runner-short e mine i, length-numbers kappa total))
        (numbers-below (entry i) (length (runner e mine i)) (degree (entry i)) (entry_partition i hi)
        (first-le-sum (entry i)))

    set_runner : (i : ℕ) → i < e → runner e set i ≡ places_for e kappa q i
    set_runner i hi =
        runner-placed e (sum_by degree q + total) i (places_for e kappa q) hi
        (numbers-falls (entry i) (length (runner e mine i)) (entry_partition i hi)) (places_low i hi)

    -- The numbers placed fall,
    pub set_falls : Falls set
    set_falls = placed-falls e ((sum_by degree q + total) * e) (places_for e kappa q)

    set_height : (i : ℕ) → i < e → length (runner e set i) ≡ length (runner e mine i)
    set_height i hi = ap length (set_runner i hi) ∙ length-numbers (entry i) (length (runner e mine i))

    set_length : length set ≡ length mine
    set_length =
        length-runners e set he
        ∙ sum-alike (λ i. length (runner e set i)) (λ i. length (runner e mine i)) (range_with_len 0 e)
        (range_all (λ i. length (runner e set i) ≡ length (runner e mine i)) 0 e
        (λ i lo hi. set_height i (omega arith)))
        ∙ sym (length-runners e mine he)

    -- and they are a multiple of e.
    pub set_total : length set ≡ j * e
    set_total = set_length ∙ length-numbers kappa total ∙ total_is

    whole : numbers (combined e kappa q) (j * e) ≡ set
    whole = ap (numbers (combined e kappa q)) (sym set_total) ∙ numbers-shown set set_falls

    short : length (combined e kappa q) ≤ j * e
    short = omega (arith, set_total, shown-short set)

    -- They show a partition.
    pub combined_partition : IsPartition (combined e kappa q)
    combined_partition = shown-partition set set_falls

    -- Runner i shows entry i of the quotient.
    pub combined_entry : (i : ℕ) → i < e → shown (runner e (beta e (combined e kappa q)) i) ≡ entry i
    combined_entry i hi =
        sym (quotient-numbers e i j (combined e kappa q) he hi short)
        ∙ ap (λ bs. shown (runner e bs i)) whole
        ∙ ap shown (set_runner i hi)
        ∙ shown-numbers (entry i) (length (runner e mine i)) (entry_partition i hi) (room i hi)

    -- So the partition has this quotient,
    pub combined_quotient : quotient e (combined e kappa q) ≡ q
    combined_quotient =
        sym (fill_by_all (λ i. shown (runner e (beta e (combined e kappa q)) i)) q e [] count
        (λ i hi. sym (combined_entry i hi)))

    kappa_short : length kappa ≤ j * e
    kappa_short = omega (arith, enough, sym total_is)

    -- and the core of kappa.
    pub combined_core : core e (combined e kappa q) ≡ core e kappa
    combined_core =
        sym (core-numbers e j (combined e kappa q) he short)
        ∙ ap (λ bs. shown (fallen e bs)) whole
        ∙ ap shown (fallen-alike e set mine he set_length set_height)
        ∙ ap (λ n. shown (fallen e (numbers kappa n))) total_is
        ∙ core-numbers e j kappa he kappa_short

  -- ---- a partition's own core and quotient

  quotient_entry : (parts : List ℕ) (i : ℕ) → i < e →
      slice_index_or (quotient e parts) i [] ≡ shown (runner e (beta e parts) i)
  quotient_entry parts i hi =
      get_or-map-range_with_len (λ i. shown (runner e (beta e parts) i)) 0 e i i [] hi (omega arith)

  -- A partition is the one with its own core and quotient.
  pub combined_own : (parts : List ℕ) → IsPartition parts → combined e (core e parts) (quotient e parts) ≡ parts
  combined_own parts h =
      one_partition (combined e (core e parts) (quotient e parts)) parts
      (combined_partition (core e parts) (quotient e parts) (core-partition e parts) count each) h
      (combined_core (core e parts) (quotient e parts) (core-partition e parts) count each ∙ core_again parts)
      (λ i hi. combined_entry (core e parts) (quotient e parts) (core-partition e parts) count each i hi
      ∙ quotient_entry parts i hi)
    where
      count : length (quotient e parts) ≡ e
      count = length-map-range_with_len (λ i. shown (runner e (beta e parts) i)) 0 e

      each : AllByRecursion IsPartition (quotient e parts)
      each =
          all_map IsPartition (λ i. shown (runner e (beta e parts) i)) (range_with_len 0 e)
          (all_every (λ i. IsPartition (shown (runner e (beta e parts) i))) (range_with_len 0 e)
          (λ i. shown-partition (runner e (beta e parts) i)
          (runner-falls e (beta e parts) i he (beta-falls e parts h))))
