-- What words say that have no fault in their places.
use Rattle.std.proofs.Common.{◌≡◌, ℕ, ◌+◌, ◌-◌, ◌^◌, ◌<◌, ◌≤◌, Bool, true, false, not, List, [], ◌∷◌, map, length, refl}
use Rattle.std.proofs.Common.{ap₂, arith, eqb, eqb-true, min, slice_get, nat_le, nat_lt}
use Rattle.std.proofs.lemmas.Bool.{or_parts, not-false, ltb-false, and_parts, leb-true, leb-false, le-leb, cond-true}
use Rattle.std.proofs.lemmas.Bool.{true≢false}
use Rattle.std.proofs.lemmas.List.Elements.{All-nil, All-cons}
use Rattle.std.specs.Prelude.{Option, Some, None, is_none, unwrap_or, All}
use Rattle.std.specs.List.{list_any}
use Rattle.sp_defs.specs.Partition.{degree, is_regular, IsPartition}
use Rattle.sp_partition.specs.Reading.{number_of, partition_of}
use Rattle.sp_partition.specs.declared.TheConstants.{CAPACITY, DEGREE_LIMIT}
use Rattle.sp_partition.proofs.Falls.{reads_partition}
use Rattle.sp_lang.specs.Words.{pieces}
use Rattle.sp_lang.specs.Convention.{label_in}
use Rattle.sp_lang.specs.Commands.{number, partition, partitions, weight, word_at}
use Rattle.sp_lang.specs.Faults.{says, is_e, is_past, is_no_number, is_no_partition, is_no_e, passes_limit}
use Rattle.sp_lang.specs.Faults.{passes_together, is_of_other_degree, is_no_residue, is_irregular, is_no_label}
use Rattle.sp_lang.specs.Faults.{any_word}
use Rattle.sp_lang.specs.Given.{IsE, IsGiven}
use Rattle.sp_lang.specs.Values.{fitting, all_fitting}
use Rattle.sp_lang.specs.declared.convention.Convention.{Convention}
use Rattle.sp_lang.specs.declared.verb.Place.{Place}
use Rattle.sp_lang.specs.declared.verb.Place.TheVariants.{E, Residue, Degree, Partition, Peer, Grown, Factor}
use Rattle.sp_lang.specs.declared.verb.Place.TheVariants.{Label, Heading, Quotient}
use Rattle.sp_lang.proofs.Faultless.{Faultless, right_at}

read_is : {A : Type 0} (o : Option A) (d : A) → is_none o ≡ false → o ≡ Some (unwrap_or o d)
read_is None d h = absurd (true≢false h)
read_is (Some x) d h = refl

unsaid : {A : Type 0} (test : A → Bool) (o : Option A) (d : A) → is_none o ≡ false → says test o ≡ false →
    test (unwrap_or o d) ≡ false
unsaid test None d h s = absurd (true≢false h)
unsaid test (Some x) d h s = s

-- ---- one word

small : (word : List ℕ) (more : ℕ) → is_none (partition_of word) ≡ false → is_past more word ≡ false →
    degree (partition word) + more ≤ DEGREE_LIMIT
small word more some past =
    ltb-false DEGREE_LIMIT (degree (partition word) + more)
    (unsaid (λ p. nat_lt DEGREE_LIMIT (degree p + more)) (partition_of word) [] some past)

is_partition : (word : List ℕ) → is_none (partition_of word) ≡ false → IsPartition (partition word)
is_partition word some = reads_partition word (partition word) (read_is (partition_of word) [] some)

given : (word : List ℕ) → is_none (partition_of word) ≡ false → is_past 0 word ≡ false → IsGiven (partition word)
given word some past =
    let few = small word 0 some past in
    record { partition = is_partition word some; small = omega (arith, few) }

fits : (word : List ℕ) (more : ℕ) → degree (partition word) + more ≤ DEGREE_LIMIT → fitting word ≡ partition word
fits word more few =
    cond-true (nat_le (degree (partition word)) CAPACITY) (partition word) []
    (le-leb (degree (partition word)) CAPACITY (omega (arith, few)))

-- A partition that is taken fits.
pub IsGiven-fits : (word : List ℕ) → IsGiven (partition word) → fitting word ≡ partition word
IsGiven-fits word is = fits word 0 (let few = is.small in omega (arith, few))

-- A weight fits 64 bits.
pub weight-small : (word : List ℕ) → weight word < 2 ^ 64
weight-small word = below (number word)
  where
    below : (n : ℕ) → min n (2 ^ 64 - 1) < 2 ^ 64
    below n = omega arith

all_given : (words : List (List ℕ)) → list_any (λ piece. is_none (partition_of piece)) words ≡ false →
    list_any (is_past 0) words ≡ false → All IsGiven (map partition words)
all_given [] some past = All-nil IsGiven
all_given (word ∷ words) some past =
    let is = or_parts (is_none (partition_of word)) (list_any (λ piece. is_none (partition_of piece)) words) some in
    let few = or_parts (is_past 0 word) (list_any (is_past 0) words) past in
    All-cons IsGiven (partition word) (map partition words) (given word is.0 few.0) (all_given words is.1 few.1)

all_fit : (words : List (List ℕ)) → list_any (λ piece. is_none (partition_of piece)) words ≡ false →
    list_any (is_past 0) words ≡ false → map fitting words ≡ map partition words
all_fit [] some past = refl
all_fit (word ∷ words) some past =
    let is = or_parts (is_none (partition_of word)) (list_any (λ piece. is_none (partition_of piece)) words) some in
    let few = or_parts (is_past 0 word) (list_any (is_past 0) words) past in
    ap₂ (λ p ps. p ∷ ps) (fits word 0 (small word 0 is.0 few.0)) (all_fit words is.1 few.1)

-- ---- the word at a place

-- A faultless word in the place of e says an e.
pub e_of : (places : List Place) (ws : List (List ℕ)) (k : ℕ) → length ws ≡ length places →
    any_word is_no_number places ws ≡ false → any_word is_no_e places ws ≡ false → slice_get places k ≡ Some E →
    IsE (number (word_at ws k))
e_of places ws k count numbers range at =
    let e = number (word_at ws k) in
    let parts = and_parts (nat_le 2 e) (nat_le e 64) (not-false (is_e e)
    (unsaid (λ e. not (is_e e)) (number_of (word_at ws k)) 0
    (right_at is_no_number places ws E k count numbers at) (right_at is_no_e places ws E k count range at))) in
    record { low = leb-true 2 e parts.0; high = leb-true e 64 parts.1 }

-- A faultless word in the place of a partition says one that is taken.
pub given_of : (places : List Place) (ws : List (List ℕ)) (k : ℕ) → length ws ≡ length places →
    any_word is_no_partition places ws ≡ false →
    any_word (passes_limit (number (word_at ws 2))) places ws ≡ false → slice_get places k ≡ Some Partition →
    IsGiven (partition (word_at ws k))
given_of places ws k count shapes limit at =
    given (word_at ws k) (right_at is_no_partition places ws Partition k count shapes at)
    (right_at (passes_limit (number (word_at ws 2))) places ws Partition k count limit at)

module _ {convention : Convention} (places : List Place) (ws : List (List ℕ))
    (f : Faultless convention places ws) (k : ℕ) where
  -- a word at the place of e says an e
  pub e_at : slice_get places k ≡ Some E → IsE (number (word_at ws k))
  e_at at = e_of places ws k f.count f.numbers f.e_range at

  -- one at the place of a residue a number below e
  pub residue_at : slice_get places k ≡ Some Residue → number (word_at ws k) < number (word_at ws 0)
  residue_at at =
      let e = number (word_at ws 0) in
      leb-false e (number (word_at ws k))
      (unsaid (λ i. nat_le e i) (number_of (word_at ws k)) 0
      (right_at is_no_number places ws Residue k f.count f.numbers at)
      (right_at (is_no_residue e) places ws Residue k f.count f.residues at))

  -- one at the place of a degree a number within the limit
  pub degree_at : slice_get places k ≡ Some Degree → number (word_at ws k) ≤ DEGREE_LIMIT
  degree_at at =
      ltb-false DEGREE_LIMIT (number (word_at ws k))
      (unsaid (λ n. nat_lt DEGREE_LIMIT n) (number_of (word_at ws k)) 0
      (right_at is_no_number places ws Degree k f.count f.numbers at)
      (right_at (passes_limit (number (word_at ws 2))) places ws Degree k f.count f.limit at))

  -- one at the place of a partition a partition that is held
  pub partition_at : slice_get places k ≡ Some Partition → IsGiven (partition (word_at ws k))
  partition_at at = given_of places ws k f.count f.partitions f.limit at

  -- one at the place of a peer one of the same degree
  pub peer_at : slice_get places k ≡ Some Peer →
      IsGiven (partition (word_at ws k)) × (degree (partition (word_at ws k)) ≡ degree (partition (word_at ws 0)))
  peer_at at =
      let n = degree (partition (word_at ws 0)) in
      let some = right_at is_no_partition places ws Peer k f.count f.partitions at in (
        given (word_at ws k) some
            (right_at (passes_limit (number (word_at ws 2))) places ws Peer k f.count f.limit at),
        eqb-true (degree (partition (word_at ws k))) n (not-false (eqb (degree (partition (word_at ws k))) n)
            (unsaid (λ p. not (eqb (degree p) n)) (partition_of (word_at ws k)) [] some
            (right_at (is_of_other_degree n) places ws Peer k f.count f.peers at))),
      )

  -- one at the place of a partition to be grown one with room for so many nodes
  pub grown_at : slice_get places k ≡ Some Grown →
      IsPartition (partition (word_at ws k))
      × (degree (partition (word_at ws k)) + number (word_at ws 2) ≤ DEGREE_LIMIT)
      × (fitting (word_at ws k) ≡ partition (word_at ws k))
  grown_at at =
      let m = number (word_at ws 2) in
      let some = right_at is_no_partition places ws Grown k f.count f.partitions at in
      let few = small (word_at ws k) m some (right_at (passes_limit m) places ws Grown k f.count f.limit at) in
      (is_partition (word_at ws k) some, few, fits (word_at ws k) m few)

  -- one at the place of a factor one within the limit together with the first
  pub factor_at : slice_get places k ≡ Some Factor →
      IsGiven (partition (word_at ws k))
      × (degree (partition (word_at ws 0)) + degree (partition (word_at ws k)) ≤ DEGREE_LIMIT)
  factor_at at =
      let n = degree (partition (word_at ws 0)) in
      let some = right_at is_no_partition places ws Factor k f.count f.partitions at in
      let few = small (word_at ws k) n some (right_at (passes_together n) places ws Factor k f.count f.together at) in (
        given (word_at ws k) some
            (right_at (passes_limit (number (word_at ws 2))) places ws Factor k f.count f.limit at),
        omega (arith, few),
      )

  -- one at the place of a label one that is e-regular
  pub label_at : slice_get places k ≡ Some Label →
      IsGiven (partition (word_at ws k)) × (is_regular (number (word_at ws 0)) (partition (word_at ws k)) ≡ true)
  label_at at =
      let e = number (word_at ws 0) in
      let some = right_at is_no_partition places ws Label k f.count f.partitions at in (
        given (word_at ws k) some
            (right_at (passes_limit (number (word_at ws 2))) places ws Label k f.count f.limit at),
        not-false (is_regular e (partition (word_at ws k)))
            (unsaid (λ p. not (is_regular e p)) (partition_of (word_at ws k)) [] some
            (right_at (is_irregular e) places ws Label k f.count f.labels at)),
      )

  -- one at the place of a heading one that is a label
  pub heading_at : slice_get places k ≡ Some Heading →
      IsGiven (partition (word_at ws k))
      × (is_regular (number (word_at ws 0)) (label_in convention (partition (word_at ws k))) ≡ true)
  heading_at at =
      let e = number (word_at ws 0) in
      let some = right_at is_no_partition places ws Heading k f.count f.partitions at in (
        given (word_at ws k) some
            (right_at (passes_limit (number (word_at ws 2))) places ws Heading k f.count f.limit at),
        not-false (is_regular e (label_in convention (partition (word_at ws k))))
            (unsaid (λ p. not (is_regular e (label_in convention p))) (partition_of (word_at ws k)) [] some
            (right_at (is_no_label convention e) places ws Heading k f.count f.headings at)),
      )

  -- one at the place of a quotient partitions that are held
  pub quotient_at : slice_get places k ≡ Some Quotient →
      All IsGiven (partitions (word_at ws k)) × (all_fitting (word_at ws k) ≡ partitions (word_at ws k))
  quotient_at at =
      let some = right_at is_no_partition places ws Quotient k f.count f.partitions at in
      let past = right_at (passes_limit (number (word_at ws 2))) places ws Quotient k f.count f.limit at in
      (all_given (pieces (word_at ws k)) some past, all_fit (pieces (word_at ws k)) some past)
