-- The parser's tests find the first fault: numbers that stop at 64 bits and partitions left out change no answer.
use Rattle.std.proofs.Common.{◌≡◌, ℕ, ◌+◌, ◌-◌, ◌^◌, ◌<◌, ◌≤◌, ◌⊎◌, inl, inr, Bool, true, false, cond, not, ◌||◌, ◌&&◌}
use Rattle.std.proofs.Common.{List, [], ◌∷◌, length, refl, sym, ◌∙◌, ap, ap₂, arith, min, eqb, slice_get}
use Rattle.std.proofs.Common.{nat_le, nat_lt, ◌≢◌}
use Rattle.std.proofs.lemmas.Bool.{or_parts, and_parts, lt-ltb, le-ltb, le-leb, lt-leb, cases_lt, eq-eqb, ne_eqb}
use Rattle.std.proofs.lemmas.Bool.{ltb-false}
use Rattle.std.specs.Prelude.{Option, Some, None, is_none, Result, Ok, Err}
use Rattle.std.specs.List.{list_all}
use Rattle.std.specs.Option.{option_map}
use Rattle.sp_defs.specs.Partition.{degree, is_regular}
use Rattle.sp_partition.specs.Reading.{number_of, partition_of, parsed}
use Rattle.sp_partition.specs.declared.TheConstants.{CAPACITY, DEGREE_LIMIT}
use Rattle.sp_partition.specs.declared.partition.NotPartition.{NotPartition}
use Rattle.sp_partition.specs.declared.partition.NotPartition.TheVariants.{PastCapacity}
use Rattle.sp_lang.specs.Convention.{label_in}
use Rattle.sp_lang.specs.Commands.{number, partition, places_of, word_at}
use Rattle.sp_lang.specs.Faults.{says, is_e, is_no_number, is_no_partition, is_no_e, passes_limit, any_word}
use Rattle.sp_lang.specs.Faults.{passes_together, is_of_other_degree, is_no_residue, is_irregular, is_no_label}
use Rattle.sp_lang.specs.Faults.{is_no_convention, first_fault}
use Rattle.sp_lang.specs.declared.convention.Convention.{Convention}
use Rattle.sp_lang.specs.Values as value
use Rattle.sp_lang.specs.Values.{any_given, fails, value_of, value_at, read_all, byte_said, partition_said}
use Rattle.sp_lang.specs.Values.{first_failing, exceeds}
use Rattle.sp_lang.specs.declared.fault.LineFault.{LineFault}
use Rattle.sp_lang.specs.declared.fault.LineFault.TheVariants.{WordCount}
use Rattle.sp_lang.specs.declared.test.Test.{Test}
use Rattle.sp_lang.specs.declared.test.Test.TheVariants as test
use Rattle.sp_lang.specs.declared.value.Value.{Value}
use Rattle.sp_lang.specs.declared.value.Value.TheVariants as said
use Rattle.sp_lang.specs.declared.verb.Place.{Place}
use Rattle.sp_lang.specs.declared.verb.Place.TheVariants.{E, Residue, Count, Degree, Partition, Peer, Grown, Factor}
use Rattle.sp_lang.specs.declared.verb.Place.TheVariants.{Label, Heading, Weight}
use Rattle.sp_lang.specs.declared.verb.Verb.{Verb}
use Rattle.sp_lang.specs.declared.verb.Verb.TheVariants.{Check, Conjugate, Dim, Dominates, Hooks, Induce, Painter}
use Rattle.sp_lang.specs.declared.verb.Verb.TheVariants.{Partitions, Product, Fillings}
use Rattle.sp_lang.specs.declared.verb.Verb.TheVariants as verb
use Rattle.sp_lang.proofs.ByPlace.{value_there, byte_read, byte_exact, partition_fitting}
use Rattle.sp_lang.proofs.Right.{IsGiven-fits, e_of, given_of}

-- ---- tests that find the same words wrong

-- Tests that agree on each word agree on all of them.
any_same : (wrong : Place → Value → Bool) (t : Place → List ℕ → Bool) →
    ((place : Place) (word : List ℕ) → wrong place (value_of place word) ≡ t place word) →
    (places : List Place) (ws : List (List ℕ)) → any_given wrong (read_all places ws) ≡ any_word t places ws
any_same wrong t same [] ws = refl
any_same wrong t same (p ∷ ps) [] = refl
any_same wrong t same (p ∷ ps) (w ∷ ws) = ap₂ (λ a b. a || b) (same p w) (any_same wrong t same ps ws)

-- So do tests that agree on each word within the limit, where no word is past it.
any_within : (m : ℕ) (wrong : Place → Value → Bool) (t : Place → List ℕ → Bool) →
    ((place : Place) (word : List ℕ) → passes_limit m place word ≡ false →
    wrong place (value_of place word) ≡ t place word) →
    (places : List Place) (ws : List (List ℕ)) → any_word (passes_limit m) places ws ≡ false →
    any_given wrong (read_all places ws) ≡ any_word t places ws
any_within m wrong t same [] ws within = refl
any_within m wrong t same (p ∷ ps) [] within = refl
any_within m wrong t same (p ∷ ps) (w ∷ ws) within =
    let parts = or_parts (passes_limit m p w) (any_word (passes_limit m) ps ws) within in
    ap₂ (λ a b. a || b) (same p w parts.0) (any_within m wrong t same ps ws parts.1)

-- So do tests that agree on the places that are there.
any_there : (there : Place → Bool) (wrong : Place → Value → Bool) (t : Place → List ℕ → Bool) →
    ((place : Place) (word : List ℕ) → there place ≡ true → wrong place (value_of place word) ≡ t place word) →
    (places : List Place) (ws : List (List ℕ)) → list_all there places ≡ true →
    any_given wrong (read_all places ws) ≡ any_word t places ws
any_there there wrong t same [] ws h = refl
any_there there wrong t same (p ∷ ps) [] h = refl
any_there there wrong t same (p ∷ ps) (w ∷ ws) h =
    let parts = and_parts (there p) (list_all there ps) h in
    ap₂ (λ a b. a || b) (same p w parts.0) (any_there there wrong t same ps ws parts.1)

-- ---- numbers that stop at 64 bits

missing_same : (place : Place) (word : List ℕ) → value.is_missing (value_of place word) ≡ is_no_number place word
missing_same place word = by_place place
  where
    by_number : (o : Option ℕ) → is_none (option_map (λ n. min n (2 ^ 64 - 1)) o) ≡ is_none o
    by_number None = refl
    by_number (Some n) = refl

    by_place : (place : Place) → value.is_missing (value_of place word) ≡ is_no_number place word
    by_place E = by_number (number_of word)
    by_place Residue = by_number (number_of word)
    by_place Count = by_number (number_of word)
    by_place Degree = by_number (number_of word)
    by_place Weight = by_number (number_of word)
    by_place other = refl

-- A test that says the same of all numbers from the cap on says the same of a number that stops there.
capped : (t : ℕ → Bool) → ((n : ℕ) → 2 ^ 64 - 1 ≤ n → t n ≡ t (2 ^ 64 - 1)) → (n : ℕ) →
    t (min n (2 ^ 64 - 1)) ≡ t n
capped t high n = by_order (cases_lt n (2 ^ 64 - 1))
  where
    by_order : (n < 2 ^ 64 - 1) ⊎ (2 ^ 64 - 1 ≤ n) → t (min n (2 ^ 64 - 1)) ≡ t n
    by_order (inl less) = ap t (omega arith)
    by_order (inr more) =
        let stops : min n (2 ^ 64 - 1) ≡ 2 ^ 64 - 1 = omega arith in ap t stops ∙ sym (high n more)

no_e_high : (n : ℕ) → 65 ≤ n → not (is_e n) ≡ true
no_e_high n high =
    ap₂ (λ a b. not (a && b)) (le-leb 2 n (omega (arith, high))) (lt-leb n 64 (omega (arith, high)))

e_same : (place : Place) (word : List ℕ) → value.is_bad_e place (value_of place word) ≡ is_no_e place word
e_same E word = by_number (number_of word)
  where
    by_number : (o : Option ℕ) →
        value.is_bad_e E (said.Number (option_map (λ n. min n (2 ^ 64 - 1)) o)) ≡ says (λ e. not (is_e e)) o
    by_number None = refl
    by_number (Some n) =
        capped (λ e. not (is_e e))
        (λ k high. no_e_high k (omega (arith, high)) ∙ sym (no_e_high (2 ^ 64 - 1) (omega arith))) n
e_same other word = refl

residue_same : (e : ℕ) → e ≤ 255 → (place : Place) (word : List ℕ) →
    value.is_bad_residue e place (value_of place word) ≡ is_no_residue e place word
residue_same e small Residue word = by_number (number_of word)
  where
    by_number : (o : Option ℕ) →
        value.is_bad_residue e Residue (said.Number (option_map (λ n. min n (2 ^ 64 - 1)) o))
        ≡ says (λ i. nat_le e i) o
    by_number None = refl
    by_number (Some n) =
        capped (λ i. nat_le e i)
        (λ k high. le-leb e k (omega (arith, high, small)) ∙ sym (le-leb e (2 ^ 64 - 1) (omega (arith, small)))) n
residue_same e small other word = refl

-- ---- partitions past the capacity

shapeless_same : (place : Place) (word : List ℕ) →
    value.is_shapeless (value_of place word) ≡ is_no_partition place word
shapeless_same place word = by_place place
  where
    by_test : (t : Bool) (p : List ℕ) →
        value.is_shapeless (said.Partition (cond t (Ok p) (Err PastCapacity))) ≡ false
    by_test true p = refl
    by_test false p = refl

    by_parts : (o : Option (List ℕ)) → value.is_shapeless (said.Partition (parsed o)) ≡ is_none o
    by_parts None = refl
    by_parts (Some p) = by_test (nat_le (degree p) CAPACITY) p

    by_place : (place : Place) → value.is_shapeless (value_of place word) ≡ is_no_partition place word
    by_place Partition = by_parts (partition_of word)
    by_place Peer = by_parts (partition_of word)
    by_place Grown = by_parts (partition_of word)
    by_place Factor = by_parts (partition_of word)
    by_place Label = by_parts (partition_of word)
    by_place Heading = by_parts (partition_of word)
    by_place other = refl

-- A partition past the capacity is past the limit.
past_same : (m : ℕ) (o : Option (List ℕ)) →
    exceeds m (parsed o) ≡ says (λ p. nat_lt DEGREE_LIMIT (degree p + m)) o
past_same m None = refl
past_same m (Some p) = by_order (cases_lt CAPACITY (degree p))
  where
    by_order : (CAPACITY < degree p) ⊎ (degree p ≤ CAPACITY) →
        exceeds m (cond (nat_le (degree p) CAPACITY) (Ok p) (Err PastCapacity))
        ≡ nat_lt DEGREE_LIMIT (degree p + m)
    by_order (inl past) =
        ap (λ t. exceeds m (cond t (Ok p) (Err PastCapacity))) (lt-leb (degree p) CAPACITY past)
        ∙ sym (lt-ltb DEGREE_LIMIT (degree p + m) (omega (arith, past)))
    by_order (inr fits) =
        ap (λ t. exceeds m (cond t (Ok p) (Err PastCapacity))) (le-leb (degree p) CAPACITY fits)

limit_same : (m : ℕ) (place : Place) (word : List ℕ) →
    value.is_large m place (value_of place word) ≡ passes_limit m place word
limit_same m Degree word = by_number (number_of word)
  where
    by_number : (o : Option ℕ) →
        value.is_large m Degree (said.Number (option_map (λ n. min n (2 ^ 64 - 1)) o))
        ≡ says (λ n. nat_lt DEGREE_LIMIT n) o
    by_number None = refl
    by_number (Some n) =
        capped (λ k. nat_lt DEGREE_LIMIT k)
        (λ k high. lt-ltb DEGREE_LIMIT k (omega (arith, high))
        ∙ sym (lt-ltb DEGREE_LIMIT (2 ^ 64 - 1) (omega arith))) n
limit_same m Partition word = past_same 0 (partition_of word)
limit_same m Peer word = past_same 0 (partition_of word)
limit_same m Grown word = past_same m (partition_of word)
limit_same m Factor word = past_same 0 (partition_of word)
limit_same m Label word = past_same 0 (partition_of word)
limit_same m Heading word = past_same 0 (partition_of word)
limit_same m other word = refl

factor_same : (n : ℕ) (place : Place) (word : List ℕ) →
    value.is_large_together n place (value_of place word) ≡ passes_together n place word
factor_same n Factor word = past_same n (partition_of word)
factor_same n other word = refl

-- A partition within the limit was read.
read_within : (o : Option (List ℕ)) → says (λ p. nat_lt DEGREE_LIMIT (degree p + 0)) o ≡ false →
    (t : Result (List ℕ) NotPartition → Bool) (u : List ℕ → Bool) → ((e : NotPartition) → t (Err e) ≡ false) →
    ((p : List ℕ) → degree p ≤ DEGREE_LIMIT → t (Ok p) ≡ u p) → t (parsed o) ≡ says u o
read_within None within t u none same = none _
read_within (Some p) within t u none same =
    let small : degree p + 0 ≤ DEGREE_LIMIT = ltb-false DEGREE_LIMIT (degree p + 0) within in
    let few : degree p ≤ DEGREE_LIMIT = omega (arith, small) in
    ap (λ t2. t (cond t2 (Ok p) (Err PastCapacity))) (le-leb (degree p) CAPACITY (omega (arith, few)))
    ∙ same p few

peer_same : (m n : ℕ) (place : Place) (word : List ℕ) → passes_limit m place word ≡ false →
    value.is_uneven n place (value_of place word) ≡ is_of_other_degree n place word
peer_same m n Peer word within =
    read_within (partition_of word) within (λ r. value.is_uneven n Peer (said.Partition r))
    (λ p. not (eqb (degree p) n)) (λ e. refl) (λ p few. refl)
peer_same m n other word within = refl

label_same : (m e : ℕ) → 2 ≤ e → (place : Place) (word : List ℕ) → passes_limit m place word ≡ false →
    value.is_irregular e place (value_of place word) ≡ is_irregular e place word
label_same m e low Label word within =
    read_within (partition_of word) within (λ r. value.is_irregular e Label (said.Partition r))
    (λ p. not (is_regular e p)) (λ e. refl)
    (λ p few. ap (λ t. t && not (is_regular e p)) (le-leb 2 e low))
label_same m e low other word within = refl

heading_same : (convention : Convention) (m e : ℕ) → 2 ≤ e → (place : Place) (word : List ℕ) →
    passes_limit m place word ≡ false →
    value.is_bad_heading convention e place (value_of place word) ≡ is_no_label convention e place word
heading_same convention m e low Heading word within =
    read_within (partition_of word) within (λ r. value.is_bad_heading convention e Heading (said.Partition r))
    (λ p. not (is_regular e (label_in convention p))) (λ e. refl)
    (λ p few. ap (λ t. t && not (is_regular e (label_in convention p))) (le-leb 2 e low))
heading_same convention m e low other word within = refl

-- ---- conventions

convention_same : (place : Place) (word : List ℕ) →
    value.is_bad_convention (value_of place word) ≡ is_no_convention place word
convention_same E word = refl
convention_same other word = refl

-- ---- places that a test doesn't ask about

is_unpaired : Place → Bool
is_unpaired Peer = false
is_unpaired Factor = false
is_unpaired other = true

is_free_of_e : Place → Bool
is_free_of_e Residue = false
is_free_of_e Label = false
is_free_of_e Heading = false
is_free_of_e other = true

is_ungrown : Place → Bool
is_ungrown Grown = false
is_ungrown other = true

no_peer_same : (n k : ℕ) (place : Place) (word : List ℕ) → is_unpaired place ≡ true →
    value.is_uneven n place (value_of place word) ≡ is_of_other_degree k place word
unfolding is_unpaired
no_peer_same n k Peer word h = absurd (cc)
no_peer_same n k other word h = refl

no_factor_same : (n k : ℕ) (place : Place) (word : List ℕ) → is_unpaired place ≡ true →
    value.is_large_together n place (value_of place word) ≡ passes_together k place word
unfolding is_unpaired
no_factor_same n k Factor word h = absurd (cc)
no_factor_same n k other word h = refl

no_residue_same : (d e : ℕ) (place : Place) (word : List ℕ) → is_free_of_e place ≡ true →
    value.is_bad_residue d place (value_of place word) ≡ is_no_residue e place word
unfolding is_free_of_e
no_residue_same d e Residue word h = absurd (cc)
no_residue_same d e other word h = refl

no_label_same : (d e : ℕ) (place : Place) (word : List ℕ) → is_free_of_e place ≡ true →
    value.is_irregular d place (value_of place word) ≡ is_irregular e place word
unfolding is_free_of_e
no_label_same d e Label word h = absurd (cc)
no_label_same d e other word h = refl

no_heading_same : (convention : Convention) (d e : ℕ) (place : Place) (word : List ℕ) → is_free_of_e place ≡ true →
    value.is_bad_heading convention d place (value_of place word) ≡ is_no_label convention e place word
unfolding is_free_of_e
no_heading_same convention d e Heading word h = absurd (cc)
no_heading_same convention d e other word h = refl

ungrown_same : (m k : ℕ) (place : Place) (word : List ℕ) → is_ungrown place ≡ true →
    value.is_large m place (value_of place word) ≡ passes_limit k place word
unfolding is_ungrown
ungrown_same m k Grown word h = absurd (cc)
ungrown_same m k Degree word h = limit_same k Degree word
ungrown_same m k Partition word h = limit_same k Partition word
ungrown_same m k Peer word h = limit_same k Peer word
ungrown_same m k Factor word h = limit_same k Factor word
ungrown_same m k Label word h = limit_same k Label word
ungrown_same m k Heading word h = limit_same k Heading word
ungrown_same m k other word h = refl

-- A count of added nodes that stops at 255 is past the limit where the whole count is.
added_same : (m : ℕ) (place : Place) (word : List ℕ) →
    value.is_large (min m 255) place (value_of place word) ≡ passes_limit m place word
added_same m Grown word = past_same (min m 255) (partition_of word) ∙ by_parts (partition_of word)
  where
    by_order : (d : ℕ) → (DEGREE_LIMIT < d + m) ⊎ (d + m ≤ DEGREE_LIMIT) →
        nat_lt DEGREE_LIMIT (d + min m 255) ≡ nat_lt DEGREE_LIMIT (d + m)
    by_order d (inl past) =
        lt-ltb DEGREE_LIMIT (d + min m 255) (omega arith) ∙ sym (lt-ltb DEGREE_LIMIT (d + m) past)
    by_order d (inr within) =
        le-ltb DEGREE_LIMIT (d + min m 255) (omega arith) ∙ sym (le-ltb DEGREE_LIMIT (d + m) within)

    by_parts : (o : Option (List ℕ)) →
        says (λ p. nat_lt DEGREE_LIMIT (degree p + min m 255)) o ≡ says (λ p. nat_lt DEGREE_LIMIT (degree p + m)) o
    by_parts None = refl
    by_parts (Some p) = by_order (degree p) (cases_lt DEGREE_LIMIT (degree p + m))
added_same m Degree word = limit_same m Degree word
added_same m Partition word = limit_same m Partition word
added_same m Peer word = limit_same m Peer word
added_same m Factor word = limit_same m Factor word
added_same m Label word = limit_same m Label word
added_same m Heading word = limit_same m Heading word
added_same m other word = refl

-- ---- the tests that look at the first word, and at the third

-- Where a place asks for e, the first word is e, and where one asks for the degree of another, it is a partition.
abbrev Kind : List Place → Type 0
Kind places =
    ((slice_get places 0 ≡ Some E) × (list_all is_unpaired places ≡ true))
    ⊎ ((slice_get places 0 ≡ Some Partition) × (list_all is_free_of_e places ≡ true))
    ⊎ ((list_all is_unpaired places ≡ true) × (list_all is_free_of_e places ≡ true))

kind : (verb : Verb) → Kind (places_of verb)
unfolding is_unpaired is_free_of_e
kind Partitions = inr (inr (refl, refl))
kind Painter = inr (inr (refl, refl))
kind Conjugate = inr (inl (refl, refl))
kind Dominates = inr (inl (refl, refl))
kind Hooks = inr (inl (refl, refl))
kind Dim = inr (inl (refl, refl))
kind Check = inr (inr (refl, refl))
kind verb.Convention = inr (inr (refl, refl))
kind Product = inr (inl (refl, refl))
kind Fillings = inr (inl (refl, refl))
kind other = inl (refl, refl)

-- Where a place asks for a partition to be grown, the third word is a number of nodes.
abbrev Growth : List Place → Type 0
Growth places = (slice_get places 2 ≡ Some Count) ⊎ (list_all is_ungrown places ≡ true)

growth : (verb : Verb) → Growth (places_of verb)
unfolding is_ungrown
growth Induce = inl refl
growth other = inr refl

-- No word is wrong by the first four tests.
record Passed (places : List Place) (ws : List (List ℕ)) : Type 0 where
  count : length ws ≡ length places
  numbers : any_word is_no_number places ws ≡ false
  partitions : any_word is_no_partition places ws ≡ false
  e_range : any_word is_no_e places ws ≡ false
  limit : any_word (passes_limit (number (word_at ws 2))) places ws ≡ false

limits_same : (places : List Place) (ws : List (List ℕ)) → length ws ≡ length places → Growth places →
    any_given (fails (test.Degree (byte_said (value_at (read_all places ws) 2)))) (read_all places ws)
    ≡ any_word (passes_limit (number (word_at ws 2))) places ws
limits_same places ws count (inl at) =
    ap (λ m. any_given (fails (test.Degree m)) (read_all places ws))
    (ap byte_said (value_there places ws 2 Count count at) ∙ byte_read (word_at ws 2))
    ∙ any_same (value.is_large (min (number (word_at ws 2)) 255)) (passes_limit (number (word_at ws 2)))
    (added_same (number (word_at ws 2))) places ws
limits_same places ws count (inr none) =
    any_there is_ungrown (value.is_large (byte_said (value_at (read_all places ws) 2)))
    (passes_limit (number (word_at ws 2)))
    (ungrown_same (byte_said (value_at (read_all places ws) 2)) (number (word_at ws 2))) places ws none

module _ (places : List Place) (ws : List (List ℕ)) (p : Passed places ws) where
  none_factors : list_all is_unpaired places ≡ true →
      any_given (fails (test.Together (degree (partition_said (value_at (read_all places ws) 0)))))
      (read_all places ws)
      ≡ any_word (passes_together (degree (partition (word_at ws 0)))) places ws
  none_factors h =
      let n = degree (partition_said (value_at (read_all places ws) 0)) in
      let k = degree (partition (word_at ws 0)) in
      any_there is_unpaired (value.is_large_together n) (passes_together k) (no_factor_same n k) places ws h

  none_peers : list_all is_unpaired places ≡ true →
      any_given (fails (test.Peer (degree (partition_said (value_at (read_all places ws) 0))))) (read_all places ws)
      ≡ any_word (is_of_other_degree (degree (partition (word_at ws 0)))) places ws
  none_peers h =
      let n = degree (partition_said (value_at (read_all places ws) 0)) in
      let k = degree (partition (word_at ws 0)) in
      any_there is_unpaired (value.is_uneven n) (is_of_other_degree k) (no_peer_same n k) places ws h

  none_residues : list_all is_free_of_e places ≡ true →
      any_given (fails (test.Residue (byte_said (value_at (read_all places ws) 0)))) (read_all places ws)
      ≡ any_word (is_no_residue (number (word_at ws 0))) places ws
  none_residues h =
      let d = byte_said (value_at (read_all places ws) 0) in
      let e = number (word_at ws 0) in
      any_there is_free_of_e (value.is_bad_residue d) (is_no_residue e) (no_residue_same d e) places ws h

  none_labels : list_all is_free_of_e places ≡ true →
      any_given (fails (test.Regular (byte_said (value_at (read_all places ws) 0)))) (read_all places ws)
      ≡ any_word (is_irregular (number (word_at ws 0))) places ws
  none_labels h =
      let d = byte_said (value_at (read_all places ws) 0) in
      let e = number (word_at ws 0) in
      any_there is_free_of_e (value.is_irregular d) (is_irregular e) (no_label_same d e) places ws h

  none_headings : (convention : Convention) → list_all is_free_of_e places ≡ true →
      any_given (fails (test.Heading convention (byte_said (value_at (read_all places ws) 0)))) (read_all places ws)
      ≡ any_word (is_no_label convention (number (word_at ws 0))) places ws
  none_headings convention h =
      let d = byte_said (value_at (read_all places ws) 0) in
      let e = number (word_at ws 0) in
      any_there is_free_of_e (value.is_bad_heading convention d) (is_no_label convention e)
      (no_heading_same convention d e) places ws h

  -- The first value, where it is an e.
  e_said : slice_get places 0 ≡ Some E →
      (byte_said (value_at (read_all places ws) 0) ≡ number (word_at ws 0)) × (2 ≤ number (word_at ws 0))
      × (number (word_at ws 0) ≤ 255)
  e_said at =
      let e = e_of places ws 0 p.count p.numbers p.e_range at in
      let small : number (word_at ws 0) ≤ 255 = omega (arith, e.high) in (
        ap byte_said (value_there places ws 0 E p.count at) ∙ byte_exact (word_at ws 0) small,
        e.low,
        small,
      )

  -- The first value, where it is a partition.
  first_said : slice_get places 0 ≡ Some Partition →
      partition_said (value_at (read_all places ws) 0) ≡ partition (word_at ws 0)
  first_said at =
      ap partition_said (value_there places ws 0 Partition p.count at) ∙ partition_fitting (word_at ws 0)
      ∙ IsGiven-fits (word_at ws 0) (given_of places ws 0 p.count p.partitions p.limit at)

  factors_same : Kind places →
      any_given (fails (test.Together (degree (partition_said (value_at (read_all places ws) 0)))))
      (read_all places ws)
      ≡ any_word (passes_together (degree (partition (word_at ws 0)))) places ws
  factors_same (inr (inl (at, h))) =
      ap (λ q. any_given (fails (test.Together (degree q))) (read_all places ws)) (first_said at)
      ∙ any_same (value.is_large_together (degree (partition (word_at ws 0))))
      (passes_together (degree (partition (word_at ws 0))))
      (factor_same (degree (partition (word_at ws 0)))) places ws
  factors_same (inl (at, h)) = none_factors h
  factors_same (inr (inr (h, free))) = none_factors h

  peers_same : Kind places →
      any_given (fails (test.Peer (degree (partition_said (value_at (read_all places ws) 0))))) (read_all places ws)
      ≡ any_word (is_of_other_degree (degree (partition (word_at ws 0)))) places ws
  peers_same (inr (inl (at, h))) =
      ap (λ q. any_given (fails (test.Peer (degree q))) (read_all places ws)) (first_said at)
      ∙ any_within (number (word_at ws 2)) (value.is_uneven (degree (partition (word_at ws 0))))
      (is_of_other_degree (degree (partition (word_at ws 0))))
      (peer_same (number (word_at ws 2)) (degree (partition (word_at ws 0)))) places ws p.limit
  peers_same (inl (at, h)) = none_peers h
  peers_same (inr (inr (h, free))) = none_peers h

  residues_same : Kind places →
      any_given (fails (test.Residue (byte_said (value_at (read_all places ws) 0)))) (read_all places ws)
      ≡ any_word (is_no_residue (number (word_at ws 0))) places ws
  residues_same (inl (at, h)) =
      let e = e_said at in
      ap (λ e. any_given (fails (test.Residue e)) (read_all places ws)) e.0
      ∙ any_same (value.is_bad_residue (number (word_at ws 0))) (is_no_residue (number (word_at ws 0)))
      (residue_same (number (word_at ws 0)) e.2) places ws
  residues_same (inr (inl (at, free))) = none_residues free
  residues_same (inr (inr (h, free))) = none_residues free

  labels_same : Kind places →
      any_given (fails (test.Regular (byte_said (value_at (read_all places ws) 0)))) (read_all places ws)
      ≡ any_word (is_irregular (number (word_at ws 0))) places ws
  labels_same (inl (at, h)) =
      let e = e_said at in
      ap (λ e. any_given (fails (test.Regular e)) (read_all places ws)) e.0
      ∙ any_within (number (word_at ws 2)) (value.is_irregular (number (word_at ws 0)))
      (is_irregular (number (word_at ws 0)))
      (label_same (number (word_at ws 2)) (number (word_at ws 0)) e.1) places ws p.limit
  labels_same (inr (inl (at, free))) = none_labels free
  labels_same (inr (inr (h, free))) = none_labels free

  headings_same : (convention : Convention) → Kind places →
      any_given (fails (test.Heading convention (byte_said (value_at (read_all places ws) 0)))) (read_all places ws)
      ≡ any_word (is_no_label convention (number (word_at ws 0))) places ws
  headings_same convention (inl (at, h)) =
      let e = e_said at in
      ap (λ e. any_given (fails (test.Heading convention e)) (read_all places ws)) e.0
      ∙ any_within (number (word_at ws 2)) (value.is_bad_heading convention (number (word_at ws 0)))
      (is_no_label convention (number (word_at ws 0)))
      (heading_same convention (number (word_at ws 2)) (number (word_at ws 0)) e.1) places ws p.limit
  headings_same convention (inr (inl (at, free))) = none_headings convention free
  headings_same convention (inr (inr (h, free))) = none_headings convention free

-- ---- the order

step : (b c : Bool) (test : Test) (fault : LineFault) (x : Option (Test × LineFault)) (y : Option (LineFault × Bool)) →
    c ≡ b → (b ≡ false → option_map (λ (t : Test × LineFault). t.1) x ≡ option_map (λ (f : LineFault × Bool). f.0) y) →
    option_map (λ (t : Test × LineFault). t.1) (cond c (Some (test, fault)) x)
    ≡ option_map (λ (f : LineFault × Bool). f.0) (cond b (Some (fault, b)) y)
step true true test fault x y same rest = refl
step true false test fault x y same rest = absurd (cc)
step false true test fault x y same rest = absurd (cc)
step false false test fault x y same rest = rest refl

passed_count : (b : Bool) (y : Option (LineFault × Bool)) → b ≡ false →
    option_map (λ (f : LineFault × Bool). f.0) y
    ≡ option_map (λ (f : LineFault × Bool). f.0) (cond b (Some (WordCount, b)) y)
passed_count true y h = absurd (cc)
passed_count false y h = refl

failed_count : (b : Bool) (y : Option (LineFault × Bool)) → b ≡ true →
    Some WordCount ≡ option_map (λ (f : LineFault × Bool). f.0) (cond b (Some (WordCount, b)) y)
failed_count true y h = refl
failed_count false y h = absurd (cc)

-- Another number of words is the first fault.
pub other_count : (convention : Convention) (places : List Place) (ws : List (List ℕ)) →
    length ws ≢ length places → Some WordCount ≡ first_fault convention places ws
unfolding first_fault
other_count convention places ws other =
    failed_count (not (eqb (length ws) (length places))) _
    (ap not (ne_eqb (length ws) (length places) other))

-- With as many words as places, the tests find the first fault.
pub same_count : (convention : Convention) (verb : Verb) (ws : List (List ℕ)) → length ws ≡ length (places_of verb) →
    first_failing convention (read_all (places_of verb) ws) ≡ first_fault convention (places_of verb) ws
unfolding first_fault
same_count convention verb ws count =
    let places = places_of verb in
    step (any_word is_no_number places ws) _ _ _ _ _
    (any_same (λ place. value.is_missing) is_no_number missing_same places ws) (λ numbers.
    step (any_word is_no_partition places ws) _ _ _ _ _
    (any_same (λ place. value.is_shapeless) is_no_partition shapeless_same places ws) (λ shapes.
    step (any_word is_no_e places ws) _ _ _ _ _ (any_same value.is_bad_e is_no_e e_same places ws) (λ range.
    step (any_word (passes_limit (number (word_at ws 2))) places ws) _ _ _ _ _
    (limits_same places ws count (growth verb)) (λ limit.
    let passed : Passed places ws =
    record { count = count; numbers = numbers; partitions = shapes; e_range = range; limit = limit } in
    step (any_word (passes_together (degree (partition (word_at ws 0)))) places ws) _ _ _ _ _
    (factors_same places ws passed (kind verb)) (λ together.
    step (any_word (is_of_other_degree (degree (partition (word_at ws 0)))) places ws) _ _ _ _ _
    (peers_same places ws passed (kind verb)) (λ peers.
    step (any_word (is_no_residue (number (word_at ws 0))) places ws) _ _ _ _ _
    (residues_same places ws passed (kind verb)) (λ residues.
    step (any_word (is_irregular (number (word_at ws 0))) places ws) _ _ _ _ _
    (labels_same places ws passed (kind verb)) (λ labels.
    step (any_word (is_no_label convention (number (word_at ws 0))) places ws) _ _ _ _ _
    (headings_same places ws passed convention (kind verb)) (λ headings.
    step (any_word is_no_convention places ws) _ _ _ _ _
    (any_same (λ place. value.is_bad_convention) is_no_convention convention_same places ws)
    (λ conventions. refl))))))))))
    ∙ passed_count (not (eqb (length ws) (length places))) _
    (ap not (eq-eqb (length ws) (length places) count))
