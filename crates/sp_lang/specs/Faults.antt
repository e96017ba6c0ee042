-- The faults of a command's words, in the order in which they are looked for. This project's own.
use Rattle.std.specs.Prelude.{ℕ, ◌+◌, ◌==◌, nat_le, nat_lt, Bool, false, ◌&&◌, not, List, [], ◌∷◌, length, find}
use Rattle.std.specs.Prelude.{Option, is_none}
use Rattle.std.specs.List.{list_any, zip}
use Rattle.std.specs.Option.{option_map, option_map_or}
use Rattle.sp_defs.specs.Partition.{degree, is_regular}
use Rattle.sp_partition.specs.Reading.{number_of, partition_of}
use Rattle.sp_partition.specs.declared.TheConstants.{DEGREE_LIMIT}
use Rattle.sp_lang.specs.Words.{pieces}
use Rattle.sp_lang.specs.Convention.{label_in, label_fault, convention_of}
use Rattle.sp_lang.specs.Commands.{number, partition, word_at}
use Rattle.sp_lang.specs.declared.convention.Convention.{Convention}
use Rattle.sp_lang.specs.declared.fault.LineFault.{LineFault}
use Rattle.sp_lang.specs.declared.fault.LineFault.TheVariants.{WordCount, NotNumber, BadPartition, BadE, DegreePast}
use Rattle.sp_lang.specs.declared.fault.LineFault.TheVariants.{NotRegular, BadResidue, DegreesDiffer, UnknownConvention}
use Rattle.sp_lang.specs.declared.verb.Place.{Place}
use Rattle.sp_lang.specs.declared.verb.Place.TheVariants.{E, Residue, Count, Degree, Partition, Peer, Grown, Factor}
use Rattle.sp_lang.specs.declared.verb.Place.TheVariants.{Label, Heading, Quotient, Weight}
use Rattle.sp_lang.specs.declared.verb.Place.TheVariants as place

-- Whether something was read, and passes the test.
abbrev pub says : {A : Type 0} → (A → Bool) → Option A → Bool
says test read = option_map_or test read false

abbrev pub is_e : ℕ → Bool
is_e e = nat_le 2 e && nat_le e 64

-- A partition that, with so many nodes more, is past the limit.
abbrev pub is_past : ℕ → List ℕ → Bool
is_past more word = says (λ p. nat_lt DEGREE_LIMIT (degree p + more)) (partition_of word)

-- ---- what can be wrong with a word in its place

abbrev pub is_no_number : Place → List ℕ → Bool
is_no_number E word = is_none (number_of word)
is_no_number Residue word = is_none (number_of word)
is_no_number Count word = is_none (number_of word)
is_no_number Degree word = is_none (number_of word)
is_no_number Weight word = is_none (number_of word)
is_no_number other word = false

abbrev pub is_no_partition : Place → List ℕ → Bool
is_no_partition Partition word = is_none (partition_of word)
is_no_partition Peer word = is_none (partition_of word)
is_no_partition Grown word = is_none (partition_of word)
is_no_partition Factor word = is_none (partition_of word)
is_no_partition Label word = is_none (partition_of word)
is_no_partition Heading word = is_none (partition_of word)
is_no_partition Quotient word = list_any (λ piece. is_none (partition_of piece)) (pieces word)
is_no_partition other word = false

abbrev pub is_no_e : Place → List ℕ → Bool
is_no_e E word = says (λ e. not (is_e e)) (number_of word)
is_no_e other word = false

-- Grown partitions have `more` nodes more.
abbrev pub passes_limit : ℕ → Place → List ℕ → Bool
passes_limit more Degree word = says (λ n. nat_lt DEGREE_LIMIT n) (number_of word)
passes_limit more Partition word = is_past 0 word
passes_limit more Peer word = is_past 0 word
passes_limit more Factor word = is_past 0 word
passes_limit more Label word = is_past 0 word
passes_limit more Heading word = is_past 0 word
passes_limit more Grown word = is_past more word
passes_limit more Quotient word = list_any (is_past 0) (pieces word)
passes_limit more other word = false

-- A factor stands beside a partition of n.
abbrev pub passes_together : ℕ → Place → List ℕ → Bool
passes_together n Factor word = is_past n word
passes_together n other word = false

abbrev pub is_of_other_degree : ℕ → Place → List ℕ → Bool
is_of_other_degree n Peer word = says (λ p. not (degree p == n)) (partition_of word)
is_of_other_degree n other word = false

abbrev pub is_no_residue : ℕ → Place → List ℕ → Bool
is_no_residue e Residue word = says (λ i. nat_le e i) (number_of word)
is_no_residue e other word = false

abbrev pub is_irregular : ℕ → Place → List ℕ → Bool
is_irregular e Label word = says (λ p. not (is_regular e p)) (partition_of word)
is_irregular e other word = false

abbrev pub is_no_label : Convention → ℕ → Place → List ℕ → Bool
is_no_label convention e Heading word = says (λ p. not (is_regular e (label_in convention p))) (partition_of word)
is_no_label convention e other word = false

abbrev pub is_no_convention : Place → List ℕ → Bool
is_no_convention place.Convention word = is_none (convention_of word)
is_no_convention other word = false

-- ---- the order

abbrev pub any_word : (Place → List ℕ → Bool) → List Place → List (List ℕ) → Bool
any_word test places words = list_any (λ given. test given.0 given.1) (zip places words)

-- Each fault, and whether it is there. The first word is e, or the partition that another is compared with or stands
-- beside, and the third is the number of nodes to be added, where the places ask for these.
abbrev pub faults : Convention → List Place → List (List ℕ) → List (LineFault × Bool)
faults convention places words =
    let e = number (word_at words 0) in
    let n = degree (partition (word_at words 0)) in
    let m = number (word_at words 2) in
    (WordCount, not (length words == length places)) ∷
    (NotNumber, any_word is_no_number places words) ∷
    (BadPartition, any_word is_no_partition places words) ∷
    (BadE, any_word is_no_e places words) ∷
    (DegreePast, any_word (passes_limit m) places words) ∷
    (DegreePast, any_word (passes_together n) places words) ∷
    (DegreesDiffer, any_word (is_of_other_degree n) places words) ∷
    (BadResidue, any_word (is_no_residue e) places words) ∷
    (NotRegular, any_word (is_irregular e) places words) ∷
    (label_fault convention, any_word (is_no_label convention e) places words) ∷
    (UnknownConvention, any_word is_no_convention places words) ∷ []

unfoldable pub first_fault : Convention → List Place → List (List ℕ) → Option LineFault
first_fault convention places words =
    option_map (λ fault. fault.0) (find (λ fault. fault.1) (faults convention places words))
