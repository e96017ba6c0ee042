-- The commands: the first word of each, the places behind it, and what its words say. This project's own.
use Rattle.std.specs.Prelude.{ℕ, ◌-◌, ◌^◌, min, nat_eq, List, [], ◌∷◌, Option, find, unwrap_or, codes, map}
use Rattle.std.specs.Prelude.{slice_index_or}
use Rattle.std.specs.Cmp.Lexicographic.{pointwise}
use Rattle.sp_partition.specs.Reading.{number_of, partition_of}
use Rattle.sp_lang.specs.Words.{pieces}
use Rattle.sp_lang.specs.Convention.{convention_said}
use Rattle.sp_lang.specs.declared.command.Command.{Command}
use Rattle.sp_lang.specs.declared.command.Command.TheVariants as command
use Rattle.sp_lang.specs.declared.verb.Verb.{Verb}
use Rattle.sp_lang.specs.declared.verb.Verb.TheVariants.{Partitions, Regular, Conjugate, Dominates, Diagram, Hooks}
use Rattle.sp_lang.specs.declared.verb.Verb.TheVariants.{Content, Core, Combine, Abacus, Good, Path, Mullineux}
use Rattle.sp_lang.specs.declared.verb.Verb.TheVariants.{Induce, Ladders, Ladder, Row, Crystal, Decomposition}
use Rattle.sp_lang.specs.declared.verb.Verb.TheVariants.{Block, Painter, Jantzen, Schaper, Dim, Dims}
use Rattle.sp_lang.specs.declared.verb.Verb.TheVariants.{Certificate, Check, Convention, Restrict, Commutator}
use Rattle.sp_lang.specs.declared.verb.Verb.TheVariants.{Branch, Product, Fillings, Blocks, Inverse, Simple, Cartan}
use Rattle.sp_lang.specs.declared.verb.Place.{Place}
use Rattle.sp_lang.specs.declared.verb.Place.TheVariants.{E, Residue, Count, Degree, Partition, Peer, Grown, Factor}
use Rattle.sp_lang.specs.declared.verb.Place.TheVariants.{Label, Heading, Quotient, Weight, Name}
use Rattle.sp_lang.specs.declared.verb.Place.TheVariants as place

abbrev pub name_of : Verb → List ℕ
name_of Partitions = codes "partitions"
name_of Regular = codes "regular"
name_of Conjugate = codes "conjugate"
name_of Dominates = codes "dominates"
name_of Diagram = codes "diagram"
name_of Hooks = codes "hooks"
name_of Content = codes "content"
name_of Core = codes "core"
name_of Combine = codes "combine"
name_of Abacus = codes "abacus"
name_of Good = codes "good"
name_of Path = codes "path"
name_of Mullineux = codes "mullineux"
name_of Induce = codes "induce"
name_of Ladders = codes "ladders"
name_of Ladder = codes "ladder"
name_of Row = codes "row"
name_of Crystal = codes "crystal"
name_of Decomposition = codes "decomposition"
name_of Block = codes "block"
name_of Painter = codes "painter"
name_of Jantzen = codes "jantzen"
name_of Schaper = codes "schaper"
name_of Dim = codes "dim"
name_of Dims = codes "dims"
name_of Certificate = codes "certificate"
name_of Check = codes "check"
name_of Convention = codes "convention"
name_of Restrict = codes "restrict"
name_of Commutator = codes "commutator"
name_of Branch = codes "branch"
name_of Product = codes "product"
name_of Fillings = codes "fillings"
name_of Blocks = codes "blocks"
name_of Inverse = codes "inverse"
name_of Simple = codes "simple"
name_of Cartan = codes "cartan"

abbrev pub places_of : Verb → List Place
places_of Partitions = Degree ∷ []
places_of Regular = E ∷ Degree ∷ []
places_of Conjugate = Partition ∷ []
places_of Dominates = Partition ∷ Peer ∷ []
places_of Diagram = E ∷ Partition ∷ []
places_of Hooks = Partition ∷ []
places_of Content = E ∷ Partition ∷ []
places_of Core = E ∷ Partition ∷ []
places_of Combine = E ∷ Partition ∷ Quotient ∷ []
places_of Abacus = E ∷ Partition ∷ []
places_of Good = E ∷ Partition ∷ []
places_of Path = E ∷ Label ∷ []
places_of Mullineux = E ∷ Label ∷ []
places_of Induce = E ∷ Residue ∷ Count ∷ Grown ∷ []
places_of Ladders = E ∷ Label ∷ []
places_of Ladder = E ∷ Heading ∷ []
places_of Row = E ∷ Heading ∷ []
places_of Crystal = E ∷ Degree ∷ []
places_of Decomposition = E ∷ Degree ∷ []
places_of Block = E ∷ Partition ∷ Weight ∷ []
places_of Painter = Name ∷ []
places_of Jantzen = E ∷ Partition ∷ []
places_of Schaper = E ∷ Degree ∷ []
places_of Dim = Partition ∷ []
places_of Dims = E ∷ Degree ∷ []
places_of Certificate = E ∷ Degree ∷ []
places_of Check = []
places_of Convention = place.Convention ∷ []
places_of Restrict = E ∷ Residue ∷ Partition ∷ []
places_of Commutator = E ∷ Residue ∷ Residue ∷ Partition ∷ []
places_of Branch = E ∷ Residue ∷ Label ∷ []
places_of Product = Partition ∷ Factor ∷ []
places_of Fillings = Partition ∷ Factor ∷ Partition ∷ []
places_of Blocks = E ∷ Degree ∷ []
places_of Inverse = E ∷ Degree ∷ []
places_of Simple = E ∷ Label ∷ []
places_of Cartan = E ∷ Degree ∷ []

abbrev pub verbs : List Verb
verbs =
    Partitions ∷ Regular ∷ Conjugate ∷ Dominates ∷ Diagram ∷ Hooks ∷ Content ∷ Core ∷ Combine ∷ Abacus ∷ Good ∷ Path
    ∷ Mullineux ∷ Induce ∷ Ladders ∷ Ladder ∷ Row ∷ Crystal ∷ Decomposition ∷ Block ∷ Painter ∷ Jantzen ∷ Schaper
    ∷ Dim ∷ Dims ∷ Certificate ∷ Check ∷ Convention ∷ Restrict ∷ Commutator ∷ Branch ∷ Product ∷ Fillings ∷ Blocks
    ∷ Inverse ∷ Simple ∷ Cartan ∷ []

-- The command whose first word this is.
unfoldable pub verb_of : List ℕ → Option Verb
verb_of word = find (λ verb. pointwise nat_eq (name_of verb) word) verbs

-- What a word says that says a number, and what one says that says a partition.
abbrev pub number : List ℕ → ℕ
number word = unwrap_or (number_of word) 0

abbrev pub partition : List ℕ → List ℕ
partition word = unwrap_or (partition_of word) []

-- A weight is read up to the greatest number of 64 bits.
abbrev pub weight : List ℕ → ℕ
weight word = min (number word) (2 ^ 64 - 1)

-- The word at a place that is counted from 0.
abbrev pub word_at : List (List ℕ) → ℕ → List ℕ
word_at words k = slice_index_or words k []

abbrev pub partitions : List ℕ → List (List ℕ)
partitions word = map partition (pieces word)

-- The command, by what its words say at each place, and the words.
abbrev pub command_with : (ℕ → ℕ) → (ℕ → List ℕ) → (ℕ → List (List ℕ)) → List (List ℕ) → Verb → Command
command_with number_at partition_at partitions_at words Partitions = command.Partitions (number_at 0)
command_with number_at partition_at partitions_at words Regular = command.Regular (number_at 0) (number_at 1)
command_with number_at partition_at partitions_at words Conjugate = command.Conjugate (partition_at 0)
command_with number_at partition_at partitions_at words Dominates =
    command.Dominates (partition_at 0) (partition_at 1)
command_with number_at partition_at partitions_at words Diagram = command.Diagram (number_at 0) (partition_at 1)
command_with number_at partition_at partitions_at words Hooks = command.Hooks (partition_at 0)
command_with number_at partition_at partitions_at words Content = command.Content (number_at 0) (partition_at 1)
command_with number_at partition_at partitions_at words Core = command.Core (number_at 0) (partition_at 1)
command_with number_at partition_at partitions_at words Combine =
    command.Combine (number_at 0) (partition_at 1) (partitions_at 2)
command_with number_at partition_at partitions_at words Abacus = command.Abacus (number_at 0) (partition_at 1)
command_with number_at partition_at partitions_at words Good = command.Good (number_at 0) (partition_at 1)
command_with number_at partition_at partitions_at words Path = command.Path (number_at 0) (partition_at 1)
command_with number_at partition_at partitions_at words Mullineux = command.Mullineux (number_at 0) (partition_at 1)
command_with number_at partition_at partitions_at words Induce =
    command.Induce (number_at 0) (number_at 1) (number_at 2) (partition_at 3)
command_with number_at partition_at partitions_at words Ladders = command.Ladders (number_at 0) (partition_at 1)
command_with number_at partition_at partitions_at words Ladder = command.Ladder (number_at 0) (partition_at 1)
command_with number_at partition_at partitions_at words Row = command.Row (number_at 0) (partition_at 1)
command_with number_at partition_at partitions_at words Crystal = command.Crystal (number_at 0) (number_at 1)
command_with number_at partition_at partitions_at words Decomposition =
    command.Decomposition (number_at 0) (number_at 1)
command_with number_at partition_at partitions_at words Block =
    command.Block (number_at 0) (partition_at 1) (weight (word_at words 2))
command_with number_at partition_at partitions_at words Painter = command.Painter (word_at words 0)
command_with number_at partition_at partitions_at words Jantzen = command.Jantzen (number_at 0) (partition_at 1)
command_with number_at partition_at partitions_at words Schaper = command.Schaper (number_at 0) (number_at 1)
command_with number_at partition_at partitions_at words Dim = command.Dim (partition_at 0)
command_with number_at partition_at partitions_at words Dims = command.Dims (number_at 0) (number_at 1)
command_with number_at partition_at partitions_at words Certificate =
    command.Certificate (number_at 0) (number_at 1)
command_with number_at partition_at partitions_at words Check = command.Check
command_with number_at partition_at partitions_at words Convention =
    command.Convention (convention_said (word_at words 0))
command_with number_at partition_at partitions_at words Restrict =
    command.Restrict (number_at 0) (number_at 1) (partition_at 2)
command_with number_at partition_at partitions_at words Commutator =
    command.Commutator (number_at 0) (number_at 1) (number_at 2) (partition_at 3)
command_with number_at partition_at partitions_at words Branch =
    command.Branch (number_at 0) (number_at 1) (partition_at 2)
command_with number_at partition_at partitions_at words Product = command.Product (partition_at 0) (partition_at 1)
command_with number_at partition_at partitions_at words Fillings =
    command.Fillings (partition_at 0) (partition_at 1) (partition_at 2)
command_with number_at partition_at partitions_at words Blocks = command.Blocks (number_at 0) (number_at 1)
command_with number_at partition_at partitions_at words Inverse = command.Inverse (number_at 0) (number_at 1)
command_with number_at partition_at partitions_at words Simple = command.Simple (number_at 0) (partition_at 1)
command_with number_at partition_at partitions_at words Cartan = command.Cartan (number_at 0) (number_at 1)

-- What the words behind the first one say.
unfoldable pub command_of : Verb → List (List ℕ) → Command
command_of verb words =
    command_with (λ k. number (word_at words k)) (λ k. partition (word_at words k)) (λ k. partitions (word_at words k))
    words verb
