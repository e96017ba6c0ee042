-- The labels of rows and columns, and the words that choose them.
use Rattle.std.specs.Prelude.{ℕ, nat_eq, List, [], ◌∷◌, Option, find, unwrap_or, codes}
use Rattle.std.specs.Cmp.Lexicographic.{pointwise}
use Rattle.sp_defs.specs.Partition.{conjugate}
use Rattle.sp_lang.specs.declared.convention.Convention.{Convention}
use Rattle.sp_lang.specs.declared.convention.Convention.TheVariants.{Regular, Restricted}
use Rattle.sp_lang.specs.declared.fault.LineFault.{LineFault}
use Rattle.sp_lang.specs.declared.fault.LineFault.TheVariants.{NotRegular, NotRestricted}

-- The partition that one stands for. Rows are labelled by e-regular partitions (Dipper and James, Representations of
-- Hecke algebras of general linear groups, 1986, section 7), or by e-restricted ones, which are the conjugates of those
-- (Mathas, Iwahori-Hecke Algebras and Schur Algebras of the Symmetric Group, ch. 3).
abbrev pub label_in : Convention → List ℕ → List ℕ
label_in Regular p = p
label_in Restricted p = conjugate p

-- The word that chooses a convention (this project's own).
abbrev pub name_of : Convention → List ℕ
name_of Regular = codes "regular"
name_of Restricted = codes "restricted"

abbrev pub conventions : List Convention
conventions = Regular ∷ Restricted ∷ []

-- The convention that a word chooses (this project's own).
unfoldable pub convention_of : List ℕ → Option Convention
convention_of word = find (λ convention. pointwise nat_eq (name_of convention) word) conventions

-- The same, where one is chosen.
abbrev pub convention_said : List ℕ → Convention
convention_said word = unwrap_or (convention_of word) Regular

-- What is said of a partition that is no label (this project's own).
abbrev pub label_fault : Convention → LineFault
label_fault Regular = NotRegular
label_fault Restricted = NotRestricted
