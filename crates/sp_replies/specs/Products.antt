-- Answers on products of Schur functions. This project's own.
use Rattle.std.specs.Prelude.{ℕ, ◌+◌, Bool, cond, nat_lt, List, [], ◌∷◌, map, flat_map, length, codes}
use Rattle.sp_defs.specs.Partition.{degree}
use Rattle.sp_defs.specs.Power.{Vector, entries}
use Rattle.sp_defs.specs.Text.{joined_by, partition_text, vector_text}
use Rattle.sp_fock_law.specs.Tally.{constant}
use Rattle.sp_lr_defs.specs.Listing.{chains_over, chains_to, littlewood_richardson}
use Rattle.sp_replies.specs.Refusals.{refusal_line}
use Rattle.sp_replies.specs.Words.{line_of}
use Rattle.sp_replies.specs.declared.products.TheConstants.{MOST_FILLINGS}
use Rattle.sp_replies.specs.declared.refusals.Refusal.TheVariants.{TooMany}

-- There are more fillings over lambda with content mu, of all partitions, than are counted or listed.
abbrev pub too_many : List ℕ → List ℕ → Bool
too_many lambda mu = nat_lt MOST_FILLINGS (length (chains_over lambda mu))

-- The product of the Schur functions of lambda and mu, as a vector: at nu it has the number of the fillings of nu.
-- (Macdonald, Symmetric Functions and Hall Polynomials, I.9)
abbrev pub schur_product : List ℕ → List ℕ → Vector
schur_product lambda mu nu = constant (littlewood_richardson lambda mu nu)

abbrev pub product_text : List ℕ → List ℕ → List ℕ
product_text lambda mu =
    cond (too_many lambda mu) (refusal_line TooMany)
    (line_of (vector_text (entries (degree lambda + degree mu) (schur_product lambda mu))))

-- The members of a chain, with a sign between each two.
abbrev pub chain_line : List (List ℕ) → List ℕ
chain_line chain = line_of (joined_by (codes " < ") (map partition_text chain))

-- One line each, and a dash where there is none.
abbrev pub chain_lines : List (List (List ℕ)) → List ℕ
chain_lines [] = line_of (codes "-")
chain_lines (chain ∷ chains) = flat_map chain_line (chain ∷ chains)

abbrev pub fillings_text : List ℕ → List ℕ → List ℕ → List ℕ
fillings_text lambda mu nu =
    cond (too_many lambda mu) (refusal_line TooMany) (chain_lines (chains_to lambda mu nu))
