-- Sums over chains: the last step is a divided power, what is reached by steps, and that coefficients are positive.
use Rattle.std.proofs.Common.{◌≡◌, ◌≢◌, ℕ, true, List, [], ◌∷◌, map, refl, sym}
use Rattle.std.proofs.Common.{◌∙◌}
use Rattle.std.proofs.Common.{ap, subst, ◌-◌}
use Rattle.std.specs.List.{AllByRecursion}
use Rattle.sp_defs.specs.Partition.{degree, partitions, IsPartition, IsPartitionOf}
use Rattle.sp_defs.specs.Laurent.{Laurent, times, power, IsLaurent, sum_over}
use Rattle.sp_defs.specs.Power.{is_move, exponent, sources, divided_power}
use Rattle.sp_defs.specs.Ladder.{Step, chains_to, chain_exponent, chain_sum}
use Rattle.sp_lists.proofs.Elements.{all_every, all_map, all_flat, all_filter}
use Rattle.sp_lists.proofs.Places.{all_weaken}
use Rattle.sp_algebra.proofs.Laws.{times_nought}
use Rattle.sp_algebra.proofs.Sums.{IsLaurent-sum_over, sum_over-alike, sum_over-flat, sum_over-map, times-sum_over}
use Rattle.sp_algebra.proofs.Sums.{power-times, nonzero_term}
use Rattle.sp_algebra.proofs.Positive.{AllPositive, positive_sum}
use Rattle.sp_shapes.proofs.Listing.{all_partitions}

-- v to the exponent of one step, and of a chain
abbrev step_power : ℕ → Step → List ℕ → List ℕ → Laurent
step_power e s before last = power (exponent e s.residue before last)

abbrev chain_power : ℕ → List Step → List (List ℕ) → Laurent
chain_power e backward chain = power (chain_exponent e backward chain)

-- ---- each chain begins at its last partition

Starts : List ℕ → List (List ℕ) → Type 0
Starts last chain = (rest : List (List ℕ)) × (chain ≡ last ∷ rest)

all_start : (e : ℕ) (backward : List Step) (last : List ℕ) → AllByRecursion (Starts last) (chains_to e backward last)
unfolding chains_to Starts
all_start e [] [] = (([], refl), tt)
all_start e [] (p ∷ parts) = tt
all_start e (s ∷ earlier) last =
    all_flat (Starts last) (λ before. map (λ chain. last ∷ chain) (chains_to e earlier before))
    (sources e s.residue s.count last)
    (all_every (λ before. AllByRecursion (Starts last) (map (λ chain. last ∷ chain) (chains_to e earlier before)))
    (sources e s.residue s.count last) one_source)
  where
    one_source : (before : List ℕ) →
        AllByRecursion (Starts last) (map (λ chain. last ∷ chain) (chains_to e earlier before))
    one_source before = all_map (Starts last) (λ chain. last ∷ chain) (chains_to e earlier before)
        (all_every (λ chain. Starts last (last ∷ chain)) (chains_to e earlier before) (λ chain. (chain, refl)))

-- ---- the sum over chains is what the divided powers give, one after the other

-- one step more multiplies by its power
OneMore : ℕ → Step → List Step → List ℕ → List ℕ → List (List ℕ) → Type 0
OneMore e s earlier last before chain =
    chain_power e (s ∷ earlier) (last ∷ chain) ≡ times (step_power e s before last) (chain_power e earlier chain)

one_more : (e : ℕ) (s : Step) (earlier : List Step) (last before : List ℕ) (chain : List (List ℕ)) →
    Starts before chain → OneMore e s earlier last before chain
unfolding chain_exponent Starts OneMore
one_more e s earlier last before chain (rest, is) =
    subst
    (λ c. chain_power e (s ∷ earlier) (last ∷ c) ≡ times (step_power e s before last) (chain_power e earlier c))
    (sym is) (sym (power-times (exponent e s.residue before last) (chain_exponent e earlier (before ∷ rest))))

-- the chains through one source
by_source : (e : ℕ) (s : Step) (earlier : List Step) (last before : List ℕ) →
    sum_over (map (λ chain. last ∷ chain) (chains_to e earlier before)) (chain_power e (s ∷ earlier))
    ≡ times (step_power e s before last) (chain_sum e earlier before)
unfolding chain_sum OneMore
by_source e s earlier last before =
    sum_over-map (λ chain. last ∷ chain) chains (chain_power e (s ∷ earlier))
    ∙ sum_over-alike chains _ _
    (all_weaken (Starts before) (OneMore e s earlier last before) chains (one_more e s earlier last before)
    (all_start e earlier before))
    ∙ sym (times-sum_over (step_power e s before last) chains (chain_power e earlier))
  where
    chains : List (List (List ℕ))
    chains = chains_to e earlier before

-- One step more: the sum over chains is a divided power of the sum before.
pub chain_step : (e : ℕ) (s : Step) (earlier : List Step) (last : List ℕ) →
    chain_sum e (s ∷ earlier) last ≡ divided_power e s.residue s.count (chain_sum e earlier) last
unfolding chain_sum chains_to divided_power
chain_step e s earlier last =
    sum_over-flat through befores (chain_power e (s ∷ earlier))
    ∙ sum_over-alike befores _ _
    (all_every
    (λ before. sum_over (through before) (chain_power e (s ∷ earlier)) ≡
    times (step_power e s before last) (chain_sum e earlier before))
    befores (by_source e s earlier last))
  where
    befores : List (List ℕ)
    befores = sources e s.residue s.count last

    through : List ℕ → List (List (List ℕ))
    through before = map (λ chain. last ∷ chain) (chains_to e earlier before)

-- A sum over chains is a Laurent polynomial.
pub IsLaurent-chain_sum : (e : ℕ) (backward : List Step) (last : List ℕ) → IsLaurent (chain_sum e backward last)
unfolding chain_sum
IsLaurent-chain_sum e backward last = IsLaurent-sum_over (chains_to e backward last) (chain_power e backward)

-- ---- what is reached: a partition with a chain of moves from the empty one

-- The partition has a chain of moves from the empty one.
unfoldable pub Reached : ℕ → List Step → List ℕ → Type 0
Reached e [] last = last ≡ []
Reached e (s ∷ earlier) last =
    (before : List ℕ) × IsPartition before × (is_move e s.residue s.count before last ≡ true) × Reached e earlier before

-- a partition from which the step leads to `last`
record Source (e : ℕ) (s : Step) (last before : List ℕ) : Type 0 where
  partition : IsPartitionOf (degree last - s.count) before
  move : is_move e s.residue s.count before last ≡ true

all_sources : (e : ℕ) (s : Step) (last : List ℕ) →
    AllByRecursion (Source e s last) (sources e s.residue s.count last)
unfolding sources
all_sources e s last =
    all_filter (Source e s last) (λ before. is_move e s.residue s.count before last)
    (partitions (degree last - s.count))
    (all_weaken (IsPartitionOf (degree last - s.count))
    (λ x. is_move e s.residue s.count x last ≡ true → Source e s last x) (partitions (degree last - s.count))
    (λ x h mv. record { partition = h; move = mv }) (all_partitions (degree last - s.count)))

-- where the sum over chains is not 0, one of its sources is reached
pub reached : (e : ℕ) (backward : List Step) (last : List ℕ) → chain_sum e backward last ≢ [] → Reached e backward last
unfolding Reached chain_sum chains_to sum_over divided_power
reached e [] [] ne = refl
reached e [] (p ∷ parts) ne = absurd (ne refl)
reached e (s ∷ earlier) last ne = from (nonzero_term (Source e s last) (sources e s.residue s.count last) term
    (all_sources e s last) (λ z. ne (chain_step e s earlier last ∙ z))) (reached e earlier)
  where
    term : List ℕ → Laurent
    term before = times (step_power e s before last) (chain_sum e earlier before)

    from : (x : List ℕ) × Source e s last x × (term x ≢ []) →
        ((last : List ℕ) → chain_sum e earlier last ≢ [] → Reached e earlier last) → Reached e (s ∷ earlier) last
    from (x, src, nz) again = (x, src.partition.partition, src.move, again x nonzero)
      where
        nonzero : chain_sum e earlier x ≢ []
        nonzero z = nz (ap (times (step_power e s x last)) z ∙ times_nought (step_power e s x last))

-- ---- positive coefficients

-- The coefficients of a sum over chains are positive.
pub positive_chain_sum : (e : ℕ) (backward : List Step) (last : List ℕ) → AllPositive (chain_sum e backward last)
unfolding chain_sum
positive_chain_sum e backward last = positive_sum (chains_to e backward last) (chain_exponent e backward)
