-- Ladders and ladder vectors.
-- Lascoux, Leclerc and Thibon, 1996: Hecke algebras at roots of unity and crystal bases of quantum affine algebras.
use Rattle.std.specs.Prelude.{ℕ, ◌+◌, ◌-◌, ◌*◌, ◌%◌, nat_lt, nat_eq, List, [], ◌∷◌, map, reverse, length, count_by}
use Rattle.std.specs.Prelude.{filter, flat_map, max, fold, take, ℤ, pos, ◌+ℤ◌}
use Rattle.std.specs.List.{range_with_len}
use Rattle.sp_defs.specs.Partition.{degree, partitions, from_one_to}
use Rattle.sp_defs.specs.Node.{Node, nodes}
use Rattle.sp_defs.specs.Laurent.{power, sum_over, size}
use Rattle.sp_defs.specs.Power.{Vector, sources, exponent, greatest}

-- The ladder of a node.
-- (James, On the decomposition matrices of the symmetric groups II, 1976; James and Kerber 6.3)
abbrev pub ladder_of : ℕ → Node → ℕ
ladder_of e (r, c) = r + (e - 1) * (c - 1)

-- How many nodes of the partition stand on the ladder.
-- (James, On the decomposition matrices of the symmetric groups II, 1976; James and Kerber 6.3)
unfoldable pub on_ladder : ℕ → List ℕ → ℕ → ℕ
on_ladder e parts l = count_by (λ x. nat_eq (ladder_of e x) l) (nodes parts)

-- The greatest ladder on which the partition has a node, or 0 (this project's own).
abbrev pub ladders_end : ℕ → List ℕ → ℕ
ladders_end e parts = fold (λ m x. max m (ladder_of e x)) 0 (nodes parts)

-- The ladders on which the partition has nodes, ascending.
-- (James, On the decomposition matrices of the symmetric groups II, 1976; James and Kerber 6.3)
unfoldable pub ladders : ℕ → List ℕ → List ℕ
ladders e parts = filter (λ l. nat_lt 0 (on_ladder e parts l)) (from_one_to (ladders_end e parts))

-- A step adds `count` nodes of residue `residue`.
-- (Lascoux, Leclerc and Thibon, Comm. Math. Phys. 181, 1996, section 6)
pub record Step : Type 0 where
  pub residue : ℕ
  pub count : ℕ

-- The residue (1 - l) mod e of a ladder l, where e * l keeps the difference from being negative.
-- (James, On the decomposition matrices of the symmetric groups II, 1976; James and Kerber 6.3)
abbrev pub ladder_residue : ℕ → ℕ → ℕ
ladder_residue e l = (1 + e * l - l) % e

-- One step for each ladder, ascending.
-- (Lascoux, Leclerc and Thibon, Comm. Math. Phys. 181, 1996, section 6)
unfoldable pub steps : ℕ → List ℕ → List Step
steps e parts = map (λ l. record { residue = ladder_residue e l; count = on_ladder e parts l }) (ladders e parts)

-- A chain is a list of partitions, the last first. Each is reached from the next by its step, and the steps stand in
-- the same order, the last first.
-- All chains to `last`, which begin at the empty partition (this project's own).
unfoldable pub chains_to : ℕ → List Step → List ℕ → List (List (List ℕ))
chains_to e [] [] = ([] ∷ []) ∷ []
chains_to e [] (p ∷ parts) = []
chains_to e (s ∷ earlier) last =
    flat_map (λ before. map (λ chain. last ∷ chain) (chains_to e earlier before)) (sources e s.residue s.count last)

-- The exponents of the moves, added up (this project's own).
unfoldable pub chain_exponent : ℕ → List Step → List (List ℕ) → ℤ
chain_exponent e [] chain = pos 0
chain_exponent e (s ∷ earlier) [] = pos 0
chain_exponent e (s ∷ earlier) (after ∷ []) = pos 0
chain_exponent e (s ∷ earlier) (after ∷ before ∷ chain) =
    exponent e s.residue before after +ℤ chain_exponent e earlier (before ∷ chain)

-- The sum of v^exponent over all chains (this project's own).
unfoldable pub chain_sum : ℕ → List Step → Vector
chain_sum e backward last = sum_over (chains_to e backward last) (λ chain. power (chain_exponent e backward chain))

-- The ladder vector after its first t steps alone.
-- (Lascoux, Leclerc and Thibon, Comm. Math. Phys. 181, 1996, section 6)
unfoldable pub partial_ladder_vector : ℕ → List ℕ → ℕ → Vector
partial_ladder_vector e mu t = chain_sum e (reverse (take t (steps e mu)))

-- The ladder vector A(mu), after all steps.
-- (Lascoux, Leclerc and Thibon, Comm. Math. Phys. 181, 1996, section 6)
unfoldable pub ladder_vector : ℕ → List ℕ → Vector
ladder_vector e mu = chain_sum e (reverse (steps e mu))

-- The greatest size of a coefficient in a partial ladder vector: past the limit the ladder vector is too large.
-- (this project's own)
unfoldable pub ladder_weight : ℕ → List ℕ → ℕ
ladder_weight e mu =
    let sizes : ℕ → ℕ → List ℕ = λ t k. map (λ lambda. size (partial_ladder_vector e mu t lambda)) (partitions k) in
    let after_step : ℕ → List ℕ = λ t. flat_map (sizes t) (range_with_len 0 (degree mu + 1)) in
    greatest (flat_map after_step (range_with_len 0 (length (steps e mu) + 1)))
