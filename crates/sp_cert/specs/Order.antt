-- The order of the columns of a certificate.
use Rattle.std.specs.Prelude.{ℕ, Bool, not, cond, nat_eq, List, filter, flat_map}
use Rattle.std.specs.List.{list_all, list_any, range_with_len}
use Rattle.sp_defs.specs.Partition.{regulars}
use Rattle.sp_defs.specs.Node.{content}
use Rattle.sp_defs.specs.Row.{before}

-- The same number of nodes of each residue, as a test.
-- (James and Kerber, The Representation Theory of the Symmetric Group, ch. 2)
abbrev pub same_content : ℕ → List ℕ → List ℕ → Bool
same_content e mu nu = list_all (λ i. nat_eq (content e mu i) (content e nu i)) (range_with_len 0 e)

-- The e-regular partitions of n with the content of mu, ascending: the columns of a block (this project's own).
abbrev pub block_of : ℕ → ℕ → List ℕ → List (List ℕ)
block_of e n mu = filter (same_content e mu) (regulars e n)

-- The least e-regular partition of n of each content, ascending (this project's own).
abbrev pub leaders : ℕ → ℕ → List (List ℕ)
leaders e n = filter (λ mu. not (list_any (same_content e mu) (before mu (regulars e n)))) (regulars e n)

-- The columns of a certificate: in version 1 all e-regular partitions of n, ascending, and in version 2 block by block,
-- in the order of the least partition of each (this project's own).
unfoldable pub columns_of : ℕ → ℕ → ℕ → List (List ℕ)
columns_of version e n = cond (nat_eq version 1) (regulars e n) (flat_map (block_of e n) (leaders e n))
