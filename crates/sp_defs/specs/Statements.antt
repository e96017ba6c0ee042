-- The theorems on ladder vectors, rows and good nodes, as statements that contracts name.
-- Lascoux, Leclerc and Thibon, 1996: Hecke algebras at roots of unity and crystal bases of quantum affine algebras.
use Rattle.std.specs.Prelude.{◌≡◌, ◌≢◌, ℕ, ◌≤◌, ◌<◌, Some, true, List, [], map, pos, ◌<ℤ◌}
use Rattle.std.specs.List.{AllByRecursion}
use Rattle.sp_defs.specs.Partition.{degree, IsPartition, Dominates, is_regular, regulars}
use Rattle.sp_defs.specs.Node.{Node, content}
use Rattle.sp_defs.specs.Laurent.{one, plus, IsBarInvariant, IsPositive}
use Rattle.sp_defs.specs.Power.{Vector}
use Rattle.sp_defs.specs.Ladder.{ladder_vector}
use Rattle.sp_defs.specs.Signature.{good, cogood, add_node, remove_node}
use Rattle.sp_defs.specs.Row.{Factors, InSpan, IsRow, regular_row, shares, earlier, combination}

-- An e-regular partition, for an e of at least 2.
-- (Dipper and James, Representations of Hecke algebras of general linear groups, 1986)
pub record IsLabel (e : ℕ) (mu : List ℕ) : Type 0 where
  pub e_least : 2 ≤ e
  pub partition : IsPartition mu
  pub regular : is_regular e mu ≡ true

-- The ladder vector of mu has 1 at mu, each other partition in it is dominated by mu, and its coefficients are
-- positive.
-- (Lascoux, Leclerc and Thibon, Comm. Math. Phys. 181, 1996, section 6)
pub record LadderFacts (e : ℕ) (mu : List ℕ) : Type 0 where
  pub at_mu : ladder_vector e mu mu ≡ one
  pub below : (lambda : List ℕ) → IsPartition lambda → ladder_vector e mu lambda ≢ [] → Dominates mu lambda
  pub positive : (lambda : List ℕ) → AllByRecursion (λ t. pos 0 <ℤ t.1) (ladder_vector e mu lambda)

-- LadderFacts for each e and mu.
abbrev pub LadderLaw : Type 0
LadderLaw = (e : ℕ) (mu : List ℕ) → IsLabel e mu → LadderFacts e mu

-- At each other e-regular partition a vector has positive powers alone (this project's own).
abbrev pub PositiveElsewhere : ℕ → List ℕ → Vector → Type 0
PositiveElsewhere e mu w = AllByRecursion (λ nu. nu ≢ mu → IsPositive (w nu)) (regulars e (degree mu))

-- The regular row of mu is in the span, has 1 at mu, and positive powers alone at each other regular partition.
-- (Lascoux, Leclerc and Thibon, Comm. Math. Phys. 181, 1996, sections 5, 6; uniqueness: Lusztig 1990; Kashiwara 1991)
pub record RowFacts (e : ℕ) (mu : List ℕ) : Type 0 where
  pub in_span : InSpan e (degree mu) (regular_row e mu)
  pub at_mu : regular_row e mu mu ≡ one
  pub elsewhere : PositiveElsewhere e mu (regular_row e mu)
  -- it is the only such vector of the span
  pub only : (w : Vector) → InSpan e (degree mu) w → w mu ≡ one → PositiveElsewhere e mu w → (lambda : List ℕ) →
      IsPartition lambda → w lambda ≡ regular_row e mu lambda
  -- so every row is it
  pub row_is : (w : Vector) → IsRow e mu w → (lambda : List ℕ) → IsPartition lambda → w lambda ≡ regular_row e mu lambda
  -- the shares are bar-invariant and give the ladder vector back, and no others do
  pub shares_invariant : AllByRecursion (λ a. IsBarInvariant a.1) (shares e mu)
  pub shares_sum : (lambda : List ℕ) →
      ladder_vector e mu lambda ≡ plus (regular_row e mu lambda) (combination (regular_row e) (shares e mu) lambda)
  pub shares_only : (others : Factors) → map (λ a. a.0) others ≡ earlier e mu →
      AllByRecursion (λ a. IsBarInvariant a.1) others →
      ((lambda : List ℕ) → IsPartition lambda →
      ladder_vector e mu lambda ≡ plus (regular_row e mu lambda) (combination (regular_row e) others lambda)) →
      others ≡ shares e mu

-- RowFacts for each e and mu.
abbrev pub RowsLaw : Type 0
RowsLaw = (e : ℕ) (mu : List ℕ) → IsLabel e mu → RowFacts e mu

-- The same number of nodes of each residue.
-- (James and Kerber, The Representation Theory of the Symmetric Group, ch. 2)
abbrev pub SameContent : ℕ → List ℕ → List ℕ → Type 0
SameContent e mu nu = (i : ℕ) → content e mu i ≡ content e nu i

-- Each partition in the ladder vector of mu has mu's content.
-- (Lascoux, Leclerc and Thibon, Comm. Math. Phys. 181, 1996, section 6)
abbrev pub LadderContentLaw : Type 0
LadderContentLaw =
    (e : ℕ) (mu : List ℕ) → IsLabel e mu → (lambda : List ℕ) → ladder_vector e mu lambda ≢ [] → SameContent e mu lambda

-- Each partition in the regular row of mu has mu's content, and so have the partitions of its shares.
-- (Lascoux, Leclerc and Thibon, Comm. Math. Phys. 181, 1996, section 6)
pub record RowContent (e : ℕ) (mu : List ℕ) : Type 0 where
  pub row : (lambda : List ℕ) → regular_row e mu lambda ≢ [] → SameContent e mu lambda
  pub shares_at : AllByRecursion (λ a. a.1 ≢ [] → SameContent e mu a.0) (shares e mu)

-- RowContent for each e and mu.
abbrev pub RowContentLaw : Type 0
RowContentLaw = (e : ℕ) (mu : List ℕ) → IsLabel e mu → RowContent e mu

-- Good and cogood moves keep e-regularity, and an e-regular partition that isn't empty has a good node.
-- (Kleshchev, Branching rules for modular representations of symmetric groups II, 1995; Mathas, ch. 6)
pub record MoveFacts (e : ℕ) (mu : List ℕ) : Type 0 where
  pub good_keeps : (i : ℕ) (x : Node) → good e i mu ≡ Some x → IsLabel e (remove_node mu x)
  pub cogood_keeps : (i : ℕ) (x : Node) → cogood e i mu ≡ Some x → IsLabel e (add_node mu x)
  pub good_exists : mu ≢ [] → (i : ℕ) × (i < e) × (x : Node) × (good e i mu ≡ Some x)

-- MoveFacts for each e and mu.
abbrev pub MoveLaw : Type 0
MoveLaw = (e : ℕ) (mu : List ℕ) → IsLabel e mu → MoveFacts e mu
