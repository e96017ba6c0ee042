-- The partition of the next rank: it is e-regular, earlier than mu, and has mu's content.
use Rattle.std.proofs.Common.{◌≡◌, ◌≢◌, ℕ, ◌<◌, ◌≤◌, true, false, List, [], length, sym, ◌∙◌, ap, subst, arith, Some}
use Rattle.std.proofs.Common.{Less, ◌⊎◌, inl, inr}
use Rattle.std.proofs.lemmas.List.{get_or_past}
use Rattle.std.specs.List.{AllByRecursion}
use Rattle.sp_defs.specs.Partition.{degree, regulars, compare, IsRegularOf}
use Rattle.sp_defs.specs.Row.{earlier, regular_row, shares}
use Rattle.sp_defs.specs.Laurent.{one}
use Rattle.sp_defs.specs.Statements.{IsLabel, SameContent}
use Rattle.sp_lists.proofs.Elements.{le_or_lt}
use Rattle.sp_lists.proofs.Places.{all_at}
use Rattle.sp_shapes.proofs.Before.{all_before}
use Rattle.sp_triangle.proofs.Shares.{from_keys}
use Rattle.sp_row_law.proofs.Contents.{row_content_law}
use Rattle.sp_row_law.proofs.RowsLaw.{rows_law}
use Rattle.sp_row_law.proofs.Setting.{Good, good_earlier, label as is_label}
use Rattle.sp_outcome_law.specs.Asking.{is_nonzero, share_at, next_rank}
use Rattle.sp_outcome_law.proofs.Listed.{nonempty}
use Rattle.sp_outcome_law.proofs.Reached.{step}
use Rattle.sp_outcome_law.proofs.Ranks.{keys, length_shares, earlier_at, rank_of, rank_within}

-- a share that isn't 0 has a rank below mu's
pub below_rank : (e : ℕ) (mu : List ℕ) (j : ℕ) → is_nonzero (share_at e mu j) ≡ true → j < length (earlier e mu)
unfolding share_at
below_rank e mu j h = settle (le_or_lt (length (shares e mu)) j)
  where
    settle : (length (shares e mu) ≤ j) ⊎ (j < length (shares e mu)) → j < length (earlier e mu)
    settle (inl le) = absurd
        (let z = ap is_nonzero (get_or_past (shares e mu) j ([], []) le) in
        let w : false ≡ true = sym z ∙ h in cc)
    settle (inr lt) = omega (arith, lt, length_shares e mu)

-- what holds of the earlier partitions holds of the shares' partitions
at_share : (e : ℕ) (mu : List ℕ) (P : List ℕ → Type 0) → AllByRecursion P (earlier e mu) → (j : ℕ) →
    j < length (earlier e mu) → P (share_at e mu j).0
unfolding share_at
at_share e mu P h j lt = all_at (λ a. P a.0) (shares e mu) j ([], [])
    (from_keys P (shares e mu) (subst (AllByRecursion P) (sym (keys e mu)) h)) (omega (arith, lt, length_shares e mu))

content_at : (e : ℕ) (mu : List ℕ) → IsLabel e mu → (j : ℕ) → j < length (earlier e mu) →
    (share_at e mu j).1 ≢ [] → SameContent e mu (share_at e mu j).0
unfolding share_at
content_at e mu is j lt = all_at (λ a. a.1 ≢ [] → SameContent e mu a.0) (shares e mu) j ([], [])
    (row_content_law e mu is).shares_at (omega (arith, lt, length_shares e mu))

-- ranks, as numbers of earlier partitions
pub rank_at : (e : ℕ) (mu : List ℕ) → IsLabel e mu → (j : ℕ) → j < length (earlier e mu) →
    length (earlier e (share_at e mu j).0) ≡ j
rank_at e mu is j lt = sym
    (rank_of e (degree mu) j (share_at e mu j).0 [] (omega (arith, lt, rank_within e mu is))
    (earlier_at e mu is j [] lt) regular.total)
  where
    regular : IsRegularOf e (degree mu) (share_at e mu j).0
    regular = at_share e mu (Good e mu) (good_earlier e mu) j lt

-- what the next rank says: its share isn't 0, and its partition is a label before mu, with mu's content
pub record IsNext (e : ℕ) (mu : List ℕ) (t j : ℕ) : Type 0 where
  pub lower : j < t
  pub rank : j < length (earlier e mu)
  pub nonzero : (share_at e mu j).1 ≢ []
  pub regular : IsRegularOf e (degree mu) (share_at e mu j).0
  pub label : IsLabel e (share_at e mu j).0
  pub before_mu : compare (share_at e mu j).0 mu ≡ Less
  pub content : SameContent e mu (share_at e mu j).0
  pub at_itself : regular_row e (share_at e mu j).0 (share_at e mu j).0 ≡ one

-- The rank that is found is the next one.
pub is_next : (e : ℕ) (mu : List ℕ) → IsLabel e mu → (t j : ℕ) → next_rank e mu t ≡ Some j → IsNext e mu t j
is_next e mu is t j h = record {
  lower = (step e mu t j h).lower;
  rank = rank;
  nonzero = nonzero;
  regular = regular;
  label = label;
  before_mu = at_share e mu (λ x. compare x mu ≡ Less) (all_before mu (regulars e (degree mu))) j rank;
  content = content_at e mu is j rank nonzero;
  at_itself = (rows_law e (share_at e mu j).0 label).at_mu;
}
  where
    rank : j < length (earlier e mu)
    rank = below_rank e mu j (step e mu t j h).nonzero

    nonzero : (share_at e mu j).1 ≢ []
    nonzero = nonempty (share_at e mu j).1 (step e mu t j h).nonzero

    regular : IsRegularOf e (degree mu) (share_at e mu j).0
    regular = at_share e mu (Good e mu) (good_earlier e mu) j rank

    label : IsLabel e (share_at e mu j).0
    label = is_label e (degree mu) (share_at e mu j).0 is.e_least regular
