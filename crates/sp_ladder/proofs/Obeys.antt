-- The ladder law at the entries of a ladder vector.
use Rattle.std.proofs.Common.{◌≢◌, ℕ, List, [], refl, ◌∙◌}
use Rattle.std.specs.List.{AllByRecursion}
use Rattle.sp_defs.specs.Partition.{degree, partitions, IsPartition, IsPartitionOf, Dominates}
use Rattle.sp_defs.specs.Laurent.{Laurent}
use Rattle.sp_defs.specs.Power.{entries}
use Rattle.sp_defs.specs.Ladder.{ladder_vector}
use Rattle.sp_defs.specs.Statements.{IsLabel, SameContent}
use Rattle.sp_lists.proofs.Places.{all_weaken}
use Rattle.sp_shapes.proofs.Listing.{all_partitions}
use Rattle.sp_fock_law.proofs.Vectors.{all_at, vector_of-entries}
use Rattle.sp_ladder_law.proofs.LadderLaw.{ladder_law}
use Rattle.sp_ladder_law.proofs.Contents.{ladder_content}
use Rattle.sp_ladder.specs.Obeys.{ObeysLadderLaw}

-- What holds wherever the vector isn't 0 holds of its entries.
at_entries : (e : ℕ) (mu : List ℕ) (P : List ℕ × Laurent → Type 0) →
    ((lambda : List ℕ) → IsPartition lambda → ladder_vector e mu lambda ≢ [] → P (lambda, ladder_vector e mu lambda)) →
    AllByRecursion P (entries (degree mu) (ladder_vector e mu))
at_entries e mu P h =
    all_at P (partitions (degree mu)) (ladder_vector e mu)
    (all_weaken (IsPartitionOf (degree mu)) (λ x. ladder_vector e mu x ≢ [] → P (x, ladder_vector e mu x))
    (partitions (degree mu))
    (λ x is ne. h x is.partition ne) (all_partitions (degree mu)))

-- The ladder law, entry by entry.
pub obeys : (e : ℕ) (mu : List ℕ) → IsLabel e mu → ObeysLadderLaw e mu (entries (degree mu) (ladder_vector e mu))
obeys e mu label = record {
  at_mu =
      vector_of-entries (degree mu) (ladder_vector e mu) mu (record { partition = label.partition; total = refl })
      ∙ (ladder_law e mu label).at_mu;
  below = at_entries e mu (λ t. Dominates mu t.0) (λ lambda is ne. (ladder_law e mu label).below lambda is ne);
  contents = at_entries e mu (λ t. SameContent e mu t.0) (λ lambda is ne. ladder_content e mu label lambda ne);
  positive = at_entries e mu _ (λ lambda is ne. (ladder_law e mu label).positive lambda);
}
