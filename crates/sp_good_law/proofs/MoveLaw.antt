-- The law of good and cogood moves.
use Rattle.std.proofs.Common.{◌≢◌, ℕ, ◌<◌, List, [], ◌∷◌, refl, slice_index}
use Rattle.sp_defs.specs.Partition.{IsPartition}
use Rattle.sp_defs.specs.Statements.{MoveLaw}
use Rattle.sp_shapes.proofs.Diagram.{IsPartition-head}
use Rattle.sp_good_law.proofs.GoodNodes.{good_keeps, good_exists}
use Rattle.sp_good_law.proofs.CogoodNodes.{cogood_keeps}

not_empty : (mu : List ℕ) → IsPartition mu → mu ≢ [] → 0 < slice_index mu 0
not_empty [] h ne = absurd (ne refl)
not_empty (p ∷ mu) h ne = IsPartition-head p mu h

-- Good and cogood moves keep e-regularity.
pub move_law : MoveLaw
move_law e mu h = record {
  good_keeps = λ i x g.
      let k = good_keeps e h.e_least i mu h.partition h.regular x g in
      record { e_least = h.e_least; partition = k.0; regular = k.1 };
  cogood_keeps = λ i x g.
      let k = cogood_keeps e h.e_least i mu h.partition h.regular x g in
      record { e_least = h.e_least; partition = k.0; regular = k.1 };
  good_exists = λ ne. good_exists e mu h.e_least h.partition h.regular (not_empty mu h.partition ne);
}
