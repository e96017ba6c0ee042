-- The signature of a residue among the corners of a partition.
use Rattle.std.proofs.Common.{◌≡◌, ℕ, ◌+◌, ◌<◌, ◌≤◌, Bool, List, [], ◌∷◌, ◌++◌, map, length, filter, flat_map, get_or}
use Rattle.std.proofs.Common.{nat_eq, refl, sym, ◌∙◌, ap, ap₂, subst, arith}
use Rattle.std.specs.Global.{Vec}
use Rattle.std.specs.List.{AllByRecursion}
use Rattle.std.proofs.lemmas.List.{length-map}
use Rattle.std.proofs.lemmas.List.Concat.{flat_map-cons}
use Rattle.sp_defs.specs.Node.{residue}
use Rattle.sp_defs.specs.Partition.{partitions, from_one_to}
use Rattle.sp_defs.specs.Signature.{signature}
use Rattle.sp_lists.proofs.Elements.{filter_alike, filter_append}
use Rattle.sp_lists.proofs.Maps.{filter-map}
use Rattle.sp_lists.proofs.Places.{all_weaken}
use Rattle.sp_nodes.specs.Marks.{mark_of}
use Rattle.sp_power_law.proofs.Bounds.{length-signature}
use Rattle.sp_ranks.specs.Corners.{corners, row_corners, mark_at, AreCorners, HasResidue}
use Rattle.sp_ranks.specs.Moves.{AreMoves, Scope}
use Rattle.sp_ranks.specs.Ranks.{partition_at}
use Rattle.sp_ranks.specs.declared.corners.CornerNode.{CornerNode}

-- What passes a test among lists in a row passes it in one of them.
filter-flat_map : {X Y : Type 0} (t : Y → Bool) (f : X → List Y) (xs : List X) →
    filter t (flat_map f xs) ≡ flat_map (λ x. filter t (f x)) xs
filter-flat_map t f [] = refl
filter-flat_map t f (x ∷ xs) =
    ap (filter t) (flat_map-cons f x xs)
    ∙ filter_append t (f x) (flat_map f xs)
    ∙ ap (λ ys. filter t (f x) ++ ys) (filter-flat_map t f xs)
    ∙ sym (flat_map-cons (λ x. filter t (f x)) x xs)

-- The signature is what has the residue among the corners.
signature-corners : (e i : ℕ) (parts : List ℕ) →
    signature e i parts ≡ filter (λ m. nat_eq (residue e m.1) i) (corners parts)
unfolding signature
signature-corners e i parts =
    sym (filter-flat_map (λ m. nat_eq (residue e m.1) i) (row_corners parts) (from_one_to (length parts + 1)))

-- The residues that the corners are kept with tell the same.
by_residues : (e i : ℕ) (xs : List CornerNode) → AllByRecursion (HasResidue e) xs →
    filter (λ s. nat_eq s.residue i) xs ≡ filter (λ s. nat_eq (residue e (mark_at s).1) i) xs
by_residues e i xs all =
    filter_alike (λ s. nat_eq s.residue i) (λ s. nat_eq (residue e (mark_at s).1) i) xs
    (all_weaken (HasResidue e) (λ s. nat_eq s.residue i ≡ nat_eq (residue e (mark_at s).1) i) xs
    (λ s is. ap (λ r. nat_eq r i) is) all)

pub signature_of : (e i : ℕ) (parts : List ℕ) (xs : List CornerNode) → AreCorners e parts xs →
    map mark_at (filter (λ s. nat_eq s.residue i) xs) ≡ signature e i parts
signature_of e i parts xs are =
    ap (map mark_at) (by_residues e i xs are.residues)
    ∙ sym (filter-map (λ m. nat_eq (residue e m.1) i) mark_at xs)
    ∙ ap (filter (λ m. nat_eq (residue e m.1) i)) are.marks
    ∙ sym (signature-corners e i parts)

-- There are no more of them than rows, and one.
pub few_of : (e i : ℕ) (parts : List ℕ) (xs : List CornerNode) → 2 ≤ e → AreCorners e parts xs →
    length (filter (λ s. nat_eq s.residue i) xs) ≤ length parts + 1
few_of e i parts xs he are =
    omega (
      arith,
      length-map (filter (λ s. nat_eq s.residue i) xs) mark_at,
      ap length (signature_of e i parts xs are),
      length-signature e i parts he,
    )

-- The marks of these corners, as the definitions see them.
pub marks_map : (xs : List CornerNode) → map mark_of (map (λ s. s.mark) xs) ≡ map mark_at xs
marks_map [] = refl
marks_map (s ∷ xs) = ap (λ l. mark_at s ∷ l) (marks_map xs)

-- The table has the corners of the partition of each rank.
pub corners_at : (table : Scope) (gains : List (Vec (List ℕ))) (all : List (Vec (Vec CornerNode)))
    (n rank place at : ℕ) (rows : Vec (Vec CornerNode)) (row : Vec CornerNode) (xs : List CornerNode) →
    AreMoves table gains all → n ≤ table.degree → rank < length (partitions n) → place ≡ n →
    rows ≡ get_or all place rows → at ≡ rank → row ≡ get_or rows.items at row → xs ≡ row.items →
    AreCorners table.e (partition_at n rank) xs
corners_at table gains all n rank place at rows row xs are most there same_n rows_at same_rank row_at is =
    subst (AreCorners table.e (partition_at n rank))
    (sym
    (is
    ∙ ap (λ (v : Vec CornerNode). v.items)
    (row_at
    ∙ ap₂ (λ k (v : Vec (Vec CornerNode)). get_or v.items k row) same_rank
    (rows_at ∙ ap (λ k. get_or all k rows) same_n))))
    ((are.cornered.each n rows (omega (arith, most))).each rank row there)
