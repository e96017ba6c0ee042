-- A restriction has one node of a residue less than the vector.
use Rattle.std.proofs.Common.{◌≡◌, ◌≢◌, ℕ, ◌+◌, true, cond, ◌&&◌, nat_eq, List, [], ◌∷◌, length, count_by, ◌∙◌, ap}
use Rattle.std.proofs.Common.{arith}
use Rattle.std.proofs.Common.{eqb-true}
use Rattle.std.specs.List.{list_all}
use Rattle.sp_defs.specs.Partition.{degree, IsPartition}
use Rattle.sp_defs.specs.Laurent.{Laurent, power, times}
use Rattle.sp_defs.specs.Node.{Node, residue, in_diagram, nodes, content}
use Rattle.sp_defs.specs.Power.{added, is_move}
use Rattle.sp_lists.proofs.Counts.{count-cons}
use Rattle.sp_lists.proofs.Elements.{and_split}
use Rattle.sp_algebra.proofs.Laws.{times_nought}
use Rattle.sp_algebra.proofs.Sums.{nonzero_term}
use Rattle.sp_shapes.proofs.Moves.{Move, move_facts, count_added, degree_added}
use Rattle.sp_sl2_law.specs.Contents.{HasNodeMore, RestrictedContentLaw}
use Rattle.sp_sl2_law.specs.Restriction.{restriction_exponent, enlarged, restriction}
use Rattle.sp_sl2_law.proofs.Enlarged.{IsEnlarged, all_enlarged}

-- A move of one node adds one of residue i.
pub node_more : (e i : ℕ) (smaller larger : List ℕ) → IsPartition smaller → is_move e i 1 smaller larger ≡ true →
    HasNodeMore e i smaller larger
unfolding is_move
node_more e i smaller larger ps h = record {
  degree_is = degree_added smaller larger ps moved.rows ∙ ap (λ n. degree smaller + n) moved.count;
  content_is =
      λ j. count_added (λ x. nat_eq (residue e x) j) smaller larger ps moved.rows
      ∙ ap (λ n. content e smaller j + n) (one_counted j (added smaller larger) moved.count same_residue);
}
  where
    moved : Move e i 1 smaller larger
    moved = move_facts e i 1 smaller larger h

    same_residue : list_all (λ x. nat_eq (residue e x) i) (added smaller larger) ≡ true
    same_residue =
        (and_split (nat_eq (length (added smaller larger)) 1)
        (list_all (λ x. nat_eq (residue e x) i) (added smaller larger))
        (and_split (list_all (in_diagram larger) (nodes smaller))
        (nat_eq (length (added smaller larger)) 1 && list_all (λ x. nat_eq (residue e x) i) (added smaller larger))
        h).1).1

    one_counted : (j : ℕ) (xs : List Node) → length xs ≡ 1 → list_all (λ x. nat_eq (residue e x) i) xs ≡ true →
        ◌≡◌ {A = ℕ} (count_by (λ x. nat_eq (residue e x) j) xs) (cond (nat_eq i j) 1 0)
    one_counted j [] l t = absurd (omega arith)
    one_counted j (x ∷ []) l t =
        let here : ◌≡◌ {A = ℕ} (cond (nat_eq (residue e x) j) 1 0) (cond (nat_eq i j) 1 0) =
        ap (λ n. cond (nat_eq n j) 1 0) (eqb-true (residue e x) i (and_split (nat_eq (residue e x) i) true t).0) in
        omega (arith, count-cons (λ y. nat_eq (residue e y) j) x [], here)
    one_counted j (x ∷ y ∷ xs) l t = absurd (omega arith)

-- Where a restriction isn't 0, the vector isn't 0 at a partition with the node more.
pub restricted_content : RestrictedContentLaw
unfolding restriction
restricted_content e i w smaller ps ne =
    from (nonzero_term (IsEnlarged e i smaller) (enlarged e i smaller) term (all_enlarged e i smaller) ne)
  where
    term : List ℕ → Laurent
    term x = times (power (restriction_exponent e i smaller x)) (w x)

    from : (x : List ℕ) × IsEnlarged e i smaller x × (term x ≢ []) →
        (larger : List ℕ) × IsPartition larger × (w larger ≢ []) × HasNodeMore e i smaller larger
    from (x, h, nz) = (
      x,
      h.partition.partition,
      λ z. nz (ap (times (power (restriction_exponent e i smaller x))) z
          ∙ times_nought (power (restriction_exponent e i smaller x))),
      node_more e i smaller x ps h.move,
    )
