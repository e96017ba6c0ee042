-- The restriction of a row: it is that of the row's entries, and their powers leave room for the exponents.
use Rattle.std.proofs.Common.{◌≡◌, ◌≢◌, ℕ, ◌+◌, ◌-◌, ◌*◌, ◌<◌, ◌≤◌, ◌↔◌, true, cond, nat_eq, nat_lt, List, [], ◌∷◌}
use Rattle.std.proofs.Common.{Option, Some, None, IsNone, IfSome, Result, Ok, Err, IfOk, Bor, refl, sym}
use Rattle.std.proofs.Common.{◌∙◌, ap, ap₂, subst, arith, ◌⊎◌, inl, inr, mul-le-mul_left, mul-le-mul_right, eq-eqb}
use Rattle.std.proofs.lemmas.List.{nil_from_length}
use Rattle.sp_defs.specs.Node.{residue, content, nodes_from}
use Rattle.sp_defs.specs.Partition.{degree, partitions, partitions_within, is_regular, IsPartition, IsPartitionOf}
use Rattle.sp_defs.specs.Power.{Vector, Entries, entries, vector_of, FockVector, fock_vector}
use Rattle.sp_defs.specs.Row.{regular_row, outcome, TooLarge, Row}
use Rattle.sp_defs.specs.Statements.{IsLabel}
use Rattle.sp_defs.specs.Text.{vector_text}
use Rattle.sp_lists.proofs.Counts.{count-cons}
use Rattle.sp_lists.proofs.Elements.{le_or_lt, nil_or_not}
use Rattle.sp_lists.proofs.Occurrence.{Occurs, at_occurs}
use Rattle.sp_lists.proofs.Places.{all_weaken}
use Rattle.sp_shapes.proofs.Degrees.{length-degree}
use Rattle.sp_shapes.proofs.Listing.{all_partitions, each_partition}
use Rattle.sp_fock_law.proofs.Vectors.{all_at, vector_of-entries, entries-alike}
use Rattle.sp_llt.proofs.Labels.{few_labels}
use Rattle.sp_llt.specs.Found.{outcome_told}
use Rattle.sp_llt.specs.Laws.{ObeysRowLaw, row_powers}
use Rattle.sp_llt.specs.Place.{Place, IsPlace, key_of, place, label}
use Rattle.sp_llt.specs.Refusals.{outcome_at}
use Rattle.sp_llt.specs.declared.refused.Refused.{Refused}
use Rattle.sp_llt.specs.declared.refused.Refused.TheVariants as refused
use Rattle.sp_power.proofs.Units.{all_more}
use Rattle.sp_power.specs.Arrivals.{half_power_limit, AllWithin}
use Rattle.sp_row_law.proofs.Contents.{row_content_law}
use Rattle.sp_sl2_law.proofs.Enlarged.{restriction-alike, restriction_weight-alike}
use Rattle.sp_sl2_law.proofs.Targets.{entry_there}
use Rattle.sp_sl2_law.specs.Restriction.{restriction}
use Rattle.sp_replies.specs.Refusals.{by_row, refusal_line}
use Rattle.sp_replies.specs.Restrictions.{restriction_or_refusal, branch_text, branch_or_refusal}
use Rattle.sp_replies.specs.Words.{line_of}
use Rattle.sp_replies.specs.declared.refusals.Refusal.{Refusal}
use Rattle.sp_replies.specs.declared.refusals.Refusal.TheVariants as refusal

-- ---- powers

-- The powers of a regular row are within half of the limit on powers: (rank + 1) n n is at most 5,604 * 900.
within_half : (p : Place) (es : Entries) → IsPlace p → ObeysRowLaw p es → AllWithin half_power_limit es
within_half p es h law =
    all_more (row_powers p) half_power_limit es
    (bound (p.rank + 1) p.key.degree (omega (arith, h.rank, few_labels p.key h.key)) (omega (arith, h.key.degree)))
    law.powers
  where
    bound : (r n : ℕ) → r ≤ 5604 → n ≤ 30 → r * (n * n) ≤ half_power_limit
    bound r n rows small =
        let square : n * n ≤ 900 = omega (arith, mul-le-mul_left n small, mul-le-mul_right 30 small) in
        omega (arith, mul-le-mul_right (n * n) rows, mul-le-mul_left 5604 square)

-- Where an entry tells a row, its powers are within that.
pub bounded : (p : Place) (n : ℕ) (w : Vector) (told : Result (Bor FockVector) Refused)
    (found : Option (Bor FockVector)) → IsPlace p → outcome_told told ≡ outcome_at p →
    IfOk told (λ u. u.now ≡ fock_vector n w) → (IsNone found ↔ (outcome_at p ≡ TooLarge)) →
    IfSome found (λ u. u.now ≡ fock_vector n w) → IfSome found (λ u. ObeysRowLaw p u.now.entries) →
    IfOk told (λ u. AllWithin half_power_limit u.now.entries)
bounded p n w (Err why) found h out row none some law = tt
bounded p n w (Ok u) None h out row none some law = absurd (let large : outcome_at p ≡ TooLarge = none.0 refl in cc)
bounded p n w (Ok u) (Some v) h out row none some law =
    subst (λ (x : FockVector). AllWithin half_power_limit x.entries) (some ∙ sym row)
    (within_half p v.now.entries h law)

-- ---- values

-- A vector of degree n is 0 at the partitions of other degrees.
outside : (n : ℕ) (w : Vector) (lambda : List ℕ) → degree lambda ≢ n → vector_of (entries n w) lambda ≡ []
outside n w lambda other = settle (nil_or_not (vector_of (entries n w) lambda))
  where
    settle : (vector_of (entries n w) lambda ≡ []) ⊎ (vector_of (entries n w) lambda ≢ []) →
        vector_of (entries n w) lambda ≡ []
    settle (inl zero) = zero
    settle (inr some) =
        let found = entry_there (entries n w) lambda some in
        let h : IsPartitionOf n lambda =
        at_occurs (λ t. IsPartitionOf n t.0) (lambda, found.0) (entries n w) found.1
        (all_at (λ t. IsPartitionOf n t.0) (partitions n) w
        (all_weaken (IsPartitionOf n) (λ x. w x ≢ [] → IsPartitionOf n x) (partitions n) (λ x k _. k)
        (all_partitions n))) in
        absurd (other h.total)

-- The one partition of degree 1 has one node.
one_node : (e : ℕ) (lambda : List ℕ) → IsPartitionOf 1 lambda → content e lambda (residue e (1, 1)) ≡ 1
unfolding nodes_from partitions partitions_within
one_node e lambda h = ap (λ p. content e p (residue e (1, 1))) (only (each_partition 1 lambda h.partition h.total))
    ∙ counted
  where
    only : Occurs lambda (partitions 1) → lambda ≡ 1 ∷ []
    only (inl same) = same
    only (inr never) = absurd never

    counted : content e (1 ∷ []) (residue e (1, 1)) ≡ 1
    counted =
        let yes : ◌≡◌ {A = ℕ} (cond (nat_eq (residue e (1, 1)) (residue e (1, 1))) 1 0) 1 =
        ap (λ b. cond b 1 0) (eq-eqb (residue e (1, 1)) (residue e (1, 1)) refl) in
        omega (arith, count-cons (λ x. nat_eq (residue e x) (residue e (1, 1))) (1, 1) [], yes)

-- The empty partition has none.
no_node : (e : ℕ) (mu : List ℕ) → IsPartition mu → degree mu ≡ 0 → content e mu (residue e (1, 1)) ≡ 0
unfolding nodes_from
no_node e mu pm none =
    ap (λ p. content e p (residue e (1, 1))) (nil_from_length mu (omega (arith, length-degree mu pm, none)))

module _ (e : ℕ) (mu : List ℕ) (is_label : IsLabel e mu) where
  -- The row of the empty partition is 0 at degree 1.
  empty_row : degree mu ≡ 0 → (lambda : List ℕ) → IsPartitionOf 1 lambda → regular_row e mu lambda ≡ []
  empty_row none lambda h = settle (nil_or_not (regular_row e mu lambda))
    where
      settle : (regular_row e mu lambda ≡ []) ⊎ (regular_row e mu lambda ≢ []) → regular_row e mu lambda ≡ []
      settle (inl zero) = zero
      settle (inr some) =
          absurd
          (omega (
            arith,
            (row_content_law e mu is_label).row lambda some (residue e (1, 1)),
            one_node e lambda h,
            no_node e mu is_label.partition none,
          ))

  -- The row's entries have its values at all partitions that restrict to one degree less.
  values : (lambda : List ℕ) → IsPartitionOf (degree mu - 1 + 1) lambda →
      vector_of (entries (degree mu) (regular_row e mu)) lambda ≡ regular_row e mu lambda
  values lambda h = settle (le_or_lt (degree mu) 0)
    where
      settle : (degree mu ≤ 0) ⊎ (0 < degree mu) →
          vector_of (entries (degree mu) (regular_row e mu)) lambda ≡ regular_row e mu lambda
      settle (inr some) =
          vector_of-entries (degree mu) (regular_row e mu) lambda
          (record { partition = h.partition; total = omega (arith, h.total) })
      settle (inl none) =
          outside (degree mu) (regular_row e mu) lambda (λ same. omega (arith, h.total, same))
          ∙ sym (empty_row (omega arith) lambda (record { partition = h.partition; total = omega (arith, h.total) }))

  -- So their restriction is that of the row, where there is a row.
  pub branched : (limit i : ℕ) (row : FockVector) → row ≡ fock_vector (degree mu) (regular_row e mu) →
      Row ≡ outcome e limit mu →
      restriction_or_refusal limit e i row.degree (vector_of row.entries) ≡ branch_text limit e i mu
  branched limit i row is there =
      ap (λ (v : FockVector). restriction_or_refusal limit e i v.degree (vector_of v.entries)) is
      ∙ ap₂ (λ weight es. cond (nat_lt limit weight) (refusal_line refusal.TooLarge) (line_of (vector_text es)))
      (restriction_weight-alike e i (degree mu) (vector_of (entries (degree mu) (regular_row e mu))) (regular_row e mu)
      values)
      (entries-alike (degree mu - 1) (restriction e i (vector_of (entries (degree mu) (regular_row e mu))))
      (restriction e i (regular_row e mu))
      (λ smaller h. restriction-alike e i (degree mu - 1 + 1) (vector_of (entries (degree mu) (regular_row e mu)))
      (regular_row e mu) values smaller (ap (λ k. k + 1) h.total)))
      ∙ ap (branch_or_refusal limit e i mu) there

-- So it is for an entry of the partition's rank that tells a row.
pub branched_entry : (p : Place) (e n limit rank i : ℕ) (mu : List ℕ) (row : FockVector) → 2 ≤ e → IsPartition mu →
    is_regular e mu ≡ true → p ≡ place (key_of e n limit) rank → n ≡ degree mu → label (key_of e n limit) rank ≡ mu →
    row ≡ fock_vector p.key.degree (regular_row p.key.e (label p.key p.rank)) → Row ≡ outcome_at p →
    restriction_or_refusal limit e i row.degree (vector_of row.entries) ≡ branch_text limit e i mu
branched_entry p e n limit rank i mu row e_least partition regular p_is n_is label_is row_is there =
    branched e mu (record { e_least = e_least; partition = partition; regular = regular }) limit i row
    (row_is
    ∙ ap (λ (q : Place). fock_vector q.key.degree (regular_row q.key.e (label q.key q.rank))) p_is
    ∙ ap₂ (λ d m. fock_vector d (regular_row e m)) n_is label_is)
    (there
    ∙ ap (λ (q : Place). outcome_at q) p_is
    ∙ ap (outcome e limit) label_is)

-- And one that tells none tells why.
pub refused_entry : (p : Place) (e n limit rank i : ℕ) (mu : List ℕ) (why : Refused) (told : Refusal) →
    p ≡ place (key_of e n limit) rank → label (key_of e n limit) rank ≡ mu → outcome_told (Err why) ≡ outcome_at p →
    told ≡ by_row why → refusal_line told ≡ branch_text limit e i mu
refused_entry p e n limit rank i mu why told p_is label_is there told_is =
    ap refusal_line told_is
    ∙ line why
    ∙ ap (branch_or_refusal limit e i mu) (there ∙ ap (λ (q : Place). outcome_at q) p_is ∙ ap (outcome e limit) label_is)
  where
    line : (w : Refused) → refusal_line (by_row w) ≡ branch_or_refusal limit e i mu (outcome_told (Err w))
    line refused.TooLarge = refl
    line (refused.Stray at) = refl
