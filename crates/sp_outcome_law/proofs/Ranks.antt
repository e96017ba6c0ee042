-- The rank of an e-regular partition is the number of those before it: the element at that place of the list is the
-- partition, and the earlier ones stand at the places before it, as do the shares.
use Rattle.std.proofs.Common.{◌≡◌, ℕ, zero, suc, ◌+◌, ◌<◌, List, [], ◌∷◌, length, map, get_or, refl}
use Rattle.std.proofs.Common.{sym, ◌∙◌, ap, subst, arith, Less, ◌≤◌}
use Rattle.std.proofs.lemmas.List.{length-map, get_or-map, get_or_append_left, length-append}
use Rattle.std.proofs.Math.Seq.{get_or-append_seam}
use Rattle.sp_lists.proofs.Places.{all_at}
use Rattle.sp_defs.specs.Partition.{degree, regulars, compare, IsRegularOf, Ascending}
use Rattle.sp_defs.specs.Ladder.{ladder_vector}
use Rattle.sp_defs.specs.Row.{before, earlier, shares}
use Rattle.sp_defs.specs.Statements.{IsLabel}
use Rattle.sp_shapes.proofs.Before.{after, before_self, before_keep}
use Rattle.sp_shapes.proofs.Listing.{all_regulars, regulars_ascend}
use Rattle.sp_triangle.proofs.Shares.{keys-shares}
use Rattle.sp_row_law.proofs.Setting.{label, cut}
use Rattle.sp_outcome_law.specs.Asking.{share_at}

-- The partitions of the shares are the earlier ones.
pub keys : (e : ℕ) (mu : List ℕ) → map (λ a. a.0) (shares e mu) ≡ earlier e mu
unfolding shares
keys e mu = keys-shares (ladder_vector e) mu (earlier e mu)

-- So there are as many.
pub length_shares : (e : ℕ) (mu : List ℕ) → length (shares e mu) ≡ length (earlier e mu)
length_shares e mu = sym (length-map (shares e mu) (λ a. a.0)) ∙ ap length (keys e mu)

module _ (e : ℕ) (mu : List ℕ) (is : IsLabel e mu) where
  -- mu stands at its rank
  pub at_rank : (d : List ℕ) → get_or (regulars e (degree mu)) (length (earlier e mu)) d ≡ mu
  at_rank d =
      ap (λ xs. get_or xs (length (earlier e mu)) d) (cut e mu is).whole
      ∙ get_or-append_seam (earlier e mu) mu (after mu (regulars e (degree mu))) d

  -- so the rank is less than the number of them
  pub rank_within : length (earlier e mu) < length (regulars e (degree mu))
  rank_within =
      let l : length (regulars e (degree mu))
      ≡ length (earlier e mu) + suc (length (after mu (regulars e (degree mu)))) =
      ap length (cut e mu is).whole ∙ length-append (earlier e mu) (mu ∷ after mu (regulars e (degree mu))) in
      omega (arith, l)

  -- the partition of a lower rank is that of the share there
  pub earlier_at : (j : ℕ) (d : List ℕ) → j < length (earlier e mu) →
      get_or (regulars e (degree mu)) j d ≡ (share_at e mu j).0
  unfolding share_at
  earlier_at j d h =
      ap (λ xs. get_or xs j d) (cut e mu is).whole
      ∙ get_or_append_left (earlier e mu) (mu ∷ after mu (regulars e (degree mu))) d j h
      ∙ ap (λ xs. get_or xs j d) (sym (keys e mu))
      ∙ get_or-map (λ a. a.0) (shares e mu) j ([], []) d (omega (arith, length_shares e mu, h))

-- ---- a place determines the partition, and the other way round

place_before : (xs : List (List ℕ)) (k : ℕ) (mu d : List ℕ) → Ascending xs → k < length xs → get_or xs k d ≡ mu →
    k ≡ length (before mu xs)
place_before [] k mu d up h at = absurd (omega (arith, h))
place_before (x ∷ xs) zero mu d (u, us) h at =
    subst (λ y. zero ≡ length (before y (x ∷ xs))) at (ap length (sym (before_self x xs u)))
place_before (x ∷ xs) (suc k) mu d (u, us) h at =
    let e : compare x mu ≡ Less = subst (λ y. compare x y ≡ Less) at
    (all_at (λ y. compare x y ≡ Less) xs k d u (omega (arith, h))) in
    ap suc (place_before xs k mu d us (omega (arith, h)) at) ∙ ap length (sym (before_keep x mu xs e))

-- The place of mu in the list is its rank.
pub rank_of : (e n k : ℕ) (mu d : List ℕ) → k < length (regulars e n) → get_or (regulars e n) k d ≡ mu → degree mu ≡ n →
    k ≡ length (earlier e mu)
rank_of e n k mu d h at t =
    place_before (regulars e n) k mu d (regulars_ascend e n) h at ∙ ap (λ m. length (before mu (regulars e m))) (sym t)

-- what holds of the partition at a place of the list
pub record IsRanked (e n k : ℕ) (mu : List ℕ) : Type 0 where
  pub label : IsLabel e mu
  pub total : degree mu ≡ n
  pub rank : length (earlier e mu) ≡ k

-- The partition at a place is a label of that rank.
pub ranked : (e n k : ℕ) (d : List ℕ) → 2 ≤ e → k < length (regulars e n) → IsRanked e n k (get_or (regulars e n) k d)
ranked e n k d least h = record {
  label = label e n (get_or (regulars e n) k d) least at;
  total = at.total;
  rank = sym (rank_of e n k (get_or (regulars e n) k d) d h refl at.total);
}
  where
    at : IsRegularOf e n (get_or (regulars e n) k d)
    at = all_at (IsRegularOf e n) (regulars e n) k d (all_regulars e n) h
