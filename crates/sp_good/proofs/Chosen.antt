-- The good and the cogood node, as the code has them.
use Rattle.std.proofs.Common.{◌≡◌, ℕ, suc, ◌+◌, ◌-◌, ◌≤◌, true, List, [], ◌∷◌, length, map, refl, sym, ◌∙◌}
use Rattle.std.proofs.Common.{ap, arith, Option, Some, None}
use Rattle.std.specs.Option.{option_map, IfSome}
use Rattle.std.specs.List.{slice_get}
use Rattle.sp_defs.specs.Partition.{part, IsPartition, is_regular}
use Rattle.sp_defs.specs.Node.{is_addable, is_removable}
use Rattle.sp_defs.specs.Signature.{last, good, cogood, add_node, remove_node}
use Rattle.sp_good_law.proofs.GoodNodes.{good_fact}
use Rattle.sp_good_law.proofs.CogoodNodes.{cogood_fact}
use Rattle.sp_good_law.proofs.MoveLaw.{move_law}
use Rattle.sp_nodes.specs.declared.node.Node.{Node as Place}
use Rattle.sp_nodes.specs.Nodes.{pair}

-- The image of the last place is the last of the images.
pub last-mapped : (xs : List Place) → option_map pair (slice_get xs (length xs - 1)) ≡ last (map pair xs)
unfolding last
last-mapped [] = refl
last-mapped (x ∷ []) = refl
last-mapped (x ∷ y ∷ xs) =
    ap (λ k. option_map pair (slice_get (x ∷ y ∷ xs) k)) (less (length xs)) ∙ last-mapped (y ∷ xs)
  where
    less : (n : ℕ) → suc (suc n) - 1 ≡ suc (suc n - 1)
    less n = omega arith

module _ (e : ℕ) (he : 2 ≤ e) (i : ℕ) (parts : List ℕ) (pp : IsPartition parts) where
  -- The good node is the removable node of its row.
  pub good_removable : (found : Option Place) → option_map pair found ≡ good e i parts →
      IfSome found (λ x. is_removable parts (x.row, part parts x.row) ≡ true)
  good_removable None is = tt
  good_removable (Some x) is =
      let fact = good_fact e he i parts pp (pair x) (sym is) in
      ap (λ c. is_removable parts (x.row, c)) (sym fact.2) ∙ fact.0

  -- Without it an e-regular partition is e-regular.
  pub good_regular : (found : Option Place) → option_map pair found ≡ good e i parts → is_regular e parts ≡ true →
      IfSome found (λ x. is_regular e (remove_node parts (pair x)) ≡ true)
  good_regular None is reg = tt
  good_regular (Some x) is reg =
      ((move_law e parts (record { e_least = he; partition = pp; regular = reg })).good_keeps i (pair x)
      (sym is)).regular

  -- The cogood node is the addable node of its row.
  pub cogood_addable : (found : Option Place) → option_map pair found ≡ cogood e i parts →
      IfSome found (λ x. is_addable parts (x.row, part parts x.row + 1) ≡ true)
  cogood_addable None is = tt
  cogood_addable (Some x) is =
      let fact = cogood_fact e he i parts pp (pair x) (sym is) in
      ap (λ c. is_addable parts (x.row, c)) (sym fact.2) ∙ fact.0

  -- With it an e-regular partition is e-regular.
  pub cogood_regular : (found : Option Place) → option_map pair found ≡ cogood e i parts →
      is_regular e parts ≡ true → IfSome found (λ x. is_regular e (add_node parts (pair x)) ≡ true)
  cogood_regular None is reg = tt
  cogood_regular (Some x) is reg =
      ((move_law e parts (record { e_least = he; partition = pp; regular = reg })).cogood_keeps i (pair x)
      (sym is)).regular
