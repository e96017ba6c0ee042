-- One place more: its rank goes into the block of its core, or into a new one behind the others.
use Rattle.std.proofs.Common.{◌≡◌, ◌≢◌, ℕ, suc, Bool, true, false, cond, not, ◌||◌, List, [], ◌∷◌, ◌++◌, map}
use Rattle.std.proofs.Common.{refl, sym, ◌∙◌, ap, ap₂, inl, inr}
use Rattle.std.specs.List.{AllByRecursion, list_any, range_with_len}
use Rattle.std.specs.Ordering.{is_eq}
use Rattle.std.proofs.lemmas.List.{append-nil, map-append}
use Rattle.sp_defs.specs.Partition.{compare}
use Rattle.sp_lists.proofs.Comparing.{test_same}
use Rattle.sp_lists.proofs.Elements.{filter_none}
use Rattle.sp_lists.proofs.Maps.{map-alike}
use Rattle.sp_lists.proofs.Places.{all_weaken}
use Rattle.sp_blocks.specs.declared.block.Block.{Block}
use Rattle.sp_blocks.specs.Blocks.{has_core, places_with, is_first, blocks_below}
use Rattle.sp_blocks.specs.Indexed.{with_rank}
use Rattle.sp_blocks.proofs.Same.{Told, tells}
use Rattle.sp_shapes.proofs.Order.{differ}
use Rattle.sp_blocks.proofs.Firsts.{kept_more, firsts, any_firsts, Apart, firsts_apart}

module _ (core_of : ℕ → List ℕ) where
  -- The block of a place's core, with its ranks below n.
  abbrev pub block_at : ℕ → ℕ → Block
  block_at n k = record { core = core_of k; ranks = places_with core_of n (core_of k) }

  new_block : ℕ → Block
  new_block n = record { core = core_of n; ranks = n ∷ [] }

  gained : (n k : ℕ) (v : Bool) → has_core core_of (core_of k) n ≡ v →
      block_at (suc n) k
      ≡ record { core = core_of k; ranks = places_with core_of n (core_of k) ++ cond v (n ∷ []) [] }
  gained n k v t =
      ap (λ ranks. record { core = core_of k; ranks = ranks })
      (kept_more (has_core core_of (core_of k)) n
      ∙ ap (λ v. places_with core_of n (core_of k) ++ cond v (n ∷ []) []) t)

  stays : (n k : ℕ) → core_of n ≢ core_of k → block_at n k ≡ block_at (suc n) k
  stays n k ne =
      sym (gained n k false (differ (core_of n) (core_of k) ne)
      ∙ ap (λ ranks. record { core = core_of k; ranks = ranks }) (append-nil (places_with core_of n (core_of k))))

  -- The blocks of places with different cores.
  step : (n : ℕ) (ks : List ℕ) → Apart core_of ks →
      with_rank (core_of n) n (map (block_at n) ks)
      ≡ map (block_at (suc n)) ks
      ++ cond (list_any (has_core core_of (core_of n)) ks) [] (record { core = core_of n; ranks = n ∷ [] } ∷ [])
  step n [] h = refl
  step n (k ∷ ks) (h, hs) = settle (tells (core_of k) (core_of n)) (step n ks hs)
    where
      added : Block
      added =
          record {
            core = core_of k;
            ranks = places_with core_of n (core_of k) ++ n ∷ [];
          }

      rest : List Block
      rest = with_rank (core_of n) n (map (block_at n) ks)

      new : Bool → List Block
      new v = cond v [] (record { core = core_of n; ranks = n ∷ [] } ∷ [])

      settle : Told (core_of k) (core_of n) →
          rest ≡ map (block_at (suc n)) ks ++ new (list_any (has_core core_of (core_of n)) ks) →
          cond (is_eq (compare (core_of k) (core_of n))) (added ∷ map (block_at n) ks) (block_at n k ∷ rest)
          ≡ (block_at (suc n) k ∷ map (block_at (suc n)) ks)
          ++ new (is_eq (compare (core_of k) (core_of n)) || list_any (has_core core_of (core_of n)) ks)
      settle (inl (t, same)) _ =
          ap (λ v. cond v (added ∷ map (block_at n) ks) (block_at n k ∷ rest)) t
          ∙ ap₂ (λ b bs. b ∷ bs) (sym (gained n k true (test_same (core_of n) (core_of k) (sym same))))
          (map-alike (block_at n) (block_at (suc n)) ks
          (all_weaken (λ j. core_of j ≢ core_of k) (λ j. block_at n j ≡ block_at (suc n) j) ks
          (λ j ne. stays n j (λ e. ne (sym e ∙ sym same))) h))
          ∙ sym (append-nil (block_at (suc n) k ∷ map (block_at (suc n)) ks))
          ∙ ap
          (λ v. (block_at (suc n) k ∷ map (block_at (suc n)) ks)
          ++ new (v || list_any (has_core core_of (core_of n)) ks)) (sym t)
      settle (inr (t, ne)) others =
          ap (λ v. cond v (added ∷ map (block_at n) ks) (block_at n k ∷ rest)) t
          ∙ ap₂ (λ b bs. b ∷ bs) (stays n k (λ e. ne (sym e))) others
          ∙ ap
          (λ v. (block_at (suc n) k ∷ map (block_at (suc n)) ks)
          ++ new (v || list_any (has_core core_of (core_of n)) ks)) (sym t)

  -- Where none of these has a core, each has another.
  pub none_at : (kappa : List ℕ) (ks : List ℕ) → list_any (has_core core_of kappa) ks ≡ false →
      AllByRecursion (λ k. has_core core_of kappa k ≡ false) ks
  none_at kappa [] h = tt
  none_at kappa (k ∷ ks) h = settle (has_core core_of kappa k) refl h (none_at kappa ks)
    where
      settle : (v : Bool) → has_core core_of kappa k ≡ v → (v || list_any (has_core core_of kappa) ks) ≡ false →
          (list_any (has_core core_of kappa) ks ≡ false → AllByRecursion (λ k. has_core core_of kappa k ≡ false) ks) →
          AllByRecursion (λ k. has_core core_of kappa k ≡ false) (k ∷ ks)
      settle true t none rest = absurd (let wrong : true ≡ false = none in cc)
      settle false t none rest = (t, rest none)

  nothing_yet : (n : ℕ) (kappa : List ℕ) → list_any (has_core core_of kappa) (range_with_len 0 n) ≡ false →
      places_with core_of n kappa ≡ []
  nothing_yet n kappa none =
      filter_none (has_core core_of kappa) (range_with_len 0 n) (none_at kappa (range_with_len 0 n) none)

  -- The blocks of one place more.
  pub blocks_more : (n : ℕ) → blocks_below core_of (suc n) ≡ with_rank (core_of n) n (blocks_below core_of n)
  blocks_more n =
      ap (map (block_at (suc n))) (kept_more (is_first core_of) n)
      ∙ map-append (block_at (suc n)) (firsts core_of n) (cond (is_first core_of n) (n ∷ []) [])
      ∙ ap (λ bs. map (block_at (suc n)) (firsts core_of n) ++ bs)
      (settle (list_any (has_core core_of (core_of n)) (range_with_len 0 n)) refl)
      ∙ ap
      (λ v. map (block_at (suc n)) (firsts core_of n) ++ cond v [] (record { core = core_of n; ranks = n ∷ [] } ∷ []))
      (sym (any_firsts core_of n (core_of n)))
      ∙ sym (step n (firsts core_of n) (firsts_apart core_of n))
    where
      settle : (v : Bool) → list_any (has_core core_of (core_of n)) (range_with_len 0 n) ≡ v →
          map (block_at (suc n)) (cond (not v) (n ∷ []) [])
          ≡ cond v [] (record { core = core_of n; ranks = n ∷ [] } ∷ [])
      settle true h = refl
      settle false h =
          ap (λ b. b ∷ [])
          (gained n n true (test_same (core_of n) (core_of n) refl)
          ∙ ap (λ ranks. record { core = core_of n; ranks = ranks ++ n ∷ [] }) (nothing_yet n (core_of n) h))
