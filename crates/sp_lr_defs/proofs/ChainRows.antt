-- The rows of a chain are those of its filling, and the test of its word says whether there is one.
use Rattle.std.proofs.Common.{◌≡◌, ℕ, zero, suc, ◌+◌, ◌-◌, ◌≤◌, true, List, ◌∷◌, ◌++◌, length, map, flat_map}
use Rattle.std.proofs.Common.{replicate, slice_index, count_by, nat_eq, refl, sym, ◌∙◌, ap, ap₂, subst, arith, add-one}
use Rattle.std.specs.List.{range_with_len}
use Rattle.sp_defs.specs.Partition.{IsPartition, part, from_one_to}
use Rattle.sp_lists.proofs.FlatMaps.{flat_map-range_more}
use Rattle.sp_lr_defs.specs.Filling.{IsChainTo, word}
use Rattle.sp_lr_defs.specs.Strip.{AreStrips, end_from}
use Rattle.sp_lr_defs.specs.Listing.{after_strips, chain_row, chain_rows, is_lattice}
use Rattle.sp_lr_defs.proofs.Sums.{first-zeros}
use Rattle.sp_lr_defs.proofs.Words.{word-all}
use Rattle.sp_lr_defs.proofs.Built.{built}
use Rattle.sp_lr_defs.proofs.Tableaux.{AreTableau, lattice_tested, tested_lattice}
use Rattle.sp_lr_defs.proofs.Backward.{filled, reached, members_of, filled_none, filling_of_tableau, lattice_of_strips}

-- the numbers of a row, one after the other
built-flat : (a : ℕ → ℕ) (n : ℕ) → flat_map (λ k. replicate (a k - a (k - 1)) k) (from_one_to n) ≡ built a n
built-flat a zero = refl
built-flat a (suc n) =
    ap (λ m. flat_map (λ k. replicate (a k - a (k - 1)) k) (range_with_len 1 m)) (sym (add-one n))
    ∙ flat_map-range_more (λ k. replicate (a k - a (k - 1)) k) 1 n (suc n) (omega arith)
    ∙ ap₂ (λ xs ys. xs ++ ys) (built-flat a n) (ap (λ m. replicate (a (suc n) - a m) (suc n)) (before n))
  where
    before : (n : ℕ) → suc n - 1 ≡ n
    before n = omega arith

-- row i, counted from 0
row-built : (n : ℕ) (chain : List (List ℕ)) (i : ℕ) →
    chain_row n chain (suc i) ≡ built (reached (after_strips chain) i) n
row-built n chain i =
    built-flat (λ k. part (after_strips chain k) (suc i)) n
    ∙ ap (λ j. built (λ k. slice_index (after_strips chain k) j) n) (before i)
  where
    before : (i : ℕ) → suc i - 1 ≡ i
    before i = omega arith

-- ranges that begin one apart
map-moved : {X : Type 0} (f g : ℕ → X) (a n : ℕ) → ((i : ℕ) → f (suc i) ≡ g i) →
    map f (range_with_len (suc a) n) ≡ map g (range_with_len a n)
map-moved f g a zero h = refl
map-moved f g a (suc n) h =
    ap₂ (λ x xs. x ∷ xs) (h a)
    (ap (λ b. map f (range_with_len b n)) (moved a) ∙ map-moved f g (a + 1) n h)
  where
    moved : (a : ℕ) → suc a + 1 ≡ suc (a + 1)
    moved a = omega arith

-- The rows of a chain are those of its filling.
pub rows-filled : (mu : List ℕ) (chain : List (List ℕ)) →
    chain_rows (length mu) chain ≡ filled mu (after_strips chain)
rows-filled mu chain =
    map-moved (chain_row (length mu) chain) (λ i. built (reached (after_strips chain) i) (length mu)) 0
    (length (after_strips chain (length mu))) (row-built (length mu) chain)

-- ---- the test of the word

-- no number is greater than the number of sizes
none_greater : (lambda mu : List ℕ) (shapes : List (List ℕ)) → IsPartition lambda → AreTableau lambda mu shapes →
    (k : ℕ) → length mu ≤ k → count_by (nat_eq (k + 1)) (word (filled mu (after_strips (lambda ∷ shapes)))) ≡ 0
none_greater lambda mu shapes hl s k le =
    word-all (nat_eq (k + 1)) (length (filled mu (after_strips (lambda ∷ shapes))))
    (filled mu (after_strips (lambda ∷ shapes))) (λ _. 0) (omega arith)
    (filled_none mu (after_strips (lambda ∷ shapes)) (members_of lambda mu shapes hl s) k le)
    ∙ first-zeros (length (filled mu (after_strips (lambda ∷ shapes)))) (λ _. 0) (λ _. refl)

-- A chain of horizontal strips that passes the test is the chain of a filling of its last member.
pub filling_of_tested : (lambda mu : List ℕ) (shapes : List (List ℕ)) → IsPartition lambda →
    AreTableau lambda mu shapes →
    is_lattice (length mu) (word (chain_rows (length mu) (lambda ∷ shapes))) ≡ true →
    IsChainTo lambda mu (end_from lambda shapes) (lambda ∷ shapes)
filling_of_tested lambda mu shapes hl s t =
    filling_of_tableau lambda mu shapes hl s
    (lattice_tested (length mu) (word (filled mu (after_strips (lambda ∷ shapes))))
    (none_greater lambda mu shapes hl s)
    (subst (λ rows. is_lattice (length mu) (word rows) ≡ true) (rows-filled mu (lambda ∷ shapes)) t))

-- A chain of strips that are covered passes it.
pub strips_tested : (lambda mu : List ℕ) (shapes : List (List ℕ)) → IsPartition lambda →
    AreStrips lambda lambda (part mu 1) mu shapes →
    is_lattice (length mu) (word (chain_rows (length mu) (lambda ∷ shapes))) ≡ true
strips_tested lambda mu shapes hl s =
    subst (λ rows. is_lattice (length mu) (word rows) ≡ true) (sym (rows-filled mu (lambda ∷ shapes)))
    (tested_lattice (length mu) (word (filled mu (after_strips (lambda ∷ shapes))))
    (lattice_of_strips lambda mu shapes hl s))
