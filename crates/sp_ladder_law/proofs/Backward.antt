-- The ladders from the last to the first: the range from n down to 1, and filters and maps of a reversed list.
use Rattle.std.proofs.Common.{◌≡◌, ℕ, zero, suc, ◌+◌, Bool, true, false, cond, List, [], ◌∷◌, ◌++◌, map, filter}
use Rattle.std.proofs.Common.{reverse}
use Rattle.std.proofs.Common.{refl, sym, ◌∙◌, ap, ap₂, arith, append-nil}
use Rattle.std.proofs.lemmas.List.{map-append, reverse-append}
use Rattle.sp_defs.specs.Partition.{from_one_to}
use Rattle.sp_defs.specs.Ladder.{Step}
use Rattle.sp_lists.proofs.Elements.{range_snoc, filter_append}

-- The numbers from n down to 1.
unfoldable pub down_from : ℕ → List ℕ
down_from zero = []
down_from (suc n) = suc n ∷ down_from n

-- They are the range from 1 to n, reversed.
pub reverse_range : (n : ℕ) → reverse (from_one_to n) ≡ down_from n
unfolding down_from
reverse_range zero = refl
reverse_range (suc n) =
    ap reverse (range_snoc 1 n)
    ∙ reverse-append (from_one_to n) ((1 + n) ∷ [])
    ∙ ap₂ (λ x xs. x ∷ xs) (next n) (reverse_range n)
  where
    next : (n : ℕ) → 1 + n ≡ suc n
    next n = omega arith

-- What is kept and mapped of a reversed list is that of the list, reversed.
pub reverse_kept : (f : ℕ → Step) (t : ℕ → Bool) (xs : List ℕ) →
    reverse (map f (filter t xs)) ≡ map f (filter t (reverse xs))
reverse_kept f t [] = refl
reverse_kept f t (x ∷ xs) =
    tested (t x)
    ∙ ap (λ r. r ++ map f (filter t (x ∷ []))) (reverse_kept f t xs)
    ∙ sym
    (ap (λ r. map f (filter t r)) (reverse-append (x ∷ []) xs)
    ∙ ap (map f) (filter_append t (reverse xs) (x ∷ []))
    ∙ map-append f (filter t (reverse xs)) (filter t (x ∷ [])))
  where
    tested : (b : Bool) → reverse (map f (cond b (x ∷ filter t xs) (filter t xs)))
        ≡ reverse (map f (filter t xs)) ++ map f (cond b (x ∷ []) [])
    tested true = reverse-append (f x ∷ []) (map f (filter t xs))
    tested false = sym (append-nil (reverse (map f (filter t xs))))
