-- What is written of the rows.
use Rattle.std.proofs.Common.{◌≡◌, ℕ, zero, suc, ◌<◌, cond, ◌&&◌, nat_eq, List, [], ◌∷◌, ◌++◌, map}
use Rattle.std.proofs.Common.{reverse, length, get_or, take, refl, sym, ◌∙◌, ap, subst, arith, Option, None, Some}
use Rattle.std.proofs.Common.{append_assoc, Less}
use Rattle.std.specs.List.{AllByRecursion, list_all, range_with_len}
use Rattle.std.specs.Cmp.Lexicographic.{pointwise}
use Rattle.std.specs.Arc.{arc_value}
use Rattle.std.specs.declared.sync.Arc.{Arc}
use Rattle.std.specs.declared.alloc.Global.{Global}
use Rattle.sp_defs.specs.Partition.{compare, Ascending}
use Rattle.sp_defs.specs.Power.{FockVector, fock_vector, entries}
use Rattle.sp_defs.specs.Row.{before, regular_row, Outcome, outcome, Row, TooLarge, Stray}
use Rattle.sp_lists.proofs.Elements.{reverse_all, map_all, range_at}
use Rattle.sp_lists.proofs.Places.{all_at, all_places}
use Rattle.sp_shapes.proofs.Before.{before_keep, before_self}
use Rattle.sp_outcome_law.specs.Asking.{is_too_large}
use Rattle.sp_core.specs.declared.piece.Key.{Key}
use Rattle.sp_llt.specs.declared.refused.FirstRefused.{FirstRefused}
use Rattle.sp_llt.specs.Place.{Place, place, label, labels}
use Rattle.sp_llt.specs.Shares.{given_shares, told_shares}
use Rattle.sp_llt.specs.Refusals.{outcome_at, refusal, refused_as, or_else, first_refusal}
use Rattle.sp_llt.specs.Filled.{IsFilled}
use Rattle.sp_llt.proofs.Firsts.{first_count, first_entry}
use Rattle.sp_cert.specs.Written.{HasAllRows}

-- ---- contents

-- lists of numbers that are told by two functions
pub same_counts : (f g : ℕ → ℕ) (r : List ℕ) →
    pointwise nat_eq (map f r) (map g r) ≡ list_all (λ i. nat_eq (f i) (g i)) r
same_counts f g [] = refl
same_counts f g (i ∷ r) = ap (λ b. nat_eq (f i) (g i) && b) (same_counts f g r)

-- those before an element of an ascending list
pub before_place : (xs : List (List ℕ)) (k : ℕ) → Ascending xs → k < length xs →
    before (get_or xs k []) xs ≡ take k xs
before_place [] k up lt = absurd (omega arith)
before_place (x ∷ xs) zero (u, us) lt = before_self x xs u
before_place (x ∷ xs) (suc k) (u, us) lt =
    before_keep x (get_or xs k []) xs (all_at (λ y. compare x y ≡ Less) xs k [] u (omega (arith, lt)))
    ∙ ap (λ r. x ∷ r) (before_place xs k us (omega (arith, lt)))

-- ---- rows of which none is refused

row_of : (mu : List ℕ) (o : Outcome) → refused_as mu o ≡ None → o ≡ Row
row_of mu TooLarge h = absurd (cc)
row_of mu (Stray at) h = absurd (cc)
row_of mu Row h = refl

none_refused : (ps : List Place) → first_refusal ps ≡ None → AllByRecursion (λ p. outcome_at p ≡ Row) ps
unfolding first_refusal
none_refused [] h = tt
none_refused (p ∷ ps) h = settle (refusal p) refl (none_refused ps) h
  where
    settle : (o : Option FirstRefused) → refusal p ≡ o →
        (first_refusal ps ≡ None → AllByRecursion (λ q. outcome_at q ≡ Row) ps) →
        or_else o (first_refusal ps) ≡ None → (outcome_at p ≡ Row) × AllByRecursion (λ q. outcome_at q ≡ Row) ps
    settle None is more k = (row_of (label p.key p.rank) (outcome_at p) is, more k)
    settle (Some x) is more k = absurd (cc)

-- each entry of the list, and its outcome
pub record IsRowOf (key : Key) (rank : ℕ) (p : Place) : Type 0 where
  pub is : p ≡ place key rank
  pub row : outcome_at p ≡ Row

-- the entry of a rank, and that it has a row
pub row_in : (key : Key) (rows : List (Arc Place Global)) (rank : ℕ) (a : Arc Place Global) → IsFilled key rows →
    first_refusal (reverse (map arc_value rows)) ≡ None → rank < length (labels key) → a ≡ get_or rows rank a →
    IsRowOf key rank (arc_value a)
row_in key rows rank a filled none lt is = record {
  is = first_entry key (length (labels key)) rank rows a filled lt is;
  row = subst (λ (b : Arc Place Global). outcome_at (arc_value b) ≡ Row) (sym is)
      (all_at (λ (b : Arc Place Global). outcome_at (arc_value b) ≡ Row) rows rank a
      (map_all (λ p. outcome_at p ≡ Row) arc_value rows
      (reverse_all (λ p. outcome_at p ≡ Row) (map arc_value rows)
      (none_refused (reverse (map arc_value rows)) none)))
      (omega (arith, lt, first_count key (length (labels key)) rows filled)));
}

-- where no entry is refused, each e-regular partition has a row within the limit
pub all_rows : (key : Key) (rows : List (Arc Place Global)) → IsFilled key rows →
    first_refusal (reverse (map arc_value rows)) ≡ None → HasAllRows key
all_rows key rows filled none =
    all_places (λ mu. outcome key.e key.limit mu ≡ Row) (labels key) []
    (λ k lt. range_at (λ j. outcome_at (place key j) ≡ Row) 0 (length (labels key)) at_ranks k (omega arith)
    (omega (arith, lt)))
  where
    at_ranks : AllByRecursion (λ j. outcome_at (place key j) ≡ Row) (range_with_len 0 (length (labels key)))
    at_ranks =
        map_all (λ p. outcome_at p ≡ Row) (place key) (range_with_len 0 (length (labels key)))
        (subst (AllByRecursion (λ p. outcome_at p ≡ Row)) filled
        (reverse_all (λ p. outcome_at p ≡ Row) (map arc_value rows)
        (none_refused (reverse (map arc_value rows)) none)))

-- ---- what an entry with a row tells

-- the shares that it tells
pub told : (p : Place) (key : Key) → p.key ≡ key → outcome_at p ≡ Row →
    told_shares p.key.e p.key.limit (label p.key p.rank) ≡ given_shares key.e (label key p.rank) 0
told p key is row =
    ap (λ o. cond (is_too_large o) [] (given_shares p.key.e (label p.key p.rank) 0)) row
    ∙ ap (λ (k : Key). given_shares k.e (label k p.rank) 0) is

-- the entries of its row
pub row_entries : (p : Place) (key : Key) (v : FockVector) → p.key ≡ key →
    v ≡ fock_vector p.key.degree (regular_row p.key.e (label p.key p.rank)) →
    v.entries ≡ entries key.degree (regular_row key.e (label key p.rank))
row_entries p key v is h =
    ap (λ (u : FockVector). u.entries) h
    ∙ ap (λ (k : Key). entries k.degree (regular_row k.e (label k p.rank))) is

-- ---- joined texts

-- four texts joined
pub four : (a b c d : List ℕ) → ((a ++ b) ++ c) ++ d ≡ a ++ (b ++ (c ++ d))
four a b c d = append_assoc (a ++ b) c d ∙ append_assoc a b (c ++ d)

-- five texts joined
pub five : (a b c d e : List ℕ) → (((a ++ b) ++ c) ++ d) ++ e ≡ a ++ (b ++ (c ++ (d ++ e)))
five a b c d e = append_assoc ((a ++ b) ++ c) d e ∙ four a b c (d ++ e)
