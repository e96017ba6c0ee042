-- The walk down the columns of a table: the rows so far, and whether a column is refused.
use Rattle.std.proofs.Common.{◌≡◌, ℕ, ◌-◌, ◌<◌, ◌≤◌, true, false, List, [], ◌∷◌, ◌++◌, map, length, reverse, take}
use Rattle.std.proofs.Common.{get_or}
use Rattle.std.proofs.Common.{Err, Option, Some, sym, ◌∙◌, ap, Bor, arith, append-nil}
use Rattle.std.proofs.lemmas.List.{get_or_default}
use Rattle.std.specs.Arc.{arc_value}
use Rattle.std.specs.declared.sync.Arc.{Arc}
use Rattle.std.specs.declared.alloc.Global.{Global}
use Rattle.sp_defs.specs.Power.{FockVector}
use Rattle.sp_defs.specs.Row.{outcome, Row}
use Rattle.sp_lists.proofs.Backwards.{back_all}
use Rattle.sp_core.specs.declared.piece.Key.{Key}
use Rattle.sp_llt.specs.declared.refused.Refused.{Refused}
use Rattle.sp_llt.specs.declared.refused.FirstRefused.{FirstRefused}
use Rattle.sp_llt.specs.Found.{outcome_told}
use Rattle.sp_llt.specs.Place.{Place, place, label, labels}
use Rattle.sp_llt.specs.Refusals.{refused_as, or_else, outcome_at}
use Rattle.sp_llt.specs.Filled.{IsFilled}
use Rattle.sp_llt.proofs.Firsts.{first_count, first_entry}
use Rattle.sp_matrix.specs.declared.scope.Scope.{Scope}
use Rattle.sp_matrix.specs.Refusal.{refused_column}
use Rattle.sp_matrix.specs.Scope.{is_in, within}
use Rattle.sp_matrix.specs.Walk.{row_of, vectors_of}
use Rattle.sp_matrix.proofs.Backwards.{within_past, within_done}
use Rattle.sp_matrix.proofs.Refusals.{told_refusal, rows_here, refused_here}

-- All columns within a scope, descending.
abbrev pub columns : Key → Scope → List (List ℕ)
columns key s = within key.e s (reverse (labels key))

-- Those of them whose ranks are below k.
abbrev pub columns_below : Key → Scope → ℕ → List (List ℕ)
columns_below key s k = within key.e s (reverse (take k (labels key)))

-- The rows of these columns.
abbrev pub rows_of : Key → List (List ℕ) → List FockVector
rows_of key mus = map (row_of key.e key.degree) mus

-- The first of these columns that is refused.
abbrev pub refusal_in : Key → List (List ℕ) → Option FirstRefused
refusal_in key mus = refused_column key.e key.limit mus

-- The rows of the columns from rank k on are in the list, and none of these columns is refused.
pub record IsWalked (key : Key) (s : Scope) (list : List (Bor FockVector)) (k : ℕ) : Type 0 where
  pub rows : vectors_of list ++ rows_of key (columns_below key s k) ≡ rows_of key (columns key s)
  pub refused : refusal_in key (columns_below key s k) ≡ refusal_in key (columns key s)

-- The entry of the rank k - 1, and its partition.
pub record IsEntry (key : Key) (k : ℕ) (p : Place) (mu : List ℕ) : Type 0 where
  pub some : 0 < k
  pub within : k ≤ length (labels key)
  pub entry : p ≡ place key (k - 1)
  pub named : mu ≡ label p.key p.rank
  pub at : mu ≡ get_or (labels key) (k - 1) mu

-- In the list of all entries the one before place k is that of the rank k - 1.
pub entry_before : (key : Key) (rows : List (Arc Place Global)) (k : ℕ) (a : Arc Place Global) (p : Place)
    (mu : List ℕ) → IsFilled key rows → 0 < k → k ≤ length rows → a ≡ get_or rows (k - 1) a → p ≡ arc_value a →
    mu ≡ label p.key p.rank → IsEntry key k p mu
entry_before key rows k a p mu filled some le at is named =
    let count = first_count key (length (labels key)) rows filled in
    let entry : p ≡ place key (k - 1) =
    is ∙ first_entry key (length (labels key)) (k - 1) rows a filled (omega (arith, count)) at in
    record {
      some = some;
      within = omega (arith, count);
      entry = entry;
      named = named;
      at =
          named
          ∙ ap (λ (q : Place). label q.key q.rank) entry
          ∙ get_or_default (labels key) (k - 1) [] mu (omega (arith, count));
    }

-- Before the first step nothing is in the list.
pub walked_none : (key : Key) (s : Scope) (rows : List (Arc Place Global)) (list : List (Bor FockVector)) →
    IsFilled key rows → list ≡ [] → IsWalked key s list (length rows)
walked_none key s rows list filled none =
    let all = back_all (labels key) (length rows) (omega (arith, first_count key (length (labels key)) rows filled)) in
    record {
      rows =
          ap (λ vs. vectors_of vs ++ rows_of key (columns_below key s (length rows))) none
          ∙ ap (λ mus. rows_of key (within key.e s mus)) all;
      refused = ap (λ mus. refusal_in key (within key.e s mus)) all;
    }

-- After the last step the list has all rows, and no column is refused.
module _ (key : Key) (s : Scope) (list : List (Bor FockVector)) (k : ℕ) (le : k ≤ 0) (h : IsWalked key s list k) where
  -- the vectors walked are the rows of the columns
  pub walked_rows : vectors_of list ≡ rows_of key (columns key s)
  walked_rows =
      sym (append-nil (vectors_of list))
      ∙ ap (λ mus. vectors_of list ++ rows_of key mus) (sym (within_done key.e s (labels key) k le))
      ∙ h.rows

  -- and none of the columns is refused
  pub walked_whole : refusal_in key (columns key s) ≡ refusal_in key []
  walked_whole = sym h.refused ∙ ap (refusal_in key) (within_done key.e s (labels key) k le)

-- One step: what becomes of the column of an entry.
module _ (key : Key) (s : Scope) (list : List (Bor FockVector)) (k : ℕ) (p : Place) (mu : List ℕ)
    (h : IsWalked key s list k) (at : IsEntry key k p mu) where
  label_is : mu ≡ label key (k - 1)
  label_is = at.named ∙ ap (λ (q : Place). label q.key q.rank) at.entry

  outcome_is : outcome key.e key.limit mu ≡ outcome_at p
  outcome_is = ap (outcome key.e key.limit) label_is ∙ sym (ap outcome_at at.entry)

  row_is : row_of p.key.e p.key.degree (label p.key p.rank) ≡ row_of key.e key.degree mu
  row_is =
      ap (λ (q : Place). row_of q.key.e q.key.degree (label q.key q.rank)) at.entry
      ∙ ap (row_of key.e key.degree) (sym label_is)

  -- A column that isn't within the scope is passed over.
  pub walked_past : is_in key.e s mu ≡ false → IsWalked key s list (k - 1)
  walked_past out =
      let past = within_past key.e s (labels key) k mu at.some at.within at.at out in
      record {
        rows = ap (λ mus. vectors_of list ++ rows_of key mus) (sym past) ∙ h.rows;
        refused = ap (refusal_in key) (sym past) ∙ h.refused;
      }

  module _ (is : is_in key.e s mu ≡ true) where
    refusal_is : refusal_in key (columns key s) ≡
        or_else (refused_as mu (outcome_at p)) (refusal_in key (columns_below key s (k - 1)))
    refusal_is =
        sym h.refused
        ∙ refused_here key.e s (labels key) k mu at.some at.within at.at is key.limit
        ∙ ap (λ o. or_else (refused_as mu o) (refusal_in key (columns_below key s (k - 1)))) outcome_is

    -- Its row goes to the end of the list.
    pub walked_row : (row : Bor FockVector) (more : List (Bor FockVector)) →
        row.now ≡ row_of p.key.e p.key.degree (label p.key p.rank) → Row ≡ outcome_at p → more ≡ list ++ row ∷ [] →
        IsWalked key s more (k - 1)
    walked_row row more its found e = record {
      rows =
          ap (λ vs. vectors_of vs ++ rows_of key (columns_below key s (k - 1))) e
          ∙ rows_here key.e s (labels key) k mu at.some at.within at.at is key.degree list row (its ∙ row_is)
          ∙ h.rows;
      refused =
          sym (refusal_is
          ∙ ap (λ o. or_else (refused_as mu o) (refusal_in key (columns_below key s (k - 1)))) (sym found));
    }

    -- A column without a row is the first that is refused.
    pub walked_refused : (why : Refused) → outcome_told (Err why) ≡ outcome_at p →
        refusal_in key (columns key s) ≡ Some (record { mu = mu; why = why })
    walked_refused why told =
        refusal_is
        ∙ ap (λ o. or_else (refused_as mu o) (refusal_in key (columns_below key s (k - 1)))) (sym told)
        ∙ ap (λ o. or_else o (refusal_in key (columns_below key s (k - 1)))) (told_refusal why mu)
