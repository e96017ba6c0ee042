-- The e-regular partition of a rank.
use Rattle.std.proofs.Common.{◌≡◌, ℕ, ◌<◌, ◌≤◌, List, [], length, get_or, refl, sym, ◌∙◌, ap, arith}
use Rattle.std.proofs.lemmas.List.{get_or_default}
use Rattle.sp_defs.specs.Partition.{degree, regulars, IsRegularOf}
use Rattle.sp_defs.specs.Row.{earlier}
use Rattle.sp_defs.specs.Statements.{IsLabel}
use Rattle.sp_lists.proofs.Places.{all_at}
use Rattle.sp_shapes.proofs.Listing.{all_regulars}
use Rattle.sp_outcome_law.proofs.Ranks.{rank_of}
use Rattle.sp_core.specs.declared.piece.Key.{Key}
use Rattle.sp_llt.specs.Place.{IsKey, IsPlace, place, label, labels}
use Rattle.sp_row_bounds.proofs.Ranks.{count_law}

-- What is known of the e-regular partition of a rank.
pub record LabelFacts (key : Key) (rank : ℕ) : Type 0 where
  pub regular : IsRegularOf key.e key.degree (label key rank)
  pub is_label : IsLabel key.e (label key rank)
  pub total : degree (label key rank) ≡ key.degree
  pub count : length (earlier key.e (label key rank)) ≡ rank

-- all this holds of each rank
pub label_facts : (key : Key) (rank : ℕ) → IsPlace (place key rank) → LabelFacts key rank
label_facts key rank p = record {
  regular = regular;
  is_label = record { e_least = p.key.e_least; partition = regular.partition; regular = regular.regular };
  total = regular.total;
  count = sym (rank_of key.e key.degree rank (label key rank) [] p.rank refl regular.total);
}
  where
    regular : IsRegularOf key.e key.degree (label key rank)
    regular = all_at (IsRegularOf key.e key.degree) (labels key) rank [] (all_regulars key.e key.degree) p.rank

-- the key, and the partition of the rank
pub place_of : (key : Key) (rank : ℕ) → IsKey key → rank < length (labels key) → IsPlace (place key rank)
place_of key rank h lt = record { key = h; rank = lt }

-- a lower rank is one too
pub lower_place : (key : Key) (rank j : ℕ) → IsPlace (place key rank) → j < rank → IsPlace (place key j)
lower_place key rank j p lt = record { key = p.key; rank = omega (arith, p.rank) }

-- the list by mu's degree is the list by the key's
pub by_degree : (key : Key) (rank i : ℕ) → LabelFacts key rank →
    get_or (regulars key.e (degree (label key rank))) i [] ≡ label key i
by_degree key rank i f = ap (λ n. get_or (regulars key.e n) i []) f.total

-- an element of the list of labels is the label
pub read_label : (key : Key) (rank : ℕ) (rs : List (List ℕ)) (mu : List ℕ) → rs ≡ labels key →
    rank < length (labels key) → mu ≡ get_or rs rank mu → mu ≡ label key rank
read_label key rank rs mu same lt at =
    at ∙ ap (λ xs. get_or xs rank mu) same ∙ get_or_default (labels key) rank mu [] lt

-- ---- how many there are

-- each key has an e-regular partition
pub some_labels : (key : Key) → IsKey key → 1 ≤ length (labels key)
some_labels key h = count_law.some_regular key.e key.degree h.e_least

-- and at most 5,604
pub few_labels : (key : Key) → IsKey key → length (labels key) ≤ 5604
few_labels key h =
    omega (
      arith,
      count_law.few_regulars key.e key.degree,
      count_law.up_to_30 key.degree (omega (arith, h.degree)),
    )
