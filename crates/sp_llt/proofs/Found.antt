-- What a builder has found once no row is to come.
use Rattle.std.proofs.Common.{◌≡◌, ℕ, List, map, reverse, sym, ◌∙◌, ap, Option, None, ℤ, false}
use Rattle.std.specs.List.{find}
use Rattle.std.specs.Option.{option_map}
use Rattle.sp_defs.specs.Power.{FockVector, fock_vector}
use Rattle.sp_defs.specs.Row.{regular_row}
use Rattle.sp_fock_law.proofs.Vectors.{entries-alike}
use Rattle.sp_outcome_law.specs.Asking.{next_rank, left, is_past}
use Rattle.sp_outcome_law.proofs.Decided.{decided_end}
use Rattle.sp_outcome_law.proofs.Left.{left_end}
use Rattle.sp_outcome_law.proofs.Reached.{all_passed}
use Rattle.sp_core.specs.declared.piece.Key.{Key}
use Rattle.sp_llt.specs.declared.share.Share.{Share}
use Rattle.sp_llt.specs.Place.{IsPlace, place, label}
use Rattle.sp_llt.specs.Shares.{given_shares, ranked_share}
use Rattle.sp_llt.specs.Search.{is_stray_entry}
use Rattle.sp_llt.specs.Reached.{tally_at}
use Rattle.sp_llt.specs.Found.{IsWhole}
use Rattle.sp_llt.proofs.Labels.{LabelFacts, label_facts}
use Rattle.sp_llt.proofs.Strays.{stray_found}

module _ (key : Key) (rank : ℕ) (p : IsPlace (place key rank)) where
  abbrev mu : List ℕ
  mu = label key rank

  f : LabelFacts key rank
  f = label_facts key rank p

  -- the regular row is left
  row_left : (t : ℕ) → next_rank key.e mu t ≡ None →
      fock_vector key.degree (left key.e mu t) ≡ fock_vector key.degree (regular_row key.e mu)
  row_left t h = ap (λ es. as_vector es)
      (entries-alike key.degree (left key.e mu t) (regular_row key.e mu) (λ lambda _. left_end key.e mu t
      f.is_label h lambda))
    where
      as_vector : List (List ℕ × List (ℤ × ℤ)) → FockVector
      as_vector es = record { degree = key.degree; entries = es }

  all_given : (t : ℕ) → next_rank key.e mu t ≡ None → given_shares key.e mu t ≡ given_shares key.e mu 0
  unfolding given_shares
  all_given t h = ap (λ fs. reverse (map (ranked_share key.e) fs)) (sym (all_passed key.e mu t h).same_given)

  -- what is left once no rank is next is the whole outcome
  pub whole : (t : ℕ) (row : FockVector) (given : List Share) (at : Option (List ℕ)) →
      is_past key.e key.limit mu t ≡ false → next_rank key.e mu t ≡ None → row ≡ (tally_at key mu t).vector →
      given ≡ given_shares key.e mu t →
      at ≡ option_map (λ t. t.0) (find (is_stray_entry mu) (reverse row.entries)) → IsWhole key mu row given at
  whole t row given at undecided last is shares found = record {
    fits = decided_end key.e key.limit mu t last ∙ undecided;
    row = regular;
    shares = shares ∙ all_given t last;
    stray = found
        ∙ ap (λ v. option_map (λ t. t.0) (find (is_stray_entry mu) (reverse (entries_of v)))) regular
        ∙ stray_found key.e key.degree mu f.total;
  }
    where
      entries_of : FockVector → List (List ℕ × List (ℤ × ℤ))
      entries_of v = v.entries

      regular : row ≡ fock_vector key.degree (regular_row key.e mu)
      regular = is ∙ row_left t last
