-- The column that refuses all rows of a degree.
use Rattle.std.proofs.Common.{◌≡◌, ℕ, zero, suc, ◌+◌, ◌≤◌, List, [], ◌∷◌, ◌++◌, map, length, reverse, take, get_or}
use Rattle.std.proofs.Common.{Some, None, refl, sym, ◌∙◌, ap, subst, arith}
use Rattle.std.proofs.Math.Seq.{take-length}
use Rattle.std.proofs.lemmas.List.{take_more}
use Rattle.std.proofs.lemmas.List.FromFn.{map-range_with_len_more}
use Rattle.std.specs.Arc.{arc_value}
use Rattle.std.specs.List.{range_with_len}
use Rattle.std.specs.declared.sync.Arc.{Arc}
use Rattle.std.specs.declared.alloc.Global.{Global}
use Rattle.sp_lists.proofs.Maps.{map-reverse}
use Rattle.sp_core.specs.declared.piece.Key.{Key}
use Rattle.sp_llt.specs.Filled.{IsFilled}
use Rattle.sp_llt.specs.Place.{Place, place, key_of, label, labels}
use Rattle.sp_llt.specs.Refusals.{first_refusal, or_else, refusal}
use Rattle.sp_llt.specs.declared.refused.FirstRefused.{FirstRefused}
use Rattle.sp_matrix.specs.Matrix.{columns_of}
use Rattle.sp_matrix.specs.Refusal.{refused_column}
use Rattle.sp_cert.specs.Texts.{certificate_text}
use Rattle.sp_replies.specs.Refusals.{by_column, refusal_line}
use Rattle.sp_session.specs.Certificates.{certificate_reply, text_unless_refused}

module _ (key : Key) where
  -- The first entry that is refused is at the first column that is.
  refused_at : (ks : List ℕ) →
      first_refusal (map (place key) ks) ≡ refused_column key.e key.limit (map (label key) ks)
  unfolding first_refusal refused_column
  refused_at [] = refl
  refused_at (k ∷ ks) = ap (or_else (refusal (place key k))) (refused_at ks)

  -- The partitions of the ranks below k are the first k.
  labels_below : (k : ℕ) → k ≤ length (labels key) → map (label key) (range_with_len 0 k) ≡ take k (labels key)
  labels_below zero le = refl
  labels_below (suc k) le =
      subst (λ n. map (label key) (range_with_len 0 n) ≡ take n (labels key)) {x = k + 1} {y = suc k} (omega arith)
      (map-range_with_len_more (label key) 0 k k (omega arith)
      ∙ ap (λ xs. xs ++ label key k ∷ []) (labels_below k (omega (arith, le)))
      ∙ sym (take_more (labels key) k [] (omega (arith, le))))

  -- The last of all entries that is refused is at the greatest column that is.
  pub filled_refusal : (rows : List (Arc Place Global)) → IsFilled key rows →
      first_refusal (reverse (map arc_value rows)) ≡ refused_column key.e key.limit (columns_of key.e key.degree)
  filled_refusal rows filled =
      let ks = range_with_len 0 (length (labels key)) in
      ap (λ ps. first_refusal (reverse ps)) filled
      ∙ ap first_refusal (sym (map-reverse (place key) ks))
      ∙ refused_at (reverse ks)
      ∙ ap (refused_column key.e key.limit)
      (map-reverse (label key) ks
      ∙ ap reverse (labels_below (length (labels key)) (omega arith) ∙ take-length (labels key)))

-- What is answered where every row is there, and where one is refused.
module _ (limit e n : ℕ) (key : Key) (is : key ≡ key_of e n limit) (rows : List (Arc Place Global))
    (filled : IsFilled key rows) where
  refusal_is : first_refusal (reverse (map arc_value rows)) ≡ refused_column e limit (columns_of e n)
  refusal_is =
      filled_refusal key rows filled ∙ ap (λ (k : Key). refused_column k.e k.limit (columns_of k.e k.degree)) is

  -- Without a refused row it is the certificate.
  pub whole_reply : first_refusal (reverse (map arc_value rows)) ≡ None →
      certificate_text key.e key.degree ≡ certificate_reply limit e n
  unfolding certificate_reply
  whole_reply none =
      ap (λ (k : Key). certificate_text k.e k.degree) is ∙ ap (text_unless_refused e n) (sym none ∙ refusal_is)

  -- With one it is its refusal.
  pub refused_reply : (refused : FirstRefused) → first_refusal (reverse (map arc_value rows)) ≡ Some refused →
      refusal_line (by_column refused.mu refused.why) ≡ certificate_reply limit e n
  unfolding certificate_reply
  refused_reply refused some = ap (text_unless_refused e n) (sym some ∙ refusal_is)
