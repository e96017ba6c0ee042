-- A partition's text, part by part.
use Rattle.std.proofs.Common.{◌≡◌, ℕ, ◌+◌, ◌<◌, ◌≤◌, nat_eq, List, [], ◌∷◌, ◌++◌, map, count_by, take, length}
use Rattle.std.proofs.Common.{codes, refl, sym, ◌∙◌, ap, append_assoc, arith}
use Rattle.std.proofs.lemmas.List.{take_all}
use Rattle.sp_defs.specs.Text.{distinct, joined_by}
use Rattle.sp_partition.proofs.Kept.{kept_more}
use Rattle.sp_paint.specs.declared.notation.Notation.{Notation}
use Rattle.sp_paint.specs.Notation.{part_text, partition_text}
use Rattle.sp_paint.specs.Parts.{new_part_text}
use Rattle.sp_paint.proofs.Joining.{joined-distinct-more}

-- a part with the number of its equals among these
abbrev run_text : Notation → List ℕ → ℕ → List ℕ
run_text notation parts q = part_text notation q (count_by (nat_eq q) parts)

partition_text-some : (notation : Notation) (parts : List ℕ) → 0 < length parts →
    partition_text notation parts ≡ joined_by (codes ",") (map (run_text notation parts) (distinct parts))
unfolding partition_text
partition_text-some notation [] some = absurd (omega arith)
partition_text-some notation (p ∷ parts) some = refl

-- the texts of the first i parts are appended, each once
pub record IsWritten (notation : Notation) (parts old new : List ℕ) (i : ℕ) : Type 0 where
  pub text :
      new ≡ old ++ joined_by (codes ",")
      (map (λ q. part_text notation q (count_by (nat_eq q) parts)) (distinct (take i parts)))
  pub kept : take (length old) new ≡ old

module _ (notation : Notation) (parts old new : List ℕ) (i : ℕ) (h : IsWritten notation parts old new i) where
  -- One part more is written.
  pub written_more : (now : List ℕ) → i < length parts → now ≡ new ++ new_part_text notation parts i →
      IsWritten notation parts old now (i + 1)
  written_more now lt e = record {
    text =
        e ∙ ap (λ t. t ++ new_part_text notation parts i) h.text
        ∙ append_assoc old _ (new_part_text notation parts i)
        ∙ ap (λ t. old ++ t) (sym (joined-distinct-more (run_text notation parts) parts i 0 lt));
    kept = kept_more old new now (new_part_text notation parts i) h.kept e;
  }

  -- When all parts are written, the text of the partition is appended.
  pub written_all : 0 < length parts → length parts ≤ i → new ≡ old ++ partition_text notation parts
  written_all some le = h.text ∙ ap (λ t. old ++ t)
      (ap (λ qs. joined_by (codes ",") (map (run_text notation parts) (distinct qs))) (take_all i parts le)
      ∙ sym (partition_text-some notation parts some))
