-- The text of a polynomial, written term by term.
use Rattle.std.proofs.Common.{◌≡◌, ℕ, ◌+◌, ◌-◌, ◌<◌, ◌≤◌, cond, codes, List, [], ◌∷◌, ◌++◌, take, drop, flat_map}
use Rattle.std.proofs.Common.{length, get_or, refl, sym, ◌∙◌, ap, append_assoc, arith}
use Rattle.std.proofs.lemmas.List.{append-nil, take_more, take_all}
use Rattle.std.proofs.lemmas.Grind.{flat_map-append}
use Rattle.sp_defs.specs.Laurent.{Laurent, Term}
use Rattle.sp_defs.specs.Text.{is_negative, term_text, signed_term_text, polynomial_text}
use Rattle.sp_lists.proofs.Places.{rest-cons}
use Rattle.sp_laurent.specs.Grown.{IsGrown}

-- the first term's part of the text
abbrev pub first_text : Term → List ℕ
first_text t = cond (is_negative t) (codes "-") [] ++ term_text t

-- `new` has the first term and i later ones behind `old`
pub record IsWritten (old new : List ℕ) (first : Term) (later : Laurent) (i : ℕ) : Type 0 where
  pub is : new ≡ old ++ (first_text first ++ flat_map signed_term_text (take i later))

-- a polynomial with no term is written 0
pub no_text : (terms : Laurent) → length terms < 1 → polynomial_text terms ≡ codes "0"
unfolding polynomial_text
no_text [] none = refl
no_text (t ∷ terms) none = absurd (omega arith)

-- after the first term
pub written_none : (old new : List ℕ) (first : Term) (later : Laurent) → new ≡ old ++ first_text first
    → IsWritten old new first later 0
written_none old new first later e = record { is = e ∙ ap (λ t. old ++ t) (sym (append-nil (first_text first))) }

module _ (old new : List ℕ) (first : Term) (later : Laurent) (i : ℕ) (h : IsWritten old new first later i) where
  -- something was appended to the text
  pub written_grown : IsGrown old new
  written_grown = record { added = first_text first ++ flat_map signed_term_text (take i later); is = h.is }

  -- one more term
  pub written_more : (new' : List ℕ) (d : Term) → i < length later
      → new' ≡ new ++ signed_term_text (get_or later i d) → IsWritten old new' first later (i + 1)
  written_more new' d lt e = record {
    is =
        e ∙ ap (λ t. t ++ signed_term_text (get_or later i d)) h.is
        ∙ append_assoc old (first_text first ++ flat_map signed_term_text (take i later))
        (signed_term_text (get_or later i d))
        ∙ ap (λ t. old ++ t) (append_assoc (first_text first) (flat_map signed_term_text (take i later))
        (signed_term_text (get_or later i d))
        ∙ ap (λ t. first_text first ++ t) last);
  }
    where
      last : flat_map signed_term_text (take i later) ++ signed_term_text
          (get_or later i d) ≡ flat_map signed_term_text (take (i + 1) later)
      last =
          ap (λ t. flat_map signed_term_text (take i later) ++ t)
          (sym (append-nil (signed_term_text (get_or later i d))))
          ∙ sym (flat_map-append signed_term_text (take i later) (get_or later i d ∷ []))
          ∙ ap (flat_map signed_term_text) (sym (take_more later i d lt))

-- after the last term, the whole text stands behind
pub written_all : (old new : List ℕ) (terms : Laurent) (d : Term) (i : ℕ) → 1 ≤ length terms
    → length (take (length terms - 1) (drop 1 terms)) ≤ i
    → IsWritten old new (get_or terms 0 d) (take (length terms - 1)
    (drop 1 terms)) i → new ≡ old ++ polynomial_text terms
unfolding polynomial_text
written_all old new [] d i some le h = absurd (omega arith)
written_all old new (t ∷ terms) d i some le h =
    h.is ∙ ap (λ later. old ++ (first_text t ++ flat_map signed_term_text later))
    (take_all i (take (length (t ∷ terms) - 1) (drop 1 (t ∷ terms))) le ∙ rest-cons t terms)
