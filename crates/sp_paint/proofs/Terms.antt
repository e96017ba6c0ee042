-- The text of a term at a power that isn't 0.
use Rattle.std.proofs.Common.{◌≡◌, ◌++◌, List, ℕ, ℤ, pos, false, cond, unsigned_abs, ap, append_assoc, ◌∙◌, sym}
use Rattle.std.specs.Ordering.{int_eq}
use Rattle.std.specs.Fmt.{decimal}
use Rattle.sp_paint.specs.declared.notation.Notation.{Notation}
use Rattle.sp_paint.specs.Notation.{factor_text, power_text, term_text}

-- A term at a power that isn't 0 is written by its factor and its power of v.
pub written_term : (notation : Notation) (k c : ℤ) (size : ℕ) (old between new : List ℕ) → int_eq k (pos 0) ≡ false →
    size ≡ unsigned_abs c → between ≡ old ++ factor_text notation size → new ≡ between ++ power_text notation k →
    new ≡ old ++ term_text notation (k, c)
unfolding term_text
written_term notation k c size old between new apart is factor power =
    power ∙ ap (λ xs. xs ++ power_text notation k) (factor ∙ ap (λ n. old ++ factor_text notation n) is)
    ∙ append_assoc old (factor_text notation (unsigned_abs c)) (power_text notation k)
    ∙ ap (λ b. old ++ cond b (decimal (unsigned_abs c))
    (factor_text notation (unsigned_abs c) ++ power_text notation k)) (sym apart)
