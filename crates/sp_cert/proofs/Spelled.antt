-- What is known of a partition and a polynomial that words write.
use Rattle.std.proofs.Common.{◌≡◌, ◌≢◌, ℕ, List, [], ◌∷◌, length, refl, ◌∙◌, ap}
use Rattle.std.proofs.Common.{subst, arith, Option, Some, None}
use Rattle.std.specs.Option.{option_and_then}
use Rattle.sp_defs.specs.Laurent.{Laurent}
use Rattle.sp_defs.specs.Text.{polynomial_text}
use Rattle.sp_laurent.specs.Readable.{IsReadable}
use Rattle.sp_cert.specs.Polynomials.{polynomial_of}
use Rattle.sp_cert.specs.Grammar.{polynomial_with, unless_zero}
use Rattle.sp_cert.proofs.Polynomials.{polynomial_found, polynomial_read, no_polynomial}

-- ---- polynomials

-- A text of 0 is refused.
pub zero_refused : (text : List ℕ) (p : Laurent) → IsReadable p → polynomial_text p ≡ text → length p ≡ 0 →
    polynomial_with text ≡ None
zero_refused text [] readable is none = ap (option_and_then unless_zero) (polynomial_found text [] readable is)
zero_refused text (t ∷ p) readable is none = absurd (omega (arith, none))

-- The text of another polynomial is read.
pub nonzero_read : (text : List ℕ) (p : Laurent) → IsReadable p → polynomial_text p ≡ text → length p ≢ 0 →
    polynomial_with text ≡ Some p
nonzero_read text [] readable is some = absurd (some refl)
nonzero_read text (t ∷ p) readable is some =
    ap (option_and_then unless_zero) (polynomial_found text (t ∷ p) readable is)

-- Another text is refused.
pub other_refused : (text : List ℕ) → ((p : Laurent) → IsReadable p → ¬ (polynomial_text p ≡ text)) →
    polynomial_with text ≡ None
other_refused text h = ap (option_and_then unless_zero) (no_polynomial text h)

-- What is read isn't 0, and is within the limits.
pub record IsFactor (p : Laurent) : Type 0 where
  pub readable : IsReadable p
  pub nonzero : p ≢ []

pub factor_read : (text : List ℕ) (p : Laurent) → polynomial_with text ≡ Some p → IsFactor p
factor_read text p h = by (polynomial_of text) refl h
  where
    by : (o : Option Laurent) → polynomial_of text ≡ o → option_and_then unless_zero o ≡ Some p → IsFactor p
    by None is k = absurd (cc)
    by (Some []) is k = absurd (cc)
    by (Some (t ∷ ts)) is k =
        let same : t ∷ ts ≡ p = cc in
        record {
          readable = subst IsReadable same (polynomial_read text (t ∷ ts) is).readable;
          nonzero = λ zero. let w : t ∷ ts ≡ [] = same ∙ zero in cc;
        }
