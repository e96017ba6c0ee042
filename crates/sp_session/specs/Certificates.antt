-- The answer to `certificate`. This project's own.
use Rattle.std.specs.Prelude.{ℕ, List, Option, Some, None}
use Rattle.sp_cert.specs.Texts.{certificate_text}
use Rattle.sp_llt.specs.declared.refused.FirstRefused.{FirstRefused}
use Rattle.sp_matrix.specs.Matrix.{columns_of}
use Rattle.sp_matrix.specs.Refusal.{refused_column}
use Rattle.sp_replies.specs.Refusals.{by_column, refusal_line}

abbrev pub text_unless_refused : ℕ → ℕ → Option FirstRefused → List ℕ
text_unless_refused e n None = certificate_text e n
text_unless_refused e n (Some refused) = refusal_line (by_column refused.mu refused.why)

-- The certificate of all rows of degree n, or the greatest column that is refused.
unfoldable pub certificate_reply : ℕ → ℕ → ℕ → List ℕ
certificate_reply limit e n = text_unless_refused e n (refused_column e limit (columns_of e n))
