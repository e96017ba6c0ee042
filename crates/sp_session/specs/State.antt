-- What a session remembers from line to line. This project's own.
use Rattle.std.specs.Prelude.{List, ℕ, [], ◌∷◌, ◌++◌}
use Rattle.sp_checking.specs.SoFar.{unfinished_text}
use Rattle.sp_checking.specs.declared.so_far.Checking.{Checking}
use Rattle.sp_checking.specs.declared.so_far.Checking.TheVariants.{Outside}
use Rattle.sp_lang.specs.declared.convention.Convention.{Convention}
use Rattle.sp_lang.specs.declared.convention.Convention.TheVariants.{Regular}
use Rattle.sp_paint.specs.State.{PainterState, named_by_form}
use Rattle.sp_paint.specs.declared.form.Form.TheVariants.{Plain, Tex, Gap}
use Rattle.sp_session.specs.Easel.{EaselState, first_chosen, trailers}

-- Its painters, the convention for labels, and how far the certificate behind a `check` has come.
pub record State : Type 0 where
  pub easel : EaselState
  pub convention : Convention
  pub certificate : Checking

-- Before the first line the first painter is chosen, labels are e-regular, and no certificate was begun.
abbrev pub opening : List PainterState → State
opening painters = record { easel = first_chosen painters; convention = Regular; certificate = Outside }

-- The painters of the programs, in order, before their first page.
abbrev pub standard_painters : List PainterState
standard_painters = named_by_form Plain 0 ∷ named_by_form Tex 0 ∷ named_by_form Gap 0 ∷ []

-- At the end: the answer to a certificate that was begun and has not ended, and then the trailers of all painters.
unfoldable pub closing : State → List ℕ
closing state = unfinished_text state.certificate ++ trailers state.easel
