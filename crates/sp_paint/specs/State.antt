-- What a painter is, as plain data.
use Rattle.std.specs.Prelude.{ℕ, ◌+◌, ◌-◌, ◌^◌, min, List, codes}
use Rattle.sp_fock_law.specs.Grid.{GridValue}
use Rattle.sp_paint.specs.declared.form.Form.{Form}
use Rattle.sp_paint.specs.declared.form.Form.TheVariants.{Plain, Tex, Gap}

-- A name, a form, and the number of its pages so far (this project's own).
pub record PainterState : Type 0 where
  pub name : List ℕ
  pub form : Form
  pub pages : ℕ

abbrev pub name_of : PainterState → List ℕ
name_of state = state.name

-- One page more. The greatest `u64` stays (this project's own).
abbrev pub one_more : ℕ → ℕ
one_more pages = min (pages + 1) (2 ^ 64 - 1)

-- The state after a page (this project's own).
abbrev pub next_of : PainterState → GridValue → PainterState
next_of state grid = record state { pages = one_more state.pages }

-- The name of a form (this project's own).
abbrev pub word_of : Form → List ℕ
word_of Plain = codes "plain"
word_of Tex = codes "tex"
word_of Gap = codes "gap"

-- A painter that has the name of its form.
abbrev pub named_by_form : Form → ℕ → PainterState
named_by_form form pages = record { name = word_of form; form = form; pages = pages }
