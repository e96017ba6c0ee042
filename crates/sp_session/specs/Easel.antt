-- What a session remembers of its painters. This project's own.
use Rattle.std.specs.Prelude.{ℕ, zero, suc, Bool, true, false, List, [], ◌∷◌, flat_map, Option, Some, None, position}
use Rattle.std.specs.Str.{bytes_eq}
use Rattle.sp_fock_law.specs.Grid.{GridValue}
use Rattle.sp_paint.specs.State.{PainterState, name_of, next_of}
use Rattle.sp_paint.specs.Page.{page_of, trailer_of}

-- They stand in order. The place of the chosen one is counted from 0.
pub record EaselState : Type 0 where
  pub chosen : ℕ
  pub painters : List PainterState

-- Before the first line the first painter is chosen.
abbrev pub first_chosen : List PainterState → EaselState
first_chosen painters = record { chosen = 0; painters = painters }

abbrev pub is_empty : List PainterState → Bool
is_empty [] = true
is_empty (painter ∷ painters) = false

-- There is no painter.
abbrev pub has_none : EaselState → Bool
has_none easel = is_empty easel.painters

-- ---- the choice

-- The place of the first painter with this name.
abbrev pub place_of : EaselState → List ℕ → Option ℕ
place_of easel name = position (λ p. bytes_eq (name_of p) name) easel.painters

abbrev pub moved : EaselState → Option ℕ → EaselState
moved easel None = easel
moved easel (Some place) = record easel { chosen = place }

-- The first painter with this name is chosen. Without one the choice stays.
abbrev pub choose : EaselState → List ℕ → EaselState
choose easel name = moved easel (place_of easel name)

-- ---- pages

-- The page of the painter in this place.
abbrev pub page_by : List PainterState → ℕ → GridValue → List ℕ
page_by [] place grid = []
page_by (painter ∷ painters) zero grid = page_of painter grid
page_by (painter ∷ painters) (suc place) grid = page_by painters place grid

-- The painters after the one in this place has painted a page.
abbrev pub painters_after : List PainterState → ℕ → GridValue → List PainterState
painters_after [] place grid = []
painters_after (painter ∷ painters) zero grid = next_of painter grid ∷ painters
painters_after (painter ∷ painters) (suc place) grid = painter ∷ painters_after painters place grid

-- The page of the chosen painter.
unfoldable pub page_text : EaselState → GridValue → List ℕ
page_text easel grid = page_by easel.painters easel.chosen grid

unfoldable pub after_page : EaselState → GridValue → EaselState
after_page easel grid = record easel { painters = painters_after easel.painters easel.chosen grid }

-- The trailers of all painters, in order.
unfoldable pub trailers : EaselState → List ℕ
trailers easel = flat_map trailer_of easel.painters
