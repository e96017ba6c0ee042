-- Answers that choose a painter or show a grid. This project's own.
use Rattle.std.specs.Prelude.{cond, List, ℕ, ◌++◌, Result, Ok, Err, is_some, codes}
use Rattle.sp_fock_law.specs.Grid.{GridValue}
use Rattle.sp_replies.specs.Refusals.{refusal_line}
use Rattle.sp_replies.specs.Words.{line_of}
use Rattle.sp_replies.specs.declared.refusals.Refusal.{Refusal}
use Rattle.sp_replies.specs.declared.refusals.Refusal.TheVariants.{UnknownPainter}
use Rattle.sp_session.specs.Easel.{EaselState, after_page, has_none, page_text, place_of}

-- The name of the painter that is chosen, if there is one.
abbrev pub choice_text : EaselState → List ℕ → List ℕ
choice_text easel name =
    cond (is_some (place_of easel name)) (line_of (codes "painter " ++ name)) (refusal_line UnknownPainter)

abbrev pub page_or_line : EaselState → Result GridValue Refusal → List ℕ
page_or_line easel (Ok grid) = page_text easel grid
page_or_line easel (Err why) = refusal_line why

-- A page of the chosen painter, if there are painters and there is a grid.
abbrev pub shown_text : EaselState → Result GridValue Refusal → List ℕ
shown_text easel table = cond (has_none easel) (refusal_line UnknownPainter) (page_or_line easel table)

abbrev pub page_or_same : EaselState → Result GridValue Refusal → EaselState
page_or_same easel (Ok grid) = after_page easel grid
page_or_same easel (Err why) = easel

-- What it leaves.
abbrev pub after_shown : EaselState → Result GridValue Refusal → EaselState
after_shown easel table = cond (has_none easel) easel (page_or_same easel table)
