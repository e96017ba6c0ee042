-- A page by one painter of a list, and the list of the programs' painters.
use Rattle.std.proofs.Math.ListN.{set}
use Rattle.std.proofs.Common.{◌≡◌, ℕ, zero, suc, ◌-◌, ◌<◌, ◌≤◌, true, false, List, [], ◌∷◌, length, map, get_or}
use Rattle.std.proofs.Common.{◌++◌, ap, ◌∙◌, arith, subst}
use Rattle.sp_fock_law.specs.Grid.{GridValue}
use Rattle.sp_paint.specs.Page.{page_of}
use Rattle.sp_paint.specs.State.{PainterState, named_by_form, next_of}
use Rattle.sp_paint.specs.declared.form.Form.TheVariants.{Plain, Tex, Gap}
use Rattle.sp_session.specs.Easel.{is_empty, page_by, painters_after}
use Rattle.sp_session.specs.State.{standard_painters}

-- A place that isn't past the last is one of the list's, where there is any.
pub chosen_within : {X : Type 0} (state : X → PainterState) (xs : List X) (place : ℕ) → place ≤ length xs - 1 →
    is_empty (map state xs) ≡ false → place < length xs
chosen_within state [] place last some = absurd (let no : true ≡ false = some in cc)
chosen_within state (x ∷ xs) place last some = omega (arith, last)

module _ {X : Type 0} (state : X → PainterState) (grid : GridValue) where
  -- the page of the chosen painter is that of the list
  pub page_at : (xs : List X) (i : ℕ) (x : X) → i < length xs → x ≡ get_or xs i x →
      page_of (state x) grid ≡ page_by (map state xs) i grid
  page_at [] i x lt is = absurd (omega arith)
  page_at (y ∷ xs) zero x lt is = ap (λ z. page_of (state z) grid) is
  page_at (y ∷ xs) (suc i) x lt is = page_at xs i x (omega arith) is

  -- and the painters after it are those of the list
  pub painters_with : (xs : List X) (i : ℕ) (old new : X) → i < length xs → old ≡ get_or xs i old →
      state new ≡ next_of (state old) grid → map state (set xs i new) ≡ painters_after (map state xs) i grid
  painters_with [] i old new lt is next = absurd (omega arith)
  painters_with (x ∷ xs) zero old new lt is next =
      ap (λ s. s ∷ map state xs) (next ∙ ap (λ o. next_of (state o) grid) is)
  painters_with (x ∷ xs) (suc i) old new lt is next =
      ap (λ s. state x ∷ s) (painters_with xs i old new (omega arith) is next)

-- Three that were pushed to an empty list are the standard painters, where each is.
pub standard_states : {X : Type 0} (state : X → PainterState) (none one two three : List X) (a b c : X) →
    none ≡ [] → one ≡ none ++ a ∷ [] → two ≡ one ++ b ∷ [] → three ≡ two ++ c ∷ [] →
    state a ≡ named_by_form Plain 0 → state b ≡ named_by_form Tex 0 → state c ≡ named_by_form Gap 0 →
    map state three ≡ standard_painters
standard_states state none one two three a b c none_is one_is two_is three_is plain tex gap =
    ap (map state) (three_is ∙ ap (λ xs. xs ++ c ∷ []) (two_is ∙ ap (λ xs. xs ++ b ∷ []) (one_is
    ∙ ap (λ xs. xs ++ a ∷ []) none_is)))
    ∙ (ap (λ s. s ∷ state b ∷ state c ∷ []) plain ∙ (ap (λ s. named_by_form Plain 0 ∷ s ∷ state c ∷ []) tex
    ∙ ap (λ s. named_by_form Plain 0 ∷ named_by_form Tex 0 ∷ s ∷ []) gap))

-- What is said of a run by painters whose states are the standard ones is said of the standard painters.
pub with_standard : {X : Type 0} (Run : List PainterState → Type 0) (state : X → PainterState) (painters : List X) →
    Run (map state painters) → map state painters ≡ standard_painters → Run standard_painters
with_standard Run state painters run is = subst Run is run
