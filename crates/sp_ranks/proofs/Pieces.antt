-- Lists of terms, cut into polynomials.
use Rattle.std.proofs.Common.{◌≡◌, ℕ, zero, suc, ◌+◌, ◌-◌, ◌<◌, ◌≤◌, List, [], ◌∷◌, ◌++◌, take, drop, length, get_or}
use Rattle.std.proofs.Common.{refl, sym, ◌∙◌, ap, ap₂, subst, arith, length-drop, length-append}
use Rattle.std.specs.List.{AllByRecursion}
use Rattle.std.proofs.lemmas.List.{take_all, take-append-le, drop-append-le, drop-drop, get_or_read}
use Rattle.sp_defs.specs.Laurent.{Laurent, Term}
use Rattle.sp_laurent.specs.Held.{IsHeld}
use Rattle.sp_lists.proofs.Elements.{all_append}
use Rattle.sp_lists.proofs.Places.{all_at}
use Rattle.sp_ranks.specs.Polynomials.{pieces, begin_of, AreEnds, ArePieces}

-- ---- where a piece lies

begin-cons : (start end : ℕ) (ends : List ℕ) (k : ℕ) → begin_of start (end ∷ ends) (suc k) ≡ begin_of end ends k
begin-cons start end ends zero = refl
begin-cons start end ends (suc k) = refl

-- A piece lies between the start and the end of the terms.
pub record LiesWithin (start last begin end : ℕ) : Type 0 where
  pub after_start : start ≤ begin
  pub rises : begin ≤ end
  pub before_last : end ≤ last

start_before : (start : ℕ) (ends : List ℕ) (last : ℕ) → AreEnds start ends last → start ≤ last
start_before start [] last h = omega arith
start_before start (end ∷ ends) last (h, hs) = omega (arith, start_before end ends last hs)

lies_within : (start : ℕ) (ends : List ℕ) (last k : ℕ) → AreEnds start ends last → k < length ends →
    LiesWithin start last (begin_of start ends k) (get_or ends k 0)
lies_within start [] last k h lt = absurd (omega arith)
lies_within start (end ∷ ends) last zero (h, hs) lt =
    record { after_start = omega arith; rises = h; before_last = start_before end ends last hs }
lies_within start (end ∷ ends) last (suc k) (h, hs) lt =
    let w = lies_within end ends last k hs (omega arith) in
    subst (λ b. LiesWithin start last b (get_or ends k 0)) (sym (begin-cons start end ends k))
    (record { after_start = omega (arith, w.after_start); rises = w.rises; before_last = w.before_last })

-- ---- how many pieces, and the piece of a place

pub length-pieces : (start : ℕ) (ends : List ℕ) (terms : List Term) → length (pieces start ends terms) ≡ length ends
unfolding pieces
length-pieces start [] terms = refl
length-pieces start (end ∷ ends) terms = ap suc (length-pieces end ends (drop (end - start) terms))

pieces-at : (start : ℕ) (ends : List ℕ) (last : ℕ) (terms : List Term) (k : ℕ) → AreEnds start ends last →
    k < length ends →
    get_or (pieces start ends terms) k [] ≡
    take (get_or ends k 0 - begin_of start ends k) (drop (begin_of start ends k - start) terms)
unfolding pieces
pieces-at start [] last terms k h lt = absurd (omega arith)
pieces-at start (end ∷ ends) last terms zero (h, hs) lt =
    ap (take (end - start)) (sym (ap (λ n. drop n terms) (nothing start) ∙ drop-none terms))
  where
    nothing : (n : ℕ) → n - n ≡ 0
    nothing n = omega arith

    drop-none : (ts : List Term) → drop 0 ts ≡ ts
    drop-none [] = refl
    drop-none (t ∷ ts) = refl
pieces-at start (end ∷ ends) last terms (suc k) (h, hs) lt =
    pieces-at end ends last (drop (end - start) terms) k hs (omega arith)
    ∙ ap (take (get_or ends k 0 - begin_of end ends k))
    (drop-drop (begin_of end ends k - end) (end - start) terms ∙ ap (λ n. drop n terms) two_steps)
    ∙ ap (λ b. take (get_or ends k 0 - b) (drop (b - start) terms)) (sym (begin-cons start end ends k))
  where
    two_steps : end - start + (begin_of end ends k - end) ≡ begin_of end ends k - start
    two_steps = omega (arith, (lies_within end ends last k hs (omega arith)).after_start)

-- The places of the pieces are those of their ends.
pub place_there : (ends : List ℕ) (terms : List Term) (ps : List Laurent) (k : ℕ) → pieces 0 ends terms ≡ ps →
    k < length ps → k < length ends
place_there ends terms ps k is lt = omega (arith, ap length is, length-pieces 0 ends terms)

-- The terms of a place, as they are read.
module _ (ends : List ℕ) (terms : List Term) (ps : List Laurent) (k begin end : ℕ) (h : ArePieces ends terms)
    (is : pieces 0 ends terms ≡ ps) (lt : k < length ps) where
  there : k < length ends
  there = place_there ends terms ps k is lt

  end_is : end ≡ get_or ends k end → end ≡ get_or ends k 0
  end_is read = get_or_read ends k end there read 0

  -- They lie between these places.
  pub place_within : begin ≡ begin_of 0 ends k → end ≡ get_or ends k end → LiesWithin 0 (length terms) begin end
  place_within from to =
      subst (LiesWithin 0 (length terms) begin) (sym (end_is to))
      (subst (λ b. LiesWithin 0 (length terms) b (get_or ends k 0)) (sym from)
      (lies_within 0 ends (length terms) k h.ascending there))

  -- They are the piece of the place.
  pub place_read : begin ≡ begin_of 0 ends k → end ≡ get_or ends k end →
      take (end - begin) (drop begin terms) ≡ get_or ps k []
  place_read from to =
      ap₂ (λ b e. take (e - b) (drop b terms)) from (end_is to)
      ∙ sym (ap (λ l. get_or l k []) (sym is)
      ∙ pieces-at 0 ends (length terms) terms k h.ascending there
      ∙ ap (λ b. take (get_or ends k 0 - begin_of 0 ends k) (drop b terms)) (whole (begin_of 0 ends k)))
    where
      whole : (n : ℕ) → n - 0 ≡ n
      whole n = omega arith

  -- They may be held.
  pub place_held : begin ≡ begin_of 0 ends k → end ≡ get_or ends k end → IsHeld (take (end - begin) (drop begin terms))
  place_held from to =
      subst IsHeld (sym (place_read from to))
      (subst (λ l. IsHeld (get_or l k [])) is
      (all_at IsHeld (pieces 0 ends terms) k [] h.held (omega (arith, length-pieces 0 ends terms, there))))

-- ---- one piece more

ends_more : (start : ℕ) (ends : List ℕ) (last next : ℕ) → AreEnds start ends last → last ≤ next →
    AreEnds start (ends ++ (next ∷ [])) next
ends_more start [] last next h le = (omega arith, refl)
ends_more start (end ∷ ends) last next (h, hs) le = (h, ends_more end ends last next hs le)

pieces_more : (start : ℕ) (ends : List ℕ) (last next : ℕ) (terms more : List Term) → AreEnds start ends last →
    start + length terms ≡ last → last + length more ≡ next →
    pieces start (ends ++ (next ∷ [])) (terms ++ more) ≡ pieces start ends terms ++ (more ∷ [])
unfolding pieces
pieces_more start [] last next [] more h is after = ap (λ ts. ts ∷ []) (take_all (next - start) more (omega arith))
pieces_more start [] last next (t ∷ terms) more h is after = absurd (omega arith)
pieces_more start (end ∷ ends) last next terms more (h, hs) is after =
    ap₂ (λ ts rest. ts ∷ pieces end (ends ++ (next ∷ [])) rest) (take-append-le (end - start) terms more few)
    (drop-append-le (end - start) terms more few)
    ∙ ap (λ ps. take (end - start) terms ∷ ps)
    (pieces_more end ends last next (drop (end - start) terms) more hs
    (omega (arith, length-drop (end - start) terms, start_before end ends last hs)) after)
  where
    few : end - start ≤ length terms
    few = omega (arith, start_before end ends last hs)

-- What they are seen as.
pub pieces_pushed : (ends : List ℕ) (terms more : List Term) (next : ℕ) → ArePieces ends terms →
    next ≡ length (terms ++ more) →
    pieces 0 (ends ++ (next ∷ [])) (terms ++ more) ≡ pieces 0 ends terms ++ (more ∷ [])
pieces_pushed ends terms more next h is =
    pieces_more 0 ends (length terms) next terms more h.ascending (omega arith)
    (omega (arith, length-append terms more))

-- The polynomials with one more, in their fields.
pub are_pieces_more : (ends : List ℕ) (terms more : List Term) (next : ℕ) → ArePieces ends terms → IsHeld more →
    next ≡ length (terms ++ more) → ArePieces (ends ++ (next ∷ [])) (terms ++ more)
are_pieces_more ends terms more next h held is = record {
  ascending = subst (AreEnds 0 (ends ++ (next ∷ []))) is
      (ends_more 0 ends (length terms) next h.ascending (omega (arith, length-append terms more)));
  held = subst (AllByRecursion IsHeld) (sym (pieces_pushed ends terms more next h is))
      (all_append IsHeld (pieces 0 ends terms) (more ∷ []) h.held (held, tt));
}
