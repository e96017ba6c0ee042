-- Lists of the first entries: their length, each element, and one more.
use Rattle.std.proofs.Common.{◌≡◌, ℕ, suc, ◌+◌, ◌<◌, List, [], ◌∷◌, ◌++◌, length, map, get_or, sym, ◌∙◌, ap, ap₂, arith}
use Rattle.std.proofs.lemmas.List.{length-map, map-append, get_or-map}
use Rattle.std.proofs.lemmas.List.FromFn.{length-map-range_with_len, get_or-map-range_with_len}
use Rattle.std.specs.List.{range_with_len}
use Rattle.std.specs.Arc.{arc_value}
use Rattle.std.specs.declared.sync.Arc.{Arc}
use Rattle.std.specs.declared.alloc.Global.{Global}
use Rattle.sp_lists.proofs.Elements.{range_snoc}
use Rattle.sp_core.specs.declared.piece.Key.{Key}
use Rattle.sp_llt.specs.Place.{Place, place}
use Rattle.sp_llt.specs.Filled.{HasFirst}

-- there are n entries of the ranks below n
pub first_count : (key : Key) (n : ℕ) (rows : List (Arc Place Global)) → HasFirst key n rows → length rows ≡ n
first_count key n rows h =
    sym (length-map rows arc_value) ∙ ap length h ∙ length-map-range_with_len (place key) 0 n

-- the element j is the entry of rank j
pub first_entry : (key : Key) (n j : ℕ) (rows : List (Arc Place Global)) (a : Arc Place Global) → HasFirst key n rows →
    j < n → a ≡ get_or rows j a → arc_value a ≡ place key j
first_entry key n j rows a h lt at =
    ap arc_value at
    ∙ sym (get_or-map arc_value rows j a (arc_value a) (omega (arith, first_count key n rows h, lt)))
    ∙ ap (λ xs. get_or xs j (arc_value a)) h
    ∙ get_or-map-range_with_len (place key) 0 n j j (arc_value a) lt (omega arith)

-- with the entry of the next rank there is one more
pub first_more : (key : Key) (k : ℕ) (rows : List (Arc Place Global)) (a : Arc Place Global) → HasFirst key k rows →
    arc_value a ≡ place key k → HasFirst key (k + 1) (rows ++ (a ∷ []))
first_more key k rows a h is =
    map-append arc_value rows (a ∷ [])
    ∙ ap₂ (λ xs x. xs ++ (x ∷ [])) h (is ∙ ap (place key) zero_more)
    ∙ sym (map-append (place key) (range_with_len 0 k) ((0 + k) ∷ []))
    ∙ ap (map (place key)) (sym (range_snoc 0 k))
    ∙ ap (λ n. map (place key) (range_with_len 0 n)) one_more
  where
    zero_more : k ≡ 0 + k
    zero_more = omega arith

    one_more : suc k ≡ k + 1
    one_more = omega arith
