-- The loop down the columns: what it knows, and what is left.
use Rattle.std.proofs.Common.{◌≡◌, ℕ, ◌+◌, ◌<◌, ◌≤◌, cond, List, [], ◌∷◌, ◌++◌, length, drop}
use Rattle.std.proofs.Common.{get_or, refl, sym}
use Rattle.std.proofs.Common.{◌∙◌, ap, ap₂, subst, arith, ℤ, Option, Some, None, append_assoc, append-nil}
use Rattle.std.proofs.Common.{add-one}
use Rattle.std.proofs.Common.{lt-ltb, le-ltb}
use Rattle.std.proofs.Math.Seq.{drop-cons}
use Rattle.std.proofs.lemmas.List.{drop_all}
use Rattle.std.specs.List.{zip}
use Rattle.sp_module_defs.specs.Agreement.{Cells}
use Rattle.sp_dims.specs.Equation.{next_dim, known_weight}
use Rattle.sp_dims.proofs.Solving.{solved, past}

-- No dimensions are known of no columns.
pub zip-none : (cs : List (List ℕ)) → zip {K = List ℕ} {X = ℤ} cs [] ≡ []
zip-none [] = refl
zip-none (c ∷ cs) = refl

zip-snoc : (cs : List (List ℕ)) (xs : List ℤ) (c : List ℕ) (x : ℤ) → length xs < length cs →
    c ≡ get_or cs (length xs) c → zip cs (xs ++ x ∷ []) ≡ zip cs xs ++ (c, x) ∷ []
zip-snoc [] xs c x lt e = absurd (omega arith)
zip-snoc (k ∷ cs) [] c x lt e = ap₂ (λ j ts. (j, x) ∷ ts) (sym e) (zip-none cs)
zip-snoc (k ∷ cs) (y ∷ xs) c x lt e = ap (λ ts. (k, y) ∷ ts) (zip-snoc cs xs c x (omega arith) e)

drop-here : (cs : List (List ℕ)) (i : ℕ) (c : List ℕ) → i < length cs → c ≡ get_or cs i c →
    drop i cs ≡ c ∷ drop (i + 1) cs
drop-here cs i c lt e = drop-cons cs i c lt ∙ ap₂ (λ k j. k ∷ drop j cs) (sym e) (sym (add-one i))

-- At column i the dimensions of those before it are known.
module _
    (d : Cells) (limit : ℕ) (cs : List (List ℕ)) (xs : List ℤ) (i : ℕ) (c : List ℕ) (lt : i < length cs)
    (count : length xs ≡ i) (at : c ≡ get_or cs i c) where
  grown : (x : ℤ) → zip cs (xs ++ x ∷ []) ≡ zip cs xs ++ (c, x) ∷ []
  grown x =
      zip-snoc cs xs c x (omega arith) (subst (λ k. c ≡ get_or cs k c) (sym count) at)

  -- The dimensions known so far with those still to come are the same after one column more.
  pub solved_step : (x : ℤ) (whole : List ℤ) → x ≡ next_dim d (zip cs xs) c →
      xs ++ solved d (zip cs xs) (drop i cs) ≡ whole →
      (xs ++ x ∷ []) ++ solved d (zip cs (xs ++ x ∷ [])) (drop (i + 1) cs) ≡ whole
  unfolding solved
  solved_step x whole e is =
      append_assoc xs (x ∷ []) (solved d (zip cs (xs ++ x ∷ [])) (drop (i + 1) cs))
      ∙ ap (λ ys. xs ++ ys)
      (ap (λ k. x ∷ solved d k (drop (i + 1) cs)) (grown x)
      ∙ ap (λ y. y ∷ solved d (zip cs xs ++ (c, y) ∷ []) (drop (i + 1) cs)) e
      ∙ sym (ap (solved d (zip cs xs)) (drop-here cs i c lt at)))
      ∙ is

  -- A column that is not too large leaves the first column that is.
  pub past_step : (x : ℤ) (whole : Option (List ℕ)) → x ≡ next_dim d (zip cs xs) c →
      known_weight d (zip cs xs) c ≤ limit → past limit d (zip cs xs) (drop i cs) ≡ whole →
      past limit d (zip cs (xs ++ x ∷ [])) (drop (i + 1) cs) ≡ whole
  unfolding past
  past_step x whole e le is =
      ap (λ k. past limit d k (drop (i + 1) cs)) (grown x)
      ∙ ap (λ y. past limit d (zip cs xs ++ (c, y) ∷ []) (drop (i + 1) cs)) e
      ∙ sym (ap (past limit d (zip cs xs)) (drop-here cs i c lt at)
      ∙ ap (λ b. cond b (Some c) (past limit d (zip cs xs ++ (c, next_dim d (zip cs xs) c) ∷ []) (drop (i + 1) cs)))
      (le-ltb limit (known_weight d (zip cs xs) c) le))
      ∙ is

  -- A column that is too large is the first that is.
  pub past_here : limit < known_weight d (zip cs xs) c → past limit d (zip cs xs) (drop i cs) ≡ Some c
  unfolding past
  past_here heavy =
      ap (past limit d (zip cs xs)) (drop-here cs i c lt at)
      ∙ ap (λ b. cond b (Some c) (past limit d (zip cs xs ++ (c, next_dim d (zip cs xs) c) ∷ []) (drop (i + 1) cs)))
      (lt-ltb limit (known_weight d (zip cs xs) c) heavy)

-- After the last column all dimensions are known.
pub solved_done : (d : Cells) (cs : List (List ℕ)) (xs whole : List ℤ) (i : ℕ) → length cs ≤ i →
    xs ++ solved d (zip cs xs) (drop i cs) ≡ whole → xs ≡ whole
unfolding solved
solved_done d cs xs whole i le is =
    sym (append-nil xs) ∙ ap (λ ks. xs ++ solved d (zip cs xs) ks) (sym (drop_all i cs le)) ∙ is

-- After the last column none is too large.
pub past_done : (d : Cells) (limit : ℕ) (cs : List (List ℕ)) (xs : List ℤ) (i : ℕ) → length cs ≤ i →
    past limit d (zip cs xs) (drop i cs) ≡ None
unfolding past
past_done d limit cs xs i le = ap (past limit d (zip cs xs)) (drop_all i cs le)
