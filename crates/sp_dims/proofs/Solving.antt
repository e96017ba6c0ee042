-- Down the columns: each dimension from those before it. That is the only solution.
use Rattle.std.proofs.Common.{◌≡◌, ℕ, suc, ◌+◌, ◌*◌, cond, List, [], ◌∷◌, ◌++◌}
use Rattle.std.proofs.Common.{filter, length}
use Rattle.std.proofs.Common.{refl, sym, ◌∙◌, ap, ap₂, subst, arith, sum_by, nat_lt, ℤ, pos, ◌+ℤ◌, ◌-ℤ◌, ◌*ℤ◌, find}
use Rattle.std.proofs.Common.{Option, Some, None, append_assoc, append-nil}
use Rattle.std.specs.Int.RustNames.{unsigned_abs}
use Rattle.std.specs.List.{AllByRecursion, zip}
use Rattle.std.specs.Ordering.{is_gt}
use Rattle.std.specs.declared.cmp.Ordering.TheVariants.{Greater}
use Rattle.std.proofs.lemmas.Int.{ints}
use Rattle.sp_defs.specs.Partition.{compare}
use Rattle.sp_defs.specs.Laurent.{one, int_sum, value_at_one}
use Rattle.sp_lists.proofs.Elements.{filter_append, all_append}
use Rattle.sp_shapes.proofs.Order.{earlier_than, equal_self}
use Rattle.sp_module_defs.specs.Agreement.{Cells}
use Rattle.sp_module_defs.specs.Cells.{IsSquareUnitriangular}
use Rattle.sp_module_defs.specs.Dims.{Dims, composed_dim, specht_dim, dim_weight}
use Rattle.sp_module_defs.proofs.Places.{Descends}
use Rattle.sp_dims.specs.Equation.{next_dim, known_weight}
use Rattle.sp_dims.specs.Solution.{IsSolution, first_past}

-- ---- sums over columns

composed-append : (d : Cells) (ts us : Dims) (lambda : List ℕ) →
    composed_dim d (ts ++ us) lambda ≡ composed_dim d ts lambda +ℤ composed_dim d us lambda
unfolding composed_dim int_sum
composed-append d [] us lambda = omega (arith, ints)
composed-append d ((mu, x) ∷ ts) us lambda =
    regrouped (value_at_one (d lambda mu) *ℤ x) (composed_dim d ts lambda) (composed_dim d us lambda)
    (composed_dim d (ts ++ us) lambda) (composed-append d ts us lambda)
  where
    regrouped : (t a b ab : ℤ) → ab ≡ a +ℤ b → t +ℤ ab ≡ (t +ℤ a) +ℤ b
    regrouped t a b ab e = omega (arith, ints)

composed-nought : (d : Cells) (mus : List (List ℕ)) (xs : List ℤ) (lambda : List ℕ) →
    AllByRecursion (λ mu. d lambda mu ≡ []) mus → composed_dim d (zip mus xs) lambda ≡ pos 0
unfolding composed_dim int_sum
composed-nought d [] xs lambda h = refl
composed-nought d (mu ∷ mus) [] lambda h = refl
composed-nought d (mu ∷ mus) (x ∷ xs) lambda (h, hs) =
    ap₂ (λ p y. value_at_one p *ℤ x +ℤ y) h (composed-nought d mus xs lambda hs) ∙ nothing x
  where
    nothing : (x : ℤ) → pos 0 *ℤ x +ℤ pos 0 ≡ pos 0
    nothing x = omega (arith, ints)

-- Those below the own column count for nothing.
composed-head : (d : Cells) (known : Dims) (lambda : List ℕ) (x : ℤ) (rest : List (List ℕ)) (xs : List ℤ) →
    d lambda lambda ≡ one → AllByRecursion (λ mu. d lambda mu ≡ []) rest →
    composed_dim d (known ++ (lambda, x) ∷ zip rest xs) lambda ≡ composed_dim d known lambda +ℤ x
unfolding composed_dim int_sum
composed-head d known lambda x rest xs own below =
    composed-append d known ((lambda, x) ∷ zip rest xs) lambda
    ∙ ap (λ y. composed_dim d known lambda +ℤ y)
    (ap₂ (λ p y. value_at_one p *ℤ x +ℤ y) own (composed-nought d rest xs lambda below) ∙ alone x)
  where
    alone : (x : ℤ) → value_at_one one *ℤ x +ℤ pos 0 ≡ x
    alone x = omega (arith, ints)

-- ---- the solution

-- The dimensions of the simple modules of the columns, each from those before it.
unfoldable pub solved : Cells → Dims → List (List ℕ) → List ℤ
solved d known [] = []
solved d known (lambda ∷ rest) =
    next_dim d known lambda ∷ solved d (known ++ (lambda, next_dim d known lambda) ∷ []) rest

-- 1 on the diagonal, and 0 on one side of it.
abbrev pub IsUpper : Cells → List (List ℕ) → Type 0
IsUpper d [] = Unit {0}
IsUpper d (lambda ∷ rest) =
    (d lambda lambda ≡ one) × AllByRecursion (λ mu. d lambda mu ≡ []) rest × IsUpper d rest

abbrev Equations : Cells → Dims → List (List ℕ) → Type 0
Equations d dims columns = AllByRecursion (λ lambda. composed_dim d dims lambda ≡ pos (specht_dim lambda)) columns

length-solved : (d : Cells) (known : Dims) (columns : List (List ℕ)) → length (solved d known columns) ≡ length columns
unfolding solved
length-solved d known [] = refl
length-solved d known (lambda ∷ rest) =
    ap suc (length-solved d (known ++ (lambda, next_dim d known lambda) ∷ []) rest)

-- one known pair more, from the front of the rest
moved_over : (known : Dims) (t : List ℕ × ℤ) (rest : Dims) → known ++ t ∷ rest ≡ (known ++ t ∷ []) ++ rest
moved_over known t rest = sym (append_assoc known (t ∷ []) rest)

solved_solves : (d : Cells) (known : Dims) (columns : List (List ℕ)) → IsUpper d columns →
    Equations d (known ++ zip columns (solved d known columns)) columns
unfolding solved next_dim
solved_solves d known [] h = tt
solved_solves d known (lambda ∷ rest) (own, below, h) =
    let x = next_dim d known lambda in
    let xs = solved d (known ++ (lambda, x) ∷ []) rest in (
      composed-head d known lambda x rest xs own below ∙ whole (composed_dim d known lambda) (pos (specht_dim lambda)),
      subst (λ ds. Equations d ds rest) (sym (moved_over known (lambda, x) (zip rest xs)))
          (solved_solves d (known ++ (lambda, x) ∷ []) rest h),
    )
  where
    whole : (c s : ℤ) → c +ℤ (s -ℤ c) ≡ s
    whole c s = omega (arith, ints)

only_solved : (d : Cells) (known : Dims) (columns : List (List ℕ)) (dims : List ℤ) → IsUpper d columns →
    length dims ≡ length columns → Equations d (known ++ zip columns dims) columns → dims ≡ solved d known columns
unfolding solved next_dim
only_solved d known [] [] h len e = refl
only_solved d known [] (x ∷ xs) h len e = absurd (omega arith)
only_solved d known (lambda ∷ rest) [] h len e = absurd (omega arith)
only_solved d known (lambda ∷ rest) (x ∷ xs) (own, below, h) len (e, es) =
    ap₂ (λ y ys. y ∷ ys) first
    (only_solved d (known ++ (lambda, x) ∷ []) rest xs h (omega arith)
    (subst (λ ds. Equations d ds rest) (moved_over known (lambda, x) (zip rest xs)) es)
    ∙ ap (λ y. solved d (known ++ (lambda, y) ∷ []) rest) first)
  where
    alone : (c x s : ℤ) → c +ℤ x ≡ s → x ≡ s -ℤ c
    alone c x s e = omega (arith, ints)

    first : x ≡ next_dim d known lambda
    first =
        alone (composed_dim d known lambda) x (pos (specht_dim lambda))
        (sym (composed-head d known lambda x rest xs own below) ∙ e)

-- They solve the equations of an upper unitriangular matrix, and nothing else does.
pub solution : (d : Cells) (columns : List (List ℕ)) → IsUpper d columns → IsSolution columns d (solved d [] columns)
solution d columns h = record {
  solves = record { one_each = length-solved d [] columns; equations = solved_solves d [] columns h };
  only = λ others s. only_solved d [] columns others h s.one_each s.equations;
}

-- ---- the first column that is too large

-- The first column whose weight passes the limit, where the dimensions before it are known.
unfoldable pub past : ℕ → Cells → Dims → List (List ℕ) → Option (List ℕ)
past limit d known [] = None
past limit d known (lambda ∷ rest) =
    cond (nat_lt limit (known_weight d known lambda)) (Some lambda)
    (past limit d (known ++ (lambda, next_dim d known lambda) ∷ []) rest)

-- The known columns are greater than each of these.
abbrev AllOver : Dims → List (List ℕ) → Type 0
AllOver known columns = AllByRecursion (λ mu. AllByRecursion (λ t. compare t.0 mu ≡ Greater) known) columns

keep_all : (lambda : List ℕ) (known : Dims) → AllByRecursion (λ t. compare t.0 lambda ≡ Greater) known →
    filter (λ t. is_gt (compare t.0 lambda)) known ≡ known
keep_all lambda [] h = refl
keep_all lambda (t ∷ known) (h, hs) =
    ap₂ (λ o ts. cond (is_gt o) (t ∷ ts) ts) h (keep_all lambda known hs)

keep_none : (lambda : List ℕ) (rest : List (List ℕ)) (xs : List ℤ) →
    AllByRecursion (λ mu. compare lambda mu ≡ Greater) rest →
    filter (λ t. is_gt (compare t.0 lambda)) (zip rest xs) ≡ []
keep_none lambda [] xs h = refl
keep_none lambda (mu ∷ rest) [] h = refl
keep_none lambda (mu ∷ rest) (x ∷ xs) (h, hs) =
    ap₂ (λ o ts. cond (is_gt o) ((mu, x) ∷ ts) ts) (earlier_than lambda mu h) (keep_none lambda rest xs hs)

weight-head : (d : Cells) (known : Dims) (lambda : List ℕ) (x : ℤ) (rest : List (List ℕ)) (xs : List ℤ) →
    AllByRecursion (λ t. compare t.0 lambda ≡ Greater) known → AllByRecursion (λ mu. compare lambda mu ≡ Greater) rest →
    dim_weight d (known ++ (lambda, x) ∷ zip rest xs) lambda ≡ known_weight d known lambda
unfolding dim_weight known_weight
weight-head d known lambda x rest xs over below =
    ap (λ ts. specht_dim lambda + sum_by (λ t. unsigned_abs (value_at_one (d lambda t.0)) * unsigned_abs t.1) ts)
    (filter_append (λ t. is_gt (compare t.0 lambda)) known ((lambda, x) ∷ zip rest xs)
    ∙ ap₂ (λ ts us. ts ++ us) (keep_all lambda known over)
    (ap₂ (λ o ts. cond (is_gt o) ((lambda, x) ∷ ts) ts) (equal_self lambda) (keep_none lambda rest xs below))
    ∙ append-nil known)

one_over : (known : Dims) (lambda : List ℕ) (x : ℤ) (rest : List (List ℕ)) → AllOver known rest →
    AllByRecursion (λ mu. compare lambda mu ≡ Greater) rest → AllOver (known ++ (lambda, x) ∷ []) rest
one_over known lambda x [] h k = tt
one_over known lambda x (mu ∷ rest) (h, hs) (k, ks) = (
  all_append (λ t. compare t.0 mu ≡ Greater) known ((lambda, x) ∷ []) h (k, tt),
  one_over known lambda x rest hs ks,
)

past_first : (limit : ℕ) (d : Cells) (known : Dims) (columns : List (List ℕ)) → Descends columns →
    AllOver known columns →
    past limit d known columns ≡
    find (λ lambda. nat_lt limit (dim_weight d (known ++ zip columns (solved d known columns)) lambda)) columns
unfolding past solved
past_first limit d known [] h over = refl
past_first limit d known (lambda ∷ rest) (below, h) (here, over) =
    let x = next_dim d known lambda in
    let xs = solved d (known ++ (lambda, x) ∷ []) rest in
    ap₂ (λ w o. cond (nat_lt limit w) (Some lambda) o) (sym (weight-head d known lambda x rest xs here below))
    (past_first limit d (known ++ (lambda, x) ∷ []) rest h (one_over known lambda x rest over below)
    ∙ ap (λ ds. find (λ mu. nat_lt limit (dim_weight d ds mu)) rest) (sym (moved_over known (lambda, x) (zip rest xs))))

none_over : (columns : List (List ℕ)) → AllOver [] columns
none_over [] = tt
none_over (lambda ∷ rest) = (tt, none_over rest)

-- It is the first column whose weight in the solution passes the limit.
pub past-first_past : (limit : ℕ) (d : Cells) (columns : List (List ℕ)) → Descends columns →
    past limit d [] columns ≡ first_past limit columns d (solved d [] columns)
unfolding first_past
past-first_past limit d columns h = past_first limit d [] columns h (none_over columns)

-- ---- unitriangular matrices

-- The columns descend, so the later ones have 0 at each line.
pub upper : (d : Cells) (columns : List (List ℕ)) → Descends columns → IsSquareUnitriangular columns d →
    IsUpper d columns
upper d columns h u = go columns h u.own u.greater
  where
    firsts : (lambda : List ℕ) (cs rest : List (List ℕ)) → AllByRecursion (λ mu. compare lambda mu ≡ Greater) rest →
        AllByRecursion (λ mu. AllByRecursion (λ k. compare k mu ≡ Greater → d k mu ≡ []) (lambda ∷ cs)) rest →
        AllByRecursion (λ mu. d lambda mu ≡ []) rest
    firsts lambda cs [] below g = tt
    firsts lambda cs (mu ∷ rest) (b, bs) (g, gs) = (g.0 b, firsts lambda cs rest bs gs)

    others : (lambda : List ℕ) (cs rest : List (List ℕ)) →
        AllByRecursion (λ mu. AllByRecursion (λ k. compare k mu ≡ Greater → d k mu ≡ []) (lambda ∷ cs)) rest →
        AllByRecursion (λ mu. AllByRecursion (λ k. compare k mu ≡ Greater → d k mu ≡ []) cs) rest
    others lambda cs [] g = tt
    others lambda cs (mu ∷ rest) (g, gs) = (g.1, others lambda cs rest gs)

    go : (cs : List (List ℕ)) → Descends cs → AllByRecursion (λ mu. d mu mu ≡ one) cs →
        AllByRecursion (λ mu. AllByRecursion (λ k. compare k mu ≡ Greater → d k mu ≡ []) cs) cs → IsUpper d cs
    go [] h own g = tt
    go (lambda ∷ rest) (below, h) (o, os) (g, gs) =
        (o, firsts lambda rest rest below gs, go rest h os (others lambda rest rest gs))
