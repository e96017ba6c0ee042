-- Lists of texts with commas between them, made item by item.
use Rattle.std.proofs.Common.{◌≡◌, ℕ, zero, suc, ◌+◌, ◌<◌, Bool, true, false, cond, not, nat_eq, ◌||◌, List, []}
use Rattle.std.proofs.Common.{◌∷◌, ◌++◌, map, filter, flat_map, take, length, get_or, codes, refl, sym, ◌∙◌, ap, arith}
use Rattle.std.proofs.Common.{append_assoc, append-nil, ne_eqb}
use Rattle.std.specs.List.{list_any}
use Rattle.std.proofs.lemmas.List.{map-append, take_more}
use Rattle.sp_lists.proofs.Elements.{filter_append}
use Rattle.sp_defs.specs.Text.{distinct, joined_by}

-- ---- one more text

-- what stands before a text that follows these
abbrev comma_behind : {X : Type 0} → List X → List ℕ
comma_behind [] = []
comma_behind (x ∷ xs) = codes ","

joined_by-snoc : (texts : List (List ℕ)) (text : List ℕ) →
    joined_by (codes ",") (texts ++ text ∷ []) ≡ joined_by (codes ",") texts ++ (comma_behind texts ++ text)
joined_by-snoc [] text = refl
joined_by-snoc (x ∷ []) text = append_assoc x (codes ",") text
joined_by-snoc (x ∷ y ∷ texts) text =
    ap (λ t. x ++ codes "," ++ t) (joined_by-snoc (y ∷ texts) text)
    ∙ sym (append_assoc (x ++ codes ",") (joined_by (codes ",") (y ∷ texts)) (codes "," ++ text))

comma-take : {X : Type 0} (xs : List X) (i : ℕ) → i < length xs →
    comma_behind (take i xs) ≡ cond (nat_eq i 0) [] (codes ",")
comma-take [] i lt = absurd (omega arith)
comma-take (x ∷ xs) zero lt = refl
comma-take (x ∷ xs) (suc i) lt = ap (λ b. cond b [] (codes ",")) (sym (ne_eqb (suc i) 0 (λ e. omega arith)))

comma-map : {X Y : Type 0} (f : X → Y) (xs : List X) → comma_behind (map f xs) ≡ comma_behind xs
comma-map f [] = refl
comma-map f (x ∷ xs) = refl

-- The texts of one element more are those so far, a comma unless there are none, and the text of the element.
pub joined-more : {X : Type 0} (f : X → List ℕ) (xs : List X) (i : ℕ) (d : X) → i < length xs →
    joined_by (codes ",") (map f (take (i + 1) xs))
    ≡ joined_by (codes ",") (map f (take i xs)) ++ (cond (nat_eq i 0) [] (codes ",") ++ f (get_or xs i d))
joined-more f xs i d lt =
    ap (λ ys. joined_by (codes ",") (map f ys)) (take_more xs i d lt)
    ∙ ap (joined_by (codes ",")) (map-append f (take i xs) (get_or xs i d ∷ []))
    ∙ joined_by-snoc (map f (take i xs)) (f (get_or xs i d))
    ∙ ap (λ comma. joined_by (codes ",") (map f (take i xs)) ++ (comma ++ f (get_or xs i d)))
    (comma-map f (take i xs) ∙ comma-take xs i lt)

-- What has the texts of the first i elements behind it has those of one more, once that text is appended.
pub written_item : {X : Type 0} (f : X → List ℕ) (xs : List X) (i : ℕ) (x : X) (old before now : List ℕ) →
    i < length xs → x ≡ get_or xs i x → before ≡ old ++ joined_by (codes ",") (map f (take i xs)) →
    now ≡ before ++ (cond (nat_eq i 0) [] (codes ",") ++ f x) →
    now ≡ old ++ joined_by (codes ",") (map f (take (i + 1) xs))
written_item {X = X} f xs i x old before now lt is h e =
    e ∙ ap (λ t. t ++ item x) h ∙ append_assoc old (joined_by (codes ",") (map f (take i xs))) (item x)
    ∙ ap (λ t. old ++ t) (ap (λ y. joined_by (codes ",") (map f (take i xs)) ++ item y) is
    ∙ sym (joined-more f xs i x lt))
  where
    item : X → List ℕ
    item y = cond (nat_eq i 0) [] (codes ",") ++ f y

-- The first text stands alone, and each later one behind a comma.
pub joined_by-first : {X : Type 0} (f : X → List ℕ) (x : X) (xs : List X) →
    joined_by (codes ",") (map f (x ∷ xs)) ≡ f x ++ flat_map (λ y. codes "," ++ f y) xs
joined_by-first f x [] = sym (append-nil (f x))
joined_by-first f x (y ∷ ys) =
    ap (λ t. f x ++ codes "," ++ t) (joined_by-first f y ys)
    ∙ append_assoc (f x) (codes ",") (f y ++ flat_map (λ z. codes "," ++ f z) ys)
    ∙ ap (λ t. f x ++ t) (sym (append_assoc (codes ",") (f y) (flat_map (λ z. codes "," ++ f z) ys)))

-- A first text and then the later ones are all of them, with commas.
pub written_items : {X : Type 0} (f : X → List ℕ) (all xs : List X) (x : X) (old first new : List ℕ) →
    all ≡ x ∷ xs → first ≡ old ++ f x → new ≡ first ++ flat_map (λ y. codes "," ++ f y) xs →
    new ≡ old ++ joined_by (codes ",") (map f all)
written_items f all xs x old first new split begun e =
    e ∙ ap (λ t. t ++ flat_map (λ y. codes "," ++ f y) xs) begun
    ∙ append_assoc old (f x) (flat_map (λ y. codes "," ++ f y) xs)
    ∙ ap (λ t. old ++ t) (sym (joined_by-first f x xs))
    ∙ ap (λ ys. old ++ joined_by (codes ",") (map f ys)) (sym split)

-- ---- one more distinct number

eq_turned : (p q : ℕ) → nat_eq p q ≡ nat_eq q p
eq_turned p q = grind arith

new_or_not : (p q : ℕ) (known : Bool) →
    filter (λ x. not (nat_eq x p)) (cond known [] (q ∷ [])) ≡ cond (nat_eq p q || known) [] (q ∷ [])
new_or_not p q true = elim (nat_eq p q) as (λ b. [] ≡ cond (b || true) [] (q ∷ [])) [ true ↦ refl | false ↦ refl ]
new_or_not p q false =
    ap (λ b. cond (not b) (q ∷ []) []) (eq_turned q p)
    ∙ elim (nat_eq p q) as (λ b. cond (not b) (q ∷ []) [] ≡ cond (b || false) [] (q ∷ [])) [
      | true ↦ refl
      | false ↦ refl
    ]

distinct-snoc : (xs : List ℕ) (q : ℕ) →
    distinct (xs ++ q ∷ []) ≡ distinct xs ++ cond (list_any (λ x. nat_eq x q) xs) [] (q ∷ [])
distinct-snoc [] q = refl
distinct-snoc (p ∷ xs) q =
    ap (λ ys. p ∷ filter (λ x. not (nat_eq x p)) ys) (distinct-snoc xs q)
    ∙ ap (λ ys. p ∷ ys)
    (filter_append (λ x. not (nat_eq x p)) (distinct xs) (cond (list_any (λ x. nat_eq x q) xs) [] (q ∷ []))
    ∙ ap (λ ys. filter (λ x. not (nat_eq x p)) (distinct xs) ++ ys) (new_or_not p q (list_any (λ x. nat_eq x q) xs)))

comma-distinct : (xs : List ℕ) → comma_behind (distinct xs) ≡ comma_behind xs
comma-distinct [] = refl
comma-distinct (x ∷ xs) = refl

joined_new : (f : ℕ → List ℕ) (xs : List ℕ) (q : ℕ) (known : Bool) →
    joined_by (codes ",") (map f (distinct xs ++ cond known [] (q ∷ [])))
    ≡ joined_by (codes ",") (map f (distinct xs)) ++ cond known [] (comma_behind xs ++ f q)
joined_new f xs q true =
    ap (λ ys. joined_by (codes ",") (map f ys)) (append-nil (distinct xs))
    ∙ sym (append-nil (joined_by (codes ",") (map f (distinct xs))))
joined_new f xs q false =
    ap (joined_by (codes ",")) (map-append f (distinct xs) (q ∷ []))
    ∙ joined_by-snoc (map f (distinct xs)) (f q)
    ∙ ap (λ comma. joined_by (codes ",") (map f (distinct xs)) ++ (comma ++ f q))
    (comma-map f (distinct xs) ∙ comma-distinct xs)

-- The texts of the distinct numbers among one number more: a text is added only for a new number.
pub joined-distinct-more : (f : ℕ → List ℕ) (xs : List ℕ) (i d : ℕ) → i < length xs →
    joined_by (codes ",") (map f (distinct (take (i + 1) xs)))
    ≡ joined_by (codes ",") (map f (distinct (take i xs)))
    ++ cond (list_any (λ x. nat_eq x (get_or xs i d)) (take i xs)) []
    (cond (nat_eq i 0) [] (codes ",") ++ f (get_or xs i d))
joined-distinct-more f xs i d lt =
    ap (λ ys. joined_by (codes ",") (map f ys))
    (ap distinct (take_more xs i d lt) ∙ distinct-snoc (take i xs) (get_or xs i d))
    ∙ joined_new f (take i xs) (get_or xs i d) known
    ∙ ap (λ comma. joined_by (codes ",") (map f (distinct (take i xs))) ++ cond known [] (comma ++ f (get_or xs i d)))
    (comma-take xs i lt)
  where
    known : Bool
    known = list_any (λ x. nat_eq x (get_or xs i d)) (take i xs)
