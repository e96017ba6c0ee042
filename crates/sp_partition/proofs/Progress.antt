-- A list of items, read so far.
use Rattle.std.proofs.Common.{◌≡◌, ℕ, zero, suc, ◌+◌, ◌*◌, ◌<◌, ◌≤◌, min, cond, List, [], ◌∷◌, ◌++◌, take}
use Rattle.std.proofs.Common.{replicate, slice_index, refl, sym, ◌∙◌, ap, ap₂, subst, arith, append_assoc}
use Rattle.std.proofs.Common.{append-nil, ◌⊎◌, inl, inr, Option, Some, None, le-leb, mul-le-mul_left}
use Rattle.std.proofs.Common.{mul-le-mul_right}
use Rattle.std.proofs.Common.{Bool, true, false, nat_le, Ok, Err}
use Rattle.std.proofs.lemmas.Bool.{lt-leb, cond-true, cond-false, false_from_ne_true}
use denote.Bor.{Bor}
use Rattle.std.specs.Option.{IfSome, SomeIff, option_copied, option_map, option_and_then, ok_or}
use Rattle.std.specs.Str.Parse.{digits_value}
use Rattle.sp_defs.specs.Partition.{degree, IsPartition}
use Rattle.sp_lists.proofs.Elements.{le_or_lt}
use Rattle.sp_shapes.proofs.Diagram.{IsPartition-tail, IsPartition-head}
use Rattle.sp_shapes.proofs.Listing.{IsPartition-nil, IsPartition-cons}
use Rattle.sp_partition.specs.Reading.{cut, item_of, items_of, falls, list_of, parsed}
use Rattle.sp_partition.specs.Pieces.{IsNumber, StandsAt, IsItemOf, Adds, fitting, rest_of}
use Rattle.sp_partition.specs.declared.partition.NotPartition.TheVariants.{PastCapacity}
use Rattle.sp_partition.specs.declared.TheConstants.{CAPACITY}
use Rattle.sp_partition.proofs.Extending.{degree-run}
use Rattle.sp_partition.proofs.Falls.{falls_partition, falls_step}
use Rattle.sp_partition.proofs.Marks.{pieces_left, first_piece}
use Rattle.sp_partition.proofs.Numbers.{number_positive}

-- These parts before others, where there are any.
abbrev pub onto : List ℕ → Option (List ℕ) → Option (List ℕ)
onto parts others = option_map (λ more. parts ++ more) others

-- The last of the parts.
abbrev pub Ends : Option (List ℕ) → List ℕ → Type 0
Ends None parts = parts ≡ []
Ends (Some digits) parts = IsNumber digits (digits_value 10 digits) × (before : List ℕ) ×
    (parts ≡ before ++ digits_value 10 digits ∷ [])

-- The text begins with these parts, `rest` is left, and `held` is what there is room for.
pub record Progress (text : List ℕ) (held last rest : Option (List ℕ)) : Type 0 where
  pub parts : List ℕ
  pub items : items_of (cut 44 text) ≡ onto parts (items_of (pieces_left 44 rest))
  pub partition : IsPartition parts
  pub ends : Ends last parts
  pub held_is : held ≡ fitting parts

-- Before the first item nothing is read.
pub begun : (text : List ℕ) → Progress text (Some []) None (Some text)
begun text = record {
  parts = [];
  items = same (items_of (cut 44 text));
  partition = IsPartition-nil;
  ends = refl;
  held_is = refl;
}
  where
    same : (o : Option (List ℕ)) → o ≡ onto [] o
    same None = refl
    same (Some more) = refl

-- ---- a partition goes on with parts that are not greater

run_partition : (m p : ℕ) → 0 < p → IsPartition (replicate m p)
run_partition zero p hp = IsPartition-nil
run_partition (suc m) p hp = IsPartition-cons p (replicate m p) hp (low m) (run_partition m p hp)
  where
    low : (m : ℕ) → slice_index (replicate m p) 0 ≤ p
    low zero = omega arith
    low (suc m) = omega arith

-- A run of a smaller part may stand behind.
pub run_behind : (before : List ℕ) (q m p : ℕ) → IsPartition (before ++ q ∷ []) → 0 < p → p ≤ q →
    IsPartition ((before ++ q ∷ []) ++ replicate m p)
run_behind [] q m p h hp lt = IsPartition-cons q (replicate m p) (IsPartition-head q [] h) (low m)
    (run_partition m p hp)
  where
    low : (m : ℕ) → slice_index (replicate m p) 0 ≤ q
    low zero = omega arith
    low (suc m) = omega arith
run_behind (x ∷ before) q m p h hp lt =
    IsPartition-cons x ((before ++ q ∷ []) ++ replicate m p) (IsPartition-head x (before ++ q ∷ []) h)
    (first before (h.descending 0))
    (run_behind before q m p (IsPartition-tail x (before ++ q ∷ []) h) hp lt)
  where
    first : (before : List ℕ) → slice_index (before ++ q ∷ []) 0 ≤ x →
        slice_index ((before ++ q ∷ []) ++ replicate m p) 0 ≤ x
    first [] le = le
    first (y ∷ ys) le = le

-- The part may stand behind the last one.
abbrev pub Follows : Option (List ℕ) → ℕ → Type 0
Follows None p = Unit {0}
Follows (Some digits) p = p ≤ digits_value 10 digits

-- With the run behind its last part it is a partition.
pub longer_partition : (last : Option (List ℕ)) (parts : List ℕ) (p m : ℕ) → Ends last parts → IsPartition parts →
    0 < p → Follows last p → IsPartition (parts ++ replicate m p)
longer_partition None parts p m ends h hp follows = subst (λ xs. IsPartition (xs ++ replicate m p)) (sym ends)
    (run_partition m p hp)
longer_partition (Some digits) parts p m ends h hp follows =
    subst (λ xs. IsPartition (xs ++ replicate m p)) (sym ends.2)
    (run_behind ends.1 (digits_value 10 digits) m p (subst IsPartition ends.2 h) hp follows)

last_of_run : (parts : List ℕ) (m p : ℕ) → 0 < m → (before : List ℕ) × (parts ++ replicate m p ≡ before ++ p ∷ [])
last_of_run parts zero p h = absurd (omega arith)
last_of_run parts (suc m) p h =
    (parts ++ replicate m p, ap (λ xs. parts ++ xs) (turned m) ∙ sym (append_assoc parts (replicate m p) (p ∷ [])))
  where
    turned : (m : ℕ) → replicate (suc m) p ≡ replicate m p ++ p ∷ []
    turned zero = refl
    turned (suc m) = ap (λ xs. p ∷ xs) (turned m)

-- ---- what is held

-- A number is at most a multiple of it.
pub factor_le : (a b : ℕ) → 0 < b → a ≤ a * b
factor_le a b h = omega (arith, mul-le-mul_left a (above b h))
  where
    above : (b : ℕ) → 0 < b → 1 ≤ b
    above b h = omega arith

-- With small numbers the saturated ones are the numbers.
exact : (d m p : ℕ) → 0 < m → 0 < p → d + min m 255 * min p 255 ≤ CAPACITY → (min m 255 ≡ m) × (min p 255 ≡ p)
exact d m p hm hp small = (omega (arith, first), omega (arith, second))
  where
    first : min m 255 ≤ CAPACITY
    first = omega (arith, factor_le (min m 255) (min p 255) (omega arith), small)

    second : min p 255 ≤ CAPACITY
    second = omega (arith, factor_le (min p 255) (min m 255) (omega arith), small)

fitting_some : (parts : List ℕ) → degree parts ≤ CAPACITY → fitting parts ≡ Some parts
fitting_some parts h = ap (λ b. cond b (Some parts) None) (le-leb (degree parts) CAPACITY h)

fitting_none : (parts : List ℕ) → CAPACITY < degree parts → fitting parts ≡ None
fitting_none parts h = ap (λ b. cond b (Some parts) None) (lt-leb (degree parts) CAPACITY h)

some_fits : (parts : List ℕ) (m p : ℕ) (longer : Option (List ℕ)) → 0 < m → 0 < p →
    SomeIff longer (degree parts + min m 255 * min p 255 ≤ CAPACITY) (parts ++ replicate (min m 255) (min p 255)) →
    longer ≡ fitting (parts ++ replicate m p)
some_fits parts m p None hm hp past = settle (le_or_lt (degree (parts ++ replicate m p)) CAPACITY)
  where
    settle : (degree (parts ++ replicate m p) ≤ CAPACITY) ⊎ (CAPACITY < degree (parts ++ replicate m p)) →
        None ≡ fitting (parts ++ replicate m p)
    settle (inl small) = absurd (past (omega (
      arith,
      small,
      degree-run parts p m,
      mul-le-mul_left (min m 255) (least p),
      mul-le-mul_right p (least m),
    )))
      where
        least : (n : ℕ) → min n 255 ≤ n
        least n = omega arith
    settle (inr over) = sym (fitting_none (parts ++ replicate m p) over)
some_fits parts m p (Some longer) hm hp (small, is) =
    let same = exact (degree parts) m p hm hp small in
    ap Some (is ∙ ap₂ (λ n q. parts ++ replicate n q) same.0 same.1)
    ∙ sym (fitting_some (parts ++ replicate m p)
    (omega (arith, degree-run parts p m, small, ap₂ (λ n q. n * q) same.0 same.1)))

extended_fits : (parts : List ℕ) (m p : ℕ) (held longer : Option (List ℕ)) → 0 < m → 0 < p → held ≡ fitting parts →
    Adds held (min p 255) (min m 255) longer → longer ≡ fitting (parts ++ replicate m p)
extended_fits parts m p held longer hm hp e x = settle (le_or_lt (degree parts) CAPACITY)
  where
    settle : (degree parts ≤ CAPACITY) ⊎ (CAPACITY < degree parts) → longer ≡ fitting (parts ++ replicate m p)
    settle (inl small) =
        some_fits parts m p longer hm hp
        (subst (λ h. Adds h (min p 255) (min m 255) longer) (e ∙ fitting_some parts small) x)
    settle (inr past) =
        let none : longer ≡ None = subst (λ h. Adds h (min p 255) (min m 255) longer)
        (e ∙ fitting_none parts past) x in
        none ∙ sym (fitting_none (parts ++ replicate m p) (omega (arith, past, degree-run parts p m)))

-- What the call that extends requires.
pub may_extend : (parts : List ℕ) (last : Option (List ℕ)) (m p times : ℕ) → Ends last parts → IsPartition parts →
    0 < m → 0 < p → Follows last p →
    times ≡ min m 255 → degree parts + times * min p 255 ≤ CAPACITY → IsPartition (parts ++ replicate times (min p 255))
may_extend parts last m p times ends h hm hp follows is small =
    let same = exact (degree parts) m p hm hp (subst (λ t. degree parts + t * min p 255 ≤ CAPACITY) is small) in
    subst (λ xs. IsPartition (parts ++ xs)) (sym (ap₂ (λ n q. replicate n q) (is ∙ same.0) same.1))
    (longer_partition last parts p m ends h hp follows)

-- ---- one item more

-- The first item of what is left: the others stand behind it.
first_item : (items part : List ℕ) (end times : ℕ) → StandsAt 44 items end →
    (item : IsItemOf (take end items) part times) →
    items_of (cut 44 items)
    ≡ onto (replicate item.count (digits_value 10 part)) (items_of (pieces_left 44 (rest_of items end)))
first_item items part end times stands item =
    ap items_of (first_piece 44 items end stands)
    ∙ ap (option_and_then (λ parts. onto parts (items_of (pieces_left 44 (rest_of items end))))) item.item

list_none : (text : List ℕ) → items_of (cut 44 text) ≡ None → list_of text ≡ None
list_none text e = ap (option_and_then (λ parts. cond (falls parts) (Some parts) None)) e

-- A piece that is no item makes the text no partition.
pub no_item : (text items : List ℕ) (held last : Option (List ℕ)) (end : ℕ) → Progress text held last (Some items) →
    StandsAt 44 items end → item_of (cut 94 (take end items)) ≡ None → list_of text ≡ None
no_item text items held last end so_far stands none =
    list_none text (so_far.items ∙ ap (onto so_far.parts)
    (ap items_of (first_piece 44 items end stands)
    ∙ ap (option_and_then (λ parts. onto parts (items_of (pieces_left 44 (rest_of items end))))) none))

-- A greater part behind the last one.
rises : (last : Option (List ℕ)) (parts more : List ℕ) (p m : ℕ) → Ends last parts → 0 < m → (Follows last p → ⊥) →
    falls (parts ++ (replicate m p ++ more)) ≡ false
rises None parts more p m ends some over = absurd (over tt)
rises (Some digits) parts more p zero ends some over = absurd (omega arith)
rises (Some digits) parts more p (suc m) ends some over =
    false_from_ne_true (falls (parts ++ (replicate (suc m) p ++ more))) (λ t.
    over (falls_step ends.1 (digits_value 10 digits) p (replicate m p ++ more)
    (subst (λ xs. falls (xs ++ p ∷ (replicate m p ++ more)) ≡ true) ends.2 t)))

-- So does a part that is greater than the last.
pub not_under : (text items part : List ℕ) (held last : Option (List ℕ)) (end times : ℕ) →
    Progress text held last (Some items) → StandsAt 44 items end →
    IsItemOf (take end items) part times → (Follows last (digits_value 10 part) → ⊥) → list_of text ≡ None
not_under text items part held last end times so_far stands item over =
    ap (option_and_then (λ parts. cond (falls parts) (Some parts) None))
    (so_far.items ∙ ap (onto so_far.parts) (first_item items part end times stands item))
    ∙ settle (items_of (pieces_left 44 (rest_of items end)))
  where
    run : List ℕ
    run = replicate item.count (digits_value 10 part)

    settle : (o : Option (List ℕ)) →
        option_and_then (λ parts. cond (falls parts) (Some parts) None) (onto so_far.parts (onto run o)) ≡ None
    settle None = refl
    settle (Some more) = cond-false (falls (so_far.parts ++ (run ++ more))) (Some (so_far.parts ++ (run ++ more))) None
        (rises last so_far.parts more (digits_value 10 part) item.count so_far.ends item.some over)

-- After the item its parts are read as well.
pub advanced : (text items part : List ℕ) (held last longer : Option (List ℕ)) (end times : ℕ) →
    Progress text held last (Some items) → StandsAt 44 items end →
    IsItemOf (take end items) part times → Follows last (digits_value 10 part) →
    Adds held (min (digits_value 10 part) 255) times longer →
    Progress text longer (Some part) (rest_of items end)
advanced text items part held last longer end times so_far stands item follows extended = record {
  parts = so_far.parts ++ replicate m p;
  items = so_far.items ∙ ap (onto so_far.parts) (first_item items part end times stands item)
      ∙ joined (items_of (pieces_left 44 (rest_of items end)));
  partition = longer_partition last so_far.parts p m so_far.ends so_far.partition positive follows;
  ends = let last_is = last_of_run so_far.parts m p item.some in (item.number, last_is.0, last_is.1);
  held_is = extended_fits so_far.parts m p held longer item.some positive so_far.held_is
      (subst (λ t. Adds held (min p 255) t longer) item.times_is extended);
}
  where
    p : ℕ
    p = digits_value 10 part

    m : ℕ
    m = item.count

    positive : 0 < p
    positive = number_positive part p item.number

    joined : (o : Option (List ℕ)) → onto so_far.parts (onto (replicate m p) o) ≡ onto (so_far.parts ++ replicate m p) o
    joined None = refl
    joined (Some more) = ap Some (sym (append_assoc so_far.parts (replicate m p) more))

-- ---- as the code says it

-- What is left goes by another name.
pub left_at : {text : List ℕ} {held last : Option (List ℕ)} {rest left : Option (Bor (List ℕ))} → rest ≡ left →
    Progress text held last (option_copied rest) → Progress text held last (option_copied left)
left_at {text} {held} {last} e h = subst (λ r. Progress text held last (option_copied r)) e h

-- What the last digits say of the part, as a fact on numbers.
pub to_follows : (last : Option (Bor (List ℕ))) (p : ℕ) → IfSome last (λ digits. p ≤ digits_value 10 digits.now) →
    Follows (option_copied last) p
to_follows None p h = tt
to_follows (Some digits) p h = h

-- And back.
pub from_follows : (last : Option (Bor (List ℕ))) (p : ℕ) → Follows (option_copied last) p →
    IfSome last (λ digits. p ≤ digits_value 10 digits.now)
from_follows None p h = h
from_follows (Some digits) p h = h

-- Where there is room, the parts read so far may have the run behind.
pub may_extend_held : (text items part : List ℕ) (held last : Option (List ℕ)) (end times : ℕ) →
    Progress text held last (Some items) →
    IsItemOf (take end items) part times → Follows last (digits_value 10 part) →
    IfSome held
    (λ p. degree p + times * min (digits_value 10 part) 255 ≤ CAPACITY →
    IsPartition (p ++ replicate times (min (digits_value 10 part) 255)))
may_extend_held text items part held last end times so_far item follows = settle
    (le_or_lt (degree so_far.parts) CAPACITY)
  where
    May : Option (List ℕ) → Type 0
    May h = IfSome h
        (λ p. degree p + times * min (digits_value 10 part) 255 ≤ CAPACITY →
        IsPartition (p ++ replicate times (min (digits_value 10 part) 255)))

    positive : 0 < digits_value 10 part
    positive = number_positive part (digits_value 10 part) item.number

    settle : (degree so_far.parts ≤ CAPACITY) ⊎ (CAPACITY < degree so_far.parts) → May held
    settle (inl small) = subst May (sym (so_far.held_is ∙ fitting_some so_far.parts small))
        (may_extend so_far.parts last item.count
        (digits_value 10 part) times so_far.ends so_far.partition item.some positive follows item.times_is)
    settle (inr past) = subst May (sym (so_far.held_is ∙ fitting_none so_far.parts past)) tt

-- The whole text is read.
pub finished : (text : List ℕ) (held last : Option (List ℕ)) → Progress text held last None →
    ok_or held PastCapacity ≡ parsed (list_of text)
finished text held last so_far =
    ap (λ o. ok_or o PastCapacity) so_far.held_is ∙ settle (nat_le (degree so_far.parts) CAPACITY)
    ∙ ap parsed (sym read)
  where
    read : list_of text ≡ Some so_far.parts
    read = ap (option_and_then (λ parts. cond (falls parts) (Some parts) None))
        (so_far.items ∙ ap Some (append-nil so_far.parts))
        ∙ cond-true (falls so_far.parts) (Some so_far.parts) None (falls_partition so_far.parts so_far.partition)

    settle : (b : Bool) →
        ok_or (cond b (Some so_far.parts) None) PastCapacity ≡ cond b (Ok so_far.parts) (Err PastCapacity)
    settle true = refl
    settle false = refl
