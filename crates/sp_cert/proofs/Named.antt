-- The columns that heads name, in order.
use Rattle.std.proofs.Common.{◌≡◌, ℕ, zero, suc, ◌+◌, ◌<◌, Bool, true, false, cond, nat_eq, List, [], ◌∷◌, ◌++◌, map}
use Rattle.std.proofs.Common.{flat_map, length, get_or, take, refl, sym, ◌∙◌, ap, subst, arith}
use Rattle.std.specs.List.{AllByRecursion}
use Rattle.std.proofs.lemmas.List.{take_more, map-append, append-nil}
use Rattle.std.proofs.lemmas.Grind.{flat_map-append}
use Rattle.sp_defs.specs.Partition.{regulars, IsRegularOf}
use Rattle.sp_lists.proofs.Elements.{all_left, all_right}
use Rattle.sp_cert.specs.declared.certificate.Column.{Column}
use Rattle.sp_cert.specs.Order.{block_of, leaders, columns_of}
use Rattle.sp_cert.specs.Grammar.{Head, BlockHead, ColumnHead, heads_of, block_heads, begun_list, column_begun}
use Rattle.sp_cert.specs.Drafts.{named}
use Rattle.sp_cert.proofs.Blocks.{all_columns}

-- The heads of columns name these.
named_columns : (xs : List (List ℕ)) → flat_map named (map ColumnHead xs) ≡ xs
named_columns [] = refl
named_columns (x ∷ xs) = ap (λ ys. x ∷ ys) (named_columns xs)

-- The heads of blocks name the columns of these.
named_blocks : (e n : ℕ) (ls : List (List ℕ)) →
    flat_map named (flat_map (block_heads e n) ls) ≡ flat_map (block_of e n) ls
named_blocks e n [] = refl
named_blocks e n (l ∷ ls) =
    flat_map-append named (block_heads e n l) (flat_map (block_heads e n) ls)
    ∙ ap (λ ys. ys ++ flat_map named (flat_map (block_heads e n) ls)) (named_columns (block_of e n l))
    ∙ ap (λ ys. block_of e n l ++ ys) (named_blocks e n ls)

-- All heads name all columns.
pub all_named : (version e n : ℕ) → flat_map named (heads_of version e n) ≡ columns_of version e n
unfolding heads_of columns_of
all_named version e n = by (nat_eq version 1)
  where
    by : (b : Bool) →
        flat_map named (cond b (map ColumnHead (regulars e n)) (flat_map (block_heads e n) (leaders e n)))
        ≡ cond b (regulars e n) (flat_map (block_of e n) (leaders e n))
    by true = named_columns (regulars e n)
    by false = named_blocks e n (leaders e n)

-- What holds of all that a list makes holds of what an element makes.
all_part : {X Y : Type 0} (P : Y → Type 0) (f : X → List Y) (xs : List X) (i : ℕ) (d : X) → i < length xs →
    AllByRecursion P (flat_map f xs) → AllByRecursion P (f (get_or xs i d))
all_part P f [] i d lt h = absurd (omega arith)
all_part P f (x ∷ xs) zero d lt h = all_left P (f x) (flat_map f xs) h
all_part P f (x ∷ xs) (suc i) d lt h = all_part P f xs i d (omega arith) (all_right P (f x) (flat_map f xs) h)

-- Each head names an e-regular partition of n, or none.
pub named_regular : (version e n i : ℕ) (d : Head) → i < length (heads_of version e n) →
    AllByRecursion (IsRegularOf e n) (named (get_or (heads_of version e n) i d))
named_regular version e n i d lt =
    all_part (IsRegularOf e n) named (heads_of version e n) i d lt
    (subst (AllByRecursion (IsRegularOf e n)) (sym (all_named version e n)) (all_columns e n version))

-- ---- one head more

begun_named : (n : ℕ) (head : Head) → map (λ (c : Column). c.mu) (begun_list (column_begun n head)) ≡ named head
begun_named n (BlockHead mu) = refl
begun_named n (ColumnHead mu) = refl

-- Behind one head more, the columns are those that the heads name.
pub named_more : (n : ℕ) (columns : List Column) (heads : List Head) (i : ℕ) (head : Head) → i < length heads →
    head ≡ get_or heads i head → map (λ (c : Column). c.mu) columns ≡ flat_map named (take i heads) →
    map (λ (c : Column). c.mu) (columns ++ begun_list (column_begun n head)) ≡ flat_map named (take (i + 1) heads)
named_more n columns heads i head lt is h =
    map-append (λ (c : Column). c.mu) columns (begun_list (column_begun n head))
    ∙ ap (λ xs. xs ++ map (λ (c : Column). c.mu) (begun_list (column_begun n head))) h
    ∙ ap (λ xs. flat_map named (take i heads) ++ xs) (begun_named n head ∙ sym (append-nil (named head)))
    ∙ sym (flat_map-append named (take i heads) (head ∷ []))
    ∙ ap (flat_map named) (sym (take_more heads i head lt ∙ ap (λ x. take i heads ++ (x ∷ [])) (sym is)))
