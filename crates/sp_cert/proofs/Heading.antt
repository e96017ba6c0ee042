-- Lists of heads that are made one after the other.
use Rattle.std.proofs.Common.{◌≡◌, ◌≢◌, ne_eqb, ℕ, ◌+◌, ◌<◌, Bool, true, false, cond, not, nat_eq, List, []}
use Rattle.std.proofs.Common.{◌∷◌, ◌++◌, map, filter}
use Rattle.std.proofs.Common.{flat_map, length, get_or, take, refl, sym, ◌∙◌, ap, subst, append_assoc}
use Rattle.std.specs.List.{list_any}
use Rattle.std.proofs.lemmas.List.{take_more, map-append, append-nil, get_or_default}
use Rattle.std.proofs.Math.Seq.{take-length}
use Rattle.sp_defs.specs.Partition.{regulars, Ascending}
use Rattle.sp_defs.specs.Row.{before}
use Rattle.sp_shapes.proofs.Listing.{regulars_ascend}
use Rattle.sp_lists.proofs.Elements.{filter_append}
use Rattle.sp_cert.specs.declared.heads.Head.{Head as HeldHead}
use Rattle.sp_cert.specs.declared.heads.Head.TheVariants.{Block as HeldBlock, Column as HeldColumn}
use Rattle.sp_cert.specs.Order.{same_content, leaders}
use Rattle.sp_cert.specs.Grammar.{Head, BlockHead, ColumnHead, block_heads, heads_of}
use Rattle.sp_cert.specs.Drafts.{head_of, heads_in}
use Rattle.sp_cert.proofs.Pieces.{passed_more, all_passed}
use Rattle.sp_cert.proofs.Written.{before_place}

-- One partition more of those so far.
taken_more : (list : List (List ℕ)) (i : ℕ) (mu : List ℕ) → i < length list → mu ≡ get_or list i mu →
    take (i + 1) list ≡ take i list ++ (mu ∷ [])
taken_more list i mu lt is = take_more list i mu lt ∙ ap (λ x. take i list ++ (x ∷ [])) (sym is)

-- One head of a column more.
pub columns_more : (list : List (List ℕ)) (i : ℕ) (mu : List ℕ) (now new : List HeldHead) → i < length list →
    mu ≡ get_or list i mu → map head_of now ≡ map ColumnHead (take i list) → new ≡ now ++ (HeldColumn mu ∷ []) →
    map head_of new ≡ map ColumnHead (take (i + 1) list)
columns_more list i mu now new lt is h more =
    ap (map head_of) more
    ∙ map-append head_of now (HeldColumn mu ∷ [])
    ∙ ap (λ hs. hs ++ (ColumnHead mu ∷ [])) h
    ∙ sym (map-append ColumnHead (take i list) (mu ∷ []))
    ∙ ap (map ColumnHead) (sym (taken_more list i mu lt is))

-- All of them.
pub all_columns_taken : (list : List (List ℕ)) (i : ℕ) (now : List HeldHead) → i ≡ length list →
    map head_of now ≡ map ColumnHead (take i list) → map head_of now ≡ map ColumnHead list
all_columns_taken list i now end h = h ∙ ap (map ColumnHead) (ap (λ j. take j list) end ∙ take-length list)

-- ---- versions

-- In version 1 there are columns alone.
pub heads_one : (version e n : ℕ) → version ≡ 1 → map ColumnHead (regulars e n) ≡ heads_of version e n
unfolding heads_of
heads_one version e n is =
    sym (ap (λ v. cond (nat_eq v 1) (map ColumnHead (regulars e n)) (flat_map (block_heads e n) (leaders e n))) is)

-- In another there are blocks.
pub heads_two : (version e n : ℕ) → version ≢ 1 → flat_map (block_heads e n) (leaders e n) ≡ heads_of version e n
unfolding heads_of
heads_two version e n other =
    sym (ap (λ b. cond b (map ColumnHead (regulars e n)) (flat_map (block_heads e n) (leaders e n)))
    (ne_eqb version 1 other))

-- ---- one block

abbrev passed : ℕ → List ℕ → List (List ℕ) → List Head
passed e leader list = map ColumnHead (filter (same_content e leader) list)

tested : (e : ℕ) (leader mu : List ℕ) (b : Bool) → same_content e leader mu ≡ b → (list : List (List ℕ)) →
    passed e leader (list ++ (mu ∷ [])) ≡ passed e leader list ++ cond b (ColumnHead mu ∷ []) []
tested e leader mu b is list =
    ap (map ColumnHead) (filter_append (same_content e leader) list (mu ∷ []))
    ∙ map-append ColumnHead (filter (same_content e leader) list) (filter (same_content e leader) (mu ∷ []))
    ∙ ap (λ hs. passed e leader list ++ hs) (ap (λ t. map ColumnHead (cond t (mu ∷ []) [])) is ∙ by b)
  where
    by : (t : Bool) → map ColumnHead (cond t (mu ∷ []) []) ≡ cond t (ColumnHead mu ∷ []) []
    by true = refl
    by false = refl

-- Before the first partition there is the head of the block.
pub block_begun : (e : ℕ) (leader : List ℕ) (list : List (List ℕ)) (now new : List HeldHead) →
    new ≡ now ++ (HeldBlock leader ∷ []) → map head_of new ≡ map head_of now ++ heads_in e (take 0 list) leader
block_begun e leader [] now new more = ap (map head_of) more ∙ map-append head_of now (HeldBlock leader ∷ [])
block_begun e leader (mu ∷ list) now new more =
    ap (map head_of) more ∙ map-append head_of now (HeldBlock leader ∷ [])

-- One partition more that has the content.
pub block_more : (e : ℕ) (leader : List ℕ) (list : List (List ℕ)) (i : ℕ) (mu : List ℕ) (front : List Head)
    (now new : List HeldHead) → i < length list → mu ≡ get_or list i mu →
    map head_of now ≡ front ++ heads_in e (take i list) leader → same_content e leader mu ≡ true →
    new ≡ now ++ (HeldColumn mu ∷ []) → map head_of new ≡ front ++ heads_in e (take (i + 1) list) leader
block_more e leader list i mu front now new lt is h same more =
    ap (map head_of) more
    ∙ map-append head_of now (HeldColumn mu ∷ [])
    ∙ ap (λ hs. hs ++ (ColumnHead mu ∷ [])) h
    ∙ append_assoc front (heads_in e (take i list) leader) (ColumnHead mu ∷ [])
    ∙ ap (λ hs. front ++ (BlockHead leader ∷ hs)) (sym (tested e leader mu true same (take i list)))
    ∙ ap (λ ys. front ++ heads_in e ys leader) (sym (taken_more list i mu lt is))

-- One partition more that has not.
pub block_same : (e : ℕ) (leader : List ℕ) (list : List (List ℕ)) (i : ℕ) (mu : List ℕ) (front : List Head)
    (now : List HeldHead) → i < length list → mu ≡ get_or list i mu →
    map head_of now ≡ front ++ heads_in e (take i list) leader → same_content e leader mu ≡ false →
    map head_of now ≡ front ++ heads_in e (take (i + 1) list) leader
block_same e leader list i mu front now lt is h other =
    h
    ∙ ap (λ hs. front ++ (BlockHead leader ∷ hs))
    (sym (append-nil (passed e leader (take i list))) ∙ sym (tested e leader mu false other (take i list)))
    ∙ ap (λ ys. front ++ heads_in e ys leader) (sym (taken_more list i mu lt is))

-- All partitions.
pub block_whole : (e : ℕ) (leader : List ℕ) (list : List (List ℕ)) (i : ℕ) (front : List Head) (now : List HeldHead) →
    i ≡ length list → map head_of now ≡ front ++ heads_in e (take i list) leader →
    map head_of now ≡ front ++ heads_in e list leader
block_whole e leader list i front now end h =
    h ∙ ap (λ ys. front ++ heads_in e ys leader) (ap (λ j. take j list) end ∙ take-length list)

-- ---- all blocks

-- No e-regular partition before it has the content.
abbrev pub leads : ℕ → List (List ℕ) → List ℕ → Bool
leads e list mu = not (list_any (same_content e mu) (before mu list))

-- The heads of the blocks of the partitions so far.
pub blocks_more : (e n i : ℕ) (list : List (List ℕ)) (mu : List ℕ) (now new : List HeldHead) → list ≡ regulars e n →
    i < length list → mu ≡ get_or list i [] →
    map head_of now ≡ flat_map (block_heads e n) (filter (leads e list) (take i list)) →
    map head_of new ≡ map head_of now
    ++ cond (not (list_any (same_content e mu) (take i list))) (heads_in e list mu) [] →
    map head_of new ≡ flat_map (block_heads e n) (filter (leads e list) (take (i + 1) list))
blocks_more e n i list mu now new are lt is h more =
    passed_more (block_heads e n) (leads e list) [] (map head_of now) (map head_of new) list i mu lt
    (is ∙ sym (get_or_default list i mu [] lt)) h
    (more
    ∙ ap (λ ys. map head_of now ++ cond (not (list_any (same_content e mu) ys)) (heads_in e list mu) []) (sym earlier)
    ∙ ap (λ ys. map head_of now ++ cond (leads e list mu) (heads_in e ys mu) []) are)
  where
    ascends : Ascending list
    ascends = subst Ascending (sym are) (regulars_ascend e n)

    earlier : before mu list ≡ take i list
    earlier = subst (λ x. before x list ≡ take i list) (sym is) (before_place list i ascends lt)

-- All blocks.
pub blocks_whole : (e n i : ℕ) (list : List (List ℕ)) (now : List HeldHead) → list ≡ regulars e n → i ≡ length list →
    map head_of now ≡ flat_map (block_heads e n) (filter (leads e list) (take i list)) →
    map head_of now ≡ flat_map (block_heads e n) (leaders e n)
blocks_whole e n i list now are end h =
    all_passed (block_heads e n) (leads e list) [] (map head_of now) list i end h
    ∙ ap (λ xs. flat_map (block_heads e n) (filter (leads e xs) xs)) are
