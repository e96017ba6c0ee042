-- One round over the partitions that a strip makes: what it appends, and what is left of the room.
use Rattle.std.proofs.Common.{◌≡◌, ℕ, ◌+◌, ◌-◌, ◌<◌, ◌≤◌, List, [], ◌∷◌, ◌++◌, map, flat_map, refl, sym, ◌∙◌, take}
use Rattle.std.proofs.Common.{drop, ap, ap₂, subst, arith, length, slice_index, slice_index_or, sum, append_assoc}
use Rattle.std.proofs.Common.{append-nil}
use Rattle.std.proofs.Common.{length-append}
use Rattle.std.specs.List.{AllByRecursion}
use Rattle.std.proofs.lemmas.List.{take_more, map-append, length-map}
use Rattle.std.proofs.lemmas.List.Concat.{flat_map-cons}
use Rattle.std.proofs.lemmas.List.Folds.{length-flat_map-take}
use Rattle.std.proofs.lemmas.List.Sums.{sum_by-cons}
use Rattle.std.proofs.lemmas.Grind.{flat_map-append}
use Rattle.sp_defs.specs.Partition.{IsPartition, degree}
use Rattle.sp_lists.proofs.Places.{rest-cons, all_at}
use Rattle.sp_lr_defs.specs.Strip.{IsNext, end_from}
use Rattle.sp_lr.specs.Strips.{behind, chains, strips_after, IsRoom}
use Rattle.sp_lr.proofs.Rounds.{behind-cons, behind-append}
use Rattle.sp_lr.proofs.RowsOf.{listed_next}
use Rattle.sp_lr.proofs.ChainLists.{chain_block, chains-cons, chains-nil}

-- ---- sizes taken one by one

-- the sizes behind the first, as a pattern takes them
abbrev pub later : List ℕ → List ℕ
later sizes = take (length sizes - 1) (drop 1 sizes)

-- sizes are a first one and the others
pub split_sizes : (sizes : List ℕ) → 1 ≤ length sizes → sizes ≡ slice_index sizes 0 ∷ later sizes
split_sizes [] h = absurd (omega arith)
split_sizes (size ∷ sizes) h = ap (λ xs. size ∷ xs) (sym (rest-cons size sizes))

-- with some sizes a chain goes on by each partition of the first strip
pub chains_split : (before last : List ℕ) (spare : ℕ) (sizes : List ℕ) → 1 ≤ length sizes →
    chains before last spare sizes
    ≡ flat_map (chain_block last (later sizes)) (strips_after before last spare (slice_index sizes 0))
chains_split before last spare sizes h =
    ap (chains before last spare) (split_sizes sizes h) ∙ chains-cons before last spare (slice_index sizes 0)
    (later sizes)

-- with no size there is nothing to add
pub chains_done : (before last : List ℕ) (spare : ℕ) (sizes : List ℕ) → length sizes < 1 →
    chains before last spare sizes ≡ [] ∷ []
chains_done before last spare [] h = chains-nil before last spare
chains_done before last spare (size ∷ sizes) h = absurd (omega arith)

-- ---- one partition of the strip

-- the partition at a place of the list
pub next_at : (before last : List ℕ) (spare n : ℕ) (shapes : List (List ℕ)) (i : ℕ) (shape : List ℕ) →
    IsPartition last →
    shapes ≡ strips_after before last spare n → i < length shapes → shape ≡ slice_index_or shapes i shape →
    IsNext before last spare n shape
next_at before last spare n shapes i shape h listed lt at =
    subst (IsNext before last spare n) (sym at)
    (all_at (IsNext before last spare n) shapes i shape
    (subst (AllByRecursion (IsNext before last spare n)) (sym listed) (listed_next before last spare n h)) lt)

-- there is room to go on from it
pub room_at : (before last : List ℕ) (spare : ℕ) (sizes shape : List ℕ) → IsRoom before last spare →
    degree last + sum sizes ≤ 32 → 1 ≤ length sizes → IsNext before last spare (slice_index sizes 0) shape →
    IsRoom last shape 0 × (degree shape + sum (later sizes) ≤ 32)
room_at before last spare sizes shape room small some next =
    let total : sum sizes ≡ slice_index sizes 0 + sum (later sizes) =
    ap sum (split_sizes sizes some) ∙ sum_by-cons (λ x. x) (slice_index sizes 0) (later sizes) in (
      record {
        grows = next.strip.grows;
        held = record { partition = next.strip.partition; small = omega (arith, next.strip.total) };
        spare_small = omega arith;
      },
      omega (arith, next.strip.total),
    )

-- one partition more
blocks_more : {Y : Type 0} (f : List ℕ → List Y) (shapes : List (List ℕ)) (i : ℕ) (shape : List ℕ) → i < length shapes →
    shape ≡ slice_index_or shapes i shape →
    flat_map f (take (i + 1) shapes) ≡ flat_map f (take i shapes) ++ f shape
blocks_more f shapes i shape lt at =
    ap (flat_map f) (take_more shapes i shape lt ∙ ap (λ x. take i shapes ++ x ∷ []) (sym at))
    ∙ flat_map-append f (take i shapes) (shape ∷ [])
    ∙ ap (λ ys. flat_map f (take i shapes) ++ ys) (flat_map-cons f shape [] ∙ append-nil (f shape))

-- the chains that were appended in a round
pub found_more : (first found new : List (List (List ℕ))) (front grown : List (List ℕ)) (last ns : List ℕ)
    (shapes : List (List ℕ)) (i : ℕ) (shape : List ℕ) → i < length shapes → shape ≡ slice_index_or shapes i shape →
    grown ≡ front ++ shape ∷ [] → found ≡ first ++ behind front (flat_map (chain_block last ns) (take i shapes)) →
    new ≡ found ++ behind grown (chains last shape 0 ns) →
    new ≡ first ++ behind front (flat_map (chain_block last ns) (take (i + 1) shapes))
found_more first found new front grown last ns shapes i shape lt at grows so_far more =
    more
    ∙ ap₂ (λ xs g. xs ++ behind g (chains last shape 0 ns)) so_far grows
    ∙ append_assoc first (behind front before) (behind (front ++ shape ∷ []) (chains last shape 0 ns))
    ∙ ap (λ xs. first ++ xs)
    (ap (λ xs. behind front before ++ xs) (sym (behind-cons front shape (chains last shape 0 ns)))
    ∙ sym (behind-append front before (chain_block last ns shape))
    ∙ ap (behind front) (sym (blocks_more (chain_block last ns) shapes i shape lt at)))
  where
    before : List (List (List ℕ))
    before = flat_map (chain_block last ns) (take i shapes)

-- the ends that were appended in a round
pub ends_more : (first ends new : List (List ℕ)) (last ns : List ℕ) (shapes : List (List ℕ)) (i : ℕ) (shape : List ℕ) →
    i < length shapes → shape ≡ slice_index_or shapes i shape →
    ends ≡ first ++ map (end_from last) (flat_map (chain_block last ns) (take i shapes)) →
    new ≡ ends ++ map (end_from shape) (chains last shape 0 ns) →
    new ≡ first ++ map (end_from last) (flat_map (chain_block last ns) (take (i + 1) shapes))
ends_more first ends new last ns shapes i shape lt at so_far more =
    more
    ∙ ap (λ xs. xs ++ map (end_from shape) (chains last shape 0 ns)) so_far
    ∙ append_assoc first (map (end_from last) before) (map (end_from shape) (chains last shape 0 ns))
    ∙ ap (λ xs. first ++ xs)
    (ap (λ xs. map (end_from last) before ++ xs) (sym (same_ends (chains last shape 0 ns)))
    ∙ sym (map-append (end_from last) before (chain_block last ns shape))
    ∙ ap (map (end_from last)) (sym (blocks_more (chain_block last ns) shapes i shape lt at)))
  where
    before : List (List (List ℕ))
    before = flat_map (chain_block last ns) (take i shapes)

    same_ends : (cs : List (List (List ℕ))) →
        map (end_from last) (map (λ shapes. shape ∷ shapes) cs) ≡ map (end_from shape) cs
    same_ends [] = refl
    same_ends (c ∷ cs) = ap (λ xs. end_from shape c ∷ xs) (same_ends cs)

-- a list that passes `most` on the way passes it in the end
pub more_on_the_way : (first now most : ℕ) (last ns : List ℕ) (shapes : List (List ℕ)) (i : ℕ) (shape : List ℕ) →
    i < length shapes → shape ≡ slice_index_or shapes i shape →
    now ≡ first + length (flat_map (chain_block last ns) (take i shapes)) →
    most < now + length (chains last shape 0 ns) → most < first + length (flat_map (chain_block last ns) shapes)
more_on_the_way first now most last ns shapes i shape lt at so_far more =
    omega (
      arith,
      so_far,
      more,
      length-flat_map-take (chain_block last ns) shapes i shape lt,
      ap (λ x. length (chain_block last ns x)) (sym at),
      length-map (chains last shape 0 ns) (λ shapes. shape ∷ shapes),
    )

-- how many chains stand behind a list
pub found_count : (first found : List (List (List ℕ))) (front : List (List ℕ)) (cs : List (List (List ℕ))) →
    found ≡ first ++ behind front cs → length found ≡ length first + length cs
found_count first found front cs is =
    ap length is
    ∙ length-append first (behind front cs)
    ∙ ap (λ n. length first + n) (length-map cs (λ tail. front ++ tail))

-- how many ends do
pub ends_count : (first ends : List (List ℕ)) (f : List (List ℕ) → List ℕ) (cs : List (List (List ℕ))) →
    ends ≡ first ++ map f cs → length ends ≡ length first + length cs
ends_count first ends f cs is =
    ap length is ∙ length-append first (map f cs) ∙ ap (λ n. length first + n) (length-map cs f)
