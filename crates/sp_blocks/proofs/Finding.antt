-- The block of a core, where the map tells.
use Rattle.std.proofs.Common.{◌≡◌, ◌≢◌, ℕ, zero, suc, ◌<◌, cond, List, [], ◌∷◌, ◌++◌, length, get_or}
use Rattle.std.proofs.Common.{Some, None, refl, sym, ◌∙◌, ap, arith, ◌⊎◌, inl, inr}
use Rattle.std.proofs.Math.ListN.{set}
use Rattle.std.specs.List.{slice_get}
use Rattle.std.specs.BTreeMap.{BTreeMap, get, Updates}
use Rattle.std.proofs.lemmas.Option.{slice_get_within}
use Rattle.std.proofs.lemmas.List.{length-map, map-append}
use Rattle.sp_defs.specs.Partition.{order}
use Rattle.sp_blocks.specs.declared.block.Block.{Block}
use Rattle.sp_blocks.specs.Indexed.{with_rank, cores, Indexed}
use Rattle.sp_blocks.proofs.Same.{ToldByOrder, order_tells}
use Rattle.sp_lists.proofs.Comparing.{test_same}
use Rattle.sp_shapes.proofs.Order.{differ}

-- The block with one rank more.
abbrev pub longer : Block → ℕ → Block
longer b rank = record b { ranks = b.ranks ++ rank ∷ [] }

at_place : (kappa : List ℕ) (rank : ℕ) (bs : List Block) (i : ℕ) (d : Block) →
    slice_get (cores bs) i ≡ Some kappa → ((j : ℕ) → slice_get (cores bs) j ≡ Some kappa → j ≡ i) →
    with_rank kappa rank bs ≡ set bs i (longer (get_or bs i d) rank)
at_place kappa rank [] i d is only = absurd (cc)
at_place kappa rank (b ∷ bs) zero d is only =
    let same : b.core ≡ kappa = cc in
    ap (λ v. cond v (longer b rank ∷ bs) (b ∷ with_rank kappa rank bs)) (test_same b.core kappa same)
at_place kappa rank (b ∷ bs) (suc i) d is only =
    ap (λ v. cond v (longer b rank ∷ bs) (b ∷ with_rank kappa rank bs))
    (differ b.core kappa (λ same. apart i (only zero (ap Some same))))
    ∙ ap (λ xs. b ∷ xs) (at_place kappa rank bs i d is (λ j at. less j i (only (suc j) at)))
  where
    apart : (i : ℕ) → 0 ≡ suc i → ⊥
    apart i e = absurd (omega arith)

    less : (j i : ℕ) → suc j ≡ suc i → j ≡ i
    less j i e = omega arith

no_place : (kappa : List ℕ) (rank : ℕ) (bs : List Block) → ((j : ℕ) → slice_get (cores bs) j ≢ Some kappa) →
    with_rank kappa rank bs ≡ bs ++ record { core = kappa; ranks = rank ∷ [] } ∷ []
no_place kappa rank [] none = refl
no_place kappa rank (b ∷ bs) none =
    ap (λ v. cond v (longer b rank ∷ bs) (b ∷ with_rank kappa rank bs))
    (differ b.core kappa (λ same. none zero (ap Some same)))
    ∙ ap (λ xs. b ∷ xs) (no_place kappa rank bs (λ j. none (suc j)))

-- The place that the map has under a core is that of a block,
pub place_within : (places : BTreeMap (List ℕ) ℕ) (bs : List Block) (kappa : List ℕ) (i : ℕ) → Indexed places bs →
    get order places kappa ≡ Some i → i < length bs
place_within places bs kappa i h is =
    omega (arith, slice_get_within (cores bs) i kappa ((h.at kappa i).0 is), length-map bs (λ b. b.core))

-- which gets the rank.
pub rank_added : (places : BTreeMap (List ℕ) ℕ) (bs : List Block) (kappa : List ℕ) (i rank : ℕ) (d : Block) →
    Indexed places bs → get order places kappa ≡ Some i →
    with_rank kappa rank bs ≡ set bs i (longer (get_or bs i d) rank)
rank_added places bs kappa i rank d h is =
    at_place kappa rank bs i d ((h.at kappa i).0 is) (λ j at. let other = (h.at kappa j).1 at in cc)

-- Where the map has none, the rank gets a block of its own.
pub rank_new : (places : BTreeMap (List ℕ) ℕ) (bs : List Block) (kappa : List ℕ) (rank : ℕ) → Indexed places bs →
    get order places kappa ≡ None → with_rank kappa rank bs ≡ bs ++ record { core = kappa; ranks = rank ∷ [] } ∷ []
rank_new places bs kappa rank h is =
    no_place kappa rank bs (λ j at. absurd (let other = (h.at kappa j).1 at in cc))

-- ---- the map stays right

cores-set : (bs : List Block) (i : ℕ) (b d : Block) → b.core ≡ (get_or bs i d).core → cores (set bs i b) ≡ cores bs
cores-set [] i b d same = refl
cores-set (x ∷ bs) zero b d same = ap (λ c. c ∷ cores bs) same
cores-set (x ∷ bs) (suc i) b d same = ap (λ cs. x.core ∷ cs) (cores-set bs i b d same)

-- A block with one rank more has the same core.
pub indexed_added : (places : BTreeMap (List ℕ) ℕ) (bs : List Block) (i rank : ℕ) (d : Block) → Indexed places bs →
    Indexed places (set bs i (longer (get_or bs i d) rank))
indexed_added places bs i rank d h = record {
  at = λ kappa j. (
    λ is. ap (λ cs. slice_get cs j) same ∙ (h.at kappa j).0 is,
    λ is. (h.at kappa j).1 (ap (λ cs. slice_get cs j) (sym same) ∙ is),
  );
}
  where
    same : cores (set bs i (longer (get_or bs i d) rank)) ≡ cores bs
    same = cores-set bs i (longer (get_or bs i d) rank) d refl

-- An element of a list with one more behind it is one of the list's, or that one.
snoc_get : (cs : List (List ℕ)) (kappa q : List ℕ) (j : ℕ) → slice_get (cs ++ kappa ∷ []) j ≡ Some q →
    (slice_get cs j ≡ Some q) ⊎ ((j ≡ length cs) × (kappa ≡ q))
snoc_get [] kappa q zero is = inr (refl, cc)
snoc_get [] kappa q (suc j) is = absurd (cc)
snoc_get (c ∷ cs) kappa q zero is = inl is
snoc_get (c ∷ cs) kappa q (suc j) is = settle (snoc_get cs kappa q j is)
  where
    settle : (slice_get cs j ≡ Some q) ⊎ ((j ≡ length cs) × (kappa ≡ q)) →
        (slice_get cs j ≡ Some q) ⊎ ((suc j ≡ suc (length cs)) × (kappa ≡ q))
    settle (inl h) = inl h
    settle (inr (e, same)) = inr (ap suc e, same)

get_snoc : (cs : List (List ℕ)) (kappa q : List ℕ) (j : ℕ) → slice_get cs j ≡ Some q →
    slice_get (cs ++ kappa ∷ []) j ≡ Some q
get_snoc [] kappa q j is = absurd (cc)
get_snoc (c ∷ cs) kappa q zero is = is
get_snoc (c ∷ cs) kappa q (suc j) is = get_snoc cs kappa q j is

last_get : (cs : List (List ℕ)) (kappa : List ℕ) → slice_get (cs ++ kappa ∷ []) (length cs) ≡ Some kappa
last_get [] kappa = refl
last_get (c ∷ cs) kappa = last_get cs kappa

-- A new core has its block behind the others.
pub indexed_new : (places more : BTreeMap (List ℕ) ℕ) (bs : List Block) (b : Block) → Indexed places bs →
    get order places b.core ≡ None → Updates order places more b.core (Some (length bs)) →
    Indexed more (bs ++ b ∷ [])
indexed_new places more bs b h none updates = record { at = λ q j. (there q j, back q j) }
  where
    all_cores : cores (bs ++ b ∷ []) ≡ cores bs ++ b.core ∷ []
    all_cores = map-append (λ b. b.core) bs (b ∷ [])

    count : length (cores bs) ≡ length bs
    count = length-map bs (λ b. b.core)

    there : (q : List ℕ) (j : ℕ) → get order more q ≡ Some j → slice_get (cores (bs ++ b ∷ [])) j ≡ Some q
    there q j is = ap (λ cs. slice_get cs j) all_cores ∙ settle (order_tells b.core q)
      where
        settle : ToldByOrder b.core q →
            slice_get (cores bs ++ b.core ∷ []) j ≡ Some q
        settle (inl (t, same)) =
            let at = updates.0 q ∙ ap (λ v. cond v (Some (length bs)) (get order places q)) t in
            let j_is : length bs ≡ j = cc in
            ap (slice_get (cores bs ++ b.core ∷ [])) (sym j_is ∙ sym count) ∙ last_get (cores bs) b.core ∙ ap Some same
        settle (inr (t, ne)) =
            let at = updates.0 q ∙ ap (λ v. cond v (Some (length bs)) (get order places q)) t in
            get_snoc (cores bs) b.core q j ((h.at q j).0 (sym at ∙ is))

    back : (q : List ℕ) (j : ℕ) → slice_get (cores (bs ++ b ∷ [])) j ≡ Some q → get order more q ≡ Some j
    back q j is =
        settle (order_tells b.core q) (snoc_get (cores bs) b.core q j (ap (λ cs. slice_get cs j) (sym all_cores) ∙ is))
      where
        settle : ToldByOrder b.core q →
            (slice_get (cores bs) j ≡ Some q) ⊎ ((j ≡ length (cores bs)) × (b.core ≡ q)) → get order more q ≡ Some j
        settle (inl (t, same)) (inl at) =
            absurd (let here = (h.at q j).1 at in let gone = ap (get order places) (sym same) ∙ none in cc)
        settle (inl (t, same)) (inr (j_is, _)) =
            updates.0 q ∙ ap (λ v. cond v (Some (length bs)) (get order places q)) t ∙ ap Some (sym count ∙ sym j_is)
        settle (inr (t, ne)) (inl at) =
            updates.0 q ∙ ap (λ v. cond v (Some (length bs)) (get order places q)) t ∙ (h.at q j).1 at
        settle (inr (t, ne)) (inr (_, same)) = absurd (ne same)
