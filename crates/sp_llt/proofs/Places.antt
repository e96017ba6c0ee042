-- Where the e-regular partitions stand, found one by one.
use Rattle.std.proofs.Common.{◌≡◌, ℕ, ◌+◌, ◌<◌, true, false, cond, List, [], ◌∷◌, ◌++◌, filter, take, length, get_or}
use Rattle.std.proofs.Common.{refl, sym, ◌∙◌, ap, ap₂, subst, Option, IfSome}
use Rattle.std.proofs.lemmas.List.{take_more, map-append, append-nil, get_or-map, length-map}
use Rattle.std.specs.List.{AllByRecursion}
use Rattle.sp_defs.specs.Partition.{is_regular, partitions, regulars}
use Rattle.sp_defs.specs.Laurent.{Laurent, lift}
use Rattle.sp_defs.specs.Power.{Vector}
use Rattle.sp_lists.proofs.Elements.{all_append, filter_append}
use Rattle.sp_core.specs.declared.piece.Key.{Key}
use Rattle.sp_ranks.specs.Moves.{Scope}
use Rattle.sp_llt.specs.Place.{labels, IsKey}
use Rattle.sp_llt.specs.Places.{AreAt, ArePlaces, IsContext, partitions_at, scope_of}
use Rattle.sp_llt.specs.Search.{lift_at}

-- What has been found among the first k.
pub record AreFound (e : ℕ) (all : List (List ℕ)) (k : ℕ) (found : List (List ℕ)) (places : List ℕ) : Type 0 where
  pub regulars : found ≡ filter (is_regular e) (take k all)
  pub within : AllByRecursion (λ i. i < length all) places
  pub at : partitions_at all places ≡ found

-- nothing is found before the first place
pub found_none : (e : ℕ) (all : List (List ℕ)) → AreFound e all 0 [] []
found_none e all = record { regulars = refl; within = tt; at = refl }

module _ (e : ℕ) (all : List (List ℕ)) (k : ℕ) (found : List (List ℕ)) (places : List ℕ) (p : List ℕ)
    (h : AreFound e all k found places) (lt : k < length all) (is : p ≡ get_or all k []) where
  one_more : filter (is_regular e) (take (k + 1) all)
      ≡ filter (is_regular e) (take k all) ++ cond (is_regular e p) (p ∷ []) []
  one_more =
      ap (filter (is_regular e)) (take_more all k [] lt ∙ ap (λ q. take k all ++ (q ∷ [])) (sym is))
      ∙ filter_append (is_regular e) (take k all) (p ∷ [])

  -- an e-regular one
  pub found_more : is_regular e p ≡ true → AreFound e all (k + 1) (found ++ (p ∷ [])) (places ++ (k ∷ []))
  found_more passes = record {
    regulars =
        ap (λ xs. xs ++ (p ∷ [])) h.regulars
        ∙ sym (one_more ∙ ap (λ b. filter (is_regular e) (take k all) ++ cond b (p ∷ []) []) passes);
    within = all_append (λ i. i < length all) places (k ∷ []) h.within (lt, tt);
    at =
        map-append (λ i. get_or all i []) places (k ∷ [])
        ∙ ap₂ (λ xs x. xs ++ (x ∷ [])) h.at (sym is);
  }

  -- another one
  pub found_same : is_regular e p ≡ false → AreFound e all (k + 1) found places
  found_same fails = record {
    regulars =
        h.regulars
        ∙ sym (one_more ∙ ap (λ b. filter (is_regular e) (take k all) ++ cond b (p ∷ []) []) fails
        ∙ append-nil (filter (is_regular e) (take k all)));
    within = h.within;
    at = h.at;
  }

-- the e-regular ones among all are the labels
pub labels_are : (key : Key) (all found : List (List ℕ)) → all ≡ partitions key.degree →
    found ≡ filter (is_regular key.e) all → found ≡ labels key
unfolding regulars
labels_are key all found same h = h ∙ ap (filter (is_regular key.e)) same

-- the lift at a rank, by its place
pub lift_here : (w : Vector) (all : List (List ℕ)) (places : List ℕ) (rank : ℕ) (p : Laurent) → rank < length places →
    p ≡ w (get_or all (get_or places rank 0) []) → lift_at w (partitions_at all places) rank ≡ lift p
lift_here w all places rank p lt is =
    ap (λ q. lift (w q)) (get_or-map (λ i. get_or all i []) places rank 0 [] lt) ∙ ap lift (sym is)

-- as many places as labels
pub places_count : (key : Key) (places : List ℕ) → ArePlaces key places → length places ≡ length (labels key)
places_count key places h = sym (length-map places (λ i. get_or (partitions key.degree) i [])) ∙ ap length h.at

-- the parts of a context, from the lists that were made
pub context_of : (key : Key) (all listed found : List (List ℕ)) (places : List ℕ) (moves : Option Scope) → IsKey key →
    IfSome moves (λ scope. scope ≡ scope_of key) → all ≡ partitions key.degree → listed ≡ all →
    found ≡ filter (is_regular key.e) listed → AreAt listed found places → IsContext key all found places moves
context_of key all listed found places moves held moved is same regular stand = record {
  held = held;
  listed = is;
  regulars = regulars;
  stand = subst (λ xs. AreAt (partitions key.degree) xs places) regulars
      (subst (λ ys. AreAt ys found places) (same ∙ is) stand);
  moved = moved;
}
  where
    regulars : found ≡ labels key
    regulars = labels_are key all found is (regular ∙ ap (filter (is_regular key.e)) same)
