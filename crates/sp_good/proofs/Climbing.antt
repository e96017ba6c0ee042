-- The way up along cogood nodes.
use Rattle.std.proofs.Common.{◌≡◌, ℕ, zero, suc, ◌+◌, ◌-◌, ◌%◌, ◌<◌, ◌≤◌, true, List, [], ◌∷◌, ◌++◌, take, drop, map}
use Rattle.std.proofs.Common.{reverse, length, slice_index, refl, sym, ◌∙◌, ap, subst, arith, Option, Some}
use Rattle.std.proofs.Common.{None, ◌⊎◌, inl, inr, Result, Ok, Err}
use Rattle.std.proofs.lemmas.List.{drop-drop, reverse-append, take-take, take-append-drop, take_all}
use Rattle.std.proofs.lemmas.List.{length-drop, length-map, length-reverse}
use Rattle.std.specs.List.{AllByRecursion}
use Rattle.sp_defs.specs.Partition.{degree, part}
use Rattle.sp_defs.specs.Node.{Node, is_addable}
use Rattle.sp_defs.specs.Signature.{path, cogood, climb, add_node, grow}
use Rattle.sp_lists.proofs.Elements.{le_or_lt, all_left, all_right}
use Rattle.sp_shapes.proofs.Corners.{addable_room}
use Rattle.sp_shapes.proofs.Listing.{IsPartition-nil}
use Rattle.sp_shapes.proofs.Grow.{degree-grow}
use Rattle.sp_partition.specs.Held.{IsHeld}
use Rattle.sp_good.specs.declared.images.NoPath.{NoPath}
use Rattle.sp_good.specs.Climb.{negated_path, Stops}

-- ---- one residue after the other

-- Two ways up, one after the other.
pub climb-append : (e : ℕ) (xs ys parts reached : List ℕ) → climb e xs parts ≡ Some reached →
    climb e (xs ++ ys) parts ≡ climb e ys reached
unfolding climb
climb-append e [] ys parts reached h = let same : parts ≡ reached = cc in ap (climb e ys) same
climb-append e (i ∷ xs) ys parts reached h =
    settle (cogood e i parts) (λ x. climb-append e xs ys (add_node parts x) reached) h
  where
    settle : (o : Option Node) →
        ((x : Node) → climb e xs (add_node parts x) ≡ Some reached →
        climb e (xs ++ ys) (add_node parts x) ≡ climb e ys reached) →
        ◌≡◌ {A = Option (List ℕ)} (elim o [ None ↦ None | Some x ↦ climb e xs (add_node parts x) ]) (Some reached) →
        ◌≡◌ {A = Option (List ℕ)} (elim o [ None ↦ None | Some x ↦ climb e (xs ++ ys) (add_node parts x) ])
        (climb e ys reached)
    settle None more h = let no : ◌≡◌ {A = Option (List ℕ)} None (Some reached) = h in cc
    settle (Some x) more h = more x h

-- A way that stops is not gone on with.
pub climb-lost : (e : ℕ) (xs ys parts : List ℕ) → climb e xs parts ≡ None → climb e (xs ++ ys) parts ≡ None
unfolding climb
climb-lost e [] ys parts h = let no : ◌≡◌ {A = Option (List ℕ)} (Some parts) None = h in cc
climb-lost e (i ∷ xs) ys parts h = settle (cogood e i parts) (λ x. climb-lost e xs ys (add_node parts x)) h
  where
    settle : (o : Option Node) →
        ((x : Node) → climb e xs (add_node parts x) ≡ None → climb e (xs ++ ys) (add_node parts x) ≡ None) →
        ◌≡◌ {A = Option (List ℕ)} (elim o [ None ↦ None | Some x ↦ climb e xs (add_node parts x) ]) None →
        ◌≡◌ {A = Option (List ℕ)} (elim o [ None ↦ None | Some x ↦ climb e (xs ++ ys) (add_node parts x) ]) None
    settle None more h = refl
    settle (Some x) more h = more x h

climb-one : (e i : ℕ) (parts : List ℕ) (x : Node) → cogood e i parts ≡ Some x →
    climb e (i ∷ []) parts ≡ Some (add_node parts x)
unfolding climb
climb-one e i parts x h =
    ap (λ (o : Option Node). elim o as (λ _. Option (List ℕ)) [
      | None ↦ None
      | Some x ↦ climb e [] (add_node parts x)
    ]) h

climb-none : (e i : ℕ) (parts : List ℕ) → cogood e i parts ≡ None → climb e (i ∷ []) parts ≡ None
unfolding climb
climb-none e i parts h =
    ap (λ (o : Option Node). elim o as (λ _. Option (List ℕ)) [
      | None ↦ None
      | Some x ↦ climb e [] (add_node parts x)
    ]) h

-- ---- the element that comes next

record Next (xs : List ℕ) (k x : ℕ) : Type 0 where
  there : k < length xs
  at : x ≡ slice_index xs k
  more : take (k + 1) xs ≡ take k xs ++ (x ∷ [])

next_of : (xs : List ℕ) (k x : ℕ) (ys : List ℕ) → drop k xs ≡ x ∷ ys → Next xs k x
next_of [] zero x ys h = cc
next_of [] (suc k) x ys h = cc
next_of (y ∷ xs) zero x ys h = let same : y ≡ x = cc in
    record { there = omega arith; at = sym same; more = ap (λ z. z ∷ []) same }
next_of (y ∷ xs) (suc k) x ys h = let n = next_of xs k x ys h in record {
  there = omega (arith, n.there);
  at = n.at;
  more = ap (λ m. take m (y ∷ xs)) (turn k) ∙ ap (λ zs. y ∷ zs) n.more;
}
  where
    turn : (k : ℕ) → suc k + 1 ≡ suc (k + 1)
    turn k = omega arith

next_at : (xs : List ℕ) (k : ℕ) → k < length xs → Next xs k (slice_index xs k)
next_at [] k lt = absurd (omega arith)
next_at (y ∷ xs) zero lt = record { there = lt; at = refl; more = refl }
next_at (y ∷ xs) (suc k) lt = let n = next_at xs k (omega arith) in record {
  there = lt;
  at = refl;
  more = ap (λ m. take m (y ∷ xs)) (turn k) ∙ ap (λ zs. y ∷ zs) n.more;
}
  where
    turn : (k : ℕ) → suc k + 1 ≡ suc (k + 1)
    turn k = omega arith

-- ---- where the way stops

module _ (e : ℕ) (ups : List ℕ) where
  -- with one residue more nothing is reached
  stops_next : (s : NoPath) → Stops e ups s → climb e (take (s.step + 1) ups) [] ≡ None
  stops_next s h =
      ap (λ xs. climb e xs []) (next_at ups s.step h.more).more
      ∙ climb-append e (take s.step ups) (slice_index ups s.step ∷ []) [] s.at h.reached
      ∙ climb-none e (slice_index ups s.step) s.at (ap (λ i. cogood e i s.at) (sym h.next) ∙ h.none)

  -- nor with several more
  stops_later : (s : NoPath) (k : ℕ) → Stops e ups s → s.step < k → climb e (take k ups) [] ≡ None
  stops_later s k h later =
      ap (λ xs. climb e xs []) split
      ∙ climb-lost e (take (s.step + 1) ups) (drop (s.step + 1) (take k ups)) [] (stops_next s h)
    where
      split : take k ups ≡ take (s.step + 1) ups ++ drop (s.step + 1) (take k ups)
      split =
          sym (take-append-drop (s.step + 1) (take k ups))
          ∙ ap (λ xs. xs ++ drop (s.step + 1) (take k ups)) (take-take (s.step + 1) k ups (omega arith))

  -- A way that stops reaches nothing.
  pub stops_none : (s : NoPath) → Stops e ups s → climb e ups [] ≡ None
  stops_none s h =
      ap (λ xs. climb e xs []) (sym (take_all (length ups) ups (omega arith))) ∙ stops_later s (length ups) h h.more

  not_before : (s t : NoPath) → Stops e ups s → Stops e ups t → s.step < t.step → ⊥
  not_before s t h k lt = let none = stops_later s t.step h lt in let some = k.reached in cc

  -- A way stops at one place at most.
  pub stops_same : (s t : NoPath) → Stops e ups s → Stops e ups t → s ≡ t
  stops_same s t h k = settle (le_or_lt s.step t.step) (le_or_lt t.step s.step)
    where
      settle : (s.step ≤ t.step) ⊎ (t.step < s.step) → (t.step ≤ s.step) ⊎ (s.step < t.step) → s ≡ t
      settle (inr lt) q = absurd (not_before t s k h lt)
      settle (inl le) (inr lt) = absurd (not_before s t h k lt)
      settle (inl le) (inl ge) =
          ap (λ k. stop k s.residue s.at) step ∙ ap (λ i. stop t.step i s.at) residue ∙ ap (stop t.step t.residue) at
        where
          stop : ℕ → ℕ → List ℕ → NoPath
          stop k i parts = record { step = k; residue = i; at = parts }

          step : s.step ≡ t.step
          step = omega arith

          at : s.at ≡ t.at
          at = out (sym h.reached ∙ ap (λ n. climb e (take n ups) []) step ∙ k.reached)
            where
              out : ◌≡◌ {A = Option (List ℕ)} (Some s.at) (Some t.at) → s.at ≡ t.at
              out same = cc

          residue : s.residue ≡ t.residue
          residue = h.next ∙ ap (slice_index ups) step ∙ sym k.next

-- ---- the answer, in both directions

module _ (e : ℕ) (ups : List ℕ) where
  -- where the way stops here
  module _ (s : NoPath) (h : Stops e ups s) where
    -- No image is answered, and there is none,
    pub stopped_image : (image : List ℕ) →
        ((◌≡◌ {A = Result (List ℕ) NoPath} (Err s) (Ok image)) → climb e ups [] ≡ Some image) ×
        (climb e ups [] ≡ Some image → ◌≡◌ {A = Result (List ℕ) NoPath} (Err s) (Ok image))
    stopped_image image = ((λ no. cc), λ is. let none = stops_none e ups s h in cc)

    -- and the stop that is answered is the only one.
    pub stopped_stop : (stop : NoPath) →
        ((◌≡◌ {A = Result (List ℕ) NoPath} (Err s) (Err stop)) → Stops e ups stop) ×
        (Stops e ups stop → ◌≡◌ {A = Result (List ℕ) NoPath} (Err s) (Err stop))
    stopped_stop stop =
        ((λ is. let same : s ≡ stop = cc in subst (Stops e ups) same h), λ k. ap Err (stops_same e ups s stop h k))

  -- where it comes to its end
  module _ (at : List ℕ) (h : climb e ups [] ≡ Some at) where
    -- No stop is answered, and there is none,
    pub ended_stop : (stop : NoPath) →
        ((◌≡◌ {A = Result (List ℕ) NoPath} (Ok at) (Err stop)) → Stops e ups stop) ×
        (Stops e ups stop → ◌≡◌ {A = Result (List ℕ) NoPath} (Ok at) (Err stop))
    ended_stop stop = ((λ no. absurd (cc)), λ k. let none = stops_none e ups stop k in absurd (cc))

    -- and the image that is answered is the only one.
    pub ended_image : (image : List ℕ) →
        ((◌≡◌ {A = Result (List ℕ) NoPath} (Ok at) (Ok image)) → climb e ups [] ≡ Some image) ×
        (climb e ups [] ≡ Some image → ◌≡◌ {A = Result (List ℕ) NoPath} (Ok at) (Ok image))
    ended_image image = (
      (λ is. let same : at ≡ image = cc in h ∙ ap Some same),
      λ is. let same : at ≡ image = cc in ap Ok same,
    )

-- ---- the loop

empty_held : IsHeld []
empty_held = record { partition = IsPartition-nil; small = omega arith }

-- The first `step` residues of `ups` lead to `at`, and those of `rest` come next, from its last to its first.
pub record Climbed (e : ℕ) (ups rest at : List ℕ) (step : ℕ) : Type 0 where
  pub left : drop step ups ≡ map (λ i. (e - i) % e) (reverse rest)
  pub reached : climb e (take step ups) [] ≡ Some at
  pub total : degree at ≡ step
  pub held : IsHeld at
  pub few : length ups ≤ 32
  pub below : AllByRecursion (λ i. i < e) rest

-- At the start nothing is climbed.
pub climbed_start : (e : ℕ) (mu residues : List ℕ) → residues ≡ path e mu → length residues ≡ degree mu → IsHeld mu →
    AllByRecursion (λ i. i < e) residues → Climbed e (negated_path e mu) residues [] 0
unfolding climb
climbed_start e mu residues is whole held below = record {
  left = ap (λ rs. map (λ i. (e - i) % e) (reverse rs)) (sym is);
  reached = refl;
  total = refl;
  held = empty_held;
  few = omega (
    arith,
    length-map (reverse (path e mu)) (λ i. (e - i) % e),
    length-reverse (path e mu),
    ap length is,
    whole,
    held.small,
  );
  below = below;
}

module _ (e : ℕ) (ups rest at above : List ℕ) (step r : ℕ) (h : Climbed e ups rest at step)
    (last : rest ≡ above ++ (r ∷ [])) where
  next_is : drop step ups ≡ (e - r) % e ∷ map (λ i. (e - i) % e) (reverse above)
  next_is =
      h.left
      ∙ ap (λ rs. map (λ i. (e - i) % e) (reverse rs)) last
      ∙ ap (map (λ i. (e - i) % e)) (reverse-append above (r ∷ []))

  next : Next ups step ((e - r) % e)
  next = next_of ups step ((e - r) % e) (map (λ i. (e - i) % e) (reverse above)) next_is

  -- The next residue is below e,
  pub climbed_below : r < e
  climbed_below = (all_right (λ i. i < e) above (r ∷ []) (subst (AllByRecursion (λ i. i < e)) last h.below)).0

  -- and fewer than 32 steps are behind.
  pub climbed_room : step < 32
  climbed_room = omega (arith, next.there, h.few)

  -- With the cogood node of the next residue one step more is climbed.
  pub climbed_more : (at' : List ℕ) (row column : ℕ) → cogood e ((e - r) % e) at ≡ Some (row, column) →
      is_addable at (row, part at row + 1) ≡ true → at' ≡ grow (row - 1) at → IsHeld at' →
      Climbed e ups above at' (step + 1)
  climbed_more at' row column some adds is held = record {
    left = sym (drop-drop 1 step ups) ∙ ap (drop 1) next_is;
    reached = ap (λ xs. climb e xs []) next.more
        ∙ climb-append e (take step ups) ((e - r) % e ∷ []) [] at h.reached
        ∙ climb-one e ((e - r) % e) at (row, column) some
        ∙ ap Some (sym is);
    total = omega (arith, ap degree is, degree-grow at (row - 1) (addable_room at row adds).there, h.total);
    held = held;
    few = h.few;
    below = all_left (λ i. i < e) above (r ∷ []) (subst (AllByRecursion (λ i. i < e)) last h.below);
  }

  -- Without one the way stops here.
  pub climbed_stops : (step' : ℕ) → step' ≡ step → cogood e ((e - r) % e) at ≡ None →
      Stops e ups (record { step = step'; residue = (e - r) % e; at = at })
  climbed_stops step' is none = record {
    more = omega (arith, next.there);
    next = next.at ∙ ap (slice_index ups) (sym is);
    reached = ap (λ k. climb e (take k ups) []) is ∙ h.reached;
    none = none;
  }

-- After the last residue the way is climbed.
pub climbed_all : (e : ℕ) (ups rest at : List ℕ) (step : ℕ) → length rest ≡ 0 → Climbed e ups rest at step →
    climb e ups [] ≡ Some at
climbed_all e ups (r ∷ rest) at step none h = absurd (omega arith)
climbed_all e ups [] at step none h =
    ap (λ xs. climb e xs []) (sym (take_all step ups (omega (arith, ap length h.left, length-drop step ups))))
    ∙ h.reached
