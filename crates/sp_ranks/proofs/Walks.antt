-- One mark down a signature, over ranks: what is found is found by the moves of partitions.
use Rattle.std.proofs.Common.{◌≡◌, ◌≢◌, ℕ, ◌+◌, ◌-◌, ◌<◌, ◌≤◌, List, [], ◌∷◌, ◌++◌, map, length, sym, ◌∙◌, ap, ap₂}
use Rattle.std.proofs.Common.{subst, arith, refl, zero, suc, ◌^◌, ◌*◌, ℤ, pos, ◌+ℤ◌, ◌-ℤ◌, lit<}
use Rattle.std.specs.Int.{w16}
use Rattle.std.specs.Int.RustNames.{unsigned_abs}
use Rattle.std.proofs.lemmas.Int.{ints, to_z-of_z, fits_signed_from_abs}
use Rattle.std.proofs.lemmas.List.{length-map, map-append}
use Rattle.sp_defs.specs.Partition.{partitions}
use Rattle.sp_defs.specs.Signature.{grow, Addable as A, Removable as R, Mark as Marked}
use Rattle.sp_lists.proofs.Elements.{all_append}
use Rattle.sp_nodes.specs.declared.corners.Corner.TheVariants.{Addable, Removable}
use Rattle.sp_nodes.specs.declared.corners.Mark.{Mark}
use Rattle.sp_nodes.specs.Marks.{mark_of}
use Rattle.sp_power_law.specs.Walk.{moves_through, CanGrow}
use Rattle.sp_power.specs.Arrivals.{arrive_from}
use Rattle.sp_power.proofs.Descent.{first_of, below, moves-none_left, moves-addable, moves-removable}
use Rattle.sp_power.proofs.Descent.{grow-addable, grow-removable, length-below}
use Rattle.sp_power.proofs.Descent.{same_moves, arrivals-none, arrivals-both, exponent_room}
use mir.Val.{to_z, of_z}
use Rattle.sp_ranks.specs.Ranks.{partition_at}
use Rattle.sp_ranks.specs.Arrivals.{arrival_at, arrivals_at, found_at, AreThere}
use Rattle.sp_ranks.specs.declared.walk.Arrival.{Arrival}
use Rattle.sp_ranks.specs.declared.walk.Way.{Way}

none_more : (n left : ℕ) → left ≡ 0 → n ≡ n + left
none_more n left none = omega arith

one_more : (n left : ℕ) → left ≢ 0 → n + 1 + (left - 1) ≡ n + left
one_more n left some = omega arith

-- An exponent has room in the type of the code.
pub read_exponent : (x : ℤ) → unsigned_abs x ≤ 2000 → to_z w16 (of_z w16 x) ≡ x
read_exponent x small = to_z-of_z w16 x (fits_signed_from_abs w16 x (omega (arith, small, most)))
  where
    most : 2000 < 2 ^ 15
    most = lit< tt

-- An exponent and a difference in the type of the code sum up as they do.
pub read_sum : (x d : ℤ) (left n : ℕ) → unsigned_abs d + n ≤ 33 → unsigned_abs x + left * 33 ≤ 2000 → left ≢ 0 →
    to_z w16 (of_z w16 (to_z w16 (of_z w16 x) +ℤ to_z w16 (of_z w16 d))) ≡ x +ℤ d
read_sum x d left n near small some =
    ap₂ (λ a b. to_z w16 (of_z w16 (a +ℤ b))) (read_exponent x (omega (arith, small)))
    (read_exponent d (omega (arith, near)))
    ∙ read_exponent (x +ℤ d) (omega (arith, exponent_room x d (x +ℤ d) left n refl near small some))

-- ---- no node is left to choose, or no mark

-- The way is the one move that is found.
pub found-way : (n source left : ℕ) (marks : List Mark) (way : Way) (t : Arrival) (old new : List Arrival) → left ≡ 0 →
    t ≡ record { rank = way.rank; exponent = way.exponent; source = source } → new ≡ old ++ (t ∷ []) →
    arrivals_at (n + left) new ≡ arrivals_at (n + left) old ++ found_at n source marks left way
found-way n source left marks way t old new none same is =
    ap (arrivals_at (n + left)) (is ∙ ap (λ u. old ++ (u ∷ [])) same)
    ∙ map-append (arrival_at (n + left)) old (record { rank = way.rank; exponent = way.exponent; source = source } ∷ [])
    ∙ ap (λ l. arrivals_at (n + left) old ++ l)
    (ap (λ k. (partition_at k way.rank, source, way.exponent) ∷ []) (sym (none_more n left none))
    ∙ ap (map (arrive_from source))
    (sym (moves-none_left marks left (partition_at n way.rank) way.difference way.exponent none)))

-- It leads to a partition where the way has one.
pub there-way : (n left : ℕ) (t : Arrival) (old new : List Arrival) → left ≡ 0 → new ≡ old ++ (t ∷ []) →
    t.rank < length (partitions n) → AreThere (n + left) old → AreThere (n + left) new
there-way n left t old new none is there before =
    subst (AreThere (n + left)) (sym is)
    (all_append (λ t. t.rank < length (partitions (n + left))) old (t ∷ []) before
    (subst (λ k. t.rank < length (partitions k)) (none_more n left none) there, tt))

-- From fewer marks than nodes are to be chosen there is no move.
too_few : (ms : List Marked) (m : ℕ) (p : List ℕ) (d x : ℤ) → length ms < m → moves_through ms m p d x ≡ []
unfolding moves_through
too_few ms zero p d x short = absurd (omega arith)
too_few [] (suc m) p d x short = refl
too_few ((A, y) ∷ ms) (suc m) p d x short =
    ap₂ (λ a b. a ++ b) (too_few ms m _ d (x +ℤ d) (omega arith)) (too_few ms (suc m) p (d +ℤ pos 1) x (omega arith))
too_few ((R, y) ∷ ms) (suc m) p d x short = too_few ms (suc m) p (d -ℤ pos 1) x (omega arith)

-- There nothing is found.
pub found-nothing : (n source left : ℕ) (marks : List Mark) (way : Way) (old : List Arrival) → length marks < left →
    arrivals_at (n + left) old ≡ arrivals_at (n + left) old ++ found_at n source marks left way
found-nothing n source left marks way old short =
    arrivals-none (arrivals_at (n + left) old) source _
    (too_few (map mark_of marks) left (partition_at n way.rank) way.difference way.exponent
    (omega (arith, length-map marks mark_of, short)))

-- ---- at an addable node: those with it, and then those without it

module _ (n source left : ℕ) (marks : List Mark) (way : Way) (long : 1 ≤ length marks) (some : left ≢ 0) where
  pub found-addable : (chosen passed : Way) (old mid : List Arrival) → (first_of marks).corner ≡ Addable →
      partition_at (n + 1) chosen.rank ≡ grow ((first_of marks).node.row - 1) (partition_at n way.rank) →
      chosen.difference ≡ way.difference → chosen.exponent ≡ way.exponent +ℤ way.difference →
      passed ≡ record { rank = way.rank; difference = way.difference +ℤ pos 1; exponent = way.exponent } →
      arrivals_at (n + 1 + (left - 1)) mid ≡ arrivals_at (n + 1 + (left - 1)) old
      ++ found_at (n + 1) source (below marks) (left - 1) chosen →
      arrivals_at (n + left) mid ++ found_at n source (below marks) left passed
      ≡ arrivals_at (n + left) old ++ found_at n source marks left way
  found-addable chosen passed old mid is grown same_d same_x pass first =
      arrivals-both (arrivals_at (n + left) old) (arrivals_at (n + left) mid)
      (arrivals_at (n + left) mid ++ found_at n source (below marks) left passed) source
      (moves_through (map mark_of (below marks)) (left - 1) (partition_at (n + 1) chosen.rank) chosen.difference
      chosen.exponent)
      (moves_through (map mark_of (below marks)) left (partition_at n passed.rank) passed.difference passed.exponent)
      (moves_through (map mark_of marks) left (partition_at n way.rank) way.difference way.exponent)
      (subst (λ k. arrivals_at k mid ≡ arrivals_at k old ++ found_at (n + 1) source (below marks) (left - 1) chosen)
      (one_more n left some) first)
      refl
      (moves-addable marks left (partition_at n way.rank) way.difference way.exponent long some is
      ∙ ap₂ (λ a b. a ++ b)
      (same_moves (below marks) (left - 1) _ (partition_at (n + 1) chosen.rank) _ chosen.difference _ chosen.exponent
      grown same_d same_x)
      (same_moves (below marks) left _ (partition_at n passed.rank) _ passed.difference _ passed.exponent
      (ap (λ w. partition_at n w.rank) pass) (ap (λ w. w.difference) pass) (ap (λ w. w.exponent) pass)))

  -- At a removable node it is passed.
  pub found-removable : (passed : Way) → (first_of marks).corner ≡ Removable →
      passed ≡ record { rank = way.rank; difference = way.difference -ℤ pos 1; exponent = way.exponent } →
      found_at n source (below marks) left passed ≡ found_at n source marks left way
  found-removable passed is pass =
      ap (map (arrive_from source))
      (sym (moves-removable marks left (partition_at n way.rank) way.difference way.exponent long some is
      ∙ same_moves (below marks) left _ (partition_at n passed.rank) _ passed.difference _ passed.exponent
      (ap (λ w. partition_at n w.rank) pass) (ap (λ w. w.difference) pass) (ap (λ w. w.exponent) pass)))

-- ---- down the marks

-- A difference grows by no more than the marks become fewer.
more_near : (d : ℤ) (n k : ℕ) → k + 1 ≡ n → unsigned_abs d + n ≤ 33 → unsigned_abs (d +ℤ pos 1) + k ≤ 33
more_near d n k fewer near = omega (arith, ints, fewer, near)

less_near : (d : ℤ) (n k : ℕ) → k + 1 ≡ n → unsigned_abs d + n ≤ 33 → unsigned_abs (d -ℤ pos 1) + k ≤ 33
less_near d n k fewer near = omega (arith, ints, fewer, near)

-- What was found, with what the marks that are left will bring, is all that there is from the way.
pub record WalkProgress (n source left : ℕ) (marks : List Mark) (way : Way) (old new : List Arrival)
    (rest : List Mark) (at : Way) : Type 0 where
  pub found : arrivals_at (n + left) new ++ found_at n source rest left at
      ≡ arrivals_at (n + left) old ++ found_at n source marks left way
  pub there : AreThere (n + left) old → AreThere (n + left) new
  pub rank : at.rank < length (partitions n)
  pub grows : CanGrow (map mark_of rest) (partition_at n at.rank)
  pub near : unsigned_abs at.difference + length rest ≤ 33
  pub small : unsigned_abs at.exponent + left * 33 ≤ 2000
  pub shorter : length rest ≤ length marks

-- It begins with all marks.
pub walk-begins : (n source left : ℕ) (marks : List Mark) (way : Way) (old : List Arrival) →
    way.rank < length (partitions n) → CanGrow (map mark_of marks) (partition_at n way.rank) →
    unsigned_abs way.difference + length marks ≤ 33 → unsigned_abs way.exponent + left * 33 ≤ 2000 →
    WalkProgress n source left marks way old old marks way
walk-begins n source left marks way old rank grows near small = record {
  found = refl;
  there = λ before. before;
  rank = rank;
  grows = grows;
  near = near;
  small = small;
  shorter = omega arith;
}

module _ (n source left : ℕ) (marks : List Mark) (way : Way) (old found : List Arrival) (rest : List Mark) (at : Way)
    (walk : WalkProgress n source left marks way old found rest at) where
  -- Where too few marks are left, all is found.
  pub walk-ends : length rest < left →
      arrivals_at (n + left) found ≡ arrivals_at (n + left) old ++ found_at n source marks left way
  walk-ends short = found-nothing n source left rest at found short ∙ walk.found

  module _ (long : 1 ≤ length rest) (some : left ≢ 0) where
    -- Further behind an addable node.
    pub walk-addable : (chosen passed : Way) (mid : List Arrival) → (first_of rest).corner ≡ Addable →
        partition_at (n + 1) chosen.rank ≡ grow ((first_of rest).node.row - 1) (partition_at n at.rank) →
        chosen.difference ≡ at.difference → chosen.exponent ≡ at.exponent +ℤ at.difference →
        passed ≡ record { rank = at.rank; difference = at.difference +ℤ pos 1; exponent = at.exponent } →
        arrivals_at (n + 1 + (left - 1)) mid ≡ arrivals_at (n + 1 + (left - 1)) found
        ++ found_at (n + 1) source (below rest) (left - 1) chosen →
        (AreThere (n + 1 + (left - 1)) found → AreThere (n + 1 + (left - 1)) mid) →
        WalkProgress n source left marks way old mid (below rest) passed
    walk-addable chosen passed mid is grown same_d same_x pass first there = record {
      found = found-addable n source left rest at long some chosen passed found mid is grown same_d same_x pass first
          ∙ walk.found;
      there = λ before. subst (λ k. AreThere k found → AreThere k mid) (one_more n left some) there
          (walk.there before);
      rank = subst (λ w. w.rank < length (partitions n)) (sym pass) walk.rank;
      grows = subst (λ w. CanGrow (map mark_of (below rest)) (partition_at n w.rank)) (sym pass)
          (grow-addable rest (partition_at n at.rank) long is walk.grows).passed;
      near = subst (λ w. unsigned_abs w.difference + length (below rest) ≤ 33) (sym pass)
          (more_near at.difference (length rest) (length (below rest)) (length-below rest long) walk.near);
      small = subst (λ w. unsigned_abs w.exponent + left * 33 ≤ 2000) (sym pass) walk.small;
      shorter = omega (arith, length-below rest long, walk.shorter);
    }

    -- Further behind a removable one.
    pub walk-removable : (passed : Way) → (first_of rest).corner ≡ Removable →
        passed ≡ record { rank = at.rank; difference = at.difference -ℤ pos 1; exponent = at.exponent } →
        WalkProgress n source left marks way old found (below rest) passed
    walk-removable passed is pass = record {
      found = ap (λ l. arrivals_at (n + left) found ++ l)
          (found-removable n source left rest at long some passed is pass)
          ∙ walk.found;
      there = walk.there;
      rank = subst (λ w. w.rank < length (partitions n)) (sym pass) walk.rank;
      grows = subst (λ w. CanGrow (map mark_of (below rest)) (partition_at n w.rank)) (sym pass)
          (grow-removable rest (partition_at n at.rank) long is walk.grows);
      near = subst (λ w. unsigned_abs w.difference + length (below rest) ≤ 33) (sym pass)
          (less_near at.difference (length rest) (length (below rest)) (length-below rest long) walk.near);
      small = subst (λ w. unsigned_abs w.exponent + left * 33 ≤ 2000) (sym pass) walk.small;
      shorter = omega (arith, length-below rest long, walk.shorter);
    }
