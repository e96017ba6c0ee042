-- The two passes over the marks of a signature.
use Rattle.std.proofs.Common.{◌≡◌, ℕ, zero, suc, ◌+◌, ◌-◌, ◌<◌, ◌≤◌, List, [], ◌∷◌, ◌++◌, drop, length, map, refl, sym}
use Rattle.std.proofs.Common.{◌∙◌, ap, ap₂, subst, arith, Option, Some, None, append_assoc, length-append}
use Rattle.std.proofs.lemmas.List.{drop-drop, append-nil, map-append, length-drop}
use Rattle.std.specs.Option.{option_map}
use Rattle.sp_defs.specs.Node.{Node}
use Rattle.sp_defs.specs.Signature.{reduced, removables, addables, first}
use Rattle.sp_nodes.specs.declared.corners.Corner.{Corner}
use Rattle.sp_nodes.specs.declared.corners.Corner.TheVariants.{Addable as AtAddable, Removable as AtRemovable}
use Rattle.sp_nodes.specs.declared.corners.Mark.{Mark}
use Rattle.sp_nodes.specs.declared.node.Node.{Node as Place}
use Rattle.sp_nodes.specs.Nodes.{pair}
use Rattle.sp_nodes.specs.Marks.{letter, mark_of}
use Rattle.sp_good.proofs.Pairs.{removable-removables, removable-addables, addable-removables, addable-paired}
use Rattle.sp_good.proofs.Pairs.{addable-left}

-- The R left, and the A left, of marks of the code.
abbrev pub lower : List Mark → List Node
lower marks = removables (reduced (map mark_of marks))

-- The A left.
abbrev pub upper : List Mark → List Node
upper marks = addables (reduced (map mark_of marks))

-- From top to bottom: what is found, then the R left of the marks to come but for those that go out with an A above.
pub record Descends (marks rest : List Mark) (found : List Place) (unpaired seen : ℕ) : Type 0 where
  pub is : map pair found ++ drop unpaired (lower rest) ≡ lower marks
  pub few : length found ≤ seen
  pub few_unpaired : unpaired ≤ seen

-- From bottom to top: the rest is above the marks seen.
pub record Ascends (marks rest : List Mark) (highest : Option Place) (unpaired : ℕ) : Type 0 where
  pub seen : List Mark
  pub whole : rest ++ seen ≡ marks
  pub counted : unpaired ≡ length (lower seen)
  pub few : unpaired ≤ length seen
  pub is : option_map pair highest ≡ first (upper seen)

-- ---- one mark more

head : (letter_is : Corner) (m : Mark) → m.corner ≡ letter_is → mark_of m ≡ (letter letter_is, pair m.node)
head letter_is m at = ap (λ k. (letter k, pair m.node)) at

lower-addable : (m : Mark) (rest : List Mark) → m.corner ≡ AtAddable → lower (m ∷ rest) ≡ drop 1 (lower rest)
lower-addable m rest at =
    ap (λ k. removables (reduced (k ∷ map mark_of rest))) (head AtAddable m at)
    ∙ addable-removables (pair m.node) (map mark_of rest)

lower-removable : (m : Mark) (rest : List Mark) → m.corner ≡ AtRemovable →
    lower (m ∷ rest) ≡ pair m.node ∷ lower rest
lower-removable m rest at =
    ap (λ k. removables (reduced (k ∷ map mark_of rest))) (head AtRemovable m at)
    ∙ removable-removables (pair m.node) (map mark_of rest)

upper-removable : (m : Mark) (rest : List Mark) → m.corner ≡ AtRemovable → upper (m ∷ rest) ≡ upper rest
upper-removable m rest at =
    ap (λ k. addables (reduced (k ∷ map mark_of rest))) (head AtRemovable m at)
    ∙ removable-addables (pair m.node) (map mark_of rest)

upper-paired : (m : Mark) (rest : List Mark) → m.corner ≡ AtAddable → 0 < length (lower rest) →
    upper (m ∷ rest) ≡ upper rest
upper-paired m rest at some =
    ap (λ k. addables (reduced (k ∷ map mark_of rest))) (head AtAddable m at)
    ∙ addable-paired (pair m.node) (map mark_of rest) some

upper-left : (m : Mark) (rest : List Mark) → m.corner ≡ AtAddable → length (lower rest) ≡ 0 →
    upper (m ∷ rest) ≡ pair m.node ∷ upper rest
upper-left m rest at none =
    ap (λ k. addables (reduced (k ∷ map mark_of rest))) (head AtAddable m at)
    ∙ addable-left (pair m.node) (map mark_of rest) none

-- ---- from top to bottom

drop-past : (u : ℕ) (x : Node) (xs : List Node) → 0 < u → drop u (x ∷ xs) ≡ drop (u - 1) xs
drop-past u x xs h = ap (λ n. drop n (x ∷ xs)) back
  where
    back : u ≡ suc (u - 1)
    back = omega arith

-- what an index past the end reads
abbrev pub no_mark : Mark
no_mark = record { corner = AtAddable; node = record { row = 0; column = 0 } }

-- what one of the ways through the loop's body leaves
pub descends_same : (marks rest : List Mark) (found found' : List Place) (unpaired unpaired' seen : ℕ) →
    found' ≡ found → unpaired' ≡ unpaired → Descends marks rest found unpaired seen →
    Descends marks rest found' unpaired' seen
descends_same marks rest found found' unpaired unpaired' seen p q h =
    subst (λ ns. Descends marks rest ns unpaired' seen) (sym p)
    (subst (λ u. Descends marks rest found u seen) (sym q) h)

-- Before the first mark nothing is left.
pub descends_start : (marks : List Mark) → Descends marks (drop 0 marks) [] 0 0
descends_start marks = record { is = refl; few = omega arith; few_unpaired = omega arith }

module _ (marks rest below : List Mark) (m : Mark) (found : List Place) (unpaired seen : ℕ)
    (h : Descends marks rest found unpaired seen) (here : rest ≡ m ∷ below) where
  -- An A waits for an R below it.
  pub descends_addable : m.corner ≡ AtAddable → Descends marks below found (unpaired + 1) (seen + 1)
  descends_addable at = record {
    is =
        ap (λ xs. map pair found ++ xs) (ap (λ n. drop n (lower below)) (turned unpaired)
        ∙ sym (drop-drop unpaired 1 (lower below))
        ∙ ap (drop unpaired) (sym (ap lower here ∙ lower-addable m below at)))
        ∙ h.is;
    few = omega (arith, h.few);
    few_unpaired = omega (arith, h.few_unpaired);
  }
    where
      turned : (u : ℕ) → u + 1 ≡ 1 + u
      turned u = omega arith

  -- An R goes out with the A that waits,
  pub descends_paired : m.corner ≡ AtRemovable → 0 < unpaired → Descends marks below found (unpaired - 1) (seen + 1)
  descends_paired at some = record {
    is =
        ap (λ xs. map pair found ++ xs) (sym (ap (λ xs. drop unpaired (lower xs)) here
        ∙ ap (drop unpaired) (lower-removable m below at)
        ∙ drop-past unpaired (pair m.node) (lower below) some))
        ∙ h.is;
    few = omega (arith, h.few);
    few_unpaired = omega (arith, h.few_unpaired);
  }

  -- and is left where none waits.
  pub descends_left : (more : List Place) → more ≡ found ++ (m.node ∷ []) → m.corner ≡ AtRemovable → unpaired ≡ 0 →
      Descends marks below more unpaired (seen + 1)
  descends_left more appended at none = record {
    is =
        ap₂ (λ xs u. map pair xs ++ drop u (lower below)) appended none
        ∙ ap (λ xs. xs ++ lower below) (map-append pair found (m.node ∷ []))
        ∙ append_assoc (map pair found) (pair m.node ∷ []) (lower below)
        ∙ ap (λ xs. map pair found ++ xs) (sym (ap₂ (λ u xs. drop u (lower xs)) none here ∙ lower-removable m below at))
        ∙ h.is;
    few = omega (arith, h.few, ap length appended, length-append found (m.node ∷ []));
    few_unpaired = omega (arith, h.few_unpaired);
  }

-- After the last mark the removable nodes left are found.
pub descends_all : (marks : List Mark) (found : List Place) (unpaired seen : ℕ) →
    Descends marks [] found unpaired seen → map pair found ≡ lower marks
unfolding removables reduced
descends_all marks found unpaired seen h =
    sym (append-nil (map pair found)) ∙ ap (λ xs. map pair found ++ xs) (sym (nothing unpaired)) ∙ h.is
  where
    nothing : (u : ℕ) → drop u (lower []) ≡ []
    nothing zero = refl
    nothing (suc u) = refl

-- ---- from bottom to top

-- Below the last mark nothing is left.
pub ascends_start : (marks : List Mark) → Ascends marks marks None 0
unfolding removables addables reduced
ascends_start marks = record { seen = []; whole = append-nil marks; counted = refl; few = omega arith; is = refl }

module _ (marks rest above : List Mark) (m : Mark) (highest : Option Place) (unpaired : ℕ)
    (h : Ascends marks rest highest unpaired) (here : rest ≡ above ++ (m ∷ [])) where
  joined_on : above ++ (m ∷ h.seen) ≡ marks
  joined_on = sym (append_assoc above (m ∷ []) h.seen) ∙ ap (λ xs. xs ++ h.seen) (sym here) ∙ h.whole

  -- Fewer R are left below than there are marks.
  pub unpaired_below : unpaired < length marks
  unpaired_below =
      omega (arith, h.few, ap length joined_on, length-append above (m ∷ h.seen))

  -- An R is left, as far as the marks seen tell.
  pub ascends_removable : m.corner ≡ AtRemovable → Ascends marks above highest (unpaired + 1)
  ascends_removable at = record {
    seen = m ∷ h.seen;
    whole = joined_on;
    counted = omega (arith, h.counted, ap length (lower-removable m h.seen at));
    few = omega (arith, h.few);
    is = h.is ∙ ap first (sym (upper-removable m h.seen at));
  }

  -- An A goes out with an R below it,
  pub ascends_paired : m.corner ≡ AtAddable → 0 < unpaired → Ascends marks above highest (unpaired - 1)
  ascends_paired at some = record {
    seen = m ∷ h.seen;
    whole = joined_on;
    counted = omega (arith, h.counted, ap length (lower-addable m h.seen at), length-drop 1 (lower h.seen));
    few = omega (arith, h.few);
    is = h.is ∙ ap first (sym (upper-paired m h.seen at (omega (arith, h.counted))));
  }

  -- and is left where there is none: it is the highest so far.
  pub ascends_left : m.corner ≡ AtAddable → unpaired ≡ 0 → Ascends marks above (Some m.node) unpaired
  ascends_left at none = record {
    seen = m ∷ h.seen;
    whole = joined_on;
    counted = omega (
      arith,
      none,
      h.counted,
      ap length (lower-addable m h.seen at),
      length-drop 1 (lower h.seen),
    );
    few = omega (arith, h.few);
    is = sym (ap first (upper-left m h.seen at (omega (arith, h.counted))));
  }

-- Above the first mark the highest addable node left is found.
pub ascends_all : (marks rest : List Mark) (highest : Option Place) (unpaired : ℕ) → length rest ≡ 0 →
    Ascends marks rest highest unpaired → option_map pair highest ≡ first (upper marks)
ascends_all marks [] highest unpaired none h = h.is ∙ ap (λ xs. first (upper xs)) h.whole
ascends_all marks (m ∷ rest) highest unpaired none h = absurd (omega arith)
