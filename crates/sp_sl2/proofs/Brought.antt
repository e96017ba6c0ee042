-- The sum over the marks of a signature, mark by mark.
use Rattle.std.proofs.Common.{◌≡◌, ℕ, ◌+◌, ◌<◌, ◌≤◌, List, [], ◌∷◌, map, length, drop, get_or, refl, sym, ◌∙◌}
use Rattle.std.proofs.Common.{ap, ap₂, subst, arith, ℤ, pos, drop-cons, add-one, Option, Some, None, IsNone, IfSome}
use Rattle.std.proofs.Common.{◌↔◌}
use Rattle.std.proofs.Common.{Bor, ◌*◌, ◌-ℤ◌}
use Rattle.std.proofs.lemmas.List.{drop_all}
use Rattle.sp_defs.specs.Laurent.{Laurent, collect, power, plus, times, size, IsLaurent}
use Rattle.sp_defs.specs.Partition.{IsPartition}
use Rattle.sp_defs.specs.Power.{Vector}
use Rattle.sp_defs.specs.Signature.{Mark as Marked, signature}
use Rattle.std.specs.List.{AllByRecursion}
use Rattle.sp_lists.proofs.Elements.{map_all}
use Rattle.sp_lists.proofs.Places.{all_at}
use Rattle.sp_sl2_law.specs.Restriction.{restriction}
use Rattle.sp_sl2_law.specs.Balanced.{corner_difference}
use Rattle.sp_algebra.proofs.Laws.{plus_assoc, plus_nought, nought_plus, IsLaurent-plus}
use Rattle.sp_algebra.proofs.Sizes.{size_plus, size_times}
use Rattle.sp_fock.specs.Walk.{shown}
use Rattle.sp_nodes.specs.Marks.{mark_of}
use Rattle.sp_nodes.specs.declared.corners.Mark.{Mark}
use Rattle.sp_sl2_law.specs.Marks.{taken_through, size_through, share_at, passed}
use Rattle.sp_sl2_law.proofs.Descent.{IsLaurent-taken, taken-step, size-step, signature_taken}

-- What a look-up shows.
pub shown_is : (r : Option (Bor Laurent)) (p : Laurent) → (IsNone r ↔ (p ≡ [])) → IfSome r (λ q. q.now ≡ p) →
    shown r ≡ p
shown_is None p none some = sym (none.0 refl)
shown_is (Some q) p none some = some

-- The marks from one on: that one, and those after it.
marks_cons : (marks : List Mark) (k : ℕ) (d : Mark) → k < length marks →
    map mark_of (drop k marks) ≡ mark_of (get_or marks k d) ∷ map mark_of (drop (k + 1) marks)
marks_cons marks k d lt =
    ap (map mark_of) (drop-cons marks k d lt)
    ∙ ap (λ l. mark_of (get_or marks k d) ∷ map mark_of (drop l marks)) (sym (add-one k))

-- What holds of all marks holds of one.
pub mark_there : (P : Marked → Type 0) (marks : List Mark) (k : ℕ) (d : Mark) → AllByRecursion P (map mark_of marks) →
    k < length marks → P (mark_of (get_or marks k d))
mark_there P marks k d all lt =
    all_at (λ m. P (mark_of m)) marks k d (map_all P mark_of marks all) lt

-- Before the first mark the sum is 0.
pub sum_begin : (w : Vector) (at : List ℕ) (ms : List Marked) (sum : Laurent) (d : ℤ) → sum ≡ [] →
    plus sum (taken_through w at ms d) ≡ taken_through w at ms d
sum_begin w at ms sum d zero =
    ap (λ s. plus s (taken_through w at ms d)) zero ∙ nought_plus (taken_through w at ms d) (IsLaurent-taken w at ms d)

-- 0 is a polynomial.
pub zero_laurent : (sum : Laurent) → sum ≡ [] → IsLaurent sum
unfolding collect
zero_laurent sum zero = subst IsLaurent (sym zero) refl

-- A sum is one.
pub sum_laurent : (new p q : Laurent) → new ≡ plus p q → IsLaurent new
sum_laurent new p q is = subst IsLaurent (sym is) (IsLaurent-plus p q)

-- Its size is within what is left.
pub size_more : (old new share : Laurent) (x : ℤ) (left rest limit : ℕ) → new ≡ plus old (times (power x) share) →
    size old + left ≤ limit → rest + size share ≡ left → size new + rest ≤ limit
size_more old new share x left rest limit is fits taken =
    let a : size new ≤ size old + size (times (power x) share) =
    subst (λ q. size q ≤ size old + size (times (power x) share)) (sym is) (size_plus old (times (power x) share)) in
    let b : size (times (power x) share) ≤ 1 * size share = size_times (power x) share in
    omega arith

module _ (w : Vector) (at : List ℕ) (marks : List Mark) (k : ℕ) (m : Mark) (lt : k < length marks) where
  -- What the mark brings goes onto the sum.
  pub sum_more : (old new share all : Laurent) (d d' : ℤ) →
      plus old (taken_through w at (map mark_of (drop k marks)) d) ≡ all → d' ≡ passed (mark_of (get_or marks k m)) d →
      share ≡ share_at w at (mark_of (get_or marks k m)) → new ≡ plus old (times (power d') share) →
      plus new (taken_through w at (map mark_of (drop (k + 1) marks)) d') ≡ all
  sum_more old new share all d d' so_far down share_is new_is =
      ap (λ q. plus q (taken_through w at (map mark_of (drop (k + 1) marks)) d'))
      (new_is ∙ ap₂ (λ y q. plus old (times (power y) q)) down share_is)
      ∙ ap (λ y. plus (plus old (times (power (passed (mark_of (get_or marks k m)) d))
      (share_at w at (mark_of (get_or marks k m))))) (taken_through w at (map mark_of (drop (k + 1) marks)) y)) down
      ∙ plus_assoc old (times (power (passed (mark_of (get_or marks k m)) d)) (share_at w at (mark_of
      (get_or marks k m))))
      (taken_through w at (map mark_of (drop (k + 1) marks)) (passed (mark_of (get_or marks k m)) d))
      ∙ ap (plus old) (sym (ap (λ ms. taken_through w at ms d) (marks_cons marks k m lt)
      ∙ taken-step w at (mark_of (get_or marks k m)) (map mark_of (drop (k + 1) marks)) d))
      ∙ so_far

  sizes_here : size_through w at (map mark_of (drop k marks)) ≡
      size (share_at w at (mark_of (get_or marks k m))) + size_through w at (map mark_of (drop (k + 1) marks))
  sizes_here = ap (size_through w at) (marks_cons marks k m lt)
      ∙ size-step w at (mark_of (get_or marks k m)) (map mark_of (drop (k + 1) marks))

  -- Its size is taken from the limit.
  pub sizes_more : (left rest all limit : ℕ) (share : Laurent) →
      left + all ≡ limit + size_through w at (map mark_of (drop k marks)) → rest + size share ≡ left →
      share ≡ share_at w at (mark_of (get_or marks k m)) →
      rest + all ≡ limit + size_through w at (map mark_of (drop (k + 1) marks))
  sizes_more left rest all limit share h taken share_is = omega (arith, sizes_here, ap size share_is)

  -- Where it passes what is left, all pass the limit.
  pub sizes_past : (left all limit : ℕ) (share : Laurent) →
      left + all ≡ limit + size_through w at (map mark_of (drop k marks)) → left < size share →
      share ≡ share_at w at (mark_of (get_or marks k m)) → limit < all
  sizes_past left all limit share h past share_is = omega (arith, sizes_here, ap size share_is)

-- Behind the last mark nothing is brought.
pub sum_end : (w : Vector) (at : List ℕ) (marks : List Mark) (k : ℕ) (sum all : Laurent) (d : ℤ) → length marks ≤ k →
    IsLaurent sum → plus sum (taken_through w at (map mark_of (drop k marks)) d) ≡ all → sum ≡ all
unfolding taken_through
sum_end w at marks k sum all d past l h =
    sym (plus_nought sum l)
    ∙ ap (λ ms. plus sum (taken_through w at (map mark_of ms) d)) (sym (drop_all k marks past)) ∙ h

pub sizes_end : (w : Vector) (at : List ℕ) (marks : List Mark) (k left all limit : ℕ) → length marks ≤ k →
    left + all ≡ limit + size_through w at (map mark_of (drop k marks)) → left + all ≡ limit
unfolding size_through
sizes_end w at marks k left all limit past h =
    h ∙ ap (λ ms. limit + size_through w at (map mark_of ms)) (drop_all k marks past) ∙ plain limit
  where
    plain : (n : ℕ) → n + 0 ≡ n
    plain n = omega arith

-- ---- all marks

-- What all marks of the signature bring is the restriction.
pub taken_whole : (e i : ℕ) (at : List ℕ) (w : Vector) (ms : List Marked) (d : ℤ) (sum : Laurent) → 2 ≤ e →
    IsPartition at → ms ≡ signature e i at → d ≡ pos 0 -ℤ corner_difference e i at → sum ≡ taken_through w at ms d →
    sum ≡ restriction e i w at
taken_whole e i at w ms d sum he pa marks start is =
    is ∙ ap (λ l. taken_through w at l d) marks ∙ signature_taken e i he at pa w d start
