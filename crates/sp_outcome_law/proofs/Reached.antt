-- What has been given, and which rank is next, rank by rank.
use Rattle.std.proofs.Common.{◌≡◌, ℕ, zero, suc, ◌<◌, ◌≤◌, Bool, true, false, cond, List, [], ◌∷◌, length, refl}
use Rattle.std.proofs.Common.{◌+◌, sym, ◌∙◌, ap, subst, arith, Some, None, filter}
use Rattle.std.proofs.lemmas.List.{drop_all}
use Rattle.sp_defs.specs.Row.{shares}
use Rattle.sp_outcome_law.specs.Asking.{is_nonzero, share_at, given, next_rank}
use Rattle.sp_outcome_law.proofs.Listed.{filter-drop}
use Rattle.sp_outcome_law.proofs.Downwards.{find_down}

-- ---- one rank

-- The shares given from a rank on: the share there, if it isn't 0, and those from the next rank on.
pub given_at : (e : ℕ) (mu : List ℕ) (t : ℕ) →
    given e mu t ≡ cond (is_nonzero (share_at e mu t)) (share_at e mu t ∷ given e mu (suc t)) (given e mu (suc t))
unfolding given share_at
given_at e mu t = filter-drop is_nonzero (shares e mu) t ([], []) refl

-- The next rank below t + 1 is t, if its share isn't 0, or the next one below t.
pub next_at : (e : ℕ) (mu : List ℕ) (t : ℕ) →
    next_rank e mu (suc t) ≡ cond (is_nonzero (share_at e mu t)) (Some t) (next_rank e mu t)
unfolding next_rank
next_at e mu t = find_down (λ j. is_nonzero (share_at e mu j)) t

-- Below the rank 0 there is none.
pub next_zero : (e : ℕ) (mu : List ℕ) → next_rank e mu 0 ≡ None
unfolding next_rank
next_zero e mu = refl

-- from mu's own rank on nothing is given
pub given_none : (e : ℕ) (mu : List ℕ) (t : ℕ) → length (shares e mu) ≤ t → given e mu t ≡ []
unfolding given
given_none e mu t h = ap (filter is_nonzero) (drop_all t (shares e mu) h)

-- ---- the ranks between i and t have no share

-- The shares from i up to t are 0, so far as it shows: the same is given, and the same is next.
pub record Passed (e : ℕ) (mu : List ℕ) (i t : ℕ) : Type 0 where
  pub same_given : given e mu i ≡ given e mu t
  pub same_next : next_rank e mu t ≡ next_rank e mu i

-- None stands between t and t.
pub passed_start : (e : ℕ) (mu : List ℕ) (t : ℕ) → Passed e mu t t
passed_start e mu t = record { same_given = refl; same_next = refl }

-- One rank more whose share is 0.
pub passed_more : (e : ℕ) (mu : List ℕ) (i t : ℕ) → is_nonzero (share_at e mu i) ≡ false → Passed e mu (suc i) t →
    Passed e mu i t
passed_more e mu i t z h = record {
  same_given =
      given_at e mu i
      ∙ ap (λ b. cond b (share_at e mu i ∷ given e mu (suc i)) (given e mu (suc i))) z
      ∙ h.same_given;
  same_next = h.same_next ∙ next_at e mu i ∙ ap (λ b. cond b (Some i) (next_rank e mu i)) z;
}

-- Two such stretches are one.
pub passed_on : (e : ℕ) (mu : List ℕ) (i j t : ℕ) → Passed e mu i j → Passed e mu j t → Passed e mu i t
passed_on e mu i j t h k = record { same_given = h.same_given ∙ k.same_given; same_next = k.same_next ∙ h.same_next }

-- rank by rank
pub passed_between : (e : ℕ) (mu : List ℕ) (count i t : ℕ) → i + count ≡ t →
    ((j : ℕ) → i ≤ j → j < t → is_nonzero (share_at e mu j) ≡ false) → Passed e mu i t
passed_between e mu zero i t s f = subst (λ n. Passed e mu i n) (same i t s) (passed_start e mu i)
  where
    same : (i t : ℕ) → i + 0 ≡ t → i ≡ t
    same i t s = omega (arith, s)
passed_between e mu (suc count) i t s f =
    passed_more e mu i t (f i (omega arith) (omega (arith, s)))
    (passed_between e mu count (suc i) t (omega (arith, s)) (λ j lo hi. f j (omega (arith, lo)) hi))

-- ---- a next rank

-- What the next rank j below t says.
pub record IsStep (e : ℕ) (mu : List ℕ) (t j : ℕ) : Type 0 where
  pub lower : j < t
  pub nonzero : is_nonzero (share_at e mu j) ≡ true
  pub more : given e mu j ≡ share_at e mu j ∷ given e mu t
  pub between : Passed e mu (suc j) t

-- the next rank is a lower one with a share, and has been given after t
pub step : (e : ℕ) (mu : List ℕ) (t j : ℕ) → next_rank e mu t ≡ Some j → IsStep e mu t j
step e mu zero j h = absurd (let w : None ≡ Some j = sym (next_zero e mu) ∙ h in cc)
step e mu (suc t) j h = tested (step e mu t j) (is_nonzero (share_at e mu t)) refl (sym (next_at e mu t) ∙ h)
  where
    here : is_nonzero (share_at e mu t) ≡ true → IsStep e mu (suc t) t
    here z = record {
      lower = omega arith;
      nonzero = z;
      more = given_at e mu t
          ∙ ap (λ b. cond b (share_at e mu t ∷ given e mu (suc t)) (given e mu (suc t))) z;
      between = passed_start e mu (suc t);
    }

    further : is_nonzero (share_at e mu t) ≡ false → IsStep e mu t j → IsStep e mu (suc t) j
    further z s =
        let last : Passed e mu t (suc t) = passed_more e mu t (suc t) z (passed_start e mu (suc t)) in
        record {
          lower = omega (arith, s.lower);
          nonzero = s.nonzero;
          more = s.more ∙ ap (λ gs. share_at e mu j ∷ gs) last.same_given;
          between = passed_on e mu (suc j) t (suc t) s.between last;
        }

    tested : (next_rank e mu t ≡ Some j → IsStep e mu t j) → (b : Bool) → is_nonzero (share_at e mu t) ≡ b →
        cond b (Some t) (next_rank e mu t) ≡ Some j → IsStep e mu (suc t) j
    tested ih true z w = let s : t ≡ j = cc in subst (λ i. IsStep e mu (suc t) i) s (here z)
    tested ih false z w = further z (ih w)

-- with no next rank none of the lower ones has a share
pub all_passed : (e : ℕ) (mu : List ℕ) (t : ℕ) → next_rank e mu t ≡ None → Passed e mu 0 t
all_passed e mu zero h = passed_start e mu 0
all_passed e mu (suc t) h = tested (all_passed e mu t) (is_nonzero (share_at e mu t)) refl (sym (next_at e mu t) ∙ h)
  where
    tested : (next_rank e mu t ≡ None → Passed e mu 0 t) → (b : Bool) → is_nonzero (share_at e mu t) ≡ b →
        cond b (Some t) (next_rank e mu t) ≡ None → Passed e mu 0 (suc t)
    tested ih true z w = absurd (cc)
    tested ih false z w = passed_on e mu 0 t (suc t) (ih w)
        (passed_more e mu t (suc t) z (passed_start e mu (suc t)))

-- and the other way round
pub none_next : (e : ℕ) (mu : List ℕ) (t : ℕ) → Passed e mu 0 t → next_rank e mu t ≡ None
none_next e mu t h = h.same_next ∙ next_zero e mu
