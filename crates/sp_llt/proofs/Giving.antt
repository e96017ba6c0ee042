-- What is known where a builder is given the row that it asked for.
use Rattle.std.proofs.Common.{◌≡◌, ◌≢◌, ℕ, ◌<◌, ◌≤◌, false, List, [], length, get_or, refl}
use Rattle.std.proofs.Common.{sym, ◌∙◌, ap, ap₂, subst, arith, None, Some}
use Rattle.std.specs.List.{AllByRecursion}
use Rattle.sp_defs.specs.Laurent.{Laurent}
use Rattle.sp_defs.specs.Power.{entries}
use Rattle.sp_defs.specs.Row.{earlier, regular_row, shares, Outcome, TooLarge, Stray, Row}
use Rattle.sp_defs.specs.Within.{ProductWithin}
use Rattle.sp_laurent.specs.Held.{power_limit}
use Rattle.sp_row_bounds.specs.Powers.{row_bound}
use Rattle.sp_row_bounds.proofs.Entries.{product_entries}
use Rattle.sp_row_bounds.proofs.Ranks.{count_law}
use Rattle.sp_outcome_law.specs.Asking.{share_at, asked, is_too_large}
use Rattle.sp_outcome_law.proofs.Asked.{asked_open}
use Rattle.sp_outcome_law.proofs.Ranks.{length_shares}
use Rattle.sp_core.specs.declared.piece.Key.{Key}
use Rattle.sp_llt.specs.declared.builder.Unfinished.{Unfinished}
use Rattle.sp_llt.specs.declared.builder.State.{State}
use Rattle.sp_llt.specs.declared.builder.State.TheVariants.{Open, Decided}
use Rattle.sp_llt.specs.declared.entry.Found.{Found}
use Rattle.sp_llt.specs.Place.{IsPlace, place, Place, Progress, IsProgress, progress, label}
use Rattle.sp_llt.specs.Reached.{IsOpen, IsBuilder}
use Rattle.sp_llt.proofs.States.{told_open, told_decided}
use Rattle.sp_llt.proofs.Asks.{NextFacts, next_facts}
use Rattle.sp_llt.proofs.Labels.{LabelFacts, label_facts, lower_place}

-- ---- the outcomes

-- an outcome other than `TooLarge` is not said to be too large
pub other_outcome : (o : Outcome) → o ≢ TooLarge → is_too_large o ≡ false
other_outcome TooLarge h = absurd (h refl)
other_outcome (Stray lambda) h = refl
other_outcome Row h = refl

-- what is not greater is at most
pub at_most : (m n : ℕ) → (m < n → ⊥) → n ≤ m
at_most m n h = omega (arith, h)

-- ---- the next share

-- What is known of the share whose row comes next.
pub record NextShare (key : Key) (rank : ℕ) (kept : Unfinished) : Type 0 where
  pub value : share_at key.e (label key rank) kept.next.rank ≡ (label key kept.next.rank, kept.next.alpha)
  pub lower : kept.next.rank < rank
  pub progress : IsProgress (progress key rank kept.next.rank)
  pub count : length (earlier key.e (label key kept.next.rank)) ≡ kept.next.rank

-- an open builder keeps the share whose row comes next
pub next_share : (key : Key) (rank t : ℕ) (kept : Unfinished) → IsPlace (place key rank) →
    IsOpen key (label key rank) t kept → NextShare key rank kept
next_share key rank t kept p is = record {
  value = ap₂ (λ x y. (x, y)) facts.at (sym is.alpha);
  lower = facts.earlier;
  progress = record { place = p; reached = omega (arith, facts.earlier) };
  count = (label_facts key kept.next.rank (lower_place key rank kept.next.rank p facts.earlier)).count;
}
  where
    facts : NextFacts key rank t kept.next.rank
    facts = next_facts key rank p t kept.next.rank is.rank

-- ---- the entry that was asked for

-- told of a builder's parts, and of the entry that it is given
module _ (b : Progress) (key : Key) (rank t : ℕ) (state : State) (entry : Place) (view : progress key rank t ≡ b)
    (builder : IsBuilder key rank t state)
    (a : asked b.key.e b.key.limit (label b.key b.rank) b.reached ≡ Some entry.rank) (k : entry.key ≡ b.key) where
  here : asked key.e key.limit (label key rank) t ≡ Some entry.rank
  here = subst (λ (p : Progress). asked p.key.e p.key.limit (label p.key p.rank) p.reached ≡ Some entry.rank)
      (sym view) a

  -- the builder asks for a row
  pub not_decided : (kept : Found) → state ≢ Decided kept
  not_decided kept is =
      let none : None ≡ Some entry.rank = sym (told_decided key rank t state kept builder is).none ∙ here in cc

  module _ (kept : Unfinished) (is : state ≡ Open kept) where
    -- the builder is open with what it keeps
    pub opened : IsOpen key (label key rank) t kept
    opened = told_open key rank t state kept builder is

    same_rank : kept.next.rank ≡ entry.rank
    same_rank = let s : Some kept.next.rank ≡ Some entry.rank =
        sym opened.rank ∙ sym (asked_open key.e key.limit (label key rank) t opened.undecided) ∙ here in cc

    -- the entry is that of the next share
    pub is_entry : entry ≡ place key kept.next.rank
    is_entry = ap₂ place (k ∙ ap (λ (p : Progress). p.key) (sym view)) (sym same_rank)

    -- the builder that is answered
    pub is_answer : progress key rank kept.next.rank ≡ progress b.key b.rank entry.rank
    is_answer = ap₂ (λ (p : Progress) j. progress p.key p.rank j) view same_rank

-- ---- the powers in the product of a share and its row

-- the powers of a share times an earlier row fit
pub product_fits : (key : Key) (rank j : ℕ) (nu : List ℕ) (alpha : Laurent) → IsPlace (place key rank) → j < rank →
    share_at key.e (label key rank) j ≡ (nu, alpha) →
    AllByRecursion (λ t. ProductWithin power_limit alpha t.1) (entries key.degree (regular_row key.e nu))
unfolding share_at
product_fits key rank j nu alpha p lt is =
    subst (λ a. AllByRecursion (λ t. ProductWithin power_limit a.1 t.1) (entries key.degree (regular_row key.e a.0))) is
    (subst
    (λ n. AllByRecursion (λ t. ProductWithin power_limit (get_or (shares key.e mu) j ([], [])).1 t.1)
    (entries n (regular_row key.e (get_or (shares key.e mu) j ([], [])).0)))
    f.total
    (product_entries key.e mu power_limit j ([], []) f.is_label small
    (omega (arith, length_shares key.e mu, f.count, lt))))
  where
    mu : List ℕ
    mu = label key rank

    f : LabelFacts key rank
    f = label_facts key rank p

    bound : row_bound key.e mu ≤ 5043600
    bound = count_law.row_bound_30 key.e mu f.is_label (omega (arith, f.total, p.key.degree))

    small : row_bound key.e mu ≤ power_limit
    small = omega (arith, bound)
