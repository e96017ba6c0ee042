-- What a builder asks for.
use Rattle.std.proofs.Common.{◌≡◌, ◌≢◌, ℕ, ◌+◌, ◌<◌, ◌≤◌, Bool, true, false, List, [], length, get_or, sym, ◌∙◌}
use Rattle.std.proofs.Common.{ap, subst, arith, refl, Some, None, lt-ltb, le-ltb}
use Rattle.sp_defs.specs.Partition.{degree, regulars}
use Rattle.sp_defs.specs.Laurent.{lift, size}
use Rattle.sp_defs.specs.Power.{Vector, vector_of, entries}
use Rattle.sp_defs.specs.Row.{outcome, TooLarge, earlier}
use Rattle.sp_defs.specs.Statements.{SameContent}
use Rattle.sp_fock_law.specs.Tally.{TallyValue}
use Rattle.sp_fock_law.proofs.Vectors.{vector_of-entries}
use Rattle.sp_outcome_law.specs.Asking.{share_at, next_rank, left, is_past, share_past, asked}
use Rattle.sp_outcome_law.proofs.Asked.{asked_open}
use Rattle.sp_outcome_law.proofs.Decided.{decided, too_large_of}
use Rattle.sp_outcome_law.proofs.Finding.{next_is, no_next, next_share_at}
use Rattle.sp_outcome_law.proofs.Next.{IsNext, is_next}
use Rattle.sp_outcome_law.proofs.Ranks.{earlier_at}
use Rattle.sp_core.specs.declared.piece.Key.{Key}
use Rattle.sp_llt.specs.declared.share.Share.{Share}
use Rattle.sp_llt.specs.declared.builder.Unfinished.{Unfinished}
use Rattle.sp_llt.specs.Place.{IsPlace, place, IsProgress, progress, label, labels}
use Rattle.sp_llt.specs.Search.{lift_at, NoLift, IsLastLift, IsLargeLift}
use Rattle.sp_llt.specs.Shares.{given_shares}
use Rattle.sp_llt.specs.Reached.{IsWithin, IsOpen, tally_at}
use Rattle.sp_llt.proofs.Labels.{LabelFacts, label_facts, by_degree}

-- The share whose row comes next.
pub record IsNextShare (e : ℕ) (mu : List ℕ) (t : ℕ) (next : Share) : Type 0 where
  pub rank : next_rank e mu t ≡ Some next.rank
  pub alpha : next.alpha ≡ (share_at e mu next.rank).1

-- ---- the next rank

-- What is known of rank j, whose share comes next after those from rank t on.
pub record NextFacts (key : Key) (rank t j : ℕ) : Type 0 where
  pub lower : j < t
  pub earlier : j < rank
  pub at : (share_at key.e (label key rank) j).0 ≡ label key j
  pub content : SameContent key.e (label key rank) (label key j)

module _ (key : Key) (rank : ℕ) (p : IsPlace (place key rank)) where
  f : LabelFacts key rank
  f = label_facts key rank p

  -- the next rank is an earlier one, and its label is that of the share
  pub next_facts : (t j : ℕ) → next_rank key.e (label key rank) t ≡ Some j → NextFacts key rank t j
  next_facts t j h = record {
    lower = n.lower;
    earlier = omega (arith, n.rank, f.count);
    at = at;
    content = subst (SameContent key.e (label key rank)) at n.content;
  }
    where
      n : IsNext key.e (label key rank) t j
      n = is_next key.e (label key rank) f.is_label t j h

      at : (share_at key.e (label key rank) j).0 ≡ label key j
      at = sym (earlier_at key.e (label key rank) f.is_label j [] n.rank) ∙ by_degree key rank j f

  -- past the limit the outcome is too large
  pub past_outcome : (t : ℕ) → is_past key.e key.limit (label key rank) t ≡ true →
      outcome key.e key.limit (label key rank) ≡ TooLarge
  past_outcome t h =
      too_large_of key.e key.limit (label key rank) (decided key.e key.limit (label key rank) f.is_label t h)

  -- where the outcome is decided and isn't too large, no share is to come
  pub none_to_come : (t : ℕ) → asked key.e key.limit (label key rank) t ≡ None →
      outcome key.e key.limit (label key rank) ≢ TooLarge → next_rank key.e (label key rank) t ≡ None
  none_to_come t none fits = tested (is_past key.e key.limit (label key rank) t) refl
    where
      tested : (b : Bool) → is_past key.e key.limit (label key rank) t ≡ b →
          next_rank key.e (label key rank) t ≡ None
      tested true past = absurd (fits (past_outcome t past))
      tested false within = sym (asked_open key.e key.limit (label key rank) t within) ∙ none

  -- ---- the search for the next share

  -- the coefficient at an e-regular partition
  lift_here : (t i : ℕ) → i < length (labels key) →
      lift_at (vector_of (entries key.degree (left key.e (label key rank) t))) (labels key) i
      ≡ lift (left key.e (label key rank) t (get_or (regulars key.e (degree (label key rank))) i []))
  lift_here t i lt =
      ap lift
      (vector_of-entries key.degree (left key.e (label key rank) t) (label key i)
      (record { partition = g.regular.partition; total = g.total })
      ∙ ap (left key.e (label key rank) t) (sym (by_degree key rank i f)))
    where
      g : LabelFacts key i
      g = label_facts key i (record { key = p.key; rank = lt })

  within_rank : (t : ℕ) → t ≤ rank → t ≤ length (earlier key.e (label key rank))
  within_rank t le = omega (arith, f.count, le)

  -- where no rank below t has a lift, none is next
  pub none_found : (t : ℕ) → t ≤ rank →
      NoLift (vector_of (entries key.degree (left key.e (label key rank) t))) (labels key) 0 t →
      next_rank key.e (label key rank) t ≡ None
  none_found t le h = no_next key.e (label key rank) f.is_label t [] (within_rank t le)
      (λ i lt. sym (lift_here t i (omega (arith, p.rank, lt, le))) ∙ h i (omega arith) lt)

  next_at : (t j : ℕ) → t ≤ rank → j < t →
      lift_at (vector_of (entries key.degree (left key.e (label key rank) t))) (labels key) j ≢ [] →
      NoLift (vector_of (entries key.degree (left key.e (label key rank) t))) (labels key) (j + 1) t →
      next_rank key.e (label key rank) t ≡ Some j
  next_at t j le lt ne others = next_is key.e (label key rank) f.is_label t j [] (within_rank t le) lt
      (λ z. ne (lift_here t j (omega (arith, p.rank, lt, le)) ∙ z))
      (λ i lo hi. sym (lift_here t i (omega (arith, p.rank, hi, le))) ∙ others i (omega (arith, lo)) hi)

  share_is : (t j : ℕ) → t ≤ rank → j < t → next_rank key.e (label key rank) t ≡ Some j →
      (share_at key.e (label key rank) j).1
      ≡ lift_at (vector_of (entries key.degree (left key.e (label key rank) t))) (labels key) j
  share_is t j le lt h =
      ap (λ a. a.1) (next_share_at key.e (label key rank) f.is_label t j [] (within_rank t le) h)
      ∙ sym (lift_here t j (omega (arith, p.rank, lt, le)))

  -- the last rank below t that has a lift is next, with this share
  pub some_found : (t limit : ℕ) (s : Share) → t ≤ rank →
      IsLastLift (vector_of (entries key.degree (left key.e (label key rank) t))) (labels key) t limit s →
      IsNextShare key.e (label key rank) t s
  some_found t limit s le h =
      let next = next_at t s.rank le h.below (λ z. h.nonzero (h.alpha ∙ z)) h.others in
      record { rank = next; alpha = h.alpha ∙ sym (share_is t s.rank le h.below next) }

  -- where this lift is too large, the share is past the limit
  pub large_found : (t j : ℕ) → t ≤ rank →
      IsLargeLift (vector_of (entries key.degree (left key.e (label key rank) t))) (labels key) t key.limit j →
      share_past key.e key.limit (label key rank) (next_rank key.e (label key rank) t) ≡ true
  unfolding share_past
  large_found t j le h =
      ap (share_past key.e key.limit (label key rank)) next
      ∙ lt-ltb key.limit (size (share_at key.e (label key rank) j).1)
      (subst (λ q. key.limit < size q) (sym (share_is t j le h.below next)) h.large)
    where
      some : lift_at (vector_of (entries key.degree (left key.e (label key rank) t))) (labels key) j ≢ []
      some z = absurd (let w : key.limit < size [] = subst (λ q. key.limit < size q) z h.large in omega (arith, w))

      next : next_rank key.e (label key rank) t ≡ Some j
      next = next_at t j le h.below some h.others

-- ---- with a next share within the limit nothing is past it

-- where none is next, the rank isn't past the limit
pub none_undecided : (key : Key) (mu : List ℕ) (t : ℕ) → IsWithin key mu t → next_rank key.e mu t ≡ None →
    is_past key.e key.limit mu t ≡ false
unfolding share_past
none_undecided key mu t h n = h ∙ ap (share_past key.e key.limit mu) n

-- nor where the next share is within it
pub some_undecided : (key : Key) (mu : List ℕ) (t j : ℕ) → IsWithin key mu t → next_rank key.e mu t ≡ Some j →
    size (share_at key.e mu j).1 ≤ key.limit → is_past key.e key.limit mu t ≡ false
unfolding share_past
some_undecided key mu t j h n le =
    h ∙ ap (share_past key.e key.limit mu) n ∙ le-ltb key.limit (size (share_at key.e mu j).1) le

-- ---- what the search makes of a builder

-- the vector and the list that were searched are those of the builder
module _ (key : Key) (rank t : ℕ) (slots : TallyValue) (rs : List (List ℕ)) (p : IsProgress (progress key rank t))
    (w : IsWithin key (label key rank) t) (is : slots ≡ tally_at key (label key rank) t) (same : rs ≡ labels key) where
  abbrev read : (Vector → List (List ℕ) → Type 0) → Type 0
  read P = P (vector_of slots.vector.entries) rs

  here : (P : Vector → List (List ℕ) → Type 0) → read P →
      P (vector_of (entries key.degree (left key.e (label key rank) t))) (labels key)
  here P h =
      subst (P (vector_of (entries key.degree (left key.e (label key rank) t)))) same
      (subst (λ (s : TallyValue). P (vector_of s.vector.entries) rs) is h)

  -- where no rank has a lift in the slots, none is next
  pub none_next : NoLift (vector_of slots.vector.entries) rs 0 t → next_rank key.e (label key rank) t ≡ None
  none_next h = none_found key rank p.place t p.reached (here (λ v xs. NoLift v xs 0 t) h)

  -- a share found in the slots leaves the builder open
  pub open_found : (kept : Unfinished) → kept.slots ≡ slots →
      kept.shares.items ≡ given_shares key.e (label key rank) t →
      IsLastLift (vector_of slots.vector.entries) rs t key.limit kept.next → IsOpen key (label key rank) t kept
  open_found kept own shares h = record {
    undecided =
        some_undecided key (label key rank) t kept.next.rank w n.rank (subst (λ q. size q ≤ key.limit) n.alpha h.fits);
    left = own ∙ is;
    shares = shares;
    rank = n.rank;
    alpha = n.alpha;
  }
    where
      n : IsNextShare key.e (label key rank) t kept.next
      n = some_found key rank p.place t key.limit kept.next p.reached
          (here (λ v xs. IsLastLift v xs t key.limit kept.next) h)

  -- a lift that is too large puts the rank past the limit
  pub past_found : (j : ℕ) × IsLargeLift (vector_of slots.vector.entries) rs t key.limit j →
      is_past key.e key.limit (label key rank) t ≡ true
  past_found (j, large) =
      w ∙ large_found key rank p.place t j p.reached (here (λ v xs. IsLargeLift v xs t key.limit j) large)
