-- A list of partitions cut at one of them: those before it, and those after it.
use Rattle.std.proofs.Common.{◌≡◌, ℕ, Bool, true, false, cond, List, [], ◌∷◌, ◌++◌, filter, refl, sym, ◌∙◌, ap, ap₂}
use Rattle.std.proofs.Common.{subst, inl, inr, Ordering, Less, Equal, Greater, is_lt, is_gt}
use Rattle.std.specs.List.{AllByRecursion}
use Rattle.sp_defs.specs.Partition.{compare, Ascending}
use Rattle.sp_defs.specs.Row.{before}
use Rattle.sp_shapes.proofs.Order.{later_than, less_trans, equal_self}
use Rattle.sp_shapes.proofs.Listing.{Occurs, at_occurs}

-- ---- one element more in front

-- an earlier partition in front stays
pub before_keep : (nu kappa : List ℕ) (seg : List (List ℕ)) → compare nu kappa ≡ Less →
    before kappa (nu ∷ seg) ≡ nu ∷ before kappa seg
before_keep nu kappa seg h = ap (λ o. cond (is_lt o) (nu ∷ before kappa seg) (before kappa seg)) h

-- one that is not earlier goes
pub before_skip : (nu kappa : List ℕ) (seg : List (List ℕ)) (o : Ordering) → compare nu kappa ≡ o → is_lt o ≡ false →
    before kappa (nu ∷ seg) ≡ before kappa seg
before_skip nu kappa seg o h n =
    ap (λ o. cond (is_lt o) (nu ∷ before kappa seg) (before kappa seg)) h
    ∙ ap (λ b. cond b (nu ∷ before kappa seg) (before kappa seg)) n

-- ---- nothing before the first

-- where it is earlier than all of the list, nothing is before it
pub before_none : (nu : List ℕ) (seg : List (List ℕ)) → AllByRecursion (λ kappa. compare nu kappa ≡ Less) seg →
    before nu seg ≡ []
before_none nu [] h = refl
before_none nu (kappa ∷ seg) (h, hs) =
    before_skip kappa nu seg Greater (later_than nu kappa h) refl ∙ before_none nu seg hs

-- so too where it stands in front
pub before_self : (nu : List ℕ) (seg : List (List ℕ)) → AllByRecursion (λ kappa. compare nu kappa ≡ Less) seg →
    before nu (nu ∷ seg) ≡ []
before_self nu seg h = before_skip nu nu seg Equal (equal_self nu) refl ∙ before_none nu seg h

-- earlier partitions in front stay in front
pub before_after : (kappa : List ℕ) (lower seg : List (List ℕ)) →
    AllByRecursion (λ nu. compare nu kappa ≡ Less) lower → before kappa (lower ++ seg) ≡ lower ++ before kappa seg
before_after kappa [] seg h = refl
before_after kappa (nu ∷ lower) seg (h, hs) =
    before_keep nu kappa (lower ++ seg) h ∙ ap (λ r. nu ∷ r) (before_after kappa lower seg hs)

-- ---- what holds of those before

-- each of them is earlier
pub all_before : (mu : List ℕ) (rs : List (List ℕ)) → AllByRecursion (λ nu. compare nu mu ≡ Less) (before mu rs)
all_before mu [] = tt
all_before mu (nu ∷ rs) = placed (compare nu mu) refl (all_before mu rs)
  where
    placed : (o : Ordering) → compare nu mu ≡ o → AllByRecursion (λ nu. compare nu mu ≡ Less) (before mu rs) →
        AllByRecursion (λ nu. compare nu mu ≡ Less) (cond (is_lt o) (nu ∷ before mu rs) (before mu rs))
    placed Less e rest = (e, rest)
    placed Equal e rest = rest
    placed Greater e rest = rest

-- what holds of all holds of them
pub all_kept : (P : List ℕ → Type 0) (mu : List ℕ) (rs : List (List ℕ)) → AllByRecursion P rs →
    AllByRecursion P (before mu rs)
all_kept P mu [] h = tt
all_kept P mu (nu ∷ rs) (h, hs) = tested (is_lt (compare nu mu)) (all_kept P mu rs hs)
  where
    tested : (b : Bool) → AllByRecursion P (before mu rs) →
        AllByRecursion P (cond b (nu ∷ before mu rs) (before mu rs))
    tested true rest = (h, rest)
    tested false rest = rest

-- they ascend, as the list does
pub Ascending-before : (mu : List ℕ) (rs : List (List ℕ)) → Ascending rs → Ascending (before mu rs)
Ascending-before mu [] h = tt
Ascending-before mu (nu ∷ rs) (h, hs) = tested (is_lt (compare nu mu)) (Ascending-before mu rs hs)
  where
    tested : (b : Bool) → Ascending (before mu rs) → Ascending (cond b (nu ∷ before mu rs) (before mu rs))
    tested true rest = (all_kept (λ x. compare nu x ≡ Less) mu rs h, rest)
    tested false rest = rest

-- those before kappa are before mu, where kappa is
pub before_before : (kappa mu : List ℕ) (rs : List (List ℕ)) → compare kappa mu ≡ Less →
    before kappa (before mu rs) ≡ before kappa rs
before_before kappa mu [] h = refl
before_before kappa mu (nu ∷ rs) h = placed (compare nu mu) refl (before_before kappa mu rs h)
  where
    -- what is not before mu is not before kappa
    skip : (o : Ordering) → compare nu mu ≡ o → is_lt o ≡ false → before kappa rs ≡ before kappa (nu ∷ rs)
    skip o e n = by_kappa (compare nu kappa) refl
      where
        by_kappa : (q : Ordering) → compare nu kappa ≡ q →
            before kappa rs ≡ cond (is_lt q) (nu ∷ before kappa rs) (before kappa rs)
        by_kappa Less w =
            let t : compare nu mu ≡ Less = less_trans nu kappa mu w h in
            let y : true ≡ false = ap is_lt (sym t ∙ e) ∙ n in
            absurd (cc)
        by_kappa Equal w = refl
        by_kappa Greater w = refl

    placed : (o : Ordering) → compare nu mu ≡ o → before kappa (before mu rs) ≡ before kappa rs →
        before kappa (cond (is_lt o) (nu ∷ before mu rs) (before mu rs)) ≡ before kappa (nu ∷ rs)
    placed Less e ih = ap (λ w. cond (is_lt (compare nu kappa)) (nu ∷ w) w) ih
    placed Equal e ih = ih ∙ skip Equal e refl
    placed Greater e ih = ih ∙ skip Greater e refl

-- ---- those after

-- The partitions of a list that are later than mu.
abbrev pub after : List ℕ → List (List ℕ) → List (List ℕ)
after mu rs = filter (λ nu. is_gt (compare nu mu)) rs

after_all : (mu : List ℕ) (rs : List (List ℕ)) → AllByRecursion (λ nu. compare mu nu ≡ Less) rs → after mu rs ≡ rs
after_all mu [] h = refl
after_all mu (nu ∷ rs) (h, hs) =
    ap (λ o. cond (is_gt o) (nu ∷ after mu rs) (after mu rs)) (later_than mu nu h)
    ∙ ap (λ r. nu ∷ r) (after_all mu rs hs)

-- what holds of all holds of them
pub kept_after : (P : List ℕ → Type 0) (mu : List ℕ) (rs : List (List ℕ)) → AllByRecursion P rs →
    AllByRecursion P (after mu rs)
kept_after P mu [] h = tt
kept_after P mu (nu ∷ rs) (h, hs) = tested (is_gt (compare nu mu)) (kept_after P mu rs hs)
  where
    tested : (b : Bool) → AllByRecursion P (after mu rs) → AllByRecursion P (cond b (nu ∷ after mu rs) (after mu rs))
    tested true rest = (h, rest)
    tested false rest = rest

-- ---- the list is those before, the partition itself, and those after

-- the list in three: before mu, mu, and after mu
pub record IsCut (mu : List ℕ) (rs : List (List ℕ)) : Type 0 where
  pub whole : rs ≡ before mu rs ++ (mu ∷ after mu rs)
  pub later : AllByRecursion (λ nu. compare mu nu ≡ Less) (after mu rs)

-- a list that ascends is cut so at each of its partitions
pub about : (mu : List ℕ) (rs : List (List ℕ)) → Ascending rs → Occurs mu rs → IsCut mu rs
about mu [] up o = absurd o
about mu (y ∷ rs) (u, us) (inl e) = subst (λ w. IsCut mu (w ∷ rs)) e (record {
  whole = sym (ap₂ (λ x z. x ++ (mu ∷ z)) (before_self mu rs u') none_dropped);
  later = subst (λ z. AllByRecursion (λ nu. compare mu nu ≡ Less) z) (sym none_dropped) u';
})
  where
    u' : AllByRecursion (λ nu. compare mu nu ≡ Less) rs
    u' = subst (λ w. AllByRecursion (λ nu. compare w nu ≡ Less) rs) (sym e) u

    none_dropped : after mu (mu ∷ rs) ≡ rs
    none_dropped =
        ap (λ o. cond (is_gt o) (mu ∷ after mu rs) (after mu rs)) (equal_self mu) ∙ after_all mu rs u'
about mu (y ∷ rs) (u, us) (inr o) = one_more (about mu rs us o)
  where
    earlier : compare y mu ≡ Less
    earlier = at_occurs (λ x. compare y x ≡ Less) mu rs o u

    dropped : after mu (y ∷ rs) ≡ after mu rs
    dropped = ap (λ o. cond (is_gt o) (y ∷ after mu rs) (after mu rs)) earlier

    one_more : IsCut mu rs → IsCut mu (y ∷ rs)
    one_more c = record {
      whole = ap (λ r. y ∷ r) c.whole ∙ sym (ap₂ (λ x z. x ++ (mu ∷ z)) (before_keep y mu rs earlier) dropped);
      later = subst (λ z. AllByRecursion (λ nu. compare mu nu ≡ Less) z) (sym dropped) c.later;
    }
