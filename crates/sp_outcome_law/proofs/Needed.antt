-- The list of the needed partitions: it has mu, it is closed under shares, and each of its partitions is needed.
use Rattle.std.proofs.Common.{◌≡◌, ◌≢◌, ℕ, Bool, true, false, cond, nat_lt, List, [], ◌∷◌, length, map}
use Rattle.std.proofs.Common.{refl, sym, ◌∙◌, ap, subst, ◌⊎◌, inl, inr, Less, is_eq, is_lt, Ordering}
use Rattle.std.proofs.Common.{Equal, Greater}
use Rattle.std.specs.List.{AllByRecursion, list_any}
use Rattle.sp_defs.specs.Partition.{degree, regulars, compare, Ascending}
use Rattle.sp_defs.specs.Power.{vector_of}
use Rattle.sp_defs.specs.Row.{Factors, before, earlier, shares, share, IsNeeded, needed_among, needed}
use Rattle.sp_defs.specs.Row.IsNeeded.{itself, through}
use Rattle.sp_shapes.proofs.Order.{same_lists, equal_self, less_trans}
use Rattle.sp_shapes.proofs.Before.{all_before, before_before}
use Rattle.sp_row_law.proofs.Setting.{Good, good_earlier, earlier_ascends}
use Rattle.sp_outcome_law.specs.Needed.{NeededLaw}
use Rattle.sp_outcome_law.proofs.Ranks.{keys}
use Rattle.sp_outcome_law.proofs.Listed.{nonempty, has_element}
use Rattle.sp_lists.proofs.Occurrence.{Occurs, at_occurs, some_passes, passing, from_filter, contains, occurs}

-- ---- a needed partition's shares are needed

-- What a needed partition has a share of is needed.
pub needed_further : (e : ℕ) (kappa nu mu : List ℕ) → IsNeeded e kappa mu → share e kappa nu ≢ [] → IsNeeded e nu mu
needed_further e kappa nu mu itself ne = through mu nu ne itself
needed_further e kappa nu mu (through mu' x nz h) ne = through mu' x nz (needed_further e kappa nu x h ne)

-- ---- a share that isn't 0 belongs to an earlier regular partition

occurs_of : (fs : Factors) (nu : List ℕ) → vector_of fs nu ≢ [] → Occurs nu (map (λ f. f.0) fs)
unfolding vector_of
occurs_of [] nu ne = absurd (ne refl)
occurs_of ((kappa, p) ∷ fs) nu ne = placed (compare kappa nu) refl (occurs_of fs nu) ne
  where
    placed : (o : Ordering) → compare kappa nu ≡ o → (vector_of fs nu ≢ [] → Occurs nu (map (λ f. f.0) fs)) →
        cond (is_eq o) p (vector_of fs nu) ≢ [] → (nu ≡ kappa) ⊎ Occurs nu (map (λ f. f.0) fs)
    placed Equal q ih ne = inl (sym (same_lists kappa nu q))
    placed Less q ih ne = inr (ih ne)
    placed Greater q ih ne = inr (ih ne)

-- A partition with a share is one of the earlier ones.
pub share_occurs : (e : ℕ) (mu nu : List ℕ) → share e mu nu ≢ [] → Occurs nu (earlier e mu)
share_occurs e mu nu ne = subst (Occurs nu) (keys e mu) (occurs_of (shares e mu) nu ne)

share_earlier : (e : ℕ) (mu nu : List ℕ) → share e mu nu ≢ [] → compare nu mu ≡ Less
share_earlier e mu nu ne = at_occurs (λ x. compare x mu ≡ Less) nu (earlier e mu) (share_occurs e mu nu ne)
    (all_before mu (regulars e (degree mu)))

-- those earlier than an earlier one are earlier
earlier_earlier : (e : ℕ) (mu x nu : List ℕ) → Occurs x (earlier e mu) → Occurs nu (earlier e x) →
    Occurs nu (earlier e mu)
earlier_earlier e mu x nu o h =
    (from_filter (λ y. is_lt (compare y x)) nu (earlier e mu)
    (subst (Occurs nu) (ap (λ n. before x (regulars e n)) same_degree ∙ sym (before_before x mu rs lower)) h)).0
  where
    rs : List (List ℕ)
    rs = regulars e (degree mu)

    lower : compare x mu ≡ Less
    lower = at_occurs (λ y. compare y mu ≡ Less) x (earlier e mu) o (all_before mu rs)

    same_degree : degree x ≡ degree mu
    same_degree = (at_occurs (Good e mu) x (earlier e mu) o (good_earlier e mu)).total

-- ---- one partition more

known_or : (b : Bool) (x y : List ℕ) (known : List (List ℕ)) → Occurs x (cond b (y ∷ known) known) →
    (x ≡ y) ⊎ Occurs x known
known_or true x y known o = o
known_or false x y known o = inr o

kept : (b : Bool) (x y : List ℕ) (known : List (List ℕ)) → Occurs x known → Occurs x (cond b (y ∷ known) known)
kept true x y known o = inr o
kept false x y known o = o

abbrev has_share : ℕ → List ℕ → List ℕ → Bool
has_share e nu k = nat_lt 0 (length (share e k nu))

-- mu is in the list
pub own : (e : ℕ) (mu : List ℕ) (seg : List (List ℕ)) → Occurs mu (needed_among e mu seg)
unfolding needed_among
own e mu [] = inl refl
own e mu (y ∷ later) =
    kept (list_any (has_share e y) (needed_among e mu later)) mu y (needed_among e mu later) (own e mu later)

-- the others are of the segment
within : (e : ℕ) (mu x : List ℕ) (seg : List (List ℕ)) → Occurs x (needed_among e mu seg) → Occurs x (mu ∷ seg)
unfolding needed_among
within e mu x [] o = o
within e mu x (y ∷ later) o =
    settle (within e mu x later)
    (known_or (list_any (has_share e y) (needed_among e mu later)) x y (needed_among e mu later) o)
  where
    settle : (Occurs x (needed_among e mu later) → Occurs x (mu ∷ later)) →
        (x ≡ y) ⊎ Occurs x (needed_among e mu later) → Occurs x (mu ∷ y ∷ later)
    settle ih (inl s) = inr (inl s)
    settle ih (inr k) = moved (ih k)
      where
        moved : Occurs x (mu ∷ later) → Occurs x (mu ∷ y ∷ later)
        moved (inl s) = inl s
        moved (inr w) = inr (inr w)

-- ---- each of the list is needed

sound : (e : ℕ) (mu : List ℕ) (seg : List (List ℕ)) → AllByRecursion (λ k. IsNeeded e k mu) (needed_among e mu seg)
unfolding needed_among
sound e mu [] = (itself, tt)
sound e mu (y ∷ later) = tested (list_any (has_share e y) known) refl (sound e mu later)
  where
    known : List (List ℕ)
    known = needed_among e mu later

    by : (k : List ℕ) × Occurs k known × (has_share e y k ≡ true) → AllByRecursion (λ k. IsNeeded e k mu) known →
        IsNeeded e y mu
    by (k, o, s) h = needed_further e k y mu (at_occurs (λ k. IsNeeded e k mu) k known o h) (nonempty (share e k y) s)

    tested : (b : Bool) → list_any (has_share e y) known ≡ b → AllByRecursion (λ k. IsNeeded e k mu) known →
        AllByRecursion (λ k. IsNeeded e k mu) (cond b (y ∷ known) known)
    tested true w h = (by (passing (has_share e y) known w) h, h)
    tested false w h = h

-- ---- the list is closed under shares

closed : (e : ℕ) (mu x nu : List ℕ) (seg : List (List ℕ)) → Ascending seg → Occurs x (needed_among e mu seg) →
    Occurs nu seg → share e x nu ≢ [] → Occurs nu (needed_among e mu seg)
unfolding needed_among
closed e mu x nu [] up o k ne = absurd k
closed e mu x nu (y ∷ later) (u, us) o k ne =
    settle (closed e mu x nu later us) (known_or (list_any (has_share e y) known) x y known o) k
  where
    known : List (List ℕ)
    known = needed_among e mu later

    not_itself : (z : List ℕ) → compare z z ≢ Less
    not_itself z h = let w : Equal ≡ Less = sym (equal_self z) ∙ h in cc

    lower : compare nu x ≡ Less
    lower = share_earlier e x nu ne

    settle : (Occurs x known → Occurs nu later → share e x nu ≢ [] → Occurs nu known) →
        (x ≡ y) ⊎ Occurs x known → (nu ≡ y) ⊎ Occurs nu later →
        Occurs nu (cond (list_any (has_share e y) known) (y ∷ known) known)
    settle ih (inl s) (inl w) = absurd (not_itself x (subst (λ z. compare z x ≡ Less) (w ∙ sym s) lower))
    settle ih (inl s) (inr w) = absurd
        (not_itself x
        (less_trans x nu x (subst (λ z. compare z nu ≡ Less) (sym s) (at_occurs (λ z. compare y z ≡ Less) nu later w u))
        lower))
    settle ih (inr h) (inl w) =
        let found : list_any (has_share e y) known ≡ true =
        some_passes (has_share e y) x known h (subst (λ z. has_share e z x ≡ true) w (has_element (share e x nu) ne)) in
        subst (λ b. Occurs nu (cond b (y ∷ known) known)) (sym found) (inl w)
    settle ih (inr h) (inr w) = kept (list_any (has_share e y) known) nu y known (ih h w ne)

closed_under : (e : ℕ) (mu x nu : List ℕ) → Occurs x (needed e mu) → share e x nu ≢ [] → Occurs nu (needed e mu)
closed_under e mu x nu o ne =
    closed e mu x nu (earlier e mu) (earlier_ascends e mu) o
    (place (within e mu x (earlier e mu) o)) ne
  where
    place : Occurs x (mu ∷ earlier e mu) → Occurs nu (earlier e mu)
    place (inl s) = subst (λ z. Occurs nu (earlier e z)) s (share_occurs e x nu ne)
    place (inr w) = earlier_earlier e mu x nu w (share_occurs e x nu ne)

complete : (e : ℕ) (kappa mu x : List ℕ) → IsNeeded e kappa x → Occurs x (needed e mu) → Occurs kappa (needed e mu)
complete e kappa mu x itself o = o
complete e kappa mu x (through x' nu ne h) o = complete e kappa mu nu h (closed_under e mu x' nu o ne)

-- ---- the law

-- A needed partition is in the list.
pub listed : (e : ℕ) (mu kappa : List ℕ) → IsNeeded e kappa mu → Occurs kappa (needed e mu)
listed e mu kappa h = complete e kappa mu mu h (own e mu (earlier e mu))

-- Each of the list is needed.
pub is_needed : (e : ℕ) (mu kappa : List ℕ) → Occurs kappa (needed e mu) → IsNeeded e kappa mu
is_needed e mu kappa o = at_occurs (λ k. IsNeeded e k mu) kappa (needed e mu) o (sound e mu (earlier e mu))

-- The list has exactly those that are needed.
pub needed_law : NeededLaw
needed_law e mu kappa = (
  (λ h. is_needed e mu kappa (occurs kappa (needed e mu) h)),
  (λ h. contains kappa (needed e mu) (listed e mu kappa h)),
)
