-- A partition's needed ones are itself and those that the partitions with a share need.
use Rattle.std.proofs.Common.{◌≡◌, ◌≢◌, ℕ, Bool, true, cond, ◌||◌, List, [], ◌∷◌, map, refl, sym, ◌∙◌, ap, subst}
use Rattle.std.proofs.Common.{◌⊎◌, inl, inr, Less, Equal, Greater, Ordering, is_eq}
use Rattle.std.specs.List.{list_any}
use Rattle.sp_defs.specs.Partition.{compare, Ascending}
use Rattle.sp_defs.specs.Laurent.{Laurent}
use Rattle.sp_defs.specs.Power.{vector_of}
use Rattle.sp_defs.specs.Row.{Factors, earlier, shares, share, IsNeeded, needed}
use Rattle.sp_defs.specs.Row.IsNeeded.{itself, through}
use Rattle.sp_shapes.proofs.Order.{same_lists, equal_self}
use Rattle.sp_row_law.proofs.Setting.{earlier_ascends}
use Rattle.sp_outcome_law.specs.Asking.{is_nonzero, given}
use Rattle.sp_outcome_law.proofs.Listed.{nonempty, has_element}
use Rattle.sp_outcome_law.proofs.Ranks.{keys}
use Rattle.sp_outcome_law.proofs.Needed.{listed, is_needed, own}
use Rattle.std.proofs.lemmas.Bool.{or_cases, or_left, or_right}
use Rattle.sp_lists.proofs.Occurrence.{Occurs, at_occurs, occurs_map, occurs_filter, some_passes, passing}
use Rattle.sp_lists.proofs.Occurrence.{from_filter}
use Rattle.sp_lists.proofs.Elements.{same_tests}

-- ---- entries and the vector that they give

abbrev entry : List ℕ → Laurent → List ℕ × Laurent
entry nu p = (nu, p)

entry_occurs : (fs : Factors) (nu : List ℕ) → vector_of fs nu ≢ [] → Occurs (entry nu (vector_of fs nu)) fs
unfolding vector_of
entry_occurs [] nu ne = absurd (ne refl)
entry_occurs ((kappa, p) ∷ fs) nu ne = placed (compare kappa nu) refl (entry_occurs fs nu) ne
  where
    placed : (o : Ordering) → compare kappa nu ≡ o → (vector_of fs nu ≢ [] → Occurs (entry nu (vector_of fs nu)) fs) →
        cond (is_eq o) p (vector_of fs nu) ≢ [] →
        (entry nu (cond (is_eq o) p (vector_of fs nu)) ≡ entry kappa p)
        ⊎ Occurs (entry nu (cond (is_eq o) p (vector_of fs nu))) fs
    placed Equal q ih ne = inl (ap (λ x. entry x p) (sym (same_lists kappa nu q)))
    placed Less q ih ne = inr (ih ne)
    placed Greater q ih ne = inr (ih ne)

entry_value : (fs : Factors) (a : List ℕ × Laurent) → Ascending (map (λ f. f.0) fs) → Occurs a fs →
    vector_of fs a.0 ≡ a.1
unfolding vector_of
entry_value [] a up o = absurd o
entry_value ((kappa, p) ∷ fs) a (u, us) (inl e) =
    ap (λ b. cond (is_eq (compare kappa b.0)) p (vector_of fs b.0)) e
    ∙ ap (λ q. cond (is_eq q) p (vector_of fs kappa)) (equal_self kappa)
    ∙ ap (λ b. b.1) (sym e)
entry_value ((kappa, p) ∷ fs) a (u, us) (inr o) =
    ap (λ q. cond (is_eq q) p (vector_of fs a.0)) earlier_key ∙ entry_value fs a us o
  where
    earlier_key : compare kappa a.0 ≡ Less
    earlier_key = at_occurs (λ x. compare kappa x ≡ Less) a.0 (map (λ f. f.0) fs) (occurs_map (λ f. f.0) a fs o) u

-- ---- the shares that are not 0

share_given : (e : ℕ) (mu nu : List ℕ) → share e mu nu ≢ [] → Occurs (entry nu (share e mu nu)) (given e mu 0)
unfolding given
share_given e mu nu ne = occurs_filter is_nonzero (entry nu (share e mu nu)) (shares e mu)
    (has_element (share e mu nu) ne) (entry_occurs (shares e mu) nu ne)

-- a given share isn't 0
pub given_share : (e : ℕ) (mu : List ℕ) (a : List ℕ × Laurent) → Occurs a (given e mu 0) → share e mu a.0 ≢ []
unfolding given
given_share e mu a o z =
    let f = from_filter is_nonzero a (shares e mu) o in
    nonempty a.1 f.1 (sym (entry_value (shares e mu) a ascending f.0) ∙ z)
  where
    ascending : Ascending (map (λ f. f.0) (shares e mu))
    ascending = subst Ascending (sym (keys e mu)) (earlier_ascends e mu)

-- ---- the needed ones, share by share

module _ (e : ℕ) (p : List ℕ → Bool) where
  -- some partition passes that one with a given share needs
  abbrev pub some_further : List ℕ → Bool
  some_further mu = list_any (λ a. list_any p (needed e a.0)) (given e mu 0)

  split_from : (kappa mu : List ℕ) → IsNeeded e kappa mu → p kappa ≡ true → (p mu || some_further mu) ≡ true
  split_from kappa mu itself s = or_left (p kappa) (some_further kappa) s
  split_from kappa mu (through mu' nu ne h) s =
      or_right (p mu') (some_further mu')
      (some_passes (λ a. list_any p (needed e a.0)) (entry nu (share e mu' nu)) (given e mu' 0)
      (share_given e mu' nu ne) (some_passes p kappa (needed e nu) (listed e nu kappa h) s))

  -- a test of the needed ones is the test of the partition, or of those that its shares need
  pub needed_split : (mu : List ℕ) → list_any p (needed e mu) ≡ (p mu || some_further mu)
  needed_split mu = same_tests (list_any p (needed e mu)) (p mu || some_further mu)
      (λ h. from_list (passing p (needed e mu) h)) (λ h. into_list (or_cases (p mu) (some_further mu) h))
    where
      from_list : (k : List ℕ) × Occurs k (needed e mu) × (p k ≡ true) → (p mu || some_further mu) ≡ true
      from_list (k, o, s) = split_from k mu (is_needed e mu k o) s

      further : (a : List ℕ × Laurent) × Occurs a (given e mu 0) × (list_any p (needed e a.0) ≡ true) →
          list_any p (needed e mu) ≡ true
      further (a, o, s) = ending (passing p (needed e a.0) s)
        where
          ending : (k : List ℕ) × Occurs k (needed e a.0) × (p k ≡ true) → list_any p (needed e mu) ≡ true
          ending (k, w, t) = some_passes p k (needed e mu)
              (listed e mu k (through mu a.0 (given_share e mu a o) (is_needed e a.0 k w))) t

      into_list : (p mu ≡ true) ⊎ (some_further mu ≡ true) → list_any p (needed e mu) ≡ true
      into_list (inl s) = some_passes p mu (needed e mu) (own e mu (earlier e mu)) s
      into_list (inr s) = further (passing (λ a. list_any p (needed e a.0)) (given e mu 0) s)
