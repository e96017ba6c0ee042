-- One step of the walk along two lists, as code takes it: by what stands at the head of each.
use Rattle.std.proofs.Common.{
  ◌≡◌,
  ℕ,
  List,
  [],
  ◌∷◌,
  length,
  refl,
  sym,
  ◌∙◌,
  ap,
  ap₂,
  arith,
  Ordering,
  Less,
  Equal,
  Greater,
}
use Rattle.std.specs.Ordering.{match_ordering}
use Rattle.sp_defs.specs.Partition.{compare}
use Rattle.sp_defs.specs.Laurent.{Laurent}
use Rattle.sp_defs.specs.Power.{Entries}
use Rattle.sp_fock_law.specs.Joined.{Joint, joint, joined, joined_from}

abbrev Entry : Type 0
Entry = List ℕ × Laurent

nothing : (es : Entries) → length es ≡ 0 → es ≡ []
nothing [] h = refl
nothing (e ∷ es) h = absurd (omega arith)

-- where both lists are empty, nothing is to come
pub joined-none : (es fs : Entries) → length es ≡ 0 → length fs ≡ 0 → joined es fs ≡ []
unfolding joined
joined-none es fs h k = ap₂ joined (nothing es h) (nothing fs k)

-- where the second list is empty, the first entry of the first comes
pub joined-no_second : (es fs : Entries) (e : Entry) (rest : Entries) → es ≡ e ∷ rest → length fs ≡ 0
    → joined es fs ≡ joint e.0 e.1 [] ∷ joined rest fs
unfolding joined joined_from
joined-no_second es fs e rest h k =
    ap₂ joined h (nothing fs k) ∙ ap (λ xs. joint e.0 e.1 [] ∷ joined rest xs) (sym (nothing fs k))

-- where the first list is empty, the first entry of the second comes
pub joined-no_first : (es fs : Entries) (f : Entry) (rest : Entries) → length es ≡ 0 → fs ≡ f ∷ rest
    → joined es fs ≡ joint f.0 [] f.1 ∷ joined es rest
unfolding joined
joined-no_first es fs f rest h k =
    ap₂ joined (nothing es h) k ∙ ap (λ xs. joint f.0 [] f.1 ∷ joined xs rest) (sym (nothing es h))

-- the walk, by the order of the first partitions
abbrev by_order : Ordering → Entry → Entries → Entry → Entries → List Joint
by_order o e es f fs =
    match_ordering o (joint e.0 e.1 [] ∷ joined es (f ∷ fs)) (joint e.0 e.1 f.1 ∷ joined es fs)
    (joint f.0 [] f.1 ∷ joined_from e (joined es) fs)

joined-ordered : (es fs : Entries) (e f : Entry) (es' fs' : Entries) (o : Ordering) → es ≡ e ∷ es' → fs ≡ f ∷ fs'
    → compare e.0 f.0 ≡ o → joined es fs ≡ by_order o e es' f fs'
unfolding joined joined_from
joined-ordered es fs e f es' fs' o h k c = ap₂ joined h k ∙ ap (λ o. by_order o e es' f fs') c

-- the first list's first entry comes alone where it is earlier
pub joined-less : (es fs : Entries) (e f : Entry) (es' fs' : Entries) → es ≡ e ∷ es' → fs ≡ f ∷ fs'
    → compare e.0 f.0 ≡ Less → joined es fs ≡ joint e.0 e.1 [] ∷ joined es' fs
joined-less es fs e f es' fs' h k c =
    joined-ordered es fs e f es' fs' Less h k c ∙ ap (λ xs. joint e.0 e.1 [] ∷ joined es' xs) (sym k)

-- the first entries of both lists come together where they are at one partition
pub joined-equal : (es fs : Entries) (e f : Entry) (es' fs' : Entries) → es ≡ e ∷ es' → fs ≡ f ∷ fs'
    → compare e.0 f.0 ≡ Equal → joined es fs ≡ joint e.0 e.1 f.1 ∷ joined es' fs'
joined-equal es fs e f es' fs' h k c = joined-ordered es fs e f es' fs' Equal h k c

-- the second list's first entry comes alone where it is earlier
pub joined-greater : (es fs : Entries) (e f : Entry) (es' fs' : Entries) → es ≡ e ∷ es' → fs ≡ f ∷ fs'
    → compare e.0 f.0 ≡ Greater → joined es fs ≡ joint f.0 [] f.1 ∷ joined es fs'
unfolding joined
joined-greater es fs e f es' fs' h k c =
    joined-ordered es fs e f es' fs' Greater h k c ∙ ap (λ xs. joint f.0 [] f.1 ∷ joined xs fs') (sym h)
