-- A loop that adds a term's multiple of a polynomial to another, term by term, in place.
use Rattle.std.proofs.Common.{◌≡◌, ℕ, ◌+◌, ◌*◌, ◌<◌, ◌≤◌, [], ◌∷◌, ◌++◌, map, take, length, get_or, sym, ◌∙◌, ap}
use Rattle.std.proofs.Common.{subst, append_assoc, mul-le-mul_left, arith, ℤ, ◌+ℤ◌, ◌*ℤ◌, ◌<ℤ◌, ◌≤ℤ◌}
use Rattle.std.proofs.lemmas.Int.{ints, unsigned_abs-mul}
use Rattle.std.proofs.lemmas.List.{append-nil, map-append, take_more, take_all, get_or_default}
use Rattle.std.proofs.lemmas.List.Sums.{sum_by_more_le}
use Rattle.std.specs.Int.RustNames.{unsigned_abs}
use Rattle.std.specs.List.{AllByRecursion}
use Rattle.sp_defs.specs.Laurent.{Laurent, Term, IsLaurent, add_term, collect, plus, products, times, size}
use Rattle.sp_lists.proofs.Places.{all_weaken}
use Rattle.sp_algebra.proofs.Coefficients.{Canonical, IsLaurent-collect}
use Rattle.sp_algebra.proofs.Places.{powers_ascend}
use Rattle.sp_algebra.proofs.Sizes.{size-append, size_collect, size-multiples}
use Rattle.sp_algebra.proofs.Steps.{collect-push, collect-part}

-- each term of q times the term s
abbrev pub multiples : Term → Laurent → Laurent
multiples s q = map (λ t. (s.0 +ℤ t.0, s.1 *ℤ t.1)) q

-- a first part, and the next term, are at most the whole
pub size-take_next : (p : Laurent) (i : ℕ) (d : Term) → i < length p
    → size (take i p) + unsigned_abs (get_or p i d).1 ≤ size p
size-take_next p i d lt = sum_by_more_le (λ t. unsigned_abs t.1) p i d lt

-- `terms` has the first i multiples beside what was there, and every later one belongs behind the place
pub record IsAdding (old : Laurent) (s : Term) (others terms : Laurent) (place i : ℕ) : Type 0 where
  pub is : terms ≡ collect (old ++ multiples s (take i others))
  pub within : place ≤ length terms
  pub low : (j : ℕ) (d : Term) → i ≤ j → j < length others
      → AllByRecursion (λ t. t.0 <ℤ (s.0 +ℤ (get_or others j d).0)) (take place terms)

-- before the first multiple
pub adding_none : (old : Laurent) (s : Term) (others : Laurent) → IsLaurent old → IsAdding old s others old 0 0
adding_none old s others h = record {
  is = sym (ap collect (append-nil old) ∙ h);
  within = omega arith;
  low = λ j d le lt. tt;
}

module _ (old : Laurent) (s : Term) (others terms : Laurent) (place i : ℕ) (d : Term)
    (h : IsAdding old s others terms place i) where
  -- what was added up so far is a polynomial
  pub adding_laurent : IsLaurent terms
  adding_laurent = subst IsLaurent (sym h.is) (IsLaurent-collect (old ++ multiples s (take i others)))

  -- where the whole sum has a size below n, so has the sum with the next multiple
  pub adding_fits : (n : ℕ) → i < length others → size old + unsigned_abs s.1 * size others < n
      → size terms + unsigned_abs (s.1 *ℤ (get_or others i d).1) < n
  adding_fits n lt fits =
      omega (
        arith,
        ap size h.is,
        size_collect (old ++ multiples s (take i others)),
        size-append old (multiples s (take i others)),
        size-multiples s.0 s.1 (take i others),
        unsigned_abs-mul s.1 (get_or others i d).1,
        mul-le-mul_left (unsigned_abs s.1) (size-take_next others i d lt),
      )

  -- one more multiple, added at the place of its power
  pub adding_more : (terms' : Laurent) (place' : ℕ) → i < length others → Canonical others
      → terms' ≡ add_term (s.0 +ℤ (get_or others i d).0) (s.1 *ℤ (get_or others i d).1) terms
      → place' ≤ length terms'
      → AllByRecursion (λ t. t.0 ≤ℤ (s.0 +ℤ (get_or others i d).0)) (take place' terms')
      → IsAdding old s others terms' place' (i + 1)
  adding_more terms' place' lt ascending added within low = record {
    is =
        added ∙ ap (add_term k c) h.is ∙ sym (collect-push (old ++ multiples s (take i others)) k c)
        ∙ ap collect (append_assoc old (multiples s (take i others)) ((k, c) ∷ [])
        ∙ ap (λ q. old ++ q) (sym (map-append (λ t. (s.0 +ℤ t.0, s.1 *ℤ t.1)) (take i others)
        (get_or others i d ∷ [])) ∙ ap (multiples s) (sym (take_more others i d lt))));
    within = within;
    low = λ j e le in_range.
        all_weaken (λ t. t.0 ≤ℤ k) (λ t. t.0 <ℤ (s.0 +ℤ (get_or others j e).0)) (take place' terms')
        (λ t below. omega (
          arith,
          ints,
          powers_ascend others ascending i j e (omega arith) in_range,
          ap (λ (u : Term). u.0) (get_or_default others i d e lt),
        ))
        low;
  }
    where
      k : ℤ
      k = s.0 +ℤ (get_or others i d).0

      c : ℤ
      c = s.1 *ℤ (get_or others i d).1

-- after the last multiple
pub adding_all : (old : Laurent) (s : Term) (others terms : Laurent) (place i : ℕ) → length others ≤ i
    → IsAdding old s others terms place i → terms ≡ plus old (times (s ∷ []) others)
unfolding plus times products
adding_all old s others terms place i le h =
    h.is ∙ ap (λ q. collect (old ++ multiples s q)) (take_all i others le)
    ∙ sym (collect-part old (multiples s others ++ [])
    ∙ ap (λ q. collect (old ++ q)) (append-nil (multiples s others)))
