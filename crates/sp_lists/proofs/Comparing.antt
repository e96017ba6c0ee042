-- Numbers and lists of numbers compared: what an answer says, and two tests of two lists, by their elements and by the
-- lexicographic order.
use Rattle.std.proofs.Common.{◌≡◌, ◌≢◌, ℕ, ◌<◌, ◌≤◌, nat_eq, Bool, true, false, not, List, refl, sym, ◌∙◌, ap, subst}
use Rattle.std.proofs.Common.{arith, Ordering, Less, Equal, Greater}
use Rattle.std.specs.Ordering.{is_eq, nat_cmp, ordering_index, ordering_reverse, MatchOrdering}
use Rattle.std.specs.Cmp.{ranks, Equal-is}
use Rattle.std.specs.Cmp.Lexicographic.{pointwise, slice_cmp, same_text, other_text}
use Rattle.std.specs.FinMap.{slice_cmp-IsAntisymmetric, nat_cmp-IsAntisymmetric}
use Rattle.std.proofs.lemmas.Cmp.{nat_list_cmp_total}
use Rattle.std.proofs.lemmas.Bool.{true_from_ne_false}
use Rattle.std.proofs.lemmas.Bool.Decides.{nat_tests}
use Rattle.sp_lists.proofs.Elements.{same_tests}

-- ---- numbers

-- what the answer of a comparison says of the two numbers
pub ranked : (a b : ℕ) (o : Ordering) → nat_cmp a b ≡ o → MatchOrdering o (a < b) (a ≡ b) (b < a)
ranked a b o e = subst (λ x. MatchOrdering x (a < b) (a ≡ b) (b < a)) e (ranks a b)

-- of two numbers the greater one has the later answer against a third
pub comparison_rises : (a b n : ℕ) → a ≤ b → ordering_index (nat_cmp a n) ≤ ordering_index (nat_cmp b n)
comparison_rises a b n le = grind (arith, nat_tests)

-- ---- lists

-- a list equals itself in the order
pub equal_self : (xs : List ℕ) → slice_cmp nat_cmp xs xs ≡ Equal
equal_self xs = own (slice_cmp nat_cmp xs xs) (nat_list_cmp_total.antisymm xs xs)
  where
    own : (o : Ordering) → o ≡ ordering_reverse o → o ≡ Equal
    own Less e = absurd (cc)
    own Equal e = refl
    own Greater e = absurd (cc)

-- so equal lists pass its test
pub test_same : (xs ys : List ℕ) → xs ≡ ys → is_eq (slice_cmp nat_cmp xs ys) ≡ true
test_same xs ys e = ap is_eq (subst (λ zs. slice_cmp nat_cmp xs zs ≡ Equal) e (equal_self xs))

-- Two lists have the same elements exactly where neither is before the other.
pub same_equality : (xs ys : List ℕ) → pointwise nat_eq xs ys ≡ is_eq (slice_cmp nat_cmp xs ys)
same_equality xs ys = same_tests (pointwise nat_eq xs ys) (is_eq (slice_cmp nat_cmp xs ys)) one_way other_way
  where
    one_way : pointwise nat_eq xs ys ≡ true → is_eq (slice_cmp nat_cmp xs ys) ≡ true
    one_way e = test_same xs ys (same_text xs ys (sym e))

    other_way : is_eq (slice_cmp nat_cmp xs ys) ≡ true → pointwise nat_eq xs ys ≡ true
    other_way e =
        true_from_ne_false (pointwise nat_eq xs ys) (λ h. other_text xs ys (sym h)
        (slice_cmp-IsAntisymmetric nat_cmp-IsAntisymmetric xs ys ((Equal-is (slice_cmp nat_cmp xs ys)).0 e)))

-- ---- what a test that tells lists apart has said

-- It says that they differ, and they are two,
pub told_other : (xs ys : List ℕ) (b : Bool) → b ≡ not (pointwise nat_eq xs ys) → b ≡ true → xs ≢ ys
told_other xs ys b is told = other_text xs ys (of_not (pointwise nat_eq xs ys) (sym is ∙ told))
  where
    of_not : (p : Bool) → not p ≡ true → false ≡ p
    of_not true h = h
    of_not false h = refl

-- or that they don't, and they are one.
pub told_same : (xs ys : List ℕ) (b : Bool) → b ≡ not (pointwise nat_eq xs ys) → b ≡ false → xs ≡ ys
told_same xs ys b is told = same_text xs ys (of_not (pointwise nat_eq xs ys) (sym is ∙ told))
  where
    of_not : (p : Bool) → not p ≡ false → true ≡ p
    of_not true h = refl
    of_not false h = h
