-- The laws of `==` and `cmp` of partitions.
use Rattle.std.specs.Prelude.{ℕ, ◌≡◌, true, List, nat_eq, Some, refl}
use Rattle.std.proofs.Common.{◌∙◌, ap}
use Rattle.std.specs.Ordering.{nat_cmp, is_eq, ordering_then, as_partial_cmp}
use Rattle.std.specs.declared.cmp.Ordering.{Ordering}
use Rattle.std.specs.declared.cmp.Ordering.TheVariants.{Less, Equal, Greater}
use Rattle.std.specs.Cmp.{IsPartialEquivalence, IsEquivalence, IsPartialOrder, IsTotalOrder, both_ways}
use Rattle.std.specs.Cmp.{partial_equiv_from_equiv, partial_order_from_agreeing_total}
use Rattle.std.specs.Cmp.Lexicographic.{pointwise, bytes_decides}
use Rattle.std.specs.FinMap.{slice_cmp-IsAntisymmetric, nat_cmp-IsAntisymmetric}
use Rattle.std.proofs.lemmas.Cmp.{nat_cmp_total, nat_list_cmp_total, nat_list_eq_equiv, on_total, then_total}
use Rattle.std.proofs.lemmas.Cmp.{tied_itself}
use Rattle.sp_defs.specs.Partition.{degree, compare, order}

-- ---- what the answers say

pub equal_lists : (first second : List ℕ) → pointwise nat_eq first second ≡ true → first ≡ second
equal_lists first second = (bytes_decides first second).0

pub lists_equal : (first second : List ℕ) → first ≡ second → pointwise nat_eq first second ≡ true
lists_equal first second = (bytes_decides first second).1

pub order_equal : (first second : List ℕ) → order first second ≡ Equal → first ≡ second
order_equal first second h = slice_cmp-IsAntisymmetric nat_cmp-IsAntisymmetric first second
    (later (nat_cmp (degree first) (degree second)) h)
  where
    later : (o : Ordering) → ordering_then o (compare first second) ≡ Equal → compare first second ≡ Equal
    later Less h = cc
    later Equal h = h
    later Greater h = cc

-- Among partitions of one degree the order is the lexicographic one.
pub order_one_degree : (first second : List ℕ) → degree first ≡ degree second →
    order first second ≡ compare first second
order_one_degree first second e =
    ap (λ o. ordering_then o (compare first second))
    (ap (λ n. nat_cmp n (degree second)) e ∙ tied_itself nat_cmp_total (degree second))

-- ---- the laws

pub parts_equivalence : IsEquivalence (pointwise nat_eq)
parts_equivalence = nat_list_eq_equiv

pub eq_laws : IsPartialEquivalence (pointwise nat_eq)
eq_laws = partial_equiv_from_equiv nat_list_eq_equiv

pub order_total : IsTotalOrder order
order_total = then_total (on_total degree nat_cmp_total) nat_list_cmp_total

pub order_matches_eq : (first second : List ℕ) → pointwise nat_eq first second ≡ is_eq (order first second)
order_matches_eq first second =
    both_ways (pointwise nat_eq first second) (is_eq (order first second))
    (λ h. same (equal_lists first second h))
    (λ h. lists_equal first second (order_equal first second (equal_of (order first second) h)))
  where
    same : first ≡ second → is_eq (order first second) ≡ true
    same e = ap is_eq (ap (λ xs. order xs second) e ∙ tied_itself order_total second)

    equal_of : (o : Ordering) → is_eq o ≡ true → o ≡ Equal
    equal_of Less h = cc
    equal_of Equal h = refl
    equal_of Greater h = cc

pub order_agrees : (first second : List ℕ) → as_partial_cmp order first second ≡ Some (order first second)
order_agrees first second = refl

pub order_laws : IsPartialOrder (pointwise nat_eq) (as_partial_cmp order)
order_laws = partial_order_from_agreeing_total order order_total order_agrees order_matches_eq
