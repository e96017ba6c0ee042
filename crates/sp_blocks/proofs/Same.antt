-- The tests of equal lists of parts, by the lexicographic order and by that of partitions.
use Rattle.std.proofs.Common.{◌≡◌, ◌≢◌, ℕ, true, false, List, refl, sym, ◌∙◌, ap, ◌⊎◌, inl, inr}
use Rattle.std.proofs.Common.{Ordering, Less, Equal, Greater}
use Rattle.std.specs.Ordering.{is_eq}
use Rattle.std.proofs.lemmas.Cmp.{tied_itself}
use Rattle.std.specs.FinMap.{slice_cmp-IsAntisymmetric, nat_cmp-IsAntisymmetric}
use Rattle.sp_defs.specs.Partition.{compare, order}
use Rattle.sp_lists.proofs.Comparing.{equal_self}
use Rattle.sp_partition.specs.OrderLaws.{order_equal, order_total}

-- What a comparison of two lists tells: they pass the test of equality, and are one, or fail it, and are two.
abbrev Tells : Ordering → List ℕ → List ℕ → Type 0
Tells o x y = ((is_eq o ≡ true) × (x ≡ y)) ⊎ ((is_eq o ≡ false) × (x ≢ y))

told : (o : Ordering) (x y : List ℕ) → (o ≡ Equal → x ≡ y) → (x ≡ y → o ≡ Equal) → Tells o x y
told Less x y one own = inr (refl, λ e. absurd (let tied = own e in cc))
told Equal x y one own = inl (refl, one refl)
told Greater x y one own = inr (refl, λ e. absurd (let tied = own e in cc))

-- What the lexicographic order tells.
abbrev pub Told : List ℕ → List ℕ → Type 0
Told x y = ((is_eq (compare x y) ≡ true) × (x ≡ y)) ⊎ ((is_eq (compare x y) ≡ false) × (x ≢ y))

-- Two lists pass its test, and they are one, or they fail it, and they are two.
pub tells : (x y : List ℕ) → Told x y
tells x y =
    told (compare x y) x y (slice_cmp-IsAntisymmetric nat_cmp-IsAntisymmetric x y)
    (λ e. ap (compare x) (sym e) ∙ equal_self x)

-- What the order of partitions tells.
abbrev pub ToldByOrder : List ℕ → List ℕ → Type 0
ToldByOrder x y = ((is_eq (order x y) ≡ true) × (x ≡ y)) ⊎ ((is_eq (order x y) ≡ false) × (x ≢ y))

-- So it is with the order of partitions.
pub order_tells : (x y : List ℕ) → ToldByOrder x y
order_tells x y =
    told (order x y) x y (order_equal x y) (λ e. ap (order x) (sym e) ∙ tied_itself order_total x)
