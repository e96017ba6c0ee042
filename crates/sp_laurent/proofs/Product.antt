-- A loop that adds the product of two polynomials, one term of the first after the other.
use Rattle.std.proofs.Common.{◌≡◌, ℕ, ◌+◌, ◌*◌, ◌<◌, [], ◌∷◌, take, length, get_or, sym}
use Rattle.std.proofs.Common.{◌∙◌, ap, subst, arith, mul-le-mul_right}
use Rattle.std.proofs.lemmas.List.{take_more}
use Rattle.std.specs.Int.RustNames.{unsigned_abs}
use Rattle.sp_defs.specs.Laurent.{Laurent, Term, IsLaurent, plus, times, size}
use Rattle.sp_defs.specs.Within.{ProductWithin}
use Rattle.sp_lists.proofs.Places.{all_at}
use Rattle.sp_algebra.proofs.Laws.{IsLaurent-plus, plus_assoc, plus_nought, nought_times}
use Rattle.sp_algebra.proofs.Sizes.{size_plus, size_times}
use Rattle.sp_algebra.proofs.Steps.{times-append}
use Rattle.sp_laurent.proofs.Multiple.{size-take_next}

-- `sum` has the products of the first n terms of `few`
pub record IsPartSum (terms few many sum : Laurent) (n : ℕ) : Type 0 where
  pub is : sum ≡ plus terms (times (take n few) many)

-- before the first term
pub part_none : (terms few many : Laurent) → IsLaurent terms → IsPartSum terms few many terms 0
part_none terms few many h = record { is = sym (ap (plus terms) (nought_times many) ∙ plus_nought terms h) }

module _ (terms few many sum : Laurent) (n : ℕ) (h : IsPartSum terms few many sum n) where
  -- what was added up so far is a polynomial
  pub part_laurent : IsLaurent sum
  part_laurent = subst IsLaurent (sym h.is) (IsLaurent-plus terms (times (take n few) many))

  -- where the whole sum has a size below m, so has the sum with the next term's multiple
  pub part_fits : (d : Term) (m : ℕ) → n < length few → size terms + size few * size many < m
      → size sum + unsigned_abs (get_or few n d).1 * size many < m
  part_fits d m lt fits =
      omega (
        arith,
        ap size h.is,
        size_plus terms (times (take n few) many),
        size_times (take n few) many,
        mul-le-mul_right (size many) (size-take_next few n d lt),
      )

  -- one more term's multiple
  pub part_more : (d : Term) (sum' : Laurent) → n < length few → sum' ≡ plus sum (times (get_or few n d ∷ []) many)
      → IsPartSum terms few many sum' (n + 1)
  part_more d sum' lt e = record {
    is =
        e ∙ ap (λ s. plus s (times (get_or few n d ∷ []) many)) h.is
        ∙ plus_assoc terms (times (take n few) many) (times (get_or few n d ∷ []) many)
        ∙ ap (plus terms) (sym (times-append (take n few) (get_or few n d ∷ []) many)
        ∙ ap (λ p. times p many) (sym (take_more few n d lt)));
  }

-- a term of the one factor, and the other, make powers within the limit
pub term_within : (limit : ℕ) (few many : Laurent) (n : ℕ) (d : Term) → n < length few → ProductWithin limit few many
    → ProductWithin limit (get_or few n d ∷ []) many
term_within limit few many n d lt h = (all_at _ few n d h lt, tt)
