-- Bar, the lift, sums and products of small Laurent polynomials.
use Rattle.std.proofs.Common.{◌≡◌, [], ◌∷◌, refl, pos, negsuc}
use Rattle.sp_defs.specs.Laurent.{add_term, collect, plus, negate, products, times, bar, lift, size, int_sum}
use Rattle.sp_defs.specs.Laurent.{value_at_one, slope_at_one}

-- 1 + 2v
pub bar_of : bar ((pos 0, pos 1) ∷ (pos 1, pos 2) ∷ []) ≡ (negsuc 0, pos 2) ∷ (pos 0, pos 1) ∷ []
unfolding bar collect add_term
bar_of = refl

-- v^-1 + 2 + v^2
pub lift_of : lift ((negsuc 0, pos 1) ∷ (pos 0, pos 2) ∷ (pos 2, pos 1) ∷ []) ≡
    (negsuc 0, pos 1) ∷ (pos 0, pos 2) ∷ (pos 1, pos 1) ∷ []
unfolding lift collect add_term
lift_of = refl

-- v times v, and 1
pub times_plus : plus (times ((pos 1, pos 1) ∷ []) ((pos 1, pos 1) ∷ [])) ((pos 0, pos 1) ∷ []) ≡
    (pos 0, pos 1) ∷ (pos 2, pos 1) ∷ []
unfolding plus times products collect add_term
times_plus = refl

-- terms that cancel are gone
pub cancelled : plus ((pos 0, pos 1) ∷ (pos 1, pos 2) ∷ []) (negate ((pos 1, pos 2) ∷ [])) ≡ (pos 0, pos 1) ∷ []
unfolding plus negate collect add_term
cancelled = refl

-- 1 - 3v^2: its size, and value and derivative at v = 1
pub size_of : size ((pos 0, pos 1) ∷ (pos 2, negsuc 2) ∷ []) ≡ 4
size_of = refl

-- 1 - 3v^2 is -2 at v = 1.
pub value_of : value_at_one ((pos 0, pos 1) ∷ (pos 2, negsuc 2) ∷ []) ≡ negsuc 1
unfolding int_sum
value_of = refl

-- Its derivative is -6 there.
pub slope_of : slope_at_one ((pos 0, pos 1) ∷ (pos 2, negsuc 2) ∷ []) ≡ negsuc 5
unfolding int_sum
slope_of = refl
