-- What the rank that is asked for says, and what it says that none is.
use Rattle.std.proofs.Common.{◌≡◌, ℕ, Bool, true, false, cond, List, Some, None, refl, sym, ◌∙◌, ap}
use Rattle.sp_defs.specs.Row.{outcome}
use Rattle.sp_defs.specs.Statements.{IsLabel}
use Rattle.sp_outcome_law.specs.Asking.{next_rank, is_too_large, is_past, asked}
use Rattle.sp_outcome_law.proofs.Decided.{decided, decided_end}

-- Where something is past the limit no rank is asked for.
pub asked_past : (e limit : ℕ) (mu : List ℕ) (t : ℕ) → is_past e limit mu t ≡ true → asked e limit mu t ≡ None
unfolding asked
asked_past e limit mu t h = ap (λ b. cond b None (next_rank e mu t)) h

-- Else the next rank is.
pub asked_open : (e limit : ℕ) (mu : List ℕ) (t : ℕ) → is_past e limit mu t ≡ false →
    asked e limit mu t ≡ next_rank e mu t
unfolding asked
asked_open e limit mu t h = ap (λ b. cond b None (next_rank e mu t)) h

-- a rank that is asked for is the next one, and nothing is past the limit
pub record IsAsked (e limit : ℕ) (mu : List ℕ) (t j : ℕ) : Type 0 where
  pub within : is_past e limit mu t ≡ false
  pub next : next_rank e mu t ≡ Some j

-- Such a rank is one.
pub asked_next : (e limit : ℕ) (mu : List ℕ) (t j : ℕ) → asked e limit mu t ≡ Some j → IsAsked e limit mu t j
asked_next e limit mu t j h = tested (is_past e limit mu t) refl
  where
    tested : (b : Bool) → is_past e limit mu t ≡ b → IsAsked e limit mu t j
    tested true w = absurd (let z : None ≡ Some j = sym (asked_past e limit mu t w) ∙ h in cc)
    tested false w = record { within = w; next = sym (asked_open e limit mu t w) ∙ h }

-- where none is, the outcome is too large exactly if something is past the limit
pub none_asked : (e limit : ℕ) (mu : List ℕ) → IsLabel e mu → (t : ℕ) → asked e limit mu t ≡ None →
    is_too_large (outcome e limit mu) ≡ is_past e limit mu t
none_asked e limit mu is t h = tested (is_past e limit mu t) refl
  where
    tested : (b : Bool) → is_past e limit mu t ≡ b → is_too_large (outcome e limit mu) ≡ is_past e limit mu t
    tested true w = decided e limit mu is t w ∙ sym w
    tested false w = decided_end e limit mu t (sym (asked_open e limit mu t w) ∙ h)
