-- The better of two busy workers, each with its row.
use Rattle.std.specs.Prelude.{◌≡◌, ℕ, ◌<◌, ◌≤◌, ◌⊎◌}
use Rattle.std.specs.declared.option.Option.{Option}
use Rattle.std.specs.declared.option.Option.TheVariants.{None, Some}

-- The best so far stays, unless the row of worker w is earlier.
abbrev pub IsBetter : Option (ℕ × ℕ) → ℕ → ℕ → Option (ℕ × ℕ) → Type 0
IsBetter None w row result = result ≡ Some (w, row)
IsBetter (Some best) w row result =
    ((result ≡ Some best) × (best.1 ≤ row)) ⊎ ((result ≡ Some (w, row)) × (row < best.1))
