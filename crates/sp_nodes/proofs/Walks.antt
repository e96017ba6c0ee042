-- A walk over the rows that keeps what each row gives.
use Rattle.std.proofs.Common.{◌≡◌, ℕ, ◌+◌, ◌-◌, ◌≤◌, List, ◌++◌, map, flat_map, length, length-append, sym, ◌∙◌, ap}
use Rattle.std.proofs.Common.{ap₂, arith}
use Rattle.std.specs.List.{range_with_len}
use Rattle.std.proofs.lemmas.List.{map-append}
use Rattle.std.specs.Prelude.{Option, Some, None}
use Rattle.std.specs.Option.{option_to_list}
use Rattle.sp_defs.specs.Partition.{from_one_to}
use Rattle.sp_lists.proofs.FlatMaps.{flat_map-range_more}

-- `found` reads as what the rows before this one give, and has at most one element for each.
pub record Walked {X Y : Type 0} (read : X → Y) (gives : ℕ → List Y) (found : List X) (row : ℕ) : Type 0 where
  pub is : map read found ≡ flat_map gives (range_with_len 1 (row - 1))
  pub few : length found ≤ row - 1

-- One row more.
pub walked_row : {X Y : Type 0} (read : X → Y) (gives : ℕ → List Y) (found more : List X) (row : ℕ) (here : Option X) →
    1 ≤ row → map read (option_to_list here) ≡ gives row → more ≡ found ++ option_to_list here →
    Walked read gives found row → Walked read gives more (row + 1)
walked_row read gives found more row here least is appended h = record {
  is = ap (map read) appended
      ∙ map-append read found (option_to_list here)
      ∙ ap₂ (λ xs ys. xs ++ ys) h.is is
      ∙ sym (flat_map-range_more gives 1 (row - 1) row (omega arith))
      ∙ ap (λ n. flat_map gives (range_with_len 1 n)) (omega arith);
  few = let before = h.few in rw appended (omega (arith, length-append found (option_to_list here), one here));
}
  where
    one : {X : Type 0} (o : Option X) → length (option_to_list o) ≤ 1
    one None = omega arith
    one (Some x) = omega arith

-- After the last of n rows.
pub walked_all : {X Y : Type 0} (read : X → Y) (gives : ℕ → List Y) (found : List X) (row n : ℕ) → row ≡ n + 1 →
    Walked read gives found row → map read found ≡ flat_map gives (from_one_to n)
walked_all read gives found row n last h = h.is ∙ ap (λ k. flat_map gives (range_with_len 1 k)) (omega arith)
