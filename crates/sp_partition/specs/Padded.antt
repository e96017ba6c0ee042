-- The fields of a `Partition`: an array of parts, a count and a degree.
use Rattle.std.specs.Prelude.{ℕ, ◌≡◌, ◌≤◌, ◌-◌, List, ◌++◌, take, drop, length, sum, replicate}
use Rattle.std.proofs.Common.{ap, sym, ◌∙◌, arith}
use Rattle.std.proofs.lemmas.Grind.{common_steps}
use Rattle.sp_partition.specs.Held.{IsHeld}
use Rattle.sp_partition.specs.declared.TheConstants.{CAPACITY}

-- The first `count` numbers of the array are the parts, and zeros stand behind them.
pub record IsPadded (degree count : ℕ) (array : List ℕ) : Type 0 where
  pub size : length array ≡ CAPACITY
  pub few : count ≤ CAPACITY
  pub zeros : array ≡ take count array ++ replicate (CAPACITY - count) 0
  pub total : degree ≡ sum (take count array)
  pub held : IsHeld (take count array)

-- The array that holds these parts.
abbrev pub padded : List ℕ → List ℕ
padded parts = parts ++ replicate (CAPACITY - length parts) 0

-- Eight numbers of an array, from this place on.
abbrev pub eight : ℕ → List ℕ → List ℕ
eight start array = take 8 (drop start array)

-- ---- the fields follow from the parts

pub padded-count : (degree count : ℕ) (array : List ℕ) → IsPadded degree count array → length (take count array) ≡ count
padded-count degree count array is = let e = is.size in let f = is.few in grind (arith, common_steps)

pub padded-array : (degree count : ℕ) (array : List ℕ) → IsPadded degree count array → padded (take count array) ≡ array
padded-array degree count array is =
    ap (λ k. take count array ++ replicate (CAPACITY - k) 0) (padded-count degree count array is) ∙ sym is.zeros

-- A record of these three fields is known by its parts.
pub rebuilt : {R : Type 0} (make : ℕ → List ℕ → ℕ → R) (degree count : ℕ) (array : List ℕ) →
    IsPadded degree count array →
    (let parts = take count array in make (sum parts) (padded parts) (length parts)) ≡ make degree array count
rebuilt make degree count array is =
    let parts = take count array in
    ap (λ d. make d (padded parts) (length parts)) (sym is.total)
    ∙ ap (λ ps. make degree ps (length parts)) (padded-array degree count array is)
    ∙ ap (λ c. make degree array c) (padded-count degree count array is)
