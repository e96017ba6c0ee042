-- Lines of numbers, written number by number, and line by line.
use Rattle.std.proofs.Common.{◌≡◌, ℕ, zero, suc, ◌+◌, ◌-◌, ◌<◌, ◌≤◌, true, cond, nat_lt, List, [], ◌∷◌, ◌++◌, map}
use Rattle.std.proofs.Common.{flat_map, take, length, codes, refl, sym, ◌∙◌, ap, arith, append_assoc}
use Rattle.std.specs.Fmt.{decimal}
use Rattle.std.specs.List.{range_with_len}
use Rattle.std.proofs.lemmas.Bool.Decides.{nat_tests}
use Rattle.std.proofs.lemmas.List.{append-nil}
use Rattle.std.proofs.lemmas.List.Concat.{flat_map-cons}
use Rattle.sp_defs.specs.Partition.{from_one_to}
use Rattle.sp_defs.specs.Text.{joined_by}
use Rattle.sp_lists.proofs.FlatMaps.{appended_step}
use Rattle.sp_partition.proofs.Kept.{kept_on, kept_append}
use Rattle.sp_nodes.specs.Texts.{newline, line_text, row_line, grid_text}

-- A number, after a space where others stand before it.
abbrev pub cell_text : (ℕ × ℕ → ℕ) → ℕ → ℕ → List ℕ
cell_text number r c = cond (nat_lt 1 c) (codes " ") [] ++ decimal (number (r, c))

-- The numbers from column a on, which isn't the first.
later_cells : (number : ℕ × ℕ → ℕ) (r a n : ℕ) → 1 < a → (text : List ℕ)
    → joined_by (codes " ") (text ∷ map (λ c. decimal (number (r, c))) (range_with_len a n))
    ≡ text ++ flat_map (cell_text number r) (range_with_len a n)
later_cells number r a zero late text = sym (append-nil text)
later_cells number r a (suc n) late text =
    ap (λ rest. text ++ codes " " ++ rest) (later_cells number r (a + 1) n (omega arith) here)
    ∙ append_assoc text (codes " ") (here ++ others)
    ∙ ap (λ xs. text ++ xs) (sym (append_assoc (codes " ") here others) ∙ ap (λ xs. xs ++ others) spaced)
    ∙ ap (λ xs. text ++ xs) (sym (flat_map-cons (cell_text number r) a (range_with_len (a + 1) n)))
  where
    here : List ℕ
    here = decimal (number (r, a))

    others : List ℕ
    others = flat_map (cell_text number r) (range_with_len (a + 1) n)

    later : nat_lt 1 a ≡ true
    later = grind (arith, nat_tests)

    spaced : codes " " ++ here ≡ cell_text number r a
    spaced = ap (λ b. cond b (codes " ") [] ++ here) (sym later)

-- A line is its cells, and a newline.
pub line-cells : (number : ℕ × ℕ → ℕ) (r n : ℕ)
    → line_text number r n ≡ flat_map (cell_text number r) (from_one_to n) ++ newline
line-cells number r zero = refl
line-cells number r (suc n) =
    ap (λ xs. xs ++ newline)
    (later_cells number r (1 + 1) n (omega arith) (decimal (number (r, 1)))
    ∙ sym (flat_map-cons (cell_text number r) 1 (range_with_len (1 + 1) n)))

-- ---- what is written so far

-- What the places before this one give stands behind the old text.
pub record Written (old : List ℕ) (gives : ℕ → List ℕ) (now : List ℕ) (place : ℕ) : Type 0 where
  pub text : now ≡ old ++ flat_map gives (range_with_len 1 (place - 1))

-- One place more is written.
pub written_more : (old : List ℕ) (gives : ℕ → List ℕ) (now more : List ℕ) (place : ℕ) (piece : List ℕ) → 1 ≤ place →
    more ≡ now ++ piece → piece ≡ gives place → Written old gives now place → Written old gives more (place + 1)
written_more old gives now more place piece least appended is h = record {
  text = appended ∙ ap (λ xs. now ++ xs) is ∙ appended_step gives old now place least h.text;
}

-- a failed write keeps what stood there before
pub written_kept : (old : List ℕ) (gives : ℕ → List ℕ) (now broken : List ℕ) (place : ℕ) → Written old gives now place →
    take (length now) broken ≡ now → take (length old) broken ≡ old
written_kept old gives now broken place h kept =
    let written = flat_map gives (range_with_len 1 (place - 1)) in
    kept_on old now broken (ap (take (length old)) h.text ∙ kept_append old written) kept

-- The text of a partition that has rows is its lines.
pub grid-lines : (number : ℕ × ℕ → ℕ) (parts : List ℕ) → 0 < length parts →
    grid_text number parts ≡ flat_map (row_line number parts) (from_one_to (length parts))
grid-lines number [] some = absurd (omega arith)
grid-lines number (p ∷ parts) some = refl

-- After the last place all is written.
pub written_all : (old : List ℕ) (gives : ℕ → List ℕ) (now : List ℕ) (place n : ℕ) → place ≡ n + 1 →
    Written old gives now place → now ≡ old ++ flat_map gives (from_one_to n)
written_all old gives now place n last h =
    h.text ∙ ap (λ k. old ++ flat_map gives (range_with_len 1 k)) (omega arith)

-- With its newline it is the line.
pub written_line : (old : List ℕ) (number : ℕ × ℕ → ℕ) (now : List ℕ) (r place n : ℕ) → place ≡ n + 1 →
    Written old (cell_text number r) now place → now ++ newline ≡ old ++ line_text number r n
written_line old number now r place n last h =
    ap (λ xs. xs ++ newline) (written_all old (cell_text number r) now place n last h)
    ∙ append_assoc old (flat_map (cell_text number r) (from_one_to n)) newline
    ∙ ap (λ xs. old ++ xs) (sym (line-cells number r n))
