-- Two rows with a mark each and none between them: the signature about these two marks. And rows that have no mark,
-- since their parts are equal.
use Rattle.std.proofs.Common.{◌≡◌, ◌≢◌, ℕ, suc, ◌+◌, ◌-◌, ◌<◌, ◌≤◌, List, [], ◌∷◌, ◌++◌, length, sym, ◌∙◌, ap, ap₂}
use Rattle.std.proofs.Common.{subst}
use Rattle.std.proofs.Common.{arith, slice_index}
use Rattle.std.specs.List.{AllByRecursion}
use Rattle.sp_defs.specs.Partition.{part, IsPartition}
use Rattle.sp_defs.specs.Node.{residue}
use Rattle.sp_defs.specs.Signature.{Mark, row_marks, signature}
use Rattle.sp_lists.proofs.Places.{all_weaken}
use Rattle.sp_shapes.proofs.Regular.{descends}
use Rattle.sp_shapes.proofs.Residues.{same_column, column_before}
use Rattle.sp_good_law.proofs.Marks.{IsMark, row_none, marks_from, rows_facts, none_of, split_at, signature_rows}

-- The parts from one row down to another do not grow.
pub descends_to : (parts : List ℕ) → IsPartition parts → (s t : ℕ) → s ≤ t → slice_index parts t ≤ slice_index parts s
descends_to parts pp s t le =
    subst (λ n. slice_index parts n ≤ slice_index parts s) (there le) (descends parts pp s (t - s))
  where
    there : s ≤ t → s + (t - s) ≡ t
    there h = omega arith

-- ---- two marks, one right after the other

-- The signature is `pre`, the two marks and `post`; `pre` stands above the upper one, and `post` below the lower one.
pub record IsAbout (e i : ℕ) (parts : List ℕ) (upper lower : Mark) : Type 0 where
  pub pre : List Mark
  pub post : List Mark
  pub whole : signature e i parts ≡ pre ++ (upper ∷ lower ∷ post)
  pub before : (n : Mark) → upper.1.0 ≤ n.1.0 → AllByRecursion (λ m. m ≢ n) pre
  pub after : (n : Mark) → n.1.0 ≤ lower.1.0 → AllByRecursion (λ m. m ≢ n) post

-- The marks of rows 1 + k and 1 + k + 1 + gap, where the rows between have none.
pub about_two : (e i : ℕ) (parts : List ℕ) (k gap : ℕ) (upper lower : Mark) → k + 1 + gap < length parts + 1 →
    upper.1.0 ≡ 1 + k → lower.1.0 ≡ 1 + k + 1 + gap → row_marks e i parts (1 + k) ≡ upper ∷ [] →
    row_marks e i parts (1 + k + 1 + gap) ≡ lower ∷ [] →
    ((r : ℕ) → 1 + k + 1 ≤ r → r < 1 + k + 1 + gap → row_marks e i parts r ≡ []) → IsAbout e i parts upper lower
about_two e i parts k gap upper lower short at_upper at_lower own_upper own_lower none = record {
  pre = marks_from e i parts 1 k;
  post = post;
  whole =
      signature_rows e i parts (k + suc (gap + suc left)) (omega arith)
      ∙ split_at e i parts 1 k (gap + suc left)
      ∙ ap (λ r. marks_from e i parts 1 k ++ r) (ap₂ (λ a b. a ++ b) own_upper
      (split_at e i parts (1 + k + 1) gap left
      ∙ ap₂ (λ a b. a ++ b) (none_of e i parts (1 + k + 1) gap none) (ap (λ a. a ++ post) own_lower)));
  before = λ n le. all_weaken (λ m. (1 ≤ m.1.0) × (m.1.0 < 1 + k) × IsMark e i parts m) (λ m. m ≢ n)
      (marks_from e i parts 1 k) (λ m f s. let q : m.1.0 ≡ n.1.0 = ap (λ z. z.1.0) s in omega (arith, q, f.1))
      (rows_facts e i parts 1 k);
  after = λ n le. all_weaken
      (λ m. (1 + k + 1 + gap + 1 ≤ m.1.0) × (m.1.0 < 1 + k + 1 + gap + 1 + left) × IsMark e i parts m) (λ m. m ≢ n) post
      (λ m f s. let q : m.1.0 ≡ n.1.0 = ap (λ z. z.1.0) s in omega (arith, q, f.0))
      (rows_facts e i parts (1 + k + 1 + gap + 1) left);
}
  where
    left : ℕ
    left = length parts + 1 - (k + 1 + gap + 1)

    post : List Mark
    post = marks_from e i parts (1 + k + 1 + gap + 1) left

-- ---- rows with no mark

-- A row fewer than e - 1 rows above a node of residue i, which ends in the node's column, has no mark.
pub none_above : (e i : ℕ) (parts : List ℕ) (r d q c : ℕ) → 2 ≤ e → residue e (q, c) ≡ i → r + d ≡ q → 0 < d →
    d + 1 < e → part parts r ≡ c → row_marks e i parts r ≡ []
none_above e i parts r d q c he res row_is lo hi same = row_none e i parts r not_end not_right
  where
    not_end : residue e (r, part parts r) ≢ i
    not_end w = same_column e r (part parts r) d he lo (omega arith)
        (ap₂ (λ s z. residue e (s, z)) row_is same ∙ res ∙ sym w)

    not_right : residue e (r, part parts r + 1) ≢ i
    not_right w = column_before e r (part parts r + 1) d he (omega arith) hi
        (ap₂ (λ s z. residue e (s, z)) row_is (minus_one (part parts r) ∙ same) ∙ res ∙ sym w)
      where
        minus_one : (n : ℕ) → n + 1 - 1 ≡ n
        minus_one n = omega arith
