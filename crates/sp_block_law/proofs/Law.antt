-- Two partitions of one degree have the same core exactly where they have the same content.
use Rattle.std.proofs.Common.{◌≡◌, ℕ, ◌+◌, ◌*◌, ◌%◌, ◌≤◌, List, length, sym, ◌∙◌, arith, mul-le-mul_left}
use Rattle.std.specs.List.{range_with_len}
use Rattle.sp_defs.specs.Node.{content}
use Rattle.sp_defs.specs.Statements.{SameContent}
use Rattle.sp_lists.proofs.Elements.{all_every}
use Rattle.sp_lists.proofs.Sums.{sum-alike}
use Rattle.sp_block_law.specs.Blocks.{InOneBlock, BlockLaw}
use Rattle.sp_block_law.proofs.Heights.{height, height-content, same_heights, heights_core}
use Rattle.sp_block_law.proofs.Contents.{degree-contents, contents_back}

-- How many times e beads are enough for both.
abbrev rounds : List ℕ → List ℕ → ℕ
rounds x y = length x + length y

enough : (e m n : ℕ) → 1 ≤ e → m ≤ (m + n) * e
enough e m n he = let more : (m + n) * 1 ≤ (m + n) * e = mul-le-mul_left (m + n) he in omega arith

enough_too : (e m n : ℕ) → 1 ≤ e → n ≤ (m + n) * e
enough_too e m n he = let more : (m + n) * 1 ≤ (m + n) * e = mul-le-mul_left (m + n) he in omega arith

-- Partitions with the same content are in one block.
pub content_block : (e : ℕ) (x y : List ℕ) → 2 ≤ e → SameContent e x y → InOneBlock e x y
content_block e x y he same = record {
  one_degree = degree-contents e x e1
      ∙ sum-alike (content e x) (content e y) (range_with_len 0 e)
      (all_every (λ i. content e x i ≡ content e y i) (range_with_len 0 e) same)
      ∙ sym (degree-contents e y e1);
  one_core =
      heights_core e (rounds x y) x y e1 (enough e (length x) (length y) e1) (enough_too e (length x) (length y) e1)
      (λ i hi. alike (height e (rounds x y) x i) (height e (rounds x y) y i) (content e x ((i + 1) % e))
      (content e y ((i + 1) % e)) (content e x i) (content e y i) (rounds x y) (same i) (same ((i + 1) % e))
      (height-content e i (rounds x y) x e1 hi (enough e (length x) (length y) e1))
      (height-content e i (rounds x y) y e1 hi (enough_too e (length x) (length y) e1)));
}
  where
    e1 : 1 ≤ e
    e1 = omega arith

    alike : (h h' next next' c c' j : ℕ) → c ≡ c' → next ≡ next' → h + next ≡ j + c → h' + next' ≡ j + c' → h ≡ h'
    alike h h' next next' c c' j p q r s = omega arith

-- Partitions in one block have the same content.
pub block_content : (e : ℕ) (x y : List ℕ) → 2 ≤ e → InOneBlock e x y → SameContent e x y
block_content e x y he one =
    contents_back e x y e1 one.one_degree
    (λ i hi. alike (height e (rounds x y) x i) (height e (rounds x y) y i) (content e x ((i + 1) % e))
    (content e y ((i + 1) % e)) (content e x i) (content e y i) (rounds x y)
    (same_heights e i (rounds x y) x y e1 hi (enough e (length x) (length y) e1)
    (enough_too e (length x) (length y) e1) one.one_core)
    (height-content e i (rounds x y) x e1 hi (enough e (length x) (length y) e1))
    (height-content e i (rounds x y) y e1 hi (enough_too e (length x) (length y) e1)))
  where
    e1 : 1 ≤ e
    e1 = omega arith

    alike : (h h' next next' c c' j : ℕ) → h ≡ h' → h + next ≡ j + c → h' + next' ≡ j + c' → c + next' ≡ c' + next
    alike h h' next next' c c' j p q r = omega arith

-- The law of blocks.
pub block_law : BlockLaw
block_law e lambda mu he _ _ _ = (block_content e lambda mu he, content_block e lambda mu he)
