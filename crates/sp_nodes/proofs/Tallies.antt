-- Counts by residue, node by node.
use Rattle.std.proofs.Common.{◌≡◌, ℕ, ◌+◌, ◌<◌, true, false, cond, nat_eq, List, [], ◌∷◌, ◌++◌, map, length, count_by}
use Rattle.std.proofs.Common.{slice_index, slice_set, refl, sym, ◌∙◌, ap, inl, inr, arith, get_or-set_same}
use Rattle.std.proofs.Common.{get_or-set_other, zero-add, add-zero, replicate, length-set}
use Rattle.std.proofs.lemmas.Bool.{cases_eq}
use Rattle.std.proofs.lemmas.Bool.Decides.{nat_tests}
use Rattle.std.proofs.lemmas.List.{map-append, get_or-replicate}
use Rattle.std.proofs.lemmas.List.Sums.{sum_by-append}
use Rattle.sp_defs.specs.Node.{residue}
use Rattle.sp_nodes.specs.declared.node.Node.{Node}
use Rattle.sp_nodes.specs.Nodes.{pair}

-- How many of these nodes have residue i.
abbrev pub with_residue : ℕ → List (ℕ × ℕ) → ℕ → ℕ
with_residue e places i = count_by (λ x. nat_eq (residue e x) i) places

-- The counts are those of the nodes seen so far.
pub record Tallied (e : ℕ) (counts : List ℕ) (seen : List Node) : Type 0 where
  pub room : length counts ≡ 64
  pub is : (i : ℕ) → i < 64 → slice_index counts i ≡ with_residue e (map pair seen) i

-- no node is counted before the first one
pub tallied_none : (e : ℕ) → Tallied e (replicate 64 0) []
tallied_none e = record { room = refl; is = λ i below. get_or-replicate 64 i 0 0 below }

one_more : (e : ℕ) (seen : List Node) (node : Node) (i : ℕ) →
    with_residue e (map pair (seen ++ node ∷ [])) i
    ≡ with_residue e (map pair seen) i + cond (nat_eq (residue e (pair node)) i) 1 0
one_more e seen node i =
    ap (λ xs. with_residue e xs i) (map-append pair seen (node ∷ []))
    ∙ sum_by-append (λ x. cond (nat_eq (residue e x) i) 1 0) (map pair seen) (pair node ∷ [])
    ∙ ap (λ n. with_residue e (map pair seen) i + n) (zero-add (cond (nat_eq (residue e (pair node)) i) 1 0))

-- One node more is counted at its residue.
pub tallied_more : (e r : ℕ) (counts : List ℕ) (seen : List Node) (node : Node) → r < 64 → r ≡ residue e (pair node) →
    Tallied e counts seen → Tallied e (slice_set counts r (slice_index counts r + 1)) (seen ++ node ∷ [])
tallied_more e r counts seen node lt is h = record {
  room = length-set counts r (slice_index counts r + 1) ∙ h.room;
  is = λ i below. elim (cases_eq i r) [
    | inl same ↦
        let yes : nat_eq (residue e (pair node)) i ≡ true = grind (arith, nat_tests) in
        let here : r < length counts = omega (arith, h.room) in
        ap (slice_index (slice_set counts r (slice_index counts r + 1))) same
        ∙ get_or-set_same counts r (slice_index counts r + 1) 0 here
        ∙ ap (λ n. slice_index counts n + 1) (sym same)
        ∙ ap (λ n. n + 1) (h.is i below)
        ∙ sym (one_more e seen node i ∙ ap (λ b. with_residue e (map pair seen) i + cond b 1 0) yes)
    | inr other ↦
        let no : nat_eq (residue e (pair node)) i ≡ false = grind (arith, nat_tests) in
        get_or-set_other counts r i (slice_index counts r + 1) 0 other
        ∙ h.is i below
        ∙ sym (add-zero (with_residue e (map pair seen) i))
        ∙ sym (one_more e seen node i ∙ ap (λ b. with_residue e (map pair seen) i + cond b 1 0) no)
  ];
}
