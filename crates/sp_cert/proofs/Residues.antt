-- Contents of partitions, by test.
use Rattle.std.proofs.Common.{◌≡◌, ℕ, ◌+◌, ◌-◌, ◌*◌, ◌<◌, ◌≤◌, nat_eq, List, [], ◌∷◌, count_by, refl, sym}
use Rattle.std.proofs.Common.{◌∙◌, ap, arith, true, cond, ◌⊎◌, inl, inr, ne_eqb, zero-add}
use Rattle.std.proofs.Math.Nat.{mod-lt}
use Rattle.std.proofs.lemmas.Bool.{eqb-true}
use Rattle.std.proofs.lemmas.List.Sums.{sum_by-cons}
use Rattle.std.specs.List.{AllByRecursion, range_with_len}
use Rattle.sp_defs.specs.Node.{Node, residue, content, nodes}
use Rattle.sp_defs.specs.Statements.{SameContent}
use Rattle.sp_lists.proofs.Elements.{le_or_lt, all_tests, range_at}
use Rattle.sp_cert.specs.Order.{same_content}

-- A residue is less than e.
residue_less : (e : ℕ) (x : Node) → 1 ≤ e → residue e x < e
residue_less e (r, c) least = mod-lt (c + e * r - r) (omega (arith, least))

-- No node has a residue from e on.
none_past : (e i : ℕ) (xs : List Node) → 1 ≤ e → e ≤ i → count_by (λ x. nat_eq (residue e x) i) xs ≡ 0
none_past e i [] least past = refl
none_past e i (x ∷ xs) least past =
    let low = residue_less e x least in
    sum_by-cons (λ y. cond (nat_eq (residue e y) i) 1 0) x xs
    ∙ ap (λ b. cond b 1 0 + count_by (λ y. nat_eq (residue e y) i) xs)
    (ne_eqb (residue e x) i (λ same. let past_too : e ≤ i = past in absurd (omega (arith, low, same, past_too))))
    ∙ zero-add (count_by (λ y. nat_eq (residue e y) i) xs) ∙ none_past e i xs least past

-- Partitions whose contents pass the test have one content.
pub contents_same : (e : ℕ) (mu nu : List ℕ) → 1 ≤ e → same_content e mu nu ≡ true → SameContent e mu nu
contents_same e mu nu least h i = settle (le_or_lt e i)
  where
    at_all : AllByRecursion (λ j. nat_eq (content e mu j) (content e nu j) ≡ true) (range_with_len 0 e)
    at_all = all_tests (λ j. nat_eq (content e mu j) (content e nu j)) (range_with_len 0 e) h

    settle : (e ≤ i) ⊎ (i < e) → content e mu i ≡ content e nu i
    settle (inl past) = none_past e i (nodes mu) least past ∙ sym (none_past e i (nodes nu) least past)
    settle (inr lt) =
        eqb-true (content e mu i) (content e nu i)
        (range_at (λ j. nat_eq (content e mu j) (content e nu j) ≡ true) 0 e at_all i (omega arith) (omega (arith, lt)))
