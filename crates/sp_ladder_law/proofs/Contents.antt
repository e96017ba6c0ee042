-- Contents: each step adds nodes of its residue, so what is reached by the same steps has the same content.
use Rattle.std.proofs.Common.{◌≡◌, ℕ, suc, ◌+◌, true, false, cond, nat_eq, List, [], ◌∷◌, reverse, length, refl}
use Rattle.std.proofs.Common.{sym, ◌∙◌, ap, ap₂, arith, sum_by, count_by, eqb-true}
use Rattle.std.specs.List.{AllByRecursion, list_all}
use Rattle.std.proofs.lemmas.List.Sums.{sum_by-cons}
use Rattle.sp_defs.specs.Node.{Node, nodes, nodes_from, residue, content, in_diagram}
use Rattle.sp_defs.specs.Laurent.{one}
use Rattle.sp_defs.specs.Power.{is_move, added}
use Rattle.sp_defs.specs.Ladder.{Step, steps, ladder_vector}
use Rattle.sp_defs.specs.Statements.{LadderContentLaw}
use Rattle.sp_lists.proofs.Elements.{and_split, all_tests}
use Rattle.sp_shapes.proofs.Moves.{move_facts, count_added}
use Rattle.sp_ladder_law.proofs.Chains.{Reached, reached}
use Rattle.sp_ladder_law.proofs.LadderLaw.{ladder_law}

-- all of one residue: all count, or none
count_alike : (e i k : ℕ) (xs : List Node) → AllByRecursion (λ x. nat_eq (residue e x) k ≡ true) xs →
    count_by (λ x. nat_eq (residue e x) i) xs ≡ cond (nat_eq k i) (length xs) 0
count_alike e i k [] h = elim (nat_eq k i) as (λ b. ◌≡◌ {A = ℕ} 0 (cond b 0 0)) [ true ↦ refl | false ↦ refl ]
count_alike e i k (x ∷ xs) (h, hs) =
    sum_by-cons (λ x. cond (nat_eq (residue e x) i) 1 0) x xs
    ∙ ap₂ (λ a b. cond a 1 0 + b) (ap (λ r. nat_eq r i) (eqb-true (residue e x) k h)) (count_alike e i k xs hs)
    ∙ elim (nat_eq k i) as (λ b. ◌≡◌ {A = ℕ} (cond b 1 0 + cond b (length xs) 0) (cond b (suc (length xs)) 0)) [
      | true ↦ omega arith
      | false ↦ omega arith
    ]

-- the content of what is reached: for each residue the counts of its steps
content_reached : (e i : ℕ) (backward : List Step) (last : List ℕ) → Reached e backward last →
    content e last i ≡ sum_by (λ s. cond (nat_eq s.residue i) s.count 0) backward
unfolding Reached nodes_from is_move
content_reached e i [] last is = ap (λ p. content e p i) is
content_reached e i (s ∷ earlier) last (before, pb, mv, rest) =
    let f = move_facts e s.residue s.count before last mv in
    let p = and_split (list_all (in_diagram last) (nodes before)) _ mv in
    let q = and_split (nat_eq (length (added before last)) s.count) _ p.1 in
    count_added (λ x. nat_eq (residue e x) i) before last pb f.rows
    ∙ ap₂ (λ a b. a + b) (content_reached e i earlier before rest)
    (count_alike e i s.residue (added before last)
    (all_tests (λ x. nat_eq (residue e x) s.residue) (added before last) q.1)
    ∙ ap (λ m. cond (nat_eq s.residue i) m 0) f.count)
    ∙ swapped (sum_by (λ s. cond (nat_eq s.residue i) s.count 0) earlier) (cond (nat_eq s.residue i) s.count 0)
    ∙ sym (sum_by-cons (λ s. cond (nat_eq s.residue i) s.count 0) s earlier)
  where
    swapped : (a b : ℕ) → a + b ≡ b + a
    swapped a b = omega arith

-- mu itself is reached by these steps, so both have the same content
pub ladder_content : LadderContentLaw
unfolding ladder_vector
ladder_content e mu h lambda ne i =
    content_reached e i (reverse (steps e mu)) mu
    (reached e (reverse (steps e mu)) mu (λ z. let w : one ≡ [] = sym (ladder_law e mu h).at_mu ∙ z in cc))
    ∙ sym (content_reached e i (reverse (steps e mu)) lambda (reached e (reverse (steps e mu)) lambda ne))
