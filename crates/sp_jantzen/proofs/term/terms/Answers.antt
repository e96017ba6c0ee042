use Rattle.std.proofs.Common.{◌≡◌, ◌≤◌, ◌++◌, sym, ◌∙◌, ap, subst, arith, flat_map, length, List, ℕ, []}
use Rattle.std.specs.List.{range_with_len, AllByRecursion}
use Rattle.std.specs.Int.RustNames.{unsigned_abs}
use Rattle.sp_defs.specs.Partition.{degree, IsPartitionOf}
use Rattle.sp_defs.specs.Abacus.{beta}
use Rattle.sp_lists.proofs.Places.{all_weaken}
use Rattle.sp_partition.specs.Held.{IsHeld}
use Rattle.sp_module_defs.specs.Jantzen.{Terms, terms_of_bead, jantzen_terms}
use Rattle.sp_lists.proofs.FlatMaps.{appended_more}
use Rattle.sp_jantzen.specs.Beads.{AreBeads}
use Rattle.sp_jantzen.proofs.Walks.{beta_beads}
use Rattle.sp_jantzen.proofs.Terms.{IsUnit, jantzen_units}
use Rattle.sp_jantzen.proofs.term.terms.Goals as goal

pub push_bead-requires-clause-beads : goal.push_bead-requires-clause-beads
push_bead-requires-clause-beads c =
    let numbers : c.as_slice.result.now ≡ beta c.args.e c.args.p.now =
    c.as_slice.ensures.value ∙ c.beta-numbers.ensures.numbers in
    subst AreBeads (sym numbers)
    (beta_beads c.args.e c.args.p.now c.requires.e_least c.beta-numbers.ensures.held
    (subst (λ xs. length xs ≤ 64) numbers c.as_slice.ensures.fits))

pub loop-from-preserved : goal.loop-from-preserved
loop-from-preserved c =
    c.in_ok-push_bead.ensures
    ∙ ap (λ xs. c.loop-from.terms.items ++ terms_of_bead c.args.e xs c.loop-from.from) c.as_slice.ensures.value
    ∙ appended_more (terms_of_bead c.args.e c.beta-numbers.result.items) [] c.loop-from.terms.items 0
    c.loop-from.from c.loop-from.from (omega arith) c.loop-from.invariant

-- All beads were taken.
all_terms : (e : ℕ) (p : List ℕ) {numbers : List ℕ} {n m : ℕ} (items : Terms) →
    items ≡ flat_map (terms_of_bead e numbers) (range_with_len 0 n) → numbers ≡ beta e p → m ≡ length numbers → n ≤ m →
    m ≤ n → items ≡ jantzen_terms e p
unfolding jantzen_terms
all_terms e p {numbers = numbers} {n = n} {m = m} items is beta_is count low high =
    is
    ∙ ap (λ k. flat_map (terms_of_bead e numbers) (range_with_len 0 k)) whole
    ∙ ap (λ xs. flat_map (terms_of_bead e xs) (range_with_len 0 (length xs))) beta_is
  where
    whole : n ≡ length numbers
    whole = omega arith

-- Each is a unit.
all_units : (e : ℕ) (p : List ℕ) (items : Terms) → items ≡ jantzen_terms e p → 2 ≤ e → IsHeld p →
    length (beta e p) ≤ 64 → AllByRecursion (IsUnit (degree p)) items
all_units e p items is he h few =
    subst (AllByRecursion (IsUnit (degree p))) (sym is)
    (jantzen_units e p (omega arith) h.partition (beta_beads e p he h few))

pub returns-clause-terms : goal.returns-clause-terms
returns-clause-terms c =
    all_terms c.args.e c.args.p.now c.loop-from.terms.items c.loop-from.invariant c.beta-numbers.ensures.numbers
    c.len-from-end.ensures.value c.loop-from.auto.from-end c.loop-from-test.false

pub returns-clause-degrees : goal.returns-clause-degrees
returns-clause-degrees c =
    let is = all_terms c.args.e c.args.p.now c.loop-from.terms.items c.loop-from.invariant
    c.beta-numbers.ensures.numbers c.len-from-end.ensures.value c.loop-from.auto.from-end c.loop-from-test.false in
    let few : length (beta c.args.e c.args.p.now) ≤ 64 =
    subst (λ xs. length xs ≤ 64) c.beta-numbers.ensures.numbers
    (subst (λ n. n ≤ 64) c.len-from-end.ensures.value c.len-from-end.ensures.fits) in
    all_weaken (IsUnit (degree c.args.p.now)) (λ t. IsPartitionOf (degree c.args.p.now) t.0) c.loop-from.terms.items
    (λ t h. h.0)
    (all_units c.args.e c.args.p.now c.loop-from.terms.items is c.requires.e_least c.beta-numbers.ensures.held few)

pub returns-clause-units : goal.returns-clause-units
returns-clause-units c =
    let is = all_terms c.args.e c.args.p.now c.loop-from.terms.items c.loop-from.invariant
    c.beta-numbers.ensures.numbers c.len-from-end.ensures.value c.loop-from.auto.from-end c.loop-from-test.false in
    let few : length (beta c.args.e c.args.p.now) ≤ 64 =
    subst (λ xs. length xs ≤ 64) c.beta-numbers.ensures.numbers
    (subst (λ n. n ≤ 64) c.len-from-end.ensures.value c.len-from-end.ensures.fits) in
    all_weaken (IsUnit (degree c.args.p.now)) (λ t. unsigned_abs t.1 ≤ 1) c.loop-from.terms.items (λ t h. h.1)
    (all_units c.args.e c.args.p.now c.loop-from.terms.items is c.requires.e_least c.beta-numbers.ensures.held few)
