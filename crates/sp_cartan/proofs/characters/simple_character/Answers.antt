use Rattle.std.proofs.Common.{◌≡◌, ℕ, List, [], Option, Some, None, nat_eq, length, sym, ◌∙◌, ap}
use Rattle.std.specs.Cmp.Lexicographic.{pointwise}
use Rattle.std.specs.List.{position}
use Rattle.sp_defs.specs.Power.{fock_vector}
use Rattle.sp_cartan.specs.Characters.{values_below}
use Rattle.sp_cartan.proofs.Placing.{found_at, not_found}
use Rattle.sp_cartan.proofs.Values.{no_line, values_held, values_vector}
use Rattle.sp_cartan.proofs.characters.simple_character.Goals as goal

-- what the search found, over the grid's own lines
searched : (xs lines : List (List ℕ)) (mu : List ℕ) (found answer : Option ℕ) → xs ≡ lines →
    found ≡ position (λ line. pointwise nat_eq line mu) xs → found ≡ answer →
    position (λ line. pointwise nat_eq line mu) lines ≡ answer
searched xs lines mu found answer same is told =
    ap (position (λ line. pointwise nat_eq line mu)) (sym same) ∙ sym is ∙ told

pub from_pairs-requires : goal.from_pairs-requires
from_pairs-requires c =
    let g = c.args.inverse.now in
    let mu = c.args.mu.now in
    let there = found_at g.lines mu c.in-Some.line
    (searched c.lines.result.now g.lines mu c.place_in.result (Some c.in-Some.line) c.lines.ensures.value
    c.place_in.ensures c.in-Some.is) in
    values_held g c.lines.ensures.grid mu there.0 c.degree.result c.in_ok-values-in-Some.values.items
    c.degree.ensures.value
    (c.in_ok-values-in-Some.ensures.values ∙ ap (λ k. values_below g k (length g.columns)) there.1)
    c.in_ok-values-in-Some.ensures.held

pub returns-in_ok-values-in-Some : goal.returns-in_ok-values-in-Some
returns-in_ok-values-in-Some c =
    let g = c.args.inverse.now in
    let mu = c.args.mu.now in
    let there = found_at g.lines mu c.in-Some.line
    (searched c.lines.result.now g.lines mu c.place_in.result (Some c.in-Some.line) c.lines.ensures.value
    c.place_in.ensures c.in-Some.is) in
    c.from_pairs.ensures
    ∙ values_vector g c.lines.ensures.grid mu there.0 c.degree.result c.in_ok-values-in-Some.values.items
    c.degree.ensures.value
    (c.in_ok-values-in-Some.ensures.values ∙ ap (λ k. values_below g k (length g.columns)) there.1)

pub returns-in-None : goal.returns-in-None
returns-in-None c =
    let g = c.args.inverse.now in
    let mu = c.args.mu.now in
    c.zero.ensures
    ∙ ap (λ n. fock_vector n (λ lambda. [])) c.degree-in-None.ensures.value
    ∙ no_line g c.lines.ensures.grid mu
    (not_found g.lines mu
    (searched c.lines.result.now g.lines mu c.place_in.result None c.lines.ensures.value c.place_in.ensures
    c.in-None.is))
