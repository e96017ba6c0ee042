-- By the relation the commutator is its closed form, and the products are that.
use Rattle.std.proofs.Common.{rules, ◌≤◌, ◌<◌, [], sym, ◌∙◌, ap, subst}
use Rattle.std.specs.List.{AllByRecursion}
use Rattle.sp_defs.specs.Power.{vector_of, fock_vector}
use Rattle.sp_sl2.specs.Multiples.{MultipleFits}
use Rattle.sp_sl2.proofs.Weights.{commutator_vector, commutator_apart, multiples_held, multiples_whole, products_within}
use Rattle.sp_sl2.proofs.Weights.{products_past, equal_weight, equal_vector}
use Rattle.sp_sl2.proofs.relation.commutator.Goals as goal

pub returns-then-i-j-clause-ok : goal.returns-then-i-j-clause-ok
returns-then-i-j-clause-ok c =
    c.zero.ensures ∙ ap (λ k. fock_vector k (λ lambda. [])) c.degree.ensures.value
    ∙ commutator_apart c.args.e c.args.i c.args.j c.args.v.now.degree (vector_of c.args.v.now.entries)
    c.requires.e_least c.if-i-j.true

pub returns-in_err-multiples-clause-too_large : goal.returns-in_err-multiples-clause-too_large
returns-in_err-multiples-clause-too_large c =
    λ h. subst (λ k. c.args.limit < k)
    (equal_weight c.args.e c.args.i c.args.j c.args.v.now.degree (vector_of c.args.v.now.entries) c.if-i-j.false)
    (products_past c.args.e c.args.i c.args.v.now.degree c.args.v.now.entries c.pairs.ensures.held.vector c.args.limit
    (subst (λ l. ¬ AllByRecursion (MultipleFits c.args.e c.args.i c.args.limit) l) c.pairs.ensures.value
    (c.in_err-multiples.ensures.too_large (search rules))))

pub from_pairs-requires : goal.from_pairs-requires
from_pairs-requires c =
    multiples_held c.args.e c.args.i c.args.v.now.degree c.args.v.now.entries c.pairs.ensures.held.vector
    c.degree-2.result c.pairs.result.now c.in_ok-multiples.multiples.items c.degree-2.ensures.value
    c.pairs.ensures.value c.in_ok-multiples.ensures.multiples c.in_ok-multiples.ensures.held

pub returns-clause-ok : goal.returns-clause-ok
returns-clause-ok c =
    c.from_pairs.ensures
    ∙ multiples_whole c.args.e c.args.i c.args.v.now.degree c.args.v.now.entries c.pairs.ensures.held.vector
    c.degree-2.result c.pairs.result.now c.in_ok-multiples.multiples.items c.degree-2.ensures.value
    c.pairs.ensures.value c.in_ok-multiples.ensures.multiples
    ∙ equal_vector c.args.e c.args.i c.args.j c.args.v.now.degree (vector_of c.args.v.now.entries) c.if-i-j.false
    ∙ sym (commutator_vector c.args.e c.args.i c.args.j c.args.v.now.degree (vector_of c.args.v.now.entries)
    c.requires.e_least)

pub returns-clause-closed : goal.returns-clause-closed
returns-clause-closed c =
    c.from_pairs.ensures
    ∙ multiples_whole c.args.e c.args.i c.args.v.now.degree c.args.v.now.entries c.pairs.ensures.held.vector
    c.degree-2.result c.pairs.result.now c.in_ok-multiples.multiples.items c.degree-2.ensures.value
    c.pairs.ensures.value c.in_ok-multiples.ensures.multiples
    ∙ equal_vector c.args.e c.args.i c.args.j c.args.v.now.degree (vector_of c.args.v.now.entries) c.if-i-j.false

pub returns-clause-fits : goal.returns-clause-fits
returns-clause-fits c =
    subst (λ k. k ≤ c.args.limit)
    (equal_weight c.args.e c.args.i c.args.j c.args.v.now.degree (vector_of c.args.v.now.entries) c.if-i-j.false)
    (products_within c.args.e c.args.i c.args.v.now.degree c.args.v.now.entries c.pairs.ensures.held.vector c.args.limit
    (subst (AllByRecursion (MultipleFits c.args.e c.args.i c.args.limit)) c.pairs.ensures.value
    c.in_ok-multiples.ensures.fits))
