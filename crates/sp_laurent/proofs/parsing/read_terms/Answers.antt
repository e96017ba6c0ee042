use Rattle.std.proofs.Common.{◌≡◌, ◌≢◌, ◌++◌, [], ◌∙◌, ap, flat_map, length, rules, arith}
use Rattle.std.proofs.lemmas.Bool.Decides.{nat_tests}
use Rattle.sp_defs.specs.Laurent.{monomial}
use Rattle.sp_defs.specs.Text.{signed_term_text}
use Rattle.sp_laurent.proofs.Terms.{first_next, later_next, left_after, left_none}
use Rattle.sp_laurent.proofs.parsing.read_terms.Goals as goal

pub returns-in_err-rest-clause-reads : goal.returns-in_err-rest-clause-reads
returns-in_err-rest-clause-reads c p h is =
    let n = first_next p c.args.text.now h is in
    let fault = c.in_err-rest.ensures.reads n.term (flat_map signed_term_text n.others) n.begins in search rules

pub loop-rest-init : goal.loop-rest-init
loop-rest-init c = record {
  good = search rules;
  reads = λ p h is.
      let n = first_next p c.args.text.now h is in
      let read = c.in_ok-rest.ensures.reads n.term (flat_map signed_term_text n.others) n.begins in
      left_after p [] c.push_next.new.terms.items c.args.text.now c.in_ok-rest.rest.now n read.0
      (read.1 ∙ ap (λ xs. xs ++ monomial n.term.0 n.term.1) c.new-terms.ensures.items);
}

pub returns-in_err-rest-2-clause-reads : goal.returns-in_err-rest-2-clause-reads
returns-in_err-rest-2-clause-reads c p h is =
    let some : c.loop-rest.rest.now ≢ [] = search rules in
    let n = later_next p c.loop-rest.terms.items c.loop-rest.rest.now h some (c.loop-rest.invariant.reads p h is) in
    let fault = c.in_err-rest-2.ensures.reads n.term (flat_map signed_term_text n.others) n.begins in search rules

pub loop-rest-preserved : goal.loop-rest-preserved
loop-rest-preserved c = record {
  good = c.in_ok-rest-2.ensures.good c.loop-rest.invariant.good;
  reads = λ p h is.
      let some : c.loop-rest.rest.now ≢ [] = search rules in
      let n = later_next p c.loop-rest.terms.items c.loop-rest.rest.now h some (c.loop-rest.invariant.reads p h is) in
      let read = c.in_ok-rest-2.ensures.reads n.term (flat_map signed_term_text n.others) n.begins in
      left_after p c.loop-rest.terms.items c.push_next-in-loop-rest.new.terms.items c.loop-rest.rest.now
      c.in_ok-rest-2.rest.now n read.0 read.1;
}

pub returns-clause-reads : goal.returns-clause-reads
returns-clause-reads c p h is =
    let none : length c.loop-rest.rest.now ≡ 0 = grind (arith, nat_tests) in
    left_none p c.loop-rest.terms.items c.loop-rest.rest.now none (c.loop-rest.invariant.reads p h is)
