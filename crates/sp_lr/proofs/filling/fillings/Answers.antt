use Rattle.std.proofs.Common.{◌+◌, ◌<◌, ◌++◌, ◌∷◌, [], arith, subst, sym, ◌∙◌, ap, length}
use Rattle.std.proofs.lemmas.List.{length-map}
use Rattle.std.proofs.lemmas.Result.{err_from_is_err_and}
use Rattle.sp_lr_defs.specs.Filling.{ListsEach, IsChain}
use Rattle.sp_lr.specs.Strips.{chains}
use Rattle.sp_lr.proofs.ChainsOver.{found_over, lists_over}
use Rattle.sp_lr.proofs.Totals.{are_more, err_same, past_most}
use Rattle.sp_lr.specs.Results.{chains_in}
use Rattle.sp_lr.proofs.filling.fillings.Goals as goal

pub push_fillings-requires-clause-room : goal.push_fillings-requires-clause-room
push_fillings-requires-clause-room c = record {
  grows = λ i. omega arith;
  held = c.degree.ensures.held;
  spare_small = c.part.ensures.small;
}

pub returns-in_err-push_fillings-clause-many : goal.returns-in_err-push_fillings-clause-many
returns-in_err-push_fillings-clause-many c =
    let p = err_from_is_err_and c.from_residual-in_err-push_fillings.result
    c.from_residual-in_err-push_fillings.ensures.1 in
    rw (p.1, p.2) (λ e.
    are_more c.args.lambda.now c.args.mu.now c.args.most c.part.result c.parts.result.now
    c.degree.ensures.held.partition
    c.part.ensures.value c.parts.ensures.parts
    (subst (λ n. c.args.most < n + length (chains c.args.lambda.now c.args.lambda.now c.part.result c.parts.result.now))
    (ap length c.new-found.ensures.items) (c.push_fillings.ensures.many (c.in_err-push_fillings.was ∙ err_same _ _ e))))

pub returns-in_err-push_fillings-clause-past : goal.returns-in_err-push_fillings-clause-past
returns-in_err-push_fillings-clause-past c =
    let p = err_from_is_err_and c.from_residual-in_err-push_fillings.result
    c.from_residual-in_err-push_fillings.ensures.1 in
    rw (p.1, p.2) (λ e.
    past_most c.args.lambda.now c.args.mu.now c.args.most c.part.result c.parts.result.now
    c.degree.ensures.held.partition
    c.part.ensures.value c.parts.ensures.parts
    (subst (λ n. c.args.most < n + length (chains c.args.lambda.now c.args.lambda.now c.part.result c.parts.result.now))
    (ap length c.new-found.ensures.items) (c.push_fillings.ensures.many (c.in_err-push_fillings.was ∙ err_same _ _ e))))

pub returns-clause-listed : goal.returns-clause-listed
returns-clause-listed c =
    found_over c.args.lambda.now c.args.mu.now (chains_in c.new-found.result.items)
    (chains_in c.push_fillings.new.found.items) c.append.new.list.items c.part.result c.parts.result.now
    c.degree.ensures.held.partition
    (ap chains_in c.new-found.ensures.items)
    (c.in_ok-append.ensures ∙ ap (λ xs. xs ++ c.args.lambda.now ∷ []) c.new-chain.ensures.items)
    c.part.ensures.value c.parts.ensures.parts c.in_ok-push_fillings.ensures.found

pub returns-clause-lists : goal.returns-clause-lists
returns-clause-lists c =
    subst (ListsEach (IsChain c.args.lambda.now c.args.mu.now)) (sym (returns-clause-listed c))
    (lists_over c.args.lambda.now c.args.mu.now c.degree.ensures.held.partition)

pub returns-clause-within : goal.returns-clause-within
returns-clause-within c =
    omega (
      arith,
      c.in_ok-push_fillings.ensures.few,
      length-map c.push_fillings.new.found.items (λ f. f.chain),
      ap length (returns-clause-listed c),
    )
