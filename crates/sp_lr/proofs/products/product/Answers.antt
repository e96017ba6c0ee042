use Rattle.std.proofs.Common.{◌≡◌, ◌+◌, ◌<◌, ◌++◌, arith, subst, sym, ◌∙◌, ap, ap₂, length, length-append, map}
use Rattle.std.specs.List.Sorted.{IsPermutation}
use Rattle.std.proofs.lemmas.List.{length-map}
use Rattle.std.proofs.lemmas.Result.{err_from_is_err_and}
use Rattle.sp_defs.specs.Partition.{part}
use Rattle.sp_lr_defs.specs.Strip.{end_from}
use Rattle.sp_lr.specs.Results.{IsProduct}
use Rattle.sp_lr.specs.Strips.{chains}
use Rattle.sp_lr.proofs.ChainsOver.{over-length}
use Rattle.sp_lr.proofs.ProductPairs.{is_product, product_of}
use Rattle.sp_lr.proofs.Totals.{are_more, err_same, past_most, spread-length}
use Rattle.sp_lr.proofs.products.product.Goals as goal

pub returns-in_err-push_ends-clause-many : goal.returns-in_err-push_ends-clause-many
returns-in_err-push_ends-clause-many c =
    let p = err_from_is_err_and c.from_residual.result c.from_residual.ensures.1 in
    rw (p.1, p.2) (λ e.
    are_more c.args.lambda.now c.args.mu.now c.args.most c.part.result c.parts.result.now
    c.degree.ensures.held.partition
    c.part.ensures.value c.parts.ensures.parts
    (subst (λ n. c.args.most < n + length (chains c.args.lambda.now c.args.lambda.now c.part.result c.parts.result.now))
    (ap length c.new-ends.ensures.items) (c.push_ends.ensures.many (c.in_err-push_ends.was ∙ err_same _ _ e))))

pub returns-in_err-push_ends-clause-past : goal.returns-in_err-push_ends-clause-past
returns-in_err-push_ends-clause-past c =
    let p = err_from_is_err_and c.from_residual.result c.from_residual.ensures.1 in
    rw (p.1, p.2) (λ e.
    past_most c.args.lambda.now c.args.mu.now c.args.most c.part.result c.parts.result.now
    c.degree.ensures.held.partition
    c.part.ensures.value c.parts.ensures.parts
    (subst (λ n. c.args.most < n + length (chains c.args.lambda.now c.args.lambda.now c.part.result c.parts.result.now))
    (ap length c.new-ends.ensures.items) (c.push_ends.ensures.many (c.in_err-push_ends.was ∙ err_same _ _ e))))

pub returns-clause-listed : goal.returns-clause-listed
returns-clause-listed c =
    let ends : c.push_ends.new.ends.items
    ≡ map (end_from c.args.lambda.now) (chains c.args.lambda.now c.args.lambda.now
    (part c.args.mu.now 1) c.args.mu.now) =
    c.in_ok-push_ends.ensures.ends
    ∙ ap (λ xs. xs ++ map (end_from c.args.lambda.now) (chains c.args.lambda.now c.args.lambda.now c.part.result
    c.parts.result.now)) c.new-ends.ensures.items
    ∙ ap₂ (λ n ns. map (end_from c.args.lambda.now) (chains c.args.lambda.now c.args.lambda.now n ns))
    c.part.ensures.value c.parts.ensures.parts in
    product_of c.args.lambda.now c.args.mu.now c.sort.new.self.items c.in_ok-counted.field-0.items
    c.degree.ensures.held.partition
    (subst (λ xs. IsPermutation xs c.sort.new.self.items) ends c.in_ok-sort.ensures.permutation)
    (sym c.deref.ensures.value ∙ c.in_ok-counted.ensures.spread) c.in_ok-counted.ensures.descending
    c.in_ok-counted.ensures.some

pub returns-clause-pairs : goal.returns-clause-pairs
returns-clause-pairs c =
    subst (IsProduct c.args.lambda.now c.args.mu.now) (sym (returns-clause-listed c))
    (is_product c.args.lambda.now c.args.mu.now c.degree.ensures.held.partition)

pub returns-clause-few : goal.returns-clause-few
returns-clause-few c =
    omega (
      arith,
      spread-length c.in_ok-counted.field-0.items,
      ap length c.in_ok-counted.ensures.spread,
      c.deref.ensures.len,
      c.in_ok-sort.ensures.len,
      c.in_ok-push_ends.ensures.few,
    )

pub returns-clause-within : goal.returns-clause-within
returns-clause-within c =
    omega (
      arith,
      over-length c.args.lambda.now c.args.mu.now c.part.result c.parts.result.now c.degree.ensures.held.partition
          c.part.ensures.value c.parts.ensures.parts,
      length-map (chains c.args.lambda.now c.args.lambda.now c.part.result c.parts.result.now)
          (end_from c.args.lambda.now),
      ap length c.in_ok-push_ends.ensures.ends,
      ap length c.new-ends.ensures.items,
      length-append c.new-ends.result.items (map (end_from c.args.lambda.now)
          (chains c.args.lambda.now c.args.lambda.now c.part.result c.parts.result.now)),
      c.in_ok-push_ends.ensures.few,
    )
