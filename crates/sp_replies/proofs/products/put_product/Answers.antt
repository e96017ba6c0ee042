use Rattle.std.proofs.Common.{◌+◌, ◌++◌, ◌∙◌, ap, ap₂, arith}
use Rattle.std.proofs.lemmas.Result.{on_ok_weaker}
use Rattle.sp_replies.proofs.Coefficients.{held_product, product_told}
use Rattle.sp_replies.proofs.products.put_product.Goals as goal

pub vector_of-requires : goal.vector_of-requires
vector_of-requires c =
    held_product c.args.lambda.now c.args.mu.now (c.degree.result + c.degree-in-Ok.result) c.in-Ok.counts.items
    (ap₂ (λ m n. m + n) c.degree.ensures.sum c.degree-in-Ok.ensures.sum)
    (omega (arith, c.requires, c.degree.ensures.sum, c.degree-in-Ok.ensures.sum)) c.in-Ok.ensures.within
    c.in-Ok.ensures.listed

pub returns-in_ok-vector-in-Ok : goal.returns-in_ok-vector-in-Ok
returns-in_ok-vector-in-Ok c =
    on_ok_weaker c.put_vector.result
    (λ is. is
    ∙ ap (λ text. c.args.out.now.items ++ text)
    (product_told c.args.lambda.now c.args.mu.now (c.degree.result + c.degree-in-Ok.result) c.in-Ok.counts.items
    c.in_ok-vector-in-Ok.vector c.in-Ok.ensures.within c.in-Ok.ensures.listed c.in_ok-vector-in-Ok.ensures))
    c.put_vector.ensures
