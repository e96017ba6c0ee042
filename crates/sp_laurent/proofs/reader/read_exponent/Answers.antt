use Rattle.std.proofs.Common.{◌≡◌, pos, neg_ℤ, cond, ◌∙◌, ap₂, arith}
use Rattle.std.proofs.lemmas.Int.{ints}
use Rattle.sp_laurent.proofs.Reading.{whole_read, signed_is}
use Rattle.sp_laurent.proofs.reader.read_exponent.Goals as goal

pub returns-then-number-clause-reads : goal.returns-then-number-clause-reads
returns-then-number-clause-reads c k rest small plain is =
    let found = whole_read k rest c.args.text.now c.read_minus-negative.result.1.now c.read_number-number.result.1.now
    c.read_minus-negative.result.0 c.read_number-number.result.0 (omega arith) plain is
    (record { minus = c.read_minus-negative.ensures.minus; none = c.read_minus-negative.ensures.none })
    (record { reads = c.read_number-number.ensures }) in
    absurd (omega (arith, found.size, small, c.if-number.true))

pub returns-clause-reads : goal.returns-clause-reads
returns-clause-reads c k rest small plain is =
    let found = whole_read k rest c.args.text.now c.read_minus-negative.result.1.now c.read_number-number.result.1.now
    c.read_minus-negative.result.0 c.read_number-number.result.0 (omega arith) plain is
    (record { minus = c.read_minus-negative.ensures.minus; none = c.read_minus-negative.ensures.none })
    (record { reads = c.read_number-number.ensures }) in
    let whole : c.with_sign.result ≡ k = c.with_sign.ensures
    ∙ ap₂ (λ b n. cond b (neg_ℤ (pos n)) (pos n)) found.sign found.size ∙ signed_is k in
    (omega (arith, ints), found.behind)
