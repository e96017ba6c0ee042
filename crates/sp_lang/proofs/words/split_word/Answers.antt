use Rattle.std.proofs.Common.{◌∷◌, sym, ap, ◌∙◌, arith, take, drop}
use Rattle.sp_lang.specs.Words.{words, is_blank}
use Rattle.sp_lang.proofs.Splitting.{words-behind_blank, words-first, words-none, position_or_len-le}
use Rattle.sp_lang.proofs.words.split_word.Goals as goal

pub split_at-requires : goal.split_at-requires
split_at-requires c = omega (arith, c.word_length.ensures, position_or_len-le is_blank c.loop-first.rest.now)

pub returns-then-not-is_blank : goal.returns-then-not-is_blank
returns-then-not-is_blank c =
    let text = c.loop-first.rest.now in
    sym c.loop-first.invariant
    ∙ words-first text c.in-Some.first.now c.in-Some.others.now c.in-Some.ensures.cases.0
    (sym c.is_blank.ensures ∙ c.if-not-is_blank.true)
    ∙ ap (λ k. take k text ∷ words (drop k text)) (sym c.word_length.ensures)
    ∙ ap (λ word. word ∷ words (drop c.word_length.result text)) (sym c.split_at.ensures.front)
    ∙ ap (λ rest. c.split_at.result.0.now ∷ words rest) (sym c.split_at.ensures.back)

pub loop-first-preserved : goal.loop-first-preserved
loop-first-preserved c =
    words-behind_blank c.loop-first.rest.now c.in-Some.first.now c.in-Some.others.now c.in-Some.ensures.cases.0
    (sym c.is_blank.ensures ∙ c.if-not-is_blank.false)
    ∙ c.loop-first.invariant

pub returns : goal.returns
returns c = sym c.loop-first.invariant ∙ words-none c.loop-first.rest.now c.in_default.ensures.cases
