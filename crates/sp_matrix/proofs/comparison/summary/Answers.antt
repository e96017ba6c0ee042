use Rattle.std.proofs.Common.{◌≡◌, ◌+◌, ◌<◌, List, [], ℕ, Bool, true, false, cond, not, Result, Ok, Err, None, Some}
use Rattle.std.proofs.Common.{length, get_or, nat_lt, refl, sym, ◌∙◌, ap, ap₂, subst}
use Rattle.std.proofs.lemmas.List.{get_or_read}
use mir.Val.{bool_byte}
use Rattle.std.proofs.lemmas.Slice.Zip.{AllZip-long}
use Rattle.std.proofs.lemmas.List.Folds.{list_any_at}
use Rattle.std.specs.List.{AllZip}
use Rattle.std.specs.Option.{option_or}
use Rattle.sp_module_defs.specs.Agreement.{Cells, agrees, agreement_weight}
use Rattle.sp_module_defs.specs.Cells.{cell_at}
use Rattle.sp_matrix.specs.declared.comparison.CompareFault.{CompareFault}
use Rattle.sp_matrix.specs.declared.comparison.CompareFault.TheVariants as fault
use Rattle.sp_matrix.specs.Agreements.{is_past, LineIs}
use Rattle.sp_lists.proofs.Zips.{zip_at}
use Rattle.sp_matrix.proofs.Folding.{none_more, count_more, find_more}
use Rattle.sp_matrix.proofs.comparison.summary.Goals as goal

abbrev weight_past : ℕ → ℕ → Cells → List ℕ → Bool
weight_past e limit d p = nat_lt limit (agreement_weight e d p)

-- a line that is past the limit
past_line : (e limit : ℕ) (d : Cells) (lines : List (List ℕ)) (i : ℕ) (f : CompareFault) → i < length lines →
    LineIs e limit d (get_or lines i []) (Err f) → f ≡ fault.TooLarge → is_past e limit d lines ≡ true
past_line e limit d lines i fault.TooLarge lt past is = list_any_at (weight_past e limit d) lines i [] lt past
past_line e limit d lines i fault.Memory lt u is = cc

byte_is : (b : Bool) → bool_byte b ≡ cond b 1 0
byte_is true = refl
byte_is false = refl

unless_not : (b : Bool) (x : List ℕ) → cond (not b) (Some x) None ≡ cond b None (Some x)
unless_not true x = refl
unless_not false x = refl

within_answers : (e limit i : ℕ) (d : Cells) (xs lines : List (List ℕ)) (answers : List (Result Bool CompareFault)) →
    xs ≡ lines → AllZip (λ p answer. LineIs e limit d p answer) lines answers → i < length xs → i < length answers
within_answers e limit i d xs lines answers same zipped lt =
    subst (λ n. i < n)
    (ap length same ∙ sym (AllZip-long (λ p answer. LineIs e limit d p answer) lines answers zipped)) lt

pub bounds : goal.bounds
bounds c =
    within_answers c.args.e c.args.limit c.loop-line.line (cell_at c.args.grid.now) c.lines-lines.result.now
    c.args.grid.now.lines c.args.answers.now c.lines-lines.ensures.value c.requires c.loop-line-test.true

pub bounds-answers-line : goal.bounds-answers-line
bounds-answers-line c =
    within_answers c.args.e c.args.limit c.loop-line.line (cell_at c.args.grid.now) c.lines-lines.result.now
    c.args.grid.now.lines c.args.answers.now c.lines-lines.ensures.value c.requires c.loop-line-test.true

pub returns-in-Err-clause-too_large : goal.returns-in-Err-clause-too_large
returns-in-Err-clause-too_large c =
    let g = c.args.grid.now in
    let i = c.loop-line.line in
    let is = λ (p : List ℕ) (answer : Result Bool CompareFault). LineIs c.args.e c.args.limit (cell_at g) p answer in
    let lt : i < length g.lines = subst (λ xs. i < length xs) c.lines-lines.ensures.value c.loop-line-test.true in
    let here : is (get_or g.lines i []) (Err c.in-Err.fault) =
    subst (is (get_or g.lines i [])) c.in-Err.is
    (zip_at is g.lines c.args.answers.now i [] _ c.requires lt) in
    λ h. past_line c.args.e c.args.limit (cell_at g) g.lines i c.in-Err.fault lt here
    (let k : c.in-Err.fault ≡ fault.TooLarge = cc in k)

pub loop-line-preserved : goal.loop-line-preserved
loop-line-preserved c =
    let g = c.args.grid.now in
    let d = cell_at g in
    let i = c.loop-line.line in
    let xs = c.lines-lines.result.now in
    let is = λ (p : List ℕ) (answer : Result Bool CompareFault). LineIs c.args.e c.args.limit d p answer in
    let lt : i < length g.lines = subst (λ ys. i < length ys) c.lines-lines.ensures.value c.loop-line-test.true in
    let x = get_or xs i [] in
    let here : is x (Ok c.in-Ok.agrees) =
    subst (λ ys. is (get_or ys i []) (Ok c.in-Ok.agrees)) (sym c.lines-lines.ensures.value)
    (subst (is (get_or g.lines i [])) c.in-Ok.is (zip_at is g.lines c.args.answers.now i [] _ c.requires lt)) in
    record {
      same = c.loop-line.invariant.same;
      agreeing =
          ap₂ (λ m n. m + n) c.loop-line.invariant.agreeing
          (c.from-agreeing.ensures ∙ byte_is c.in-Ok.agrees ∙ ap (λ b. cond b 1 0) here.1)
          ∙ sym (count_more (agrees c.args.e d) xs i [] c.loop-line-test.true);
      first =
          c.or-first.ensures
          ∙ ap₂ option_or c.loop-line.invariant.first
          (c.unless.ensures
          ∙ ap (λ y. cond c.in-Ok.agrees None (Some y))
          (get_or_read xs i c.index-lines-line.result c.loop-line-test.true c.index-lines-line.is [])
          ∙ ap (λ b. cond b None (Some x)) here.1
          ∙ sym (unless_not (agrees c.args.e d x) x))
          ∙ sym (find_more (λ p. not (agrees c.args.e d p)) xs i [] c.loop-line-test.true);
      within =
          none_more (weight_past c.args.e c.args.limit d) xs i [] c.loop-line-test.true c.loop-line.invariant.within
          here.0;
    }
