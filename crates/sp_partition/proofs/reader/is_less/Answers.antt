use Rattle.std.proofs.Common.{◌≡◌, ℕ, Bool, List, sym, ◌∙◌, arith, refl}
use Rattle.std.specs.Ordering.{is_lt, is_some_and, nat_cmp}
use Rattle.std.specs.Cmp.Lexicographic.{slice_partial_cmp}
use Rattle.std.specs.declared.option.Option.TheVariants.{Some}
use Rattle.std.proofs.lemmas.Bool.Decides.{nat_tests}
use Rattle.std.proofs.lemmas.Cmp.{same_from_slice_cmp_tested}
use Rattle.sp_partition.proofs.Numbers.{digits_less, less_value, shorter_less}
use Rattle.sp_partition.proofs.reader.is_less.Goals as goal

is_digits_less : (xs ys : List ℕ) (r : Bool) →
    r ≡ is_some_and is_lt (slice_partial_cmp (λ x y. Some (nat_cmp x y)) xs ys) → r ≡ digits_less xs ys
is_digits_less = same_from_slice_cmp_tested nat_cmp is_lt digits_less refl (λ _ _. refl) (λ _ _. refl)
    (λ x y xs ys o h. grind (arith, nat_tests))

pub returns-then-lesser-greater : goal.returns-then-lesser-greater
returns-then-lesser-greater c =
    let same : c.lt.result ≡ digits_less c.args.lesser.now c.args.greater.now =
    is_digits_less c.args.lesser.now c.args.greater.now _ c.lt.ensures in
    let tells = less_value c.args.lesser.now c.args.greater.now c.if-lesser-greater.true
    c.requires.lesser.digits.1 c.requires.greater.digits.1 in
    ((λ t. tells.0 (sym same ∙ t)), λ lt. same ∙ tells.1 lt)

pub returns-else-lesser-greater : goal.returns-else-lesser-greater
returns-else-lesser-greater c =
    shorter_less c.args.lesser.now c.args.greater.now _ _ c.requires.lesser c.requires.greater c.if-lesser-greater.false
