use Rattle.std.proofs.Common.{◌≡◌, ◌%◌, ◌≢◌, sym, ◌∙◌, ap, arith}
use Rattle.std.proofs.lemmas.Int.{ints}
use Rattle.sp_module_defs.specs.Jantzen.{inversions}
use Rattle.sp_jantzen.proofs.Walks.{sign_even, sign_odd}
use Rattle.sp_jantzen.proofs.numbers.signed.Goals as goal

pub returns-then-inversions-eq0 : goal.returns-then-inversions-eq0
returns-then-inversions-eq0 c =
    let even : inversions c.args.numbers.now % 2 ≡ 0 =
    ap (λ n. n % 2) (sym c.inversions.ensures) ∙ c.if-inversions-eq0.true in
    omega (arith, ints, sign_even c.args.numbers.now c.args.value even)

pub returns-else-inversions-eq0 : goal.returns-else-inversions-eq0
returns-else-inversions-eq0 c =
    let odd : inversions c.args.numbers.now % 2 ≢ 0 =
    λ e. c.if-inversions-eq0.false (ap (λ n. n % 2) c.inversions.ensures ∙ e) in
    omega (arith, ints, sign_odd c.args.numbers.now c.args.value odd)
