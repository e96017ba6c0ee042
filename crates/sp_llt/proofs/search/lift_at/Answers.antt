use Rattle.std.proofs.Common.{◌≡◌, ◌≢◌, ◌≤◌, ◌↔◌, Bool, true, false, IsTrue, [], sym, ◌∙◌, subst}
use Rattle.sp_defs.specs.Partition.{partitions}
use Rattle.sp_defs.specs.Laurent.{Laurent, lift, size, IsPositive}
use Rattle.sp_defs.specs.Power.{vector_of}
use Rattle.sp_llt.proofs.Giving.{at_most}
use Rattle.sp_llt.proofs.Places.{lift_here}
use Rattle.sp_llt.proofs.Positive.{positive_lift, lift_positive}
use Rattle.sp_llt.proofs.search.lift_at.Goals as goal

-- a polynomial that fails the test has a lift that isn't 0
some_lift : (b : Bool) (p : Laurent) → (IsTrue b ↔ IsPositive p) → b ≡ false → lift p ≢ []
some_lift true p i e z = cc
some_lift false p i e z = let w : false ≡ true = i.1 (lift_positive p z) in cc

pub returns-then-in_vzv : goal.returns-then-in_vzv
returns-then-in_vzv c = record {
  found =
      lift_here (vector_of c.args.slots.now.vector.entries) (partitions c.args.slots.now.vector.degree)
      c.args.places.now c.args.rank c.coefficient-coefficient.result.now c.requires.rank
      c.coefficient-coefficient.ensures
      ∙ positive_lift c.coefficient-coefficient.result.now (c.in_vzv.ensures.0 c.if-in_vzv.true);
  too_large = λ e. absurd (cc);
}

pub returns-in_ok-lift-clause-found : goal.returns-in_ok-lift-clause-found
returns-in_ok-lift-clause-found c =
    let p = c.coefficient-coefficient.result.now in
    let here = lift_here (vector_of c.args.slots.now.vector.entries) (partitions c.args.slots.now.vector.degree)
    c.args.places.now c.args.rank p c.requires.rank c.coefficient-coefficient.ensures in
    let is : c.in_ok-lift.field-0 ≡ lift c.coefficient-coefficient.result.now = c.in_ok-lift.ensures.ok in
    record {
      value = is ∙ sym here;
      nonzero = λ z. some_lift c.in_vzv.result p c.in_vzv.ensures c.if-in_vzv.false (sym is ∙ z);
      fits = subst (λ q. size q ≤ c.args.limit) (sym is)
          (at_most c.args.limit (size (lift p)) (λ large. let w = c.in_ok-lift.ensures.too_large.1 large in cc));
    }
