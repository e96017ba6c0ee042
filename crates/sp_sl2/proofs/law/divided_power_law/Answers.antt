-- The laws.
use Rattle.sp_sl2_law.proofs.Repeated.{next_power, repeated_power}
use Rattle.sp_sl2.proofs.law.divided_power_law.Goals as goal

pub returns-clause-next : goal.returns-clause-next
returns-clause-next c = next_power

pub returns-clause-repeated : goal.returns-clause-repeated
returns-clause-repeated c = repeated_power
