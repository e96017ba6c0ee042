use Rattle.std.proofs.Common.{◌++◌, sym, arith}
use Rattle.std.specs.Int.RustNames.{unsigned_abs}
use Rattle.sp_laurent.specs.Pieces.{power_part}
use Rattle.sp_laurent.proofs.Reading.{factor_one, factor_counted, power_plain}
use Rattle.sp_laurent.proofs.reader.read_factor.Goals as goal

pub returns-in-Some : goal.returns-in-Some
returns-in-Some c t rest small signed is =
    factor_one t.0 t.1 rest c.args.text.now c.in-Some.field-0.now small.coefficient is (sym c.in-Some.ensures)

pub returns-in-None : goal.returns-in-None
returns-in-None c t rest small signed is =
    c.read_number.ensures (unsigned_abs t.1) (power_part t.0 ++ rest) (omega (arith, small.coefficient))
    (power_plain t.0 rest signed) (factor_counted t.0 t.1 rest c.args.text.now is (sym c.in-None.ensures))
