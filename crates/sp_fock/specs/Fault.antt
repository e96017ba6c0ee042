-- What a refusal by a polynomial is for a vector.
use Rattle.sp_laurent.specs.declared.fault.LaurentFault.{LaurentFault}
use Rattle.sp_laurent.specs.declared.fault.LaurentFault.TheVariants as polynomial
use Rattle.sp_fock.specs.declared.fault.FockFault.{FockFault}
use Rattle.sp_fock.specs.declared.fault.FockFault.TheVariants.{TooLarge, Memory}

abbrev pub fault_of : LaurentFault → FockFault
fault_of polynomial.TooLarge = TooLarge
fault_of polynomial.Memory = Memory
