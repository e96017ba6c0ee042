-- The fault of an induction that a fault of a polynomial makes.
use Rattle.sp_laurent.specs.declared.fault.LaurentFault.{LaurentFault}
use Rattle.sp_laurent.specs.declared.fault.LaurentFault.TheVariants.{TooLarge, Memory}
use Rattle.sp_power.specs.declared.fault.PowerFault.{PowerFault}
use Rattle.sp_power.specs.declared.fault.PowerFault.TheVariants.{TooLarge as OwnTooLarge, Memory as OwnMemory}

-- Its memory is wanting, or its size is past the limit.
abbrev pub fault_of : LaurentFault → PowerFault
fault_of TooLarge = OwnTooLarge
fault_of Memory = OwnMemory
