-- The line that answers each fault of a line. This project's own.
use Rattle.std.specs.Prelude.{ℕ, List, [], codes}
use Rattle.sp_lang.specs.declared.fault.LineFault.{LineFault}
use Rattle.sp_lang.specs.declared.fault.LineFault.TheVariants.{UnknownCommand, WordCount, NotNumber, BadPartition, BadE}
use Rattle.sp_lang.specs.declared.fault.LineFault.TheVariants.{DegreePast, NotRegular, BadResidue, LongLine, BadByte}
use Rattle.sp_lang.specs.declared.fault.LineFault.TheVariants.{DegreesDiffer, NotRestricted, UnknownConvention, Memory}
use Rattle.sp_replies.specs.Words.{line_of}

abbrev pub fault_line : LineFault → List ℕ
fault_line UnknownCommand = line_of (codes "error 1 unknown command")
fault_line WordCount = line_of (codes "error 2 wrong number of words")
fault_line NotNumber = line_of (codes "error 3 not a number")
fault_line BadPartition = line_of (codes "error 4 not a partition")
fault_line BadE = line_of (codes "error 5 e not in 2..64")
fault_line DegreePast = line_of (codes "error 6 degree past 30")
fault_line NotRegular = line_of (codes "error 7 not e-regular")
fault_line NotRestricted = line_of (codes "error 7 not e-restricted")
fault_line BadResidue = line_of (codes "error 8 residue not below e")
fault_line LongLine = line_of (codes "error 12 line past 4096 bytes")
fault_line BadByte = line_of (codes "error 13 byte not allowed")
fault_line DegreesDiffer = line_of (codes "error 17 degrees differ")
fault_line UnknownConvention = line_of (codes "error 19 unknown convention")
-- No line is at fault for it.
fault_line Memory = []
