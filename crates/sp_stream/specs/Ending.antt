-- How a program ends, by the status of its run.
use Rattle.std.specs.Prelude.{ℕ, List, codes}
use Rattle.sp_stream.specs.declared.status.Status.{Status}
use Rattle.sp_stream.specs.declared.status.Status.TheVariants.{Done, Usage, ReadFault, WriteFault, OutOfMemory}
use Rattle.sp_stream.specs.declared.status.Status.TheVariants.{InputTooLong}

-- the exit code
abbrev pub code_of : Status → ℕ
code_of Done = 0
code_of Usage = 1
code_of ReadFault = 2
code_of WriteFault = 3
code_of OutOfMemory = 4
code_of InputTooLong = 5

-- the words for it
abbrev pub words_for : Status → List ℕ
words_for Done = codes "done"
words_for Usage = codes "bad words"
words_for ReadFault = codes "read fault"
words_for WriteFault = codes "write fault"
words_for OutOfMemory = codes "out of memory"
words_for InputTooLong = codes "input too long"
