-- What a line says under a convention: one command, or one fault. This project's own.
use Rattle.std.specs.Prelude.{ℕ, nat_eq, nat_lt, not, List, [], ◌∷◌, length, codes, Option, Some, None, Result, Ok, Err}
use Rattle.std.specs.Prelude.{if◌then◌else◌}
use Rattle.std.specs.List.{list_all, starts_with}
use Rattle.sp_lang.specs.Words.{is_allowed, words}
use Rattle.sp_lang.specs.Commands.{verb_of, places_of, command_of}
use Rattle.sp_lang.specs.Faults.{first_fault}
use Rattle.sp_lang.specs.declared.convention.Convention.{Convention}
use Rattle.sp_lang.specs.declared.command.Command.{Command}
use Rattle.sp_lang.specs.declared.command.Command.TheVariants.{Nothing}
use Rattle.sp_lang.specs.declared.fault.LineFault.{LineFault}
use Rattle.sp_lang.specs.declared.fault.LineFault.TheVariants.{LongLine, BadByte, UnknownCommand}
use Rattle.sp_lang.specs.declared.verb.Verb.{Verb}
use Rattle.sp_lang.specs.declared.TheConstants.{LINE_LIMIT}

abbrev pub or_fault : Command → Option LineFault → Result Command LineFault
or_fault command None = Ok command
or_fault command (Some fault) = Err fault

-- Behind the first word.
abbrev pub said_behind : Convention → Option Verb → List (List ℕ) → Result Command LineFault
said_behind convention None words = Err UnknownCommand
said_behind convention (Some verb) words =
    or_fault (command_of verb words) (first_fault convention (places_of verb) words)

-- A line without words says nothing, and a line whose first word begins with `#` is a comment.
abbrev pub said : Convention → List (List ℕ) → Result Command LineFault
said convention [] = Ok Nothing
said convention (first ∷ rest) =
    if starts_with nat_eq first (codes "#") then Ok Nothing else said_behind convention (verb_of first) rest

unfoldable pub reading : Convention → List ℕ → Result Command LineFault
reading convention line =
    if nat_lt LINE_LIMIT (length line) then Err LongLine else
    if not (list_all is_allowed line) then Err BadByte else
    said convention (words line)
