-- The command that the words of a command line are.
use Rattle.std.specs.Prelude.{ℕ, ◌^◌, nat_lt, List, length, Option, Some, None, Result, Ok, Err, if◌then◌else◌}
use Rattle.link_steps.specs.Steps.{map_err}
use Rattle.link_steps.specs.declared.fault.StepFault.{StepFault}
use Rattle.link_steps.specs.declared.fault.StepFault.TheVariants as fault
use Rattle.mo_cmd.specs.Command.{command_by}
use Rattle.command_line.specs.declared.command.Command.{Command}
use Rattle.mo_cmd.specs.declared.read.CommandLine.{CommandLine}
use Rattle.mo_cmd.specs.declared.parts.Rows.{Rows}
use Rattle.mo_cmd.specs.declared.parts.Rows.TheVariants as rows
use Rattle.mo_types.specs.Gives.{◌>>=◌}
use Rattle.mo_types.specs.declared.answer.Refusal.TheVariants.{Limit}
use Rattle.mo_types.specs.declared.cause.Which.TheVariants.{Inputs}
use Rattle.link_engine.specs.Stop.{usage_fault_for}
use Rattle.link_engine.specs.declared.stop.Stop.{Stop}
use Rattle.link_engine.specs.declared.stop.Stop.TheVariants.{Refused}

-- WHAT THE LINK HAS YET: the options of other forms count as unknown
abbrev pub linked_rows : Rows
linked_rows = rows.Stripping

-- the command of the words, or the fault of the least word that has one
abbrev pub commanded : List (List ℕ) → Result Command (StepFault Stop)
commanded words = map_err usage_fault_for (command_by linked_rows words)

-- the command of a line that was read
abbrev pub command_of_line : CommandLine → Command
command_of_line line = line.command

-- each input has a position, a number of 16 bits
abbrev pub crowd_stop : Command → Option Stop
crowd_stop command = if nat_lt (length command.inputs) (2 ^ 16) then None else Some (Refused (Limit Inputs))

abbrev pub unless_crowded : Option Stop → Command → Result Command (StepFault Stop)
unless_crowded None command = Ok command
unless_crowded (Some why) command = Err (fault.Stop why)

-- the command of the words where it has no more inputs than have positions
unfoldable pub command_of : List (List ℕ) → Result Command (StepFault Stop)
command_of words = commanded words >>= λ command. unless_crowded (crowd_stop command) command
