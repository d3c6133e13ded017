-- The command of words that have one, by its two steps.
use Rattle.std.proofs.Common.{◌≡◌, ℕ, List, Option, None, Result, Ok, ap, ◌∙◌}
use Rattle.command_line.specs.declared.command.Command.{Command}
use Rattle.link_steps.specs.declared.fault.StepFault.{StepFault}
use Rattle.mo_types.specs.Gives.{◌>>=◌}
use Rattle.link_engine.specs.Command.{command_of, commanded, crowd_stop, unless_crowded}
use Rattle.link_engine.specs.declared.stop.Stop.{Stop}

abbrev counted : Command → Result Command (StepFault Stop)
counted command = unless_crowded (crowd_stop command) command

pub command_read : (words : List (List ℕ)) (command : Command) → commanded words ≡ Ok command → crowd_stop command ≡ None → command_of words ≡ Ok command
unfolding command_of
command_read words command read few = ap (λ (r : Result Command (StepFault Stop)). r >>= counted) read ∙ ap (λ (o : Option Stop). unless_crowded o command) few
