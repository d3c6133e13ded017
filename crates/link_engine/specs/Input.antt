-- The inputs of a command with the bytes that were found.
use Rattle.std.specs.Prelude.{ℕ, ◌+◌, ◌||◌, Bool, List, [], ◌∷◌}
use Rattle.input_fetch.specs.declared.content.Content.{Content}
use Rattle.input_files.specs.declared.input.Input.{Input}
use Rattle.command_line.specs.declared.command.Command.{Command}
use Rattle.command_line.specs.declared.command.CommandInput.{CommandInput}

-- messages call an input by the path under which it was found; all members of its archive are loaded where its word says so
-- or `-all_load` does (ld(1))
abbrev pub input_at : Bool → ℕ → CommandInput → Content → Input
input_at all at input content = record { position = at; label = content.label; bytes = content.bytes; forced = all || input.forced }

-- the inputs from a position on
abbrev pub inputs_from : Bool → ℕ → List CommandInput → List Content → List Input
inputs_from all at [] contents = []
inputs_from all at (input ∷ inputs) [] = []
inputs_from all at (input ∷ inputs) (content ∷ contents) = input_at all at input content ∷ inputs_from all (at + 1) inputs contents

abbrev pub inputs_with : Command → List Content → List Input
inputs_with command contents = inputs_from command.all_load 0 command.inputs contents
