-- What the code makes an image of, as definitions have it.
use Rattle.std.specs.Prelude.{ℕ, List, []}
use Rattle.resolve.specs.Table.{goals_of}
use Rattle.image_make.specs.Made.{ImageInputs, with_info}
use Rattle.image_make.specs.declared.making.ImageInputs as code

abbrev pub inputs_of : code.ImageInputs → ImageInputs
inputs_of inputs = record {
  command = inputs.command.now;
  libs = inputs.libs.now;
  files = inputs.loaded.now.files;
  goals = goals_of inputs.goals.now;
  literals = inputs.symbols.now.literals;
  winners = inputs.symbols.now.winners;
  keys = inputs.keys.now;
  flags = inputs.flags;
  entry = inputs.entry.now;
  slots = inputs.slots.now;
  islands = inputs.islands.now;
  unwinds = inputs.unwinds.now;
  info = [];
}

-- with these bytes of `__unwind_info`
abbrev pub inputs_with : code.ImageInputs → List ℕ → ImageInputs
inputs_with inputs info = with_info (inputs_of inputs) info
