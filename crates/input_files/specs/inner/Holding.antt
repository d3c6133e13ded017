-- What files of the inputs are and hold, as the code has it.
use Rattle.std.specs.Prelude.{ℕ, ◌<◌, ◌^◌, List, All}
use Rattle.mo_types.specs.declared.key.FileId.{FileId}
use Rattle.input_files.specs.Files.{Content}
use Rattle.input_files.specs.Sources.{AreInOrder, inputs_of}
use Rattle.input_files.specs.declared.contents.Held.{Held}
use Rattle.input_files.specs.declared.sources.Source.{Source}

abbrev pub held_content : Held → Content
held_content held = record { label = held.label; bytes = held.bytes }

-- the id of a member
abbrev pub member_at : ℕ → ℕ → FileId
member_at position member = record { position = position; member = member }

-- files that can be read
pub record AreReadable (sources : List Source) (ids : List FileId) : Type 0 where
  pub order : AreInOrder (inputs_of sources)
  pub few : All (λ id. id.member < 2 ^ 20) ids
