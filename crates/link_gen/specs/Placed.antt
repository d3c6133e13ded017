-- Where the parts of an object stand in its file.
use Rattle.std.specs.Prelude.{ℕ, ◌+◌, ◌*◌, ◌<◌, ◌≡◌, List, length}
use Rattle.mo_bytes.specs.Number.{number}
use Rattle.mo_format.specs.Header.{mach_header_at}
use Rattle.mo_format.specs.Relocation.{relocation_info_at}
use Rattle.mo_format.specs.Segment.{section_header_at, segment_command_at}
use Rattle.mo_format.specs.Symbol.{symtab_command_at}
use Rattle.link_gen.specs.Calls.{function_count, own_weaks}
use Rattle.link_gen.specs.Generated.{header, places_of, relocation_place, section, segment, symtab}
use Rattle.link_gen.specs.Parts.{instruction, relocation}
use Rattle.link_gen.specs.declared.calls.MadeObject.{MadeObject}
use Rattle.link_gen.specs.declared.front.TheConstants.{TEXT_PLACE}

-- each structure is read at its place: the header, both commands with the section, the instructions, the relocations
pub record ArePlaced (made : MadeObject) (bytes : List ℕ) : Type 0 where
  pub header_is : mach_header_at bytes 0 ≡ header
  pub segment_is : segment_command_at bytes 32 ≡ segment (places_of made)
  pub section_is : section_header_at bytes 104 ≡ section (places_of made)
  pub symtab_is : symtab_command_at bytes 184 ≡ symtab (places_of made)
  pub instructions_are : (k : ℕ) → k < 4 * function_count made + length (own_weaks made) → number 4 bytes (TEXT_PLACE + 4 * k) ≡ instruction made k
  pub relocations_are : (r : ℕ) → r < 3 * function_count made → relocation_info_at bytes (relocation_place (places_of made) + 8 * r) ≡ relocation made r
