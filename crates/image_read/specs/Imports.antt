-- The imports of an image's chained fixups and their names (`mach-o/fixup-chains.h`).
use Rattle.std.specs.Prelude.{ℕ, ◌+◌, ◌*◌, ◌/◌, ◌==◌, nat_le, nat_lt, List, length, Option, Some, None, if◌then◌else◌}
use Rattle.std.specs.Option.{option_and_then, option_map}
use Rattle.mo_strings.specs.Strings.{string_at}
use Rattle.mo_bytes.specs.Number.{number, number_at}
use Rattle.image_format.specs.declared.fixup_chains.TheConstants.{DYLD_CHAINED_IMPORT, DYLD_CHAINED_IMPORT_ADDEND64}
use Rattle.mo_format.specs.declared.loader.TheConstants.{LC_DYLD_CHAINED_FIXUPS}
use Rattle.mo_types.specs.Rows.{when}
use Rattle.mo_types.specs.Scan.{first_some}
use Rattle.image_read.specs.Commands.{cmd, commands_of, fits}
use Rattle.image_read.specs.declared.imports.FixupsHeader.{FixupsHeader}

-- the place, where the command of fixups stands there
unfoldable pub fixups_at : List ℕ → ℕ → Option ℕ
fixups_at image at = when (cmd image at == LC_DYLD_CHAINED_FIXUPS) at

-- the first command of fixups
unfoldable pub fixups_command : List ℕ → Option ℕ
fixups_command image = first_some (fixups_at image) (commands_of image)

-- dyld_chained_fixups_header, 28 bytes
abbrev pub header_at : List ℕ → ℕ → FixupsHeader
header_at image at = record {
  at = at;
  starts_offset = number 4 image (at + 4);
  imports_offset = number 4 image (at + 8);
  symbols_offset = number 4 image (at + 12);
  imports_count = number 4 image (at + 16);
  imports_format = number 4 image (at + 20);
}

abbrev pub whole_header_at : List ℕ → ℕ → Option FixupsHeader
whole_header_at image at = if nat_le (at + 28) (length image) then Some (header_at image at) else None

-- the header, at dataoff of the command (linkedit_data_command), where it lies within the file
abbrev pub header_by : List ℕ → ℕ → Option FixupsHeader
header_by image command = option_and_then (whole_header_at image) (number_at 4 image (command + 8))

unfoldable pub header_of : List ℕ → Option FixupsHeader
header_of image = if fits image then option_and_then (header_by image) (fixups_command image) else None

-- name_offset of an import of 16 bytes at a place: the upper 32 bits of the first 8
abbrev pub wide_name_offset : List ℕ → ℕ → Option ℕ
wide_name_offset image at =
    option_and_then (λ word. option_map (λ addend. word / 0x100000000) (number_at 8 image (at + 8))) (number_at 8 image at)

-- name_offset of an import, by its number: in one of 4 bytes the upper 23 bits
abbrev pub name_offset : List ℕ → FixupsHeader → ℕ → Option ℕ
name_offset image header import =
    if header.imports_format == DYLD_CHAINED_IMPORT
    then option_map (λ word. word / 0x200) (number_at 4 image (header.at + header.imports_offset + 4 * import))
    else if header.imports_format == DYLD_CHAINED_IMPORT_ADDEND64
    then wide_name_offset image (header.at + header.imports_offset + 16 * import)
    else None

-- where the name of an import stands
abbrev pub name_place : List ℕ → ℕ → FixupsHeader → Option ℕ
name_place image import header =
    if nat_lt import header.imports_count
    then option_map (λ offset. header.at + header.symbols_offset + offset) (name_offset image header import)
    else None

-- the name of an import, by its number
unfoldable pub import_name : List ℕ → ℕ → Option (List ℕ)
import_name image import = option_and_then (string_at image) (option_and_then (name_place image import) (header_of image))
