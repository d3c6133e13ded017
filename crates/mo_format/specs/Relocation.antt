-- Relocations.
use Rattle.std.specs.Prelude.{ℕ, ◌+◌, ◌*◌, ◌/◌, ◌%◌, ◌^◌, ◌<◌, ◌==◌, List, [], ◌∷◌, Bool, if◌then◌else◌}
use Rattle.mo_bytes.specs.Number.{number}
use Rattle.mo_format.specs.Fields.{Field, Number, spelled}
use Rattle.mo_format.specs.declared.relocation.RelocationInfo.{RelocationInfo}

-- the bit fields, from the low bit of the second number: r_symbolnum 24, r_pcrel 1, r_length 2, r_extern 1, r_type 4
unfoldable pub unpacked : ℕ → ℕ → RelocationInfo
unpacked address word = record {
  r_address = address;
  r_symbolnum = word % 0x1000000;
  r_pcrel = word / 0x1000000 % 2 == 1;
  r_length = word / 0x2000000 % 4;
  r_extern = word / 0x8000000 % 2 == 1;
  r_type = word / 0x10000000;
}

-- reloc.h: relocation_info, 8 bytes
abbrev pub relocation_info_at : List ℕ → ℕ → RelocationInfo
relocation_info_at bytes at = unpacked (number 4 bytes at) (number 4 bytes (at + 4))

-- each bit field can hold its number
pub record IsPackable (info : RelocationInfo) : Type 0 where
  pub address : info.r_address < 2 ^ 32
  pub number : info.r_symbolnum < 2 ^ 24
  pub length : info.r_length < 4
  pub kind : info.r_type < 16

abbrev pub bit : Bool → ℕ
bit b = if b then 1 else 0

-- the bit fields in one number
abbrev pub packed : RelocationInfo → ℕ
packed info =
    info.r_symbolnum + 0x1000000 * bit info.r_pcrel + 0x2000000 * info.r_length + 0x8000000 * bit info.r_extern
    + 0x10000000 * info.r_type

abbrev pub relocation_info_fields : RelocationInfo → List Field
relocation_info_fields info = Number 4 info.r_address ∷ Number 4 (packed info) ∷ []

abbrev pub relocation_info_bytes : RelocationInfo → List ℕ
relocation_info_bytes info = spelled (relocation_info_fields info)
