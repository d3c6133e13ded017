-- The sections of an object, which of them are linked, and what holds of an object that was read whole
-- (`loader.h`: section_64; `nlist.h`: nlist_64; `reloc.h`: relocation_info).
use Rattle.std.specs.Prelude.{ℕ, ◌+◌, ◌-◌, ◌*◌, ◌%◌, ◌^◌, ◌≡◌, ◌≤◌, ◌<◌, ◌==◌, ◌&&◌, ◌||◌, Bool, not, bit_and, List, length, slice_index, slice_index_or, codes, All, IsTrue, Option, Some, None, IfSome, if◌then◌else◌}
use Rattle.std.specs.Str.{bytes_eq}
use Rattle.mo_format.specs.declared.loader.TheConstants.{S_16BYTE_LITERALS, S_4BYTE_LITERALS, S_8BYTE_LITERALS, S_ATTR_DEBUG, S_CSTRING_LITERALS, S_THREAD_LOCAL_ZEROFILL, S_ZEROFILL}
use Rattle.mo_types.specs.declared.object.Section.{Section}
use Rattle.mo_types.specs.declared.object.SymbolKind.{SymbolKind}
use Rattle.mo_types.specs.declared.object.SymbolKind.TheVariants.{Defined}
use Rattle.mo_types.specs.declared.object.Object.{Object}

-- a section that isn't linked: one for the linker itself, of debugging data (also by an
-- attribute), of bitcode, or of the frames that compact unwind stands for
unfoldable pub is_dropped : Section → Bool
is_dropped section =
    bytes_eq section.segment (codes "__LD") || bytes_eq section.segment (codes "__DWARF")
    || bytes_eq section.segment (codes "__LLVM") || not (bit_and section.attributes S_ATTR_DEBUG == 0)
    || (bytes_eq section.segment (codes "__TEXT") && bytes_eq section.name (codes "__eh_frame"))

-- the types of sections without bytes in the file
abbrev pub is_zerofill : ℕ → Bool
is_zerofill kind = kind == S_ZEROFILL || kind == S_THREAD_LOCAL_ZEROFILL

abbrev pub is_strings : ℕ → Bool
is_strings kind = kind == S_CSTRING_LITERALS

-- the bytes of one literal, in a section of literals of one size
abbrev pub literal_size : ℕ → Option ℕ
literal_size kind =
    if kind == S_4BYTE_LITERALS then Some 4 else if kind == S_8BYTE_LITERALS then Some 8
    else if kind == S_16BYTE_LITERALS then Some 16 else None

-- A section whose numbers have room, which has its bytes unless it is zerofill, whose strings end in NUL
-- and whose literals are whole, and whose relocations have numbers of 24 bits.
pub record IsWholeSection (section : Section) : Type 0 where
  pub addresses : section.address + section.size < 2 ^ 63
  pub contents : section.file_offset + section.size < 2 ^ 64
  pub relocations : section.reloc_offset + 8 * length section.relocs < 2 ^ 64
  pub bytes : length section.bytes ≡ (if is_zerofill section.kind then 0 else section.size)
  pub strings : IsTrue (is_strings section.kind) → 0 < section.size → slice_index section.bytes (section.size - 1) ≡ 0
  pub literals : IfSome (literal_size section.kind) (λ size. section.size % size ≡ 0)
  pub numbers : All (λ reloc. reloc.number < 2 ^ 24) section.relocs

-- a definition's section, by its number from 1, is there, and its address goes from that section's start
-- to its end
pub record IsDefinition (sections : List Section) (number value : ℕ) : Type 0 where
  pub numbered : 0 < number
  pub among : number ≤ length sections
  pub low : (d : Section) → (slice_index_or sections (number - 1) d).address ≤ value
  pub high : (d : Section) → value ≤ (slice_index_or sections (number - 1) d).address + (slice_index_or sections (number - 1) d).size

abbrev pub IsDefinedWithin : List Section → SymbolKind → Type 0
IsDefinedWithin sections (Defined section value) = IsDefinition sections section value
IsDefinedWithin sections _ = Unit {0}

-- an object that was read whole
pub record IsWhole (object : Object) : Type 0 where
  pub few_sections : length object.sections ≤ 255
  pub few_symbols : length object.symbols < 2 ^ 32
  pub sections : All IsWholeSection object.sections
  pub symbols : All (λ symbol. IsDefinedWithin object.sections symbol.kind) object.symbols
