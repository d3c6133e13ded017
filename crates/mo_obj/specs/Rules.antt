-- The rules of objects, and at which places of a file each of them fails. A rule's places are asked for where the
-- rules before it fail at none.
use Rattle.std.specs.Prelude.{ℕ, suc, ◌+◌, ◌*◌, ◌<◌, ◌≡◌, ◌⊎◌, Bool, true, false, List, length, slice_get, Some, None}
use Rattle.mo_types.specs.RelocationRules.{RelocationRule, pair_fault, shape_fault, place_fault, target_fault}
use Rattle.mo_types.specs.Whole.{is_dropped}
use Rattle.mo_types.specs.declared.cause.Rule.{Rule}
use Rattle.mo_types.specs.declared.cause.Rule.TheVariants as rule
use Rattle.mo_types.specs.declared.object.Object.{Object}
use Rattle.mo_types.specs.declared.object.Section.{Section}
use Rattle.mo_obj.specs.Commands.{commands_end, is_broken, is_whole_segment}
use Rattle.mo_strings.specs.Strings.{string_at}
use Rattle.unwind_read.specs.Unwinds.{fault_places}
use Rattle.mo_obj.specs.Parts.{commands_in, frame_in, header_in, headers_in, object_in, sections_in, segments_in, symtab_in, symtabs_in}
use Rattle.mo_obj.specs.Sections.{has_broken_literals, has_relocs_outside, header_place, is_outside}
use Rattle.mo_obj.specs.Symbols.{entry_at, entry_place, is_placed, is_symtab, strings_of}
use Rattle.mo_obj.specs.declared.commands.Frame.{Frame}

-- the rules in their order; the other ones aren't asked of objects
abbrev pub rank : Rule → ℕ
rank rule.Header = 0
rank rule.Commands = 1
rank rule.Segment = 2
rank rule.Section = 3
rank rule.Relocations = 4
rank rule.Symbols = 5
rank rule.Symbol = 6
rank rule.Literals = 7
rank rule.Pair = 8
rank rule.Shape = 9
rank rule.Place = 10
rank rule.Target = 11
rank rule.Unwind = 12
rank _ = 13

-- Header: the file ends before its header does
pub record IsCutShort (bytes : List ℕ) (place : ℕ) : Type 0 where
  pub short : length bytes < 32
  pub start : place ≡ 0

-- a place of a list, and one behind the first
abbrev pub IsIn : List ℕ → ℕ → Type 0
IsIn places place = (number : ℕ) × (slice_get places number ≡ Some place)

abbrev pub IsLaterIn : List ℕ → ℕ → Type 0
IsLaterIn places place = (number : ℕ) × (slice_get places (suc number) ≡ Some place)

-- Commands: a command that passes the end, or whose size is below 8 or no multiple of 8
pub record IsBrokenCommand (bytes : List ℕ) (place : ℕ) : Type 0 where
  pub command : IsIn (commands_in bytes) place
  pub broken : is_broken bytes (commands_end bytes (header_in bytes)) place ≡ true

-- Segment: a segment that isn't whole
pub record IsBrokenSegment (bytes : List ℕ) (place : ℕ) : Type 0 where
  pub segment : IsIn (segments_in bytes) place
  pub broken : is_whole_segment bytes place ≡ false

-- or any segment but the first, or any symbol table but the first
abbrev pub IsBadSegment : List ℕ → ℕ → Type 0
IsBadSegment bytes place =
    (IsBrokenSegment bytes place ⊎ IsLaterIn (segments_in bytes) place) ⊎ IsLaterIn (symtabs_in bytes) place

-- Section, Relocations, Literals: the header whose section fails a test
pub record IsHeaderOf {A : Type 0} (frame : Frame) (xs : List A) (test : A → Bool) (place : ℕ) : Type 0 where
  pub number : ℕ
  pub section : A
  pub is : slice_get xs number ≡ Some section
  pub at_fault : test section ≡ true
  pub header : place ≡ header_place frame number

-- Symbols: a symbol table of another size, or whose entries or strings pass the file's end
pub record IsBrokenSymtab (bytes : List ℕ) (place : ℕ) : Type 0 where
  pub command : (frame_in bytes).symtab ≡ Some place
  pub broken : is_symtab bytes place ≡ false

-- Symbol: an entry whose name isn't among the strings, or which is defined outside its section
pub record IsBadSymbol (bytes : List ℕ) (place : ℕ) : Type 0 where
  pub number : ℕ
  pub within : number < (symtab_in bytes).nsyms
  pub entry : place ≡ entry_place (symtab_in bytes) number
  pub bad :
      (string_at (strings_of bytes (symtab_in bytes)) (entry_at bytes (symtab_in bytes) number).n_strx ≡ None)
      ⊎ (is_placed (sections_in bytes) (entry_at bytes (symtab_in bytes) number) ≡ false)

-- Pair, Shape, Place, Target: a relocation of a linked section that is at fault by a rule
pub record IsBadRelocation (fails : RelocationRule) (object : Object) (place : ℕ) : Type 0 where
  pub number : ℕ
  pub section : Section
  pub is : slice_get object.sections number ≡ Some section
  pub linked : is_dropped section ≡ false
  pub at : ℕ
  pub within : at < length section.relocs
  pub relocation : ℕ
  pub bad : fails object (number + 1) section at ≡ Some relocation
  pub there : place ≡ section.reloc_offset + 8 * relocation

-- a rule fails at a place
abbrev pub Fails : List ℕ → Rule → ℕ → Type 0
Fails bytes rule.Header place = IsCutShort bytes place
Fails bytes rule.Commands place = IsBrokenCommand bytes place
Fails bytes rule.Segment place = IsBadSegment bytes place
Fails bytes rule.Section place = IsHeaderOf (frame_in bytes) (headers_in bytes) (is_outside (length bytes)) place
Fails bytes rule.Relocations place = IsHeaderOf (frame_in bytes) (headers_in bytes) (has_relocs_outside (length bytes)) place
Fails bytes rule.Symbols place = IsBrokenSymtab bytes place
Fails bytes rule.Symbol place = IsBadSymbol bytes place
Fails bytes rule.Literals place = IsHeaderOf (frame_in bytes) (sections_in bytes) has_broken_literals place
Fails bytes rule.Pair place = IsBadRelocation pair_fault (object_in bytes) place
Fails bytes rule.Shape place = IsBadRelocation shape_fault (object_in bytes) place
Fails bytes rule.Place place = IsBadRelocation place_fault (object_in bytes) place
Fails bytes rule.Target place = IsBadRelocation target_fault (object_in bytes) place
Fails bytes rule.Unwind place = IsIn (fault_places (object_in bytes)) place
Fails bytes _ place = ⊥
