-- The object that made bytes are: one section, whose calls name symbols.
use Rattle.std.specs.Prelude.{ℕ, ◌+◌, ◌*◌, ◌/◌, ◌%◌, ◌≡◌, Bool, true, false, List, [], ◌∷◌, codes, map, slice_get, Option, Some, None}
use Rattle.std.specs.List.{flat_map, range_with_len}
use Rattle.mo_bytes.specs.Number.{number_bytes}
use Rattle.mo_format.specs.declared.loader.TheConstants.{S_ATTR_PURE_INSTRUCTIONS, S_ATTR_SOME_INSTRUCTIONS, S_REGULAR}
use Rattle.mo_format.specs.declared.reloc.TheConstants.{ARM64_RELOC_BRANCH26}
use Rattle.mo_types.specs.declared.object.Object.{Object}
use Rattle.mo_types.specs.declared.object.RawReloc.{RawReloc}
use Rattle.mo_types.specs.declared.object.Section.{Section}
use Rattle.mo_types.specs.declared.object.Symbol.{Symbol}
use Rattle.mo_types.specs.declared.object.SymbolKind.{SymbolKind}
use Rattle.mo_types.specs.declared.object.SymbolKind.TheVariants.{Defined, Undefined}
use Rattle.link_gen.specs.Calls.{called, first_function, function_count}
use Rattle.link_gen.specs.Generated.{places_of, relocation_place}
use Rattle.link_gen.specs.Names.{name_of}
use Rattle.link_gen.specs.Parts.{instructions, text_size}
use Rattle.link_gen.specs.Symbols.{number_of, symbols_of}
use Rattle.link_gen.specs.declared.calls.MadeObject.{MadeObject}
use Rattle.link_gen.specs.declared.front.TheConstants.{TEXT_PLACE}
use Rattle.link_gen.specs.declared.names.SymbolName.{SymbolName}
use Rattle.link_gen.specs.declared.names.SymbolName.TheVariants.{Weak}
use Rattle.link_gen.specs.declared.symbols.MadeSymbol.{MadeSymbol}

-- the relocation of a call, of which each function has three
unfoldable pub call_at : MadeObject → ℕ → RawReloc
call_at made r = record {
  address = 16 * (r / 3) + 4 * (r % 3);
  number = number_of (symbols_of made) (called made.count (first_function made + r / 3) (r % 3));
  pcrel = true;
  length = 2;
  external = true;
  kind = ARM64_RELOC_BRANCH26;
}

-- the one section: `__TEXT,__text`, at address 0, aligned to 2^2
unfoldable pub text_section : MadeObject → Section
text_section made = record {
  segment = codes "__TEXT";
  name = codes "__text";
  address = 0;
  size = text_size made;
  align = 2;
  kind = S_REGULAR;
  attributes = S_ATTR_PURE_INSTRUCTIONS + S_ATTR_SOME_INSTRUCTIONS;
  file_offset = TEXT_PLACE;
  reloc_offset = relocation_place (places_of made);
  bytes = flat_map (number_bytes 4) (instructions made);
  relocs = map (call_at made) (range_with_len 0 (3 * function_count made));
}

-- in the section, or in another object
abbrev pub kind_of : Option ℕ → SymbolKind
kind_of (Some place) = Defined 1 place
kind_of None = Undefined

-- a definition over which one that isn't weak wins
abbrev pub is_weak : SymbolName → Option ℕ → Bool
is_weak (Weak k) (Some place) = true
is_weak _ _ = false

-- a symbol that all objects see
unfoldable pub symbol_of : MadeSymbol → Symbol
symbol_of symbol = record {
  name = name_of symbol.name;
  kind = kind_of symbol.place;
  external = true;
  hidden = false;
  weak_def = is_weak symbol.name symbol.place;
  weak_ref = false;
  no_strip = false;
  alt = false;
}

-- an object whose section may be cut at its symbols
unfoldable pub made_object : MadeObject → Object
made_object made = record {
  subsections = true;
  sections = text_section made ∷ [];
  symbols = map symbol_of (symbols_of made);
}

-- the relocation of a number in the first section stands at a place, and names a symbol
pub record NamesAt (object : Object) (number place : ℕ) (name : List ℕ) : Type 0 where
  pub section : Section
  pub first : slice_get object.sections 0 ≡ Some section
  pub relocation : RawReloc
  pub is : slice_get section.relocs number ≡ Some relocation
  pub place_is : relocation.address ≡ place
  pub symbol : Symbol
  pub symbol_is : slice_get object.symbols relocation.number ≡ Some symbol
  pub name_is : symbol.name ≡ name
