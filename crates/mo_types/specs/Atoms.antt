-- The atoms of an object. A linked section is cut into pieces, each of which is placed as a whole
-- (`loader.h`: MH_SUBSECTIONS_VIA_SYMBOLS; `nlist.h`: N_ALT_ENTRY).
use Rattle.std.specs.Prelude.{ℕ, zero, suc, ◌+◌, ◌-◌, ◌%◌, ◌==◌, ◌&&◌, ◌||◌, Bool, false, not, nat_eq, nat_lt, min, List, [], ◌∷◌, ◌++◌, filter, slice_index, slice_index_or, codes, Option, Some, None, if◌then◌else◌}
use Rattle.std.specs.Int.{w64, trailing_zeros}
use Rattle.std.specs.List.{list_any, starts_with, range_with_len}
use Rattle.mo_types.specs.declared.atom.Atom.{Atom}
use Rattle.mo_types.specs.declared.key.FileId.{FileId}
use Rattle.mo_types.specs.declared.object.Section.{Section}
use Rattle.mo_types.specs.declared.object.Symbol.{Symbol}
use Rattle.mo_types.specs.declared.object.SymbolKind.{SymbolKind}
use Rattle.mo_types.specs.declared.object.SymbolKind.TheVariants.{Defined}
use Rattle.mo_types.specs.declared.object.Object.{Object}
use Rattle.mo_types.specs.Whole.{is_dropped, is_strings, literal_size}

-- a definition in the section of a number, at an address
abbrev pub is_defined_at : ℕ → ℕ → SymbolKind → Bool
is_defined_at number address (Defined section value) = section == number && value == address
is_defined_at number address _ = false

-- a symbol at which a section may be cut: no alternative entry, and no name of an assembler's own, which
-- begins with `L`
abbrev pub may_cut : Symbol → Bool
may_cut symbol = not symbol.alt && not (starts_with nat_eq symbol.name (codes "L"))

-- Whether a section is cut at an offset above 0 and below its size: at each literal where it has literals of
-- one size, after each NUL where it has strings, whatever symbols stand there; else at the symbols that may
-- cut, in an object that allows it.
abbrev pub begins_piece : Object → ℕ → Section → Option ℕ → ℕ → Bool
begins_piece object number section (Some size) at = at % size == 0
begins_piece object number section None at =
    if is_strings section.kind then slice_index section.bytes (at - 1) == 0
    else object.subsections && list_any (λ symbol. may_cut symbol && is_defined_at number (section.address + at) symbol.kind) object.symbols

-- whether the section of a number is cut at an offset
unfoldable pub is_cut : Object → ℕ → Section → ℕ → Bool
is_cut object number section at = at == 0 || (nat_lt at section.size && begins_piece object number section (literal_size section.kind) at)

-- the cuts of a section, in order; one of size 0 has its one cut at 0
unfoldable pub cuts : Object → ℕ → Section → List ℕ
cuts object number section = 0 ∷ filter (is_cut object number section) (range_with_len 1 (section.size - 1))

-- the greatest number not above a bound that passes a test, or 0
abbrev pub greatest : (ℕ → Bool) → ℕ → ℕ
greatest test zero = zero
greatest test (suc bound) = if test (suc bound) then suc bound else greatest test bound

-- the cut of the atom to which an offset of a section belongs, its end included
abbrev pub cut_of : Object → ℕ → Section → ℕ → ℕ
cut_of object number section offset = greatest (is_cut object number section) offset

-- the alignment exponent at an offset of a section: the section's own, or that of the offset's lowest set bit
-- where it is smaller
unfoldable pub align_at : ℕ → ℕ → ℕ
align_at align offset = if offset == 0 then align else min align (trailing_zeros w64 offset)

-- the piece of a section from one offset to another
unfoldable pub piece : FileId → ℕ → Section → ℕ → ℕ → Atom
piece file number section from to = record {
  key = record { file = file; section = number; offset = from };
  size = to - from;
  align = align_at section.align from;
}

-- the pieces that begin at rising cuts, each of which ends at the next cut, the last at the section's end
abbrev pub pieces : FileId → ℕ → Section → List ℕ → List Atom
pieces file number section [] = []
pieces file number section (from ∷ cuts) = piece file number section from (slice_index_or cuts 0 section.size) ∷ pieces file number section cuts

-- the atoms of a section: none where it isn't linked
unfoldable pub section_atoms : Object → FileId → ℕ → Section → List Atom
section_atoms object file number section =
    if is_dropped section then [] else pieces file number section (cuts object number section)

-- the atoms of the sections whose numbers begin with a number
abbrev pub atoms_from : Object → FileId → ℕ → List Section → List Atom
atoms_from object file number [] = []
atoms_from object file number (section ∷ sections) = section_atoms object file number section ++ atoms_from object file (number + 1) sections

-- the atoms of an object, whose sections are numbered from 1
unfoldable pub atoms_of : Object → FileId → List Atom
atoms_of object file = atoms_from object file 1 object.sections
