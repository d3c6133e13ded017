-- An object that the definition gives of bytes is whole.
use Rattle.std.proofs.Common.{◌≡◌, ℕ, zero, suc, ◌+◌, ◌-◌, ◌/◌, ◌%◌, ◌^◌, ◌<◌, ◌≤◌, ◌==◌, ◌&&◌, ◌||◌, List, [], ◌∷◌, length, map, take, drop, get_or, slice_get, nat_lt, nat_le, Bool, true, false, not, Option, Some, None, Result, Ok, Err, All, if◌then◌else◌, refl, sym, ap, ◌∙◌, subst, arith, get_or-drop, length-drop, lit<}
use Rattle.std.specs.List.{position, range_with_len}
use Rattle.std.specs.Option.{option_map_or}
use Rattle.std.proofs.Math.Nat.{mod-lt}
use Rattle.std.proofs.lemmas.Bool.{leb-false, leb-true, ltb-false}
use Rattle.std.proofs.lemmas.List.{get_or-map, length-map, length-take-le}
use Rattle.std.proofs.lemmas.List.FromFn.{get_or-map-range_with_len, length-map-range_with_len}
use Rattle.std.proofs.lemmas.Option.{get_or_from_slice_get, slice_get_within}
use Rattle.byteorder.specs.Numbers.{little_from-lt}
use Rattle.mo_bytes.specs.Number.{number}
use Rattle.mo_format.specs.Relocation.{unpacked}
use Rattle.mo_format.specs.Segment.{segment_command_at}
use Rattle.mo_format.specs.Symbol.{symtab_command_at}
use Rattle.mo_format.specs.declared.segment.SectionHeader.{SectionHeader}
use Rattle.mo_format.specs.declared.symbol.Nlist.{Nlist}
use Rattle.mo_format.specs.declared.symbol.SymtabCommand.{SymtabCommand}
use Rattle.mo_types.specs.Gives.{◌>>=◌, each_from, guarded}
use Rattle.mo_types.specs.RelocationRules.{is_within}
use Rattle.mo_types.specs.Whole.{IsDefinedWithin, IsDefinition, is_zerofill}
use Rattle.mo_types.specs.declared.cause.Rule.{Rule}
use Rattle.mo_types.specs.declared.cause.Rule.TheVariants as rule
use Rattle.mo_types.specs.declared.object.RawReloc.{RawReloc}
use Rattle.mo_types.specs.declared.object.Section.{Section}
use Rattle.mo_types.specs.declared.object.Symbol.{Symbol}
use Rattle.mo_types.specs.declared.object.SymbolKind.TheVariants.{Undefined, Common, Defined, Absolute, Passed}
use Rattle.mo_types.specs.declared.object_fault.ObjFault.{ObjFault}
use Rattle.mo_types.specs.declared.object_fault.ObjFault.TheVariants.{Malformed}
use Rattle.mo_obj.specs.Commands.{bad_segment, count_at, frame_at, frame_of, frame_with, is_fit, is_whole_segment, lesser, segments}
use Rattle.mo_obj.specs.Each.{Each}
use Rattle.mo_obj.specs.Faults.{keeps}
use Rattle.mo_obj.specs.Names.{part}
use Rattle.mo_strings.specs.Strings.{string_at}
use Rattle.mo_obj.specs.Read.{AreBytes}
use Rattle.mo_obj.specs.Sections.{IsNumbered, IsRoomy, each_keeps, has_relocs_outside, header_at, header_place, headers_of, is_outside, keeps_at, reloc_at, relocs_of, section_of, sections_of, type_of}
use Rattle.mo_obj.specs.Symbols.{IsInPlace, common_or_undefined, entry_at, entry_place, is_defined_within, is_external, is_placed, is_stab, is_symtab, kind_of, no_symtab, strings_of, symbol_at, symbol_of, symbol_with, symbols_of, symtab_of}
use Rattle.mo_obj.specs.Symbols as symbols
use Rattle.mo_obj.specs.declared.commands.Frame.{Frame}
use Rattle.mo_obj.proofs.SectionLemmas.{none_at_fault}

pub both : (a b : Bool) → (a && b) ≡ true → (a ≡ true) × (b ≡ true)
both true b e = (refl, e)
both false b e = absurd cc

neither : (a b : Bool) → (a || b) ≡ false → (a ≡ false) × (b ≡ false)
neither true b e = absurd cc
neither false b e = (refl, e)

-- two steps that give a value
pub bind_ok : {A B E : Type 0} (r : Result A E) (next : A → Result B E) (y : B) → (r >>= next) ≡ Ok y → (x : A) × (r ≡ Ok x) × (next x ≡ Ok y)
bind_ok (Ok x) next y e = (x, refl, e)
bind_ok (Err d) next y e = absurd cc

-- numbers of bytes

number_small : (w at : ℕ) (bytes : List ℕ) → AreBytes bytes → number w bytes at < 256 ^ w
unfolding number
number_small w at bytes are = little_from-lt 0 w (drop at bytes) (λ k. rw get_or-drop (are (at + k)))

front_bytes : (n : ℕ) (bytes : List ℕ) → AreBytes bytes → AreBytes (take n bytes)
front_bytes zero bytes are i = lit< tt
front_bytes (suc n) [] are i = are i
front_bytes (suc n) (b ∷ bytes) are zero = are 0
front_bytes (suc n) (b ∷ bytes) are (suc i) = front_bytes n bytes (λ k. are (suc k)) i

-- rules that hold

kept_none : {A : Type 0} (rule : Rule) (found : Option ℕ) (x y : A) → keeps rule found x ≡ Ok y → (found ≡ None) × (x ≡ y)
kept_none rule None x y e = (refl, cc)
kept_none rule (Some at) x y e = absurd cc

no_place : (rule : Rule) (frame : Frame) (found : Option ℕ) (done : Unit {0}) → keeps_at rule frame found ≡ Ok done → found ≡ None
no_place rule frame None done e = refl
no_place rule frame (Some at) done e = absurd cc

pub all_keep : {X : Type 0} (rule : Rule) (frame : Frame) (test : X → Bool) (xs : List X) (done : Unit {0}) → each_keeps rule frame test xs ≡ Ok done → All (λ x. test x ≡ false) xs
all_keep rule frame test xs done e = none_at_fault test xs (position test xs) refl (no_place rule frame (position test xs) done e)

-- there are at most 255 sections

no_lesser : (a b : Option ℕ) → lesser a b ≡ None → a ≡ None
no_lesser None b e = refl
no_lesser (Some x) None e = absurd cc
no_lesser (Some x) (Some y) e = absurd cc

fit_few : (bytes : List ℕ) (at : ℕ) (room : Bool) → option_map_or (is_fit bytes at) (if room then Some (segment_command_at bytes at) else None) false ≡ true → count_at bytes at ≤ 255
fit_few bytes at true fit = leb-true (count_at bytes at) 255 (both _ _ (both _ _ fit).0).0
fit_few bytes at false fit = absurd cc

few_with : (bytes places : List ℕ) (symtab : Option ℕ) → bad_segment bytes places ≡ None → (frame_with bytes places symtab).count ≤ 255
few_with bytes [] symtab none = omega arith
few_with bytes (at ∷ others) symtab none = by_whole (is_whole_segment bytes at) refl
  where
    by_whole : (whole : Bool) → is_whole_segment bytes at ≡ whole → count_at bytes at ≤ 255
    by_whole true is = fit_few bytes at (nat_le (at + 72) (length bytes)) is
    by_whole false is = let bad : Some at ≡ None = rw is at none in absurd cc

pub few_sections : (bytes commands : List ℕ) (frame : Frame) → frame_of bytes commands ≡ Ok frame → frame.count ≤ 255
unfolding frame_of
few_sections bytes commands frame e =
    let kept = kept_none rule.Segment _ (frame_at bytes commands) frame e in
    subst (λ (f : Frame). f.count ≤ 255) kept.1 (few_with bytes (segments bytes commands) _ (no_lesser _ _ kept.0))

pub count_sections : (bytes : List ℕ) (frame : Frame) → length (sections_of bytes (headers_of bytes frame)) ≡ frame.count
unfolding sections_of headers_of
count_sections bytes frame = rw (length-map, length-map-range_with_len) refl

-- sections have room

record IsSmall (header : SectionHeader) : Type 0 where
  offset : header.offset < 2 ^ 32
  reloff : header.reloff < 2 ^ 32
  nreloc : header.nreloc < 2 ^ 32

header_small : (bytes : List ℕ) (frame : Frame) (i : ℕ) → AreBytes bytes → IsSmall (header_at bytes frame i)
unfolding header_at
header_small bytes frame i are = record {
  offset = number_small 4 (header_place frame i + 48) bytes are;
  reloff = number_small 4 (header_place frame i + 56) bytes are;
  nreloc = number_small 4 (header_place frame i + 60) bytes are;
}

sized : (zero : Bool) (bytes : List ℕ) (offset size : ℕ) → (not zero && nat_lt (length bytes) (offset + size)) ≡ false → length (if zero then [] else part bytes offset size) ≡ (if zero then 0 else size)
sized true bytes offset size room = refl
sized false bytes offset size room =
    let inside : offset + size ≤ length bytes = ltb-false (length bytes) (offset + size) room in
    length-take-le size (drop offset bytes) (rw length-drop (omega arith))

numbered : (bytes : List ℕ) (header : SectionHeader) (i : ℕ) → IsNumbered (reloc_at bytes header i)
unfolding reloc_at unpacked
numbered bytes header i = record { number = mod-lt _ (lit< tt) }

relocs_numbered : (bytes : List ℕ) (header : SectionHeader) (k : ℕ) (d : RawReloc) → k < header.nreloc → IsNumbered (get_or (relocs_of bytes header) k d)
unfolding relocs_of
relocs_numbered bytes header k d within =
    subst IsNumbered (sym (get_or-map-range_with_len (reloc_at bytes header) 0 header.nreloc k k d within (omega arith))) (numbered bytes header k)

count_relocs : (bytes : List ℕ) (header : SectionHeader) → length (relocs_of bytes header) ≡ header.nreloc
unfolding relocs_of
count_relocs bytes header = length-map-range_with_len (reloc_at bytes header) 0 header.nreloc

section_roomy : (bytes : List ℕ) (header : SectionHeader) → IsSmall header → is_outside (length bytes) header ≡ false → has_relocs_outside (length bytes) header ≡ false → IsRoomy (section_of bytes header)
unfolding section_of
section_roomy bytes header small inside relocs =
    let parts : ((not (is_zerofill (type_of header)) && nat_lt (length bytes) (header.offset + header.size)) ≡ false) × (nat_le (2 ^ 63) (header.addr + header.size) ≡ false) = neither _ _ inside in
    let addresses : header.addr + header.size < 2 ^ 63 = leb-false (2 ^ 63) (header.addr + header.size) parts.1 in
    record {
      addresses = addresses;
      contents = omega (arith, small.offset);
      relocations = rw count_relocs (omega (arith, small.reloff, small.nreloc));
      bytes = sized (is_zerofill (type_of header)) bytes header.offset header.size parts.0;
      numbers = record { all = λ k d within. relocs_numbered bytes header k d (rw count_relocs at within) };
    }

section_bytes : (bytes : List ℕ) (header : SectionHeader) → AreBytes bytes → AreBytes (section_of bytes header).bytes
unfolding section_of
section_bytes bytes header are = by_kind (is_zerofill (type_of header))
  where
    by_kind : (zero : Bool) → AreBytes (if zero then [] else part bytes header.offset header.size)
    by_kind true = λ i. lit< tt
    by_kind false = front_bytes header.size (drop header.offset bytes) (λ i. rw get_or-drop (are (header.offset + i)))

-- what holds of the section of each header holds of each section
each_section : (P : Section → Type 0) (bytes : List ℕ) (frame : Frame) → ((i : ℕ) → i < frame.count → P (section_of bytes (header_at bytes frame i))) → All P (sections_of bytes (headers_of bytes frame))
unfolding sections_of headers_of
each_section P bytes frame holds k d within =
    let range : List ℕ = range_with_len 0 frame.count in
    let inside : k < frame.count = omega (arith, length-map (map (header_at bytes frame) range) (section_of bytes), length-map-range_with_len (header_at bytes frame) 0 frame.count) in
    let header : SectionHeader = header_at bytes frame k in
    let there : get_or (map (header_at bytes frame) range) k header ≡ header = get_or-map-range_with_len (header_at bytes frame) 0 frame.count k k header inside (omega arith) in
    let is : get_or (map (section_of bytes) (map (header_at bytes frame) range)) k d ≡ section_of bytes header =
    get_or-map (section_of bytes) (map (header_at bytes frame) range) k header d (rw length-map-range_with_len inside) ∙ ap (section_of bytes) there in
    subst P (sym is) (holds k inside)

-- what holds of all headers holds of one
header_keeps : (test : SectionHeader → Bool) (bytes : List ℕ) (frame : Frame) (i : ℕ) → All (λ header. test header ≡ false) (headers_of bytes frame) → i < frame.count → test (header_at bytes frame i) ≡ false
unfolding headers_of
header_keeps test bytes frame i all within =
    let header : SectionHeader = header_at bytes frame i in
    let there : get_or (map (header_at bytes frame) (range_with_len 0 frame.count)) i header ≡ header = get_or-map-range_with_len (header_at bytes frame) 0 frame.count i i header within (omega arith) in
    subst (λ (h : SectionHeader). test h ≡ false) there (all i header (rw length-map-range_with_len within))

pub sections_roomy : (bytes : List ℕ) (frame : Frame) → AreBytes bytes → All (λ header. is_outside (length bytes) header ≡ false) (headers_of bytes frame) → All (λ header. has_relocs_outside (length bytes) header ≡ false) (headers_of bytes frame) → Each IsRoomy (sections_of bytes (headers_of bytes frame))
sections_roomy bytes frame are inside relocs = record {
  all = each_section IsRoomy bytes frame (λ i within.
      section_roomy bytes (header_at bytes frame i) (header_small bytes frame i are)
      (header_keeps (is_outside (length bytes)) bytes frame i inside within)
      (header_keeps (has_relocs_outside (length bytes)) bytes frame i relocs within));
}

pub sections_bytes : (bytes : List ℕ) (frame : Frame) → AreBytes bytes → All (λ section. AreBytes section.bytes) (sections_of bytes (headers_of bytes frame))
sections_bytes bytes frame are = each_section (λ section. AreBytes section.bytes) bytes frame (λ i within. section_bytes bytes (header_at bytes frame i) are)

-- symbols are in their places

table_small : (bytes : List ℕ) (symtab : SymtabCommand) (found : Option ℕ) → AreBytes bytes → option_map_or (λ at. guarded (is_symtab bytes at) (Malformed at rule.Symbols) (symtab_command_at bytes at)) found (Ok no_symtab) ≡ Ok symtab → symtab.nsyms < 2 ^ 32
table_small bytes symtab None are e = let same : no_symtab ≡ symtab = cc in subst (λ (s : SymtabCommand). s.nsyms < 2 ^ 32) same (lit< tt)
table_small bytes symtab (Some at) are e = by_test (is_symtab bytes at) e
  where
    by_test : (test : Bool) → guarded test (Malformed at rule.Symbols) (symtab_command_at bytes at) ≡ Ok symtab → symtab.nsyms < 2 ^ 32
    by_test true e =
        let same : symtab_command_at bytes at ≡ symtab = cc in
        subst (λ (s : SymtabCommand). s.nsyms < 2 ^ 32) same (number_small 4 (at + 12) bytes are)
    by_test false e = absurd cc

pub few_symbols : (bytes : List ℕ) (frame : Frame) (symtab : SymtabCommand) → AreBytes bytes → symtab_of bytes frame ≡ Ok symtab → symtab.nsyms < 2 ^ 32
unfolding symtab_of
few_symbols bytes frame symtab are e = table_small bytes symtab frame.symtab are e

positive : (n : ℕ) → (n == 0) ≡ false → 0 < n
positive zero e = absurd cc
positive (suc n) e = omega arith

definition : (sections : List Section) (number value : ℕ) (zero : Bool) (found : Option Section) → (number == 0) ≡ zero → slice_get sections (number - 1) ≡ found → option_map_or (λ section. is_within section value) (if zero then None else found) false ≡ true → IsDefinition sections number value
definition sections number value true found none is e = absurd cc
definition sections number value false None none is e = absurd cc
definition sections number value false (Some section) none is e =
    let low : 0 < number = positive number none in
    let within : number - 1 < length sections = slice_get_within sections (number - 1) section is in
    let bounds = both _ _ e in
    record {
      numbered = low;
      among = omega arith;
      low = λ d. rw (get_or_from_slice_get sections (number - 1) section d is) (leb-true section.address value bounds.0);
      high = λ d. rw (get_or_from_slice_get sections (number - 1) section d is) (leb-true value (section.address + section.size) bounds.1);
    }

others_placed : (sections : List Section) (entry : Nlist) (absolute free external empty : Bool) → IsDefinedWithin sections (if absolute then Absolute else if free then (if external then (if empty then Undefined else Common (entry.n_desc / 0x100 % 0x10) entry.n_value) else Passed) else Undefined)
others_placed sections entry true free external empty = tt
others_placed sections entry false true true true = tt
others_placed sections entry false true true false = tt
others_placed sections entry false true false empty = tt
others_placed sections entry false false external empty = tt

by_kind : (sections : List Section) (entry : Nlist) (stab defined : Bool) → ((stab || not defined) || is_defined_within sections entry) ≡ true → IsDefinedWithin sections (if stab then Passed else if defined then Defined entry.n_sect entry.n_value else if symbols.type_of entry == 2 then Absolute else if symbols.type_of entry == 0 then (if is_external entry then common_or_undefined entry else Passed) else Undefined)
by_kind sections entry true defined e = tt
by_kind sections entry false true e =
    definition sections entry.n_sect entry.n_value (entry.n_sect == 0) (slice_get sections (entry.n_sect - 1)) refl refl e
by_kind sections entry false false e =
    others_placed sections entry (symbols.type_of entry == 2) (symbols.type_of entry == 0) (is_external entry) (entry.n_value == 0)

kind_placed : (sections : List Section) (entry : Nlist) → is_placed sections entry ≡ true → IsDefinedWithin sections (kind_of entry)
unfolding kind_of
kind_placed sections entry e = by_kind sections entry (is_stab entry) (symbols.type_of entry == 0xe) e

found_placed : (sections : List Section) (entry : Nlist) (name : Option (List ℕ)) (placed : Bool) (fault : ObjFault) (symbol : Symbol) → is_placed sections entry ≡ placed → option_map_or Ok (option_map_or (λ name. if placed then Some (symbol_with entry name) else None) name None) (Err fault) ≡ Ok symbol → IsInPlace sections symbol
found_placed sections entry None placed fault symbol is e = absurd cc
found_placed sections entry (Some name) false fault symbol is e = absurd cc
found_placed sections entry (Some name) true fault symbol is e =
    let same : symbol_with entry name ≡ symbol = cc in
    subst (IsInPlace sections) same (record { placed = kind_placed sections entry is })

symbol_placed : (bytes : List ℕ) (symtab : SymtabCommand) (sections : List Section) (i : ℕ) (symbol : Symbol) → symbol_at bytes symtab sections i ≡ Ok symbol → IsInPlace sections symbol
unfolding symbol_at symbol_of
symbol_placed bytes symtab sections i symbol e =
    let entry : Nlist = entry_at bytes symtab i in
    found_placed sections entry (string_at (strings_of bytes symtab) entry.n_strx) (is_placed sections entry)
    (Malformed (entry_place symtab i) rule.Symbol) symbol refl e

-- what holds of each value holds of all that are read, of which there are as many as places
record AreRead {A : Type 0} (P : A → Type 0) (n : ℕ) (xs : List A) : Type 0 where
  count : length xs ≡ n
  each : All P xs

one_more : {A : Type 0} (P : A → Type 0) (n : ℕ) (x : A) (xs : List A) → P x → AreRead P n xs → AreRead P (suc n) (x ∷ xs)
one_more P n x xs here rest = record { count = ap suc rest.count; each = each }
  where
    each : All P (x ∷ xs)
    each zero d within = here
    each (suc k) d within = rest.each k d (omega arith)

all_read : {A E : Type 0} (P : A → Type 0) (value : ℕ → Result A E) → ((i : ℕ) (x : A) → value i ≡ Ok x → P x) → (at n : ℕ) (xs : List A) → each_from value at n ≡ Ok xs → AreRead P n xs
all_read {A = A} P value holds at zero xs e =
    let none : [] ≡ xs = cc in
    subst (AreRead P 0) none (record { count = refl; each = λ k d within. absurd (omega arith) })
all_read {A = A} P value holds at (suc n) xs e =
    let first = bind_ok (value at) _ xs e in
    let rest = bind_ok (each_from value (at + 1) n) _ xs first.2 in
    let same : first.0 ∷ rest.0 ≡ xs = (let last = rest.2 in cc) in
    subst (AreRead P (suc n)) same (one_more P n first.0 rest.0 (holds at first.0 first.1) (all_read P value holds (at + 1) n rest.0 rest.1))

pub symbols_placed : (bytes : List ℕ) (symtab : SymtabCommand) (sections : List Section) (list : List Symbol) → symbols_of bytes symtab sections ≡ Ok list → (length list ≡ symtab.nsyms) × Each (IsInPlace sections) list
unfolding symbols_of
symbols_placed bytes symtab sections list e =
    let read = all_read (IsInPlace sections) (symbol_at bytes symtab sections) (symbol_placed bytes symtab sections) 0 symtab.nsyms list e in
    (read.count, record { all = read.each })
