-- What the definition of objects answers: an object that is whole, or a fault that the file has.
use Rattle.std.proofs.Common.{◌≡◌, ℕ, zero, suc, ◌+◌, ◌^◌, List, ◌∷◌, length, nat_lt, Bool, true, false, not, Option, Some, None, Result, Ok, Err, IfErr, All, if◌then◌else◌, refl, subst}
use Rattle.std.specs.List.{position}
use Rattle.std.specs.Option.{option_map_or}
use Rattle.mo_format.specs.Header.{mach_header_at}
use Rattle.mo_format.specs.Symbol.{symtab_command_at}
use Rattle.mo_format.specs.declared.header.MachHeader.{MachHeader}
use Rattle.mo_format.specs.declared.symbol.SymtabCommand.{SymtabCommand}
use Rattle.mo_types.specs.Gives.{◌>>=◌, each_from, guarded}
use Rattle.mo_types.specs.Refs.{refs_from, refs_of}
use Rattle.mo_types.specs.RelocationRules.{first_fault, pair_fault, shape_fault, place_fault, target_fault}
use Rattle.mo_types.specs.Whole.{IsWhole}
use Rattle.mo_types.specs.declared.cause.Feature.{Feature}
use Rattle.mo_types.specs.declared.cause.Feature.TheVariants.{Machine, FileType}
use Rattle.mo_types.specs.declared.cause.Rule.{Rule}
use Rattle.mo_types.specs.declared.cause.Rule.TheVariants as rule
use Rattle.mo_types.specs.declared.key.FileId.{FileId}
use Rattle.mo_types.specs.declared.object.Object.{Object}
use Rattle.mo_types.specs.declared.object.Section.{Section}
use Rattle.mo_types.specs.declared.object.Symbol.{Symbol}
use Rattle.mo_types.specs.declared.object_fault.ObjFault.{ObjFault}
use Rattle.mo_types.specs.declared.object_fault.ObjFault.TheVariants.{Malformed, Unsupported, Limit}
use Rattle.mo_types.specs.declared.cause.Which.TheVariants.{Symbols}
use Rattle.mo_obj.specs.Commands.{commands_end, commands_from, commands_of, frame_of, is_broken, size_at}
use Rattle.unwind_read.specs.Unwinds as unwinds
use Rattle.mo_obj.specs.Entries.{entries_of}
use Rattle.mo_obj.specs.Faults.{IsObjFault, keeps}
use Rattle.mo_obj.specs.Features.{first_feature}
use Rattle.mo_obj.specs.Header.{header_of, is_arm64, is_relocatable}
use Rattle.mo_obj.specs.Object.{accepted, checked_sections, described, lacks, may_be_cut, object_of}
use Rattle.mo_obj.specs.Read.{AreBytes, IsRead}
use Rattle.mo_obj.specs.Relocations.{reloc_feature, relocations_of}
use Rattle.mo_obj.specs.Sections.{IsRoomy, each_keeps, has_broken_literals, has_relocs_outside, headers_of, is_outside, keeps_at, sections_of}
use Rattle.mo_obj.specs.Symbols.{any_foreign, is_symtab, no_symtab, symbol_at, symbol_of, symbols_of, symtab_of, entry_at, entry_place, strings_of}
use Rattle.mo_obj.specs.declared.Described.{Described}
use Rattle.mo_obj.specs.declared.commands.Frame.{Frame}
use Rattle.mo_obj.specs.Each.{Each}
use Rattle.mo_obj.proofs.AcceptLemmas.{references_read, whole_object}
use Rattle.mo_obj.proofs.UnwindLemmas.{entries_read}
use Rattle.mo_obj.proofs.ReadLemmas.{all_keep, bind_ok, count_sections, few_sections, few_symbols, sections_bytes, sections_roomy, symbols_placed}

-- what stands of the sections that are checked
record AreChecked (frame : Frame) (sections : List Section) : Type 0 where
  count : length sections ≡ frame.count
  roomy : Each IsRoomy sections
  contents : All (λ section. AreBytes section.bytes) sections

sections_checked : (bytes : List ℕ) (frame : Frame) (sections : List Section) → AreBytes bytes → checked_sections bytes frame ≡ Ok sections → AreChecked frame sections
unfolding checked_sections
sections_checked bytes frame sections are e =
    let first = bind_ok (each_keeps rule.Section frame (is_outside (length bytes)) (headers_of bytes frame)) _ sections e in
    let second = bind_ok (each_keeps rule.Relocations frame (has_relocs_outside (length bytes)) (headers_of bytes frame)) _ sections first.2 in
    let same : sections_of bytes (headers_of bytes frame) ≡ sections = (let last = second.2 in cc) in
    subst (AreChecked frame) same (record {
      count = count_sections bytes frame;
      roomy =
          sections_roomy bytes frame are
          (all_keep rule.Section frame (is_outside (length bytes)) (headers_of bytes frame) first.0 first.1)
          (all_keep rule.Relocations frame (has_relocs_outside (length bytes)) (headers_of bytes frame) second.0 second.1);
      contents = sections_bytes bytes frame are;
    })

same_value : {A E : Type 0} (x y : A) → ◌≡◌ {A = Result A E} (Ok x) (Ok y) → x ≡ y
same_value x y e = cc

-- an object that is described is whole
record IsDescribed (read : Described) : Type 0 where
  whole : IsWhole read.object
  contents : All (λ section. AreBytes section.bytes) read.object.sections

described_whole : (bytes : List ℕ) (read : Described) → AreBytes bytes → described bytes ≡ Ok read → IsDescribed read
unfolding described
described_whole bytes read are e =
    let header = bind_ok (header_of bytes) _ read e in
    let commands = bind_ok (commands_of bytes header.0) _ read header.2 in
    let frame = bind_ok (frame_of bytes commands.0) _ read commands.2 in
    let sections = bind_ok (checked_sections bytes frame.0) _ read frame.2 in
    let symtab = bind_ok (symtab_of bytes frame.0) _ read sections.2 in
    let symbols = bind_ok (symbols_of bytes symtab.0 sections.0) _ read symtab.2 in
    let literals = bind_ok (each_keeps rule.Literals frame.0 has_broken_literals sections.0) _ read symbols.2 in
    let checked = sections_checked bytes frame.0 sections.0 are sections.1 in
    let placed = symbols_placed bytes symtab.0 sections.0 symbols.0 symbols.1 in
    let given : Described = record {
      object = record { subsections = may_be_cut header.0; sections = sections.0; symbols = symbols.0 };
      foreign = any_foreign bytes symtab.0;
    } in
    subst IsDescribed (same_value given read literals.2) (record {
      whole =
          whole_object (may_be_cut header.0) sections.0 symbols.0 frame.0.count symtab.0.nsyms checked.count
          (few_sections bytes commands.0 frame.0 frame.1) placed.0 (few_symbols bytes frame.0 symtab.0 are symtab.1) checked.roomy
          (all_keep rule.Literals frame.0 has_broken_literals sections.0 literals.0 literals.1) placed.1;
      contents = checked.contents;
    })

no_feature : (found : Option Feature) (done : Unit {0}) → lacks found ≡ Ok done → None ≡ found
no_feature None done e = refl
no_feature (Some feature) done e = absurd cc

accepted_refs : (object : Object) (foreign : Bool) (done : Unit {0}) → accepted object foreign ≡ Ok done → (file : FileId) → refs_of object file ≡ Ok (refs_from object file 1 object.sections)
unfolding accepted
accepted_refs object foreign done e file =
    let relocs = bind_ok (relocations_of object) _ done e in
    let entries = bind_ok (entries_of object) _ done relocs.2 in
    let supported = bind_ok (lacks (first_feature object foreign relocs.0)) _ done entries.2 in
    references_read object foreign relocs.0 relocs.1 (no_feature (first_feature object foreign relocs.0) supported.0 supported.1) file

accepted_entries : (object : Object) (foreign : Bool) (done : Unit {0}) → accepted object foreign ≡ Ok done → entries_of object ≡ Ok tt
unfolding accepted
accepted_entries object foreign done e =
    let relocs = bind_ok (relocations_of object) _ done e in
    (bind_ok (entries_of object) _ done relocs.2).1

pub read_whole : (bytes : List ℕ) (object : Object) → AreBytes bytes → object_of bytes ≡ Ok object → IsRead object
unfolding object_of
read_whole bytes object are e =
    let read = bind_ok (described bytes) _ object e in
    let done = bind_ok (accepted read.0.object read.0.foreign) _ object read.2 in
    let is = described_whole bytes read.0 are read.1 in
    subst IsRead (same_value read.0.object object done.2) (record {
      whole = is.whole;
      contents = is.contents;
      refs = λ (file : FileId). rw (accepted_refs read.0.object read.0.foreign done.0 done.1 file) tt;
      unwinds = λ (file : FileId). entries_read read.0.object file (accepted_entries read.0.object read.0.foreign done.0 done.1);
    })

-- a fault of two steps is one of the first or of the second

pub then_faulty : {A B : Type 0} (r : Result A ObjFault) (next : A → Result B ObjFault) → IfErr r IsObjFault → ((x : A) → IfErr (next x) IsObjFault) → IfErr (r >>= next) IsObjFault
then_faulty (Ok x) next first rest = rest x
then_faulty (Err e) next first rest = first

keeps_faulty : {A : Type 0} (rule : Rule) (found : Option ℕ) (x : A) → IfErr (keeps rule found x) IsObjFault
keeps_faulty rule None x = tt
keeps_faulty rule (Some at) x = tt

place_faulty : (rule : Rule) (frame : Frame) (found : Option ℕ) → IfErr (keeps_at rule frame found) IsObjFault
place_faulty rule frame None = tt
place_faulty rule frame (Some at) = tt

each_faulty : {X : Type 0} (rule : Rule) (frame : Frame) (test : X → Bool) (xs : List X) → IfErr (each_keeps rule frame test xs) IsObjFault
each_faulty rule frame test xs = place_faulty rule frame (position test xs)

header_faulty : (bytes : List ℕ) → IfErr (header_of bytes) IsObjFault
unfolding header_of
header_faulty bytes = by_tests (nat_lt (length bytes) 32) (not (is_arm64 (mach_header_at bytes 0))) (not (is_relocatable (mach_header_at bytes 0)))
  where
    by_tests : (short other kind : Bool) → IfErr (if short then Err (Malformed 0 rule.Header) else if other then Err (Unsupported Machine) else if kind then Err (Unsupported FileType) else Ok (mach_header_at bytes 0)) IsObjFault
    by_tests true other kind = tt
    by_tests false true kind = tt
    by_tests false false true = tt
    by_tests false false false = tt

commands_faulty : (bytes : List ℕ) (end n at : ℕ) → IfErr (commands_from bytes end n at) IsObjFault
commands_faulty bytes end zero at = tt
commands_faulty bytes end (suc n) at = by_test (commands_faulty bytes end n (at + size_at bytes at)) (is_broken bytes end at)
  where
    by_test : IfErr (commands_from bytes end n (at + size_at bytes at)) IsObjFault → (broken : Bool) → IfErr (if broken then Err (Malformed at rule.Commands) else (commands_from bytes end n (at + size_at bytes at) >>= λ others. Ok (at ∷ others))) IsObjFault
    by_test others true = tt
    by_test others false = then_faulty (commands_from bytes end n (at + size_at bytes at)) (λ others. Ok (at ∷ others)) others (λ others. tt)

commands_of_faulty : (bytes : List ℕ) (header : MachHeader) → IfErr (commands_of bytes header) IsObjFault
unfolding commands_of
commands_of_faulty bytes header = commands_faulty bytes (commands_end bytes header) header.ncmds 32

frame_faulty : (bytes commands : List ℕ) → IfErr (frame_of bytes commands) IsObjFault
unfolding frame_of
frame_faulty bytes commands = keeps_faulty rule.Segment _ _

sections_faulty : (bytes : List ℕ) (frame : Frame) → IfErr (checked_sections bytes frame) IsObjFault
unfolding checked_sections
sections_faulty bytes frame =
    then_faulty (each_keeps rule.Section frame (is_outside (length bytes)) (headers_of bytes frame)) _
    (each_faulty rule.Section frame (is_outside (length bytes)) (headers_of bytes frame)) (λ section.
    then_faulty (each_keeps rule.Relocations frame (has_relocs_outside (length bytes)) (headers_of bytes frame)) _
    (each_faulty rule.Relocations frame (has_relocs_outside (length bytes)) (headers_of bytes frame)) (λ relocations. tt))

symtab_faulty : (bytes : List ℕ) (frame : Frame) → IfErr (symtab_of bytes frame) IsObjFault
unfolding symtab_of
symtab_faulty bytes frame = by_command frame.symtab
  where
    by_test : (at : ℕ) (test : Bool) → IfErr (guarded test (Malformed at rule.Symbols) (symtab_command_at bytes at)) IsObjFault
    by_test at true = tt
    by_test at false = tt

    by_command : (found : Option ℕ) → IfErr (option_map_or (λ at. guarded (is_symtab bytes at) (Malformed at rule.Symbols) (symtab_command_at bytes at)) found (Ok no_symtab)) IsObjFault
    by_command None = tt
    by_command (Some at) = by_test at (is_symtab bytes at)

each_from_faulty : {A : Type 0} (value : ℕ → Result A ObjFault) → ((i : ℕ) → IfErr (value i) IsObjFault) → (at n : ℕ) → IfErr (each_from value at n) IsObjFault
each_from_faulty value faulty at zero = tt
each_from_faulty value faulty at (suc n) =
    then_faulty (value at) _ (faulty at) (λ x.
    then_faulty (each_from value (at + 1) n) _ (each_from_faulty value faulty (at + 1) n) (λ xs. tt))

symbol_faulty : (bytes : List ℕ) (symtab : SymtabCommand) (sections : List Section) (i : ℕ) → IfErr (symbol_at bytes symtab sections i) IsObjFault
unfolding symbol_at
symbol_faulty bytes symtab sections i = by_found (symbol_of (strings_of bytes symtab) sections (entry_at bytes symtab i))
  where
    by_found : (found : Option Symbol) → IfErr (option_map_or Ok found (Err (Malformed (entry_place symtab i) rule.Symbol))) IsObjFault
    by_found None = tt
    by_found (Some symbol) = tt

symbols_faulty : (bytes : List ℕ) (symtab : SymtabCommand) (sections : List Section) → IfErr (symbols_of bytes symtab sections) IsObjFault
unfolding symbols_of
symbols_faulty bytes symtab sections = each_from_faulty (symbol_at bytes symtab sections) (symbol_faulty bytes symtab sections) 0 symtab.nsyms

described_faulty : (bytes : List ℕ) → IfErr (described bytes) IsObjFault
unfolding described
described_faulty bytes =
    then_faulty (header_of bytes) _ (header_faulty bytes) (λ header.
    then_faulty (commands_of bytes header) _ (commands_of_faulty bytes header) (λ commands.
    then_faulty (frame_of bytes commands) _ (frame_faulty bytes commands) (λ frame.
    then_faulty (checked_sections bytes frame) _ (sections_faulty bytes frame) (λ sections.
    then_faulty (symtab_of bytes frame) _ (symtab_faulty bytes frame) (λ symtab.
    then_faulty (symbols_of bytes symtab sections) _ (symbols_faulty bytes symtab sections) (λ symbols.
    then_faulty (each_keeps rule.Literals frame has_broken_literals sections) _ (each_faulty rule.Literals frame has_broken_literals sections) (λ literals. tt)))))))

relocations_faulty : (object : Object) → IfErr (relocations_of object) IsObjFault
unfolding relocations_of
relocations_faulty object =
    then_faulty (keeps rule.Pair (first_fault pair_fault object) (tt {0})) _ (keeps_faulty rule.Pair (first_fault pair_fault object) (tt {0})) (λ pair.
    then_faulty (keeps rule.Shape (first_fault shape_fault object) (tt {0})) _ (keeps_faulty rule.Shape (first_fault shape_fault object) (tt {0})) (λ shape.
    then_faulty (keeps rule.Place (first_fault place_fault object) (tt {0})) _ (keeps_faulty rule.Place (first_fault place_fault object) (tt {0})) (λ place.
    keeps_faulty rule.Target (first_fault target_fault object) (reloc_feature object))))

lacks_faulty : (found : Option Feature) → IfErr (lacks found) IsObjFault
lacks_faulty None = tt
lacks_faulty (Some feature) = tt

accepted_faulty : (object : Object) (foreign : Bool) → IfErr (accepted object foreign) IsObjFault
unfolding accepted
accepted_faulty object foreign =
    then_faulty (relocations_of object) _ (relocations_faulty object) (λ relocs.
    then_faulty (entries_of object) _ (keeps_faulty rule.Unwind (unwinds.first_fault object) (tt {0})) (λ entries.
    then_faulty (lacks (first_feature object foreign relocs)) _ (lacks_faulty (first_feature object foreign relocs)) (λ supported.
    by_test (nat_lt (length object.symbols) (2 ^ 24)))))
  where
    by_test : (test : Bool) → IfErr (guarded test (Limit Symbols) (tt {0})) IsObjFault
    by_test true = tt
    by_test false = tt

pub object_faulty : (bytes : List ℕ) → IfErr (object_of bytes) IsObjFault
unfolding object_of
object_faulty bytes =
    then_faulty (described bytes) _ (described_faulty bytes) (λ read.
    then_faulty (accepted read.object read.foreign) _ (accepted_faulty read.object read.foreign) (λ done. tt))

pub true_fault : (bytes : List ℕ) (fault : ObjFault) → object_of bytes ≡ Err fault → IsObjFault fault
true_fault bytes fault e = subst (λ (r : Result Object ObjFault). IfErr r IsObjFault) e (object_faulty bytes)
