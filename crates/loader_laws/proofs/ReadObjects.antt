-- Common symbols of an object that is read are external, and its instructions stand in regular sections.
use Rattle.std.proofs.Common.{◌≡◌, refl, sym, ℕ, zero, suc, ◌+◌, ◌^◌, ◌&&◌, ◌||◌, ◌==◌, not, nat_lt, codes, length, List, ◌∷◌, Bool, true, false, Option, Some, None, Result, Ok, Err, All, IfOk, if◌then◌else◌}
use Rattle.std.specs.Option.{option_map_or}
use Rattle.std.proofs.lemmas.Bool.{eqb-true, false≢true}
use Rattle.std.proofs.lemmas.List.Elements.{All-cons, All-nil, All-weaker}
use Rattle.std.proofs.lemmas.Result.{IfOk-at_ok}
use Rattle.mo_format.specs.declared.loader.TheConstants.{S_REGULAR}
use Rattle.mo_format.specs.declared.nlist.TheConstants.{N_ABS, N_EXT, N_SECT, N_UNDF}
use Rattle.mo_format.specs.declared.symbol.Nlist.{Nlist}
use Rattle.mo_format.specs.declared.symbol.SymtabCommand.{SymtabCommand}
use Rattle.mo_strings.specs.Strings.{string_at}
use Rattle.mo_types.specs.Candidates.{is_common}
use Rattle.mo_types.specs.Gives.{each_from, guarded}
use Rattle.mo_types.specs.Whole.{is_dropped}
use Rattle.mo_types.specs.declared.cause.Feature.{Feature}
use Rattle.mo_types.specs.declared.cause.Feature.TheVariants as feature
use Rattle.mo_types.specs.declared.cause.Rule.TheVariants as rule
use Rattle.mo_types.specs.declared.cause.Which.TheVariants.{Symbols}
use Rattle.mo_types.specs.declared.object.Object.{Object}
use Rattle.mo_types.specs.declared.object.Section.{Section}
use Rattle.mo_types.specs.declared.object.Symbol.{Symbol}
use Rattle.mo_types.specs.declared.object.SymbolKind.TheVariants.{Absolute, Defined, Passed, Undefined}
use Rattle.mo_types.specs.declared.object_fault.ObjFault.{ObjFault}
use Rattle.mo_types.specs.declared.object_fault.ObjFault.TheVariants.{Limit, Malformed}
use Rattle.mo_obj.specs.Commands.{commands_of, frame_of}
use Rattle.mo_obj.specs.Entries.{entries_of}
use Rattle.mo_obj.specs.Features.{any_kept, any_overaligned, first_feature, has_other_type, is_code, is_in, is_objc, is_odd_code, or_else}
use Rattle.mo_obj.specs.Header.{header_of}
use Rattle.mo_obj.specs.Object.{accepted, checked_sections, described, lacks, object_of}
use Rattle.mo_obj.specs.Relocations.{relocations_of}
use Rattle.mo_obj.specs.Sections.{each_keeps, has_broken_literals}
use Rattle.mo_obj.specs.Symbols.{common_or_undefined, entry_at, entry_place, has, is_external, is_placed, is_stab, kind_by_type, kind_of, strings_of, symbol_at, symbol_of, symbol_with, symbols_of, symtab_of, type_of}
use Rattle.lib_bind.proofs.TextLemmas.{then_holds}
use Rattle.reader_laws.proofs.Lists.{none_passes}
use Rattle.reader_laws.proofs.Steps.{passed}
use Rattle.loader_laws.specs.Tellings.{IsCommonToAll, IsRegularCode}

-- ---- an entry

never : {P : Type 0} → false ≡ true → P
never e = absurd (false≢true e)

-- of the types only that of an external symbol without a section makes it common
by_type : (a b c : Bool) (entry : Nlist) → is_common (if a then Defined entry.n_sect entry.n_value else if b then Absolute else if c then (if is_external entry then common_or_undefined entry else Passed) else Undefined) ≡ true → is_external entry ≡ true
by_type true b c entry e = never e
by_type false true c entry e = never e
by_type false false false entry e = never e
by_type false false true entry e = by (is_external entry) refl e
  where
    by : (d : Bool) → is_external entry ≡ d → is_common (if d then common_or_undefined entry else Passed) ≡ true → is_external entry ≡ true
    by true f g = f
    by false f g = never g

entry_external : (entry : Nlist) (name : List ℕ) → IsCommonToAll (symbol_with entry name)
unfolding kind_of
entry_external entry name e = by (is_stab entry) refl e
  where
    by : (s : Bool) → is_stab entry ≡ s → is_common (if s then Passed else kind_by_type entry) ≡ true → (not (is_stab entry) && has entry.n_type N_EXT) ≡ true
    by true f g = never g
    by false f g = rw f (by_type (type_of entry == N_SECT) (type_of entry == N_ABS) (type_of entry == N_UNDF) entry g)

-- ---- symbols

-- what holds of each value holds of all that are read
all_read : {A E : Type 0} (P : A → Type 0) (value : ℕ → Result A E) → ((i : ℕ) → IfOk (value i) P) → (at n : ℕ) → IfOk (each_from value at n) (All P)
all_read P value holds at zero = All-nil P
all_read P value holds at (suc n) =
    then_holds P (All P) (value at) _ (holds at)
    (λ x here. then_holds (All P) (All P) (each_from value (at + 1) n) (λ xs. Ok (x ∷ xs)) (all_read P value holds (at + 1) n) (λ xs rest. All-cons P x xs here rest))

seen : (entry : Nlist) (name : Option (List ℕ)) (placed : Bool) (fault : ObjFault)
    → IfOk (option_map_or Ok (option_map_or (λ text. if placed then Some (symbol_with entry text) else None) name None) (Err fault)) IsCommonToAll
seen entry None placed fault = tt
seen entry (Some name) false fault = tt
seen entry (Some name) true fault = entry_external entry name

symbol_seen : (bytes : List ℕ) (symtab : SymtabCommand) (sections : List Section) (i : ℕ) → IfOk (symbol_at bytes symtab sections i) IsCommonToAll
unfolding symbol_at symbol_of
symbol_seen bytes symtab sections i =
    let entry : Nlist = entry_at bytes symtab i in
    seen entry (string_at (strings_of bytes symtab) entry.n_strx) (is_placed sections entry) (Malformed (entry_place symtab i) rule.Symbol)

abbrev AreSeen : List Symbol → Type 0
AreSeen symbols = All IsCommonToAll symbols

symbols_seen : (bytes : List ℕ) (symtab : SymtabCommand) (sections : List Section) → IfOk (symbols_of bytes symtab sections) AreSeen
unfolding symbols_of
symbols_seen bytes symtab sections = all_read IsCommonToAll (symbol_at bytes symtab sections) (symbol_seen bytes symtab sections) 0 symtab.nsyms

-- ---- sections

-- where no feature stands, the first doesn't, nor any of those that follow it
past : (test : Bool) (feature : Feature) (others : Option Feature) → or_else test feature others ≡ None → (test ≡ false) × (others ≡ None)
past true feature others none = absurd cc
past false feature others none = (refl, none)

none_odd : (object : Object) (foreign : Bool) (relocs : Option Feature) → first_feature object foreign relocs ≡ None → any_kept is_odd_code object.sections ≡ false
unfolding first_feature
none_odd object foreign relocs none =
    let types = past (any_kept has_other_type object.sections) feature.SectionType _ none in
    let names = past (any_kept is_objc object.sections) feature.ObjcSection _ types.1 in
    let alignments = past (any_overaligned object) feature.Alignment _ names.1 in
    (past (any_kept is_odd_code object.sections) feature.CodeSegment _ alignments.1).0

-- a linked section of instructions that isn't odd is regular
not_odd : (dropped code inside regular : Bool) → (not dropped && (code && (not inside || not regular))) ≡ false → dropped ≡ false → code ≡ true → regular ≡ true
not_odd true code inside regular e linked is = never (sym linked)
not_odd false false inside regular e linked is = never is
not_odd false true true true e linked is = refl
not_odd false true true false e linked is = never (sym e)
not_odd false true false regular e linked is = never (sym e)

code_regular : (section : Section) → (not (is_dropped section) && is_odd_code section) ≡ false → IsRegularCode section
code_regular section e linked is =
    eqb-true section.kind S_REGULAR (not_odd (is_dropped section) (is_code section) (is_in (codes "__TEXT") section) (section.kind == S_REGULAR) e linked is)

abbrev HasCode : Object → Type 0
HasCode object = All IsRegularCode object.sections

sections_regular : (object : Object) → any_kept is_odd_code object.sections ≡ false → HasCode object
sections_regular object none =
    let test : Section → Bool = λ section. not (is_dropped section) && is_odd_code section in
    All-weaker (λ (section : Section). test section ≡ false) IsRegularCode code_regular object.sections (none_passes test object.sections none)

no_feature : (object : Object) (found : Option Feature) → (found ≡ None → HasCode object) → IfOk (lacks found) (λ done. HasCode object)
no_feature object None holds = holds refl
no_feature object (Some feature) holds = tt

kept : (object : Object) (test : Bool) (fault : ObjFault) → HasCode object → IfOk (guarded test fault (tt {0})) (λ done. HasCode object)
kept object true fault are = are
kept object false fault are = tt

accepted_code : (object : Object) (foreign : Bool) → IfOk (accepted object foreign) (λ done. HasCode object)
unfolding accepted
accepted_code object foreign =
    passed _ (relocations_of object) _ λ relocs.
    passed _ (entries_of object) _ λ entries.
    then_holds (λ (done : Unit {0}). HasCode object) _ (lacks (first_feature object foreign relocs)) _
    (no_feature object (first_feature object foreign relocs) (λ none. sections_regular object (none_odd object foreign relocs none))) λ supported are.
    kept object (nat_lt (length object.symbols) (2 ^ 24)) (Limit Symbols) are

object_code : (bytes : List ℕ) → IfOk (object_of bytes) HasCode
unfolding object_of
object_code bytes =
    passed HasCode (described bytes) _ λ read.
    then_holds (λ (done : Unit {0}). HasCode read.object) HasCode (accepted read.object read.foreign) _ (accepted_code read.object read.foreign) λ done are. are

pub code_is_regular : (bytes : List ℕ) (object : Object) → object_of bytes ≡ Ok object → All IsRegularCode object.sections
code_is_regular bytes object is = IfOk-at_ok HasCode is (object_code bytes)

-- ---- objects

described_seen : (bytes : List ℕ) → IfOk (described bytes) (λ read. AreSeen read.object.symbols)
unfolding described
described_seen bytes =
    passed _ (header_of bytes) _ λ header.
    passed _ (commands_of bytes header) _ λ commands.
    passed _ (frame_of bytes commands) _ λ frame.
    passed _ (checked_sections bytes frame) _ λ sections.
    passed _ (symtab_of bytes frame) _ λ symtab.
    then_holds AreSeen _ (symbols_of bytes symtab sections) _ (symbols_seen bytes symtab sections) λ symbols are.
    passed _ (each_keeps rule.Literals frame has_broken_literals sections) _ λ literals. are

object_seen : (bytes : List ℕ) → IfOk (object_of bytes) (λ object. AreSeen object.symbols)
unfolding object_of
object_seen bytes =
    then_holds _ (λ (object : Object). AreSeen object.symbols) (described bytes) _ (described_seen bytes) λ read are.
    passed (λ (object : Object). AreSeen object.symbols) (accepted read.object read.foreign) _ λ done. are

pub commons_are_external : (bytes : List ℕ) (object : Object) → object_of bytes ≡ Ok object → All IsCommonToAll object.symbols
commons_are_external bytes object is = IfOk-at_ok (λ (read : Object). AreSeen read.symbols) is (object_seen bytes)
