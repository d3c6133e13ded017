-- An object that is accepted is whole, and its references can be read.
use Rattle.std.proofs.Common.{tests, ◌≡◌, ℕ, ◌-◌, ◌%◌, ◌^◌, ◌<◌, ◌≤◌, ◌==◌, List, length, Bool, true, false, not, if◌then◌else◌, Option, Some, None, Ok, All, IfSome, IsTrue, slice_get, slice_index, refl, sym, ap, subst, ◌∙◌, arith}
use Rattle.std.proofs.lemmas.Option.{slice_get-get_or}
use Rattle.std.specs.List.{list_any}
use Rattle.std.specs.Option.{option_map_or}
use Rattle.mo_types.specs.Refs.{refs_from, refs_of}
use Rattle.mo_types.specs.Whole.{IsWhole, IsWholeSection, is_strings, is_zerofill, literal_size}
use Rattle.mo_types.specs.declared.cause.Feature.{Feature}
use Rattle.mo_types.specs.declared.cause.Feature.TheVariants as feature
use Rattle.mo_types.specs.declared.key.FileId.{FileId}
use Rattle.mo_types.specs.declared.object.Object.{Object}
use Rattle.mo_types.specs.declared.object.Section.{Section}
use Rattle.mo_types.specs.declared.object.Symbol.{Symbol}
use Rattle.mo_obj.specs.Each.{Each}
use Rattle.mo_obj.specs.Features.{first_feature, or_else, any_kept, any_overaligned, has_other_type, is_objc, is_odd_code, has_odd_segment, is_text_zerofill, is_external_absolute}
use Rattle.mo_obj.specs.Relocations.{relocations_of}
use Rattle.mo_obj.specs.Sections.{IsRoomy, has_broken_literals}
use Rattle.mo_obj.specs.Symbols.{IsInPlace}
use Rattle.mo_obj.proofs.RelocationLemmas.{read_where_nothing}

-- where no feature stands, none of those that follow does
past_all : (a b c d e f g h : Bool) (relocs : Option Feature) → or_else a feature.SectionType (or_else b feature.ObjcSection (or_else c feature.Alignment (or_else d feature.CodeSegment (or_else e feature.SegmentName (or_else f feature.TextZerofill (or_else g feature.SymbolKind (or_else h feature.Absolute relocs))))))) ≡ None → relocs ≡ None
past_all true b c d e f g h relocs none = cc
past_all false true c d e f g h relocs none = cc
past_all false false true d e f g h relocs none = cc
past_all false false false true e f g h relocs none = cc
past_all false false false false true f g h relocs none = cc
past_all false false false false false true g h relocs none = cc
past_all false false false false false false true h relocs none = cc
past_all false false false false false false false true relocs none = cc
past_all false false false false false false false false relocs none = none

no_reloc_feature : (object : Object) (foreign : Bool) (relocs : Option Feature) → first_feature object foreign relocs ≡ None → relocs ≡ None
unfolding first_feature
no_reloc_feature object foreign relocs none =
    past_all (any_kept has_other_type object.sections) (any_kept is_objc object.sections) (any_overaligned object) (any_kept is_odd_code object.sections) (any_kept has_odd_segment object.sections) (any_kept is_text_zerofill object.sections) foreign (list_any is_external_absolute object.symbols) relocs none

pub references_read : (object : Object) (foreign : Bool) (relocs : Option Feature) → relocations_of object ≡ Ok relocs → None ≡ first_feature object foreign relocs → (file : FileId) → refs_of object file ≡ Ok (refs_from object file 1 object.sections)
references_read object foreign relocs keeps none file =
    read_where_nothing object file (keeps ∙ ap Ok (no_reloc_feature object foreign relocs (sym none)))

pub ruleset accepts = (references_read)

was_true : (b : Bool) → not b ≡ false → true ≡ b
was_true true e = refl
was_true false e = cc

same_number : (x y : ℕ) → true ≡ (x == y) → x ≡ y
same_number x y e = search tests

is_nul : (b : Bool) (last : Option ℕ) (rest : Bool) (byte : ℕ) → (if b then option_map_or (λ x. not (x == 0)) last false else rest) ≡ false → IsTrue b → last ≡ Some byte → byte ≡ 0
is_nul true None rest byte good are is = cc
is_nul true (Some x) rest byte good are is =
    let same : x ≡ byte = cc in
    sym same ∙ same_number x 0 (was_true (x == 0) good)
is_nul false last rest byte good are is = cc

are_whole : (b : Bool) (found : Bool) (literal : Option ℕ) (size : ℕ) → (b ≡ true → literal ≡ None) → (if b then found else option_map_or (λ n. not (size % n == 0)) literal false) ≡ false → IfSome literal (λ n. size % n ≡ 0)
are_whole true found literal size none good = rw (none refl) tt
are_whole false found None size none good = tt
are_whole false found (Some n) size none good = same_number (size % n) 0 (was_true (size % n == 0) good)

no_literals : (kind : ℕ) → is_strings kind ≡ true → literal_size kind ≡ None
no_literals kind are =
    let is : kind ≡ 2 = same_number kind 2 (sym are) in
    rw is refl

have_bytes : (kind : ℕ) (size : ℕ) → IsTrue (is_strings kind) → (if is_zerofill kind then 0 else size) ≡ size
have_bytes kind size are =
    let is : kind ≡ 2 = same_number kind 2 (sym are) in
    rw is refl

whole_section : (section : Section) → IsRoomy section → has_broken_literals section ≡ false → IsWholeSection section
whole_section section roomy good = record {
  addresses = roomy.addresses;
  contents = roomy.contents;
  relocations = roomy.relocations;
  bytes = roomy.bytes;
  strings = λ are some.
      let sized : length section.bytes ≡ section.size = roomy.bytes ∙ have_bytes section.kind section.size are in
      let last : slice_get section.bytes (length section.bytes - 1) ≡ Some (slice_index section.bytes (section.size - 1)) =
      rw sized (slice_get-get_or section.bytes (section.size - 1) 0 (omega (arith, sized))) in
      is_nul (is_strings section.kind) _ _ _ good are last;
  literals = are_whole (is_strings section.kind) _ (literal_size section.kind) section.size (no_literals section.kind) good;
  numbers = λ k d within. (roomy.numbers.all k d within).number;
}

pub whole_object : (subsections : Bool) (sections : List Section) (symbols : List Symbol) (section_count symbol_count : ℕ) → length sections ≡ section_count → section_count ≤ 255 → length symbols ≡ symbol_count → symbol_count < 2 ^ 32 → Each IsRoomy sections → All (λ section. has_broken_literals section ≡ false) sections → Each (IsInPlace sections) symbols → IsWhole (record { subsections = subsections; sections = sections; symbols = symbols })
whole_object subsections sections symbols section_count symbol_count sections_are few_sections symbols_are few_symbols roomy good placed = record {
  few_sections = rw sections_are few_sections;
  few_symbols = rw symbols_are few_symbols;
  sections = λ k d within. whole_section _ (roomy.all k d within) (good k d within);
  symbols = λ k d within. (placed.all k d within).placed;
}

pub placed_alike : (sections same : List Section) (symbols : List Symbol) → same ≡ sections → Each (IsInPlace same) symbols → Each (IsInPlace sections) symbols
placed_alike sections same symbols is placed = subst (λ (list : List Section). Each (IsInPlace list) symbols) is placed

pub good_alike : (sections same : List Section) → same ≡ sections → All (λ section. has_broken_literals section ≡ false) same → All (λ section. has_broken_literals section ≡ false) sections
good_alike sections same is good = subst (λ (list : List Section). All (λ section. has_broken_literals section ≡ false) list) is good

pub ruleset wholes = (whole_object)
