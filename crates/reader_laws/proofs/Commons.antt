-- An object with a common symbol that is aligned to more than a page has a feature that the linker doesn't have.
use Rattle.std.proofs.Common.{◌≡◌, refl, ℕ, ◌^◌, length, nat_lt, List, Bool, true, false, Option, Some, None, Ok, All, IfOk}
use Rattle.std.specs.List.{list_any}
use Rattle.std.proofs.lemmas.Bool.{ltb-false, or_parts}
use Rattle.std.proofs.lemmas.List.Elements.{All-weaker}
use Rattle.std.proofs.lemmas.Result.{IfOk-at_ok}
use Rattle.mo_types.specs.Gives.{guarded}
use Rattle.mo_types.specs.declared.cause.Feature.{Feature}
use Rattle.mo_types.specs.declared.cause.Feature.TheVariants as feature
use Rattle.mo_types.specs.declared.cause.Which.TheVariants.{Symbols}
use Rattle.mo_types.specs.declared.object.Object.{Object}
use Rattle.mo_types.specs.declared.object.Symbol.{Symbol}
use Rattle.mo_types.specs.declared.object.SymbolKind.{SymbolKind}
use Rattle.mo_types.specs.declared.object.SymbolKind.TheVariants.{Common}
use Rattle.mo_types.specs.declared.object_fault.ObjFault.{ObjFault}
use Rattle.mo_types.specs.declared.object_fault.ObjFault.TheVariants.{Limit}
use Rattle.mo_obj.specs.Entries.{entries_of}
use Rattle.mo_obj.specs.Features.{any_kept, any_overaligned, first_feature, has_other_type, is_objc, is_overaligned, is_overaligned_common, or_else}
use Rattle.mo_obj.specs.Object.{accepted, described, lacks, object_of}
use Rattle.mo_obj.specs.Relocations.{relocations_of}
use Rattle.lib_bind.proofs.TextLemmas.{then_holds}
use Rattle.reader_laws.specs.Facts.{IsLowCommon}
use Rattle.reader_laws.proofs.Lists.{none_passes}
use Rattle.reader_laws.proofs.Steps.{passed}

-- ---- features

-- where no feature stands, the first doesn't, nor any of those that follow it
past : (test : Bool) (feature : Feature) (others : Option Feature) → or_else test feature others ≡ None → (test ≡ false) × (others ≡ None)
past true feature others none = absurd cc
past false feature others none = (refl, none)

none_overaligned : (object : Object) (foreign : Bool) (relocs : Option Feature) → first_feature object foreign relocs ≡ None → any_overaligned object ≡ false
unfolding first_feature
none_overaligned object foreign relocs none =
    let types = past (any_kept has_other_type object.sections) feature.SectionType _ none in
    let names = past (any_kept is_objc object.sections) feature.ObjcSection _ types.1 in
    (past (any_overaligned object) feature.Alignment _ names.1).0

-- ---- common symbols

low : (kind : SymbolKind) → is_overaligned_common kind ≡ false → IsLowCommon kind
low (Common align size) is = ltb-false 14 align is
low _ is = tt

abbrev AreLow : Object → Type 0
AreLow object = All (λ symbol. IsLowCommon symbol.kind) object.symbols

aligned_low : (object : Object) → any_overaligned object ≡ false → AreLow object
aligned_low object none =
    let test : Symbol → Bool = λ symbol. is_overaligned_common symbol.kind in
    let commons = or_parts (any_kept is_overaligned object.sections) (list_any test object.symbols) none in
    All-weaker (λ (symbol : Symbol). test symbol ≡ false) (λ symbol. IsLowCommon symbol.kind) (λ symbol. low symbol.kind) object.symbols (none_passes test object.symbols commons.1)

-- ---- objects

no_feature : (object : Object) (found : Option Feature) → (found ≡ None → AreLow object) → IfOk (lacks found) (λ done. AreLow object)
no_feature object None holds = holds refl
no_feature object (Some feature) holds = tt

kept : (object : Object) (test : Bool) (fault : ObjFault) → AreLow object → IfOk (guarded test fault (tt {0})) (λ done. AreLow object)
kept object true fault are = are
kept object false fault are = tt

accepted_low : (object : Object) (foreign : Bool) → IfOk (accepted object foreign) (λ done. AreLow object)
unfolding accepted
accepted_low object foreign =
    passed _ (relocations_of object) _ λ relocs.
    passed _ (entries_of object) _ λ entries.
    then_holds (λ (done : Unit {0}). AreLow object) _ (lacks (first_feature object foreign relocs)) _
    (no_feature object (first_feature object foreign relocs) (λ none. aligned_low object (none_overaligned object foreign relocs none))) λ supported are.
    kept object (nat_lt (length object.symbols) (2 ^ 24)) (Limit Symbols) are

object_low : (bytes : List ℕ) → IfOk (object_of bytes) AreLow
unfolding object_of
object_low bytes =
    passed AreLow (described bytes) _ λ read.
    then_holds (λ (done : Unit {0}). AreLow read.object) AreLow (accepted read.object read.foreign) _ (accepted_low read.object read.foreign) λ done are. are

pub low_commons : (bytes : List ℕ) (object : Object) → object_of bytes ≡ Ok object → All (λ symbol. IsLowCommon symbol.kind) object.symbols
low_commons bytes object is = IfOk-at_ok AreLow is (object_low bytes)
