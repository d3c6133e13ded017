-- What the reader of references finds, as a rule or a feature of the object.
use Rattle.std.proofs.Common.{◌≡◌, ℕ, Option, Some, None, Result, Ok, Err, refl, sym, ap, ◌∙◌}
use Rattle.mo_types.specs.Gives.{◌>>=◌}
use Rattle.mo_types.specs.Refs.{refs_from, refs_of}
use Rattle.mo_types.specs.RelocationRules.{first_fault, pair_fault, shape_fault, place_fault, target_fault}
use Rattle.mo_types.specs.declared.cause.Feature.{Feature}
use Rattle.mo_types.specs.declared.cause.Rule.TheVariants as rule
use Rattle.mo_types.specs.declared.key.FileId.{FileId}
use Rattle.mo_types.specs.declared.object.Object.{Object}
use Rattle.mo_types.specs.declared.object_fault.ObjFault.{ObjFault}
use Rattle.mo_types.specs.declared.object_fault.ObjFault.TheVariants as fault
use Rattle.mo_types.specs.declared.reference_fault.RefFault.{RefFault}
use Rattle.mo_types.specs.declared.reference_fault.RefFault.TheVariants.{BadPair, BadShape, BadPlace, BadTarget, Unsupported, OutOfMemory}
use Rattle.reloc_read.specs.Checked.{checked, feature_of, unless_fault}
use Rattle.reloc_read.proofs.CheckedLemmas.{read_all}
use Rattle.mo_obj.specs.Faults.{keeps}
use Rattle.mo_obj.specs.Relocations.{relocations_of}

-- what was found, as an answer on the object
abbrev pub told : Result (Option Feature) RefFault → Result (Option Feature) ObjFault
told (Ok feature) = Ok feature
told (Err (BadPair place)) = Err (fault.Malformed place rule.Pair)
told (Err (BadShape place)) = Err (fault.Malformed place rule.Shape)
told (Err (BadPlace place)) = Err (fault.Malformed place rule.Place)
told (Err (BadTarget place)) = Err (fault.Malformed place rule.Target)
told (Err (Unsupported feature)) = Err (fault.Unsupported feature)
told (Err OutOfMemory) = Err fault.OutOfMemory

rules_told : (pair shape place target : Option ℕ) (feature : Option Feature) → told (unless_fault BadPair pair (unless_fault BadShape shape (unless_fault BadPlace place (unless_fault BadTarget target (Ok feature))))) ≡ (keeps rule.Pair pair (tt {0}) >>= λ p. keeps rule.Shape shape (tt {0}) >>= λ s. keeps rule.Place place (tt {0}) >>= λ l. keeps rule.Target target feature)
rules_told (Some at) shape place target feature = refl
rules_told None (Some at) place target feature = refl
rules_told None None (Some at) target feature = refl
rules_told None None None (Some at) feature = refl
rules_told None None None None feature = refl

pub told_of_object : (object : Object) → told (checked object) ≡ relocations_of object
unfolding checked relocations_of
told_of_object object =
    rules_told (first_fault pair_fault object) (first_fault shape_fault object) (first_fault place_fault object) (first_fault target_fault object) (feature_of object)

as_told : (object : Object) (answer : Result (Option Feature) RefFault) → checked object ≡ answer → relocations_of object ≡ told answer
as_told object answer is = sym (told_of_object object) ∙ ap told is

pub told_ok : (object : Object) (feature : Option Feature) → checked object ≡ Ok feature → relocations_of object ≡ Ok feature
told_ok object feature is = as_told object (Ok feature) is

pub told_pair : (object : Object) (place : ℕ) → checked object ≡ Err (BadPair place) → relocations_of object ≡ Err (fault.Malformed place rule.Pair)
told_pair object place is = as_told object (Err (BadPair place)) is

pub told_shape : (object : Object) (place : ℕ) → checked object ≡ Err (BadShape place) → relocations_of object ≡ Err (fault.Malformed place rule.Shape)
told_shape object place is = as_told object (Err (BadShape place)) is

pub told_place : (object : Object) (place : ℕ) → checked object ≡ Err (BadPlace place) → relocations_of object ≡ Err (fault.Malformed place rule.Place)
told_place object place is = as_told object (Err (BadPlace place)) is

pub told_target : (object : Object) (place : ℕ) → checked object ≡ Err (BadTarget place) → relocations_of object ≡ Err (fault.Malformed place rule.Target)
told_target object place is = as_told object (Err (BadTarget place)) is

pub told_feature : (object : Object) (feature : Feature) → checked object ≡ Err (Unsupported feature) → relocations_of object ≡ Err (fault.Unsupported feature)
told_feature object feature is = as_told object (Err (Unsupported feature)) is

pub ruleset answers = (told_pair, told_shape, told_place, told_target, told_feature)

found_nothing : (answer : Result (Option Feature) RefFault) → told answer ≡ Ok None → answer ≡ Ok None
found_nothing (Ok None) e = refl
found_nothing (Ok (Some feature)) e = cc
found_nothing (Err (BadPair place)) e = cc
found_nothing (Err (BadShape place)) e = cc
found_nothing (Err (BadPlace place)) e = cc
found_nothing (Err (BadTarget place)) e = cc
found_nothing (Err (Unsupported feature)) e = cc
found_nothing (Err OutOfMemory) e = cc

pub read_where_nothing : (object : Object) (file : FileId) → relocations_of object ≡ Ok None → refs_of object file ≡ Ok (refs_from object file 1 object.sections)
read_where_nothing object file is = read_all object file (found_nothing (checked object) (told_of_object object ∙ is))
