-- References are read where nothing is found.
use Rattle.std.proofs.Common.{◌≡◌, ℕ, List, Bool, true, false, Option, Some, None, Result, Ok, Err, if◌then◌else◌, refl, ap, ◌∙◌}
use Rattle.mo_types.specs.Refs.{has_absolute, has_authenticated, or_fault, refs_from, refs_of}
use Rattle.mo_types.specs.RelocationRules.{first_fault, pair_fault, shape_fault, place_fault, target_fault}
use Rattle.mo_types.specs.declared.cause.Feature.{Feature}
use Rattle.mo_types.specs.declared.cause.Feature.TheVariants.{Absolute, PointerAuth}
use Rattle.mo_types.specs.declared.key.FileId.{FileId}
use Rattle.mo_types.specs.declared.object.Object.{Object}
use Rattle.mo_types.specs.declared.reference.Ref.{Ref}
use Rattle.mo_types.specs.declared.reference_fault.RefFault.{RefFault}
use Rattle.mo_types.specs.declared.reference_fault.RefFault.TheVariants.{BadPair, BadShape, BadPlace, BadTarget, Unsupported}
use Rattle.reloc_read.specs.Checked.{checked, feature_of, unless_fault}

-- the references, or the feature as a fault
abbrev pub read : List Ref → Result (Option Feature) RefFault → Result (List Ref) RefFault
read refs (Ok None) = Ok refs
read refs (Ok (Some feature)) = Err (Unsupported feature)
read refs (Err fault) = Err fault

features_read : (absolute authenticated : Bool) (refs : List Ref) → (if absolute then Err (Unsupported Absolute) else if authenticated then Err (Unsupported PointerAuth) else Ok refs) ≡ read refs (Ok (if absolute then Some Absolute else if authenticated then Some PointerAuth else None))
features_read true authenticated refs = refl
features_read false true refs = refl
features_read false false refs = refl

rules_read : (pair shape place target : Option ℕ) (rest : Result (List Ref) RefFault) (refs : List Ref) (feature : Option Feature) → rest ≡ read refs (Ok feature) → or_fault BadPair pair (or_fault BadShape shape (or_fault BadPlace place (or_fault BadTarget target rest))) ≡ read refs (unless_fault BadPair pair (unless_fault BadShape shape (unless_fault BadPlace place (unless_fault BadTarget target (Ok feature)))))
rules_read (Some at) shape place target rest refs feature e = refl
rules_read None (Some at) place target rest refs feature e = refl
rules_read None None (Some at) target rest refs feature e = refl
rules_read None None None (Some at) rest refs feature e = refl
rules_read None None None None rest refs feature e = e

refs_read : (object : Object) (file : FileId) → refs_of object file ≡ read (refs_from object file 1 object.sections) (checked object)
unfolding refs_of checked
refs_read object file =
    rules_read (first_fault pair_fault object) (first_fault shape_fault object) (first_fault place_fault object) (first_fault target_fault object) _
    (refs_from object file 1 object.sections) (feature_of object)
    (features_read (has_absolute object) (has_authenticated object) (refs_from object file 1 object.sections))

as_read : (object : Object) (file : FileId) (answer : Result (Option Feature) RefFault) → checked object ≡ answer → refs_of object file ≡ read (refs_from object file 1 object.sections) answer
as_read object file answer is = refs_read object file ∙ ap (read (refs_from object file 1 object.sections)) is

pub read_all : (object : Object) (file : FileId) → checked object ≡ Ok None → refs_of object file ≡ Ok (refs_from object file 1 object.sections)
read_all object file is = as_read object file (Ok None) is

pub read_feature : (object : Object) (file : FileId) (feature : Feature) → checked object ≡ Ok (Some feature) → refs_of object file ≡ Err (Unsupported feature)
read_feature object file feature is = as_read object file (Ok (Some feature)) is

pub read_fault : (object : Object) (file : FileId) (fault : RefFault) → checked object ≡ Err fault → refs_of object file ≡ Err fault
read_fault object file fault is = as_read object file (Err fault) is

pub ruleset checks = (read_all, read_feature, read_fault)
