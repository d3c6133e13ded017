-- The rules of relocations and the features that the linker doesn't have, without references.
use Rattle.std.specs.Prelude.{ℕ, Option, Some, None, Result, Ok, Err, if◌then◌else◌}
use Rattle.mo_types.specs.Refs.{has_absolute, has_authenticated}
use Rattle.mo_types.specs.RelocationRules.{first_fault, pair_fault, shape_fault, place_fault, target_fault}
use Rattle.mo_types.specs.declared.cause.Feature.{Feature}
use Rattle.mo_types.specs.declared.cause.Feature.TheVariants.{Absolute, PointerAuth}
use Rattle.mo_types.specs.declared.object.Object.{Object}
use Rattle.mo_types.specs.declared.reference_fault.RefFault.{RefFault}
use Rattle.mo_types.specs.declared.reference_fault.RefFault.TheVariants.{BadPair, BadShape, BadPlace, BadTarget}

-- the fault of a rule where it fails, or what follows
abbrev pub unless_fault : {A : Type 0} → (ℕ → RefFault) → Option ℕ → Result A RefFault → Result A RefFault
unless_fault fault None rest = rest
unless_fault fault (Some place) rest = Err (fault place)

-- the first feature that the linker doesn't have
abbrev pub feature_of : Object → Option Feature
feature_of object =
    if has_absolute object then Some Absolute else if has_authenticated object then Some PointerAuth else None

-- the first rule that fails, at its least place, or else that feature
unfoldable pub checked : Object → Result (Option Feature) RefFault
checked object =
    unless_fault BadPair (first_fault pair_fault object)
    (unless_fault BadShape (first_fault shape_fault object)
    (unless_fault BadPlace (first_fault place_fault object)
    (unless_fault BadTarget (first_fault target_fault object) (Ok (feature_of object)))))
