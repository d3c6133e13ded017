-- The rules of relocations, as they are asked of an object.
use Rattle.std.specs.Prelude.{Option, Some, None, Result, if◌then◌else◌}
use Rattle.mo_types.specs.Gives.{◌>>=◌}
use Rattle.mo_types.specs.Refs.{has_absolute, has_authenticated}
use Rattle.mo_types.specs.RelocationRules.{first_fault, pair_fault, shape_fault, place_fault, target_fault}
use Rattle.mo_types.specs.declared.cause.Feature.{Feature}
use Rattle.mo_types.specs.declared.cause.Feature.TheVariants as feature
use Rattle.mo_types.specs.declared.cause.Rule.TheVariants as rule
use Rattle.mo_types.specs.declared.object_fault.ObjFault.{ObjFault}
use Rattle.mo_types.specs.declared.object.Object.{Object}
use Rattle.mo_obj.specs.Faults.{keeps}

-- what a relocation has that the linker doesn't
abbrev pub reloc_feature : Object → Option Feature
reloc_feature object =
    if has_absolute object then Some feature.Absolute
    else if has_authenticated object then Some feature.PointerAuth else None

-- the rules in their order, and then that feature
unfoldable pub relocations_of : Object → Result (Option Feature) ObjFault
relocations_of object =
    keeps rule.Pair (first_fault pair_fault object) (tt {0}) >>= λ pair.
    keeps rule.Shape (first_fault shape_fault object) (tt {0}) >>= λ shape.
    keeps rule.Place (first_fault place_fault object) (tt {0}) >>= λ place.
    keeps rule.Target (first_fault target_fault object) (reloc_feature object)
