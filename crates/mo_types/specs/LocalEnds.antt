-- Where references lead: to symbols, or straight to atoms of their own file.
use Rattle.std.specs.Prelude.{◌||◌, Bool, false, true}
use Rattle.std.specs.Option.{option_map_or}
use Rattle.mo_types.specs.declared.reference.Ref.{Ref}
use Rattle.mo_types.specs.declared.reference.Target.{Target}
use Rattle.mo_types.specs.declared.reference.Target.TheVariants.{Name, Local}

abbrev pub is_local : Target → Bool
is_local (Name index) = false
is_local (Local atom offset) = true

-- the target, or what is subtracted from it, is an atom
abbrev pub has_local : Ref → Bool
has_local ref = is_local ref.target || option_map_or is_local ref.minus false
