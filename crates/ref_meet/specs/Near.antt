-- Goals near the start of their atom, so that each address to which something leads has 64 bits.
use Rattle.std.specs.Prelude.{◌<◌, ◌^◌, All, IfSome, List}
use Rattle.mo_types.specs.declared.goal.Goal.{Goal}
use Rattle.mo_types.specs.declared.goal.Goal.TheVariants.{Def, WeakSelf}
use Rattle.mo_types.specs.declared.loaded.LoadedFile.{LoadedFile}
use Rattle.mo_types.specs.declared.reference.Ref.{Ref}
use Rattle.mo_types.specs.declared.reference.Target.{Target}
use Rattle.mo_types.specs.declared.reference.Target.TheVariants.{Name, Local}

-- a goal within 2^63 bytes of its atom's start
abbrev pub IsNear : Goal → Type 0
IsNear (Def atom offset) = offset < 2 ^ 63
IsNear (WeakSelf name atom offset) = offset < 2 ^ 63
IsNear _ = Unit {0}

-- a target that is no such place itself, or within 2^63 bytes of its atom's start
abbrev pub IsNearTarget : Target → Type 0
IsNearTarget (Name index) = Unit {0}
IsNearTarget (Local atom offset) = offset < 2 ^ 63

-- a reference whose target is near, and what is subtracted from it
pub record HasNearEnds (r : Ref) : Type 0 where
  pub target : IsNearTarget r.target
  pub minus : IfSome r.minus IsNearTarget

-- those of files
abbrev pub HaveNearEnds : List LoadedFile → Type 0
HaveNearEnds files = All (λ file. All HasNearEnds file.refs) files
