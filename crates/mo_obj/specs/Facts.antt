-- What it means that bytes are those of an object, or have a first fault, fact by fact.
use Rattle.std.specs.Prelude.{ℕ, ◌^◌, ◌<◌, ◌≤◌, ◌≡◌, ◌⊎◌, true, false, List, length, Option, Some, None}
use Rattle.mo_types.specs.Kind.{kind_of}
use Rattle.mo_types.specs.declared.cause.Feature.{Feature}
use Rattle.mo_types.specs.declared.cause.Feature.TheVariants.{FileType, Machine}
use Rattle.mo_types.specs.declared.cause.Rule.{Rule}
use Rattle.mo_types.specs.declared.cause.Which.TheVariants.{Symbols}
use Rattle.mo_types.specs.declared.kind.Kind.TheVariants.{MachO}
use Rattle.mo_types.specs.declared.object.Object.{Object}
use Rattle.mo_types.specs.declared.object_fault.ObjFault.{ObjFault}
use Rattle.mo_types.specs.declared.object_fault.ObjFault.TheVariants.{Limit, Malformed, Unsupported}
use Rattle.mo_obj.specs.Features.{first_feature}
use Rattle.mo_obj.specs.Header.{is_arm64, is_relocatable}
use Rattle.mo_obj.specs.Object.{may_be_cut}
use Rattle.mo_obj.specs.Parts.{foreign_in, header_in, object_in, sections_in, symbols_in}
use Rattle.mo_obj.specs.Relocations.{reloc_feature}
use Rattle.mo_obj.specs.Rules.{Fails, rank}

-- a relocatable file for arm64
pub record IsForArm64 (bytes : List ℕ) : Type 0 where
  pub machine : is_arm64 (header_in bytes) ≡ true
  pub filetype : is_relocatable (header_in bytes) ≡ true

-- a relocatable file for arm64 in which every rule fails nowhere
pub record IsSound (bytes : List ℕ) : Type 0 where
  pub target : IsForArm64 bytes
  pub rules : (rule : Rule) (place : ℕ) → Fails bytes rule place → ⊥

-- the first feature that the file has and the linker doesn't
abbrev pub feature_in : List ℕ → Option Feature
feature_in bytes = first_feature (object_in bytes) (foreign_in bytes) (reloc_feature (object_in bytes))

-- The bytes are those of an object: each section is what its header says, each symbol what its entry says, every
-- rule fails nowhere, and the linker has all that is needed.
pub record IsObject (bytes : List ℕ) (object : Object) : Type 0 where
  pub kind : kind_of bytes ≡ MachO
  pub sound : IsSound bytes
  pub subsections : object.subsections ≡ may_be_cut (header_in bytes)
  pub sections : object.sections ≡ sections_in bytes
  pub symbols : object.symbols ≡ symbols_in bytes
  pub features : feature_in bytes ≡ None
  pub few : length (symbols_in bytes) < 2 ^ 24

-- A rule fails at a place and at none before it, and the rules before it fail nowhere. The file's machine and type are
-- asked for behind its header.
pub record IsFirstFailure (bytes : List ℕ) (rule : Rule) (place : ℕ) : Type 0 where
  pub target : 0 < rank rule → IsForArm64 bytes
  pub earlier : (other : Rule) → rank other < rank rule → (at : ℕ) → Fails bytes other at → ⊥
  pub fails : Fails bytes rule place
  pub least : (at : ℕ) → at < place → Fails bytes rule at → ⊥

-- a whole header of a file for another machine, or of another type
pub record IsForeign (bytes : List ℕ) (feature : Feature) : Type 0 where
  pub header : 32 ≤ length bytes
  pub is :
      ((is_arm64 (header_in bytes) ≡ false) × (feature ≡ Machine))
      ⊎ ((is_arm64 (header_in bytes) ≡ true) × (is_relocatable (header_in bytes) ≡ false) × (feature ≡ FileType))

-- no rule fails, and the file has a feature that the linker doesn't have
pub record IsLacking (bytes : List ℕ) (feature : Feature) : Type 0 where
  pub sound : IsSound bytes
  pub is : feature_in bytes ≡ Some feature

-- no rule fails, and the linker has all features, but there are too many symbols
pub record IsTooLarge (bytes : List ℕ) : Type 0 where
  pub sound : IsSound bytes
  pub features : feature_in bytes ≡ None
  pub many : 2 ^ 24 ≤ length (symbols_in bytes)

-- the first thing that keeps a file from being an object
abbrev pub IsFirst : List ℕ → ObjFault → Type 0
IsFirst bytes (Malformed place rule) = IsFirstFailure bytes rule place
IsFirst bytes (Unsupported feature) = IsForeign bytes feature ⊎ IsLacking bytes feature
IsFirst bytes (Limit Symbols) = IsTooLarge bytes
IsFirst bytes _ = ⊥

-- the bytes are a Mach-O file, and the fault is the first one that it has
pub record IsFaulty (bytes : List ℕ) (fault : ObjFault) : Type 0 where
  pub kind : kind_of bytes ≡ MachO
  pub first : IsFirst bytes fault

-- one object and no fault
pub record IsOne (bytes : List ℕ) (object : Object) : Type 0 where
  pub is : IsObject bytes object
  pub alone : (other : Object) → IsObject bytes other → other ≡ object
  pub faultless : (fault : ObjFault) → IsFaulty bytes fault → ⊥

-- one fault and no object
pub record IsFaultyAlone (bytes : List ℕ) (fault : ObjFault) : Type 0 where
  pub is : IsFaulty bytes fault
  pub alone : (other : ObjFault) → IsFaulty bytes other → other ≡ fault
  pub objectless : (object : Object) → IsObject bytes object → ⊥

abbrev pub IsOneOrFaulty : List ℕ → Type 0
IsOneOrFaulty bytes = ((object : Object) × IsOne bytes object) ⊎ ((fault : ObjFault) × IsFaultyAlone bytes fault)
