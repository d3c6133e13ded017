-- The flags of an image's header that tell what it is bound to and what its sections hold (`loader.h`: MH_NOUNDEFS,
-- MH_BINDS_TO_WEAK, MH_HAS_TLV_DESCRIPTORS).
use Rattle.std.specs.Prelude.{ℕ, ◌+◌, ◌==◌, Bool, true, false, List, if◌then◌else◌}
use Rattle.std.specs.List.{list_any}
use Rattle.fixup_chain.specs.declared.chains.Fixup.{Fixup}
use Rattle.mo_format.specs.declared.loader.TheConstants.{MH_BINDS_TO_WEAK, MH_HAS_TLV_DESCRIPTORS, MH_NOUNDEFS, S_THREAD_LOCAL_VARIABLES}
use Rattle.mo_types.specs.declared.goal.Goal.{Goal}
use Rattle.mo_types.specs.declared.goal.Goal.TheVariants.{Def, WeakSelf, Header, Import, Flat, Nobody}
use Rattle.sect_place.specs.declared.layout.PlacedSection.{PlacedSection}

-- a goal is looked up in all images
abbrev pub is_flat : Goal → Bool
is_flat (Flat name) = true
is_flat _ = false

-- a goal is looked up as a weak definition
abbrev pub is_weak : Goal → Bool
is_weak (Def key offset) = false
is_weak (WeakSelf name key offset) = true
is_weak Header = false
is_weak (Import name ordinal by_weak optional) = by_weak
is_weak (Flat name) = false
is_weak Nobody = false

abbrev pub flag_if : Bool → ℕ → ℕ
flag_if holds flag = if holds then flag else 0

-- no pointer is looked up in all images
abbrev pub undefs_flag : List Fixup → ℕ
undefs_flag fixups = flag_if (if list_any (λ (fixup : Fixup). is_flat fixup.goal) fixups then false else true) MH_NOUNDEFS

-- some pointer is looked up as a weak definition
abbrev pub weak_flag : List Fixup → ℕ
weak_flag fixups = flag_if (list_any (λ (fixup : Fixup). is_weak fixup.goal) fixups) MH_BINDS_TO_WEAK

-- some section holds descriptors of thread-local variables
abbrev pub descriptors_flag : List PlacedSection → ℕ
descriptors_flag sections =
    flag_if (list_any (λ (placed : PlacedSection). placed.section.kind == S_THREAD_LOCAL_VARIABLES) sections) MH_HAS_TLV_DESCRIPTORS

unfoldable pub bound_flags : List Fixup → List PlacedSection → ℕ
bound_flags fixups sections = undefs_flag fixups + weak_flag fixups + descriptors_flag sections
