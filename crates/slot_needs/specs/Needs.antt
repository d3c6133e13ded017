-- Which goals need slots and stubs, and how (`mach-o/arm64/reloc.h`: ARM64_RELOC_GOT_LOAD_PAGE21, ARM64_RELOC_POINTER_TO_GOT,
-- ARM64_RELOC_TLVP_LOAD_PAGE21, ARM64_RELOC_BRANCH26 and their kin).
use Rattle.std.specs.Prelude.{ℕ, ◌&&◌, Bool, true, false, ℤ, List, [], ◌∷◌, ◌++◌, Option, Some, None, Contains, slice_get, if◌then◌else◌}
use Rattle.std.specs.List.{enumerate_from, filter_map, flat_map}
use Rattle.std.specs.Option.{option_map, option_map_or}
use Rattle.image_read.specs.Reaches.{is_looked_up, is_zero}
use Rattle.liveness.specs.Undefined.{kept_refs}
use Rattle.literal_merge.specs.declared.representative.Representative.{Representative}
use Rattle.mo_types.specs.declared.goal.Goal.{Goal}
use Rattle.mo_types.specs.declared.goal.Goal.TheVariants.{Import, Flat}
use Rattle.mo_types.specs.declared.key.AtomKey.{AtomKey}
use Rattle.mo_types.specs.declared.loaded.LoadedFile.{LoadedFile}
use Rattle.mo_types.specs.declared.reference.Ref.{Ref}
use Rattle.mo_types.specs.declared.reference.RefKind.{RefKind}
use Rattle.mo_types.specs.declared.reference.RefKind.TheVariants.{Branch, GotPage, GotPageOff, GotDelta, GotPointer, TlvPage, TlvPageOff}
use Rattle.resolve.specs.Goals.{target_goal}
use Rattle.resolve.specs.Table.{goals_of}
use Rattle.slot_plan.specs.declared.need.Need.{Need}
use Rattle.slot_plan.specs.declared.need.Way.{Way}
use Rattle.slot_plan.specs.declared.need.Way.TheVariants.{Got, Stub, Tlv}
use Rattle.slot_needs.specs.declared.referring.Referring.{Referring}

-- another image has the goal
abbrev pub is_outer : Goal → Bool
is_outer (Import name ordinal by_weak optional) = true
is_outer (Flat name) = true
is_outer _ = false

-- how a branch needs its goal: by a stub where the loader looks it up, if nothing is added to it
abbrev pub branch_way : ℤ → Goal → Option Way
branch_way addend goal = if is_looked_up goal && is_zero addend then Some Stub else None

-- how a reference with an addend needs its goal, where it needs more than the goal's own address
abbrev pub way_of : RefKind → ℤ → Goal → Option Way
way_of Branch addend goal = branch_way addend goal
way_of GotPage addend goal = Some Got
way_of GotPageOff addend goal = Some Got
way_of GotDelta addend goal = Some Got
way_of GotPointer addend goal = Some Got
way_of TlvPage addend goal = Some Tlv
way_of TlvPageOff addend goal = Some Tlv
way_of _ addend goal = None

abbrev pub need_by : Goal → Option Way → Option Need
need_by goal way = option_map (λ way. record { goal = goal; way = way }) way

-- what a reference needs, by the goals of its file's symbols
unfoldable pub need_of : List Representative → List Goal → Ref → Option Need
need_of literals goals r = need_by (target_goal literals goals r.target) (way_of r.kind r.addend (target_goal literals goals r.target))

-- what the kept atoms of a file need
abbrev pub needs_in : List Representative → List AtomKey → List Goal → LoadedFile → List Need
needs_in literals keys goals file = filter_map (need_of literals goals) (kept_refs keys file)

-- those of the file at a place, whose symbols have the goals there
unfoldable pub needs_at : List Representative → List AtomKey → List (List Goal) → ℕ × LoadedFile → List Need
needs_at literals keys goals p = option_map_or (λ some. needs_in literals keys some p.1) (slice_get goals p.0) []

-- an executable begins in another image by a stub
abbrev pub entry_needs : Option Goal → List Need
entry_needs None = []
entry_needs (Some goal) = if is_outer goal then record { goal = goal; way = Stub } ∷ [] else []

-- what the kept atoms of files need, and the entry
unfoldable pub needs : List Representative → List AtomKey → List (List Goal) → List LoadedFile → Option Goal → List Need
needs literals keys goals files entry = flat_map (needs_at literals keys goals) (enumerate_from 0 files) ++ entry_needs entry

abbrev pub needs_of : Referring → List Need
needs_of r = needs r.symbols.now.literals r.keys.now (goals_of r.goals.now) r.loaded.now.files (option_map (λ entry. entry.now) r.entry)

-- the same needs, maybe another number of times
pub record AreSame (needs few : List Need) : Type 0 where
  pub all : (need : Need) → Contains needs need → Contains few need
  pub only : (need : Need) → Contains few need → Contains needs need
