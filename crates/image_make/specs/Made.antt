-- The image of the atoms that are kept (`loader.h`).
use Rattle.std.specs.Prelude.{ℕ, ◌+◌, ◌-◌, ◌<◌, ◌^◌, ◌⊎◌, ◌≡◌, List, [], ◌∷◌, length, map, All, Option, Result, Ok, Err}
use Rattle.std.specs.Option.{option_map}
use Rattle.command_line.specs.declared.command.Command.{Command}
use Rattle.fixup_chain.specs.Chained.{AreChains}
use Rattle.fixup_chain.specs.declared.chains.Chains.{Chains}
use Rattle.fixup_chain.specs.declared.chains.Fixup.{Fixup}
use Rattle.lib_bind.specs.declared.library.LibraryGraph.{LibraryGraph}
use Rattle.literal_merge.specs.declared.representative.Representative.{Representative}
use Rattle.load_cmds.specs.Commands.{commands_of}
use Rattle.load_cmds.specs.Sizes.{other_size}
use Rattle.mo_types.specs.declared.goal.Goal.{Goal}
use Rattle.mo_types.specs.declared.key.AtomKey.{AtomKey}
use Rattle.mo_types.specs.declared.loaded.LoadedFile.{LoadedFile}
use Rattle.patch.specs.Range.{HasBytes, IsPlaced, IsSameBeside}
use Rattle.patch.specs.declared.met.Met.{Met}
use Rattle.patch.specs.declared.met.RangeFault.{RangeFault}
use Rattle.patch.specs.declared.range.PlacedWork.{PlacedWork}
use Rattle.ref_meet.specs.Addresses.{entry_address}
use Rattle.ref_meet.specs.Binds.{binds}
use Rattle.ref_meet.specs.Mets as mets
use Rattle.ref_meet.specs.Pointers.{AreFixups}
use Rattle.ref_meet.specs.Scene.{Scene}
use Rattle.sect_list.specs.OutSections.{out_sections}
use Rattle.sect_place.specs.Layout.{IsLayoutOf, IsTooLarge, Plan, base_of, image_size, plan_of}
use Rattle.sect_place.specs.declared.island.IslandPlan.{IslandPlan}
use Rattle.sect_place.specs.declared.layout.Layout.{Layout}
use Rattle.sect_place.specs.declared.size.PlaceFault.{PlaceFault}
use Rattle.sect_place.specs.declared.size.PlaceSizes.{PlaceSizes}
use Rattle.slot_plan.specs.declared.list.Slots.{Slots}
use Rattle.symbol_winners.specs.declared.winner.Winner.{Winner}
use Rattle.unwind_link.specs.Rows.{AreRows}
use Rattle.unwind_link.specs.declared.kept.KeptUnwind.{KeptUnwind}
use Rattle.unwind_out.specs.Pages.{IsSection}
use Rattle.unwind_out.specs.Table.{AreApart}
use Rattle.unwind_out.specs.declared.row.UnwindRow.{UnwindRow}
use Rattle.image_make.specs.Atoms.{atom_of, kept_atoms}
use Rattle.image_make.specs.Faults.{AllFit, IsFirstFault}
use Rattle.image_make.specs.Flags.{bound_flags}
use Rattle.image_make.specs.Parts.{blank_of, parts_of, parts_there, whole_size}
use Rattle.image_make.specs.Rows.{rows}
use Rattle.image_make.specs.declared.fault.MakeFault.{MakeFault}
use Rattle.image_make.specs.declared.fault.MakeFault.TheVariants.{Place, Range, OutOfMemory}
use Rattle.image_make.specs.declared.kept.KeptAtom.{KeptAtom}

-- What an image is made of: the command and its libraries, the loaded files with the goals of their symbols, what stands for
-- each literal, the winners of names, the keys of the atoms that are kept, the header's flags but for those that pointers and
-- sections tell, where the program begins, the slots and islands that it has, the unwind entries of kept atoms, and the bytes
-- of `__unwind_info`, which none has where there are no entries.
pub record ImageInputs : Type 0 where
  pub command : Command
  pub libs : LibraryGraph
  pub files : List LoadedFile
  pub goals : List (List Goal)
  pub literals : List Representative
  pub winners : List Winner
  pub keys : List AtomKey
  pub flags : ℕ
  pub entry : Goal
  pub slots : Slots
  pub islands : IslandPlan
  pub unwinds : List KeptUnwind
  pub info : List ℕ

-- the same with other bytes of `__unwind_info`
abbrev pub with_info : ImageInputs → List ℕ → ImageInputs
with_info m info = record m { info = info }

-- ---- the layout

abbrev pub kept_of : ImageInputs → List KeptAtom
kept_of m = kept_atoms m.literals m.winners m.keys m.files

abbrev pub sizes_of : Command → LibraryGraph → ℕ → PlaceSizes
sizes_of command libs unwind = record { commands = other_size parts_there command libs; unwind = unwind }

-- what is placed, with so many bytes of `__unwind_info`
unfoldable pub plan_with : Command → LibraryGraph → List LoadedFile → List KeptAtom → Slots → IslandPlan → ℕ → Plan
plan_with command libs files kept slots islands unwind =
    plan_of (map atom_of kept) (out_sections files (map atom_of kept)) slots islands (sizes_of command libs unwind) command

abbrev pub plan_for : ImageInputs → Plan
plan_for m = plan_with m.command m.libs m.files (kept_of m) m.slots m.islands (length m.info)

abbrev pub scene_of : ImageInputs → Layout → Scene
scene_of m layout = record {
  files = m.files;
  goals = m.goals;
  literals = m.literals;
  layout = layout;
  slots = m.slots;
  base = base_of m.command;
}

-- what `__unwind_info` holds where everything stands: the rows of entries, no two of which have a byte in common
pub record HoldsRows (scene : Scene) (unwinds : List KeptUnwind) (info : List ℕ) : Type 0 where
  pub rows : List UnwindRow
  pub are_rows : AreRows scene unwinds rows
  pub apart : AreApart rows
  pub section : IsSection rows info

-- it has no bytes where there are no entries
abbrev pub IsInfo : Scene → List KeptUnwind → List ℕ → Type 0
IsInfo scene [] info = info ≡ []
IsInfo scene (entry ∷ more) info = HoldsRows scene (entry ∷ more) info

-- A layout of it, which has fewer than 2^32 bytes before `__LINKEDIT`. The bytes of `__unwind_info` tell where everything
-- stands in it.
pub record IsLaid (m : ImageInputs) (layout : Layout) : Type 0 where
  pub layout_of : IsLayoutOf m.command (plan_for m) layout
  pub small : image_size (plan_for m) < 2 ^ 32
  pub unwinds : IsInfo (scene_of m layout) m.unwinds m.info

-- ---- references and pointers

-- what the image is bound to, wherever it stands
abbrev pub binds_of : ImageInputs → List Fixup
binds_of m = binds m.files m.literals m.keys m.goals m.slots

-- the atoms that have bytes, with their places
abbrev pub rows_of : ImageInputs → Layout → List PlacedWork
rows_of m layout = rows layout.placed (kept_of m) layout.sections

-- the references of an atom, by the words of the chains
abbrev pub mets_of : ImageInputs → Layout → Chains → PlacedWork → List Met
mets_of m layout chains = mets.mets_of (scene_of m layout) chains.words

-- those that tell an address or a distance themselves
abbrev pub told_mets : ImageInputs → Layout → PlacedWork → List Met
told_mets m layout = mets.mets_of (scene_of m layout) []

-- what of the layout is filled in by the loader: all pointers, and their chains
pub record IsChained (m : ImageInputs) (layout : Layout) (fixups : List Fixup) (chains : Chains) : Type 0 where
  pub pointers : AreFixups (scene_of m layout) (rows_of m layout) fixups
  pub chains_are : AreChains layout fixups chains

-- a value is the first that is out of range
pub record IsUnfit (m : ImageInputs) (layout : Layout) (atom : Option AtomKey) (fault : RangeFault) : Type 0 where
  pub laid : IsLaid m layout
  pub fixups : List Fixup
  pub pointers : AreFixups (scene_of m layout) (rows_of m layout) fixups
  pub first : IsFirstFault layout fixups m.files (told_mets m layout) (rows_of m layout) atom fault

-- ---- what is written

-- the offset of the first instruction from the start of `__TEXT`
abbrev pub entry_offset : ImageInputs → Layout → Option ℕ
entry_offset m layout = option_map (λ address. address - base_of m.command) (entry_address (scene_of m layout) m.entry)

abbrev pub front_of : ImageInputs → Layout → List Fixup → Chains → List ℕ
front_of m layout fixups chains =
    commands_of layout (parts_of (m.flags + bound_flags fixups layout.sections) (entry_offset m layout) layout chains) m.command m.libs

abbrev pub blank : ImageInputs → Layout → List Fixup → Chains → List ℕ
blank m layout fixups chains = blank_of layout m.slots m.info chains (front_of m layout fixups chains)

-- an image is a blank one with its atoms, each of bytes with its fields, and no other change
pub record IsFilledImage (files : List LoadedFile) (mets : PlacedWork → List Met) (items : List PlacedWork) (old image : List ℕ) : Type 0 where
  pub beside : IsSameBeside files 0 items old image
  pub placed : All (IsPlaced files mets 0 image) items
  pub bytes : All (HasBytes files 0 image) items

-- an image of this layout, these pointers and their chains, which has fewer than 2^32 bytes
pub record IsImage (m : ImageInputs) (layout : Layout) (fixups : List Fixup) (chains : Chains) (image : List ℕ) : Type 0 where
  pub laid : IsLaid m layout
  pub chained : IsChained m layout fixups chains
  pub few : whole_size (base_of m.command) layout chains < 2 ^ 32
  pub filled : IsFilledImage m.files (mets_of m layout chains) (rows_of m layout) (blank m layout fixups chains) image

-- all values are in range, but the whole image has too many bytes
pub record IsOverlong (m : ImageInputs) (fault : PlaceFault) : Type 0 where
  pub layout : Layout
  pub laid : IsLaid m layout
  pub fixups : List Fixup
  pub chains : Chains
  pub chained : IsChained m layout fixups chains
  pub fit : AllFit layout fixups m.files (told_mets m layout) (rows_of m layout)
  pub long : IsTooLarge (whole_size (base_of m.command) layout chains) fault

-- with these bytes of `__unwind_info` there is an image, or one is too large as a whole, or a value is out of range; want of
-- memory is left to the code
abbrev pub IsMadeWith : ImageInputs → Result (List ℕ) MakeFault → Type 0
IsMadeWith m (Ok image) = (layout : Layout) × (fixups : List Fixup) × (chains : Chains) × IsImage m layout fixups chains image
IsMadeWith m (Err (Place fault)) = IsOverlong m fault
IsMadeWith m (Err (Range atom fault)) = (layout : Layout) × IsUnfit m layout atom fault
IsMadeWith m (Err OutOfMemory) = Unit {0}

-- ---- the size of what is unwound

-- a byte of `__unwind_info`, where it has some
abbrev pub least_info : List KeptUnwind → List ℕ
least_info [] = []
least_info (entry ∷ more) = 0 ∷ []

-- with a byte of `__unwind_info` alone, where it has some
abbrev pub with_least : ImageInputs → ImageInputs
with_least m = with_info m (least_info m.unwinds)

-- With that byte it has fewer than 2^32 bytes before `__LINKEDIT`. Such are the bytes of `__unwind_info` by where everything
-- stands then: as many as by where everything stands with them.
pub record IsFirstInfo (m : ImageInputs) (info : List ℕ) : Type 0 where
  pub layout : Layout
  pub layout_of : IsLayoutOf m.command (plan_for (with_least m)) layout
  pub small : image_size (plan_for (with_least m)) < 2 ^ 32
  pub holds : IsInfo (scene_of m layout) m.unwinds info

-- what stands before `__LINKEDIT` is too large with a byte of `__unwind_info`, or else with all
abbrev pub IsPlaceFault : ImageInputs → PlaceFault → Type 0
IsPlaceFault m fault =
    IsTooLarge (image_size (plan_for (with_least m))) fault
    ⊎ ((info : List ℕ) × IsFirstInfo m info × IsTooLarge (image_size (plan_for (with_info m info))) fault)

-- an image, or why there is none, whatever bytes of `__unwind_info` are given; want of memory is left to the code
abbrev pub IsMade : ImageInputs → Result (List ℕ) MakeFault → Type 0
IsMade m (Ok image) = (info : List ℕ) × IsMadeWith (with_info m info) (Ok image)
IsMade m (Err (Place fault)) = IsPlaceFault m fault ⊎ ((info : List ℕ) × IsMadeWith (with_info m info) (Err (Place fault)))
IsMade m (Err (Range atom fault)) = (info : List ℕ) × IsMadeWith (with_info m info) (Err (Range atom fault))
IsMade m (Err OutOfMemory) = Unit {0}
