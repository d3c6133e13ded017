-- What an image is bound to: the slots and stubs that it needs, how many imports it has, and what none of these serves
-- (`fixup-chains.h`, `mach-o/arm64/reloc.h`).
use Rattle.std.specs.Prelude.{◌≡◌, ◌≢◌, ◌++◌, List, [], map, Contains, Option, Some, None, if◌then◌else◌}
use Rattle.std.specs.declared.cmp.Ordering.TheVariants.{Greater}
use Rattle.command_line.specs.declared.command.Command.{Command}
use Rattle.fixup_chain.specs.Chained.{AreMany}
use Rattle.fixup_chain.specs.declared.chains.Fixup.{Fixup}
use Rattle.literal_merge.specs.declared.representative.Representative.{Representative}
use Rattle.mo_types.specs.declared.answer.Refusal.{Refusal}
use Rattle.mo_types.specs.declared.answer.Refusal.TheVariants.{Limit, NeedsImage}
use Rattle.mo_types.specs.declared.cause.Which.TheVariants.{Imports}
use Rattle.mo_types.specs.declared.goal.Goal.{Goal}
use Rattle.mo_types.specs.declared.key.AtomKey.{AtomKey}
use Rattle.mo_types.specs.declared.loaded.LoadedFile.{LoadedFile}
use Rattle.slot_needs.specs.Needs.{needs}
use Rattle.slot_needs.specs.Unmet.{compare_unmet}
use Rattle.slot_needs.specs.declared.unmet.Unmet.{Unmet}
use Rattle.slot_plan.specs.Slots.{AreSlots, in_got, in_stubs, in_tlv, needed}
use Rattle.slot_plan.specs.declared.list.Slots.{Slots}
use Rattle.slot_plan.specs.declared.need.Need.{Need}
use Rattle.unwind_link.specs.Personalities.{slot_need}
use Rattle.link_files.specs.Names.{label_of}
use Rattle.link_files.specs.Unwinding.{handlers}

-- ---- slots

-- an executable begins at its entry, and a library nowhere
abbrev pub start_of : Command → Goal → Option Goal
start_of command entry = if command.dylib then None else Some entry

-- what the references of kept atoms need, the entry, and the personalities of the atoms' unwind entries
abbrev pub all_needs : List Representative → List AtomKey → List (List Goal) → List LoadedFile → Option Goal → List Need
all_needs literals keys goals files entry = needs literals keys goals files entry ++ map slot_need (handlers literals keys goals files)

-- the slots and stubs that some needs ask for
pub record AreSlotsFor (needs : List Need) (slots : Slots) : Type 0 where
  pub got : AreSlots (needed in_got needs) slots.got
  pub stubs : AreSlots (needed in_stubs needs) slots.stubs
  pub tlv : AreSlots (needed in_tlv needs) slots.tlv

-- ---- imports

-- some pointers are bound to 2^24 imports or more
pub record HaveManyImports (binds : List Fixup) (why : Refusal) : Type 0 where
  pub many : AreMany binds
  pub told : why ≡ Limit Imports

-- they are told, or there are fewer
abbrev pub IsImportsTold : List Fixup → Option Refusal → Type 0
IsImportsTold binds None = ¬ AreMany binds
IsImportsTold binds (Some why) = HaveManyImports binds why

-- ---- references that nothing serves

-- one of these is the first, by its atom and its place there; it is told by its file and its place in the file
pub record NeedsAnImage (files : List LoadedFile) (unmet : List Unmet) (why : Refusal) : Type 0 where
  pub first : Unmet
  pub among : Contains unmet first
  pub least : (other : Unmet) → Contains unmet other → compare_unmet first other ≢ Greater
  pub told : why ≡ NeedsImage (label_of files first.reference.atom.file) first.reference.file_place

-- it is told, or there is none
abbrev pub IsUnmetTold : List LoadedFile → List Unmet → Option Refusal → Type 0
IsUnmetTold files unmet None = unmet ≡ []
IsUnmetTold files unmet (Some why) = NeedsAnImage files unmet why
