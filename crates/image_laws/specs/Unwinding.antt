-- What an image that was made tells of the functions that can be unwound (`compact_unwind_encoding.h`).
use Rattle.std.specs.Prelude.{ℕ, ◌≡◌, ◌+◌, ◌/◌, ◌%◌, ◌^◌, ◌<◌, ◌≤◌, bit_and, pos, true, List, length, Contains, IfSome, Option, Some, None}
use Rattle.std.specs.Option.{option_map_or}
use Rattle.field_laws.specs.Memory.{AreInMemory}
use Rattle.field_laws.specs.Pointers.{addresses_of}
use Rattle.image_make.specs.Atoms.{AreLow}
use Rattle.image_make.specs.Frames.{HaveFrames}
use Rattle.image_make.specs.Made.{ImageInputs, kept_of, scene_of}
use Rattle.image_make.specs.Parts.{info_section}
use Rattle.image_laws.specs.Means.{AreRising, IsGoalAt}
use Rattle.image_read.specs.Fixups.{fixup_at}
use Rattle.image_read.specs.Held.{Held}
use Rattle.mark_core.specs.Kept.{has}
use Rattle.mo_types.specs.Loaded.{IsWholeLoaded}
use Rattle.mo_types.specs.declared.goal.Goal.TheVariants.{Def}
use Rattle.mo_types.specs.declared.key.AtomKey.{AtomKey}
use Rattle.mo_types.specs.declared.reference.Target.{Target}
use Rattle.sect_place.specs.Layout.{base_of}
use Rattle.sect_place.specs.declared.layout.Layout.{Layout}
use Rattle.sect_place.specs.declared.layout.PlacedSection.{PlacedSection}
use Rattle.unwind_link.specs.Goals.{goal_at}
use Rattle.unwind_link.specs.Personalities.{most_personalities}
use Rattle.unwind_link.specs.Rows.{AreRows}
use Rattle.unwind_link.specs.declared.kept.KeptUnwind.{KeptUnwind}
use Rattle.unwind_out.specs.Law.{FindsEach, FindsNoOther, NamesEach}
use Rattle.unwind_out.specs.Lookup.{personality_at, unwind}
use Rattle.unwind_out.specs.Table.{personalities}
use Rattle.unwind_out.specs.declared.row.UnwindRow.{UnwindRow}

-- The files are whole, kept atoms rise by their keys, none is aligned to more than a page, and the entries are those of the
-- atoms that are kept.
pub record AreUnwindable (m : ImageInputs) : Type 0 where
  pub whole : IsWholeLoaded (record { files = m.files })
  pub rising : AreRising m
  pub low : AreLow (kept_of m)
  pub frames : HaveFrames m

-- Once the image is loaded, its section `__unwind_info` stands at its address. Its rows are those of the kept entries, with
-- no more personalities than an encoding can tell apart. It tells of each row's function at each of its places, and of no other
-- place, and names each one's personality.
pub record TellsUnwinding (m : ImageInputs) (layout : Layout) (image : List ℕ) : Type 0 where
  pub section : PlacedSection
  pub is : info_section layout.sections ≡ Some section
  pub sized : section.size ≡ length m.info
  pub there : AreInMemory image section.address m.info
  pub rows : List UnwindRow
  pub are_rows : AreRows (scene_of m layout) m.unwinds rows
  pub few : length (personalities rows) ≤ most_personalities
  pub finds : FindsEach rows m.info
  pub no_other : FindsNoOther rows m.info
  pub names : NamesEach rows m.info

-- ---- one entry

-- the image has what an entry leads to: the atom of its language-specific data, and a slot of its personality
pub record IsEntryServed (m : ImageInputs) (entry : KeptUnwind) : Type 0 where
  pub lsda : IfSome entry.unwind.lsda (λ place. has m.keys place.0 ≡ true)
  pub handler : IfSome entry.unwind.personality (λ target. Contains m.slots.got (goal_at m.literals m.goals entry.file target))

-- language-specific data stand so far from the image's first address, or there are none
abbrev pub IsDataAt : ImageInputs → Layout → List ℕ → Option (AtomKey × ℕ) → ℕ → Type 0
IsDataAt m layout image None offset = offset ≡ 0
IsDataAt m layout image (Some place) offset = IsGoalAt image layout (Def place.0 place.1) (base_of m.command + offset)

-- a slot so far from the image's first address leads the loader to the personality, or there is neither
abbrev pub IsHandlerAt : ImageInputs → Layout → List ℕ → ℕ → Option Target → Option ℕ → Type 0
IsHandlerAt m layout image file None slot = slot ≡ None
IsHandlerAt m layout image file (Some target) slot =
    (offset : ℕ) × (slot ≡ Some offset) × Held image (addresses_of layout.placed) (fixup_at image (base_of m.command + offset)) (goal_at m.literals m.goals file target) (pos 0)

-- whether an encoding says that there are language-specific data (UNWIND_HAS_LSDA), by 1 and 0
abbrev pub data_flag : ℕ → ℕ
data_flag encoding = encoding / 2 ^ 30 % 2

-- What `__unwind_info` says of an entry's function, by how far each of its places is from the image's first address: where
-- the function begins, how it is unwound (all but the bits of UNWIND_HAS_LSDA and UNWIND_PERSONALITY_MASK are the entry's
-- own), whether it has language-specific data, which, and its personality.
pub record TellsEntry (m : ImageInputs) (layout : Layout) (image : List ℕ) (entry : KeptUnwind) : Type 0 where
  pub start : ℕ
  pub function : IsGoalAt image layout (Def entry.unwind.atom entry.unwind.offset) (base_of m.command + start)
  pub encoding : ℕ
  pub lsda : ℕ
  pub found : (k : ℕ) → k < entry.unwind.length → unwind m.info (start + k) ≡ Some (record { function = start; encoding = encoding; lsda = lsda })
  pub own : bit_and encoding 0x8fffffff ≡ bit_and entry.unwind.encoding 0x8fffffff
  pub flag : data_flag encoding ≡ option_map_or (λ place. 1) entry.unwind.lsda 0
  pub lsda_at : IsDataAt m layout image entry.unwind.lsda lsda
  pub handler : IsHandlerAt m layout image entry.file entry.unwind.personality (personality_at m.info encoding)

-- a place in no function of a kept entry, by how far it is from the image's first address
abbrev pub IsInNoFunction : ImageInputs → Layout → List ℕ → ℕ → Type 0
IsInNoFunction m layout image offset =
    (entry : KeptUnwind) (start : ℕ) → Contains m.unwinds entry → IsGoalAt image layout (Def entry.unwind.atom entry.unwind.offset) (base_of m.command + start) → start ≤ offset → offset < start + entry.unwind.length → ⊥
