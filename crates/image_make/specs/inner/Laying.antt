-- Laying out an image with its `__unwind_info`.
use Rattle.std.specs.Prelude.{ℕ, ◌≡◌, ◌<◌, ◌≤◌, ◌^◌, All, List, length, map}
use Rattle.mo_types.specs.Loaded.{IsWholeLoaded}
use Rattle.mo_types.specs.declared.out_section.OutSection.{OutSection}
use Rattle.ref_meet.specs.Scene.{Scene}
use Rattle.sect_list.specs.OutSections.{out_sections}
use Rattle.sect_place.specs.Addresses.{AreOnce}
use Rattle.sect_place.specs.Layout.{IsLayoutOf, Plan, image_size}
use Rattle.sect_place.specs.declared.layout.Layout.{Layout}
use Rattle.slot_place.specs.Places.{HaveRoom, starts_of}
use Rattle.unwind_link.specs.Rows.{AreRows, AreSpread}
use Rattle.unwind_link.specs.declared.kept.KeptUnwind.{KeptUnwind}
use Rattle.unwind_out.specs.Table.{personalities}
use Rattle.unwind_out.specs.declared.row.UnwindRow.{UnwindRow}
use Rattle.image_make.specs.Atoms.{AreLow, AreRising, atom_of}
use Rattle.image_make.specs.Frames.{HaveFrames}
use Rattle.image_make.specs.Made.{HoldsRows, ImageInputs, IsFirstInfo, kept_of, plan_with}
use Rattle.image_make.specs.declared.kept.KeptAtom.{KeptAtom}

-- what is placed with so many bytes of `__unwind_info`
abbrev pub plan_sized : ImageInputs → ℕ → Plan
plan_sized m unwind = plan_with m.command m.libs m.files (kept_of m) m.slots m.islands unwind

-- a layout of it, which has fewer than 2^32 bytes before `__LINKEDIT`
pub record IsPlacedWith (m : ImageInputs) (unwind : ℕ) (layout : Layout) : Type 0 where
  pub layout_of : IsLayoutOf m.command (plan_sized m unwind) layout
  pub small : image_size (plan_sized m unwind) < 2 ^ 32

-- the atoms that are kept of whole files, with their unwind entries, and the sections that list them
pub record AreReadySections (m : ImageInputs) (kept : List KeptAtom) (sections : List OutSection) : Type 0 where
  pub whole : IsWholeLoaded (record { files = m.files })
  pub rising : AreRising (kept_of m)
  pub low : AreLow (kept_of m)
  pub frames : HaveFrames m
  pub kept_are : kept ≡ kept_of m
  pub sections_are : sections ≡ out_sections m.files (map atom_of kept)
  pub fit : All (λ (section : OutSection). section.align ≤ 14) sections

-- rows have no more personalities than an encoding can tell apart
abbrev pub AreFew : Scene → List KeptUnwind → Type 0
AreFew scene unwinds = (rows : List UnwindRow) → AreRows scene unwinds rows → length (personalities rows) ≤ 3

-- entries have rows that `__unwind_info` can hold
pub record AreReadyEntries (scene : Scene) (unwinds : List KeptUnwind) : Type 0 where
  pub once : AreOnce scene.layout.placed
  pub base : scene.base ≤ 2 ^ 32
  pub room : HaveRoom (starts_of scene.layout.sections) scene.slots
  pub spread : AreSpread scene unwinds
  pub few : AreFew scene unwinds

-- so many bytes hold them
abbrev pub IsInfoSize : Scene → List KeptUnwind → ℕ → Type 0
IsInfoSize scene unwinds size = (info : List ℕ) × HoldsRows scene unwinds info × (length info ≡ size)

-- by where everything stands with a byte of it
abbrev pub IsFirstSize : ImageInputs → ℕ → Type 0
IsFirstSize m size = (info : List ℕ) × IsFirstInfo m info × (length info ≡ size)
