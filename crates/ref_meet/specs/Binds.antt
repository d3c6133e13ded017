-- What an image is bound to, before anything of it is placed (`fixup-chains.h`: imports).
use Rattle.std.specs.Prelude.{ℕ, ◌&&◌, ℤ, pos, List, ◌++◌, map, Option, Some, None, if◌then◌else◌}
use Rattle.std.specs.List.{enumerate_from, filter_map, flat_map}
use Rattle.fixup_chain.specs.declared.chains.Fixup.{Fixup}
use Rattle.liveness.specs.Undefined.{kept_refs}
use Rattle.literal_merge.specs.declared.representative.Representative.{Representative}
use Rattle.mo_types.specs.declared.goal.Goal.{Goal}
use Rattle.mo_types.specs.declared.key.AtomKey.{AtomKey}
use Rattle.mo_types.specs.declared.loaded.LoadedFile.{LoadedFile}
use Rattle.mo_types.specs.declared.reference.Ref.{Ref}
use Rattle.mo_types.specs.declared.reference.RefKind.{RefKind}
use Rattle.mo_types.specs.declared.reference.RefKind.TheVariants.{Pointer}
use Rattle.resolve.specs.Goals.{target_goal}
use Rattle.slot_plan.specs.declared.list.Slots.{Slots}
use Rattle.ref_meet.specs.Scene.{goals_at}
use Rattle.ref_meet.specs.Template.{has_descriptors, leads_to_template}

-- a pointer to a goal, wherever it stands
abbrev pub unplaced : Goal → ℤ → Fixup
unplaced goal addend = record { atom = None; place = 0; address = 0; goal = goal; addend = addend }

-- a pointer of a section to a goal, unless it holds an offset in the template of thread-local variables
abbrev pub bind_to : List LoadedFile → LoadedFile → ℕ → Goal → ℤ → Option Fixup
bind_to files file section goal addend =
    if has_descriptors file section && leads_to_template files goal then None else Some (unplaced goal addend)

abbrev pub bind_by : RefKind → List LoadedFile → LoadedFile → ℕ → Goal → ℤ → Option Fixup
bind_by Pointer files file section goal addend = bind_to files file section goal addend
bind_by _ files file section goal addend = None

-- that of a reference of a file, by the goals of its symbols
unfoldable pub bind_of : List LoadedFile → List Representative → List Goal → LoadedFile → Ref → Option Fixup
bind_of files literals goals file r = bind_by r.kind files file r.atom.section (target_goal literals goals r.target) r.addend

-- those of the kept atoms of the file at a place
unfoldable pub binds_at : List LoadedFile → List Representative → List AtomKey → List (List Goal) → ℕ × LoadedFile → List Fixup
binds_at files literals keys goals p = filter_map (bind_of files literals (goals_at goals p.0) p.1) (kept_refs keys p.1)

-- that of a slot
unfoldable pub slot_bind : Goal → Fixup
slot_bind goal = unplaced goal (pos 0)

-- those of slots, and of all kept atoms
unfoldable pub binds : List LoadedFile → List Representative → List AtomKey → List (List Goal) → Slots → List Fixup
binds files literals keys goals slots =
    map slot_bind (slots.got ++ slots.tlv) ++ flat_map (binds_at files literals keys goals) (enumerate_from 0 files)
