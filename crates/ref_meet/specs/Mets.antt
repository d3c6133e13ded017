-- How references of each kind meet their goals in an image (`mach-o/arm64/reloc.h`).
use Rattle.std.specs.Prelude.{ℕ, ◌+◌, ◌==◌, Bool, true, false, ℤ, pos, List, Option, Some, None, is_some, if◌then◌else◌}
use Rattle.std.specs.List.{filter_map, find}
use Rattle.std.specs.Option.{option_and_then, option_map}
use Rattle.fixup_chain.specs.declared.chains.ChainWord.{ChainWord}
use Rattle.mo_types.specs.declared.goal.Goal.{Goal}
use Rattle.mo_types.specs.declared.reference.Ref.{Ref}
use Rattle.mo_types.specs.declared.reference.RefKind.{RefKind}
use Rattle.mo_types.specs.declared.reference.RefKind.TheVariants.{Diff32, Diff64, GotPointer, Pointer}
use Rattle.patch.specs.declared.met.Met.{Met}
use Rattle.patch.specs.declared.range.PlacedWork.{PlacedWork}
use Rattle.slot_needs.specs.Needs.{way_of}
use Rattle.slot_plan.specs.declared.need.Way.{Way}
use Rattle.ref_meet.specs.Addresses.{address_by}
use Rattle.ref_meet.specs.Scene.{Scene, goal_of, refs_of}
use Rattle.ref_meet.specs.Template.{holds_offset, template_offset}

-- a reference with what its field is told from: a value, what is subtracted, and what is added
abbrev pub met_with : Ref → ℕ → ℕ → ℤ → Met
met_with r value minus addend = record {
  place = r.place;
  file_place = r.file_place;
  kind = r.kind;
  value = value;
  minus = minus;
  addend = addend;
}

-- ---- pointers

-- the word of a chain that stands at an address
unfoldable pub word_at : List ChainWord → ℕ → Option ℕ
word_at words address = option_map (λ (chained : ChainWord). chained.word) (find (λ (chained : ChainWord). chained.address == address) words)

-- a pointer that the loader fills in holds its word
abbrev pub chained_met : List ChainWord → PlacedWork → Ref → Option Met
chained_met words item r = option_map (λ word. met_with r word 0 (pos 0)) (word_at words (item.address + r.place))

-- a pointer to a goal, which holds its word, or an offset in the template of thread-local variables
abbrev pub pointer_met : Scene → List ChainWord → PlacedWork → Ref → Goal → Option Met
pointer_met scene words item r goal =
    if holds_offset scene.files item goal then option_map (λ offset. met_with r offset 0 r.addend) (template_offset scene goal)
    else chained_met words item r

-- ---- addresses and distances

-- the kinds of differences
abbrev pub is_difference : RefKind → Bool
is_difference Diff32 = true
is_difference Diff64 = true
is_difference _ = false

-- what is subtracted: the address of a difference's other end, or 0, which no other kind of field reads
abbrev pub minus_address : Scene → PlacedWork → Ref → Option ℕ
minus_address scene item r =
    if is_difference r.kind then option_and_then (λ target. address_by scene None (goal_of scene item.file target)) r.minus else Some 0

-- what is added: nothing to the address of a slot or a stub
abbrev pub added : Option Way → Ref → ℤ
added way r = if is_some way then pos 0 else r.addend

-- a reference that tells an address, the goal's own or that of its slot or stub, or a distance
abbrev pub told_met : Scene → PlacedWork → Ref → Option Way → Goal → Option Met
told_met scene item r way goal =
    option_and_then (λ value. option_map (λ minus. met_with r value minus (added way r)) (minus_address scene item r)) (address_by scene way goal)

-- ---- all kinds

abbrev pub met_by : RefKind → Scene → List ChainWord → PlacedWork → Ref → Goal → Option Met
met_by Pointer scene words item r goal = pointer_met scene words item r goal
met_by GotPointer scene words item r goal = chained_met words item r
met_by kind scene words item r goal = told_met scene item r (way_of kind r.addend goal) goal

-- A reference of a placed atom, by the words of pointers. None is met that tells an address which the image hasn't: its field
-- stays as the object has it, and an image with such a reference is refused before.
unfoldable pub met_of : Scene → List ChainWord → PlacedWork → Ref → Option Met
met_of scene words item r = met_by r.kind scene words item r (goal_of scene item.file r.target)

-- those of a placed atom that are met, as its file lists them
unfoldable pub mets_of : Scene → List ChainWord → PlacedWork → List Met
mets_of scene words item = filter_map (met_of scene words item) (refs_of scene.files item)
