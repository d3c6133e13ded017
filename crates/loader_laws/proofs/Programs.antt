-- A linked program begins at its entry, or at a stub that leads there.
use Rattle.std.proofs.Common.{◌≡◌, ℕ, ◌<◌, ◌^◌, Bool, true, false, List, Option, Some, None, inl, inr, refl, sym, ap, ◌∙◌, arith}
use Rattle.std.specs.Prelude.{IsSome}
use Rattle.std.proofs.lemmas.Bool.{cases_Bool, false≢true}
use Rattle.command_line.specs.declared.command.Command.{Command}
use Rattle.lib_bind.specs.declared.library.LibraryGraph.{LibraryGraph}
use Rattle.field_laws.specs.Pointers.{addresses_of}
use Rattle.mo_types.specs.declared.goal.Goal.{Goal}
use Rattle.mo_types.specs.declared.goal.Goal.TheVariants.{Def, WeakSelf, Header, Import, Flat, Nobody}
use Rattle.mo_types.specs.declared.key.AtomKey.{AtomKey}
use Rattle.mo_types.specs.declared.loaded.LoadedFile.{LoadedFile}
use Rattle.ref_meet.specs.Addresses.{address_by, entry_way}
use Rattle.ref_meet.specs.Near.{IsNear}
use Rattle.resolve.specs.Goals.{goal_of_name}
use Rattle.sect_place.specs.declared.layout.Layout.{Layout}
use Rattle.slot_needs.specs.Needs.{is_outer}
use Rattle.slot_plan.specs.declared.list.Slots.{Slots}
use Rattle.slot_plan.specs.declared.need.Way.{Way}
use Rattle.slot_plan.specs.declared.need.Way.TheVariants.{Stub}
use Rattle.symbol_winners.specs.SymbolTable.{SymbolTable}
use Rattle.image_make.specs.Made.{IsLaid, ImageInputs, scene_of}
use Rattle.image_read.specs.Held.{AtomMap, goal_address}
use Rattle.image_read.specs.Reaches.{IsStub}
use Rattle.image_laws.specs.Means.{AreRising, Imaged}
use Rattle.image_laws.specs.References.{AreFillable, HasAddress, StubsHaveSlots}
use Rattle.image_laws.proofs.Goals.{goal_same}
use Rattle.image_laws.proofs.Layouts.{own_is}
use Rattle.image_laws.proofs.Pointing.{own_low}
use Rattle.image_laws.proofs.Stated.{begins_at}
use Rattle.image_laws.proofs.Stubbing.{stub_leads}
use Rattle.image_laws.proofs.Units.{unit_found}
use Rattle.link_files.specs.Linked.{AreOrdered, making}
use Rattle.link_files.proofs.NearLemmas.{name_near}
use Rattle.loader_laws.specs.Images.{IsImageOf}
use Rattle.loader_laws.specs.LinkOf.{BeginsAtItsEntry, Enters, EntersBy}
use Rattle.loader_laws.specs.Tellings.{AreNamed, AreWhole, made_of}
use Rattle.loader_laws.proofs.Beginning.{entry_found, entry_kept}
use Rattle.loader_laws.proofs.FilledIn.{entry_needed, fillable, linking, stubs_slots}
use Rattle.loader_laws.proofs.Holders.{name_atom}
use Rattle.loader_laws.proofs.Lowest.{goal_within}
use Rattle.loader_laws.proofs.Placing.{stands}
use Rattle.loader_laws.proofs.Targets.{inner_stands}

-- a program begins where its entry is reached
record BeginsBy (m : ImageInputs) (image : List ℕ) (of : Imaged m image) (goal : Goal) : Type 0 where
  pub address : ℕ
  pub enters : Enters image (addresses_of of.layout.placed) goal address
  pub reached : address_by (scene_of m of.layout) (entry_way goal) goal ≡ Some address
  pub low : address < 2 ^ 64

some_of : (found : Option ℕ) → IsSome found → (n : ℕ) × (found ≡ Some n)
some_of None is = absurd cc
some_of (Some n) is = (n, refl)

-- ---- an entry in the image

inner_way : (goal : Goal) → is_outer goal ≡ false → entry_way goal ≡ None
inner_way (Def key offset) inner = refl
inner_way (WeakSelf name key offset) inner = refl
inner_way Header inner = refl
inner_way (Import name ordinal by_weak optional) inner = absurd (false≢true (sym inner))
inner_way (Flat name) inner = absurd (false≢true (sym inner))
inner_way Nobody inner = refl

goal_told : (m : ImageInputs) (image : List ℕ) (of : Imaged m image) (goal : Goal) (address : ℕ) → AreRising m → address_by (scene_of m of.layout) None goal ≡ Some address → goal_address image (addresses_of of.layout.placed) goal ≡ Some address
unfolding address_by
goal_told m image of goal address rising e = sym (goal_same m image of goal rising) ∙ e

-- its own address where no other image has it
enters_own : (b : Bool) (image : List ℕ) (addresses : AtomMap) (goal : Goal) (address : ℕ) → b ≡ false → goal_address image addresses goal ≡ Some address → EntersBy b image addresses goal address
enters_own true image addresses goal address e own = absurd (false≢true (sym e))
enters_own false image addresses goal address e own = own

enters_stub : (b : Bool) (image : List ℕ) (addresses : AtomMap) (goal : Goal) (address : ℕ) → b ≡ true → IsStub image addresses address goal → EntersBy b image addresses goal address
enters_stub true image addresses goal address e stub = stub
enters_stub false image addresses goal address e stub = absurd (false≢true e)

begins_inside : (m : ImageInputs) (image : List ℕ) (of : Imaged m image) (goal : Goal) → AreRising m → HasAddress (scene_of m of.layout) None goal → is_outer goal ≡ false → IsNear goal → BeginsBy m image of goal
begins_inside m image of goal rising has inner near =
    let stood = some_of (address_by (scene_of m of.layout) None goal) has in
    let told = goal_told m image of goal stood.0 rising stood.1 in
    record {
      address = stood.0;
      enters = enters_own (is_outer goal) image (addresses_of of.layout.placed) goal stood.0 inner told;
      reached = ap (λ (way : Option Way). address_by (scene_of m of.layout) way goal) (inner_way goal inner) ∙ stood.1;
      low = goal_within m image of goal stood.0 rising told near;
    }

-- ---- an entry in another image

outer_way : (goal : Goal) → is_outer goal ≡ true → entry_way goal ≡ Some Stub
outer_way (Def key offset) outer = absurd (false≢true outer)
outer_way (WeakSelf name key offset) outer = absurd (false≢true outer)
outer_way Header outer = absurd (false≢true outer)
outer_way (Import name ordinal by_weak optional) outer = refl
outer_way (Flat name) outer = refl
outer_way Nobody outer = absurd (false≢true outer)

stub_low : (m : ImageInputs) (layout : Layout) (goal : Goal) (address : ℕ) → IsLaid m layout → address_by (scene_of m layout) (Some Stub) goal ≡ Some address → address < 2 ^ 64
unfolding address_by
stub_low m layout goal address laid e =
    let unit = unit_found m layout Stub goal address e in
    let ends = own_low m layout Stub unit.placed laid unit.section in
    let sized = (own_is m layout Stub unit.placed laid unit.section).sized in
    let within = unit.within in
    let stands = unit.stands in
    omega (arith, ends, sized, within, stands)

begins_outside : (m : ImageInputs) (image : List ℕ) (of : Imaged m image) (goal : Goal) → AreWhole m.files → AreRising m → AreFillable (scene_of m of.layout) of.fixups → StubsHaveSlots m.slots → HasAddress (scene_of m of.layout) (Some Stub) goal → is_outer goal ≡ true → BeginsBy m image of goal
begins_outside m image of goal whole rising fillable stubs has outer =
    let found = some_of (address_by (scene_of m of.layout) (Some Stub) goal) has in
    record {
      address = found.0;
      enters = enters_stub (is_outer goal) image (addresses_of of.layout.placed) goal found.0 outer (stub_leads m image of goal found.0 whole rising fillable stubs found.1);
      reached = ap (λ (way : Option Way). address_by (scene_of m of.layout) way goal) (outer_way goal outer) ∙ found.1;
      low = stub_low m of.layout goal found.0 of.is_image.laid found.1;
    }

-- ---- the program

slots_made : (command : Command) (libs : LibraryGraph) (files : List LoadedFile) (symbols : SymbolTable) (keys : List AtomKey) (slots : Slots) → StubsHaveSlots slots → StubsHaveSlots (making command libs files symbols keys slots).slots
unfolding making
slots_made command libs files symbols keys slots stubs = stubs

entry_made : (command : Command) (libs : LibraryGraph) (files : List LoadedFile) (symbols : SymbolTable) (keys : List AtomKey) (slots : Slots) → (making command libs files symbols keys slots).entry ≡ goal_of_name files libs command command.entry
unfolding making
entry_made command libs files symbols keys slots = refl

whole_made : (command : Command) (libs : LibraryGraph) (files : List LoadedFile) (symbols : SymbolTable) (keys : List AtomKey) (slots : Slots) → AreWhole files → AreWhole (making command libs files symbols keys slots).files
unfolding making
whole_made command libs files symbols keys slots whole = whole

program_made : (command : Command) (libs : LibraryGraph) (files : List LoadedFile) (symbols : SymbolTable) (keys : List AtomKey) (slots : Slots) → command.dylib ≡ false → (making command libs files symbols keys slots).command.dylib ≡ false
unfolding making
program_made command libs files symbols keys slots program = program

-- the image has the address of its entry, unless another image has it
entry_stands : (command : Command) (libs : LibraryGraph) (files : List LoadedFile) (image : List ℕ) (is : IsImageOf command libs files image) → AreOrdered files → AreWhole files → AreNamed command libs files → command.dylib ≡ false → is_outer (goal_of_name files libs command command.entry) ≡ false
    → HasAddress (scene_of (made_of is) is.imaged.layout) None (goal_of_name files libs command command.entry)
unfolding making
entry_stands command libs files image is ordered whole named program inner =
    let are = linking command libs files image is ordered whole named in
    inner_stands (made_of is) is.imaged.layout (goal_of_name files libs command command.entry) (name_atom files libs command command.entry are.solid)
    (λ key to held. stands (made_of is) is.imaged.layout key are is.rising is.imaged.is_image.laid held (entry_kept command libs files is.symbols is.keys is.slots key is.inside whole program to))
    (entry_found command libs files is.symbols is.keys is.slots is.inside program) inner

pub entry_begins : (command : Command) (libs : LibraryGraph) (files : List LoadedFile) (image : List ℕ) (is : IsImageOf command libs files image) → AreOrdered files → AreWhole files → AreNamed command libs files → command.dylib ≡ false → BeginsAtItsEntry command libs files image (addresses_of is.imaged.layout.placed)
entry_begins command libs files image is ordered whole named program = record {
  address = by.address;
  enters = by.enters;
  begins = begins_at m image is.imaged by.address is.rising (program_made command libs files is.symbols is.keys is.slots program)
      (ap (λ (g : Goal). address_by (scene_of m is.imaged.layout) (entry_way g) g) (entry_made command libs files is.symbols is.keys is.slots) ∙ by.reached) by.low;
}
  where
    m : ImageInputs
    m = made_of is

    goal : Goal
    goal = goal_of_name files libs command command.entry

    by : BeginsBy m image is.imaged goal
    by = elim (cases_Bool (is_outer goal)) [
      | inl outer ↦
          begins_outside m image is.imaged goal (whole_made command libs files is.symbols is.keys is.slots whole) is.rising (fillable command libs files image is ordered whole named)
          (slots_made command libs files is.symbols is.keys is.slots (stubs_slots command libs files image is ordered whole named)) (entry_needed command libs files image is ordered whole named program outer) outer
      | inr inner ↦ begins_inside m image is.imaged goal is.rising (entry_stands command libs files image is ordered whole named program inner) inner (name_near files libs command command.entry whole)
    ]
