-- Values that are out of range: where pointers stand and lead, and what fields are to hold.
use Rattle.std.specs.Prelude.{ℕ, ◌≡◌, ◌≢◌, ◌+◌, ◌⊎◌, List, Contains, Option, Some, Err}
use Rattle.std.specs.Option.{option_cmp}
use Rattle.std.specs.Ordering.{nat_cmp, on, then_cmp}
use Rattle.std.specs.declared.cmp.Ordering.{Ordering}
use Rattle.std.specs.declared.cmp.Ordering.TheVariants.{Greater}
use Rattle.fixup_chain.specs.Faults.{fault_of}
use Rattle.fixup_chain.specs.declared.chains.ChainFault.TheVariants as chain
use Rattle.fixup_chain.specs.declared.chains.Fixup.{Fixup}
use Rattle.mo_types.specs.Keys.{compare_keys}
use Rattle.mo_types.specs.declared.key.AtomKey.{AtomKey}
use Rattle.mo_types.specs.declared.loaded.LoadedFile.{LoadedFile}
use Rattle.patch.specs.Field.{field_of}
use Rattle.patch.specs.Range.{bytes_of}
use Rattle.patch.specs.declared.met.Met.{Met}
use Rattle.patch.specs.declared.met.RangeFault.{RangeFault}
use Rattle.patch.specs.declared.range.PlacedWork.{PlacedWork}
use Rattle.sect_place.specs.declared.layout.Layout.{Layout}

-- a value of an atom, or of a slot, that stands at an address
pub record Spot : Type 0 where
  pub atom : Option AtomKey
  pub address : ℕ

-- slots come before atoms, these by their keys, and in each the lower address first
unfoldable pub compare_spots : Spot → Spot → Ordering
compare_spots = then_cmp (on (λ (s : Spot). s.atom) (option_cmp compare_keys)) (on (λ (s : Spot). s.address) nat_cmp)

-- a pointer that stands where none may, or leads too far
pub record IsPointerFault (layout : Layout) (fixups : List Fixup) (spot : Spot) (fault : RangeFault) : Type 0 where
  pub fixup : Fixup
  pub among : Contains fixups fixup
  pub stands : spot ≡ record { atom = fixup.atom; address = fixup.address }
  pub fails : fault_of layout fixup ≡ Some (chain.Range fixup.atom fault.file_place fault.kind fault.value)

-- a reference of a placed atom whose field can't hold its value
pub record IsFieldFault (files : List LoadedFile) (mets : PlacedWork → List Met) (items : List PlacedWork) (spot : Spot) (fault : RangeFault) : Type 0 where
  pub item : PlacedWork
  pub of_items : Contains items item
  pub met : Met
  pub among : Contains (mets item) met
  pub stands : spot ≡ record { atom = Some item.atom.key; address = item.address + met.place }
  pub fails : field_of item.address (bytes_of files item) met ≡ Err fault

-- a value is out of range
abbrev pub IsFault : Layout → List Fixup → List LoadedFile → (PlacedWork → List Met) → List PlacedWork → Spot → RangeFault → Type 0
IsFault layout fixups files mets items spot fault = IsPointerFault layout fixups spot fault ⊎ IsFieldFault files mets items spot fault

-- it is the first one: of the slot with the least address, or else of the atom with the least key, and in the atom at the
-- least place
pub record IsFirstFault (layout : Layout) (fixups : List Fixup) (files : List LoadedFile) (mets : PlacedWork → List Met) (items : List PlacedWork)
    (atom : Option AtomKey) (fault : RangeFault) : Type 0 where
  pub spot : Spot
  pub of_atom : spot.atom ≡ atom
  pub fails : IsFault layout fixups files mets items spot fault
  pub first : (other : Spot) (why : RangeFault) → IsFault layout fixups files mets items other why → compare_spots spot other ≢ Greater

-- none is
abbrev pub AllFit : Layout → List Fixup → List LoadedFile → (PlacedWork → List Met) → List PlacedWork → Type 0
AllFit layout fixups files mets items = (spot : Spot) (fault : RangeFault) → IsFault layout fixups files mets items spot fault → ⊥
