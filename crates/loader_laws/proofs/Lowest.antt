-- A program's entry lies within 64 bits.
use Rattle.std.proofs.Common.{◌≡◌, ℕ, ◌+◌, ◌<◌, ◌^◌, List, Some, sym, ap, ◌∙◌, arith}
use Rattle.std.specs.Option.{option_map}
use Rattle.field_laws.specs.Pointers.{addresses_of}
use Rattle.field_laws.proofs.Found.{address_found}
use Rattle.mo_types.specs.declared.goal.Goal.{Goal}
use Rattle.mo_types.specs.declared.goal.Goal.TheVariants.{Def, WeakSelf, Header, Import, Flat, Nobody}
use Rattle.mo_types.specs.declared.key.AtomKey.{AtomKey}
use Rattle.ref_meet.specs.Near.{IsNear}
use Rattle.sect_place.specs.Addresses.{address_in}
use Rattle.sect_place.specs.Layout as layouts
use Rattle.image_make.specs.Made.{ImageInputs}
use Rattle.image_make.proofs.LowLemmas.{address_low}
use Rattle.image_make.proofs.RoomLemmas.{base_small}
use Rattle.image_read.specs.Held.{in_atom}
use Rattle.image_laws.specs.Means.{AreRising, Imaged, IsGoalAt}
use Rattle.image_laws.proofs.Goals.{base_is, none_at}
use Rattle.link_files.proofs.Lists.{from_mapped, some_is}

place_within : (m : ImageInputs) (image : List ℕ) (of : Imaged m image) (key : AtomKey) (offset address : ℕ) → in_atom (addresses_of of.layout.placed) key offset ≡ Some address → offset < 2 ^ 63 → address < 2 ^ 64
place_within m image of key offset address e low =
    let start = from_mapped (λ (start : ℕ). start + offset) (address_in of.layout.placed key) address (ap (option_map (λ (start : ℕ). start + offset)) (sym (address_found of.layout.placed key)) ∙ e) in
    let few = address_low m of.layout of.is_image.laid key start.0 start.1 in
    let at : start.0 + offset ≡ address = start.2 in
    omega (arith, few, at, low)

pub goal_within : (m : ImageInputs) (image : List ℕ) (of : Imaged m image) (goal : Goal) (address : ℕ) → AreRising m → IsGoalAt image of.layout goal address → IsNear goal → address < 2 ^ 64
goal_within m image of (Def key offset) address rising e low = place_within m image of key offset address e low
goal_within m image of (WeakSelf name key offset) address rising e low = place_within m image of key offset address e low
goal_within m image of Header address rising e low =
    let one : layouts.base_of m.command ≡ address = some_is (layouts.base_of m.command) address (sym (base_is m image of rising) ∙ e) in
    let small = base_small m.command.dylib in
    omega (arith, one, small)
goal_within m image of (Import name ordinal by_weak optional) address rising e low = none_at address e
goal_within m image of (Flat name) address rising e low = none_at address e
goal_within m image of Nobody address rising e low = none_at address e
