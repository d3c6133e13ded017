-- Where the places stand to which references lead.
use Rattle.std.specs.Prelude.{ℕ, ◌≡◌, ◌+◌, ◌<◌, ◌^◌, List, Option, Some, None}
use Rattle.std.specs.Option.{option_map}
use Rattle.mo_types.specs.declared.goal.Goal.{Goal}
use Rattle.mo_types.specs.declared.goal.Goal.TheVariants.{Def, WeakSelf, Header, Import, Flat, Nobody}
use Rattle.mo_types.specs.declared.key.AtomKey.{AtomKey}
use Rattle.sect_place.specs.Addresses.{address_in}
use Rattle.sect_place.specs.declared.layout.Placed.{Placed}
use Rattle.slot_plan.specs.declared.need.Way.{Way}
use Rattle.slot_plan.specs.declared.need.Way.TheVariants.{Stub}
use Rattle.slot_place.specs.Places.{slot_address, starts_of}
use Rattle.ref_meet.specs.Scene.{Scene}

-- each atom stands below 2^33
abbrev pub AreLowPlaces : List Placed → Type 0
AreLowPlaces placed = (atom : AtomKey) (address : ℕ) → address_in placed atom ≡ Some address → address < 2 ^ 33

-- a place in an atom that is placed
abbrev pub place_address : List Placed → AtomKey → ℕ → Option ℕ
place_address placed atom offset = option_map (λ at. at + offset) (address_in placed atom)

-- The address of a goal that the image itself has, which begins at `base`: a place in an atom, or the header.
abbrev pub goal_address : ℕ → List Placed → Goal → Option ℕ
goal_address base placed (Def atom offset) = place_address placed atom offset
goal_address base placed (WeakSelf name atom offset) = place_address placed atom offset
goal_address base placed Header = Some base
goal_address base placed (Import name ordinal by_weak optional) = None
goal_address base placed (Flat name) = None
goal_address base placed Nobody = None

-- The address from which a reference is told that needs its goal in a way: that of the slot or stub of the goal; and where it
-- needs none of these, that of the goal itself.
unfoldable pub address_by : Scene → Option Way → Goal → Option ℕ
address_by scene None goal = goal_address scene.base scene.layout.placed goal
address_by scene (Some way) goal = slot_address (starts_of scene.layout.sections) scene.slots way goal

-- how a program's entry is reached: by a stub, where another image has it
abbrev pub entry_way : Goal → Option Way
entry_way (Def atom offset) = None
entry_way (WeakSelf name atom offset) = None
entry_way Header = None
entry_way (Import name ordinal by_weak optional) = Some Stub
entry_way (Flat name) = Some Stub
entry_way Nobody = None

-- where a program begins that has its entry in a goal
abbrev pub entry_address : Scene → Goal → Option ℕ
entry_address scene goal = address_by scene (entry_way goal) goal
