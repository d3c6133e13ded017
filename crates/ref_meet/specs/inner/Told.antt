-- The addresses of goals as a table of 64 bits each tells them.
use Rattle.std.specs.Prelude.{ℕ, ◌≡◌, ◌==◌, ◌^◌, ◌%◌, List, Option, Some, None, IfSome, slice_get, if◌then◌else◌}
use Rattle.std.specs.Option.{option_map}
use Rattle.mo_types.specs.declared.goal.Goal.{Goal}
use Rattle.resolve.specs.Table.{goal_in}
use Rattle.slot_plan.specs.declared.need.Way.{Way}
use Rattle.slot_plan.specs.declared.need.Way.TheVariants.{Got, Stub, Tlv}
use Rattle.ref_meet.specs.Addresses.{address_by}
use Rattle.ref_meet.specs.Scene.{Scene}
use Rattle.ref_meet.specs.declared.places.GoalPlaces.{GoalPlaces}

-- an address modulo 2^64
abbrev pub told : ℕ → ℕ
told address = address % 2 ^ 64

-- that from which references are told which need a goal in a way
unfoldable pub told_by : Scene → Option Way → Goal → Option ℕ
told_by scene way goal = option_map told (address_by scene way goal)

-- ---- what is known of them

-- an address, or 0 in place of one that isn't known
abbrev pub known : ℕ → Option ℕ
known address = if address == 0 then None else Some address

-- that from which references are told which need a goal in a way
abbrev pub place_by : GoalPlaces → Option Way → ℕ
place_by places None = places.own
place_by places (Some Got) = places.got
place_by places (Some Stub) = places.stub
place_by places (Some Tlv) = places.tlv

-- what is known of a goal is so
pub record ArePlaces (scene : Scene) (goal : Goal) (places : GoalPlaces) : Type 0 where
  pub by : (way : Option Way) → IfSome (known (place_by places way)) (λ address. told_by scene way goal ≡ Some address)

-- and of a pool's goals
pub record AreTold (scene : Scene) (pool : List Goal) (places : List GoalPlaces) : Type 0 where
  pub each : (at : ℕ) (here : GoalPlaces) → slice_get places at ≡ Some here → ArePlaces scene (goal_in pool at) here
