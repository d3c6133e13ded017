-- The functions that handle exceptions, to which kept unwind entries lead (`mach-o/compact_unwind_encoding.h`:
-- UNWIND_PERSONALITY_MASK).
use Rattle.std.specs.Prelude.{ℕ, ◌/◌, ◌^◌, List, Option}
use Rattle.std.specs.List.{filter_map}
use Rattle.std.specs.Option.{option_map}
use Rattle.image_format.specs.declared.compact_unwind.TheConstants.{UNWIND_PERSONALITY_MASK}
use Rattle.literal_merge.specs.declared.representative.Representative.{Representative}
use Rattle.mo_types.specs.declared.goal.Goal.{Goal}
use Rattle.slot_plan.specs.declared.need.Need.{Need}
use Rattle.slot_plan.specs.declared.need.Way.TheVariants.{Got}
use Rattle.unwind_link.specs.Goals.{goal_at}
use Rattle.unwind_link.specs.declared.kept.KeptUnwind.{KeptUnwind}

-- the goal of an entry's personality, where it has one
abbrev pub personality_of : List Representative → List (List Goal) → KeptUnwind → Option Goal
personality_of literals goals kept = option_map (goal_at literals goals kept.file) kept.unwind.personality

-- those of some entries, as often as they are named
unfoldable pub personality_goals : List Representative → List (List Goal) → List KeptUnwind → List Goal
personality_goals literals goals kept = filter_map (personality_of literals goals) kept

-- A personality is found by a slot of the global offset table.
abbrev pub slot_need : Goal → Need
slot_need goal = record { goal = goal; way = Got }

-- how many an encoding can tell apart: the bits of its mask hold a number from 1
abbrev pub most_personalities : ℕ
most_personalities = UNWIND_PERSONALITY_MASK / 2 ^ 28
