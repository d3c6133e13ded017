-- Where the slots and stubs of an image stand (`loader.h`: S_NON_LAZY_SYMBOL_POINTERS, S_SYMBOL_STUBS,
-- S_THREAD_LOCAL_VARIABLE_POINTERS).
use Rattle.std.specs.Prelude.{ℕ, ◌≡◌, ◌≢◌, ◌+◌, ◌*◌, ◌==◌, ◌&&◌, ◌<◌, ◌^◌, Bool, List, [], length, position, IfSome, MatchOption, Option, All}
use Rattle.std.specs.List.{find}
use Rattle.std.specs.Option.{option_and_then, option_map}
use Rattle.std.specs.Ordering.{is_eq}
use Rattle.std.specs.Str.{bytes_eq}
use Rattle.mo_types.specs.Goals.{compare_goals}
use Rattle.mo_types.specs.declared.goal.Goal.{Goal}
use Rattle.mo_types.specs.declared.out_section.OutSection.{OutSection}
use Rattle.slot_plan.specs.declared.list.Slots.{Slots}
use Rattle.slot_plan.specs.declared.need.Way.{Way}
use Rattle.slot_plan.specs.declared.need.Way.TheVariants.{Got, Stub, Tlv}
use Rattle.sect_place.specs.Arrangement.{section_of}
use Rattle.sect_place.specs.declared.layout.PlacedSection.{PlacedSection}
use Rattle.sect_place.specs.declared.part.Made.{Made}
use Rattle.sect_place.specs.declared.part.Made.TheVariants as made
use Rattle.slot_place.specs.declared.places.SlotStarts.{SlotStarts}

-- ---- the linker's own sections

-- the goals that are needed in a way, in the order in which their slots or stubs stand
abbrev pub goals_for : Slots → Way → List Goal
goals_for slots Got = slots.got
goals_for slots Stub = slots.stubs
goals_for slots Tlv = slots.tlv

-- the section that has these
abbrev pub made_for : Way → Made
made_for Got = made.Got
made_for Stub = made.Stubs
made_for Tlv = made.ThreadPtrs

-- the bytes of one: an address, or three instructions
abbrev pub unit_of : Way → ℕ
unit_of Got = 8
unit_of Stub = 12
unit_of Tlv = 8

-- a section has some names and a type, and no atoms
abbrev pub is_made : OutSection → List ℕ → List ℕ → ℕ → Bool
is_made section segment name kind =
    ((bytes_eq section.segment segment && bytes_eq section.name name) && section.kind == kind) && length section.atoms == 0

abbrev pub is_made_as : OutSection → OutSection → Bool
is_made_as own section = is_made section own.segment own.name own.kind

abbrev pub is_own : Way → PlacedSection → Bool
is_own way placed = is_made_as (section_of (made_for way)) placed.section

-- the linker's own section for a way, where the image has it
unfoldable pub own_section : List PlacedSection → Way → Option PlacedSection
own_section sections way = find (is_own way) sections

-- The image has that section where goals are needed in that way, with the bytes of their slots or stubs, and else has none.
abbrev pub HasOwnSection : List PlacedSection → Slots → Way → Type 0
HasOwnSection sections slots way =
    MatchOption (own_section sections way) (goals_for slots way ≡ [])
    (λ placed. (goals_for slots way ≢ []) × (placed.size ≡ unit_of way * length (goals_for slots way)))

-- ---- addresses

abbrev pub start_in : List PlacedSection → Way → Option ℕ
start_in sections way = option_map (λ (placed : PlacedSection). placed.address) (own_section sections way)

-- where these sections begin
unfoldable pub starts_of : List PlacedSection → SlotStarts
starts_of sections = record { got = start_in sections Got; stubs = start_in sections Stub; tlv = start_in sections Tlv }

abbrev pub start_of : SlotStarts → Way → Option ℕ
start_of starts Got = starts.got
start_of starts Stub = starts.stubs
start_of starts Tlv = starts.tlv

-- the number of a goal among some
abbrev pub number_of : List Goal → Goal → Option ℕ
number_of goals goal = position (λ other. is_eq (compare_goals other goal)) goals

-- the address of something of some bytes by its number, where they stand one behind the other
abbrev pub unit_at : ℕ → ℕ → ℕ → ℕ
unit_at unit start number = start + unit * number

-- that of a goal's slot or stub
unfoldable pub address_from : ℕ → Option ℕ → List Goal → Goal → Option ℕ
address_from unit start goals goal = option_and_then (λ number. option_map (λ at. unit_at unit at number) start) (number_of goals goal)

abbrev pub slot_address : SlotStarts → Slots → Way → Goal → Option ℕ
slot_address starts slots way goal = address_from (unit_of way) (start_of starts way) (goals_for slots way) goal

-- the slots or stubs of some goals end at an address
abbrev pub HasRoom : ℕ → Option ℕ → List Goal → Type 0
HasRoom unit start goals = IfSome start (λ at. unit_at unit at (length goals) < 2 ^ 63)

pub record HaveRoom (starts : SlotStarts) (slots : Slots) : Type 0 where
  pub got : HasRoom 8 starts.got slots.got
  pub stubs : HasRoom 12 starts.stubs slots.stubs
  pub tlv : HasRoom 8 starts.tlv slots.tlv

-- ---- sections with atoms

-- each section lists an atom, as those have that aren't the linker's own
abbrev pub HaveAtoms : List OutSection → Type 0
HaveAtoms sections = All (λ (section : OutSection). section.atoms ≢ []) sections
