-- The bytes of stubs (ld(1); the Arm Architecture Reference Manual: ADRP, LDR, BR).
use Rattle.std.specs.Prelude.{ℕ, ◌≡◌, ◌+◌, ◌/◌, ◌%◌, ◌≤◌, ◌^◌, ℤ, pos, ◌+ℤ◌, ◌-ℤ◌, List, [], ◌++◌, length, IfSome}
use Rattle.std.specs.List.{enumerate_from, flat_map}
use Rattle.std.specs.Option.{option_map_or}
use Rattle.arm64_insn.specs.Low12.{low12_of, low12_word}
use Rattle.arm64_insn.specs.Page.{page_of, page_word}
use Rattle.image_read.specs.Reaches.{ADRP_X16, BR_X16, LDR_X16, without_low12, without_page}
use Rattle.mo_bytes.specs.Number.{number, number_bytes}
use Rattle.mo_types.specs.declared.goal.Goal.{Goal}
use Rattle.slot_plan.specs.declared.list.Slots.{Slots}
use Rattle.slot_plan.specs.declared.need.Way.TheVariants.{Got}
use Rattle.slot_place.specs.Places.{slot_address, unit_at}
use Rattle.slot_place.specs.declared.places.SlotStarts.{SlotStarts}

-- the distance in pages of 4,096 bytes from the page of one address to that of another
unfoldable pub pages_between : ℕ → ℕ → ℤ
pages_between from to = pos (to / 0x1000) -ℤ pos (from / 0x1000)

-- A stub at an address that loads a slot and branches there: `adrp x16` of the slot's page, `ldr x16` of its place in
-- the page, and `br x16`.
unfoldable pub stub_bytes : ℕ → ℕ → List ℕ
stub_bytes at slot =
    number_bytes 4 (page_word ADRP_X16 (pages_between at slot)) ++ (number_bytes 4 (low12_word LDR_X16 slot) ++ number_bytes 4 BR_X16)

-- the stub of a number, where stubs begin at an address
abbrev pub stub_of : SlotStarts → Slots → ℕ → ℕ × Goal → List ℕ
stub_of starts slots start p =
    option_map_or (λ slot. stub_bytes (unit_at 12 start p.0) slot) (slot_address starts slots Got p.1) []

-- all stubs, one behind the other
unfoldable pub stubs_from : SlotStarts → Slots → ℕ → List ℕ
stubs_from starts slots start = flat_map (stub_of starts slots start) (enumerate_from 0 slots.stubs)

-- none where the image has no section for them
unfoldable pub stubs_bytes : SlotStarts → Slots → List ℕ
stubs_bytes starts slots = option_map_or (stubs_from starts slots) starts.stubs []

-- ---- where a stub reaches its slot

-- the slots or stubs of some goals are within the image
pub record AreNear (base unit start : ℕ) (goals : List Goal) : Type 0 where
  pub after : base ≤ start
  pub before : unit_at unit start (length goals) ≤ base + 2 ^ 32

-- The stubs and the slots that they load are within an image that begins at a page of 4,096 bytes, and slots stand at
-- multiples of 8.
pub record AreReached (base : ℕ) (starts : SlotStarts) (slots : Slots) : Type 0 where
  pub page : base % 0x1000 ≡ 0
  pub stubs : IfSome starts.stubs (λ start. AreNear base 12 start slots.stubs)
  pub got : IfSome starts.got (λ start. AreNear base 8 start slots.got)
  pub whole : IfSome starts.got (λ start. start % 8 ≡ 0)

-- ---- what a stub does

-- The bytes of a stub at an address are three instructions: `adrp x16` of a page and `ldr x16` of a place in it, which are
-- those of the slot, and `br x16`.
pub record LoadsSlot (at slot : ℕ) (bytes : List ℕ) : Type 0 where
  pub size : length bytes ≡ 12
  pub adrp : without_page (number 4 bytes 0) ≡ ADRP_X16
  pub page : pos (at / 0x1000) +ℤ page_of (number 4 bytes 0) ≡ pos (slot / 0x1000)
  pub ldr : without_low12 (number 4 bytes 4) ≡ LDR_X16
  pub low : low12_of (number 4 bytes 4) ≡ slot % 0x1000
  pub br : number 4 bytes 8 ≡ BR_X16
