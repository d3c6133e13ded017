-- What was met for a reference, by how its field tells the goal (`mach-o/arm64/reloc.h`).
use Rattle.std.specs.Prelude.{ℕ, ◌≡◌, ◌/◌, ◌%◌, ◌&&◌, ◌<◌, ◌^◌, true, false, pos, ◌+ℤ◌, List, length, Option, Some}
use Rattle.std.specs.Option.{option_and_then}
use Rattle.arm64_insn.specs.Low12.{low12_of}
use Rattle.arm64_insn.specs.Page.{page_of}
use Rattle.mo_bytes.specs.Number.{number}
use Rattle.mo_types.specs.declared.goal.Goal.{Goal}
use Rattle.mo_types.specs.declared.reference.Ref.{Ref}
use Rattle.mo_types.specs.declared.reference.RefKind.{RefKind}
use Rattle.mo_types.specs.declared.reference.RefKind.TheVariants.{Pointer, Diff32, Diff64, Branch, Page, PageOff, GotPage, GotPageOff, GotDelta, TlvPage, TlvPageOff}
use Rattle.patch.specs.declared.met.Met.{Met}
use Rattle.image_read.specs.Denotes.{Places, offset_for}
use Rattle.image_read.specs.Fixups.{fixup_at}
use Rattle.image_read.specs.Held.{AtomMap, Held, goal_address}
use Rattle.image_read.specs.Reaches.{ADRP_X16, BR_X16, IsStub, Reaches, is_looked_up, is_zero, without_low12, without_page}
use Rattle.image_read.specs.declared.fixups.FixupRead.TheVariants.{Plain}

-- ---- the goal's own address

-- What more a field needs that tells the goal's own address, by its kind: a branch goes to no stub, and what a difference
-- subtracts was met as well.
abbrev pub IsOwnBy : RefKind → List ℕ → AtomMap → Goal → Option Goal → Met → Type 0
IsOwnBy Branch image addresses goal minus met = (is_looked_up goal && is_zero met.addend) ≡ false
IsOwnBy Page image addresses goal minus met = Unit {0}
IsOwnBy PageOff image addresses goal minus met = Unit {0}
IsOwnBy Diff32 image addresses goal minus met = option_and_then (goal_address image addresses) minus ≡ Some met.minus
IsOwnBy Diff64 image addresses goal minus met = option_and_then (goal_address image addresses) minus ≡ Some met.minus
IsOwnBy _ image addresses goal minus met = ⊥

-- a reference met the address that the image has for its goal
pub record MetOwn (image : List ℕ) (addresses : AtomMap) (reference : Ref) (goal : Goal) (minus : Option Goal) (met : Met) : Type 0 where
  pub kind : met.kind ≡ reference.kind
  pub addend : met.addend ≡ reference.addend
  pub value : goal_address image addresses goal ≡ Some met.value
  pub own : IsOwnBy reference.kind image addresses goal minus met

-- ---- a slot

-- a field of the kind tells a slot, by an instruction or a distance
abbrev pub IsBySlot : RefKind → Type 0
IsBySlot GotPage = Unit {0}
IsBySlot GotPageOff = Unit {0}
IsBySlot GotDelta = Unit {0}
IsBySlot TlvPage = Unit {0}
IsBySlot TlvPageOff = Unit {0}
IsBySlot _ = ⊥

-- a reference met a slot, whose fixup leads to its goal
pub record MetSlot (image : List ℕ) (addresses : AtomMap) (reference : Ref) (goal : Goal) (met : Met) : Type 0 where
  pub kind : met.kind ≡ reference.kind
  pub by_slot : IsBySlot reference.kind
  pub addend : met.addend ≡ pos 0
  pub low : met.value < 2 ^ 64
  pub held : Held image addresses (fixup_at image met.value) goal (pos 0)

-- ---- a stub or an island

-- a branch met an address from which its goal is reached
pub record MetWay (image : List ℕ) (addresses : AtomMap) (reference : Ref) (goal : Goal) (met : Met) : Type 0 where
  pub kind : met.kind ≡ reference.kind
  pub branch : reference.kind ≡ Branch
  pub addend : met.addend ≡ pos 0
  pub reaches : Reaches image addresses met.value goal reference.addend

-- a branch met a stub of its goal, which the loader looks up
pub record MetStub (image : List ℕ) (addresses : AtomMap) (reference : Ref) (goal : Goal) (met : Met) : Type 0 where
  pub kind : met.kind ≡ reference.kind
  pub branch : reference.kind ≡ Branch
  pub looked_up : is_looked_up goal ≡ true
  pub nothing : is_zero reference.addend ≡ true
  pub addend : met.addend ≡ pos 0
  pub stub : IsStub image addresses met.value goal

-- The bytes at an address are three instructions: `adrp x16` of an address's page, a second one with its place in the page, and
-- `br x16`.
pub record GoesBy (second at told : ℕ) (bytes : List ℕ) : Type 0 where
  pub size : length bytes ≡ 12
  pub adrp : without_page (number 4 bytes 0) ≡ ADRP_X16
  pub page : pos (at / 0x1000) +ℤ page_of (number 4 bytes 0) ≡ pos (told / 0x1000)
  pub with_low : without_low12 (number 4 bytes 4) ≡ second
  pub low : low12_of (number 4 bytes 4) ≡ told % 0x1000
  pub br : number 4 bytes 8 ≡ BR_X16

-- ---- the template of thread-local variables

-- a pointer met the offset of its goal in the template, and the loader leaves it as it is
pub record MetOffset (image : List ℕ) (places : Places) (p section : ℕ) (reference : Ref) (goal : Goal) (met : Met) : Type 0 where
  pub kind : met.kind ≡ reference.kind
  pub pointer : reference.kind ≡ Pointer
  pub addend : met.addend ≡ reference.addend
  pub offset : offset_for section places.offsets goal ≡ Some met.value
  pub plain : fixup_at image p ≡ Plain
