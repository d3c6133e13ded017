-- Where branches lead, through islands and stubs (the Arm Architecture Reference Manual; the stubs of ld(1)).
use Rattle.std.specs.Prelude.{ℕ, ◌+◌, ◌≡◌, ◌==◌, ◌&&◌, ◌⊎◌, Bool, true, false, ℤ, pos, negsuc, List, Some}
use Rattle.std.specs.Option.{option_map}
use Rattle.arm64_insn.specs.Field.{with_field}
use Rattle.arm64_insn.specs.Page.{with_immhi_immlo}
use Rattle.mo_types.specs.declared.goal.Goal.{Goal}
use Rattle.mo_types.specs.declared.goal.Goal.TheVariants.{Def, WeakSelf, Header, Import, Flat, Nobody}
use Rattle.mo_types.specs.declared.reference.RefKind.TheVariants.{Page, PageOff}
use Rattle.image_read.specs.Fixups.{fixup_at}
use Rattle.image_read.specs.Held.{AtomMap, Held, target_of}
use Rattle.image_read.specs.Meaning.{denote, word_in}
use Rattle.image_read.specs.declared.meaning.Meaning.TheVariants.{Address, Low12}

-- `adrp x16, 0`, `add x16, x16, 0`, `ldr x16, [x16]` and `br x16`
abbrev pub ADRP_X16 : ℕ
ADRP_X16 = 0x90000010

abbrev pub ADD_X16 : ℕ
ADD_X16 = 0x91000210

abbrev pub LDR_X16 : ℕ
LDR_X16 = 0xf9400210

abbrev pub BR_X16 : ℕ
BR_X16 = 0xd61f0200

-- instructions with zeros in the fields that tell a page and an offset in it
abbrev pub without_page : ℕ → ℕ
without_page word = with_immhi_immlo word 0

abbrev pub without_low12 : ℕ → ℕ
without_low12 word = with_field 10 12 word 0

-- Three instructions: `adrp x16` of a page, a second one with an offset in the page, and `br x16`. The address that the
-- first two tell is the page plus the offset.
pub record IsByWay (image : List ℕ) (second x told : ℕ) : Type 0 where
  pub page : ℕ
  pub low : ℕ
  pub adrp : option_map without_page (word_in image x) ≡ Some ADRP_X16
  pub on_page : denote image x Page ≡ Address page
  pub with_low : option_map without_low12 (word_in image (x + 4)) ≡ Some second
  pub at_low : denote image (x + 4) PageOff ≡ Low12 low
  pub br : word_in image (x + 8) ≡ Some BR_X16
  pub sum : told ≡ page + low

-- a stub of a goal: it loads a slot whose fixup leads to the goal, and branches there
pub record IsStub (image : List ℕ) (addresses : AtomMap) (x : ℕ) (goal : Goal) : Type 0 where
  pub slot : ℕ
  pub way : IsByWay image LDR_X16 x slot
  pub held : Held image addresses (fixup_at image slot) goal (pos 0)

-- the loader looks the goal up by its name
abbrev pub is_looked_up : Goal → Bool
is_looked_up (Def key offset) = false
is_looked_up (WeakSelf name key offset) = true
is_looked_up Header = false
is_looked_up (Import name ordinal by_weak optional) = true
is_looked_up (Flat name) = true
is_looked_up Nobody = false

abbrev pub is_zero : ℤ → Bool
is_zero (pos n) = n == 0
is_zero (negsuc n) = false

-- A branch to a goal plus an addend may end at an address: at a stub, where the loader looks the goal up and nothing
-- is added, and else at the goal plus the addend itself.
abbrev pub StopsBy : Bool → List ℕ → AtomMap → ℕ → Goal → ℤ → Type 0
StopsBy true image addresses x goal addend = IsStub image addresses x goal
StopsBy false image addresses x goal addend = target_of image addresses goal addend ≡ Some (pos x)

abbrev pub Stops : List ℕ → AtomMap → ℕ → Goal → ℤ → Type 0
Stops image addresses x goal addend = StopsBy (is_looked_up goal && is_zero addend) image addresses x goal addend

-- an island: it branches to an address at which a branch may end
pub record IsIsland (image : List ℕ) (addresses : AtomMap) (x : ℕ) (goal : Goal) (addend : ℤ) : Type 0 where
  pub end : ℕ
  pub way : IsByWay image ADD_X16 x end
  pub stops : Stops image addresses end goal addend

-- A branch to an address reaches a goal plus an addend, at once or by one island.
abbrev pub Reaches : List ℕ → AtomMap → ℕ → Goal → ℤ → Type 0
Reaches image addresses x goal addend = Stops image addresses x goal addend ⊎ IsIsland image addresses x goal addend
