-- Pointers that the loader fills in (`mach-o/fixup-chains.h`).
use Rattle.std.specs.Prelude.{ℕ, ◌+◌, ◌≡◌, ◌<◌, ◌^◌, ℤ, pos, ◌-ℤ◌, List, map, IsSome, Some}
use Rattle.std.specs.FinMap.{from_entries}
use Rattle.mo_types.specs.declared.goal.Goal.{Goal}
use Rattle.mo_types.specs.declared.goal.Goal.TheVariants.{Def, Header, Nobody}
use Rattle.mo_types.specs.declared.reference.RefKind.{RefKind}
use Rattle.mo_types.specs.declared.reference.RefKind.TheVariants.{GotPointer, Pointer}
use Rattle.patch.specs.declared.met.Met.{Met}
use Rattle.sect_place.specs.Addresses.{address_in}
use Rattle.sect_place.specs.declared.layout.Placed.{Placed}
use Rattle.image_read.specs.Fixups.{fixup_at}
use Rattle.image_read.specs.Held.{AtomMap, Held}
use Rattle.image_read.specs.Meaning.{base_of, long_in}
use Rattle.image_read.specs.declared.fixups.FixupRead.{FixupRead}
use Rattle.image_read.specs.declared.fixups.FixupRead.TheVariants.{Rebase}

-- a field of the kind is a pointer
abbrev pub IsPointerKind : RefKind → Type 0
IsPointerKind Pointer = Unit {0}
IsPointerKind GotPointer = Unit {0}
IsPointerKind _ = ⊥

-- a pointer met the word of its chain, to which nothing is added
pub record MetWord (met : Met) : Type 0 where
  pub kind : IsPointerKind met.kind
  pub addend : met.addend ≡ pos 0
  pub low : met.value < 2 ^ 64

-- a rebase leads to an address of 64 bits
abbrev pub IsInRange : List ℕ → FixupRead → Type 0
IsInRange image fixup = (base offset : ℕ) → base_of image ≡ Some base → fixup ≡ Rebase offset → base + offset < 2 ^ 64

-- A pointer's bytes are in memory, and its fixup leads to a goal plus an addend.
pub record IsPointerTo (image : List ℕ) (addresses : AtomMap) (p : ℕ) (goal : Goal) (addend : ℤ) : Type 0 where
  pub number : ℕ
  pub there : long_in image p ≡ Some number
  pub held : Held image addresses (fixup_at image p) goal addend
  pub in_range : IsInRange image (fixup_at image p)

-- A pointer leads to a slot, as an offset from the header, and the slot's own fixup leads to a goal.
pub record IsPointerToSlot (image : List ℕ) (addresses : AtomMap) (p : ℕ) (goal : Goal) : Type 0 where
  pub base : ℕ
  pub begins : base_of image ≡ Some base
  pub slot : ℕ
  pub pointer : IsPointerTo image addresses p Header (pos slot -ℤ pos base)
  pub held : Held image addresses (fixup_at image slot) goal (pos 0)

-- the addresses of the atoms that are placed
abbrev pub addresses_of : List Placed → AtomMap
addresses_of placed = from_entries (map (λ p. (p.atom, p.address)) placed)

-- a pointer can lead to a goal: an atom of which it is a place is placed, and it isn't nobody
abbrev pub IsSomewhere : List Placed → Goal → Type 0
IsSomewhere placed (Def key offset) = IsSome (address_in placed key)
IsSomewhere placed Nobody = ⊥
IsSomewhere placed _ = Unit {0}
