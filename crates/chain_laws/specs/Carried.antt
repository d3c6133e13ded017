-- An image that carries the chains of some pointers, and what the loader finds in it.
use Rattle.std.specs.Prelude.{ℕ, ◌≡◌, ◌≢◌, ◌+◌, ◌<◌, ◌≤◌, ◌^◌, Bool, true, false, ℤ, pos, List, [], ◌∷◌, map, length, take, drop, Contains, Some, FitsSigned, if◌then◌else◌}
use Rattle.std.specs.Int.{w64}
use Rattle.std.specs.List.{All, filter}
use Rattle.mo_bytes.specs.Number.{number_at}
use Rattle.mo_format.specs.Segment.{segment_command_at}
use Rattle.mo_format.specs.declared.segment.SegmentCommand.{SegmentCommand}
use Rattle.mo_types.specs.Goals.{name_of}
use Rattle.mo_types.specs.declared.goal.Goal.{Goal}
use Rattle.mo_types.specs.declared.goal.Goal.TheVariants as goal
use Rattle.sect_place.specs.declared.layout.Layout.{Layout}
use Rattle.sect_place.specs.declared.layout.Segment.{Segment}
use Rattle.fixup_chain.specs.Encoded.{AreApart}
use Rattle.fixup_chain.specs.Faults.{target_of}
use Rattle.fixup_chain.specs.Imports.{is_bound, optional_of}
use Rattle.fixup_chain.specs.Places.{is_in}
use Rattle.fixup_chain.specs.declared.chains.ChainWord.{ChainWord}
use Rattle.fixup_chain.specs.declared.chains.Chains.{Chains}
use Rattle.fixup_chain.specs.declared.chains.Fixup.{Fixup}
use Rattle.image_read.specs.Commands.{commands_of, fits}
use Rattle.image_read.specs.Fixups.{fixup_at, long_at}
use Rattle.image_read.specs.Held.{FLAT_LOOKUP, IsBindOf, WEAK_LOOKUP}
use Rattle.image_read.specs.Imports.{fixups_command}
use Rattle.image_read.specs.Mapped.{is_segment}
use Rattle.image_read.specs.declared.fixups.FixupRead.TheVariants.{Rebase}

-- the segments of an image, in the order of its commands
unfoldable pub segments_of : List ℕ → List SegmentCommand
segments_of image = map (segment_command_at image) (filter (is_segment image) (commands_of image))

-- An image's segments have the memory that the layout has for them. The last one, `__LINKEDIT`, has its size in the image
-- alone.
abbrev pub StandAs : List SegmentCommand → List Segment → Type 0
StandAs [] [] = Unit {0}
StandAs [] (segment ∷ segments) = ⊥
StandAs (command ∷ commands) [] = ⊥
StandAs (command ∷ commands) (segment ∷ []) = (command.vmaddr ≡ segment.address) × (segment.vmsize ≡ 0) × (commands ≡ [])
StandAs (command ∷ commands) (segment ∷ next ∷ segments) =
    (command.vmaddr ≡ segment.address) × (command.vmsize ≡ segment.vmsize) × StandAs commands (next ∷ segments)

-- a library's number in an import, above which numbers have another meaning
abbrev pub HasOrdinal : Goal → Type 0
HasOrdinal (goal.Import name ordinal by_weak optional) = ordinal ≤ 240
HasOrdinal _ = Unit {0}

-- Pointers that may be on chains: each in some segment, by a name without a NUL, with a library's number up to 240 and an
-- addend of 64 bits.
pub record ArePointers (layout : Layout) (fixups : List Fixup) : Type 0 where
  pub apart : AreApart fixups
  pub inside : (fixup : Fixup) → Contains fixups fixup → (segment : Segment) × Contains layout.segments segment × (is_in segment fixup.address ≡ true)
  pub names : (fixup : Fixup) → Contains fixups fixup → All (λ b. b ≢ 0) (name_of fixup.goal)
  pub ordinals : (fixup : Fixup) → Contains fixups fixup → HasOrdinal fixup.goal
  pub addends : (fixup : Fixup) → Contains fixups fixup → FitsSigned w64 fixup.addend

-- An image of fewer than 2^32 bytes has the segments of a layout, its command of fixups names the place of the chains'
-- part, and their words are in memory.
pub record IsCarried (image : List ℕ) (layout : Layout) (chains : Chains) : Type 0 where
  pub small : length image < 2 ^ 32
  pub fitting : fits image ≡ true
  pub segments : StandAs (segments_of image) layout.segments
  pub command : ℕ
  pub named : fixups_command image ≡ Some command
  pub at : ℕ
  pub place : number_at 4 image (command + 8) ≡ Some at
  pub blob : take (length chains.blob) (drop at image) ≡ chains.blob
  pub words : (word : ChainWord) → Contains chains.words word → long_at image word.address ≡ Some word.word

-- the ordinal of a name that is looked up
abbrev pub signed_ordinal : Goal → ℤ
signed_ordinal (goal.WeakSelf name key offset) = WEAK_LOOKUP
signed_ordinal (goal.Import name ordinal by_weak optional) = if by_weak then WEAK_LOOKUP else pos ordinal
signed_ordinal (goal.Flat name) = FLAT_LOOKUP
signed_ordinal _ = pos 0

-- a rebase to the offset of what a pointer leads to
pub record IsRebaseOf (image : List ℕ) (layout : Layout) (fixup : Fixup) : Type 0 where
  pub offset : ℕ
  pub leads : pos offset ≡ target_of layout fixup
  pub rebase : fixup_at image fixup.address ≡ Rebase offset

abbrev pub IsFoundBy : Bool → List ℕ → Layout → Fixup → Type 0
IsFoundBy false image layout fixup = IsRebaseOf image layout fixup
IsFoundBy true image layout fixup =
    IsBindOf image (fixup_at image fixup.address) (name_of fixup.goal) (signed_ordinal fixup.goal) fixup.addend (optional_of fixup.goal)

-- The loader finds a pointer.
abbrev pub IsFound : List ℕ → Layout → Fixup → Type 0
IsFound image layout fixup = IsFoundBy (is_bound fixup.goal) image layout fixup
