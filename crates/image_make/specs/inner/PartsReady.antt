-- What is known of the parts of an image before they are put together.
use Rattle.std.specs.Prelude.{ℕ, ◌+◌, ◌<◌, ◌^◌, List, length}
use Rattle.fixup_chain.specs.declared.chains.ChainWord.{ChainWord}
use Rattle.fixup_chain.specs.declared.chains.Chains.{Chains}
use Rattle.image_join.specs.Joined.{LieApart}
use Rattle.ref_meet.specs.Ready.{AreInOrder}
use Rattle.sect_place.specs.declared.layout.Layout.{Layout}
use Rattle.slot_place.specs.Places.{HaveRoom, starts_of}
use Rattle.slot_place.specs.Stubs.{AreReached}
use Rattle.slot_plan.specs.declared.list.Slots.{Slots}
use Rattle.image_make.specs.Parts.{image_parts, linkedit_offset}

-- slots and stubs have room and are in reach of each other, and words are in order
pub record AreReadySlots (layout : Layout) (slots : Slots) (all : List ChainWord) : Type 0 where
  pub room : HaveRoom (starts_of layout.sections) slots
  pub reached : (base : ℕ) × AreReached base (starts_of layout.sections) slots
  pub words : AreInOrder all

-- and all parts lie apart, below 2^32
pub record AreReadyParts (layout : Layout) (own : Slots) (info : List ℕ) (chains : Chains) (front : List ℕ) : Type 0 where
  pub slots : AreReadySlots layout own chains.words
  pub apart : LieApart (record { size = linkedit_offset layout.segments + length chains.blob; parts = image_parts layout own info chains front })
  pub few : linkedit_offset layout.segments + length chains.blob < 2 ^ 32
