-- What is known of what is laid out.
use Rattle.std.specs.Prelude.{◌≡◌, ◌<◌, ◌^◌, List, Result, Ok, Err}
use Rattle.fixup_chain.specs.Chained.{AreChains, AreMany, IsCause}
use Rattle.fixup_chain.specs.declared.chains.ChainFault.{ChainFault}
use Rattle.fixup_chain.specs.declared.chains.Chains.{Chains}
use Rattle.fixup_chain.specs.declared.chains.Fixup.{Fixup}
use Rattle.image_make.specs.Atoms.{AreLow, AreRising}
use Rattle.image_make.specs.Frames.{HaveFrames}
use Rattle.image_make.specs.Made.{ImageInputs, IsLaid, binds_of, kept_of, rows_of}
use Rattle.image_make.specs.Made as made
use Rattle.image_make.specs.Near.{AreNear}
use Rattle.image_make.specs.Parts.{linkedit_address}
use Rattle.image_make.specs.declared.filling.Laid as code
use Rattle.mo_types.specs.Loaded.{IsWholeLoaded}
use Rattle.sect_place.specs.declared.layout.Layout.{Layout}
use Rattle.ref_meet.specs.Pointers.{AreFixups}
use Rattle.ref_meet.specs.Ready.{scene_of}
use Rattle.ref_meet.specs.inner.Orders.{AreOrders}

-- what an image is to be made of
pub record AreGood (m : ImageInputs) : Type 0 where
  pub whole : IsWholeLoaded (record { files = m.files })
  pub rising : AreRising (kept_of m)
  pub low : AreLow (kept_of m)
  pub near : AreNear m
  pub frames : HaveFrames m
  pub flags : m.flags < 2 ^ 31
  pub few : ¬ AreMany (binds_of m)

-- the layout, the atoms with bytes and the pointers are those of an image
pub record IsLaidOut (m : ImageInputs) (laid : code.Laid) : Type 0 where
  pub good : AreGood m
  pub info : m.info ≡ laid.info.now
  pub is_laid : IsLaid m laid.scene.now.layout.now
  pub scene : scene_of laid.scene.now ≡ made.scene_of m laid.scene.now.layout.now
  pub orders : AreOrders m.files laid.orders.now
  pub work : laid.work.now ≡ rows_of m laid.scene.now.layout.now
  pub pointers : AreFixups (made.scene_of m laid.scene.now.layout.now) (rows_of m laid.scene.now.layout.now) laid.fixups.now

-- its size is a number of 64 bits
abbrev pub IsSized : code.Laid → Type 0
IsSized laid = linkedit_address laid.scene.now.layout.now.segments < 2 ^ 63

-- what is answered for the pointers of a layout
abbrev pub IsEncoded : Layout → List Fixup → Result Chains ChainFault → Type 0
IsEncoded layout fixups (Ok chains) = AreChains layout fixups chains
IsEncoded layout fixups (Err why) = IsCause layout fixups why
