-- What is known of the things in which references are met, and what was looked up beforehand.
use Rattle.std.specs.Prelude.{◌≡◌, All, List}
use Rattle.std.specs.List.Sorted.{IsStrictlySortedBy}
use Rattle.std.specs.Ordering.{nat_cmp, on}
use Rattle.fixup_chain.specs.declared.chains.ChainWord.{ChainWord}
use Rattle.mo_types.specs.Keys.{compare_files}
use Rattle.mo_types.specs.declared.loaded.LoadedFile.{LoadedFile}
use Rattle.patch.specs.declared.met.Met.{Met}
use Rattle.patch.specs.declared.range.PlacedWork.{PlacedWork}
use Rattle.resolve.specs.Table.{goals_of}
use Rattle.sect_place.specs.Addresses.{AreOnce}
use Rattle.slot_place.specs.Places.{HaveRoom, starts_of}
use Rattle.ref_meet.specs.Addresses.{AreLowPlaces}
use Rattle.ref_meet.specs.Mets.{mets_of}
use Rattle.ref_meet.specs.Near.{HaveNearEnds, IsNear}
use Rattle.ref_meet.specs.Scene.{Scene}
use Rattle.ref_meet.specs.Template.{template_start}
use Rattle.ref_meet.specs.declared.meeting.AtomReferences.{AtomReferences}
use Rattle.ref_meet.specs.declared.scene.Scene as code
use Rattle.ref_meet.specs.inner.Orders.{AreOrders}
use Rattle.ref_meet.specs.inner.Told.{AreTold}

-- the same as definitions have it
abbrev pub scene_of : code.Scene → Scene
scene_of scene = record {
  files = scene.loaded.now.files;
  goals = goals_of scene.goals.now;
  literals = scene.symbols.now.literals;
  layout = scene.layout.now;
  slots = scene.slots.now;
  base = scene.base;
}

-- Files are in the order of their ids. No atom stands in two places, and each stands low; slots and stubs end at addresses; and
-- what references lead to is near the start of its atom.
pub record IsSound (scene : Scene) : Type 0 where
  pub files : IsStrictlySortedBy (on (λ (file : LoadedFile). file.id) compare_files) scene.files
  pub once : AreOnce scene.layout.placed
  pub low : AreLowPlaces scene.layout.placed
  pub room : HaveRoom (starts_of scene.layout.sections) scene.slots
  pub goals : All (All IsNear) scene.goals
  pub refs : HaveNearEnds scene.files

-- words stand in the order of their addresses
abbrev pub AreInOrder : List ChainWord → Type 0
AreInOrder words = IsStrictlySortedBy (on (λ (chained : ChainWord). chained.address) nat_cmp) words

-- references can be met: the scene is sound, words are in order, and what was looked up is of its sections, goals and files
pub record IsReady (meets : AtomReferences) : Type 0 where
  pub sound : IsSound (scene_of meets.scene)
  pub starts : meets.starts ≡ starts_of meets.scene.layout.now.sections
  pub template : meets.template ≡ template_start meets.scene.layout.now.sections
  pub words : AreInOrder meets.words.now
  pub orders : AreOrders meets.scene.loaded.now.files meets.orders.now
  pub told : AreTold (scene_of meets.scene) meets.scene.goals.now.pool meets.places.items

-- the references of a placed atom
abbrev pub met_by : AtomReferences → PlacedWork → List Met
met_by meets = mets_of (scene_of meets.scene) meets.words.now
