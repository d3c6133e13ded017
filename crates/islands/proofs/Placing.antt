-- What was placed without islands is a layout without islands.
use Rattle.std.proofs.Common.{◌≡◌, ◌≤◌, List, All, IfOk, IsPermutation, Result, Ok, Err, sym, subst}
use Rattle.std.specs.List.Sorted.{IsSorted, IsStrictlySortedBy}
use Rattle.std.specs.Ordering.{on}
use Rattle.command_line.specs.declared.command.Command.{Command}
use Rattle.mo_types.specs.Keys.{compare_keys}
use Rattle.mo_types.specs.declared.atom.Atom.{Atom}
use Rattle.mo_types.specs.declared.loaded.LoadedFile.{LoadedFile}
use Rattle.mo_types.specs.declared.out_section.OutSection.{OutSection}
use Rattle.slot_plan.specs.declared.list.Slots.{Slots}
use Rattle.sect_list.specs.OutSections.{out_sections}
use Rattle.sect_place.specs.Layout.{IsLayoutOf, image_places, image_sections, image_segments, plan_of}
use Rattle.sect_place.specs.Moved.{AreInOrder, no_islands}
use Rattle.sect_place.specs.declared.island.IslandPlan.{IslandPlan}
use Rattle.sect_place.specs.declared.layout.Layout.{Layout}
use Rattle.sect_place.specs.declared.layout.Placed.{Placed}
use Rattle.sect_place.specs.declared.size.PlaceFault.{PlaceFault}
use Rattle.sect_place.specs.declared.size.PlaceSizes.{PlaceSizes}
use Rattle.sect_place.proofs.Ranged.{in_order_law}
use Rattle.islands.specs.Plan.{IsWithoutIslands}

pub without : (kept : List Atom) (files : List LoadedFile) (sections : List OutSection) (slots : Slots) (islands : IslandPlan) (sizes : PlaceSizes) (command : Command) (r : Result Layout PlaceFault) → IsStrictlySortedBy (on (λ (atom : Atom). atom.key) compare_keys) kept → All (λ (atom : Atom). atom.align ≤ 14) kept → sections ≡ out_sections files kept → islands ≡ no_islands
    → IfOk r (λ (layout : Layout). layout.segments ≡ image_segments command (plan_of kept sections slots islands sizes command)) → IfOk r (λ (layout : Layout). layout.sections ≡ image_sections (plan_of kept sections slots islands sizes command))
    → IfOk r (λ (layout : Layout). IsPermutation (image_places (plan_of kept sections slots islands sizes command)) layout.placed) → IfOk r (λ (layout : Layout). IsSorted (on (λ (p : Placed). p.atom) compare_keys) layout.placed) → IfOk r (IsWithoutIslands kept)
without kept files sections slots islands sizes command (Ok layout) rises low are none segments there places order = record {
  sections = sections;
  slots = slots;
  sizes = sizes;
  command = command;
  rises = rises;
  in_order = subst (AreInOrder kept) (sym are) (in_order_law files kept rises low);
  placed = subst (λ (plan : IslandPlan). IsLayoutOf command (plan_of kept sections slots plan sizes command) layout) none (record { segments = segments; sections = there; places = places; order = order });
}
without kept files sections slots islands sizes command (Err e) rises low are none segments there places order = tt
