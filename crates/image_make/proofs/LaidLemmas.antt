-- A layout of kept atoms that rise has each atom once.
use Rattle.std.proofs.Common.{◌≡◌, ◌<◌, ◌≤◌, ◌^◌, ℕ, List, map, get_or, sym, ap, ◌∙◌, subst}
use Rattle.std.specs.Prelude.{All}
use Rattle.std.specs.List.Sorted.{IsStrictlySortedBy}
use Rattle.std.specs.Ordering.{on}
use Rattle.std.specs.declared.cmp.Ordering.TheVariants.{Less, Equal}
use Rattle.std.proofs.lemmas.Cmp.{tied_itself}
use Rattle.std.proofs.lemmas.List.Elements.{recursion_from_All}
use Rattle.list_lemmas.proofs.Members.{all_at, all_map}
use Rattle.list_lemmas.proofs.Rising.{rising_at}
use Rattle.mo_types.proofs.KeyOrder.{compare_keys_total}
use Rattle.mo_types.specs.Keys.{compare_keys}
use Rattle.lib_bind.specs.declared.library.LibraryGraph.{LibraryGraph}
use Rattle.load_cmds.specs.Sizes.{other_size}
use Rattle.command_line.specs.declared.command.Command.{Command}
use Rattle.mo_types.specs.declared.atom.Atom.{Atom}
use Rattle.mo_types.specs.declared.loaded.LoadedFile.{LoadedFile}
use Rattle.mo_types.specs.declared.out_section.OutSection.{OutSection}
use Rattle.sect_place.specs.Layout.{IsLayoutOf, IsTooLarge, Plan, image_size, plan_of}
use Rattle.sect_list.specs.OutSections.{out_sections}
use Rattle.sect_place.specs.declared.island.IslandPlan.{IslandPlan}
use Rattle.sect_place.specs.declared.layout.Layout.{Layout}
use Rattle.sect_place.specs.declared.layout.Placed.{Placed}
use Rattle.sect_place.specs.declared.size.PlaceFault.{PlaceFault}
use Rattle.slot_plan.specs.declared.list.Slots.{Slots}
use Rattle.image_make.specs.Atoms.{atom_of}
use Rattle.image_make.specs.declared.kept.KeptAtom.{KeptAtom}
use Rattle.image_make.specs.Made.{ImageInputs, kept_of, plan_with, sizes_of}
use Rattle.image_make.specs.inner.Laying.{IsPlacedWith, plan_sized}
use Rattle.image_make.specs.Parts.{parts_there}
use Rattle.sect_place.specs.Addresses.{AreOnce}

less_not_equal : Less ≡ Equal → ⊥
less_not_equal e = cc

pub once : (placed : List Placed) → IsStrictlySortedBy (on (λ (p : Placed). p.atom) compare_keys) placed → AreOnce placed
once placed rising = λ i j d low high same.
    less_not_equal (sym (rising_at (on (λ (p : Placed). p.atom) compare_keys) placed i j d rising low high) ∙ ap (λ a. compare_keys a (get_or placed j d).atom) same ∙ tied_itself compare_keys_total (get_or placed j d).atom)

pub low_atoms : (kept : List KeptAtom) → All (λ (one : KeptAtom). one.atom.align ≤ 14) kept → All (λ (atom : Atom). atom.align ≤ 14) (map atom_of kept)
low_atoms kept low = λ k d within. all_at (λ (atom : Atom). atom.align ≤ 14) (map atom_of kept) k d (all_map atom_of (λ (atom : Atom). atom.align ≤ 14) kept (recursion_from_All (λ (one : KeptAtom). one.atom.align ≤ 14) kept low)) within

same_plan : (command : Command) (libs : LibraryGraph) (files : List LoadedFile) (kept : List KeptAtom) (slots : Slots) (islands : IslandPlan) (unwind : ℕ) (atoms : List Atom) (sections : List OutSection) (size : ℕ) → atoms ≡ map atom_of kept → sections ≡ out_sections files (map atom_of kept) → size ≡ other_size parts_there command libs
    → plan_of atoms sections slots islands (record { commands = size; unwind = unwind }) command ≡ plan_with command libs files kept slots islands unwind
unfolding plan_with
same_plan command libs files kept slots islands unwind atoms sections size a s z =
    ap (λ (n : ℕ). plan_of atoms sections slots islands (record { commands = n; unwind = unwind }) command) z
    ∙ ap (λ (xs : List OutSection). plan_of atoms xs slots islands (sizes_of command libs unwind) command) s
    ∙ ap (λ (xs : List Atom). plan_of xs (out_sections files (map atom_of kept)) slots islands (sizes_of command libs unwind) command) a

-- what was placed is a layout
pub placed_with : (m : ImageInputs) (kept : List KeptAtom) (unwind : ℕ) (atoms : List Atom) (sections : List OutSection) (size : ℕ) (layout : Layout) → atoms ≡ map atom_of kept → kept ≡ kept_of m → sections ≡ out_sections m.files (map atom_of kept) → size ≡ other_size parts_there m.command m.libs
    → IsLayoutOf m.command (plan_of atoms sections m.slots m.islands (record { commands = size; unwind = unwind }) m.command) layout → image_size (plan_of atoms sections m.slots m.islands (record { commands = size; unwind = unwind }) m.command) < 2 ^ 32 → IsPlacedWith m unwind layout
placed_with m kept unwind atoms sections size layout a k s z is small =
    let same = same_plan m.command m.libs m.files kept m.slots m.islands unwind atoms sections size a s z ∙ ap (λ (ks : List KeptAtom). plan_with m.command m.libs m.files ks m.slots m.islands unwind) k in
    record { layout_of = subst (λ (plan : Plan). IsLayoutOf m.command plan layout) same is; small = subst (λ (plan : Plan). image_size plan < 2 ^ 32) same small }

pub placed_large : (m : ImageInputs) (kept : List KeptAtom) (unwind : ℕ) (atoms : List Atom) (sections : List OutSection) (size : ℕ) (fault : PlaceFault) → atoms ≡ map atom_of kept → kept ≡ kept_of m → sections ≡ out_sections m.files (map atom_of kept) → size ≡ other_size parts_there m.command m.libs
    → IsTooLarge (image_size (plan_of atoms sections m.slots m.islands (record { commands = size; unwind = unwind }) m.command)) fault → IsTooLarge (image_size (plan_sized m unwind)) fault
placed_large m kept unwind atoms sections size fault a k s z large =
    let same = same_plan m.command m.libs m.files kept m.slots m.islands unwind atoms sections size a s z ∙ ap (λ (ks : List KeptAtom). plan_with m.command m.libs m.files ks m.slots m.islands unwind) k in
    subst (λ (plan : Plan). IsTooLarge (image_size plan) fault) same large
