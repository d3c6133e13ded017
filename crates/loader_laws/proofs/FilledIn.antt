-- The loader fills in the pointers of kept atoms and the slots that they need, and nothing else.
use Rattle.std.proofs.Common.{◌≡◌, ◌≢◌, ◌⊎◌, ℕ, ◌==◌, Bool, true, false, ℤ, pos, List, find, Option, Some, None, Contains, inl, inr, refl, sym, ap, ◌∙◌, subst}
use Rattle.std.proofs.lemmas.Bool.{eq-eqb, eqb-true, false≢true}
use Rattle.list_lemmas.proofs.Members.{Contains_from_in, In, find_none, find_some, in_from_Contains}
use Rattle.command_line.specs.declared.command.Command.{Command}
use Rattle.fixup_chain.specs.declared.chains.Fixup.{Fixup}
use Rattle.field_laws.specs.Pointers.{IsPointerKind, addresses_of}
use Rattle.field_laws.proofs.Found.{address_found}
use Rattle.image_make.specs.Made.{ImageInputs, rows_of, scene_of}
use Rattle.image_read.specs.Fixups.{fixup_at}
use Rattle.image_read.specs.Held.{AtomMap, Held}
use Rattle.image_read.specs.declared.fixups.FixupRead.{FixupRead}
use Rattle.image_read.specs.declared.fixups.FixupRead.TheVariants.{Broken}
use Rattle.image_laws.specs.Means.{AreRising, Imaged}
use Rattle.image_laws.proofs.Carrying.{others_plain, pointers_held}
use Rattle.image_laws.proofs.Pointing.{IsOfImage, of_atom, of_slot, pointer_behind, pointer_of, slot_behind}
use Rattle.image_laws.proofs.Rowed.{row_in}
use Rattle.lib_bind.specs.declared.library.LibraryGraph.{LibraryGraph}
use Rattle.literal_merge.specs.Representatives.{representatives_of}
use Rattle.literal_merge.specs.declared.representative.Representative.{Representative}
use Rattle.mo_types.specs.declared.goal.Goal.{Goal}
use Rattle.mo_types.specs.declared.goal.Goal.TheVariants.{Def, WeakSelf, Header, Import, Flat, Nobody}
use Rattle.mo_types.specs.declared.loaded.LoadedFile.{LoadedFile}
use Rattle.mo_types.specs.declared.reference.RefKind.{RefKind}
use Rattle.mo_types.specs.declared.reference.RefKind.TheVariants.{Pointer, Diff32, Diff64, Branch, Page, PageOff, GotPage, GotPageOff, GotDelta, GotPointer, TlvPage, TlvPageOff}
use Rattle.patch.specs.declared.range.PlacedWork.{PlacedWork}
use Rattle.ref_meet.specs.Pointers.{row_fixups, slot_fixups}
use Rattle.resolve.specs.Goals.{goal_of_name, goal_table}
use Rattle.sect_place.specs.Addresses.{address_in}
use Rattle.slot_needs.specs.Needs.{is_outer}
use Rattle.slot_place.specs.Places.{goals_for, start_of, starts_of}
use Rattle.slot_plan.specs.declared.need.Need.{Need}
use Rattle.slot_plan.specs.declared.need.Way.{Way}
use Rattle.slot_plan.specs.declared.need.Way.TheVariants.{Stub}
use Rattle.link_files.specs.Bound as bounds
use Rattle.link_files.specs.Linked.{AreOrdered, making}
use Rattle.link_files.proofs.Lists.{in_slice}
use Rattle.loader_laws.specs.Images.{IsImageOf}
use Rattle.loader_laws.specs.LinkOf.{IsFilledIn, IsPointerOf, IsSlotOf}
use Rattle.loader_laws.specs.Tellings.{AreNamed, AreWhole, made_of}
use Rattle.image_laws.specs.References.{AreFillable, HasAddress, StubsHaveSlots}
use Rattle.loader_laws.proofs.Fillable.{are_fillable, slot_addend}
use Rattle.loader_laws.proofs.Needed.{all_needs, entry_stub, stubs_have_slots, unit_need}
use Rattle.loader_laws.proofs.Placing.{IsLinking, kept_key_in, linking_of}
use Rattle.loader_laws.proofs.RowRefs.{IsRowRef, row_ref}

-- ---- what is held isn't broken

not_broken : (image : List ℕ) (addresses : AtomMap) (fixup : FixupRead) (goal : Goal) (addend : ℤ) → Held image addresses fixup goal addend → fixup ≢ Broken
not_broken image addresses fixup (Def key offset) addend held e = let is = sym held.rebase ∙ e in cc
not_broken image addresses fixup Header addend held e = let is = sym held.rebase ∙ e in cc
not_broken image addresses fixup (WeakSelf name key offset) addend held e = let is = sym held.bind ∙ e in cc
not_broken image addresses fixup (Import name ordinal by_weak optional) addend held e = let is = sym held.bind ∙ e in cc
not_broken image addresses fixup (Flat name) addend held e = let is = sym held.bind ∙ e in cc
not_broken image addresses fixup Nobody addend held e = held

-- ---- slots

-- the needs by the files alone
needs_same : (m : ImageInputs) → IsLinking m → all_needs m ≡ bounds.all_needs (representatives_of m.files) m.keys (goal_table m.files m.libs m.command) m.files (bounds.start_of m.command (goal_of_name m.files m.libs m.command m.command.entry))
needs_same m linking =
    ap (λ (literals : List Representative). bounds.all_needs literals m.keys m.goals m.files (bounds.start_of m.command m.entry)) linking.literals
    ∙ ap (λ (goals : List (List Goal)). bounds.all_needs (representatives_of m.files) m.keys goals m.files (bounds.start_of m.command m.entry)) linking.goals
    ∙ ap (λ (entry : Goal). bounds.all_needs (representatives_of m.files) m.keys (goal_table m.files m.libs m.command) m.files (bounds.start_of m.command entry)) linking.entry

is_slot : (m : ImageInputs) (image : List ℕ) (of : Imaged m image) (way : Way) (fixup : Fixup) → IsLinking m → Held image (addresses_of of.layout.placed) (fixup_at image fixup.address) fixup.goal fixup.addend → In fixup (slot_fixups (start_of (starts_of of.layout.sections) way) (goals_for m.slots way)) → IsSlotOf m.command m.libs m.files m.keys image (addresses_of of.layout.placed) fixup.address
is_slot m image of way fixup linking held h =
    let slot = slot_behind m of.layout way fixup h in
    let one = unit_need m way fixup.goal linking (slot.number, slot.within, slot.goal) in
    let addend = slot_addend (start_of (starts_of of.layout.sections) way) (goals_for m.slots way) fixup h in
    record {
      need = one.0;
      needed = subst (λ (all : List Need). Contains all one.0) (needs_same m linking) (Contains_from_in (all_needs m) one.0 one.1);
      held =
          subst (λ (g : Goal). Held image (addresses_of of.layout.placed) (fixup_at image fixup.address) g (pos 0)) (sym one.2)
          (subst (λ (z : ℤ). Held image (addresses_of of.layout.placed) (fixup_at image fixup.address) fixup.goal z) addend held);
    }

-- ---- pointers

pointer_kind : (kind : RefKind) → IsPointerKind kind → (kind ≡ Pointer) ⊎ (kind ≡ GotPointer)
pointer_kind Pointer is = inl refl
pointer_kind GotPointer is = inr refl
pointer_kind Diff32 is = absurd is
pointer_kind Diff64 is = absurd is
pointer_kind Branch is = absurd is
pointer_kind Page is = absurd is
pointer_kind PageOff is = absurd is
pointer_kind GotPage is = absurd is
pointer_kind GotPageOff is = absurd is
pointer_kind GotDelta is = absurd is
pointer_kind TlvPage is = absurd is
pointer_kind TlvPageOff is = absurd is

is_pointer : (m : ImageInputs) (image : List ℕ) (of : Imaged m image) (row : PlacedWork) (fixup : Fixup) → IsLinking m → AreRising m → In row (rows_of m of.layout) → In fixup (row_fixups (scene_of m of.layout) row) → IsPointerOf m.files m.keys (addresses_of of.layout.placed) fixup.address
is_pointer m image of row fixup linking rising h among =
    let laid = of.is_image.laid in
    let behind = pointer_behind (scene_of m of.layout) of.chains row fixup among in
    let is : IsRowRef m row behind.0 = row_ref m of.layout row behind.0 linking rising laid h behind.1.among in
    record {
      file = is.file;
      reference = behind.0;
      kept = record {
        loaded = Contains_from_in m.files is.file (in_slice m.files row.file is.file is.kept.there);
        of_file = Contains_from_in is.file.refs behind.0 is.kept.among;
        kept = Contains_from_in m.keys behind.0.atom (kept_key_in m.keys behind.0.atom is.kept.kept);
      };
      kind = pointer_kind behind.0.kind behind.1.pointer;
      atom = row.address;
      stands = address_found of.layout.placed behind.0.atom ∙ ap (address_in of.layout.placed) is.key ∙ (row_in m of.layout row rising laid h).stood;
      at = behind.1.at;
    }

-- ---- all addresses

pub is_filled_in : (m : ImageInputs) (image : List ℕ) (of : Imaged m image) → IsLinking m → AreRising m → (address : ℕ) → IsFilledIn m.command m.libs m.files m.keys image (addresses_of of.layout.placed) address
is_filled_in m image of linking rising address = by (find test of.fixups) refl
  where
    test : Fixup → Bool
    test fixup = fixup.address == address

    fillable : AreFillable (scene_of m of.layout) of.fixups
    fillable = are_fillable m image of linking rising

    filled : (fixup : Fixup) → Contains of.fixups fixup → IsFilledIn m.command m.libs m.files m.keys image (addresses_of of.layout.placed) fixup.address
    filled fixup there = inr (not_broken image (addresses_of of.layout.placed) (fixup_at image fixup.address) fixup.goal fixup.addend held, from (pointer_of m image of fixup there))
      where
        held : Held image (addresses_of of.layout.placed) (fixup_at image fixup.address) fixup.goal fixup.addend
        held = pointers_held m image of fixup linking.solid.whole rising fillable there

        from : IsOfImage m image of fixup → IsPointerOf m.files m.keys (addresses_of of.layout.placed) fixup.address ⊎ IsSlotOf m.command m.libs m.files m.keys image (addresses_of of.layout.placed) fixup.address
        from (of_slot way slots h) = inr (is_slot m image of way fixup linking held h)
        from (of_atom row h among) = inl (is_pointer m image of row fixup linking rising h among)

    by : (o : Option Fixup) → find test of.fixups ≡ o → IsFilledIn m.command m.libs m.files m.keys image (addresses_of of.layout.placed) address
    by None e =
        inl (others_plain m image of address linking.solid.whole rising fillable
        (λ fixup there same. false≢true (sym (find_none test of.fixups fixup e (in_from_Contains of.fixups fixup there)) ∙ eq-eqb fixup.address address same)))
    by (Some fixup) e =
        let found = find_some test of.fixups fixup e in
        let same : fixup.address ≡ address = eqb-true fixup.address address found.1 in
        subst (λ (n : ℕ). IsFilledIn m.command m.libs m.files m.keys image (addresses_of of.layout.placed) n) same (filled fixup (Contains_from_in of.fixups fixup found.0))

-- ---- of files

pub linking : (command : Command) (libs : LibraryGraph) (files : List LoadedFile) (image : List ℕ) (is : IsImageOf command libs files image) → AreOrdered files → AreWhole files → AreNamed command libs files → IsLinking (made_of is)
linking command libs files image is ordered whole named = linking_of command libs files is.symbols is.keys is.slots is.info ordered whole named is.inside

pub all_filled : (command : Command) (libs : LibraryGraph) (files : List LoadedFile) (image : List ℕ) (is : IsImageOf command libs files image) → AreOrdered files → AreWhole files → AreNamed command libs files → (address : ℕ) → IsFilledIn command libs files is.keys image (addresses_of is.imaged.layout.placed) address
unfolding making
all_filled command libs files image is ordered whole named address = is_filled_in (made_of is) image is.imaged (linking command libs files image is ordered whole named) is.rising address

pub fillable : (command : Command) (libs : LibraryGraph) (files : List LoadedFile) (image : List ℕ) (is : IsImageOf command libs files image) → AreOrdered files → AreWhole files → AreNamed command libs files → AreFillable (scene_of (made_of is) is.imaged.layout) is.imaged.fixups
fillable command libs files image is ordered whole named = are_fillable (made_of is) image is.imaged (linking command libs files image is ordered whole named) is.rising

pub stubs_slots : (command : Command) (libs : LibraryGraph) (files : List LoadedFile) (image : List ℕ) (is : IsImageOf command libs files image) → AreOrdered files → AreWhole files → AreNamed command libs files → StubsHaveSlots is.slots
unfolding making
stubs_slots command libs files image is ordered whole named = stubs_have_slots (made_of is) (linking command libs files image is ordered whole named)

-- a program whose entry another image has begins at a stub
pub entry_needed : (command : Command) (libs : LibraryGraph) (files : List LoadedFile) (image : List ℕ) (is : IsImageOf command libs files image) → AreOrdered files → AreWhole files → AreNamed command libs files → command.dylib ≡ false → is_outer (goal_of_name files libs command command.entry) ≡ true
    → HasAddress (scene_of (made_of is) is.imaged.layout) (Some Stub) (goal_of_name files libs command command.entry)
unfolding making
entry_needed command libs files image is ordered whole named program outer =
    entry_stub (made_of is) is.imaged.layout (linking command libs files image is ordered whole named) is.imaged.is_image.laid program outer
