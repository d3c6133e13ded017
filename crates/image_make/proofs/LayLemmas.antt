-- Layouts with `__unwind_info`: entries have rows in them, and it has as many bytes as it is placed with.
use Rattle.std.proofs.Common.{◌≡◌, ◌≢◌, ℕ, ◌<◌, ◌≤◌, ◌^◌, List, [], ◌∷◌, length, map, replicate, Result, Ok, Err, inl, inr, refl, sym, ap, ◌∙◌, subst, arith}
use Rattle.std.specs.Prelude.{All, Contains, IfErr, IfOk}
use Rattle.std.specs.Result.{IsErr, IsErrAnd}
use Rattle.std.proofs.lemmas.Bool.{false≢true}
use Rattle.std.proofs.lemmas.Cmp.{nat_cmp_total, on_total}
use Rattle.std.proofs.lemmas.List.{length-replicate}
use Rattle.std.proofs.lemmas.List.Sorted.{Contains-permutation, IsNonDecreasingBy-from_sort}
use Rattle.list_lemmas.proofs.Members.{Contains_from_in, in_from_Contains}
use Rattle.fixup_chain.specs.Chained.{AreMany}
use Rattle.sort_lemmas.proofs.Sorting.{sorted_exists}
use Rattle.load_cmds.specs.Sizes.{other_size}
use Rattle.mo_types.specs.Loaded.{IsWholeLoaded}
use Rattle.mo_types.specs.declared.atom.Atom.{Atom}
use Rattle.mo_types.specs.declared.out_section.OutSection.{OutSection}
use Rattle.ref_meet.specs.Scene.{Scene}
use Rattle.sect_list.specs.OutSections.{out_sections}
use Rattle.sect_list.proofs.Once.{listed_once}
use Rattle.sect_place.specs.Addresses.{AreOnce}
use Rattle.sect_place.specs.Layout.{IsTooLarge, base_of, image_sections, image_size, plan_of}
use Rattle.sect_place.specs.Places.{spaced}
use Rattle.sect_place.specs.Whole.{IsWholeLayout}
use Rattle.sect_place.specs.declared.layout.Layout.{Layout}
use Rattle.sect_place.specs.declared.layout.PlacedSection.{PlacedSection}
use Rattle.sect_place.proofs.Meaning.{sections_aligned}
use Rattle.sect_place.proofs.Single.{layout_rises}
use Rattle.slot_place.specs.Places.{HaveRoom, starts_of}
use Rattle.slot_place.proofs.ReachLemmas.{AreWithin, have_room, within}
use Rattle.tlv_plan.specs.Template.{atoms_of}
use Rattle.unwind_link.specs.Rows.{AreRows, AreSpread, row_of}
use Rattle.unwind_link.specs.declared.kept.KeptUnwind.{KeptUnwind}
use Rattle.unwind_link.proofs.ApartLemmas.{rows_apart}
use Rattle.unwind_link.proofs.SizeLemmas.{sizes}
use Rattle.unwind_out.specs.Pages.{IsSection, IsSizeOf}
use Rattle.unwind_out.specs.Table.{AreApart, end_of, lsdas_of, personalities}
use Rattle.unwind_out.specs.declared.row.UnwindRow.{UnwindRow}
use Rattle.unwind_out.proofs.One.{section_there}
use Rattle.unwind_out.proofs.Sizes.{length-section}
use Rattle.image_make.specs.Atoms.{AreLow, AreRising, atom_of}
use Rattle.image_make.specs.Frames.{HaveFrames}
use Rattle.image_make.specs.Near.{AreNear}
use Rattle.image_make.specs.Made.{HoldsRows, ImageInputs, IsFirstInfo, IsInfo, IsLaid, IsMade, IsMadeWith, binds_of, kept_of, least_info, plan_with, scene_of, sizes_of, with_info}
use Rattle.image_make.specs.Parts.{parts_there}
use Rattle.image_make.specs.declared.fault.MakeFault.{MakeFault}
use Rattle.image_make.specs.declared.fault.MakeFault.TheVariants.{Place, Range, OutOfMemory}
use Rattle.image_make.specs.declared.kept.KeptAtom.{KeptAtom}
use Rattle.image_make.specs.declared.laying.Laying.{Laying}
use Rattle.image_make.specs.inner.Filled.{IsLayFault, IsPlanFault}
use Rattle.image_make.specs.inner.Laid.{AreGood}
use Rattle.image_make.specs.inner.Laying.{AreReadyEntries, AreReadySections, IsFirstSize, IsInfoSize, IsPlacedWith, plan_sized}
use Rattle.image_make.proofs.FrameLemmas.{few, of_text, spread}
use Rattle.image_make.proofs.KeptListLemmas.{rising_atoms}
use Rattle.image_make.proofs.LaidLemmas.{low_atoms, once}
use Rattle.image_make.proofs.OwnLemmas.{have_atoms}
use Rattle.image_make.proofs.RoomLemmas.{base_small, whole_layout}
use Rattle.image_make.proofs.Rowed.{placed_once}

-- ---- placed with so many bytes

pub resized : (m : ImageInputs) (few many : ℕ) (layout : Layout) → few ≡ many → IsPlacedWith m few layout → IsPlacedWith m many layout
resized m few many layout same placed = subst (λ (n : ℕ). IsPlacedWith m n layout) same placed

pub once_with : (m : ImageInputs) (unwind : ℕ) (layout : Layout) → AreRising (kept_of m) → IsPlacedWith m unwind layout → AreOnce layout.placed
unfolding plan_with
once_with m unwind layout rising placed =
    let atoms = map atom_of (kept_of m) in
    once layout.placed (layout_rises atoms (out_sections m.files atoms) m.slots m.islands (sizes_of m.command m.libs unwind) m.command layout (listed_once m.files atoms (rising_atoms (kept_of m) rising)) placed.layout_of)

room_with : (m : ImageInputs) (unwind : ℕ) (layout : Layout) → IsPlacedWith m unwind layout → HaveRoom (starts_of layout.sections) m.slots
unfolding plan_with plan_of image_sections spaced atoms_of
room_with m unwind layout placed =
    let plan = plan_sized m unwind in
    let small = placed.small in
    have_room m.command m.slots layout.sections (subst (λ (there : List PlacedSection). AreWithin (base_of m.command) m.slots there) (sym placed.layout_of.sections)
    (within plan.atoms (base_of m.command) 0 plan.lead (out_sections m.files (map atom_of (kept_of m))) m.slots (sizes_of m.command m.libs unwind) (record { none = refl; have_atoms = have_atoms m.files (map atom_of (kept_of m)) }) (omega (arith, small)) (sections_aligned plan)))

-- the sections that list kept atoms
pub sections_ready : (m : ImageInputs) (kept : List KeptAtom) (atoms : List Atom) (sections : List OutSection) → IsWholeLoaded (record { files = m.files }) → AreRising (kept_of m) → AreLow (kept_of m) → HaveFrames m → kept ≡ kept_of m → atoms ≡ map atom_of kept → sections ≡ out_sections m.files atoms
    → (All (λ (atom : Atom). atom.align ≤ 14) atoms → All (λ (section : OutSection). section.align ≤ 14) sections) → AreReadySections m kept sections
sections_ready m kept atoms sections whole rising low frames is are listed fit = record {
  whole = whole;
  rising = rising;
  low = low;
  frames = frames;
  kept_are = is;
  sections_are = listed ∙ ap (out_sections m.files) are;
  fit = fit (subst (λ (xs : List Atom). All (λ (atom : Atom). atom.align ≤ 14) xs) (sym (are ∙ ap (map atom_of) is)) (low_atoms (kept_of m) low));
}

-- ---- entries have rows

frames_with : (m : ImageInputs) (info : List ℕ) → HaveFrames m → HaveFrames (with_info m info)
frames_with m info frames = record { kept = frames.kept; read = frames.read; handlers = frames.handlers; are_handlers = frames.are_handlers; few = frames.few }

spread_with : (m : ImageInputs) (info : List ℕ) (layout : Layout) → IsWholeLoaded (record { files = m.files }) → AreRising (kept_of m) → AreLow (kept_of m) → HaveFrames m → IsPlacedWith m (length info) layout → AreSpread (scene_of m layout) m.unwinds
spread_with m info layout whole rising low frames placed = spread (with_info m info) layout whole rising low (frames_with m info frames) placed.layout_of placed.small

pub entries_ready : (m : ImageInputs) (unwind : ℕ) (layout : Layout) → IsWholeLoaded (record { files = m.files }) → AreRising (kept_of m) → AreLow (kept_of m) → HaveFrames m → IsPlacedWith m unwind layout → AreReadyEntries (scene_of m layout) m.unwinds
entries_ready m unwind layout whole rising low frames placed = record {
  once = once_with m unwind layout rising placed;
  base = base_small m.command.dylib;
  room = room_with m unwind layout placed;
  spread = spread_with m (replicate unwind 0) layout whole rising low frames (resized m unwind (length (replicate unwind 0)) layout (sym (length-replicate {A = ℕ} unwind 0)) placed);
  few = λ rows are. few m layout rows frames are;
}

-- ---- a section of rows

pub some_rows : (scene : Scene) (unwinds : List KeptUnwind) (rows : List UnwindRow) → unwinds ≢ [] → AreRows scene unwinds rows → rows ≢ []
some_rows scene [] rows some are = absurd (some refl)
some_rows scene (entry ∷ more) rows some are = λ none.
    let row = row_of scene entry in
    let there = Contains-permutation (map (row_of scene) (entry ∷ more)) rows row are.each (Contains_from_in (map (row_of scene) (entry ∷ more)) row (inl refl)) in
    in_from_Contains [] row (subst (λ (rs : List UnwindRow). Contains rs row) none there)

-- it has so many bytes as each of these rows
pub info_sized : (scene : Scene) (unwinds : List KeptUnwind) (rows : List UnwindRow) (size : ℕ) → AreRows scene unwinds rows → AreApart rows → IsSizeOf rows size → IsInfoSize scene unwinds size
info_sized scene unwinds rows size are apart sized =
    let section = section_there rows in
    (section.0, record { rows = rows; are_rows = are; apart = apart; section = section.1 }, sized section.0 section.1)

pub some_info : (scene : Scene) (unwinds : List KeptUnwind) → AreReadyEntries scene unwinds → (info : List ℕ) × HoldsRows scene unwinds info
some_info scene unwinds ready =
    let sorted = sorted_exists (on_total (λ (row : UnwindRow). row.function) nat_cmp_total) (map (row_of scene) unwinds) in
    let are : AreRows scene unwinds sorted.0 = record { each = sorted.1; order = IsNonDecreasingBy-from_sort (λ (row : UnwindRow). row.function) sorted.0 sorted.2 } in
    let section = section_there sorted.0 in
    (section.0, record { rows = sorted.0; are_rows = are; apart = rows_apart scene unwinds sorted.0 ready.spread are; section = section.1 })

some_bytes : (rows : List UnwindRow) (info : List ℕ) → IsSection rows info → 0 < length info
some_bytes rows info is =
    let long = ap length is.spelled ∙ length-section (personalities rows) (lsdas_of rows) (end_of rows) is.pages in
    omega (arith, long)

-- ---- the bytes of `__unwind_info`

pub no_info : (scene : Scene) (unwinds : List KeptUnwind) → unwinds ≡ [] → IsInfo scene unwinds []
no_info scene [] none = refl
no_info scene (entry ∷ more) none = absurd cc

pub info_holds : (scene : Scene) (unwinds : List KeptUnwind) (info : List ℕ) → unwinds ≢ [] → HoldsRows scene unwinds info → IsInfo scene unwinds info
info_holds scene [] info some holds = absurd (some refl)
info_holds scene (entry ∷ more) info some holds = holds

holds_info : (scene : Scene) (unwinds : List KeptUnwind) (info : List ℕ) → unwinds ≢ [] → IsInfo scene unwinds info → HoldsRows scene unwinds info
holds_info scene [] info some is = absurd (some refl)
holds_info scene (entry ∷ more) info some is = is

least_one : (unwinds : List KeptUnwind) → unwinds ≢ [] → length (least_info unwinds) ≡ 1
least_one [] some = absurd (some refl)
least_one (entry ∷ more) some = refl

least_none : (unwinds : List KeptUnwind) → unwinds ≡ [] → length (least_info unwinds) ≡ 0
least_none [] none = refl
least_none (entry ∷ more) none = absurd cc

pub first_info : (m : ImageInputs) (layout : Layout) (info : List ℕ) → m.unwinds ≢ [] → IsPlacedWith m 1 layout → HoldsRows (scene_of m layout) m.unwinds info → IsFirstInfo m info
first_info m layout info some placed holds =
    let least = resized m 1 (length (least_info m.unwinds)) layout (sym (least_one m.unwinds some)) placed in
    record { layout = layout; layout_of = least.layout_of; small = least.small; holds = info_holds (scene_of m layout) m.unwinds info some holds }

-- placed with the bytes of an earlier placing's rows, it has room for its own
same_size : (m : ImageInputs) (info other : List ℕ) (layout : Layout) → IsWholeLoaded (record { files = m.files }) → AreRising (kept_of m) → HaveFrames m → m.unwinds ≢ [] → IsFirstInfo m info → IsPlacedWith m (length info) layout → HoldsRows (scene_of m layout) m.unwinds other → length info ≡ length other
unfolding plan_with
same_size m info other layout whole rising frames some first placed holds =
    let atoms = map atom_of (kept_of m) in
    let one = holds_info (scene_of m first.layout) m.unwinds info some first.holds in
    let least : IsPlacedWith m 1 first.layout = resized m (length (least_info m.unwinds)) 1 first.layout (least_one m.unwinds some) (record { layout_of = first.layout_of; small = first.small }) in
    sizes atoms (out_sections m.files atoms) m.islands m.command (other_size parts_there m.command m.libs) 1 (length info) (scene_of m first.layout) layout m.unwinds one.rows holds.rows info other
    (record {
      some = omega arith;
      more = some_bytes one.rows info one.section;
      once = listed_once m.files atoms (rising_atoms (kept_of m) rising);
      base = refl;
      first = least.layout_of;
      second = placed.layout_of;
    })
    (of_text m whole rising frames) one.are_rows holds.are_rows one.apart holds.apart one.section holds.section

-- ---- a layout

pub laid_with : (m : ImageInputs) (info other : List ℕ) (layout : Layout) → IsWholeLoaded (record { files = m.files }) → AreRising (kept_of m) → HaveFrames m → m.unwinds ≢ [] → IsFirstInfo m info → IsPlacedWith m (length info) layout → HoldsRows (scene_of m layout) m.unwinds other → IsLaid (with_info m other) layout
laid_with m info other layout whole rising frames some first placed holds =
    let own = resized m (length info) (length other) layout (same_size m info other layout whole rising frames some first placed holds) placed in
    record { layout_of = own.layout_of; small = own.small; unwinds = info_holds (scene_of m layout) m.unwinds other some holds }

pub laid_bare : (m : ImageInputs) (layout : Layout) → m.unwinds ≡ [] → IsPlacedWith m 0 layout → IsLaid (with_info m []) layout
laid_bare m layout none placed = record { layout_of = placed.layout_of; small = placed.small; unwinds = no_info (scene_of m layout) m.unwinds none }

-- ---- what is too large

too_large : (m : ImageInputs) (few many : ℕ) (fault : MakeFault) → few ≡ many → IsPlanFault (plan_sized m few) fault → IsPlanFault (plan_sized m many) fault
too_large m few many fault same large = subst (λ (n : ℕ). IsPlanFault (plan_sized m n) fault) same large

least_fault : (m : ImageInputs) (fault : MakeFault) → IsPlanFault (plan_sized m (length (least_info m.unwinds))) fault → IsLayFault m fault
least_fault m (Place fault) large = inl large
least_fault m (Range atom fault) large = large
least_fault m OutOfMemory large = tt

pub bare_fault : (m : ImageInputs) (fault : MakeFault) → m.unwinds ≡ [] → IsPlanFault (plan_sized m 0) fault → IsLayFault m fault
bare_fault m fault none large = least_fault m fault (too_large m 0 (length (least_info m.unwinds)) fault (sym (least_none m.unwinds none)) large)

pub first_fault : (m : ImageInputs) (fault : MakeFault) → m.unwinds ≢ [] → IsPlanFault (plan_sized m 1) fault → IsLayFault m fault
first_fault m fault some large = least_fault m fault (too_large m 1 (length (least_info m.unwinds)) fault (sym (least_one m.unwinds some)) large)

pub later_fault : (m : ImageInputs) (info : List ℕ) (size : ℕ) (fault : MakeFault) → IsFirstInfo m info → length info ≡ size → IsPlanFault (plan_sized m size) fault → IsLayFault m fault
later_fault m info size (Place fault) first long large = inr (info, first, subst (λ (n : ℕ). IsTooLarge (image_size (plan_sized m n)) fault) (sym long) large)
later_fault m info size (Range atom fault) first long large = large
later_fault m info size OutOfMemory first long large = tt

pub memory_fault : (m : ImageInputs) (fault : MakeFault) → fault ≡ OutOfMemory → IsLayFault m fault
memory_fault m fault is = subst (λ (why : MakeFault). IsLayFault m why) (sym is) tt

-- ---- what steps answer

pub first_sized : (m : ImageInputs) (layout : Layout) (answer : Result ℕ MakeFault) → m.unwinds ≢ [] → IsPlacedWith m 1 layout → IfOk answer (IsInfoSize (scene_of m layout) m.unwinds) → IfOk answer (IsFirstSize m)
first_sized m layout (Ok size) some placed (info, holds, long) = (info, first_info m layout info some placed holds, long)
first_sized m layout (Err fault) some placed sized = tt

pub no_memory : {X : Type 0} (m : ImageInputs) (answer : Result X MakeFault) → IfErr answer (λ fault. fault ≡ OutOfMemory) → IfErr answer (IsLayFault m)
no_memory m (Ok value) is = tt
no_memory m (Err fault) is = memory_fault m fault is

-- a fault that is passed on
pub residual_fault : {X : Type 0} (m : ImageInputs) (answer : Result X MakeFault) (fault : MakeFault) → IsLayFault m fault → IsErrAnd answer (λ why. why ≡ fault) → IfErr answer (IsLayFault m)
residual_fault m (Ok value) fault is passed = tt
residual_fault m (Err why) fault is passed = subst (λ (f : MakeFault). IsLayFault m f) (sym passed) is

pub wholes : (m : ImageInputs) (answer : Result Laying MakeFault) → IfOk answer (λ laying. IsLaid (with_info m laying.info) laying.layout) → IfOk answer (λ laying. IsWholeLayout laying.layout)
wholes m (Ok laying) laid = whole_layout (with_info m laying.info) laying.layout laid
wholes m (Err fault) laid = tt

pub onces : (m : ImageInputs) (answer : Result Laying MakeFault) → AreRising (kept_of m) → IfOk answer (λ laying. IsLaid (with_info m laying.info) laying.layout) → IfOk answer (λ laying. AreOnce laying.layout.placed)
onces m (Ok laying) rising laid = placed_once (with_info m laying.info) laying.layout rising laid
onces m (Err fault) rising laid = tt

-- ---- what is made

pub good_with : (m : ImageInputs) (info : List ℕ) → IsWholeLoaded (record { files = m.files }) → AreRising (kept_of m) → AreLow (kept_of m) → AreNear m → HaveFrames m → m.flags < 2 ^ 31 → ¬ AreMany (binds_of m) → AreGood (with_info m info)
good_with m info whole rising low near frames flags few = record {
  whole = whole;
  rising = rising;
  low = low;
  near = record { entry = near.entry; goals = near.goals; refs = near.refs };
  frames = frames_with m info frames;
  flags = flags;
  few = few;
}

lay_made : (m : ImageInputs) (fault : MakeFault) → IsLayFault m fault → IsMade m (Err fault)
lay_made m (Place fault) is = inl is
lay_made m (Range atom fault) is = absurd is
lay_made m OutOfMemory is = tt

-- a fault of laying out that is passed on
pub passed_on : (m : ImageInputs) (answer : Result (List ℕ) MakeFault) (fault : MakeFault) → IsLayFault m fault → IsErr answer → IsErrAnd answer (λ why. why ≡ fault) → IsMade m answer
passed_on m (Ok image) fault is error passed = absurd (false≢true error)
passed_on m (Err why) fault is error passed = subst (λ (f : MakeFault). IsMade m (Err f)) (sym passed) (lay_made m fault is)

pub made_by : (m : ImageInputs) (info : List ℕ) (result : Result (List ℕ) MakeFault) → IsMadeWith (with_info m info) result → IsMade m result
made_by m info (Ok image) is = (info, is)
made_by m info (Err (Place fault)) is = inr (info, is)
made_by m info (Err (Range atom fault)) is = (info, is)
made_by m info (Err OutOfMemory) is = tt
