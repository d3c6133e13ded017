-- What the loader fills in it can: each pointer's goal has a name of its own and a library that may be told, and an address
-- or a look-up.
use Rattle.std.proofs.Common.{◌≡◌, ℕ, ◌<◌, ◌^◌, Bool, true, false, ℤ, pos, ◌-ℤ◌, List, Option, Some, None, Contains, FitsSigned, inl, inr, refl, sym, ap, ◌∙◌, subst, arith, if◌then◌else◌}
use Rattle.std.specs.Int.{w64}
use Rattle.std.specs.List.{enumerate_from}
use Rattle.std.proofs.lemmas.Bool.{false≢true}
use Rattle.list_lemmas.proofs.Members.{In, from_map}
use Rattle.chain_laws.specs.Carried.{HasOrdinal}
use Rattle.fixup_chain.specs.declared.chains.Fixup.{Fixup}
use Rattle.mo_types.specs.Goals.{name_of}
use Rattle.mo_types.specs.declared.goal.Goal.{Goal}
use Rattle.mo_types.specs.declared.goal.Goal.TheVariants.{Def, WeakSelf, Header, Import, Flat, Nobody}
use Rattle.mo_types.specs.declared.loaded.LoadedFile.{LoadedFile}
use Rattle.mo_types.specs.declared.reference.Ref.{Ref}
use Rattle.mo_types.specs.declared.reference.RefKind.{RefKind}
use Rattle.mo_types.specs.declared.reference.RefKind.TheVariants.{Pointer, Diff32, Diff64, Branch, Page, PageOff, GotPage, GotPageOff, GotDelta, GotPointer, TlvPage, TlvPageOff}
use Rattle.mo_types.specs.declared.reference.Target.{Target}
use Rattle.mo_types.specs.declared.unwind.Unwind.{Unwind}
use Rattle.patch.specs.declared.range.PlacedWork.{PlacedWork}
use Rattle.ref_meet.specs.Addresses.{address_by}
use Rattle.ref_meet.specs.Pointers.{fixup_of, fixup_to, pointee, pointee_by, slot_fixup, slot_fixups}
use Rattle.ref_meet.specs.Scene as scenes
use Rattle.ref_meet.specs.Scene.{Scene}
use Rattle.ref_meet.specs.Template.{holds_offset}
use Rattle.ref_meet.specs.declared.pointers.Pointee.{Pointee}
use Rattle.reader_laws.specs.Facts.{HasNoNul}
use Rattle.sect_place.specs.Layout.{base_of}
use Rattle.sect_place.specs.declared.layout.Layout.{Layout}
use Rattle.slot_needs.specs.Needs.{is_outer}
use Rattle.slot_place.specs.Places.{goals_for, start_of, starts_of}
use Rattle.slot_plan.specs.declared.need.Way.{Way}
use Rattle.slot_plan.specs.declared.need.Way.TheVariants.{Got}
use Rattle.image_make.specs.Made.{IsLaid, ImageInputs, rows_of, scene_of}
use Rattle.image_make.proofs.RoomLemmas.{base_small}
use Rattle.image_laws.specs.Means.{AreRising, Imaged}
use Rattle.image_laws.specs.References.{AreFillable, HasAddress, IsFillable, IsHoldable}
use Rattle.image_laws.proofs.Layouts.{own_is}
use Rattle.image_laws.proofs.Pointing.{IsOfImage, of_atom, of_slot, own_low, pointer_behind, pointer_of, slot_behind}
use Rattle.image_laws.proofs.Units.{unit_found}
use Rattle.link_files.proofs.Lists.{from_mapped, in_slice, no_some, some_is}
use Rattle.loader_laws.proofs.Addends.{distance_fits, fits_none, ref_fits}
use Rattle.loader_laws.proofs.Called.{IsCalled, entry_called, no_name, target_called}
use Rattle.loader_laws.proofs.Handlers.{IsHandler, handler_reached, handler_target}
use Rattle.loader_laws.proofs.Needed.{IsNeededBy, by_entry, by_handler, by_reference, needed_by, unit_need}
use Rattle.loader_laws.proofs.Placing.{IsLinking}
use Rattle.loader_laws.proofs.RowRefs.{IsRowRef, first_target, kept_read, row_ref, whole_at}
use Rattle.loader_laws.proofs.Targets.{IsKeptRef, IsReached, leads, scene_leads, target_reached}

-- ---- goals

-- a goal that can be told and held
pub record IsGood (m : ImageInputs) (layout : Layout) (goal : Goal) : Type 0 where
  pub called : IsCalled goal
  pub holdable : IsHoldable (scene_of m layout) goal

holds : (m : ImageInputs) (layout : Layout) (goal : Goal) → IsReached m layout goal → IsHoldable (scene_of m layout) goal
holds m layout (Def key offset) is = inr (is.stands refl)
holds m layout (WeakSelf name key offset) is = inl refl
holds m layout Header is = inr (is.stands refl)
holds m layout (Import name ordinal by_weak optional) is = inl refl
holds m layout (Flat name) is = inl refl
holds m layout Nobody is = absurd (false≢true (sym is.somebody))

outer_holds : (m : ImageInputs) (layout : Layout) (goal : Goal) → is_outer goal ≡ true → IsHoldable (scene_of m layout) goal
outer_holds m layout (Import name ordinal by_weak optional) outer = inl refl
outer_holds m layout (Flat name) outer = inl refl
outer_holds m layout (Def key offset) outer = absurd (false≢true outer)
outer_holds m layout (WeakSelf name key offset) outer = absurd (false≢true outer)
outer_holds m layout Header outer = absurd (false≢true outer)
outer_holds m layout Nobody outer = absurd (false≢true outer)

good_target : (m : ImageInputs) (layout : Layout) (at : ℕ) (file : LoadedFile) (r : Ref) → IsLinking m → AreRising m → IsLaid m layout → IsKeptRef m at file r → IsGood m layout (leads m file r.target)
good_target m layout at file r linking rising laid is =
    let read = kept_read m at file r linking is in
    record {
      called = target_called m file r.target linking (in_slice m.files at file is.there) read.target;
      holdable = holds m layout (leads m file r.target) (target_reached m layout at file r r.target linking rising laid is (first_target r) read.target);
    }

good_handler : (m : ImageInputs) (layout : Layout) (at : ℕ) (file : LoadedFile) (unwind : Unwind) (target : Target) → IsLinking m → AreRising m → IsLaid m layout → IsHandler m at file unwind target → IsGood m layout (leads m file target)
good_handler m layout at file unwind target linking rising laid is = record {
  called = target_called m file target linking (in_slice m.files at file is.there) (handler_target m at file unwind target linking is);
  holdable = holds m layout (leads m file target) (handler_reached m layout at file unwind target linking rising laid is);
}

good_needed : (m : ImageInputs) (layout : Layout) (goal : Goal) → IsLinking m → AreRising m → IsLaid m layout → IsNeededBy m goal → IsGood m layout goal
good_needed m layout goal linking rising laid (by_reference at file r is same) = subst (IsGood m layout) same (good_target m layout at file r linking rising laid is)
good_needed m layout goal linking rising laid (by_handler handled) = subst (IsGood m layout) handled.leads_to (good_handler m layout handled.at handled.file handled.unwind handled.target linking rising laid handled.is)
good_needed m layout goal linking rising laid (by_entry outer same) = subst (IsGood m layout) same (record { called = entry_called m linking; holdable = outer_holds m layout m.entry outer })

-- what has a slot
pub good_unit : (m : ImageInputs) (layout : Layout) (way : Way) (goal : Goal) → IsLinking m → AreRising m → IsLaid m layout → Contains (goals_for m.slots way) goal → IsGood m layout goal
good_unit m layout way goal linking rising laid h =
    let of = unit_need m way goal linking h in
    subst (IsGood m layout) of.2 (good_needed m layout of.0.goal linking rising laid (needed_by m of.0 linking of.1))

-- ---- slots

pub slot_addend : (start : Option ℕ) (goals : List Goal) (fixup : Fixup) → In fixup (slot_fixups start goals) → fixup.addend ≡ pos 0
unfolding slot_fixups
slot_addend None goals fixup h = absurd h
slot_addend (Some at) goals fixup h =
    let from : (p : ℕ × Goal) × In p (enumerate_from 0 goals) × (slot_fixup at p ≡ fixup) = from_map (slot_fixup at) (enumerate_from 0 goals) fixup h in
    ap (λ (f : Fixup). f.addend) (sym from.2)

slot_fillable : (m : ImageInputs) (layout : Layout) (way : Way) (fixup : Fixup) → IsLinking m → AreRising m → IsLaid m layout → In fixup (slot_fixups (start_of (starts_of layout.sections) way) (goals_for m.slots way)) → IsFillable (scene_of m layout) fixup
slot_fillable m layout way fixup linking rising laid h =
    let slot = slot_behind m layout way fixup h in
    let good = good_unit m layout way fixup.goal linking rising laid (slot.number, slot.within, slot.goal) in
    let addend = slot_addend (start_of (starts_of layout.sections) way) (goals_for m.slots way) fixup h in
    record {
      name = good.called.name;
      ordinal = good.called.ordinal;
      addend = subst (λ (z : ℤ). FitsSigned w64 z) (sym addend) fits_none;
      goal = good.holdable;
    }

-- ---- pointers of atoms

-- a pointer leads to the goal of its reference, or to that goal's slot
data IsPointee (scene : Scene) (goal : Goal) (addend : ℤ) (p : Pointee) : Type 0 where
  to_goal : p.goal ≡ goal → p.addend ≡ addend → IsPointee scene goal addend p
  to_slot : (slot : ℕ) → address_by scene (Some Got) goal ≡ Some slot → p.goal ≡ Header → p.addend ≡ pos slot -ℤ pos scene.base → IsPointee scene goal addend p

is_pointee : (kind : RefKind) (scene : Scene) (row : PlacedWork) (goal : Goal) (addend : ℤ) (p : Pointee) → pointee_by kind scene row goal addend ≡ Some p → IsPointee scene goal addend p
is_pointee Pointer scene row goal addend p e = by (holds_offset scene.files row goal) e
  where
    one : Pointee
    one = record { goal = goal; addend = addend }

    by : (b : Bool) → (if b then None else Some one) ≡ Some p → IsPointee scene goal addend p
    by true f = no_some p f
    by false f = let same = some_is one p f in to_goal (ap (λ (q : Pointee). q.goal) (sym same)) (ap (λ (q : Pointee). q.addend) (sym same))
is_pointee GotPointer scene row goal addend p e =
    let of = from_mapped (λ (slot : ℕ). let q : Pointee = record { goal = Header; addend = pos slot -ℤ pos scene.base } in q) (address_by scene (Some Got) goal) p e in
    to_slot of.0 of.1 (ap (λ (q : Pointee). q.goal) (sym of.2)) (ap (λ (q : Pointee). q.addend) (sym of.2))
is_pointee Diff32 scene row goal addend p e = no_some p e
is_pointee Diff64 scene row goal addend p e = no_some p e
is_pointee Branch scene row goal addend p e = no_some p e
is_pointee Page scene row goal addend p e = no_some p e
is_pointee PageOff scene row goal addend p e = no_some p e
is_pointee GotPage scene row goal addend p e = no_some p e
is_pointee GotPageOff scene row goal addend p e = no_some p e
is_pointee GotDelta scene row goal addend p e = no_some p e
is_pointee TlvPage scene row goal addend p e = no_some p e
is_pointee TlvPageOff scene row goal addend p e = no_some p e

-- a slot stands low
slot_low : (m : ImageInputs) (layout : Layout) (goal : Goal) (slot : ℕ) → IsLaid m layout → address_by (scene_of m layout) (Some Got) goal ≡ Some slot → slot < 2 ^ 63
unfolding address_by
slot_low m layout goal slot laid e =
    let unit = unit_found m layout Got goal slot e in
    let ends = own_low m layout Got unit.placed laid unit.section in
    let sized = (own_is m layout Got unit.placed laid unit.section).sized in
    let within = unit.within in
    let stands = unit.stands in
    omega (arith, ends, sized, within, stands)

header_stands : (m : ImageInputs) (layout : Layout) → HasAddress (scene_of m layout) None Header
unfolding address_by
header_stands m layout = refl

slot_pointee_fillable : (m : ImageInputs) (layout : Layout) (goal : Goal) (slot : ℕ) (fixup : Fixup) → IsLaid m layout → address_by (scene_of m layout) (Some Got) goal ≡ Some slot → fixup.goal ≡ Header → fixup.addend ≡ pos slot -ℤ pos (base_of m.command) → IsFillable (scene_of m layout) fixup
slot_pointee_fillable m layout goal slot fixup laid stands to addend =
    let low = slot_low m layout goal slot laid stands in
    let base = base_small m.command.dylib in
    record {
      name = subst (λ (g : Goal). HasNoNul (name_of g)) (sym to) no_name;
      ordinal = subst HasOrdinal (sym to) tt;
      addend = subst (λ (z : ℤ). FitsSigned w64 z) (sym addend) (distance_fits slot (base_of m.command) low (omega (arith, base)));
      goal = subst (IsHoldable (scene_of m layout)) (sym to) (inr (header_stands m layout));
    }

atom_fillable : (m : ImageInputs) (layout : Layout) (row : PlacedWork) (r : Ref) (fixup : Fixup) → IsLinking m → AreRising m → IsLaid m layout → In row (rows_of m layout) → In r (scenes.refs_of m.files row) → fixup_of (scene_of m layout) row r ≡ Some fixup → IsFillable (scene_of m layout) fixup
unfolding fixup_of pointee
atom_fillable m layout row r fixup linking rising laid h among e = by (is_pointee r.kind scene row goal r.addend to.0 to.1)
  where
    scene : Scene
    scene = scene_of m layout

    goal : Goal
    goal = scenes.goal_of scene row.file r.target

    is : IsRowRef m row r
    is = row_ref m layout row r linking rising laid h among

    to : (p : Pointee) × (pointee scene row r ≡ Some p) × (fixup_to row r p ≡ fixup)
    to = from_mapped (fixup_to row r) (pointee scene row r) fixup e

    by : IsPointee scene goal r.addend to.0 → IsFillable scene fixup
    by (to_goal same addend) =
        let good = good_target m layout row.file is.file r linking rising laid is.kept in
        let own : leads m is.file r.target ≡ fixup.goal = sym (scene_leads m layout row.file is.file r.target linking is.kept.there) ∙ sym same ∙ ap (λ (f : Fixup). f.goal) to.2 in
        let of_fixup : IsGood m layout fixup.goal = subst (IsGood m layout) own good in
        let added : r.addend ≡ fixup.addend = sym addend ∙ ap (λ (f : Fixup). f.addend) to.2 in
        record {
          name = of_fixup.called.name;
          ordinal = of_fixup.called.ordinal;
          addend = subst (λ (z : ℤ). FitsSigned w64 z) added (ref_fits is.file.object is.file.id is.file.refs r (whole_at m row.file is.file linking is.kept.there).refs is.kept.among);
          goal = of_fixup.holdable;
        }
    by (to_slot slot stands header addend) =
        slot_pointee_fillable m layout goal slot fixup laid stands (ap (λ (f : Fixup). f.goal) (sym to.2) ∙ header) (ap (λ (f : Fixup). f.addend) (sym to.2) ∙ addend)

-- ---- all

pub are_fillable : (m : ImageInputs) (image : List ℕ) (of : Imaged m image) → IsLinking m → AreRising m → AreFillable (scene_of m of.layout) of.fixups
are_fillable m image of linking rising fixup there = by (pointer_of m image of fixup there)
  where
    by : IsOfImage m image of fixup → IsFillable (scene_of m of.layout) fixup
    by (of_slot way slots h) = slot_fillable m of.layout way fixup linking rising of.is_image.laid h
    by (of_atom row h among) =
        let behind = pointer_behind (scene_of m of.layout) of.chains row fixup among in
        atom_fillable m of.layout row behind.0 fixup linking rising of.is_image.laid h behind.1.among behind.1.is
