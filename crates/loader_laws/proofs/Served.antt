-- The image has what the fields of its references are told from.
use Rattle.std.proofs.Common.{◌≡◌, ℕ, ◌&&◌, Bool, true, false, not, Option, Some, None, inl, inr, refl, sym, ap, ◌∙◌, subst, if◌then◌else◌}
use Rattle.std.proofs.lemmas.Bool.{and_parts, cases_Bool, false≢true}
use Rattle.list_lemmas.proofs.Members.{In}
use Rattle.image_read.specs.Reaches.{is_looked_up, is_zero}
use Rattle.liveness.specs.Undefined.{targets_of}
use Rattle.mo_types.specs.declared.goal.Goal.{Goal}
use Rattle.mo_types.specs.declared.goal.Goal.TheVariants.{Def, WeakSelf, Header, Import, Flat, Nobody}
use Rattle.mo_types.specs.declared.loaded.LoadedFile.{LoadedFile}
use Rattle.mo_types.specs.declared.reference.Ref.{Ref}
use Rattle.mo_types.specs.declared.reference.RefKind.{RefKind}
use Rattle.mo_types.specs.declared.reference.RefKind.TheVariants.{Pointer, Diff32, Diff64, Branch, Page, PageOff, GotPage, GotPageOff, GotDelta, GotPointer, TlvPage, TlvPageOff}
use Rattle.mo_types.specs.declared.reference.Target.{Target}
use Rattle.patch.specs.declared.range.PlacedWork.{PlacedWork}
use Rattle.ref_meet.specs.Scene.{refs_of}
use Rattle.ref_meet.specs.Template.{holds_offset, is_descriptor, leads_to_template}
use Rattle.sect_place.specs.declared.layout.Layout.{Layout}
use Rattle.slot_needs.specs.Needs.{is_outer, way_of}
use Rattle.slot_needs.specs.Unmet.{tells_address}
use Rattle.slot_plan.specs.declared.need.Way.{Way}
use Rattle.slot_plan.specs.declared.need.Way.TheVariants.{Got, Stub, Tlv}
use Rattle.image_make.specs.Made.{IsLaid, ImageInputs, rows_of, scene_of}
use Rattle.image_laws.specs.Means.{AreRising}
use Rattle.image_laws.specs.References.{HasAddress, HasEnd, HasOffset, IsServed, IsServedBy}
use Rattle.link_files.proofs.Refs.{HasMinus, HasMinusBy, IsRead, IsTargetOf}
use Rattle.loader_laws.proofs.Needed.{is_needed, unit_stands}
use Rattle.loader_laws.proofs.Offsets.{template_has}
use Rattle.loader_laws.proofs.Placing.{IsLinking}
use Rattle.loader_laws.proofs.RowRefs.{IsRowRef, first_target, row_ref}
use Rattle.loader_laws.proofs.Targets.{IsKeptRef, leads, scene_leads, target_own, target_reached}

-- a reference of a kept atom, as it was read, in an image
record IsKnown (m : ImageInputs) (layout : Layout) (at : ℕ) (file : LoadedFile) (r : Ref) : Type 0 where
  pub linking : IsLinking m
  pub rising : AreRising m
  pub laid : IsLaid m layout
  pub kept : IsKeptRef m at file r
  pub read : IsRead file.object file.id r

-- ---- addresses

-- one that tells an address has that of each of its targets
target_stands : (m : ImageInputs) (layout : Layout) (at : ℕ) (file : LoadedFile) (r : Ref) (target : Target) → IsKnown m layout at file r → tells_address r.kind r.addend ≡ true → In target (targets_of r.target r.minus) → IsTargetOf file.object file.id target → HasAddress (scene_of m layout) None (leads m file target)
target_stands m layout at file r target is tells among there =
    (target_reached m layout at file r target is.linking is.rising is.laid is.kept among there).stands (target_own m at file r target is.linking is.kept tells among there)

-- and one that needs a slot or a stub has it
way_stands : (m : ImageInputs) (layout : Layout) (at : ℕ) (file : LoadedFile) (r : Ref) (way : Way) → IsKnown m layout at file r → way_of r.kind r.addend (leads m file r.target) ≡ Some way → HasAddress (scene_of m layout) (Some way) (leads m file r.target)
way_stands m layout at file r way is e = unit_stands m layout way (leads m file r.target) is.linking is.laid (is_needed m at file r way is.linking is.kept e)

-- ---- branches

not_looked_up : (goal : Goal) → is_looked_up goal ≡ false → is_outer goal ≡ false
not_looked_up (Def key offset) e = refl
not_looked_up (WeakSelf name key offset) e = refl
not_looked_up Header e = refl
not_looked_up (Import name ordinal by_weak optional) e = absurd (false≢true (sym e))
not_looked_up (Flat name) e = absurd (false≢true (sym e))
not_looked_up Nobody e = refl

branch_served : (m : ImageInputs) (layout : Layout) (at : ℕ) (file : LoadedFile) (r : Ref) → IsKnown m layout at file r → r.kind ≡ Branch → HasAddress (scene_of m layout) (way_of Branch r.addend (leads m file r.target)) (leads m file r.target)
branch_served m layout at file r is kind = by (is_looked_up goal && is_zero r.addend) refl
  where
    goal : Goal
    goal = leads m file r.target

    own : (is_looked_up goal && is_zero r.addend) ≡ false → is_outer goal ≡ false
    own e = elim (cases_Bool (is_zero r.addend)) [
      | inl zero ↦ not_looked_up goal (plain (is_looked_up goal) (is_zero r.addend) e zero)
      | inr more ↦ target_own m at file r r.target is.linking is.kept (ap (λ (k : RefKind). tells_address k r.addend) kind ∙ ap not more) (first_target r) is.read.target
    ]
      where
        plain : (a b : Bool) → (a && b) ≡ false → b ≡ true → a ≡ false
        plain true b f g = sym g ∙ f
        plain false b f g = refl

    by : (b : Bool) → (is_looked_up goal && is_zero r.addend) ≡ b → HasAddress (scene_of m layout) (if b then Some Stub else None) goal
    by true e = way_stands m layout at file r Stub is (ap (λ (k : RefKind). way_of k r.addend goal) kind ∙ ap (λ (b : Bool). if b then Some Stub else None) e)
    by false e = (target_reached m layout at file r r.target is.linking is.rising is.laid is.kept (first_target r) is.read.target).stands (own e)

-- ---- differences

second_target : (r : Ref) (target : Target) → r.minus ≡ Some target → In target (targets_of r.target r.minus)
second_target r target e = subst (λ (o : Option Target). In target (targets_of r.target o)) (sym e) (inr (inl refl))

end_served : (m : ImageInputs) (layout : Layout) (at : ℕ) (file : LoadedFile) (r : Ref) → IsKnown m layout at file r → tells_address r.kind r.addend ≡ true → HasMinus file.object file.id r.minus → HasEnd (scene_of m layout) at r.minus
end_served m layout at file r is tells has = by r.minus refl has
  where
    by : (minus : Option Target) → r.minus ≡ minus → HasMinus file.object file.id minus → HasEnd (scene_of m layout) at minus
    by None e none = absurd none
    by (Some target) e there =
        subst (HasAddress (scene_of m layout) None) (sym (scene_leads m layout at file target is.linking is.kept.there))
        (target_stands m layout at file r target is tells (second_target r target e) there)

-- ---- all kinds

own_served : (m : ImageInputs) (layout : Layout) (at : ℕ) (file : LoadedFile) (r : Ref) → IsKnown m layout at file r → tells_address r.kind r.addend ≡ true → HasAddress (scene_of m layout) None (leads m file r.target)
own_served m layout at file r is tells = target_stands m layout at file r r.target is tells (first_target r) is.read.target

pointer_served : (m : ImageInputs) (layout : Layout) (row : PlacedWork) (file : LoadedFile) (r : Ref) → IsKnown m layout row.file file r → (b : Bool) → holds_offset m.files row (leads m file r.target) ≡ b → HasOffset b (scene_of m layout) (leads m file r.target)
pointer_served m layout row file r is false e = tt
pointer_served m layout row file r is true e =
    let template = (and_parts (is_descriptor m.files row) (leads_to_template m.files (leads m file r.target)) e).1 in
    template_has m layout (leads m file r.target) is.linking is.rising is.laid template
    (λ outer. (target_reached m layout row.file file r r.target is.linking is.rising is.laid is.kept (first_target r) is.read.target).stands outer)

served_by : (kind : RefKind) (m : ImageInputs) (layout : Layout) (row : PlacedWork) (file : LoadedFile) (r : Ref) → IsKnown m layout row.file file r → r.kind ≡ kind → HasMinusBy kind file.object file.id r.minus → IsServedBy kind (scene_of m layout) row r (leads m file r.target)
served_by Pointer m layout row file r is kind minus = pointer_served m layout row file r is (holds_offset m.files row (leads m file r.target)) refl
served_by GotPointer m layout row file r is kind minus = way_stands m layout row.file file r Got is (ap (λ (k : RefKind). way_of k r.addend (leads m file r.target)) kind)
served_by Diff32 m layout row file r is kind minus =
    let tells = ap (λ (k : RefKind). tells_address k r.addend) kind in
    (own_served m layout row.file file r is tells, end_served m layout row.file file r is tells minus)
served_by Diff64 m layout row file r is kind minus =
    let tells = ap (λ (k : RefKind). tells_address k r.addend) kind in
    (own_served m layout row.file file r is tells, end_served m layout row.file file r is tells minus)
served_by Branch m layout row file r is kind minus = branch_served m layout row.file file r is kind
served_by Page m layout row file r is kind minus = own_served m layout row.file file r is (ap (λ (k : RefKind). tells_address k r.addend) kind)
served_by PageOff m layout row file r is kind minus = own_served m layout row.file file r is (ap (λ (k : RefKind). tells_address k r.addend) kind)
served_by GotPage m layout row file r is kind minus = way_stands m layout row.file file r Got is (ap (λ (k : RefKind). way_of k r.addend (leads m file r.target)) kind)
served_by GotPageOff m layout row file r is kind minus = way_stands m layout row.file file r Got is (ap (λ (k : RefKind). way_of k r.addend (leads m file r.target)) kind)
served_by GotDelta m layout row file r is kind minus = way_stands m layout row.file file r Got is (ap (λ (k : RefKind). way_of k r.addend (leads m file r.target)) kind)
served_by TlvPage m layout row file r is kind minus = way_stands m layout row.file file r Tlv is (ap (λ (k : RefKind). way_of k r.addend (leads m file r.target)) kind)
served_by TlvPageOff m layout row file r is kind minus = way_stands m layout row.file file r Tlv is (ap (λ (k : RefKind). way_of k r.addend (leads m file r.target)) kind)

pub is_served : (m : ImageInputs) (layout : Layout) (row : PlacedWork) (r : Ref) → IsLinking m → AreRising m → IsLaid m layout → In row (rows_of m layout) → In r (refs_of m.files row) → IsServed m layout row r
is_served m layout row r linking rising laid h among =
    let is : IsRowRef m row r = row_ref m layout row r linking rising laid h among in
    let known : IsKnown m layout row.file is.file r = record { linking = linking; rising = rising; laid = laid; kept = is.kept; read = is.read } in
    subst (λ (goal : Goal). IsServedBy r.kind (scene_of m layout) row r goal) (sym (scene_leads m layout row.file is.file r.target linking is.kept.there))
    (served_by r.kind m layout row is.file r known refl is.read.minus)
