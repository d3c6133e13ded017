-- What an image is bound to is known before it is laid out.
use Rattle.std.proofs.Common.{◌≡◌, ℕ, zero, suc, ◌+◌, ◌-ℤ◌, ◌++◌, ◌&&◌, Bool, true, false, List, [], ◌∷◌, map, Contains, Option, Some, None, ℤ, pos, All, refl, sym, ap, ◌∙◌, subst, inl, inr, arith, if◌then◌else◌}
use Rattle.std.specs.Prelude.{slice_get}
use Rattle.std.specs.List.{enumerate_from, filter, flat_map}
use Rattle.std.specs.Option.{option_map_or}
use Rattle.std.proofs.lemmas.List.Sorted.{Contains-permutation, IsPermutation-sym}
use Rattle.list_lemmas.proofs.Members.{Contains_from_in, In, from_filter_map, from_flat, from_map, in_either, in_filter, in_filter_map, in_flat, in_from_Contains, in_left, in_map, in_right}
use Rattle.fixup_chain.specs.Chained.{AreAmong, AreMany}
use Rattle.fixup_chain.specs.Imports.{is_bound}
use Rattle.fixup_chain.specs.declared.chains.Fixup.{Fixup}
use Rattle.fixup_chain.proofs.ManyLemmas.{more_are_many}
use Rattle.mark_core.specs.Kept.{has}
use Rattle.liveness.specs.Undefined.{kept_refs}
use Rattle.mo_types.specs.Loaded.{IsWholeFile}
use Rattle.mo_types.specs.declared.goal.Goal.{Goal}
use Rattle.mo_types.specs.declared.goal.Goal.TheVariants.{Header}
use Rattle.mo_types.specs.declared.key.AtomKey.{AtomKey}
use Rattle.mo_types.specs.declared.loaded.LoadedFile.{LoadedFile}
use Rattle.mo_types.specs.declared.reference.Ref.{Ref}
use Rattle.mo_types.specs.declared.reference.RefKind.{RefKind}
use Rattle.mo_types.specs.declared.reference.RefKind.TheVariants.{Pointer, Diff32, Diff64, Branch, Page, PageOff, GotPage, GotPageOff, GotDelta, GotPointer, TlvPage, TlvPageOff}
use Rattle.patch.specs.declared.range.PlacedWork.{PlacedWork}
use Rattle.patch.proofs.ChosenLemmas.{from_mapped}
use Rattle.resolve.specs.Goals.{target_goal}
use Rattle.slot_plan.specs.declared.need.Way.TheVariants.{Got}
use Rattle.slot_place.specs.Places.{starts_of}
use Rattle.ref_meet.specs.Addresses.{address_by}
use Rattle.ref_meet.specs.Template.{has_descriptors, holds_offset, is_descriptor, leads_to_template}
use Rattle.ref_meet.specs.Binds.{bind_by, bind_of, binds, binds_at, slot_bind, unplaced}
use Rattle.ref_meet.specs.Pointers.{AreFixups, all_fixups, fixup_of, fixup_to, pointee, pointee_by, pointee_of, row_fixups, slot_pointee, slot_fixup, slot_fixups}
use Rattle.ref_meet.specs.Scene.{Scene, goal_of, goals_at, refs_of}
use Rattle.ref_meet.specs.declared.pointers.Pointee.{Pointee}
use Rattle.sect_place.specs.declared.layout.Layout.{Layout}
use Rattle.image_make.specs.Made.{ImageInputs, binds_of, rows_of, scene_of}
use Rattle.image_make.proofs.FieldLemmas.{ref_of_row, row_key_file}
use Rattle.image_make.proofs.RefLemmas.{ref_file}
use Rattle.image_make.proofs.WorkLemmas.{row_of_file}

-- ---- the files of references

in_numbered : (n : ℕ) (files : List LoadedFile) (k : ℕ) (file : LoadedFile) → slice_get files k ≡ Some file → In (n + k, file) (enumerate_from n files)
in_numbered n [] k file e = absurd cc
in_numbered n (first ∷ files) zero file e =
    let same : first ≡ file = cc in
    let here : n ≡ n + 0 = omega arith in
    inl (ap (λ (f : LoadedFile). let p : ℕ × LoadedFile = (n, f) in p) same ∙ ap (λ (j : ℕ). let p : ℕ × LoadedFile = (j, file) in p) here)
in_numbered n (first ∷ files) (suc k) file e =
    let more : n + 1 + k ≡ n + suc k = omega arith in
    inr (subst (λ (j : ℕ). In (j, file) (enumerate_from (n + 1) files)) more (in_numbered (n + 1) files k file e))

same_atom : (a b : AtomKey) → a.file ≡ b.file → a.section ≡ b.section → a.offset ≡ b.offset → a ≡ b
same_atom a b e f g = rw (e, f, g) refl

-- ---- pointers that are bound

-- one of what the image is bound to, with the same goal and addend
abbrev IsOneOf : ImageInputs → Fixup → Type 0
IsOneOf m fixup = (other : Fixup) × Contains (binds_of m) other × (other.goal ≡ fixup.goal) × (other.addend ≡ fixup.addend)

slot_one : (m : ImageInputs) (start : Option ℕ) (goals : List Goal) (fixup : Fixup) → ((goal : Goal) → In goal goals → In goal (m.slots.got ++ m.slots.tlv)) → In fixup (slot_fixups start goals) → IsOneOf m fixup
unfolding slot_fixups binds slot_bind
slot_one m None goals fixup within h = absurd h
slot_one m (Some at) goals fixup within h =
    let from = from_map (slot_fixup at) (enumerate_from 0 goals) fixup h in
    let goal : Goal = from.0.1 in
    let there : In goal goals = of_numbered 0 goals from.0 from.1 in
    let bind = in_map slot_bind (m.slots.got ++ m.slots.tlv) goal (within goal there) in
    (unplaced goal (pos 0), Contains_from_in (binds_of m) (unplaced goal (pos 0)) (in_left (map slot_bind (m.slots.got ++ m.slots.tlv)) (flat_map (binds_at m.files m.literals m.keys m.goals) (enumerate_from 0 m.files)) (unplaced goal (pos 0)) bind), ap (λ (f : Fixup). f.goal) from.2, ap (λ (f : Fixup). f.addend) from.2)
  where
    of_numbered : (n : ℕ) (gs : List Goal) (p : ℕ × Goal) → In p (enumerate_from n gs) → In p.1 gs
    of_numbered n [] p k = absurd k
    of_numbered n (g ∷ gs) p (inl e) = inl (ap (λ (q : ℕ × Goal). q.1) e)
    of_numbered n (g ∷ gs) p (inr k) = inr (of_numbered (n + 1) gs p k)

-- a pointer of a reference that is bound is one to the reference's own goal
record IsOwnPointer (scene : Scene) (item : PlacedWork) (r : Ref) (fixup : Fixup) : Type 0 where
  pub kind : r.kind ≡ Pointer
  pub own : holds_offset scene.files item (goal_of scene item.file r.target) ≡ false
  pub goal : goal_of scene item.file r.target ≡ fixup.goal
  pub addend : r.addend ≡ fixup.addend

header_not : is_bound Header ≡ true → ⊥
header_not e = cc

own_pointee : (scene : Scene) (item : PlacedWork) (goal : Goal) (addend : ℤ) (to : Pointee) → pointee_of scene item goal addend ≡ Some to → (holds_offset scene.files item goal ≡ false) × (goal ≡ to.goal) × (addend ≡ to.addend)
own_pointee scene item goal addend to e = by (holds_offset scene.files item goal) refl e
  where
    by : (b : Bool) → holds_offset scene.files item goal ≡ b → (if b then None else Some (record { goal = goal; addend = addend })) ≡ Some to → (holds_offset scene.files item goal ≡ false) × (goal ≡ to.goal) × (addend ≡ to.addend)
    by true is f = absurd cc
    by false is f = (is, cc, cc)

slot_header : (scene : Scene) (goal : Goal) (to : Pointee) → slot_pointee scene goal ≡ Some to → to.goal ≡ Header
slot_header scene goal to e =
    let found = from_mapped (λ (slot : ℕ). record { goal = Header; addend = pos slot -ℤ pos scene.base }) (address_by scene (Some Got) goal) to e in
    ap (λ (p : Pointee). p.goal) (sym found.2)

own_by : (kind : RefKind) (scene : Scene) (item : PlacedWork) (goal : Goal) (addend : ℤ) (to : Pointee) → pointee_by kind scene item goal addend ≡ Some to → is_bound to.goal ≡ true → (kind ≡ Pointer) × (holds_offset scene.files item goal ≡ false) × (goal ≡ to.goal) × (addend ≡ to.addend)
own_by Pointer scene item goal addend to e bound = let own = own_pointee scene item goal addend to e in (refl, own.0, own.1, own.2)
own_by GotPointer scene item goal addend to e bound = absurd (header_not (ap is_bound (sym (slot_header scene goal to e)) ∙ bound))
own_by Diff32 scene item goal addend to e bound = absurd cc
own_by Diff64 scene item goal addend to e bound = absurd cc
own_by Branch scene item goal addend to e bound = absurd cc
own_by Page scene item goal addend to e bound = absurd cc
own_by PageOff scene item goal addend to e bound = absurd cc
own_by GotPage scene item goal addend to e bound = absurd cc
own_by GotPageOff scene item goal addend to e bound = absurd cc
own_by GotDelta scene item goal addend to e bound = absurd cc
own_by TlvPage scene item goal addend to e bound = absurd cc
own_by TlvPageOff scene item goal addend to e bound = absurd cc

own_of : (scene : Scene) (item : PlacedWork) (r : Ref) (fixup : Fixup) → fixup_of scene item r ≡ Some fixup → is_bound fixup.goal ≡ true → IsOwnPointer scene item r fixup
unfolding fixup_of pointee
own_of scene item r fixup e bound =
    let found = from_mapped (fixup_to item r) (pointee scene item r) fixup e in
    let goal : found.0.goal ≡ fixup.goal = ap (λ (f : Fixup). f.goal) found.2 in
    let own = own_by r.kind scene item (goal_of scene item.file r.target) r.addend found.0 found.1 (ap is_bound goal ∙ bound) in
    record { kind = own.0; own = own.1; goal = own.2 ∙ goal; addend = own.3 ∙ ap (λ (f : Fixup). f.addend) found.2 }

bind_is : (m : ImageInputs) (layout : Layout) (row : PlacedWork) (file : LoadedFile) (r : Ref) (fixup : Fixup) → slice_get m.files row.file ≡ Some file → r.atom.section ≡ row.atom.key.section → IsOwnPointer (scene_of m layout) row r fixup
    → bind_of m.files m.literals (goals_at m.goals row.file) file r ≡ Some (unplaced fixup.goal fixup.addend)
unfolding bind_of goal_of is_descriptor
bind_is m layout row file r fixup there section own =
    let goal : Goal = target_goal m.literals (goals_at m.goals row.file) r.target in
    let descriptors : is_descriptor m.files row ≡ has_descriptors file r.atom.section =
    ap (λ (o : Option LoadedFile). option_map_or (λ (f : LoadedFile). has_descriptors f row.atom.key.section) o false) there ∙ ap (λ (n : ℕ). has_descriptors file n) (sym section) in
    let no_offset : (has_descriptors file r.atom.section && leads_to_template m.files goal) ≡ false = ap (λ (b : Bool). b && leads_to_template m.files goal) (sym descriptors) ∙ own.own in
    ap (λ (kind : RefKind). bind_by kind m.files file r.atom.section goal r.addend) own.kind
    ∙ ap (λ (b : Bool). if b then None else Some (unplaced goal r.addend)) no_offset
    ∙ ap (λ (g : Goal). Some (unplaced g r.addend)) own.goal ∙ ap (λ (n : ℤ). Some (unplaced fixup.goal n)) own.addend

atom_one : (m : ImageInputs) (layout : Layout) (fixup : Fixup) → All IsWholeFile m.files → is_bound fixup.goal ≡ true → In fixup (flat_map (row_fixups (scene_of m layout)) (rows_of m layout)) → IsOneOf m fixup
unfolding row_fixups binds slot_bind binds_at kept_refs
atom_one m layout fixup whole bound h =
    let of_row = from_flat (row_fixups (scene_of m layout)) (rows_of m layout) fixup h in
    let row : PlacedWork = of_row.0 in
    let of_ref = from_filter_map (fixup_of (scene_of m layout) row) (refs_of m.files row) fixup of_row.2 in
    let r : Ref = of_ref.0 in
    let own = own_of (scene_of m layout) row r fixup of_ref.2 bound in
    let is = ref_of_row m layout row r whole of_row.1 of_ref.1 in
    let file : LoadedFile = is.file in
    let key : r.atom ≡ row.atom.key = same_atom r.atom row.atom.key (ref_file file r is.whole is.among ∙ sym (row_key_file m row file is.whole is.piece)) is.section is.offset in
    let kept : has m.keys r.atom ≡ true = ap (has m.keys) key ∙ (row_of_file m layout row of_row.1).is_kept in
    let chosen = in_filter (λ (x : Ref). has m.keys x.atom) file.refs r is.among kept in
    let bind = in_filter_map (bind_of m.files m.literals (goals_at m.goals row.file) file) (filter (λ (x : Ref). has m.keys x.atom) file.refs) r (unplaced fixup.goal fixup.addend) chosen (bind_is m layout row file r fixup is.there is.section own) in
    let zero_at : 0 + row.file ≡ row.file = omega arith in
    let numbered : In (row.file, file) (enumerate_from 0 m.files) = subst (λ (k : ℕ). In (k, file) (enumerate_from 0 m.files)) zero_at (in_numbered 0 m.files row.file file is.there) in
    let all = in_flat (binds_at m.files m.literals m.keys m.goals) (enumerate_from 0 m.files) (row.file, file) (unplaced fixup.goal fixup.addend) numbered bind in
    (unplaced fixup.goal fixup.addend, Contains_from_in (binds_of m) (unplaced fixup.goal fixup.addend) (in_right (map slot_bind (m.slots.got ++ m.slots.tlv)) (flat_map (binds_at m.files m.literals m.keys m.goals) (enumerate_from 0 m.files)) (unplaced fixup.goal fixup.addend) all), refl, refl)

among : (m : ImageInputs) (layout : Layout) (fixups : List Fixup) → All IsWholeFile m.files → AreFixups (scene_of m layout) (rows_of m layout) fixups → AreAmong fixups (binds_of m)
unfolding all_fixups
among m layout fixups whole pointers = record { each = λ fixup h bound. by fixup bound (in_from_Contains (all_fixups (scene_of m layout) (rows_of m layout)) fixup (Contains-permutation fixups (all_fixups (scene_of m layout) (rows_of m layout)) fixup (IsPermutation-sym (all_fixups (scene_of m layout) (rows_of m layout)) fixups pointers.all) h)) }
  where
    atoms : List Fixup
    atoms = flat_map (row_fixups (scene_of m layout)) (rows_of m layout)

    by : (fixup : Fixup) → is_bound fixup.goal ≡ true → In fixup (all_fixups (scene_of m layout) (rows_of m layout)) → IsOneOf m fixup
    by fixup bound h = elim (in_either (slot_fixups (starts_of layout.sections).got m.slots.got) (slot_fixups (starts_of layout.sections).tlv m.slots.tlv ++ atoms) fixup h) [
      | inl got ↦ slot_one m (starts_of layout.sections).got m.slots.got fixup (λ goal k. in_left m.slots.got m.slots.tlv goal k) got
      | inr rest ↦ elim (in_either (slot_fixups (starts_of layout.sections).tlv m.slots.tlv) atoms fixup rest) [
        | inl tlv ↦ slot_one m (starts_of layout.sections).tlv m.slots.tlv fixup (λ goal k. in_right m.slots.got m.slots.tlv goal k) tlv
        | inr atom ↦ atom_one m layout fixup whole bound atom
      ]
    ]

pub few_imports : (m : ImageInputs) (layout : Layout) (fixups : List Fixup) → All IsWholeFile m.files → AreFixups (scene_of m layout) (rows_of m layout) fixups → ¬ AreMany (binds_of m) → AreMany fixups → ⊥
few_imports m layout fixups whole pointers few many = few (more_are_many fixups (binds_of m) (among m layout fixups whole pointers) many)
