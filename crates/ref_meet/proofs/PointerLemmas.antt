-- References that are no pointers.
use Rattle.std.proofs.Common.{◌≡◌, ℕ, false, List, ◌++◌, slice_get, Option, Some, None, refl, sym, ap, ◌∙◌, ℤ}
use Rattle.std.specs.Option.{option_and_then, option_map, option_map_or, option_to_list}
use Rattle.std.proofs.lemmas.List.{append-nil}
use Rattle.fixup_chain.specs.declared.chains.Fixup.{Fixup}
use Rattle.mo_types.specs.declared.goal.Goal.{Goal}
use Rattle.mo_types.specs.declared.reference.Ref.{Ref}
use Rattle.mo_types.specs.declared.reference.RefKind.{RefKind}
use Rattle.mo_types.specs.declared.reference.RefKind.TheVariants.{Pointer, Diff32, Diff64, Branch, Page, PageOff, GotPage, GotPageOff, GotDelta, GotPointer, TlvPage, TlvPageOff}
use Rattle.patch.specs.declared.range.PlacedWork.{PlacedWork}
use Rattle.ref_meet.specs.Pointers.{fixup_of, fixup_to, pointee, pointee_by}
use Rattle.ref_meet.specs.Scene.{Scene, goal_of}
use Rattle.ref_meet.specs.inner.Listed.{found_at, is_pointer}

of_kind : (kind : RefKind) (scene : Scene) (item : PlacedWork) (goal : Goal) (addend : ℤ) → is_pointer kind ≡ false → pointee_by kind scene item goal addend ≡ None
of_kind Pointer scene item goal addend none = absurd cc
of_kind GotPointer scene item goal addend none = absurd cc
of_kind Diff32 scene item goal addend none = refl
of_kind Diff64 scene item goal addend none = refl
of_kind Branch scene item goal addend none = refl
of_kind Page scene item goal addend none = refl
of_kind PageOff scene item goal addend none = refl
of_kind GotPage scene item goal addend none = refl
of_kind GotPageOff scene item goal addend none = refl
of_kind GotDelta scene item goal addend none = refl
of_kind TlvPage scene item goal addend none = refl
of_kind TlvPageOff scene item goal addend none = refl

none_of : (scene : Scene) (item : PlacedWork) (r : Ref) → is_pointer r.kind ≡ false → fixup_of scene item r ≡ None
unfolding fixup_of pointee
none_of scene item r none = ap (option_map (fixup_to item r)) (of_kind r.kind scene item (goal_of scene item.file r.target) r.addend none)

none_found : (scene : Scene) (item : PlacedWork) (o : Option Ref) → option_map_or (λ (r : Ref). is_pointer r.kind) o false ≡ false → option_and_then (fixup_of scene item) o ≡ None
none_found scene item None none = refl
none_found scene item (Some r) none = none_of scene item r none

-- nothing is put behind others for one
pub no_pointer : (scene : Scene) (item : PlacedWork) (refs : List Ref) (index : ℕ) (out : List Fixup) → option_map_or (λ (r : Ref). is_pointer r.kind) (slice_get refs index) false ≡ false → out ≡ out ++ found_at (fixup_of scene item) refs index
unfolding found_at
no_pointer scene item refs index out none =
    sym (append-nil out) ∙ ap (λ (fs : List Fixup). out ++ fs) (sym (ap option_to_list (none_found scene item (slice_get refs index) none)))
