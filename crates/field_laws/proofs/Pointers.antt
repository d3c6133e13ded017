-- Pointers that the loader fills in, or leaves as they are.
use Rattle.std.proofs.Common.{◌≡◌, ℕ, ◌+◌, ◌<◌, ◌^◌, ℤ, pos, ◌+ℤ◌, ◌-ℤ◌, Bool, List, Option, Some, None, refl, sym, ap, ◌∙◌, subst, arith, true, false, nat_le, if◌then◌else◌}
use Rattle.std.specs.Int.{cast_signed, w64}
use Rattle.std.specs.Option.{option_map}
use Rattle.std.proofs.lemmas.Bool.{lt-ltb}
use Rattle.std.proofs.lemmas.Int.{ints}
use Rattle.arm64_insn.specs.Field.{twos_complement}
use Rattle.mo_types.specs.declared.goal.Goal.{Goal}
use Rattle.mo_types.specs.declared.goal.Goal.TheVariants.{Def, WeakSelf, Header, Import, Flat, Nobody}
use Rattle.mo_types.specs.declared.reference.Ref.{Ref}
use Rattle.mo_types.specs.declared.reference.RefKind.{RefKind}
use Rattle.mo_types.specs.declared.reference.RefKind.TheVariants.{Pointer, Diff32, Diff64, Branch, Page, PageOff, GotPage, GotPageOff, GotDelta, GotPointer, TlvPage, TlvPageOff}
use Rattle.patch.specs.Field as fields
use Rattle.patch.specs.declared.met.Met.{Met}
use Rattle.image_read.specs.Denotes.{Denotes, DenotesBy, Places, PointerDenotes, PointerOrOffset, TellsImport, TellsOffset, TellsRebase, TellsSlot, offset_for}
use Rattle.image_read.specs.Fixups.{fixup_at, long_at}
use Rattle.image_read.specs.Held.{AtomMap, Held, IsBindOf, IsRebaseTo}
use Rattle.image_read.specs.Meaning.{base_of, denote, long_in}
use Rattle.image_read.specs.declared.fixups.FixupRead.TheVariants.{Bind, Plain, Rebase}
use Rattle.image_read.specs.declared.meaning.Meaning.TheVariants.{Address, Difference, Imported}
use Rattle.field_laws.specs.Fields.{MetOffset}
use Rattle.field_laws.specs.Memory.{Holds, HoldsBy}
use Rattle.field_laws.specs.Pointers.{IsInRange, IsPointerKind, IsPointerTo, IsPointerToSlot, MetWord}
use Rattle.field_laws.proofs.Slots.{nothing_added}

-- ---- what the loader makes of a pointer

module _ (image : List ℕ) (p number : ℕ) (read : long_in image p ≡ Some number) where
  rebased_told : (base offset : ℕ) → fixup_at image p ≡ Rebase offset → base_of image ≡ Some base → base + offset < 2 ^ 64 → denote image p Pointer ≡ Address (base + offset)
  unfolding denote
  rebased_told base offset is begins low = rw (read, is, begins, lt-ltb (base + offset) (2 ^ 64) low) refl

  slot_rebased : (base offset : ℕ) → fixup_at image p ≡ Rebase offset → base_of image ≡ Some base → base + offset < 2 ^ 64 → denote image p GotPointer ≡ Address (base + offset)
  unfolding denote
  slot_rebased base offset is begins low = rw (read, is, begins, lt-ltb (base + offset) (2 ^ 64) low) refl

  bound_told : (import : ℕ) (ordinal addend : ℤ) (optional : Bool) → fixup_at image p ≡ Bind import ordinal addend optional → denote image p Pointer ≡ Imported import addend
  unfolding denote
  bound_told import ordinal addend optional is = rw (read, is) refl

  plain_told : fixup_at image p ≡ Plain → denote image p Pointer ≡ Difference (cast_signed w64 number)
  unfolding denote
  plain_told is = rw (read, is) refl

-- ---- pointers

rebase_tells : (image : List ℕ) (addresses : AtomMap) (p number : ℕ) (goal : Goal) (addend : ℤ) → long_in image p ≡ Some number → IsRebaseTo image addresses (fixup_at image p) goal addend → IsInRange image (fixup_at image p) → Held image addresses (fixup_at image p) goal addend → TellsRebase image addresses p goal addend
rebase_tells image addresses p number goal addend read is low held = record {
  tells = record {
    target = is.base + is.offset;
    stands = is.leads;
    told = rebased_told image p number read is.base is.offset is.rebase is.begins (low is.base is.offset is.begins is.rebase);
  };
  held = held;
}

import_tells : (image : List ℕ) (addresses : AtomMap) (p number : ℕ) (goal : Goal) (name : List ℕ) (ordinal addend : ℤ) (optional : Bool) → long_in image p ≡ Some number → IsBindOf image (fixup_at image p) name ordinal addend optional → Held image addresses (fixup_at image p) goal addend → TellsImport image addresses p goal addend
import_tells image addresses p number goal name ordinal addend optional read is held = record {
  import = is.import;
  told = bound_told image p number read is.import ordinal addend optional is.bind;
  held = held;
}

pointer_by : (image : List ℕ) (addresses : AtomMap) (p number : ℕ) (goal : Goal) (addend : ℤ) → long_in image p ≡ Some number → Held image addresses (fixup_at image p) goal addend → IsInRange image (fixup_at image p) → PointerDenotes image addresses p goal addend
pointer_by image addresses p number (Def key offset) addend read held low = rebase_tells image addresses p number (Def key offset) addend read held low held
pointer_by image addresses p number Header addend read held low = rebase_tells image addresses p number Header addend read held low held
pointer_by image addresses p number (WeakSelf name key offset) addend read held low = import_tells image addresses p number (WeakSelf name key offset) _ _ addend _ read held held
pointer_by image addresses p number (Import name ordinal by_weak optional) addend read held low = import_tells image addresses p number (Import name ordinal by_weak optional) _ _ addend _ read held held
pointer_by image addresses p number (Flat name) addend read held low = import_tells image addresses p number (Flat name) _ _ addend _ read held held
pointer_by image addresses p number Nobody addend read held low = absurd held

pub pointer_told : (image : List ℕ) (places : Places) (p section : ℕ) (reference : Ref) (goal : Goal) (minus : Option Goal) → reference.kind ≡ Pointer → offset_for section places.offsets goal ≡ None → IsPointerTo image places.addresses p goal reference.addend → Denotes image places p section reference goal minus
pointer_told image places p section reference goal minus kind none is =
    subst (λ (k : RefKind). DenotesBy k image places p section goal reference.addend minus) (sym kind)
    (subst (λ (o : Option ℕ). PointerOrOffset o image places.addresses p goal reference.addend) (sym none) (pointer_by image places.addresses p is.number goal reference.addend is.there is.held is.in_range))

-- ---- pointers to slots

pub slot_is : (image : List ℕ) (addresses : AtomMap) (p slot base : ℕ) → base_of image ≡ Some base → (is : IsRebaseTo image addresses (fixup_at image p) Header (pos slot -ℤ pos base)) → is.base + is.offset ≡ slot
slot_is image addresses p slot base begins is =
    let one : Some (pos base +ℤ (pos slot -ℤ pos base)) ≡ Some (pos (is.base + is.offset)) = sym (ap (option_map (λ (address : ℕ). pos address +ℤ (pos slot -ℤ pos base))) begins) ∙ is.leads in
    let same : pos base +ℤ (pos slot -ℤ pos base) ≡ pos (is.base + is.offset) = cc in
    omega (arith, ints, same)

slot_tells : (image : List ℕ) (addresses : AtomMap) (p : ℕ) (goal : Goal) → IsPointerToSlot image addresses p goal → TellsSlot image addresses p GotPointer goal Address
slot_tells image addresses p goal is =
    let pointer = is.pointer in
    let rebase : IsRebaseTo image addresses (fixup_at image p) Header (pos is.slot -ℤ pos is.base) = pointer.held in
    record {
      slot = is.slot;
      held = is.held;
      told = slot_rebased image p pointer.number pointer.there rebase.base rebase.offset rebase.rebase rebase.begins (pointer.in_range rebase.base rebase.offset rebase.begins rebase.rebase)
          ∙ ap Address (slot_is image addresses p is.slot is.base is.begins rebase);
    }

pub slot_pointer_told : (image : List ℕ) (places : Places) (p section : ℕ) (reference : Ref) (goal : Goal) (minus : Option Goal) → reference.kind ≡ GotPointer → IsPointerToSlot image places.addresses p goal → Denotes image places p section reference goal minus
slot_pointer_told image places p section reference goal minus kind is =
    subst (λ (k : RefKind). DenotesBy k image places p section goal reference.addend minus) (sym kind) (slot_tells image places.addresses p goal is)

-- ---- offsets in the template

offset_tells : (image : List ℕ) (p : ℕ) (met : Met) → HoldsBy Pointer image p met → fixup_at image p ≡ Plain → TellsOffset image p met.value met.addend
unfolding fields.target_of
offset_tells image p met h plain = record {
  told = plain_told image p h.number h.there plain ∙ ap (λ (n : ℕ). Difference (cast_signed w64 n)) h.tells;
  plain = plain;
}

pub offset_told : (image : List ℕ) (places : Places) (p section : ℕ) (reference : Ref) (goal : Goal) (minus : Option Goal) (met : Met) → Holds image p met → MetOffset image places p section reference goal met → Denotes image places p section reference goal minus
offset_told image places p section reference goal minus met h is =
    let held = subst (λ (k : RefKind). HoldsBy k image p met) (is.kind ∙ is.pointer) h in
    let tells = subst (λ (addend : ℤ). TellsOffset image p met.value addend) is.addend (offset_tells image p met held is.plain) in
    subst (λ (k : RefKind). DenotesBy k image places p section goal reference.addend minus) (sym is.pointer)
    (subst (λ (o : Option ℕ). PointerOrOffset o image places.addresses p goal reference.addend) (sym is.offset) tells)

-- ---- words of chains

long_of : (image : List ℕ) (p number : ℕ) (b : Bool) → (if b then long_at image p else None) ≡ Some number → long_at image p ≡ Some number
long_of image p number true e = e
long_of image p number false e = absurd cc

word_of : (met : Met) → met.addend ≡ pos 0 → met.value < 2 ^ 64 → twos_complement 64 (fields.target_of met) ≡ met.value
unfolding twos_complement
word_of met e low = ap (twos_complement 64) (nothing_added met e) ∙ omega arith

word_by : (kind : RefKind) (image : List ℕ) (p : ℕ) (met : Met) → HoldsBy kind image p met → IsPointerKind kind → met.addend ≡ pos 0 → met.value < 2 ^ 64 → long_at image p ≡ Some met.value
word_by Pointer image p met h is e low = long_of image p h.number (nat_le (p + 8) (2 ^ 64)) h.there ∙ ap Some (h.tells ∙ word_of met e low)
word_by GotPointer image p met h is e low = long_of image p h.number (nat_le (p + 8) (2 ^ 64)) h.there ∙ ap Some (h.tells ∙ word_of met e low)
word_by Diff32 image p met h is e low = absurd is
word_by Diff64 image p met h is e low = absurd is
word_by Branch image p met h is e low = absurd is
word_by Page image p met h is e low = absurd is
word_by PageOff image p met h is e low = absurd is
word_by GotPage image p met h is e low = absurd is
word_by GotPageOff image p met h is e low = absurd is
word_by GotDelta image p met h is e low = absurd is
word_by TlvPage image p met h is e low = absurd is
word_by TlvPageOff image p met h is e low = absurd is

pub word_there : (image : List ℕ) (p : ℕ) (met : Met) → Holds image p met → MetWord met → long_at image p ≡ Some met.value
word_there image p met h is = word_by met.kind image p met h is.kind is.addend is.low
