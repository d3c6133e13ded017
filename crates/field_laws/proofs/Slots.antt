-- Fields that hold the address of a slot.
use Rattle.std.proofs.Common.{◌≡◌, ℕ, ◌%◌, ◌^◌, ◌<◌, ℤ, pos, ◌+ℤ◌, List, Option, sym, ap, ◌∙◌, subst, arith}
use Rattle.std.proofs.lemmas.Int.{ints}
use Rattle.arm64_insn.specs.Field.{twos_complement}
use Rattle.mo_types.specs.declared.goal.Goal.{Goal}
use Rattle.mo_types.specs.declared.reference.Ref.{Ref}
use Rattle.mo_types.specs.declared.reference.RefKind.{RefKind}
use Rattle.mo_types.specs.declared.reference.RefKind.TheVariants.{Pointer, Diff32, Diff64, Branch, Page, PageOff, GotPage, GotPageOff, GotDelta, GotPointer, TlvPage, TlvPageOff}
use Rattle.patch.specs.Field as fields
use Rattle.patch.specs.Reading.{GivesPage}
use Rattle.patch.specs.declared.met.Met.{Met}
use Rattle.image_read.specs.Denotes.{Denotes, DenotesBy, Places}
use Rattle.image_read.specs.Fixups.{fixup_at}
use Rattle.image_read.specs.Held.{Held}
use Rattle.image_read.specs.declared.meaning.Meaning.TheVariants.{Low12}
use Rattle.field_laws.specs.Fields.{IsBySlot, MetSlot}
use Rattle.field_laws.specs.Memory.{Holds, HoldsBy}
use Rattle.field_laws.proofs.Told.{delta_told, got_low12_told, got_page_told, tlv_low12_told, tlv_page_told}

-- nothing is added to the slot
pub nothing_added : (met : Met) → met.addend ≡ pos 0 → fields.target_of met ≡ pos met.value
unfolding fields.target_of
nothing_added met e = ap (λ (addend : ℤ). pos met.value +ℤ addend) e ∙ omega (arith, ints)

pub low12_of_slot : (met : Met) → met.addend ≡ pos 0 → twos_complement 64 (fields.target_of met) % 2 ^ 12 ≡ met.value % 0x1000
unfolding twos_complement
low12_of_slot met e = ap (λ (target : ℤ). twos_complement 64 target % 2 ^ 12) (nothing_added met e) ∙ omega arith

given_page : (at word : ℕ) (met : Met) → met.addend ≡ pos 0 → (gives : GivesPage at word met) → gives.target ≡ met.value
given_page at word met e gives = let same : pos gives.target ≡ pos met.value = gives.is_target ∙ nothing_added met e in cc

by_slot : (kind : RefKind) (image : List ℕ) (places : Places) (p section : ℕ) (goal : Goal) (addend : ℤ) (minus : Option Goal) (met : Met) → HoldsBy kind image p met → IsBySlot kind → met.addend ≡ pos 0 → met.value < 2 ^ 64 → Held image places.addresses (fixup_at image met.value) goal (pos 0) → DenotesBy kind image places p section goal addend minus
by_slot GotPage image places p section goal addend minus met h is e low held =
    let gives = h.tells in
    record {
      slot = gives.target;
      held = subst (λ (slot : ℕ). Held image places.addresses (fixup_at image slot) goal (pos 0)) (sym (given_page p h.number met e gives)) held;
      told = got_page_told image p h.number h.there gives.target gives.is_address gives.reached;
    }
by_slot TlvPage image places p section goal addend minus met h is e low held =
    let gives = h.tells in
    record {
      slot = gives.target;
      held = subst (λ (slot : ℕ). Held image places.addresses (fixup_at image slot) goal (pos 0)) (sym (given_page p h.number met e gives)) held;
      told = tlv_page_told image p h.number h.there gives.target gives.is_address gives.reached;
    }
by_slot GotPageOff image places p section goal addend minus met h is e low held = record {
  slot = met.value;
  held = held;
  told = got_low12_told image p h.number h.there ∙ ap Low12 (h.tells ∙ low12_of_slot met e);
}
by_slot TlvPageOff image places p section goal addend minus met h is e low held = record {
  slot = met.value;
  held = held;
  told = tlv_low12_told image p h.number h.there ∙ ap Low12 (h.tells ∙ low12_of_slot met e);
}
by_slot GotDelta image places p section goal addend minus met h is e low held = record {
  slot = met.value;
  held = held;
  told = delta_told image p h.number h.there met.value low (h.tells ∙ nothing_added met e);
}
by_slot Pointer image places p section goal addend minus met h is e low held = absurd is
by_slot Diff32 image places p section goal addend minus met h is e low held = absurd is
by_slot Diff64 image places p section goal addend minus met h is e low held = absurd is
by_slot Branch image places p section goal addend minus met h is e low held = absurd is
by_slot Page image places p section goal addend minus met h is e low held = absurd is
by_slot PageOff image places p section goal addend minus met h is e low held = absurd is
by_slot GotPointer image places p section goal addend minus met h is e low held = absurd is

pub slot_told : (image : List ℕ) (places : Places) (p section : ℕ) (reference : Ref) (goal : Goal) (minus : Option Goal) (met : Met) → Holds image p met → MetSlot image places.addresses reference goal met → Denotes image places p section reference goal minus
slot_told image places p section reference goal minus met h is =
    by_slot reference.kind image places p section goal reference.addend minus met (subst (λ (kind : RefKind). HoldsBy kind image p met) is.kind h) is.by_slot is.addend is.low is.held
