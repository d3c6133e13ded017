-- Fields that hold a goal's own address.
use Rattle.std.proofs.Common.{◌≡◌, ℕ, inl, ℤ, pos, ◌+ℤ◌, ◌-ℤ◌, Bool, List, Option, Some, sym, ap, ◌∙◌, subst}
use Rattle.std.specs.Int.{cast_signed, w64}
use Rattle.std.specs.Option.{option_and_then, option_map}
use Rattle.mo_types.specs.declared.goal.Goal.{Goal}
use Rattle.mo_types.specs.declared.reference.Ref.{Ref}
use Rattle.mo_types.specs.declared.reference.RefKind.{RefKind}
use Rattle.mo_types.specs.declared.reference.RefKind.TheVariants.{Pointer, Diff32, Diff64, Branch, Page, PageOff, GotPage, GotPageOff, GotDelta, GotPointer, TlvPage, TlvPageOff}
use Rattle.patch.specs.Field as fields
use Rattle.patch.specs.declared.met.Met.{Met}
use Rattle.image_read.specs.Denotes.{Denotes, DenotesBy, Places, distance_of}
use Rattle.image_read.specs.Held.{AtomMap, goal_address, target_of}
use Rattle.image_read.specs.Reaches.{StopsBy}
use Rattle.image_read.specs.declared.meaning.Meaning.TheVariants.{Difference, Low12}
use Rattle.field_laws.specs.Fields.{IsOwnBy, MetOwn}
use Rattle.field_laws.specs.Memory.{Holds, HoldsBy}
use Rattle.field_laws.proofs.Told.{branch_told, diff32_told, diff64_told, low12_same, low12_told, page_told}

-- the target is the one that was met
target_met : (image : List ℕ) (addresses : AtomMap) (goal : Goal) (met : Met) → goal_address image addresses goal ≡ Some met.value → target_of image addresses goal met.addend ≡ Some (fields.target_of met)
unfolding fields.target_of
target_met image addresses goal met e = ap (option_map (λ (address : ℕ). pos address +ℤ met.addend)) e

-- and so is the distance
distance_met : (image : List ℕ) (addresses : AtomMap) (goal : Goal) (minus : Option Goal) (met : Met) → goal_address image addresses goal ≡ Some met.value → option_and_then (goal_address image addresses) minus ≡ Some met.minus → distance_of image addresses goal met.addend minus ≡ Some (fields.difference_of met)
unfolding fields.difference_of
distance_met image addresses goal minus met e f =
    ap (λ (o : Option ℤ). option_and_then (λ (target : ℤ). option_map (λ (from : ℕ). target -ℤ pos from) (option_and_then (goal_address image addresses) minus)) o) (target_met image addresses goal met e)
    ∙ ap (option_map (λ (from : ℕ). fields.target_of met -ℤ pos from)) f

own_by : (kind : RefKind) (image : List ℕ) (places : Places) (p section : ℕ) (goal : Goal) (minus : Option Goal) (met : Met) → HoldsBy kind image p met → goal_address image places.addresses goal ≡ Some met.value → IsOwnBy kind image places.addresses goal minus met → DenotesBy kind image places p section goal met.addend minus
own_by Branch image places p section goal minus met h e own =
    let leads = h.tells in
    record {
      to = leads.target;
      told = branch_told image p h.number h.there leads.target leads.is_address leads.reached;
      reaches = inl (subst (λ (b : Bool). StopsBy b image places.addresses leads.target goal met.addend) (sym own) (target_met image places.addresses goal met e ∙ ap Some (sym leads.is_target)));
    }
own_by Page image places p section goal minus met h e own =
    let gives = h.tells in
    record {
      target = gives.target;
      stands = target_met image places.addresses goal met e ∙ ap Some (sym gives.is_target);
      told = page_told image p h.number h.there gives.target gives.is_address gives.reached;
    }
own_by PageOff image places p section goal minus met h e own = record {
  target = fields.target_of met;
  stands = target_met image places.addresses goal met e;
  told = low12_told image p h.number h.there ∙ ap Low12 (h.tells ∙ low12_same (fields.target_of met));
}
own_by Diff32 image places p section goal minus met h e own = record {
  distance = fields.difference_of met;
  stands = distance_met image places.addresses goal minus met e own;
  told = diff32_told image p h.number h.there ∙ ap Difference h.tells;
}
own_by Diff64 image places p section goal minus met h e own = record {
  distance = fields.difference_of met;
  stands = distance_met image places.addresses goal minus met e own;
  told = diff64_told image p h.number h.there ∙ ap (λ (n : ℕ). Difference (cast_signed w64 n)) h.tells;
}
own_by Pointer image places p section goal minus met h e own = absurd own
own_by GotPage image places p section goal minus met h e own = absurd own
own_by GotPageOff image places p section goal minus met h e own = absurd own
own_by GotDelta image places p section goal minus met h e own = absurd own
own_by GotPointer image places p section goal minus met h e own = absurd own
own_by TlvPage image places p section goal minus met h e own = absurd own
own_by TlvPageOff image places p section goal minus met h e own = absurd own

pub own_told : (image : List ℕ) (places : Places) (p section : ℕ) (reference : Ref) (goal : Goal) (minus : Option Goal) (met : Met) → Holds image p met → MetOwn image places.addresses reference goal minus met → Denotes image places p section reference goal minus
own_told image places p section reference goal minus met h is =
    let held = subst (λ (kind : RefKind). HoldsBy kind image p met) is.kind h in
    subst (λ (addend : ℤ). DenotesBy reference.kind image places p section goal addend minus) is.addend
    (own_by reference.kind image places p section goal minus met held is.value is.own)
