-- Stubs in memory, and the branches that go by them.
use Rattle.std.proofs.Common.{◌≡◌, ℕ, ◌+◌, ◌*◌, ◌/◌, ◌%◌, ◌^◌, ◌<◌, ◌≤◌, ◌&&◌, inl, Bool, true, ℤ, pos, List, length, Option, Some, refl, sym, ap, ◌∙◌, subst, arith}
use Rattle.std.specs.Option.{option_map}
use Rattle.mo_bytes.specs.Number.{number}
use Rattle.mo_types.specs.declared.goal.Goal.{Goal}
use Rattle.mo_types.specs.declared.reference.Ref.{Ref}
use Rattle.mo_types.specs.declared.reference.RefKind.{RefKind}
use Rattle.mo_types.specs.declared.reference.RefKind.TheVariants.{Branch}
use Rattle.patch.specs.declared.met.Met.{Met}
use Rattle.slot_place.specs.Stubs.{LoadsSlot}
use Rattle.image_read.specs.Denotes.{Denotes, DenotesBy, Places}
use Rattle.image_read.specs.Fixups.{fixup_at}
use Rattle.image_read.specs.Held.{AtomMap, Held}
use Rattle.image_read.specs.Meaning.{word_in}
use Rattle.image_read.specs.Reaches.{ADD_X16, IsByWay, IsIsland, IsStub, LDR_X16, Reaches, Stops, StopsBy, is_looked_up, is_zero, without_low12, without_page}
use Rattle.image_read.specs.declared.meaning.Meaning.TheVariants.{Low12}
use Rattle.field_laws.specs.Fields.{GoesBy, MetStub, MetWay}
use Rattle.field_laws.specs.Memory.{AreInMemory, Holds, HoldsBy}
use Rattle.field_laws.proofs.Numbers.{word_there}
use Rattle.field_laws.proofs.Slots.{nothing_added}
use Rattle.field_laws.proofs.Told.{branch_told, low12_told, page_told}

at_start : (image bytes : List ℕ) (x : ℕ) → AreInMemory image x bytes → 4 ≤ length bytes → x + 4 ≤ 2 ^ 64 → word_in image x ≡ Some (number 4 bytes 0)
at_start image bytes x there room low =
    let e : x + 0 ≡ x = omega arith in
    ap (word_in image) (sym e) ∙ word_there image bytes x 0 there (omega arith) (omega arith)

way_there : (image bytes : List ℕ) (second x told : ℕ) → GoesBy second x told bytes → AreInMemory image x bytes → x + 12 ≤ 2 ^ 64 → told < 2 ^ 64 → IsByWay image second x told
way_there image bytes second x told goes there low near =
    let size = goes.size in
    let adrp = at_start image bytes x there (omega arith) (omega arith) in
    let next = word_there image bytes x 4 there (omega arith) (omega arith) in
    let br = word_there image bytes x 8 there (omega arith) (omega arith) in
    record {
      page = told / 0x1000 * 0x1000;
      low = told % 0x1000;
      adrp = ap (option_map without_page) adrp ∙ ap Some goes.adrp;
      on_page = page_told image x (number 4 bytes 0) adrp told near goes.page;
      with_low = ap (option_map without_low12) next ∙ ap Some goes.with_low;
      at_low = low12_told image (x + 4) (number 4 bytes 4) next ∙ ap Low12 goes.low;
      br = br ∙ ap Some goes.br;
      sum = omega arith;
    }

pub stub_is : (image : List ℕ) (addresses : AtomMap) (x slot : ℕ) (goal : Goal) (bytes : List ℕ) → LoadsSlot x slot bytes → AreInMemory image x bytes → x + 12 ≤ 2 ^ 64 → slot < 2 ^ 64 → Held image addresses (fixup_at image slot) goal (pos 0) → IsStub image addresses x goal
stub_is image addresses x slot goal bytes loads there low near held = record {
  slot = slot;
  way = way_there image bytes LDR_X16 x slot (record { size = loads.size; adrp = loads.adrp; page = loads.page; with_low = loads.ldr; low = loads.low; br = loads.br }) there low near;
  held = held;
}

pub island_is : (image : List ℕ) (addresses : AtomMap) (x end : ℕ) (goal : Goal) (addend : ℤ) (bytes : List ℕ) → GoesBy ADD_X16 x end bytes → AreInMemory image x bytes → x + 12 ≤ 2 ^ 64 → end < 2 ^ 64 → Stops image addresses end goal addend → IsIsland image addresses x goal addend
island_is image addresses x end goal addend bytes goes there low near stops = record { end = end; way = way_there image bytes ADD_X16 x end goes there low near; stops = stops }

both : (a b : Bool) → a ≡ true → b ≡ true → (a && b) ≡ true
both a b e f = rw (e, f) refl

by_way : (image : List ℕ) (places : Places) (p section : ℕ) (goal : Goal) (addend : ℤ) (minus : Option Goal) (met : Met) → HoldsBy Branch image p met → met.addend ≡ pos 0 → Reaches image places.addresses met.value goal addend → DenotesBy Branch image places p section goal addend minus
by_way image places p section goal addend minus met h e reaches =
    let leads = h.tells in
    let same : pos leads.target ≡ pos met.value = leads.is_target ∙ nothing_added met e in
    let there : leads.target ≡ met.value = cc in
    record {
      to = leads.target;
      told = branch_told image p h.number h.there leads.target leads.is_address leads.reached;
      reaches = subst (λ (x : ℕ). Reaches image places.addresses x goal addend) (sym there) reaches;
    }

pub way_told : (image : List ℕ) (places : Places) (p section : ℕ) (reference : Ref) (goal : Goal) (minus : Option Goal) (met : Met) → Holds image p met → MetWay image places.addresses reference goal met → Denotes image places p section reference goal minus
way_told image places p section reference goal minus met h is =
    let held = subst (λ (kind : RefKind). HoldsBy kind image p met) (is.kind ∙ is.branch) h in
    subst (λ (kind : RefKind). DenotesBy kind image places p section goal reference.addend minus) (sym is.branch)
    (by_way image places p section goal reference.addend minus met held is.addend is.reaches)

pub stub_told : (image : List ℕ) (places : Places) (p section : ℕ) (reference : Ref) (goal : Goal) (minus : Option Goal) (met : Met) → Holds image p met → MetStub image places.addresses reference goal met → Denotes image places p section reference goal minus
stub_told image places p section reference goal minus met h is =
    let stops = sym (both (is_looked_up goal) (is_zero reference.addend) is.looked_up is.nothing) in
    way_told image places p section reference goal minus met h
    (record {
      kind = is.kind;
      branch = is.branch;
      addend = is.addend;
      reaches = inl (subst (λ (b : Bool). StopsBy b image places.addresses met.value goal reference.addend) stops is.stub);
    })
