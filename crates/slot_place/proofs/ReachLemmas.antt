-- Slots and stubs within an image.
use Rattle.std.proofs.Common.{◌≡◌, ℕ, ◌+◌, ◌*◌, ◌^◌, ◌%◌, ◌<◌, ◌≤◌, Bool, true, false, List, length, All, Option, Some, None, IfSome, refl, arith, if◌then◌else◌}
use Rattle.std.specs.Option.{option_map}
use Rattle.list_lemmas.proofs.Members.{all_in, find_some}
use Rattle.std.proofs.lemmas.List.Elements.{recursion_from_All}
use Rattle.mo_types.specs.declared.atom.Atom.{Atom}
use Rattle.mo_types.specs.declared.key.AtomKey.{AtomKey}
use Rattle.mo_types.specs.declared.out_section.OutSection.{OutSection}
use Rattle.command_line.specs.declared.command.Command.{Command}
use Rattle.slot_plan.specs.declared.list.Slots.{Slots}
use Rattle.slot_plan.specs.declared.need.Way.{Way}
use Rattle.slot_plan.specs.declared.need.Way.TheVariants.{Got, Stub, Tlv}
use Rattle.sect_place.specs.Layout.{base_of}
use Rattle.sect_place.specs.declared.layout.PlacedSection.{PlacedSection}
use Rattle.sect_place.specs.declared.size.PlaceSizes.{PlaceSizes}
use Rattle.slot_place.specs.Places.{HaveRoom, goals_for, is_own, own_section, starts_of, unit_at, unit_of}
use Rattle.slot_place.specs.Stubs.{AreNear, AreReached}
use Rattle.slot_place.proofs.SectionLemmas.{IsOwnOf, IsPlanned, got_whole, last_of, own_found, planned}

-- an own section of an image that begins at an address and has fewer than 2^32 bytes
near_own : (base last : ℕ) (way : Way) (slots : Slots) (p : PlacedSection) → last < base + 2 ^ 32 → IsOwnOf base last (unit_of way * length (goals_for slots way)) way p → AreNear base (unit_of way) p.address (goals_for slots way)
near_own base last way slots p low own =
    let sized : p.size ≡ unit_of way * length (goals_for slots way) = own.sized in
    record { after = own.begins; before = omega (arith, own.ends, sized, low) }

start_some : (P : ℕ → Type 0) (o : Option PlacedSection) → ((p : PlacedSection) → o ≡ Some p → P p.address) → IfSome (option_map (λ (p : PlacedSection). p.address) o) P
start_some P None each = tt
start_some P (Some p) each = each p refl

base_low : (command : Command) → base_of command ≤ 2 ^ 32
base_low command = by command.dylib
  where
    by : (b : Bool) → (if b then 0 else 2 ^ 32) ≤ 2 ^ 32
    by true = omega arith
    by false = omega arith

base_page : (command : Command) → base_of command % 0x1000 ≡ 0
base_page command = by command.dylib
  where
    by : (b : Bool) → (if b then 0 else 2 ^ 32) % 0x1000 ≡ 0
    by true = refl
    by false = refl

room : (base unit start : ℕ) (n : ℕ) → base ≤ 2 ^ 32 → unit_at unit start n ≤ base + 2 ^ 32 → unit_at unit start n < 2 ^ 63
room base unit start n low near = omega (arith, low, near)

-- all of them
pub record AreWithin (base : ℕ) (slots : Slots) (sections : List PlacedSection) : Type 0 where
  pub near : (way : Way) (p : PlacedSection) → own_section sections way ≡ Some p → AreNear base (unit_of way) p.address (goals_for slots way)
  pub whole : (p : PlacedSection) → own_section sections Got ≡ Some p → p.address % 8 ≡ 0

pub within : (atoms : List AtomKey → List Atom) (at file lead : ℕ) (sections : List OutSection) (slots : Slots) (sizes : PlaceSizes) → IsPlanned atoms at file lead sections slots sizes → last_of atoms at lead sections slots sizes < at + 2 ^ 32 → All (λ (p : PlacedSection). (count : ℕ) × (p.address ≡ count * 2 ^ p.section.align)) (planned atoms at file lead sections slots sizes) → AreWithin at slots (planned atoms at file lead sections slots sizes)
unfolding own_section
within atoms at file lead sections slots sizes plan low aligned = record {
  near = λ way p e. near_own at (last_of atoms at lead sections slots sizes) way slots p low (own_found atoms at file lead sections slots sizes way p plan e);
  whole = λ p e.
      let own = own_found atoms at file lead sections slots sizes Got p plan e in
      let there = (find_some (is_own Got) (planned atoms at file lead sections slots sizes) p e).0 in
      got_whole p own.is (all_in (λ (q : PlacedSection). (count : ℕ) × (q.address ≡ count * 2 ^ q.section.align)) (planned atoms at file lead sections slots sizes) p (recursion_from_All (λ (q : PlacedSection). (count : ℕ) × (q.address ≡ count * 2 ^ q.section.align)) (planned atoms at file lead sections slots sizes) aligned) there);
}

pub have_room : (command : Command) (slots : Slots) (sections : List PlacedSection) → AreWithin (base_of command) slots sections → HaveRoom (starts_of sections) slots
unfolding starts_of
have_room command slots sections are = record {
  got = start_some _ (own_section sections Got) (λ p e. room (base_of command) 8 p.address (length slots.got) (base_low command) (are.near Got p e).before);
  stubs = start_some _ (own_section sections Stub) (λ p e. room (base_of command) 12 p.address (length slots.stubs) (base_low command) (are.near Stub p e).before);
  tlv = start_some _ (own_section sections Tlv) (λ p e. room (base_of command) 8 p.address (length slots.tlv) (base_low command) (are.near Tlv p e).before);
}

pub are_reached : (command : Command) (slots : Slots) (sections : List PlacedSection) → AreWithin (base_of command) slots sections → AreReached (base_of command) (starts_of sections) slots
unfolding starts_of
are_reached command slots sections are = record {
  page = base_page command;
  stubs = start_some _ (own_section sections Stub) (λ p e. are.near Stub p e);
  got = start_some _ (own_section sections Got) (λ p e. are.near Got p e);
  whole = start_some _ (own_section sections Got) (λ p e. are.whole p e);
}
