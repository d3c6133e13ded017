-- The slots and stubs of an image are those that kept atoms need, by their references and personalities, and the entry.
use Rattle.std.proofs.Common.{◌≡◌, ℕ, ◌+◌, Bool, true, false, List, [], ◌∷◌, map, Some, None, inl, inr, Contains, refl, sym, ap, ◌∙◌, subst, arith, if◌then◌else◌}
use Rattle.std.specs.Prelude.{slice_get}
use Rattle.std.specs.List.{enumerate_from, filter, flat_map}
use Rattle.list_lemmas.proofs.Members.{Contains_from_in, In, from_filter, from_filter_map, from_flat, from_map, in_either, in_filter, in_filter_map, in_flat, in_from_Contains, in_left, in_map, in_right}
use Rattle.liveness.specs.Undefined.{kept_refs}
use Rattle.mark_core.specs.Kept.{has}
use Rattle.mo_types.specs.declared.goal.Goal.{Goal}
use Rattle.mo_types.specs.declared.loaded.LoadedFile.{LoadedFile}
use Rattle.mo_types.specs.declared.reference.Ref.{Ref}
use Rattle.resolve.specs.Goals.{goals_of_symbols, target_goal}
use Rattle.ref_meet.specs.Addresses.{address_by}
use Rattle.sect_place.specs.declared.layout.Layout.{Layout}
use Rattle.slot_needs.specs.Needs.{entry_needs, is_outer, need_by, need_of, needs, needs_at, needs_in, way_of}
use Rattle.slot_place.specs.Places.{goals_for}
use Rattle.slot_plan.specs.Slots.{in_got, in_stubs, in_tlv, needed}
use Rattle.slot_plan.specs.declared.need.Need.{Need}
use Rattle.slot_plan.specs.declared.need.Way.{Way}
use Rattle.slot_plan.specs.declared.need.Way.TheVariants.{Got, Stub, Tlv}
use Rattle.slot_plan.proofs.Ordered.{stub_has_slot}
use Rattle.unwind_link.specs.Personalities.{slot_need}
use Rattle.image_make.specs.Made.{IsLaid, ImageInputs, scene_of}
use Rattle.image_laws.specs.References.{HasAddress, StubsHaveSlots}
use Rattle.image_laws.proofs.Units.{unit_there}
use Rattle.link_files.specs.Bound as bounds
use Rattle.link_files.specs.Bound.{start_of}
use Rattle.link_files.specs.Unwinding.{handlers}
use Rattle.link_files.proofs.Lists.{from_mapped, from_numbered}
use Rattle.loader_laws.proofs.Finding.{in_all}
use Rattle.loader_laws.proofs.Handlers.{IsHandledBy, handled_by}
use Rattle.loader_laws.proofs.Placing.{IsLinking}
use Rattle.loader_laws.proofs.Targets.{IsKeptRef, goals_there, leads, target_same}

-- what the kept atoms of an image need, and its entry
abbrev pub all_needs : ImageInputs → List Need
all_needs m = bounds.all_needs m.literals m.keys m.goals m.files (start_of m.command m.entry)

-- by their references, and by the personalities of their unwind entries
abbrev by_refs : ImageInputs → List Need
by_refs m = needs m.literals m.keys m.goals m.files (start_of m.command m.entry)

abbrev by_unwinds : ImageInputs → List Need
by_unwinds m = map slot_need (handlers m.literals m.keys m.goals m.files)

abbrev pub need : Goal → Way → Need
need goal way = record { goal = goal; way = way }

-- ---- what is needed

need_is : (m : ImageInputs) (file : LoadedFile) (r : Ref) (way : Way) → IsLinking m → way_of r.kind r.addend (leads m file r.target) ≡ Some way → need_of m.literals (goals_of_symbols m.files m.libs m.command file) r ≡ Some (need (leads m file r.target) way)
unfolding need_of
need_is m file r way linking e =
    ap (λ (goal : Goal). need_by goal (way_of r.kind r.addend goal)) (target_same m file r.target linking) ∙ ap (need_by (leads m file r.target)) e

pub is_needed : (m : ImageInputs) (at : ℕ) (file : LoadedFile) (r : Ref) (way : Way) → IsLinking m → IsKeptRef m at file r → way_of r.kind r.addend (leads m file r.target) ≡ Some way → In (need (leads m file r.target) way) (all_needs m)
unfolding needs needs_at kept_refs
is_needed m at file r way linking is e =
    let goals : List Goal = goals_of_symbols m.files m.libs m.command file in
    let one : Need = need (leads m file r.target) way in
    let here : In one (needs_in m.literals m.keys goals file) =
    in_filter_map (need_of m.literals goals) (kept_refs m.keys file) r one (in_filter (λ (x : Ref). has m.keys x.atom) file.refs r is.among is.kept) (need_is m file r way linking e) in
    in_left (by_refs m) (by_unwinds m) one
    (in_left (flat_map (needs_at m.literals m.keys m.goals) (enumerate_from 0 m.files)) (entry_needs (start_of m.command m.entry)) one
    (in_flat (needs_at m.literals m.keys m.goals) (enumerate_from 0 m.files) (at, file) one (in_all m.files at file is.there) (rw (goals_there m at file linking is.there) here)))

-- the personality of a kept entry is found by a slot
pub handler_needed : (m : ImageInputs) (goal : Goal) → In goal (handlers m.literals m.keys m.goals m.files) → In (need goal Got) (all_needs m)
handler_needed m goal h = in_right (by_refs m) (by_unwinds m) (need goal Got) (in_map slot_need (handlers m.literals m.keys m.goals m.files) goal h)

-- a program whose entry another image has needs a stub
entry_is_needed : (m : ImageInputs) → m.command.dylib ≡ false → is_outer m.entry ≡ true → In (need m.entry Stub) (all_needs m)
unfolding needs
entry_is_needed m program outer =
    in_left (by_refs m) (by_unwinds m) (need m.entry Stub)
    (in_right (flat_map (needs_at m.literals m.keys m.goals) (enumerate_from 0 m.files)) (entry_needs (start_of m.command m.entry)) (need m.entry Stub)
    (rw (program, outer) (inl refl)))

-- ---- it is there

needed_in : (ways : Way → Bool) (all : List Need) (one : Need) → In one all → ways one.way ≡ true → Contains (needed ways all) one.goal
unfolding needed
needed_in ways all one h passes =
    let chosen = in_filter (λ (n : Need). ways n.way) all one h passes in
    Contains_from_in (needed ways all) one.goal (in_map (λ (n : Need). n.goal) (filter (λ (n : Need). ways n.way) all) one chosen)

pub has_unit : (m : ImageInputs) (way : Way) (goal : Goal) → IsLinking m → In (need goal way) (all_needs m) → Contains (goals_for m.slots way) goal
has_unit m Got goal linking h = linking.slots.got.all goal (needed_in in_got (all_needs m) (need goal Got) h refl)
has_unit m Stub goal linking h = linking.slots.stubs.all goal (needed_in in_stubs (all_needs m) (need goal Stub) h refl)
has_unit m Tlv goal linking h = linking.slots.tlv.all goal (needed_in in_tlv (all_needs m) (need goal Tlv) h refl)

pub unit_stands : (m : ImageInputs) (layout : Layout) (way : Way) (goal : Goal) → IsLinking m → IsLaid m layout → In (need goal way) (all_needs m) → HasAddress (scene_of m layout) (Some way) goal
unfolding address_by
unit_stands m layout way goal linking laid h =
    let found = unit_there m layout way goal laid (has_unit m way goal linking h) in
    rw found.1 refl

pub entry_stub : (m : ImageInputs) (layout : Layout) → IsLinking m → IsLaid m layout → m.command.dylib ≡ false → is_outer m.entry ≡ true → HasAddress (scene_of m layout) (Some Stub) m.entry
entry_stub m layout linking laid program outer = unit_stands m layout Stub m.entry linking laid (entry_is_needed m program outer)

pub stubs_have_slots : (m : ImageInputs) → IsLinking m → StubsHaveSlots m.slots
stubs_have_slots m linking = record { each = stub_has_slot (all_needs m) m.slots.got m.slots.stubs linking.slots.got linking.slots.stubs }

-- ---- nothing else is

-- a need is that of a reference of a kept atom, of a personality of one, or of the entry
pub data IsNeededBy (m : ImageInputs) (goal : Goal) : Type 0 where
  by_reference : (at : ℕ) (file : LoadedFile) (r : Ref) → IsKeptRef m at file r → leads m file r.target ≡ goal → IsNeededBy m goal
  by_handler : IsHandledBy m goal → IsNeededBy m goal
  by_entry : is_outer m.entry ≡ true → m.entry ≡ goal → IsNeededBy m goal

from_entry : (m : ImageInputs) (one : Need) → In one (entry_needs (start_of m.command m.entry)) → IsNeededBy m one.goal
from_entry m one h = by m.command.dylib h
  where
    with_entry : (b : Bool) → is_outer m.entry ≡ b → In one (if b then need m.entry Stub ∷ [] else []) → IsNeededBy m one.goal
    with_entry true e (inl same) = by_entry e (ap (λ (n : Need). n.goal) same)
    with_entry true e (inr none) = absurd none
    with_entry false e none = absurd none

    by : (b : Bool) → In one (entry_needs (if b then None else Some m.entry)) → IsNeededBy m one.goal
    by true none = absurd none
    by false there = with_entry (is_outer m.entry) refl there

from_file : (m : ImageInputs) (at : ℕ) (file : LoadedFile) (one : Need) → IsLinking m → slice_get m.files at ≡ Some file → In one (needs_at m.literals m.keys m.goals (at, file)) → IsNeededBy m one.goal
unfolding needs_at need_of kept_refs
from_file m at file one linking there h =
    let goals : List Goal = goals_of_symbols m.files m.libs m.command file in
    let here : In one (needs_in m.literals m.keys goals file) = rw (goals_there m at file linking there) at h in
    let of_ref = from_filter_map (need_of m.literals goals) (kept_refs m.keys file) one here in
    let kept = from_filter (λ (x : Ref). has m.keys x.atom) file.refs of_ref.0 of_ref.1 in
    let goal : Goal = target_goal m.literals goals of_ref.0.target in
    let made = from_mapped (λ (way : Way). need goal way) (way_of of_ref.0.kind of_ref.0.addend goal) one of_ref.2 in
    by_reference at file of_ref.0 (record { there = there; among = kept.0; kept = kept.1 }) (sym (target_same m file of_ref.0.target linking) ∙ ap (λ (n : Need). n.goal) made.2)

from_refs : (m : ImageInputs) (one : Need) → IsLinking m → In one (by_refs m) → IsNeededBy m one.goal
unfolding needs
from_refs m one linking h = elim (in_either (flat_map (needs_at m.literals m.keys m.goals) (enumerate_from 0 m.files)) (entry_needs (start_of m.command m.entry)) one h) [
  | inl of_files ↦
      let of = from_flat (needs_at m.literals m.keys m.goals) (enumerate_from 0 m.files) one of_files in
      let place = from_numbered 0 m.files of.0 of.1 in
      let first : place.0 ≡ 0 + place.0 = omega arith in
      from_file m of.0.0 of.0.1 one linking (subst (λ (n : ℕ). slice_get m.files n ≡ Some of.0.1) (first ∙ place.1) place.2) of.2
  | inr of_entry ↦ from_entry m one of_entry
]

from_unwinds : (m : ImageInputs) (one : Need) → IsLinking m → In one (by_unwinds m) → IsNeededBy m one.goal
from_unwinds m one linking h =
    let from = from_map slot_need (handlers m.literals m.keys m.goals m.files) one h in
    subst (IsNeededBy m) (ap (λ (n : Need). n.goal) from.2) (by_handler (handled_by m from.0 linking from.1))

pub needed_by : (m : ImageInputs) (one : Need) → IsLinking m → In one (all_needs m) → IsNeededBy m one.goal
needed_by m one linking h = elim (in_either (by_refs m) (by_unwinds m) one h) [
  | inl reference ↦ from_refs m one linking reference
  | inr unwind ↦ from_unwinds m one linking unwind
]

-- what has a slot or a stub is needed
needed_from : (ways : Way → Bool) (all : List Need) (goal : Goal) → Contains (needed ways all) goal → (one : Need) × In one all × (one.goal ≡ goal)
unfolding needed
needed_from ways all goal h =
    let of = from_map (λ (n : Need). n.goal) (filter (λ (n : Need). ways n.way) all) goal (in_from_Contains (needed ways all) goal h) in
    let chosen = from_filter (λ (n : Need). ways n.way) all of.0 of.1 in
    (of.0, chosen.0, of.2)

pub unit_need : (m : ImageInputs) (way : Way) (goal : Goal) → IsLinking m → Contains (goals_for m.slots way) goal → (one : Need) × In one (all_needs m) × (one.goal ≡ goal)
unit_need m Got goal linking h = needed_from in_got (all_needs m) goal (linking.slots.got.only goal h)
unit_need m Stub goal linking h = needed_from in_stubs (all_needs m) goal (linking.slots.stubs.only goal h)
unit_need m Tlv goal linking h = needed_from in_tlv (all_needs m) goal (linking.slots.tlv.only goal h)
