-- How the loops go through the atoms of a section, and through sections.
use Rattle.std.proofs.Common.{◌≡◌, ℕ, ◌+◌, ◌^◌, ◌<◌, ◌≤◌, true, false, ltb, max, ◌⊎◌, inl, inr, Option, SomeIff, List, [], ◌∷◌, ◌++◌, length, drop, get_or, refl, sym, ap, subst, ◌∙◌, arith, Some, None, append_assoc, append-nil, add-one, drop-cons}
use Rattle.std.specs.List.{find}
use Rattle.std.specs.Ordering.{is_eq}
use Rattle.std.proofs.lemmas.List.{drop_all, map-append}
use Rattle.std.proofs.lemmas.Nat.{pow_pos}
use Rattle.std.proofs.lemmas.Bool.{lt-ltb, le-ltb, cases_lt}
use Rattle.mo_bytes.specs.Rounding.{least_multiple, least_multiple_below, IsLeastMultiple}
use Rattle.mo_bytes.proofs.Multiples.{is_least_computed}
use Rattle.mo_types.specs.declared.atom.Atom.{Atom}
use Rattle.mo_types.specs.declared.key.AtomKey.{AtomKey}
use Rattle.mo_types.specs.declared.out_section.OutSection.{OutSection}
use Rattle.tlv_plan.specs.declared.parts.Offset.{Offset}
use Rattle.mo_types.specs.Keys.{compare_keys}
use Rattle.tlv_plan.specs.Template.{is_thread_local, thread_local, aligned, atoms_of, stand, end_of, sections_stand, sections_end, template_stand, template_size, greatest_align, offsets}

pub aligned_least : (align at : ℕ) → IsLeastMultiple (2 ^ align) at (aligned align at)
unfolding aligned
aligned_least align at = is_least_computed (2 ^ align) at (pow_pos align)

pub after_end : (at : ℕ) (atoms : List Atom) → at ≤ end_of at atoms
unfolding end_of
after_end at [] = omega arith
after_end at (atom ∷ atoms) =
    let here = (aligned_least atom.align at).enough in
    let rest = after_end (aligned atom.align at + atom.size) atoms in
    omega arith

pub after_sections : (kept : List Atom) (at : ℕ) (sections : List OutSection) → at ≤ sections_end kept at sections
unfolding sections_end
after_sections kept at [] = omega arith
after_sections kept at (section ∷ sections) =
    let here = (aligned_least section.align at).enough in
    let atoms = after_end (aligned section.align at) (atoms_of kept section.atoms) in
    let rest = after_sections kept (end_of (aligned section.align at) (atoms_of kept section.atoms)) sections in
    omega arith

-- ---- the atoms of one section

-- `now` has the offsets of the first atoms behind those of `before`, and the next one may stand at `at`
pub record Standing (kept : List Atom) (keys : List AtomKey) (from : ℕ) (before : List Offset) (i at : ℕ) (now : List Offset) : Type 0 where
  pub places : now ++ offsets (stand at (atoms_of kept (drop i keys))) ≡ before ++ offsets (stand from (atoms_of kept keys))
  pub end : end_of at (atoms_of kept (drop i keys)) ≡ end_of from (atoms_of kept keys)

pub standing_starts : (kept : List Atom) (keys : List AtomKey) (from : ℕ) (before : List Offset) → Standing kept keys from before 0 from before
standing_starts kept keys from before = record { places = refl; end = refl }

without : (kept : List Atom) (keys : List AtomKey) (i : ℕ) (key d : AtomKey) → i < length keys → key ≡ get_or keys i d → None ≡ find (λ (atom : Atom). is_eq (compare_keys atom.key key)) kept → atoms_of kept (drop i keys) ≡ atoms_of kept (drop (i + 1) keys)
unfolding atoms_of
without kept keys i key d within is none = rw (drop-cons keys i d, ← is, ← none, add-one) refl

with_atom : (kept : List Atom) (keys : List AtomKey) (i : ℕ) (key d : AtomKey) (atom : Atom) → i < length keys → key ≡ get_or keys i d → Some atom ≡ find (λ (atom : Atom). is_eq (compare_keys atom.key key)) kept → atoms_of kept (drop i keys) ≡ atom ∷ atoms_of kept (drop (i + 1) keys)
unfolding atoms_of
with_atom kept keys i key d atom within is some = rw (drop-cons keys i d, ← is, ← some, add-one) refl

pub standing_skips : (kept : List Atom) (keys : List AtomKey) (from : ℕ) (before : List Offset) (i at : ℕ) (now : List Offset) (key d : AtomKey) → Standing kept keys from before i at now → i < length keys → key ≡ get_or keys i d → None ≡ find (λ (atom : Atom). is_eq (compare_keys atom.key key)) kept → Standing kept keys from before (i + 1) at now
standing_skips kept keys from before i at now key d standing within is none =
    let e = without kept keys i key d within is none in
    record {
      places = subst (λ (atoms : List Atom). now ++ offsets (stand at atoms) ≡ before ++ offsets (stand from (atoms_of kept keys))) e standing.places;
      end = subst (λ (atoms : List Atom). end_of at atoms ≡ end_of from (atoms_of kept keys)) e standing.end;
    }

stands : (at : ℕ) (atom : Atom) (atoms : List Atom) (now rest : List Offset) → now ++ offsets (stand at (atom ∷ atoms)) ≡ rest → (now ++ record { atom = atom.key; offset = aligned atom.align at } ∷ []) ++ offsets (stand (aligned atom.align at + atom.size) atoms) ≡ rest
unfolding stand
stands at atom atoms now rest e = append_assoc now (record { atom = atom.key; offset = aligned atom.align at } ∷ []) (offsets (stand (aligned atom.align at + atom.size) atoms)) ∙ e

ends : (at : ℕ) (atom : Atom) (atoms : List Atom) (end : ℕ) → end_of at (atom ∷ atoms) ≡ end → end_of (aligned atom.align at + atom.size) atoms ≡ end
unfolding end_of
ends at atom atoms end e = e

pub standing_goes_on : (kept : List Atom) (keys : List AtomKey) (from : ℕ) (before : List Offset) (i at : ℕ) (now new : List Offset) (key d : AtomKey) (atom : Atom) (offset : ℕ) → Standing kept keys from before i at now → i < length keys → key ≡ get_or keys i d → Some atom ≡ find (λ (atom : Atom). is_eq (compare_keys atom.key key)) kept → atom.key ≡ key → offset ≡ aligned atom.align at → new ≡ now ++ record { atom = key; offset = offset } ∷ [] → Standing kept keys from before (i + 1) (offset + atom.size) new
standing_goes_on kept keys from before i at now new key d atom offset standing within is some has rounded grown =
    let e = with_atom kept keys i key d atom within is some in
    let places = stands at atom (atoms_of kept (drop (i + 1) keys)) now (before ++ offsets (stand from (atoms_of kept keys))) (subst (λ (atoms : List Atom). now ++ offsets (stand at atoms) ≡ before ++ offsets (stand from (atoms_of kept keys))) e standing.places) in
    let end = ends at atom (atoms_of kept (drop (i + 1) keys)) (end_of from (atoms_of kept keys)) (subst (λ (atoms : List Atom). end_of at atoms ≡ end_of from (atoms_of kept keys)) e standing.end) in
    record {
      places = rw (grown, ← has, rounded) places;
      end = rw rounded end;
    }

pub standing_room : (kept : List Atom) (keys : List AtomKey) (from : ℕ) (before : List Offset) (i at : ℕ) (now : List Offset) (key d : AtomKey) (atom : Atom) → Standing kept keys from before i at now → i < length keys → key ≡ get_or keys i d → Some atom ≡ find (λ (atom : Atom). is_eq (compare_keys atom.key key)) kept → aligned atom.align at + atom.size ≤ end_of from (atoms_of kept keys)
standing_room kept keys from before i at now key d atom standing within is some =
    let e = with_atom kept keys i key d atom within is some in
    let end = ends at atom (atoms_of kept (drop (i + 1) keys)) (end_of from (atoms_of kept keys)) (subst (λ (atoms : List Atom). end_of at atoms ≡ end_of from (atoms_of kept keys)) e standing.end) in
    let rest = after_end (aligned atom.align at + atom.size) (atoms_of kept (drop (i + 1) keys)) in
    omega arith

nothing_stands : (at : ℕ) (keys : List AtomKey) (kept : List Atom) → keys ≡ [] → (offsets (stand at (atoms_of kept keys)) ≡ []) × (end_of at (atoms_of kept keys) ≡ at)
unfolding atoms_of stand end_of
nothing_stands at keys kept e = (rw e refl, rw e refl)

pub standing_ends : (kept : List Atom) (keys : List AtomKey) (from : ℕ) (before : List Offset) (i at : ℕ) (now : List Offset) → Standing kept keys from before i at now → length keys ≤ i → (now ≡ before ++ offsets (stand from (atoms_of kept keys))) × (at ≡ end_of from (atoms_of kept keys))
standing_ends kept keys from before i at now standing past =
    let none = nothing_stands at (drop i keys) kept (drop_all i keys past) in
    (sym (append-nil now) ∙ (ap (λ (rest : List Offset). now ++ rest) (sym none.0) ∙ standing.places), sym none.1 ∙ standing.end)

-- ---- the sections

pub record Placing (kept : List Atom) (sections : List OutSection) (i at : ℕ) (now : List Offset) : Type 0 where
  pub places : now ++ offsets (sections_stand kept at (thread_local (drop i sections))) ≡ offsets (template_stand kept sections)
  pub end : sections_end kept at (thread_local (drop i sections)) ≡ template_size kept sections

first_of_all : (kept : List Atom) (sections : List OutSection) → Placing kept sections 0 0 []
unfolding template_stand template_size
first_of_all kept sections = record { places = refl; end = refl }

pub placing_starts : (kept : List Atom) (sections : List OutSection) (now : List Offset) → now ≡ [] → Placing kept sections 0 0 now
placing_starts kept sections now e = rw e (first_of_all kept sections)

pub local_none : (sections : List OutSection) (i : ℕ) (section : OutSection) → i < length sections → section ≡ get_or sections i section → is_thread_local section ≡ false → thread_local (drop i sections) ≡ thread_local (drop (i + 1) sections)
unfolding thread_local
local_none sections i section within is away = rw (drop-cons sections i section, ← is, away, add-one) refl

pub local_some : (sections : List OutSection) (i : ℕ) (section : OutSection) → i < length sections → section ≡ get_or sections i section → is_thread_local section ≡ true → thread_local (drop i sections) ≡ section ∷ thread_local (drop (i + 1) sections)
unfolding thread_local
local_some sections i section within is yes' = rw (drop-cons sections i section, ← is, yes', add-one) refl

pub placing_skips : (kept : List Atom) (sections : List OutSection) (i at : ℕ) (now : List Offset) (section : OutSection) → Placing kept sections i at now → i < length sections → section ≡ get_or sections i section → is_thread_local section ≡ false → Placing kept sections (i + 1) at now
placing_skips kept sections i at now section placing within is away =
    let e = local_none sections i section within is away in
    record {
      places = subst (λ (rest : List OutSection). now ++ offsets (sections_stand kept at rest) ≡ offsets (template_stand kept sections)) e placing.places;
      end = subst (λ (rest : List OutSection). sections_end kept at rest ≡ template_size kept sections) e placing.end;
    }

section_ends : (kept : List Atom) (at : ℕ) (section : OutSection) (rest : List OutSection) (end : ℕ) → sections_end kept at (section ∷ rest) ≡ end → sections_end kept (end_of (aligned section.align at) (atoms_of kept section.atoms)) rest ≡ end
unfolding sections_end
section_ends kept at section rest end e = e

section_stands : (kept : List Atom) (at : ℕ) (section : OutSection) (rest : List OutSection) (now all : List Offset) → now ++ offsets (sections_stand kept at (section ∷ rest)) ≡ all → (now ++ offsets (stand (aligned section.align at) (atoms_of kept section.atoms))) ++ offsets (sections_stand kept (end_of (aligned section.align at) (atoms_of kept section.atoms)) rest) ≡ all
unfolding sections_stand
section_stands kept at section rest now all e =
    let here = stand (aligned section.align at) (atoms_of kept section.atoms) in
    let later = sections_stand kept (end_of (aligned section.align at) (atoms_of kept section.atoms)) rest in
    append_assoc now (offsets here) (offsets later) ∙ (ap (λ (os : List Offset). now ++ os) (sym (map-append (λ (p : Atom × ℕ). record { atom = p.0.key; offset = p.1 }) here later)) ∙ e)

pub placing_goes_on : (kept : List Atom) (sections : List OutSection) (i at : ℕ) (now new : List Offset) (section : OutSection) (from end : ℕ) → Placing kept sections i at now → i < length sections → section ≡ get_or sections i section → is_thread_local section ≡ true → from ≡ aligned section.align at → new ≡ now ++ offsets (stand from (atoms_of kept section.atoms)) → end ≡ end_of from (atoms_of kept section.atoms) → Placing kept sections (i + 1) end new
placing_goes_on kept sections i at now new section from end placing within is yes' rounded grown ended =
    let e = local_some sections i section within is yes' in
    let rest = thread_local (drop (i + 1) sections) in
    let places = section_stands kept at section rest now (offsets (template_stand kept sections)) (subst (λ (rest : List OutSection). now ++ offsets (sections_stand kept at rest) ≡ offsets (template_stand kept sections)) e placing.places) in
    let size = section_ends kept at section rest (template_size kept sections) (subst (λ (rest : List OutSection). sections_end kept at rest ≡ template_size kept sections) e placing.end) in
    record {
      places = rw (grown, ended, rounded) places;
      end = rw (ended, rounded) size;
    }

pub placing_room : (kept : List Atom) (sections : List OutSection) (i at : ℕ) (now : List Offset) (section : OutSection) → Placing kept sections i at now → i < length sections → section ≡ get_or sections i section → is_thread_local section ≡ true → (aligned section.align at ≤ template_size kept sections) × (end_of (aligned section.align at) (atoms_of kept section.atoms) ≤ template_size kept sections)
placing_room kept sections i at now section placing within is yes' =
    let e = local_some sections i section within is yes' in
    let rest = thread_local (drop (i + 1) sections) in
    let size = section_ends kept at section rest (template_size kept sections) (subst (λ (rest : List OutSection). sections_end kept at rest ≡ template_size kept sections) e placing.end) in
    let later = after_sections kept (end_of (aligned section.align at) (atoms_of kept section.atoms)) rest in
    let here = after_end (aligned section.align at) (atoms_of kept section.atoms) in
    (omega arith, omega arith)

nothing_placed : (kept : List Atom) (at : ℕ) (sections : List OutSection) → sections ≡ [] → (offsets (sections_stand kept at (thread_local sections)) ≡ []) × (sections_end kept at (thread_local sections) ≡ at)
unfolding thread_local sections_stand sections_end
nothing_placed kept at sections e = (rw e refl, rw e refl)

pub placing_ends : (kept : List Atom) (sections : List OutSection) (i at : ℕ) (now : List Offset) → Placing kept sections i at now → length sections ≤ i → (now ≡ offsets (template_stand kept sections)) × (at ≡ template_size kept sections)
placing_ends kept sections i at now placing past =
    let none = nothing_placed kept at (drop i sections) (drop_all i sections past) in
    (sym (append-nil now) ∙ (ap (λ (rest : List Offset). now ++ rest) (sym none.0) ∙ placing.places), sym none.1 ∙ placing.end)

-- ---- the least place, as the code finds it

some_number : (x y : ℕ) → Some x ≡ Some y → x ≡ y
some_number x y e = cc

no_number : (y : ℕ) → None ≡ Some y → ⊥
no_number y e = cc

pub rounds : (align at place : ℕ) → Some place ≡ least_multiple_below (2 ^ 64) (2 ^ align) at → aligned align at < 2 ^ 64 → place ≡ aligned align at
unfolding aligned
rounds align at place e within =
    let low : ltb (least_multiple (2 ^ align) at) (2 ^ 64) ≡ true = lt-ltb (least_multiple (2 ^ align) at) (2 ^ 64) within in
    some_number place (least_multiple (2 ^ align) at) (rw low at e)

pub never_past : (align at : ℕ) → None ≡ least_multiple_below (2 ^ 64) (2 ^ align) at → aligned align at < 2 ^ 64 → ⊥
unfolding aligned
never_past align at e within =
    let low : ltb (least_multiple (2 ^ align) at) (2 ^ 64) ≡ true = lt-ltb (least_multiple (2 ^ align) at) (2 ^ 64) within in
    no_number (least_multiple (2 ^ align) at) (rw low at e)

-- ---- the greatest alignment

pub greatest_starts : (sections : List OutSection) → max 0 (greatest_align (thread_local (drop 0 sections))) ≡ greatest_align (thread_local sections)
greatest_starts sections = omega arith

pub greatest_skips : (sections : List OutSection) (i greatest all : ℕ) (section : OutSection) → max greatest (greatest_align (thread_local (drop i sections))) ≡ all → i < length sections → section ≡ get_or sections i section → is_thread_local section ≡ false → max greatest (greatest_align (thread_local (drop (i + 1) sections))) ≡ all
greatest_skips sections i greatest all section so_far within is away =
    subst (λ (rest : List OutSection). max greatest (greatest_align rest) ≡ all) (local_none sections i section within is away) so_far

one_greatest : (section : OutSection) (rest : List OutSection) → greatest_align (section ∷ rest) ≡ max section.align (greatest_align rest)
unfolding greatest_align
one_greatest section rest = refl

pub greatest_goes_on : (sections : List OutSection) (i greatest all new : ℕ) (section : OutSection) → max greatest (greatest_align (thread_local (drop i sections))) ≡ all → i < length sections → section ≡ get_or sections i section → is_thread_local section ≡ true → new ≡ max greatest section.align → max new (greatest_align (thread_local (drop (i + 1) sections))) ≡ all
greatest_goes_on sections i greatest all new section so_far within is yes' larger =
    let here : max greatest (greatest_align (section ∷ thread_local (drop (i + 1) sections))) ≡ all = subst (λ (rest : List OutSection). max greatest (greatest_align rest) ≡ all) (local_some sections i section within is yes') so_far in
    let one = one_greatest section (thread_local (drop (i + 1) sections)) in
    omega arith

none_greatest : (sections : List OutSection) → sections ≡ [] → greatest_align (thread_local sections) ≡ 0
unfolding greatest_align thread_local
none_greatest sections e = rw e refl

pub greatest_ends : (sections : List OutSection) (i greatest all : ℕ) → max greatest (greatest_align (thread_local (drop i sections))) ≡ all → length sections ≤ i → greatest ≡ all
greatest_ends sections i greatest all so_far past =
    let none = none_greatest (drop i sections) (drop_all i sections past) in
    omega arith

-- ---- where things end, alone

-- the end of what is left is that of all
pub record Ending (kept : List Atom) (keys : List AtomKey) (from i at : ℕ) : Type 0 where
  pub fits : at < 2 ^ 64
  pub end : end_of at (atoms_of kept (drop i keys)) ≡ end_of from (atoms_of kept keys)

pub ending_starts : (kept : List Atom) (keys : List AtomKey) (from : ℕ) → from < 2 ^ 64 → Ending kept keys from 0 from
ending_starts kept keys from small = record { fits = small; end = refl }

pub ending_skips : (kept : List Atom) (keys : List AtomKey) (from i at : ℕ) (key d : AtomKey) → Ending kept keys from i at → i < length keys → key ≡ get_or keys i d → None ≡ find (λ (atom : Atom). is_eq (compare_keys atom.key key)) kept → Ending kept keys from (i + 1) at
ending_skips kept keys from i at key d ending within is none =
    record { fits = ending.fits; end = subst (λ (atoms : List Atom). end_of at atoms ≡ end_of from (atoms_of kept keys)) (without kept keys i key d within is none) ending.end }

pub ending_goes_on : (kept : List Atom) (keys : List AtomKey) (from i at next : ℕ) (key d : AtomKey) (atom : Atom) → Ending kept keys from i at → i < length keys → key ≡ get_or keys i d → Some atom ≡ find (λ (atom : Atom). is_eq (compare_keys atom.key key)) kept → next ≡ aligned atom.align at + atom.size → next < 2 ^ 64 → Ending kept keys from (i + 1) next
ending_goes_on kept keys from i at next key d atom ending within is some e small =
    let here = subst (λ (atoms : List Atom). end_of at atoms ≡ end_of from (atoms_of kept keys)) (with_atom kept keys i key d atom within is some) ending.end in
    record { fits = small; end = rw e (ends at atom (atoms_of kept (drop (i + 1) keys)) (end_of from (atoms_of kept keys)) here) }

pub ending_room : (kept : List Atom) (keys : List AtomKey) (from i at : ℕ) (key d : AtomKey) (atom : Atom) → Ending kept keys from i at → i < length keys → key ≡ get_or keys i d → Some atom ≡ find (λ (atom : Atom). is_eq (compare_keys atom.key key)) kept → aligned atom.align at + atom.size ≤ end_of from (atoms_of kept keys)
ending_room kept keys from i at key d atom ending within is some =
    let here = subst (λ (atoms : List Atom). end_of at atoms ≡ end_of from (atoms_of kept keys)) (with_atom kept keys i key d atom within is some) ending.end in
    let end = ends at atom (atoms_of kept (drop (i + 1) keys)) (end_of from (atoms_of kept keys)) here in
    let rest = after_end (aligned atom.align at + atom.size) (atoms_of kept (drop (i + 1) keys)) in
    omega arith

pub ending_ends : (kept : List Atom) (keys : List AtomKey) (from i at : ℕ) → Ending kept keys from i at → length keys ≤ i → (end_of from (atoms_of kept keys) < 2 ^ 64) × (at ≡ end_of from (atoms_of kept keys))
ending_ends kept keys from i at ending past =
    let same : at ≡ end_of from (atoms_of kept keys) = sym (nothing_stands at (drop i keys) kept (drop_all i keys past)).1 ∙ ending.end in
    (omega (arith, ending.fits), same)

pub record Closing (kept : List Atom) (sections : List OutSection) (i at : ℕ) : Type 0 where
  pub fits : at < 2 ^ 64
  pub end : sections_end kept at (thread_local (drop i sections)) ≡ template_size kept sections

pub closing_starts : (kept : List Atom) (sections : List OutSection) → Closing kept sections 0 0
closing_starts kept sections = record { fits = omega arith; end = (first_of_all kept sections).end }

pub closing_skips : (kept : List Atom) (sections : List OutSection) (i at : ℕ) (section : OutSection) → Closing kept sections i at → i < length sections → section ≡ get_or sections i section → is_thread_local section ≡ false → Closing kept sections (i + 1) at
closing_skips kept sections i at section closing within is away =
    record { fits = closing.fits; end = subst (λ (rest : List OutSection). sections_end kept at rest ≡ template_size kept sections) (local_none sections i section within is away) closing.end }

pub closing_goes_on : (kept : List Atom) (sections : List OutSection) (i at end : ℕ) (section : OutSection) → Closing kept sections i at → i < length sections → section ≡ get_or sections i section → is_thread_local section ≡ true → end ≡ end_of (aligned section.align at) (atoms_of kept section.atoms) → end < 2 ^ 64 → Closing kept sections (i + 1) end
closing_goes_on kept sections i at end section closing within is yes' e small =
    let here = subst (λ (rest : List OutSection). sections_end kept at rest ≡ template_size kept sections) (local_some sections i section within is yes') closing.end in
    record { fits = small; end = rw e (section_ends kept at section (thread_local (drop (i + 1) sections)) (template_size kept sections) here) }

pub closing_room : (kept : List Atom) (sections : List OutSection) (i at : ℕ) (section : OutSection) → Closing kept sections i at → i < length sections → section ≡ get_or sections i section → is_thread_local section ≡ true → (aligned section.align at ≤ template_size kept sections) × (end_of (aligned section.align at) (atoms_of kept section.atoms) ≤ template_size kept sections)
closing_room kept sections i at section closing within is yes' =
    let here = subst (λ (rest : List OutSection). sections_end kept at rest ≡ template_size kept sections) (local_some sections i section within is yes') closing.end in
    let size = section_ends kept at section (thread_local (drop (i + 1) sections)) (template_size kept sections) here in
    let later = after_sections kept (end_of (aligned section.align at) (atoms_of kept section.atoms)) (thread_local (drop (i + 1) sections)) in
    let atoms = after_end (aligned section.align at) (atoms_of kept section.atoms) in
    (omega arith, omega arith)

pub closing_ends : (kept : List Atom) (sections : List OutSection) (i at : ℕ) → Closing kept sections i at → length sections ≤ i → (template_size kept sections < 2 ^ 64) × (at ≡ template_size kept sections)
closing_ends kept sections i at closing past =
    let same : at ≡ template_size kept sections = sym (nothing_placed kept at (drop i sections) (drop_all i sections past)).1 ∙ closing.end in
    (omega (arith, closing.fits), same)

-- an end that is computed, or is past what 64 bits hold
pub next_of : (align at size place : ℕ) (sum : Option ℕ) → Some place ≡ least_multiple_below (2 ^ 64) (2 ^ align) at → SomeIff sum (place + size < 2 ^ 64) (place + size) → SomeIff sum (aligned align at + size < 2 ^ 64) (aligned align at + size)
unfolding aligned
next_of align at size place sum e cause = by (cases_lt (least_multiple (2 ^ align) at) (2 ^ 64))
  where
    by : (least_multiple (2 ^ align) at < 2 ^ 64) ⊎ (2 ^ 64 ≤ least_multiple (2 ^ align) at) → SomeIff sum (least_multiple (2 ^ align) at + size < 2 ^ 64) (least_multiple (2 ^ align) at + size)
    by (inl low) =
        let test : ltb (least_multiple (2 ^ align) at) (2 ^ 64) ≡ true = lt-ltb (least_multiple (2 ^ align) at) (2 ^ 64) low in
        subst (λ (p : ℕ). SomeIff sum (p + size < 2 ^ 64) (p + size)) (some_number place (least_multiple (2 ^ align) at) (rw test at e)) cause
    by (inr high) =
        let test : ltb (least_multiple (2 ^ align) at) (2 ^ 64) ≡ false = le-ltb (least_multiple (2 ^ align) at) (2 ^ 64) high in
        absurd (no_number place (sym (rw test at e)))

pub next_past : (align at size : ℕ) → None ≡ least_multiple_below (2 ^ 64) (2 ^ align) at → aligned align at + size < 2 ^ 64 → ⊥
next_past align at size e within = never_past align at e (omega arith)
