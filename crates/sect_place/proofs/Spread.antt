-- How the loops go through the sections of a segment, and through segments.
use Rattle.std.proofs.Common.{◌≡◌, ℕ, suc, ◌+◌, ◌-◌, ◌*◌, ◌^◌, ◌<◌, ◌≤◌, ◌==◌, ◌&&◌, not, if◌then◌else◌, inl, inr, List, [], ◌∷◌, ◌++◌, length, get_or, map, refl, sym, ap, subst, ◌∙◌, arith, append_assoc, append-nil}
use Rattle.std.proofs.lemmas.Bool.{cases_Bool}
use Rattle.std.proofs.lemmas.List.{map-append, nil_from_length}
use Rattle.mo_types.specs.Whole.{is_zerofill}
use Rattle.mo_types.specs.declared.atom.Atom.{Atom}
use Rattle.mo_types.specs.declared.key.AtomKey.{AtomKey}
use Rattle.tlv_plan.specs.Template.{aligned, stand, end_of}
use Rattle.tlv_plan.proofs.Walk.{aligned_least, after_end}
use Rattle.sect_place.specs.Places.{places, part_from, part_end, parts_end, is_filled, parts_filled, placed_section, parts_sections, parts_places, page_up, group_end, file_bytes, protection_of, flags_of, segment_of, groups_segments, groups_sections, groups_places, groups_end, groups_file}
use Rattle.sect_place.specs.inner.Room.{capped_place, capped_section, capped_segment}
use Rattle.sect_place.specs.declared.layout.Placed.{Placed}
use Rattle.sect_place.specs.declared.layout.PlacedSection.{PlacedSection}
use Rattle.sect_place.specs.declared.layout.Segment.{Segment}
use Rattle.sect_place.specs.declared.part.Group.{Group}
use Rattle.sect_place.specs.declared.part.Part.{Part}

-- what holds of all of a list holds of its first element, and of the others
pub all_split : {X : Type 0} (P : X → Type 0) (rest next : List X) (x : X) → ((k : ℕ) (d : X) → k < length rest → P (get_or rest k d)) → rest ≡ x ∷ next → P x × ((k : ℕ) (d : X) → k < length next → P (get_or next k d))
all_split {X = X} P rest next x all e =
    let here : (k : ℕ) (d : X) → k < length (x ∷ next) → P (get_or (x ∷ next) k d) = subst (λ (xs : List X). (k : ℕ) (d : X) → k < length xs → P (get_or xs k d)) e all in
    (here 0 x (omega arith), λ k d within. here (suc k) d (omega arith))

-- ---- one section

pub part_bounds : (atoms : List AtomKey → List Atom) (at : ℕ) (part : Part) → (at ≤ part_from at part) × (part_from at part ≤ part_end atoms at part)
unfolding part_end
part_bounds atoms at part =
    let begins = (aligned_least part.section.align at).enough in
    let ends = after_end (part_from at part) (atoms part.section.atoms) in
    (begins, omega arith)

pub parts_after : (atoms : List AtomKey → List Atom) (at : ℕ) (parts : List Part) → at ≤ parts_end atoms at parts
unfolding parts_end
parts_after atoms at [] = omega arith
parts_after atoms at (part ∷ parts) =
    let here = part_bounds atoms at part in
    let rest = parts_after atoms (part_end atoms at part) parts in
    omega arith

pub filled_bounds : (atoms : List AtomKey → List Atom) (filled at : ℕ) (parts : List Part) → filled ≤ at → (filled ≤ parts_filled atoms filled at parts) × (parts_filled atoms filled at parts ≤ parts_end atoms at parts)
unfolding parts_filled parts_end
filled_bounds atoms filled at [] low = (omega arith, low)
filled_bounds atoms filled at (part ∷ parts) low =
    let here = part_bounds atoms at part in
    elim (cases_Bool (is_filled atoms at part)) [
      | inl fills ↦
          let rest = filled_bounds atoms (part_end atoms at part) (part_end atoms at part) parts (omega arith) in
          rw fills (omega (arith, rest.0), rest.1)
      | inr empty ↦
          let rest = filled_bounds atoms filled (part_end atoms at part) parts (omega arith) in
          rw empty rest
    ]

-- What was placed, with what is left of the sections of a segment, is all.
pub record Laying (atoms : List AtomKey → List Atom) (start file at filled : ℕ) (rest : List Part) (sections all_sections : List PlacedSection) (placed all_placed : List Placed) (end file_end : ℕ) : Type 0 where
  pub sections_left : sections ++ map capped_section (parts_sections atoms start file at rest) ≡ all_sections
  pub places_left : placed ++ map capped_place (parts_places atoms at rest) ≡ all_placed
  pub end_left : parts_end atoms at rest ≡ end
  pub file_left : parts_filled atoms filled at rest ≡ file_end
  pub begun : start ≤ at

pub laying_starts : (atoms : List AtomKey → List Atom) (start file at : ℕ) (rest parts : List Part) (sections : List PlacedSection) (placed : List Placed) → rest ≡ parts → start ≤ at → Laying atoms start file at at rest sections (sections ++ map capped_section (parts_sections atoms start file at parts)) placed (placed ++ map capped_place (parts_places atoms at parts)) (parts_end atoms at parts) (parts_filled atoms at at parts)
laying_starts atoms start file at rest parts sections placed e low =
    rw e (record { sections_left = refl; places_left = refl; end_left = refl; file_left = refl; begun = low })

one_laid : (atoms : List AtomKey → List Atom) (start file at filled : ℕ) (part : Part) (next : List Part) (sections all_sections : List PlacedSection) (placed all_placed : List Placed) (end file_end : ℕ) → Laying atoms start file at filled (part ∷ next) sections all_sections placed all_placed end file_end → Laying atoms start file (part_end atoms at part) (if is_filled atoms at part then part_end atoms at part else filled) next (sections ++ capped_section (placed_section atoms start file at part) ∷ []) all_sections (placed ++ map capped_place (places (stand (part_from at part) (atoms part.section.atoms)))) all_placed end file_end
unfolding parts_end parts_filled parts_sections parts_places
one_laid atoms start file at filled part next sections all_sections placed all_placed end file_end laying =
    let bounds = part_bounds atoms at part in
    let here = places (stand (part_from at part) (atoms part.section.atoms)) in
    let later = parts_places atoms (part_end atoms at part) next in
    record {
      sections_left = append_assoc sections (capped_section (placed_section atoms start file at part) ∷ []) (map capped_section (parts_sections atoms start file (part_end atoms at part) next)) ∙ laying.sections_left;
      places_left = append_assoc placed (map capped_place here) (map capped_place later) ∙ (ap (λ (ps : List Placed). placed ++ ps) (sym (map-append capped_place here later)) ∙ laying.places_left);
      end_left = laying.end_left;
      file_left = laying.file_left;
      begun = omega (arith, laying.begun);
    }

pub laying_on : (atoms : List AtomKey → List Atom) (start file at filled address end filled' : ℕ) (rest next : List Part) (part : Part) (s : PlacedSection) (sections sections' all_sections : List PlacedSection) (placed placed' all_placed : List Placed) (final file_final : ℕ) → Laying atoms start file at filled rest sections all_sections placed all_placed final file_final → rest ≡ part ∷ next → address ≡ aligned part.section.align at → end ≡ end_of address (atoms part.section.atoms) + part.fixed → filled' ≡ (if not (is_zerofill part.section.kind) && not (end == address) then end else filled) → s ≡ capped_section (record { section = part.section; address = address; size = end - address; file_offset = (if is_zerofill part.section.kind then 0 else file + (address - start)) }) → sections' ≡ sections ++ s ∷ [] → placed' ≡ placed ++ map capped_place (places (stand address (atoms part.section.atoms))) → Laying atoms start file end filled' next sections' all_sections placed' all_placed final file_final
unfolding part_end is_filled placed_section
laying_on atoms start file at filled address end filled' rest next part s sections sections' all_sections placed placed' all_placed final file_final laying e rounded ended marked shown grown stood =
    let here = subst (λ (ps : List Part). Laying atoms start file at filled ps sections all_sections placed all_placed final file_final) e laying in
    let turned = one_laid atoms start file at filled part next sections all_sections placed all_placed final file_final here in
    rw (grown, shown, stood, marked, ended, rounded) turned

pub laying_room : (atoms : List AtomKey → List Atom) (start file at filled : ℕ) (rest next : List Part) (part : Part) (sections all_sections : List PlacedSection) (placed all_placed : List Placed) (final file_final : ℕ) → Laying atoms start file at filled rest sections all_sections placed all_placed final file_final → rest ≡ part ∷ next → (start ≤ at) × (at ≤ aligned part.section.align at) × (aligned part.section.align at ≤ end_of (aligned part.section.align at) (atoms part.section.atoms)) × (end_of (aligned part.section.align at) (atoms part.section.atoms) + part.fixed ≤ final)
unfolding parts_end part_end
laying_room atoms start file at filled rest next part sections all_sections placed all_placed final file_final laying e =
    let here = subst (λ (ps : List Part). Laying atoms start file at filled ps sections all_sections placed all_placed final file_final) e laying in
    let bounds = part_bounds atoms at part in
    let ends = after_end (aligned part.section.align at) (atoms part.section.atoms) in
    let later = parts_after atoms (end_of (aligned part.section.align at) (atoms part.section.atoms) + part.fixed) next in
    (here.begun, bounds.0, ends, omega (arith, later, here.end_left))

none_laid : (atoms : List AtomKey → List Atom) (start file at filled : ℕ) (rest : List Part) (sections all_sections : List PlacedSection) (placed all_placed : List Placed) (final file_final : ℕ) → rest ≡ [] → Laying atoms start file at filled rest sections all_sections placed all_placed final file_final → (sections ≡ all_sections) × (placed ≡ all_placed) × (at ≡ final) × (filled ≡ file_final)
unfolding parts_end parts_filled parts_sections parts_places
none_laid atoms start file at filled rest sections all_sections placed all_placed final file_final none laying =
    let last = subst (λ (ps : List Part). Laying atoms start file at filled ps sections all_sections placed all_placed final file_final) none laying in
    (sym (append-nil sections) ∙ last.sections_left, sym (append-nil placed) ∙ last.places_left, last.end_left, last.file_left)

pub laying_ends : (atoms : List AtomKey → List Atom) (start file at filled : ℕ) (rest : List Part) (sections all_sections : List PlacedSection) (placed all_placed : List Placed) (final file_final : ℕ) → Laying atoms start file at filled rest sections all_sections placed all_placed final file_final → length rest ≡ 0 → (sections ≡ all_sections) × (placed ≡ all_placed) × (at ≡ final) × (filled ≡ file_final)
laying_ends atoms start file at filled rest sections all_sections placed all_placed final file_final laying none =
    none_laid atoms start file at filled rest sections all_sections placed all_placed final file_final (nil_from_length rest none) laying

-- ---- segments

-- rounding keeps order
pub aligned_order : (align a b : ℕ) → a ≤ b → aligned align a ≤ aligned align b
aligned_order align a b low =
    let lower = aligned_least align a in
    let upper = aligned_least align b in
    let reach : aligned align a ≤ upper.whole.0 * 2 ^ align = lower.least upper.whole.0 (omega (arith, upper.whole.1, upper.enough)) in
    omega (arith, reach, upper.whole.1)

-- where a segment's sections begin, where they end, and where its bytes in the file end
pub group_bounds : (atoms : List AtomKey → List Atom) (at lead : ℕ) (parts : List Part) → (at + lead ≤ parts_end atoms (at + lead) parts) × (at + lead ≤ parts_filled atoms (at + lead) (at + lead) parts) × (parts_filled atoms (at + lead) (at + lead) parts ≤ parts_end atoms (at + lead) parts) × (parts_end atoms (at + lead) parts ≤ page_up (parts_end atoms (at + lead) parts)) × (parts_filled atoms (at + lead) (at + lead) parts ≤ page_up (parts_filled atoms (at + lead) (at + lead) parts)) × (page_up (parts_filled atoms (at + lead) (at + lead) parts) ≤ page_up (parts_end atoms (at + lead) parts))
group_bounds atoms at lead parts =
    let filled = filled_bounds atoms (at + lead) (at + lead) parts (omega arith) in
    (parts_after atoms (at + lead) parts, filled.0, filled.1, (aligned_least 14 (parts_end atoms (at + lead) parts)).enough, (aligned_least 14 (parts_filled atoms (at + lead) (at + lead) parts)).enough, aligned_order 14 (parts_filled atoms (at + lead) (at + lead) parts) (parts_end atoms (at + lead) parts) filled.1)

pub groups_after : (atoms : List AtomKey → List Atom) (at lead : ℕ) (groups : List Group) → at ≤ groups_end atoms at lead groups
unfolding groups_end
groups_after atoms at lead [] = omega arith
groups_after atoms at lead (group ∷ groups) =
    let here = group_bounds atoms at lead group.parts in
    let rest = groups_after atoms (page_up (group_end atoms at lead group)) 0 groups in
    omega arith

-- What was placed, with what is left of the segments, is all.
pub record Spreading (atoms : List AtomKey → List Atom) (at file lead : ℕ) (rest : List Group) (segments all_segments : List Segment) (sections all_sections : List PlacedSection) (placed all_placed : List Placed) (end file_end : ℕ) : Type 0 where
  pub segments_left : segments ++ map capped_segment (groups_segments atoms at file lead rest) ≡ all_segments
  pub sections_left : sections ++ map capped_section (groups_sections atoms at file lead rest) ≡ all_sections
  pub places_left : placed ++ map capped_place (groups_places atoms at lead rest) ≡ all_placed
  pub end_left : groups_end atoms at lead rest ≡ end
  pub file_left : groups_file atoms at file lead rest ≡ file_end
  pub before : file ≤ at

pub spreading_starts : (atoms : List AtomKey → List Atom) (at file lead : ℕ) (rest groups : List Group) (segments : List Segment) (sections : List PlacedSection) (placed : List Placed) → rest ≡ groups → sections ≡ [] → placed ≡ [] → file ≡ 0 → Spreading atoms at file lead rest segments (segments ++ map capped_segment (groups_segments atoms at 0 lead groups)) sections (map capped_section (groups_sections atoms at 0 lead groups)) placed (map capped_place (groups_places atoms at lead groups)) (groups_end atoms at lead groups) (groups_file atoms at 0 lead groups)
spreading_starts atoms at file lead rest groups segments sections placed e f g h =
    rw (e, f, g, h) (record { segments_left = refl; sections_left = refl; places_left = refl; end_left = refl; file_left = refl; before = omega arith })

one_spread : (atoms : List AtomKey → List Atom) (at file lead : ℕ) (group : Group) (next : List Group) (segments all_segments : List Segment) (sections all_sections : List PlacedSection) (placed all_placed : List Placed) (end file_end : ℕ) → Spreading atoms at file lead (group ∷ next) segments all_segments sections all_sections placed all_placed end file_end → Spreading atoms (page_up (group_end atoms at lead group)) (file + file_bytes atoms at lead group) 0 next (segments ++ capped_segment (segment_of atoms at file lead group) ∷ []) all_segments (sections ++ map capped_section (parts_sections atoms at file (at + lead) group.parts)) all_sections (placed ++ map capped_place (parts_places atoms (at + lead) group.parts)) all_placed end file_end
unfolding groups_end groups_file groups_segments groups_sections groups_places file_bytes
one_spread atoms at file lead group next segments all_segments sections all_sections placed all_placed end file_end spreading =
    let bounds = group_bounds atoms at lead group.parts in
    let at' = page_up (group_end atoms at lead group) in
    let file' = file + file_bytes atoms at lead group in
    let here_sections = parts_sections atoms at file (at + lead) group.parts in
    let later_sections = groups_sections atoms at' file' 0 next in
    let here_places = parts_places atoms (at + lead) group.parts in
    let later_places = groups_places atoms at' 0 next in
    record {
      segments_left = append_assoc segments (capped_segment (segment_of atoms at file lead group) ∷ []) (map capped_segment (groups_segments atoms at' file' 0 next)) ∙ spreading.segments_left;
      sections_left = append_assoc sections (map capped_section here_sections) (map capped_section later_sections) ∙ (ap (λ (ps : List PlacedSection). sections ++ ps) (sym (map-append capped_section here_sections later_sections)) ∙ spreading.sections_left);
      places_left = append_assoc placed (map capped_place here_places) (map capped_place later_places) ∙ (ap (λ (ps : List Placed). placed ++ ps) (sym (map-append capped_place here_places later_places)) ∙ spreading.places_left);
      end_left = spreading.end_left;
      file_left = spreading.file_left;
      before = omega (arith, spreading.before);
    }

pub spreading_on : (atoms : List AtomKey → List Atom) (at file lead from memory filled at' bytes : ℕ) (rest next : List Group) (group : Group) (s : Segment) (segments segments' all_segments : List Segment) (sections sections' all_sections : List PlacedSection) (placed placed' all_placed : List Placed) (end file_end : ℕ) → Spreading atoms at file lead rest segments all_segments sections all_sections placed all_placed end file_end → rest ≡ group ∷ next → from ≡ at + lead → memory ≡ parts_end atoms from group.parts → filled ≡ parts_filled atoms from from group.parts → at' ≡ aligned 14 memory → bytes ≡ aligned 14 filled - at → s ≡ capped_segment (record { name = group.name; address = at; vmsize = at' - at; file_offset = file; file_size = bytes; protection = protection_of group.name; flags = flags_of group.name; sections = length group.parts }) → segments' ≡ segments ++ s ∷ [] → sections' ≡ sections ++ map capped_section (parts_sections atoms at file from group.parts) → placed' ≡ placed ++ map capped_place (parts_places atoms from group.parts) → Spreading atoms at' (file + bytes) 0 next segments' all_segments sections' all_sections placed' all_placed end file_end
unfolding segment_of file_bytes
spreading_on atoms at file lead from memory filled at' bytes rest next group s segments segments' all_segments sections sections' all_sections placed placed' all_placed end file_end spreading e begins ends fills rounded sized shown grown laid stood =
    let here = subst (λ (gs : List Group). Spreading atoms at file lead gs segments all_segments sections all_sections placed all_placed end file_end) e spreading in
    let turned = one_spread atoms at file lead group next segments all_segments sections all_sections placed all_placed end file_end here in
    rw (grown, shown, laid, stood, sized, rounded, ends, fills, begins) turned

pub spreading_room : (atoms : List AtomKey → List Atom) (at file lead : ℕ) (rest next : List Group) (group : Group) (segments all_segments : List Segment) (sections all_sections : List PlacedSection) (placed all_placed : List Placed) (end file_end : ℕ) → Spreading atoms at file lead rest segments all_segments sections all_sections placed all_placed end file_end → rest ≡ group ∷ next → (file ≤ at) × (page_up (parts_end atoms (at + lead) group.parts) ≤ end)
unfolding groups_end
spreading_room atoms at file lead rest next group segments all_segments sections all_sections placed all_placed end file_end spreading e =
    let here = subst (λ (gs : List Group). Spreading atoms at file lead gs segments all_segments sections all_sections placed all_placed end file_end) e spreading in
    let later = groups_after atoms (page_up (group_end atoms at lead group)) 0 next in
    (here.before, omega (arith, later, here.end_left))

none_spread : (atoms : List AtomKey → List Atom) (at file lead : ℕ) (rest : List Group) (segments all_segments : List Segment) (sections all_sections : List PlacedSection) (placed all_placed : List Placed) (end file_end : ℕ) → rest ≡ [] → Spreading atoms at file lead rest segments all_segments sections all_sections placed all_placed end file_end → (segments ≡ all_segments) × (sections ≡ all_sections) × (placed ≡ all_placed) × (at ≡ end) × (file ≡ file_end)
unfolding groups_end groups_file groups_segments groups_sections groups_places
none_spread atoms at file lead rest segments all_segments sections all_sections placed all_placed end file_end none spreading =
    let last = subst (λ (gs : List Group). Spreading atoms at file lead gs segments all_segments sections all_sections placed all_placed end file_end) none spreading in
    (sym (append-nil segments) ∙ last.segments_left, sym (append-nil sections) ∙ last.sections_left, sym (append-nil placed) ∙ last.places_left, last.end_left, last.file_left)

pub spreading_ends : (atoms : List AtomKey → List Atom) (at file lead : ℕ) (rest : List Group) (segments all_segments : List Segment) (sections all_sections : List PlacedSection) (placed all_placed : List Placed) (end file_end : ℕ) → Spreading atoms at file lead rest segments all_segments sections all_sections placed all_placed end file_end → length rest ≡ 0 → (segments ≡ all_segments) × (sections ≡ all_sections) × (placed ≡ all_placed) × (at ≡ end) × (file ≡ file_end)
spreading_ends atoms at file lead rest segments all_segments sections all_sections placed all_placed end file_end spreading none =
    none_spread atoms at file lead rest segments all_segments sections all_sections placed all_placed end file_end (nil_from_length rest none) spreading
