-- What the places of atoms and sections in an image are: multiples of alignments, apart, and the least.
use Rattle.std.proofs.Common.{◌≡◌, ℕ, zero, suc, ◌+◌, ◌-◌, ◌*◌, ◌^◌, ◌<◌, ◌≤◌, List, [], ◌∷◌, ◌++◌, length, get_or, map, All, refl, sym, ap, ap₂, subst, ◌∙◌, arith}
use Rattle.std.specs.List.{AllByRecursion, AllPairs}
use Rattle.std.proofs.lemmas.List.{map-append}
use Rattle.list_lemmas.proofs.Members.{all_at}
use Rattle.mo_bytes.specs.Rounding.{IsLeastMultiple}
use Rattle.mo_bytes.proofs.Multiples.{same_least}
use Rattle.mo_types.specs.declared.atom.Atom.{Atom}
use Rattle.mo_types.specs.declared.key.AtomKey.{AtomKey}
use Rattle.tlv_plan.specs.Template.{aligned, stand, end_of}
use Rattle.tlv_plan.proofs.Walk.{aligned_least}
use Rattle.sect_place.specs.Layout.{Plan, image_stand, image_places, image_sections}
use Rattle.sect_place.specs.Places.{AreLeast, places, part_from, part_end, parts_end, placed_section, parts_sections, parts_places, parts_stand, page_up, group_end, file_bytes, groups_sections, groups_places, groups_stand, groups_end}
use Rattle.sect_place.specs.declared.layout.Placed.{Placed}
use Rattle.sect_place.specs.declared.layout.PlacedSection.{PlacedSection}
use Rattle.sect_place.specs.declared.part.Group.{Group}
use Rattle.sect_place.specs.declared.part.Part.{Part}
use Rattle.sect_place.proofs.Spread.{part_bounds, group_bounds}

all_join : {X : Type 0} (P : X → Type 0) (xs ys : List X) → AllByRecursion P xs → AllByRecursion P ys → AllByRecursion P (xs ++ ys)
all_join P [] ys p q = q
all_join P (x ∷ xs) ys p q = (p.0, all_join P xs ys p.1 q)

-- ---- things that stand one behind the other, by where they begin and end

abbrev Chain : {X : Type 0} → (X → ℕ) → (X → ℕ) → ℕ → List X → ℕ → Type 0
Chain begins ends at [] end = at ≤ end
Chain begins ends at (x ∷ xs) end = (at ≤ begins x) × (begins x ≤ ends x) × Chain begins ends (ends x) xs end

earlier : {X : Type 0} (begins ends : X → ℕ) (at middle end : ℕ) (xs : List X) → at ≤ middle → Chain begins ends middle xs end → Chain begins ends at xs end
earlier begins ends at middle end [] low chain = omega arith
earlier begins ends at middle end (x ∷ xs) low chain = (omega (arith, chain.0), chain.1, chain.2)

chain_join : {X : Type 0} (begins ends : X → ℕ) (at middle end : ℕ) (xs ys : List X) → Chain begins ends at xs middle → Chain begins ends middle ys end → Chain begins ends at (xs ++ ys) end
chain_join begins ends at middle end [] ys p q = earlier begins ends at middle end ys p q
chain_join begins ends at middle end (x ∷ xs) ys p q = (p.0, p.1, chain_join begins ends (ends x) middle end xs ys p.2 q)

chain_at : {X : Type 0} (begins ends : X → ℕ) (at end : ℕ) (xs : List X) → Chain begins ends at xs end → (k : ℕ) (d : X) → k < length xs → at ≤ begins (get_or xs k d)
chain_at begins ends at end [] chain k d within = absurd (omega arith)
chain_at begins ends at end (x ∷ xs) chain zero d within = chain.0
chain_at begins ends at end (x ∷ xs) chain (suc k) d within =
    let rest = chain_at begins ends (ends x) end xs chain.2 k d (omega arith) in
    omega (arith, chain.0, chain.1, rest)

chain_pairs : {X : Type 0} (begins ends : X → ℕ) (at end : ℕ) (xs : List X) → Chain begins ends at xs end → (i j : ℕ) (d : X) → i < j → j < length xs → ends (get_or xs i d) ≤ begins (get_or xs j d)
chain_pairs begins ends at end [] chain i j d low within = absurd (omega arith)
chain_pairs begins ends at end (x ∷ xs) chain zero zero d low within = absurd (omega arith)
chain_pairs begins ends at end (x ∷ xs) chain zero (suc j) d low within = chain_at begins ends (ends x) end xs chain.2 j d (omega arith)
chain_pairs begins ends at end (x ∷ xs) chain (suc i) zero d low within = absurd (omega arith)
chain_pairs begins ends at end (x ∷ xs) chain (suc i) (suc j) d low within = chain_pairs begins ends (ends x) end xs chain.2 i j d (omega arith) (omega arith)

-- ---- atoms

abbrev begin : Atom × ℕ → ℕ
begin p = p.1

abbrev finish : Atom × ℕ → ℕ
finish p = p.1 + p.0.size

stand_chain : (at : ℕ) (atoms : List Atom) → Chain begin finish at (stand at atoms) (end_of at atoms)
unfolding stand end_of
stand_chain at [] = omega arith
stand_chain at (atom ∷ atoms) = ((aligned_least atom.align at).enough, omega arith, stand_chain (aligned atom.align at + atom.size) atoms)

longer : (begins ends : Atom × ℕ → ℕ) (at end more : ℕ) (xs : List (Atom × ℕ)) → end ≤ more → Chain begins ends at xs end → Chain begins ends at xs more
longer begins ends at end more [] low chain = omega arith
longer begins ends at end more (x ∷ xs) low chain = (chain.0, chain.1, longer begins ends (ends x) end more xs low chain.2)

parts_chain : (atoms : List AtomKey → List Atom) (at : ℕ) (parts : List Part) → Chain begin finish at (parts_stand atoms at parts) (parts_end atoms at parts)
unfolding parts_stand parts_end part_end
parts_chain atoms at [] = omega arith
parts_chain atoms at (part ∷ parts) =
    let bounds = part_bounds atoms at part in
    let here = stand_chain (part_from at part) (atoms part.section.atoms) in
    chain_join begin finish at (part_end atoms at part) (parts_end atoms (part_end atoms at part) parts) (stand (part_from at part) (atoms part.section.atoms)) (parts_stand atoms (part_end atoms at part) parts)
    (earlier begin finish at (part_from at part) (part_end atoms at part) (stand (part_from at part) (atoms part.section.atoms)) bounds.0 (longer begin finish (part_from at part) (end_of (part_from at part) (atoms part.section.atoms)) (part_end atoms at part) (stand (part_from at part) (atoms part.section.atoms)) (omega arith) here))
    (parts_chain atoms (part_end atoms at part) parts)

groups_chain : (atoms : List AtomKey → List Atom) (at lead : ℕ) (groups : List Group) → Chain begin finish at (groups_stand atoms at lead groups) (groups_end atoms at lead groups)
unfolding groups_stand groups_end
groups_chain atoms at lead [] = omega arith
groups_chain atoms at lead (group ∷ groups) =
    let bounds = group_bounds atoms at lead group.parts in
    let next = page_up (group_end atoms at lead group) in
    chain_join begin finish at next (groups_end atoms next 0 groups) (parts_stand atoms (at + lead) group.parts) (groups_stand atoms next 0 groups)
    (earlier begin finish at (at + lead) next (parts_stand atoms (at + lead) group.parts) (omega arith) (longer begin finish (at + lead) (parts_end atoms (at + lead) group.parts) next (parts_stand atoms (at + lead) group.parts) bounds.3 (parts_chain atoms (at + lead) group.parts)))
    (groups_chain atoms next 0 groups)

pub image_apart : (plan : Plan) → AllPairs (λ (p : Atom × ℕ) (q : Atom × ℕ). p.1 + p.0.size ≤ q.1) (image_stand plan)
unfolding image_stand
image_apart plan = chain_pairs begin finish plan.base (groups_end plan.atoms plan.base plan.lead plan.groups) (groups_stand plan.atoms plan.base plan.lead plan.groups) (groups_chain plan.atoms plan.base plan.lead plan.groups)

abbrev IsMultiple : Atom × ℕ → Type 0
IsMultiple p = (count : ℕ) × (p.1 ≡ count * 2 ^ p.0.align)

stand_multiples : (at : ℕ) (atoms : List Atom) → AllByRecursion IsMultiple (stand at atoms)
unfolding stand
stand_multiples at [] = tt
stand_multiples at (atom ∷ atoms) = ((aligned_least atom.align at).whole, stand_multiples (aligned atom.align at + atom.size) atoms)

parts_multiples : (atoms : List AtomKey → List Atom) (at : ℕ) (parts : List Part) → AllByRecursion IsMultiple (parts_stand atoms at parts)
unfolding parts_stand
parts_multiples atoms at [] = tt
parts_multiples atoms at (part ∷ parts) = all_join IsMultiple (stand (part_from at part) (atoms part.section.atoms)) (parts_stand atoms (part_end atoms at part) parts) (stand_multiples (part_from at part) (atoms part.section.atoms)) (parts_multiples atoms (part_end atoms at part) parts)

groups_multiples : (atoms : List AtomKey → List Atom) (at lead : ℕ) (groups : List Group) → AllByRecursion IsMultiple (groups_stand atoms at lead groups)
unfolding groups_stand
groups_multiples atoms at lead [] = tt
groups_multiples atoms at lead (group ∷ groups) = all_join IsMultiple (parts_stand atoms (at + lead) group.parts) (groups_stand atoms (page_up (group_end atoms at lead group)) 0 groups) (parts_multiples atoms (at + lead) group.parts) (groups_multiples atoms (page_up (group_end atoms at lead group)) 0 groups)

pub image_multiples : (plan : Plan) → All (λ (p : Atom × ℕ). (count : ℕ) × (p.1 ≡ count * 2 ^ p.0.align)) (image_stand plan)
unfolding image_stand
image_multiples plan = λ k d within. all_at IsMultiple (groups_stand plan.atoms plan.base plan.lead plan.groups) k d (groups_multiples plan.atoms plan.base plan.lead plan.groups) within

parts_same : (atoms : List AtomKey → List Atom) (at : ℕ) (parts : List Part) → parts_places atoms at parts ≡ places (parts_stand atoms at parts)
unfolding parts_places parts_stand
parts_same atoms at [] = refl
parts_same atoms at (part ∷ parts) =
    let here = stand (part_from at part) (atoms part.section.atoms) in
    let later = parts_stand atoms (part_end atoms at part) parts in
    ap (λ (ps : List Placed). places here ++ ps) (parts_same atoms (part_end atoms at part) parts) ∙ sym (map-append (λ (p : Atom × ℕ). let q : Placed = record { atom = p.0.key; address = p.1 } in q) here later)

groups_same : (atoms : List AtomKey → List Atom) (at lead : ℕ) (groups : List Group) → groups_places atoms at lead groups ≡ places (groups_stand atoms at lead groups)
unfolding groups_places groups_stand
groups_same atoms at lead [] = refl
groups_same atoms at lead (group ∷ groups) =
    let here = parts_stand atoms (at + lead) group.parts in
    let next = page_up (group_end atoms at lead group) in
    let later = groups_stand atoms next 0 groups in
    ap₂ (λ (ps qs : List Placed). ps ++ qs) (parts_same atoms (at + lead) group.parts) (groups_same atoms next 0 groups) ∙ sym (map-append (λ (p : Atom × ℕ). let q : Placed = record { atom = p.0.key; address = p.1 } in q) here later)

pub image_same : (plan : Plan) → image_places plan ≡ places (image_stand plan)
unfolding image_places image_stand
image_same plan = groups_same plan.atoms plan.base plan.lead plan.groups

pub ruleset atom_laws = (image_apart, image_multiples, image_same)

-- ---- sections

abbrev section_begin : PlacedSection → ℕ
section_begin p = p.address

abbrev section_finish : PlacedSection → ℕ
section_finish p = p.address + p.size

longer_sections : (at end more : ℕ) (xs : List PlacedSection) → end ≤ more → Chain section_begin section_finish at xs end → Chain section_begin section_finish at xs more
longer_sections at end more [] low chain = omega arith
longer_sections at end more (x ∷ xs) low chain = (chain.0, chain.1, longer_sections (section_finish x) end more xs low chain.2)

sections_chain : (atoms : List AtomKey → List Atom) (start file at : ℕ) (parts : List Part) → Chain section_begin section_finish at (parts_sections atoms start file at parts) (parts_end atoms at parts)
unfolding parts_sections parts_end placed_section
sections_chain atoms start file at [] = omega arith
sections_chain atoms start file at (part ∷ parts) =
    let bounds = part_bounds atoms at part in
    let same : part_from at part + (part_end atoms at part - part_from at part) ≡ part_end atoms at part = omega (arith, bounds.1) in
    (bounds.0, omega arith, subst (λ (n : ℕ). Chain section_begin section_finish n (parts_sections atoms start file (part_end atoms at part) parts) (parts_end atoms (part_end atoms at part) parts)) (sym same) (sections_chain atoms start file (part_end atoms at part) parts))

all_sections_chain : (atoms : List AtomKey → List Atom) (at file lead : ℕ) (groups : List Group) → Chain section_begin section_finish at (groups_sections atoms at file lead groups) (groups_end atoms at lead groups)
unfolding groups_sections groups_end
all_sections_chain atoms at file lead [] = omega arith
all_sections_chain atoms at file lead (group ∷ groups) =
    let bounds = group_bounds atoms at lead group.parts in
    let next = page_up (group_end atoms at lead group) in
    let file' = file + file_bytes atoms at lead group in
    chain_join section_begin section_finish at next (groups_end atoms next 0 groups) (parts_sections atoms at file (at + lead) group.parts) (groups_sections atoms next file' 0 groups)
    (earlier section_begin section_finish at (at + lead) next (parts_sections atoms at file (at + lead) group.parts) (omega arith) (longer_sections (at + lead) (parts_end atoms (at + lead) group.parts) next (parts_sections atoms at file (at + lead) group.parts) bounds.3 (sections_chain atoms at file (at + lead) group.parts)))
    (all_sections_chain atoms next file' 0 groups)

pub sections_apart : (plan : Plan) → AllPairs (λ (p : PlacedSection) (q : PlacedSection). p.address + p.size ≤ q.address) (image_sections plan)
unfolding image_sections
sections_apart plan = chain_pairs section_begin section_finish plan.base (groups_end plan.atoms plan.base plan.lead plan.groups) (groups_sections plan.atoms plan.base 0 plan.lead plan.groups) (all_sections_chain plan.atoms plan.base 0 plan.lead plan.groups)

abbrev IsAligned : PlacedSection → Type 0
IsAligned p = (count : ℕ) × (p.address ≡ count * 2 ^ p.section.align)

parts_aligned : (atoms : List AtomKey → List Atom) (start file at : ℕ) (parts : List Part) → AllByRecursion IsAligned (parts_sections atoms start file at parts)
unfolding parts_sections placed_section
parts_aligned atoms start file at [] = tt
parts_aligned atoms start file at (part ∷ parts) = ((aligned_least part.section.align at).whole, parts_aligned atoms start file (part_end atoms at part) parts)

groups_aligned : (atoms : List AtomKey → List Atom) (at file lead : ℕ) (groups : List Group) → AllByRecursion IsAligned (groups_sections atoms at file lead groups)
unfolding groups_sections
groups_aligned atoms at file lead [] = tt
groups_aligned atoms at file lead (group ∷ groups) =
    all_join IsAligned (parts_sections atoms at file (at + lead) group.parts) (groups_sections atoms (page_up (group_end atoms at lead group)) (file + file_bytes atoms at lead group) 0 groups) (parts_aligned atoms at file (at + lead) group.parts) (groups_aligned atoms (page_up (group_end atoms at lead group)) (file + file_bytes atoms at lead group) 0 groups)

pub sections_aligned : (plan : Plan) → All (λ (p : PlacedSection). (count : ℕ) × (p.address ≡ count * 2 ^ p.section.align)) (image_sections plan)
unfolding image_sections
sections_aligned plan = λ k d within. all_at IsAligned (groups_sections plan.atoms plan.base 0 plan.lead plan.groups) k d (groups_aligned plan.atoms plan.base 0 plan.lead plan.groups) within

pub ruleset section_laws = (sections_apart, sections_aligned)

-- ---- least places

pub stand_least : (at : ℕ) (atoms : List Atom) → AreLeast at atoms (map (λ (p : Atom × ℕ). p.1) (stand at atoms))
unfolding stand
stand_least at [] = refl
stand_least at (atom ∷ atoms) = (aligned_least atom.align at, stand_least (aligned atom.align at + atom.size) atoms)

pub stand_only : (at : ℕ) (atoms : List Atom) (places : List ℕ) → AreLeast at atoms places → places ≡ map (λ (p : Atom × ℕ). p.1) (stand at atoms)
unfolding stand
stand_only at [] places least = least
stand_only at (atom ∷ atoms) [] least = absurd least
stand_only at (atom ∷ atoms) (place ∷ places) least =
    let same : place ≡ aligned atom.align at = same_least (2 ^ atom.align) at place (aligned atom.align at) least.0 (aligned_least atom.align at) in
    let rest = stand_only (place + atom.size) atoms places least.1 in
    ap₂ (λ (n : ℕ) (ns : List ℕ). n ∷ ns) same (rest ∙ ap (λ (n : ℕ). map (λ (p : Atom × ℕ). p.1) (stand (n + atom.size) atoms)) same)

pub section_least : (at : ℕ) (part : Part) → IsLeastMultiple (2 ^ part.section.align) at (part_from at part)
section_least at part = aligned_least part.section.align at

pub segment_least : (at : ℕ) → IsLeastMultiple (2 ^ 14) at (page_up at)
segment_least at = aligned_least 14 at

pub ruleset least_laws = (stand_least, stand_only, section_least, segment_least)
