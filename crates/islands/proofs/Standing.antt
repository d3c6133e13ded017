-- Where the atoms and sections of some parts of an image stand: from the parts' start to their end.
use Rattle.std.proofs.Common.{◌≡◌, ℕ, ◌+◌, ◌≤◌, ◌⊎◌, ◌++◌, List, [], ◌∷◌, refl, sym, ap, subst, ◌∙◌, inl, inr, arith, append_assoc}
use Rattle.list_lemmas.proofs.Members.{In, in_either}
use Rattle.mo_types.specs.declared.atom.Atom.{Atom}
use Rattle.mo_types.specs.declared.key.AtomKey.{AtomKey}
use Rattle.tlv_plan.specs.Template.{stand}
use Rattle.sect_place.specs.Places.{file_bytes, group_end, groups_sections, groups_stand, page_up, part_end, part_from, parts_end, parts_sections, parts_stand, placed_section}
use Rattle.sect_place.specs.declared.layout.PlacedSection.{PlacedSection}
use Rattle.sect_place.specs.declared.part.Group.{Group}
use Rattle.sect_place.specs.declared.part.Part.{Part}
use Rattle.sect_place.proofs.Around.{Within, stand_within}
use Rattle.sect_place.proofs.Spread.{group_bounds, part_bounds, parts_after}

pub parts_within : (atoms : List AtomKey → List Atom) (at : ℕ) (parts : List Part) (p : Atom × ℕ) → In p (parts_stand atoms at parts) → Within at (parts_end atoms at parts) p
unfolding parts_stand parts_end part_end
parts_within atoms at [] p h = absurd h
parts_within atoms at (part ∷ parts) p h = by (parts_within atoms (part_end atoms at part) parts p) (in_either (stand (part_from at part) (atoms part.section.atoms)) (parts_stand atoms (part_end atoms at part) parts) p h)
  where
    bounds : (at ≤ part_from at part) × (part_from at part ≤ part_end atoms at part)
    bounds = part_bounds atoms at part

    by : (In p (parts_stand atoms (part_end atoms at part) parts) → Within (part_end atoms at part) (parts_end atoms (part_end atoms at part) parts) p) → In p (stand (part_from at part) (atoms part.section.atoms)) ⊎ In p (parts_stand atoms (part_end atoms at part) parts) → Within at (parts_end atoms (part_end atoms at part) parts) p
    by next (inl h) =
        let here = stand_within (part_from at part) (atoms part.section.atoms) p h in
        (omega (arith, here.0, bounds.0), omega (arith, here.1, parts_after atoms (part_end atoms at part) parts))
    by next (inr h) =
        let rest = next h in
        (omega (arith, rest.0, bounds.0, bounds.1), rest.1)

pub groups_low : (atoms : List AtomKey → List Atom) (at lead : ℕ) (groups : List Group) (p : Atom × ℕ) → In p (groups_stand atoms at lead groups) → at ≤ p.1
unfolding groups_stand
groups_low atoms at lead [] p h = absurd h
groups_low atoms at lead (group ∷ groups) p h = by (groups_low atoms (page_up (group_end atoms at lead group)) 0 groups p) (in_either (parts_stand atoms (at + lead) group.parts) (groups_stand atoms (page_up (group_end atoms at lead group)) 0 groups) p h)
  where
    by : (In p (groups_stand atoms (page_up (group_end atoms at lead group)) 0 groups) → page_up (group_end atoms at lead group) ≤ p.1) → In p (parts_stand atoms (at + lead) group.parts) ⊎ In p (groups_stand atoms (page_up (group_end atoms at lead group)) 0 groups) → at ≤ p.1
    by next (inl h) = let here = parts_within atoms (at + lead) group.parts p h in omega (arith, here.0)
    by next (inr h) =
        let rest = next h in
        let bounds = group_bounds atoms at lead group.parts in
        omega (arith, rest, bounds.0, bounds.3)

pub parts_join : (atoms : List AtomKey → List Atom) (at : ℕ) (xs ys : List Part) → parts_stand atoms at (xs ++ ys) ≡ parts_stand atoms at xs ++ parts_stand atoms (parts_end atoms at xs) ys
unfolding parts_stand parts_end
parts_join atoms at [] ys = refl
parts_join atoms at (x ∷ xs) ys =
    ap (λ (ps : List (Atom × ℕ)). stand (part_from at x) (atoms x.section.atoms) ++ ps) (parts_join atoms (part_end atoms at x) xs ys)
    ∙ sym (append_assoc (stand (part_from at x) (atoms x.section.atoms)) (parts_stand atoms (part_end atoms at x) xs) (parts_stand atoms (parts_end atoms (part_end atoms at x) xs) ys))

pub ends_join : (atoms : List AtomKey → List Atom) (at : ℕ) (xs ys : List Part) → parts_end atoms at (xs ++ ys) ≡ parts_end atoms (parts_end atoms at xs) ys
unfolding parts_end
ends_join atoms at [] ys = refl
ends_join atoms at (x ∷ xs) ys = ends_join atoms (part_end atoms at x) xs ys

-- ---- sections

pub sections_join : (atoms : List AtomKey → List Atom) (start file at : ℕ) (xs ys : List Part) → parts_sections atoms start file at (xs ++ ys) ≡ parts_sections atoms start file at xs ++ parts_sections atoms start file (parts_end atoms at xs) ys
unfolding parts_sections parts_end
sections_join atoms start file at [] ys = refl
sections_join atoms start file at (x ∷ xs) ys = ap (λ (ps : List PlacedSection). placed_section atoms start file at x ∷ ps) (sections_join atoms start file (part_end atoms at x) xs ys)

pub parts_sections_low : (atoms : List AtomKey → List Atom) (start file at : ℕ) (parts : List Part) (q : PlacedSection) → In q (parts_sections atoms start file at parts) → at ≤ q.address
unfolding parts_sections placed_section
parts_sections_low atoms start file at [] q h = absurd h
parts_sections_low atoms start file at (part ∷ parts) q (inl e) =
    let bounds = part_bounds atoms at part in
    subst (λ (s : PlacedSection). at ≤ s.address) e bounds.0
parts_sections_low atoms start file at (part ∷ parts) q (inr h) =
    let bounds = part_bounds atoms at part in
    let rest = parts_sections_low atoms start file (part_end atoms at part) parts q h in
    omega (arith, rest, bounds.0, bounds.1)

pub groups_sections_low : (atoms : List AtomKey → List Atom) (at file lead : ℕ) (groups : List Group) (q : PlacedSection) → In q (groups_sections atoms at file lead groups) → at ≤ q.address
unfolding groups_sections
groups_sections_low atoms at file lead [] q h = absurd h
groups_sections_low atoms at file lead (group ∷ groups) q h = by (groups_sections_low atoms (page_up (group_end atoms at lead group)) (file + file_bytes atoms at lead group) 0 groups q) (in_either (parts_sections atoms at file (at + lead) group.parts) (groups_sections atoms (page_up (group_end atoms at lead group)) (file + file_bytes atoms at lead group) 0 groups) q h)
  where
    by : (In q (groups_sections atoms (page_up (group_end atoms at lead group)) (file + file_bytes atoms at lead group) 0 groups) → page_up (group_end atoms at lead group) ≤ q.address) → In q (parts_sections atoms at file (at + lead) group.parts) ⊎ In q (groups_sections atoms (page_up (group_end atoms at lead group)) (file + file_bytes atoms at lead group) 0 groups) → at ≤ q.address
    by next (inl h) = let here = parts_sections_low atoms at file (at + lead) group.parts q h in omega (arith, here)
    by next (inr h) =
        let rest = next h in
        let bounds = group_bounds atoms at lead group.parts in
        omega (arith, rest, bounds.0, bounds.3)
