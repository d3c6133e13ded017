-- What the places of atoms in the template are: multiples of alignments, and apart.
use Rattle.std.proofs.Common.{◌≡◌, ℕ, zero, suc, ◌+◌, ◌*◌, ◌^◌, ◌<◌, ◌≤◌, List, [], ◌∷◌, ◌++◌, length, get_or, All, arith}
use Rattle.std.specs.List.{AllPairs}
use Rattle.mo_types.specs.declared.atom.Atom.{Atom}
use Rattle.mo_types.specs.declared.out_section.OutSection.{OutSection}
use Rattle.tlv_plan.specs.Template.{thread_local, aligned, atoms_of, stand, end_of, sections_stand, sections_end, template_stand, template_size}
use Rattle.tlv_plan.proofs.Walk.{aligned_least}

-- ---- alignment

abbrev AreMultiples : List (Atom × ℕ) → Type 0
AreMultiples [] = Unit {0}
AreMultiples (p ∷ ps) = ((count : ℕ) × (p.1 ≡ count * 2 ^ p.0.align)) × AreMultiples ps

multiples_join : (xs ys : List (Atom × ℕ)) → AreMultiples xs → AreMultiples ys → AreMultiples (xs ++ ys)
multiples_join [] ys p q = q
multiples_join (x ∷ xs) ys p q = (p.0, multiples_join xs ys p.1 q)

stand_multiples : (at : ℕ) (atoms : List Atom) → AreMultiples (stand at atoms)
unfolding stand
stand_multiples at [] = tt
stand_multiples at (atom ∷ atoms) = ((aligned_least atom.align at).whole, stand_multiples (aligned atom.align at + atom.size) atoms)

sections_multiples : (kept : List Atom) (at : ℕ) (sections : List OutSection) → AreMultiples (sections_stand kept at sections)
unfolding sections_stand
sections_multiples kept at [] = tt
sections_multiples kept at (section ∷ sections) =
    multiples_join _ _ (stand_multiples (aligned section.align at) (atoms_of kept section.atoms)) (sections_multiples kept (end_of (aligned section.align at) (atoms_of kept section.atoms)) sections)

multiples_all : (ps : List (Atom × ℕ)) → AreMultiples ps → (k : ℕ) (d : Atom × ℕ) → k < length ps → (count : ℕ) × ((get_or ps k d).1 ≡ count * 2 ^ (get_or ps k d).0.align)
multiples_all [] h k d within = absurd (omega arith)
multiples_all (p ∷ ps) h zero d within = h.0
multiples_all (p ∷ ps) h (suc k) d within = multiples_all ps h.1 k d (omega arith)

pub are_aligned : (kept : List Atom) (sections : List OutSection) → All (λ (p : Atom × ℕ). (count : ℕ) × (p.1 ≡ count * 2 ^ p.0.align)) (template_stand kept sections)
unfolding template_stand
are_aligned kept sections = multiples_all (sections_stand kept 0 (thread_local sections)) (sections_multiples kept 0 (thread_local sections))

-- ---- one behind the other

abbrev Chain : ℕ → List (Atom × ℕ) → ℕ → Type 0
Chain at [] end = at ≤ end
Chain at (p ∷ ps) end = (at ≤ p.1) × Chain (p.1 + p.0.size) ps end

earlier : (at middle end : ℕ) (ys : List (Atom × ℕ)) → at ≤ middle → Chain middle ys end → Chain at ys end
earlier at middle end [] h q = omega arith
earlier at middle end (y ∷ ys) h q = (omega (arith, q.0), q.1)

chain_join : (at middle end : ℕ) (xs ys : List (Atom × ℕ)) → Chain at xs middle → Chain middle ys end → Chain at (xs ++ ys) end
chain_join at middle end [] ys p q = earlier at middle end ys p q
chain_join at middle end (x ∷ xs) ys p q = (p.0, chain_join (x.1 + x.0.size) middle end xs ys p.1 q)

stand_chain : (at : ℕ) (atoms : List Atom) → Chain at (stand at atoms) (end_of at atoms)
unfolding stand end_of
stand_chain at [] = omega arith
stand_chain at (atom ∷ atoms) = ((aligned_least atom.align at).enough, stand_chain (aligned atom.align at + atom.size) atoms)

sections_chain : (kept : List Atom) (at : ℕ) (sections : List OutSection) → Chain at (sections_stand kept at sections) (sections_end kept at sections)
unfolding sections_stand sections_end
sections_chain kept at [] = omega arith
sections_chain kept at (section ∷ sections) =
    chain_join at (end_of (aligned section.align at) (atoms_of kept section.atoms)) _ _ _
    (earlier at (aligned section.align at) _ _ (aligned_least section.align at).enough (stand_chain (aligned section.align at) (atoms_of kept section.atoms)))
    (sections_chain kept (end_of (aligned section.align at) (atoms_of kept section.atoms)) sections)

chain_long : (at end : ℕ) (ps : List (Atom × ℕ)) → Chain at ps end → at ≤ end
chain_long at end [] h = h
chain_long at end (p ∷ ps) h = let rest = chain_long (p.1 + p.0.size) end ps h.1 in omega (arith, h.0)

chain_at : (at end : ℕ) (ps : List (Atom × ℕ)) → Chain at ps end → (k : ℕ) (d : Atom × ℕ) → k < length ps → (at ≤ (get_or ps k d).1) × ((get_or ps k d).1 + (get_or ps k d).0.size ≤ end)
chain_at at end [] h k d within = absurd (omega arith)
chain_at at end (p ∷ ps) h zero d within = (h.0, chain_long (p.1 + p.0.size) end ps h.1)
chain_at at end (p ∷ ps) h (suc k) d within =
    let rest = chain_at (p.1 + p.0.size) end ps h.1 k d (omega arith) in
    (omega (arith, h.0, rest.0), rest.1)

chain_pairs : (at end : ℕ) (ps : List (Atom × ℕ)) → Chain at ps end → (i j : ℕ) (d : Atom × ℕ) → i < j → j < length ps → (get_or ps i d).1 + (get_or ps i d).0.size ≤ (get_or ps j d).1
chain_pairs at end [] h i j d low within = absurd (omega arith)
chain_pairs at end (p ∷ ps) h zero zero d low within = absurd (omega arith)
chain_pairs at end (p ∷ ps) h zero (suc j) d low within = (chain_at (p.1 + p.0.size) end ps h.1 j d (omega arith)).0
chain_pairs at end (p ∷ ps) h (suc i) zero d low within = absurd (omega arith)
chain_pairs at end (p ∷ ps) h (suc i) (suc j) d low within = chain_pairs (p.1 + p.0.size) end ps h.1 i j d (omega arith) (omega arith)

pub stand_apart : (kept : List Atom) (sections : List OutSection) → AllPairs (λ (p : Atom × ℕ) (q : Atom × ℕ). p.1 + p.0.size ≤ q.1) (template_stand kept sections)
unfolding template_stand
stand_apart kept sections = chain_pairs 0 (sections_end kept 0 (thread_local sections)) (sections_stand kept 0 (thread_local sections)) (sections_chain kept 0 (thread_local sections))

pub stand_within : (kept : List Atom) (sections : List OutSection) → All (λ (p : Atom × ℕ). p.1 + p.0.size ≤ template_size kept sections) (template_stand kept sections)
unfolding template_stand template_size
stand_within kept sections = λ k d within. (chain_at 0 (sections_end kept 0 (thread_local sections)) (sections_stand kept 0 (thread_local sections)) (sections_chain kept 0 (thread_local sections)) k d within).1

pub ruleset places = (stand_apart, stand_within)
