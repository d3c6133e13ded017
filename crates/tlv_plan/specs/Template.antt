-- The template of thread-local variables (`loader.h`: S_THREAD_LOCAL_REGULAR, S_THREAD_LOCAL_ZEROFILL): what the
-- loader copies for each thread. It begins where the first of these sections does, whose alignment is the greatest
-- of them all, and an atom's offset in it counts from there.
use Rattle.std.specs.Prelude.{ℕ, ◌+◌, ◌^◌, ◌==◌, ◌||◌, Bool, List, [], ◌∷◌, ◌++◌, map, max, Contains}
use Rattle.std.specs.Ordering.{is_eq}
use Rattle.std.specs.List.{filter, filter_map, find, flat_map}
use Rattle.mo_bytes.specs.Rounding.{least_multiple}
use Rattle.mo_format.specs.declared.loader.TheConstants.{S_THREAD_LOCAL_REGULAR, S_THREAD_LOCAL_ZEROFILL}
use Rattle.mo_types.specs.declared.atom.Atom.{Atom}
use Rattle.mo_types.specs.declared.key.AtomKey.{AtomKey}
use Rattle.mo_types.specs.declared.out_section.OutSection.{OutSection}
use Rattle.tlv_plan.specs.declared.parts.Offset.{Offset}
use Rattle.mo_types.specs.Keys.{compare_keys}

-- a section of the template
abbrev pub is_thread_local : OutSection → Bool
is_thread_local section = section.kind == S_THREAD_LOCAL_REGULAR || section.kind == S_THREAD_LOCAL_ZEROFILL

-- the sections of the template, in the order in which they stand
unfoldable pub thread_local : List OutSection → List OutSection
thread_local sections = filter is_thread_local sections

-- the greatest alignment, as a power of two
unfoldable pub greatest_align : List OutSection → ℕ
greatest_align [] = 0
greatest_align (section ∷ sections) = max section.align (greatest_align sections)

-- the least place from `at` on that is a multiple of 2^align
unfoldable pub aligned : ℕ → ℕ → ℕ
aligned align at = least_multiple (2 ^ align) at

-- the kept atoms of a section
unfoldable pub atoms_of : List Atom → List AtomKey → List Atom
atoms_of kept keys = filter_map (λ key. find (λ atom. is_eq (compare_keys atom.key key)) kept) keys

-- where atoms stand, one behind the other from `at` on: each at the least place that its alignment allows
unfoldable pub stand : ℕ → List Atom → List (Atom × ℕ)
stand at [] = []
stand at (atom ∷ atoms) = (atom, aligned atom.align at) ∷ stand (aligned atom.align at + atom.size) atoms

-- where the last of them ends
unfoldable pub end_of : ℕ → List Atom → ℕ
end_of at [] = at
end_of at (atom ∷ atoms) = end_of (aligned atom.align at + atom.size) atoms

-- where the atoms of sections stand, the sections too one behind the other
unfoldable pub sections_stand : List Atom → ℕ → List OutSection → List (Atom × ℕ)
sections_stand kept at [] = []
sections_stand kept at (section ∷ sections) =
    let from = aligned section.align at in
    stand from (atoms_of kept section.atoms) ++ sections_stand kept (end_of from (atoms_of kept section.atoms)) sections

unfoldable pub sections_end : List Atom → ℕ → List OutSection → ℕ
sections_end kept at [] = at
sections_end kept at (section ∷ sections) = sections_end kept (end_of (aligned section.align at) (atoms_of kept section.atoms)) sections

-- where each atom of the template stands, counted from its start
unfoldable pub template_stand : List Atom → List OutSection → List (Atom × ℕ)
template_stand kept sections = sections_stand kept 0 (thread_local sections)

-- the bytes of the template
unfoldable pub template_size : List Atom → List OutSection → ℕ
template_size kept sections = sections_end kept 0 (thread_local sections)

-- offsets by atoms' keys
abbrev pub offsets : List (Atom × ℕ) → List Offset
offsets placed = map (λ p. record { atom = p.0.key; offset = p.1 }) placed

-- an atom has an offset among these
abbrev pub HasOffset : List Offset → AtomKey → ℕ → Type 0
HasOffset offsets atom offset = Contains offsets (record { atom = atom; offset = offset })

-- the keys that sections list, section by section
abbrev pub keys_of : List OutSection → List AtomKey
keys_of sections = flat_map (λ section. section.atoms) sections
