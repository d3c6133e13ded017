-- The bytes that each atom has.
use Rattle.std.proofs.Common.{◌≡◌, ℕ, zero, suc, ◌+◌, ◌-◌, ◌<◌, ◌≤◌, ◌++◌, ◌∷◌, [], List, Some, length, get_or, take, drop, Bool, true, false, refl, subst, arith, length-take, length-drop, if◌then◌else◌}
use Rattle.std.specs.Prelude.{All, slice_get, Option, ◌==◌}
use Rattle.std.specs.List.{AllByRecursion}
use Rattle.std.proofs.lemmas.Bool.Decides.{nat_tests}
use Rattle.std.proofs.lemmas.List.Elements.{All-from_recursion}
use Rattle.mo_types.specs.declared.atom.Atom.{Atom}
use Rattle.mo_types.specs.declared.key.FileId.{FileId}
use Rattle.mo_types.specs.declared.object.Object.{Object}
use Rattle.mo_types.specs.declared.object.Section.{Section}
use Rattle.mo_types.specs.Atoms.{cuts, piece, pieces, section_atoms, atoms_from, atoms_of}
use Rattle.mo_types.specs.RelocationRules.{section_numbered}
use Rattle.mo_types.specs.Whole.{IsWhole, IsWholeSection, is_dropped, is_zerofill}
use Rattle.atom_cut.specs.Cutting.{RiseTo}
use Rattle.atom_cut.specs.Laws.{HasItsBytes}
use Rattle.atom_cut.proofs.PieceLemmas.{cuts_rise}

-- a part of the bytes of a section that has them all, or none
part_length : (zerofill : Bool) (bytes : List ℕ) (size from to : ℕ) → length bytes ≡ (if zerofill then 0 else size) → from ≤ to → to ≤ size → length (take (to - from) (drop from bytes)) ≡ (if zerofill then 0 else to - from)
part_length true bytes size from to all low high = rw (length-take, length-drop) (omega arith)
part_length false bytes size from to all low high = rw (length-take, length-drop) (omega arith)

piece_has : (object : Object) (file : FileId) (number : ℕ) (section : Section) (from to : ℕ) → IsWholeSection section → is_dropped section ≡ false → section_numbered object.sections number ≡ Some section → from ≤ to → to ≤ section.size → HasItsBytes object (piece file number section from to)
unfolding piece
piece_has object file number section from to whole linked here low high = record {
  section = section;
  numbered = here;
  linked = linked;
  within = omega arith;
  bytes = rw here (part_length (is_zerofill section.kind) section.bytes section.size from to whole.bytes low high);
}

pieces_have : (object : Object) (file : FileId) (number : ℕ) (section : Section) (cuts : List ℕ) → IsWholeSection section → is_dropped section ≡ false → section_numbered object.sections number ≡ Some section → RiseTo section.size cuts → AllByRecursion (HasItsBytes object) (pieces file number section cuts)
pieces_have object file number section [] whole linked here rise = tt
pieces_have object file number section (from ∷ cuts) whole linked here rise =
    (piece_has object file number section from _ whole linked here rise.0 rise.1, pieces_have object file number section cuts whole linked here rise.2)

-- the atoms of a section, of which is known whether it is linked
atoms_have : (object : Object) (file : FileId) (number : ℕ) (section : Section) (dropped : Bool) → is_dropped section ≡ dropped → IsWholeSection section → section_numbered object.sections number ≡ Some section → AllByRecursion (HasItsBytes object) (if dropped then [] else pieces file number section (cuts object number section))
atoms_have object file number section true is whole here = tt
atoms_have object file number section false is whole here =
    pieces_have object file number section (cuts object number section) whole is here (cuts_rise object number section)

section_has : (object : Object) (file : FileId) (number : ℕ) (section : Section) → IsWholeSection section → section_numbered object.sections number ≡ Some section → AllByRecursion (HasItsBytes object) (section_atoms object file number section)
unfolding section_atoms
section_has object file number section whole here = atoms_have object file number section (is_dropped section) refl whole here

joined : (P : Atom → Type 0) (xs ys : List Atom) → AllByRecursion P xs → AllByRecursion P ys → AllByRecursion P (xs ++ ys)
joined P [] ys first second = second
joined P (x ∷ xs) ys first second = (first.0, joined P xs ys first.1 second)

-- sections are numbered as those of an object from a number on
abbrev AreNumbered : Object → ℕ → List Section → Type 0
AreNumbered object number sections = (i : ℕ) (d : Section) → i < length sections → IsWholeSection (get_or sections i d) × (section_numbered object.sections (number + i) ≡ Some (get_or sections i d))

sections_have : (object : Object) (file : FileId) (number : ℕ) (sections : List Section) → AreNumbered object number sections → AllByRecursion (HasItsBytes object) (atoms_from object file number sections)
sections_have object file number [] are = tt
sections_have object file number (section ∷ sections) are =
    let first : IsWholeSection section × (section_numbered object.sections (number + 0) ≡ Some section) = are 0 section (omega arith) in
    let here : section_numbered object.sections number ≡ Some section = subst (λ (k : ℕ). section_numbered object.sections k ≡ Some section) (omega arith) first.1 in
    joined (HasItsBytes object) (section_atoms object file number section) (atoms_from object file (number + 1) sections)
    (section_has object file number section first.0 here)
    (sections_have object file (number + 1) sections (λ i d low.
    let e : number + suc i ≡ number + 1 + i = omega arith in
    let next : IsWholeSection (get_or sections i d) × (section_numbered object.sections (number + suc i) ≡ Some (get_or sections i d)) = are (suc i) d (omega arith) in
    (next.0, subst (λ (k : ℕ). section_numbered object.sections k ≡ Some (get_or sections i d)) e next.1)))

-- an element of a list, by its place
got : (sections : List Section) (i : ℕ) (d : Section) → i < length sections → slice_get sections i ≡ Some (get_or sections i d)
got [] i d low = absurd (omega arith)
got (x ∷ xs) zero d low = refl
got (x ∷ xs) (suc i) d low = got xs i d (omega arith)

numbered : (sections : List Section) (i n : ℕ) (found : Option Section) → n ≡ i + 1 → slice_get sections i ≡ found → section_numbered sections n ≡ found
numbered sections i n found is there =
    let not_zero : (n == 0) ≡ false = grind (arith, nat_tests) in
    let back : n - 1 ≡ i = omega arith in
    rw (not_zero, back) there

are_numbered : (object : Object) → IsWhole object → AreNumbered object 1 object.sections
are_numbered object whole i d low =
    (whole.sections i d low, numbered object.sections i (1 + i) (Some (get_or object.sections i d)) (omega arith) (got object.sections i d low))

pub atoms_have_bytes : (object : Object) (file : FileId) → IsWhole object → All (HasItsBytes object) (atoms_of object file)
unfolding atoms_of
atoms_have_bytes object file whole = All-from_recursion (HasItsBytes object) (atoms_from object file 1 object.sections) (sections_have object file 1 object.sections (are_numbered object whole))
