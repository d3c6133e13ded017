-- The atoms of an object, section by section.
use Rattle.std.proofs.Common.{◌≡◌, ℕ, zero, suc, ◌+◌, ◌<◌, ◌≤◌, ◌++◌, ◌∷◌, [], List, length, get_or, drop, refl, sym, ap, ◌∙◌, arith, append_assoc, append-nil}
use Rattle.std.proofs.lemmas.List.{drop_all, drop_more}
use Rattle.mo_types.specs.declared.atom.Atom.{Atom}
use Rattle.mo_types.specs.declared.key.FileId.{FileId}
use Rattle.mo_types.specs.declared.object.Object.{Object}
use Rattle.mo_types.specs.declared.object.Section.{Section}
use Rattle.mo_types.specs.Atoms.{cuts, section_atoms, atoms_from, atoms_of}
use Rattle.atom_cut.specs.Cutting.{RiseTo}
use Rattle.atom_cut.proofs.PieceLemmas.{cuts_rise}

pub found_rise : (object : Object) (index : ℕ) (section : Section) (found : List ℕ) → index < length object.sections → section ≡ get_or object.sections index section → ((d : Section) → found ≡ cuts object (index + 1) (get_or object.sections index d)) → RiseTo section.size found
found_rise object index section found within is are =
    let e : found ≡ cuts object (index + 1) section = are section ∙ ap (cuts object (index + 1)) (sym is) in
    rw e (cuts_rise object (index + 1) section)

pub ruleset sections = (found_rise)

-- a list has an element at a place before its end
element_at : {A : Type 0} (xs : List A) (at : ℕ) → at < length xs → (x : A) × (x ≡ get_or xs at x)
element_at [] at within = absurd (omega arith)
element_at (x ∷ xs) zero within = (x, refl)
element_at (x ∷ xs) (suc at) within = element_at xs at (omega arith)

-- the atoms of the sections before an index, and those that come
pub record AreAtoms (object : Object) (file : FileId) (atoms : List Atom) (index : ℕ) : Type 0 where
  pub same : atoms ++ atoms_from object file (index + 1) (drop index object.sections) ≡ atoms_of object file

pub atoms_begin : (object : Object) (file : FileId) (atoms : List Atom) → atoms ≡ [] → AreAtoms object file atoms 0
unfolding atoms_of
atoms_begin object file atoms none = record { same = rw none refl }

pub atoms_go_on : (object : Object) (file : FileId) (atoms more : List Atom) (index : ℕ) → AreAtoms object file atoms index → index < length object.sections → ((d : Section) → more ≡ atoms ++ section_atoms object file (index + 1) (get_or object.sections index d)) → AreAtoms object file more (index + 1)
atoms_go_on object file atoms more index are within added =
    let some : (section : Section) × (section ≡ get_or object.sections index section) = element_at object.sections index within in
    let section : Section = some.0 in
    let here : section ≡ get_or object.sections index section = some.1 in
    let rest : List Atom = atoms_from object file (index + 1 + 1) (drop (index + 1) object.sections) in
    let from : atoms_from object file (index + 1) (drop index object.sections) ≡ section_atoms object file (index + 1) (get_or object.sections index section) ++ rest =
    ap (atoms_from object file (index + 1)) (drop_more object.sections index section within) in
    record {
      same =
          ap (λ xs. xs ++ rest) (added section)
          ∙ append_assoc atoms (section_atoms object file (index + 1) (get_or object.sections index section)) rest
          ∙ ap (λ xs. atoms ++ xs) (sym from) ∙ are.same;
    }

pub atoms_end : (object : Object) (file : FileId) (atoms : List Atom) (index : ℕ) → AreAtoms object file atoms index → length object.sections ≤ index → atoms ≡ atoms_of object file
atoms_end object file atoms index are past =
    sym (append-nil atoms) ∙ sym (ap (λ xs. atoms ++ atoms_from object file (index + 1) xs) (drop_all index object.sections past)) ∙ are.same

pub ruleset atoms_loop = (atoms_begin, atoms_go_on, atoms_end)
