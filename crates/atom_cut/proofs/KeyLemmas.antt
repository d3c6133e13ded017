-- The keys of atoms rise.
use Rattle.std.proofs.Common.{◌≡◌, ℕ, zero, suc, ◌+◌, ◌-◌, ◌≤◌, ◌++◌, ◌∷◌, [], inl, inr, List, Bool, true, false, cond, filter, refl, sym, arith, if◌then◌else◌}
use Rattle.std.specs.List.{AllByRecursion, AllPairs, range_with_len}
use Rattle.std.proofs.lemmas.List.Elements.{All-from_recursion}
use Rattle.std.proofs.lemmas.List.Kept.{AllPairs-cons}
use Rattle.mo_types.specs.declared.atom.Atom.{Atom}
use Rattle.mo_types.specs.declared.key.FileId.{FileId}
use Rattle.mo_types.specs.declared.object.Object.{Object}
use Rattle.mo_types.specs.declared.object.Section.{Section}
use Rattle.mo_types.specs.Atoms.{cuts, is_cut, piece, pieces, section_atoms, atoms_from, atoms_of}
use Rattle.mo_types.specs.Whole.{is_dropped}
use Rattle.atom_cut.specs.Laws.{IsBefore}
use Rattle.atom_cut.proofs.RisingLemmas.{Rises}

-- an atom stands in the section of a number, at an offset or after it
pub record StandsFrom (number low : ℕ) (atom : Atom) : Type 0 where
  pub section : atom.key.section ≡ number
  pub offset : low ≤ atom.key.offset

-- an atom stands in the section of a number, or after it
abbrev pub IsInOrAfter : ℕ → Atom → Type 0
IsInOrAfter number atom = number ≤ atom.key.section

-- each atom is before those that follow it
abbrev pub InOrder : List Atom → Type 0
InOrder [] = Unit {0}
InOrder (atom ∷ atoms) = AllByRecursion (λ b. IsBefore atom.key b.key) atoms × InOrder atoms

weaker : (P Q : Atom → Type 0) → ((atom : Atom) → P atom → Q atom) → (atoms : List Atom) → AllByRecursion P atoms → AllByRecursion Q atoms
weaker P Q step [] all = tt
weaker P Q step (atom ∷ atoms) all = (step atom all.0, weaker P Q step atoms all.1)

joined : (P : Atom → Type 0) (xs ys : List Atom) → AllByRecursion P xs → AllByRecursion P ys → AllByRecursion P (xs ++ ys)
joined P [] ys first second = second
joined P (x ∷ xs) ys first second = (first.0, joined P xs ys first.1 second)

pieces_stand : (file : FileId) (number : ℕ) (section : Section) (low : ℕ) (cuts : List ℕ) → Rises low cuts → AllByRecursion (StandsFrom number low) (pieces file number section cuts)
unfolding piece
pieces_stand file number section low [] rises = tt
pieces_stand file number section low (from ∷ cuts) rises =
    let first : low ≤ from = rises.0 in (
      record { section = refl; offset = first },
      weaker (StandsFrom number (from + 1)) (StandsFrom number low)
          (λ atom stands. record { section = stands.section; offset = let far : from + 1 ≤ atom.key.offset = stands.offset in omega arith })
          (pieces file number section cuts) (pieces_stand file number section (from + 1) cuts rises.1),
    )

pieces_in_order : (file : FileId) (number : ℕ) (section : Section) (low : ℕ) (cuts : List ℕ) → Rises low cuts → InOrder (pieces file number section cuts)
unfolding piece
pieces_in_order file number section low [] rises = tt
pieces_in_order file number section low (from ∷ cuts) rises = (
  weaker (StandsFrom number (from + 1)) (λ b. IsBefore (record { file = file; section = number; offset = from }) b.key)
      (λ atom stands. inr (sym stands.section, let far : from + 1 ≤ atom.key.offset = stands.offset in omega arith))
      (pieces file number section cuts) (pieces_stand file number section (from + 1) cuts rises.1),
  pieces_in_order file number section (from + 1) cuts rises.1,
)

further : (low high : ℕ) (xs : List ℕ) → low ≤ high → Rises high xs → Rises low xs
further low high [] less rises = tt
further low high (x ∷ xs) less rises = let first : high ≤ x = rises.0 in (omega arith, rises.1)

kept_rises : (a : ℕ) (test : Bool) (xs : List ℕ) → Rises (a + 1) xs → Rises a (cond test (a ∷ xs) xs)
kept_rises a true xs rises = (omega arith, rises)
kept_rises a false xs rises = further a (a + 1) xs (omega arith) rises

range_rises : (p : ℕ → Bool) (a n : ℕ) → Rises a (filter p (range_with_len a n))
range_rises p a zero = tt
range_rises p a (suc n) = kept_rises a (p a) (filter p (range_with_len (a + 1) n)) (range_rises p (a + 1) n)

cuts_rise : (object : Object) (number : ℕ) (section : Section) → Rises 0 (cuts object number section)
unfolding cuts
cuts_rise object number section = (omega arith, range_rises (is_cut object number section) 1 (section.size - 1))

section_in_order : (object : Object) (file : FileId) (number : ℕ) (section : Section) (dropped : Bool) → InOrder (if dropped then [] else pieces file number section (cuts object number section))
section_in_order object file number section true = tt
section_in_order object file number section false = pieces_in_order file number section 0 (cuts object number section) (cuts_rise object number section)

section_stands : (object : Object) (file : FileId) (number : ℕ) (section : Section) (dropped : Bool) → AllByRecursion (StandsFrom number 0) (if dropped then [] else pieces file number section (cuts object number section))
section_stands object file number section true = tt
section_stands object file number section false = pieces_stand file number section 0 (cuts object number section) (cuts_rise object number section)

pub atoms_stand : (object : Object) (file : FileId) (number : ℕ) (section : Section) → AllByRecursion (StandsFrom number 0) (section_atoms object file number section)
unfolding section_atoms
atoms_stand object file number section = section_stands object file number section (is_dropped section)

atoms_in_order : (object : Object) (file : FileId) (number : ℕ) (section : Section) → InOrder (section_atoms object file number section)
unfolding section_atoms
atoms_in_order object file number section = section_in_order object file number section (is_dropped section)

pub sections_stand : (object : Object) (file : FileId) (number : ℕ) (sections : List Section) → AllByRecursion (IsInOrAfter number) (atoms_from object file number sections)
sections_stand object file number [] = tt
sections_stand object file number (section ∷ sections) =
    joined (IsInOrAfter number) (section_atoms object file number section) (atoms_from object file (number + 1) sections)
    (weaker (StandsFrom number 0) (IsInOrAfter number) (λ atom stands. let same : atom.key.section ≡ number = stands.section in omega arith)
    (section_atoms object file number section) (atoms_stand object file number section))
    (weaker (IsInOrAfter (number + 1)) (IsInOrAfter number) (λ atom after. let more : number + 1 ≤ atom.key.section = after in omega arith)
    (atoms_from object file (number + 1) sections) (sections_stand object file (number + 1) sections))

follow : (number : ℕ) (xs ys : List Atom) → AllByRecursion (StandsFrom number 0) xs → InOrder xs → AllByRecursion (IsInOrAfter (number + 1)) ys → InOrder ys → InOrder (xs ++ ys)
follow number [] ys stand first after second = second
follow number (x ∷ xs) ys stand first after second =
    let here : x.key.section ≡ number = stand.0.section in (
      joined (λ b. IsBefore x.key b.key) xs ys first.0
          (weaker (IsInOrAfter (number + 1)) (λ b. IsBefore x.key b.key) (λ atom later. let more : number + 1 ≤ atom.key.section = later in inl (omega arith)) ys after),
      follow number xs ys stand.1 first.1 after second,
    )

sections_in_order : (object : Object) (file : FileId) (number : ℕ) (sections : List Section) → InOrder (atoms_from object file number sections)
sections_in_order object file number [] = tt
sections_in_order object file number (section ∷ sections) =
    follow number (section_atoms object file number section) (atoms_from object file (number + 1) sections)
    (atoms_stand object file number section) (atoms_in_order object file number section)
    (sections_stand object file (number + 1) sections) (sections_in_order object file (number + 1) sections)

pairs : (atoms : List Atom) → InOrder atoms → AllPairs (λ a b. IsBefore a.key b.key) atoms
pairs [] order = λ i j d less within. absurd (omega arith)
pairs (atom ∷ atoms) order =
    AllPairs-cons (λ a b. IsBefore a.key b.key) atom atoms (All-from_recursion (λ b. IsBefore atom.key b.key) atoms order.0) (pairs atoms order.1)

pub atoms_rise : (object : Object) (file : FileId) → AllPairs (λ a b. IsBefore a.key b.key) (atoms_of object file)
unfolding atoms_of
atoms_rise object file = pairs (atoms_from object file 1 object.sections) (sections_in_order object file 1 object.sections)

pub ruleset keys = (atoms_rise)
