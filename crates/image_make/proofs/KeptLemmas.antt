-- The kept atoms of files.
use Rattle.std.proofs.Common.{◌≡◌, ℕ, ◌+◌, ◌<◌, ◌≤◌, Bool, true, false, List, [], ◌∷◌, ◌++◌, length, map, get_or, refl, sym, ap, ◌∙◌, arith, if◌then◌else◌}
use Rattle.std.specs.List.{enumerate_from, filter, flat_map}
use Rattle.std.proofs.lemmas.List.FromFn.{get_or-enumerate_from, length-enumerate_from}
use Rattle.mark_core.specs.Kept.{has}
use Rattle.mo_types.specs.declared.atom.Atom.{Atom}
use Rattle.mo_types.specs.declared.key.AtomKey.{AtomKey}
use Rattle.mo_types.specs.declared.loaded.LoadedFile.{LoadedFile}
use Rattle.literal_merge.specs.declared.representative.Representative.{Representative}
use Rattle.symbol_winners.specs.declared.winner.Winner.{Winner}
use Rattle.liveness.proofs.GrowLemmas.{IsGrowing, grow_end, grow_item, grow_start}
use Rattle.image_make.specs.Atoms.{commons_in, kept_as, kept_atoms, kept_in, raised}
use Rattle.image_make.specs.declared.kept.KeptAtom.{KeptAtom}

-- an atom, if it is kept
abbrev pub kept_if : List Representative → List AtomKey → Atom → List Atom
kept_if literals keys atom = map (raised literals) (if has keys atom.key then atom ∷ [] else [])

filtered : {X Y : Type 0} (g : X → Y) (p : X → Bool) (xs : List X) → flat_map (λ x. map g (if p x then x ∷ [] else [])) xs ≡ map g (filter p xs)
filtered g p [] = refl
filtered {X = X} {Y = Y} g p (x ∷ xs) = by (filtered g p xs) (p x)
  where
    by : flat_map (λ (y : X). map g (if p y then y ∷ [] else [])) xs ≡ map g (filter p xs) → (b : Bool) → map g (if b then x ∷ [] else []) ++ flat_map (λ (y : X). map g (if p y then y ∷ [] else [])) xs ≡ map g (if b then x ∷ filter p xs else filter p xs)
    by rest true = ap (λ (ys : List Y). g x ∷ ys) rest
    by rest false = rest

pub atoms_start : (literals : List Representative) (keys : List AtomKey) (before : List Atom) (atoms : List Atom) → IsGrowing (kept_if literals keys) before before atoms 0
atoms_start literals keys before atoms = grow_start (kept_if literals keys) before atoms

pub atoms_end : (literals : List Representative) (keys : List AtomKey) (before now : List Atom) (atoms : List Atom) (i : ℕ) → IsGrowing (kept_if literals keys) before now atoms i → length atoms ≤ i → now ≡ before ++ map (raised literals) (filter (λ atom. has keys atom.key) atoms)
atoms_end literals keys before now atoms i grows past =
    grow_end (kept_if literals keys) before now atoms i grows past
    ∙ ap (λ (ys : List Atom). before ++ ys) (filtered (raised literals) (λ (atom : Atom). has keys atom.key) atoms)

pub ruleset atoms = (atoms_start)

-- an atom of a common symbol
abbrev pub raised_one : List Representative → Atom → List Atom
raised_one literals atom = raised literals atom ∷ []

each_one : {X Y : Type 0} (g : X → Y) (xs : List X) → flat_map (λ x. g x ∷ []) xs ≡ map g xs
each_one g [] = refl
each_one {Y = Y} g (x ∷ xs) = ap (λ (ys : List Y). g x ∷ ys) (each_one g xs)

pub commons_start : (literals : List Representative) (before : List Atom) (atoms : List Atom) → IsGrowing (raised_one literals) before before atoms 0
commons_start literals before atoms = grow_start (raised_one literals) before atoms

pub commons_end : (literals : List Representative) (before now : List Atom) (atoms : List Atom) (i : ℕ) → IsGrowing (raised_one literals) before now atoms i → length atoms ≤ i → now ≡ before ++ map (raised literals) atoms
commons_end literals before now atoms i grows past =
    grow_end (raised_one literals) before now atoms i grows past ∙ ap (λ (ys : List Atom). before ++ ys) (each_one (raised literals) atoms)

pub ruleset commons = (commons_start, commons_end)

numbered : (files : List LoadedFile) (i : ℕ) (d : LoadedFile) → i < length files → get_or (enumerate_from 0 files) i (0, d) ≡ (i, get_or files i d)
numbered files i d low = let e : 0 + i ≡ i = omega arith in get_or-enumerate_from 0 files i (0, d) low ∙ ap (λ (n : ℕ). (n, get_or files i d)) e

pub file_more : (literals : List Representative) (winners : List Winner) (keys : List AtomKey) (now new : List KeptAtom) (commons : List Atom) (files : List LoadedFile) (at : ℕ) (file : LoadedFile) → IsGrowing (kept_in literals winners keys) [] now (enumerate_from 0 files) at → at < length files → file ≡ get_or files at file → commons ≡ commons_in winners keys file.id
    → new ≡ now ++ map (kept_as literals at) (filter (λ atom. has keys atom.key) file.atoms ++ commons) → IsGrowing (kept_in literals winners keys) [] new (enumerate_from 0 files) (at + 1)
unfolding kept_in
file_more literals winners keys now new commons files at file grows low is own more =
    grow_item (kept_in literals winners keys) [] now new (enumerate_from 0 files) at (at, file) (0, file) grows (omega (arith, low, length-enumerate_from 0 files))
    (ap (λ (x : LoadedFile). (at, x)) is ∙ sym (numbered files at file low))
    (more ∙ ap (λ (cs : List Atom). now ++ map (kept_as literals at) (filter (λ (atom : Atom). has keys atom.key) file.atoms ++ cs)) own)

pub files_start : (literals : List Representative) (winners : List Winner) (keys : List AtomKey) (files : List LoadedFile) → IsGrowing (kept_in literals winners keys) [] [] (enumerate_from 0 files) 0
files_start literals winners keys files = grow_start (kept_in literals winners keys) [] (enumerate_from 0 files)

pub files_end : (literals : List Representative) (winners : List Winner) (keys : List AtomKey) (files : List LoadedFile) (now : List KeptAtom) (i : ℕ) → IsGrowing (kept_in literals winners keys) [] now (enumerate_from 0 files) i → length files ≤ i → now ≡ kept_atoms literals winners keys files
unfolding kept_atoms
files_end literals winners keys files now i grows past = grow_end (kept_in literals winners keys) [] now (enumerate_from 0 files) i grows (omega (arith, past, length-enumerate_from 0 files))

pub ruleset files = (files_start, files_end)
