-- The unwind entries of an image: those of kept pieces of its files, no two of which have a byte of an atom in common.
use Rattle.std.proofs.Common.{◌≡◌, ℕ, zero, suc, ◌+◌, inl, inr, ◌++◌, true, List, [], ◌∷◌, All, Some, Ok, refl, sym, ap, ◌∙◌, subst, arith}
use Rattle.std.specs.Prelude.{slice_get}
use Rattle.std.specs.List.{AllPairs, enumerate_from, filter}
use Rattle.std.specs.Ordering.{is_eq}
use Rattle.std.specs.declared.cmp.Ordering.TheVariants.{Less, Equal}
use Rattle.std.proofs.lemmas.Cmp.{tied_itself}
use Rattle.std.proofs.lemmas.List.Elements.{recursion_from_All}
use Rattle.list_lemmas.proofs.Members.{In, all_in, any_from_in, from_filter, from_filter_map, from_flat, from_map, in_either, in_filter, in_flat, in_from_Contains, in_left, in_map}
use Rattle.literal_merge.proofs.RepresentativeLemmas.{atoms_of_file}
use Rattle.mark_core.specs.Kept.{has}
use Rattle.mo_types.specs.Atoms.{atoms_of}
use Rattle.mo_types.specs.Keys.{compare_files, compare_keys}
use Rattle.mo_types.specs.Loaded.{IsBefore, IsWholeFile}
use Rattle.mo_types.specs.declared.atom.Atom.{Atom}
use Rattle.mo_types.specs.declared.key.AtomKey.{AtomKey}
use Rattle.mo_types.specs.declared.key.FileId.{FileId}
use Rattle.mo_types.specs.declared.loaded.LoadedFile.{LoadedFile}
use Rattle.mo_types.specs.declared.unwind.Unwind.{Unwind}
use Rattle.mo_types.proofs.KeyOrder.{compare_files_total, compare_keys_total}
use Rattle.patch.proofs.ChosenLemmas.{Pairs, in_slice, pairs_filter, pairs_map, some_is}
use Rattle.unwind_link.specs.Kept as entries
use Rattle.unwind_link.specs.Kept.{kept_unwinds}
use Rattle.unwind_link.specs.declared.kept.KeptUnwind.{KeptUnwind}
use Rattle.unwind_read.specs.Laws.{AreApart, IsInAtom}
use Rattle.unwind_read.specs.Unwinds.{unwinds_of}
use Rattle.unwind_read.proofs.LawLemmas.{are_apart, in_atoms}
use Rattle.image_make.specs.Atoms.{common_at, commons_in, is_common_of, kept_as, kept_atoms, kept_in, raised}
use Rattle.image_make.specs.Frames.{AreUnwound}
use Rattle.image_make.specs.Made.{ImageInputs, kept_of}
use Rattle.image_make.specs.declared.kept.KeptAtom.{KeptAtom}
use Rattle.image_make.proofs.PairLemmas.{flat_pairs, pairs_all}
use Rattle.image_make.proofs.CommonLemmas.{common_key}
use Rattle.image_make.proofs.TextLemmas.{IsEntry, is_entry}

-- ---- members of lists that are numbered

pub in_numbered : {X : Type 0} (n : ℕ) (xs : List X) (k : ℕ) (x : X) → slice_get xs k ≡ Some x → In (n + k, x) (enumerate_from n xs)
in_numbered n [] k x e = absurd cc
in_numbered n (y ∷ ys) zero x e = let here : n ≡ n + 0 = omega arith in let same : y ≡ x = some_is y x e in inl (ap (λ (m : ℕ). (m, y)) here ∙ ap (λ z. (n + 0, z)) same)
in_numbered {X = X} n (y ∷ ys) (suc k) x e =
    let same : n + 1 + k ≡ n + suc k = omega arith in
    inr (subst (λ (m : ℕ). In (m, x) (enumerate_from (n + 1) ys)) same (in_numbered (n + 1) ys k x e))

pub from_numbered : {X : Type 0} (n : ℕ) (xs : List X) (p : ℕ × X) → In p (enumerate_from n xs) → (k : ℕ) × (n + k ≡ p.0) × (slice_get xs k ≡ Some p.1)
from_numbered n [] p h = absurd h
from_numbered n (y ∷ ys) p (inl e) = let here : n + 0 ≡ n = omega arith in (0, here ∙ ap (λ q. q.0) e, ap (λ q. Some q.1) e)
from_numbered n (y ∷ ys) p (inr h) =
    let rest = from_numbered (n + 1) ys p h in
    let at : n + 1 + rest.0 ≡ p.0 = rest.1 in
    (suc rest.0, omega (arith, at), rest.2)

-- ---- the entries of an image

-- an entry that is kept is one of the file at its place, whose atom is kept
pub record IsKeptEntry (m : ImageInputs) (one : KeptUnwind) : Type 0 where
  pub file : LoadedFile
  pub there : slice_get m.files one.file ≡ Some file
  pub among : In file m.files
  pub of_file : In one.unwind file.unwinds
  pub kept : has m.keys one.unwind.atom ≡ true

from_file : (m : ImageInputs) (one : KeptUnwind) (p : ℕ × LoadedFile) → slice_get m.files p.0 ≡ Some p.1 → In one (entries.kept_in m.keys p) → IsKeptEntry m one
unfolding Rattle.unwind_link.specs.Kept.kept_in
from_file m one p there h =
    let made = from_map (entries.kept_as p.0) (filter (λ (unwind : Unwind). has m.keys unwind.atom) p.1.unwinds) one h in
    let passes = from_filter (λ (unwind : Unwind). has m.keys unwind.atom) p.1.unwinds made.0 made.1 in
    subst (IsKeptEntry m) made.2 (record { file = p.1; there = there; among = in_slice m.files p.0 p.1 there; of_file = passes.0; kept = passes.1 })

pub kept_entry : (m : ImageInputs) (one : KeptUnwind) → m.unwinds ≡ kept_unwinds m.keys m.files → In one m.unwinds → IsKeptEntry m one
unfolding kept_unwinds
kept_entry m one are h =
    let of = from_flat (entries.kept_in m.keys) (enumerate_from 0 m.files) one (subst (In one) are h) in
    let at = from_numbered 0 m.files of.0 of.1 in
    let place : at.0 ≡ of.0.0 = omega (arith, at.1) in
    from_file m one of.0 (ap (slice_get m.files) (sym place) ∙ at.2) of.2

-- what its object says of it
pub record IsOfObject (m : ImageInputs) (one : KeptUnwind) (file : LoadedFile) : Type 0 where
  pub whole : IsWholeFile file
  pub entry : IsEntry file.object file.id one.unwind
  pub part : IsInAtom file.object file.id one.unwind

pub unwound_of : (m : ImageInputs) (file : LoadedFile) → AreUnwound m.files → In file m.files → unwinds_of file.object file.id ≡ Ok file.unwinds
unwound_of m file read among = all_in (λ (one : LoadedFile). unwinds_of one.object one.id ≡ Ok one.unwinds) m.files file (recursion_from_All (λ (one : LoadedFile). unwinds_of one.object one.id ≡ Ok one.unwinds) m.files read) among

pub part_of : (m : ImageInputs) (file : LoadedFile) (unwind : Unwind) → AreUnwound m.files → In file m.files → In unwind file.unwinds → IsInAtom file.object file.id unwind
part_of m file unwind read among listed =
    all_in (IsInAtom file.object file.id) file.unwinds unwind (recursion_from_All (IsInAtom file.object file.id) file.unwinds (in_atoms file.object file.id file.unwinds (unwound_of m file read among))) listed

pub of_object : (m : ImageInputs) (one : KeptUnwind) (is : IsKeptEntry m one) → All IsWholeFile m.files → AreUnwound m.files → IsOfObject m one is.file
of_object m one is whole read = record {
  whole = all_in IsWholeFile m.files is.file (recursion_from_All IsWholeFile m.files whole) is.among;
  entry = is_entry is.file.object is.file.id is.file.unwinds one.unwind (unwound_of m is.file read is.among) is.of_file;
  part = part_of m is.file one.unwind read is.among is.of_file;
}

-- ---- kept pieces

-- a piece whose key is kept is one of the atoms of the image
pub kept_piece : (m : ImageInputs) (at : ℕ) (file : LoadedFile) (atom : Atom) → slice_get m.files at ≡ Some file → file.atoms ≡ atoms_of file.object file.id → In atom (atoms_of file.object file.id) → has m.keys atom.key ≡ true → In (kept_as m.literals at atom) (kept_of m)
unfolding kept_atoms kept_in
kept_piece m at file atom there cut piece kept =
    let same : 0 + at ≡ at = omega arith in
    let numbered : In (at, file) (enumerate_from 0 m.files) = subst (λ (n : ℕ). In (n, file) (enumerate_from 0 m.files)) same (in_numbered 0 m.files at file there) in
    let among : In atom file.atoms = subst (In atom) (sym cut) piece in
    let pieces : List Atom = filter (λ (a : Atom). has m.keys a.key) file.atoms in
    let commons : List Atom = commons_in m.winners m.keys file.id in
    in_flat (kept_in m.literals m.winners m.keys) (enumerate_from 0 m.files) (at, file) (kept_as m.literals at atom) numbered
    (in_map (kept_as m.literals at) (pieces ++ commons) atom (in_left pieces commons atom (in_filter (λ (a : Atom). has m.keys a.key) file.atoms atom among kept)))

pub raised_key : (m : ImageInputs) (atom : Atom) → (raised m.literals atom).key ≡ atom.key
unfolding raised
raised_key m atom = refl

pub raised_size : (m : ImageInputs) (atom : Atom) → (raised m.literals atom).size ≡ atom.size
unfolding raised
raised_size m atom = refl

-- the key of an atom of the image is kept
common_has : (m : ImageInputs) (file : LoadedFile) (atom : Atom) → In atom (commons_in m.winners m.keys file.id) → has m.keys atom.key ≡ true
unfolding commons_in
common_has m file atom h =
    let of = from_filter_map (common_at m.winners) (filter (is_common_of file.id) m.keys) atom h in
    let listed = (from_filter (is_common_of file.id) m.keys of.0 of.1).0 in
    let named : atom.key ≡ of.0 = common_key m.winners of.0 atom of.2 in
    any_from_in (λ (other : AtomKey). is_eq (compare_keys other atom.key)) m.keys of.0 listed (ap is_eq (ap (compare_keys of.0) named ∙ tied_itself compare_keys_total of.0))

pub kept_has : (m : ImageInputs) (one : KeptAtom) → In one (kept_of m) → has m.keys one.atom.key ≡ true
unfolding kept_atoms kept_in
kept_has m one h =
    let p = from_flat (kept_in m.literals m.winners m.keys) (enumerate_from 0 m.files) one h in
    let pieces : List Atom = filter (λ (a : Atom). has m.keys a.key) p.0.1.atoms in
    let commons : List Atom = commons_in m.winners m.keys p.0.1.id in
    let made = from_map (kept_as m.literals p.0.0) (pieces ++ commons) one p.2 in
    let named : made.0.key ≡ one.atom.key = sym (raised_key m made.0) ∙ ap (λ (k : KeptAtom). k.atom.key) made.2 in
    ap (has m.keys) (sym named) ∙ elim (in_either pieces commons made.0 made.1) [
      | inl piece ↦ (from_filter (λ (a : Atom). has m.keys a.key) p.0.1.atoms made.0 piece).1
      | inr common ↦ common_has m p.0.1 made.0 common
    ]

-- ---- entries stand apart

abbrev pub StandApart : KeptUnwind → KeptUnwind → Type 0
StandApart a b = AreApart a.unwind b.unwind

abbrev Rise : ℕ × LoadedFile → ℕ × LoadedFile → Type 0
Rise p q = IsBefore p.1.id q.1.id

numbered_rise : (n : ℕ) (files : List LoadedFile) → Pairs (λ (a : LoadedFile) (b : LoadedFile). IsBefore a.id b.id) files → Pairs Rise (enumerate_from n files)
numbered_rise n [] rises = tt
numbered_rise n (file ∷ files) rises = (
  (λ q h. let at = from_numbered (n + 1) files q h in rises.0 q.1 (in_slice files at.0 q.1 at.2)),
  numbered_rise (n + 1) files rises.1,
)

not_itself : (a b : FileId) → IsBefore a b → a ≡ b → ⊥
not_itself a b less same =
    let tie : compare_files a b ≡ Equal = subst (λ (f : FileId). compare_files a f ≡ Equal) same (tied_itself compare_files_total a) in
    clash (sym less ∙ tie)
  where
    clash : Less ≡ Equal → ⊥
    clash e = cc

of_its_file : (m : ImageInputs) (p : ℕ × LoadedFile) (one : KeptUnwind) → AreUnwound m.files → In p (enumerate_from 0 m.files) → In one (entries.kept_in m.keys p) → one.unwind.atom.file ≡ p.1.id
unfolding Rattle.unwind_link.specs.Kept.kept_in
of_its_file m p one read among h =
    let made = from_map (entries.kept_as p.0) (filter (λ (unwind : Unwind). has m.keys unwind.atom) p.1.unwinds) one h in
    let listed = (from_filter (λ (unwind : Unwind). has m.keys unwind.atom) p.1.unwinds made.0 made.1).0 in
    let at = from_numbered 0 m.files p among in
    let there = in_slice m.files at.0 p.1 at.2 in
    let part = part_of m p.1 made.0 read there listed in
    ap (λ (k : KeptUnwind). k.unwind.atom.file) (sym made.2) ∙ ap (λ (key : AtomKey). key.file) (sym part.key) ∙ atoms_of_file p.1.object p.1.id part.atom (in_from_Contains (atoms_of p.1.object p.1.id) part.atom part.among)

own_apart : (m : ImageInputs) (p : ℕ × LoadedFile) → AreUnwound m.files → In p (enumerate_from 0 m.files) → Pairs StandApart (entries.kept_in m.keys p)
unfolding Rattle.unwind_link.specs.Kept.kept_in
own_apart m p read among =
    let at = from_numbered 0 m.files p among in
    let unwound = unwound_of m p.1 read (in_slice m.files at.0 p.1 at.2) in
    pairs_map (entries.kept_as p.0) StandApart (filter (λ (unwind : Unwind). has m.keys unwind.atom) p.1.unwinds)
    (pairs_filter AreApart (λ (unwind : Unwind). has m.keys unwind.atom) p.1.unwinds (pairs_all AreApart p.1.unwinds (are_apart p.1.object p.1.id p.1.unwinds unwound)))

pub stand_apart : (m : ImageInputs) → m.unwinds ≡ kept_unwinds m.keys m.files → AllPairs (λ (a : LoadedFile) (b : LoadedFile). IsBefore a.id b.id) m.files → AreUnwound m.files → Pairs StandApart m.unwinds
unfolding kept_unwinds
stand_apart m are rises read =
    subst (Pairs StandApart) (sym are)
    (flat_pairs (entries.kept_in m.keys) Rise StandApart (enumerate_from 0 m.files) (numbered_rise 0 m.files (pairs_all (λ (a : LoadedFile) (b : LoadedFile). IsBefore a.id b.id) m.files rises))
    (λ p h. own_apart m p read h)
    (λ p q a b h k before i j same.
    absurd (not_itself p.1.id q.1.id before (sym (of_its_file m p a read h i) ∙ ap (λ (key : AtomKey). key.file) same ∙ of_its_file m q b read k j))))
