-- Files by their ids, and atoms by their keys: there is one of each.
use Rattle.std.proofs.Common.{◌≡◌, ℕ, suc, ◌+◌, ◌<◌, Bool, true, List, [], ◌∷◌, find, get_or, Option, Some, None, inl, inr, refl, sym, ap, ◌∙◌, subst, arith}
use Rattle.std.specs.Prelude.{slice_get}
use Rattle.std.specs.List.{enumerate_from}
use Rattle.std.specs.Ordering.{is_eq}
use Rattle.std.specs.declared.cmp.Ordering.TheVariants.{Less, Equal}
use Rattle.std.proofs.lemmas.Bool.{cases_order, false≢true}
use Rattle.std.proofs.lemmas.Cmp.{tied_itself}
use Rattle.std.proofs.lemmas.Option.{get_or_from_slice_get, slice_get_within}
use Rattle.list_lemmas.proofs.Members.{Contains_from_in, In, find_none, find_some}
use Rattle.mo_types.specs.Atoms.{atoms_of}
use Rattle.mo_types.specs.Keys.{compare_files, compare_keys}
use Rattle.mo_types.specs.Loaded.{IsWholeFile}
use Rattle.mo_types.proofs.KeyOrder.{compare_files_total, compare_keys_total}
use Rattle.mo_types.specs.declared.atom.Atom.{Atom}
use Rattle.mo_types.specs.declared.key.AtomKey.{AtomKey}
use Rattle.mo_types.specs.declared.key.FileId.{FileId}
use Rattle.mo_types.specs.declared.loaded.LoadedFile.{LoadedFile}
use Rattle.atom_cut.specs.Laws as cut_laws
use Rattle.atom_cut.proofs.KeyLemmas.{atoms_rise}
use Rattle.atom_index.proofs.Keys.{is_equal, same_key}
use Rattle.literal_merge.proofs.RepresentativeLemmas.{atoms_of_file, keys_before}
use Rattle.image_laws.proofs.Alone.{alone}
use Rattle.image_laws.proofs.Loading.{from_all}
use Rattle.link_files.specs.Linked.{AreOrdered}
use Rattle.link_files.proofs.KeptLemmas.{same_file}
use Rattle.link_files.proofs.Lists.{in_numbered, some_is}
use Rattle.loader_laws.specs.Tellings.{AreWhole}

-- ---- places of lists

-- a place of a list
pub at_in : {X : Type 0} (xs : List X) (x : X) → In x xs → (k : ℕ) × (slice_get xs k ≡ Some x)
at_in [] x h = absurd h
at_in (y ∷ ys) x (inl e) = (0, ap Some e)
at_in (y ∷ ys) x (inr h) = let rest = at_in ys x h in (suc rest.0, rest.1)

pub in_all : {X : Type 0} (xs : List X) (k : ℕ) (x : X) → slice_get xs k ≡ Some x → In (k, x) (enumerate_from 0 xs)
in_all xs k x is = let same : 0 + k ≡ k = omega arith in subst (λ (n : ℕ). In (n, x) (enumerate_from 0 xs)) same (in_numbered 0 xs k x is)

less_not_equal : Less ≡ Equal → ⊥
less_not_equal e = cc

-- ---- files by their ids

before : (files : List LoadedFile) (i j : ℕ) (a b : LoadedFile) → AreOrdered files → slice_get files i ≡ Some a → slice_get files j ≡ Some b → i < j → compare_files a.id b.id ≡ Less
before files i j a b ordered p q less =
    let first : get_or files i a ≡ a = get_or_from_slice_get files i a a p in
    let second : get_or files j a ≡ b = get_or_from_slice_get files j b a q in
    subst (λ (x : LoadedFile). compare_files x.id b.id ≡ Less) first (subst (λ (x : LoadedFile). compare_files (get_or files i a).id x.id ≡ Less) second (ordered i j a less (slice_get_within files j b q)))

not_itself : (a b : FileId) → compare_files a b ≡ Less → a ≡ b → ⊥
not_itself a b less same =
    let tie : compare_files a b ≡ Equal = subst (λ (f : FileId). compare_files a f ≡ Equal) same (tied_itself compare_files_total a) in
    less_not_equal (sym less ∙ tie)

-- no two files have one id
pub one_file : (files : List LoadedFile) (a b : LoadedFile) → AreOrdered files → In a files → In b files → a.id ≡ b.id → a ≡ b
one_file files a b ordered p q same = by (at_in files a p) (at_in files b q)
  where
    by : (i : ℕ) × (slice_get files i ≡ Some a) → (j : ℕ) × (slice_get files j ≡ Some b) → a ≡ b
    by (i, is) (j, there) = elim (cases_order i j) [
      | inl equal ↦ some_is a b (sym is ∙ ap (slice_get files) equal ∙ there)
      | inr apart ↦ elim apart [
        | inl less ↦ absurd (not_itself a.id b.id (before files i j a b ordered is there less) same)
        | inr more ↦ absurd (not_itself b.id a.id (before files j i b a ordered there is more) (sym same))
      ]
    ]

pub file_found : (files : List LoadedFile) (file : LoadedFile) (id : FileId) → AreOrdered files → In file files → file.id ≡ id → find (λ file. is_eq (compare_files file.id id)) files ≡ Some file
file_found files file id ordered h same = by (find test files) refl
  where
    test : LoadedFile → Bool
    test other = is_eq (compare_files other.id id)

    passes : test file ≡ true
    passes = subst (λ (f : FileId). is_eq (compare_files file.id f) ≡ true) same (ap is_eq (tied_itself compare_files_total file.id))

    by : (o : Option LoadedFile) → find test files ≡ o → o ≡ Some file
    by None e = absurd (false≢true (sym (find_none test files file e h) ∙ passes))
    by (Some other) e =
        let found = find_some test files other e in
        ap Some (one_file files other file ordered found.0 h (same_file other.id id found.1 ∙ sym same))

-- ---- atoms by their keys

pub key_itself : (key : AtomKey) → is_eq (compare_keys key key) ≡ true
key_itself key = ap is_eq (tied_itself compare_keys_total key)

pub key_found : (a b : AtomKey) → is_eq (compare_keys a b) ≡ true → a ≡ b
key_found a b e = same_key a b (is_equal (compare_keys a b) e)

-- the atoms of a file are those of its object
pub cut_from : (file : LoadedFile) (atom : Atom) → IsWholeFile file → In atom file.atoms → In atom (atoms_of file.object file.id)
cut_from file atom whole h = subst (λ (xs : List Atom). In atom xs) whole.atoms h

pub atom_file : (file : LoadedFile) (atom : Atom) → IsWholeFile file → In atom file.atoms → atom.key.file ≡ file.id
atom_file file atom whole h = atoms_of_file file.object file.id atom (cut_from file atom whole h)

-- atoms of one file with one key are one
one_of_file : (file : LoadedFile) (a b : Atom) → IsWholeFile file → In a file.atoms → In b file.atoms → a.key ≡ b.key → a ≡ b
one_of_file file a b whole p q same =
    alone (λ (x : Atom) (y : Atom). cut_laws.IsBefore x.key y.key) (atoms_of file.object file.id) a b (atoms_rise file.object file.id)
    (Contains_from_in (atoms_of file.object file.id) a (cut_from file a whole p)) (Contains_from_in (atoms_of file.object file.id) b (cut_from file b whole q))
    (λ first. clash a.key b.key same (keys_before a.key b.key (ap (λ (k : AtomKey). k.file) same) first))
    (λ second. clash b.key a.key (sym same) (keys_before b.key a.key (sym (ap (λ (k : AtomKey). k.file) same)) second))
  where
    clash : (x y : AtomKey) → x ≡ y → compare_keys x y ≡ Less → ⊥
    clash x y e less = less_not_equal (sym less ∙ ap (λ (k : AtomKey). compare_keys k y) e ∙ tied_itself compare_keys_total y)

-- atoms of files with one key are one
pub one_atom : (files : List LoadedFile) (file other : LoadedFile) (a b : Atom) → AreOrdered files → AreWhole files → In file files → In other files → In a file.atoms → In b other.atoms → a.key ≡ b.key → a ≡ b
one_atom files file other a b ordered whole f g p q same =
    let one : IsWholeFile file = from_all IsWholeFile files file whole f in
    let two : IsWholeFile other = from_all IsWholeFile files other whole g in
    let id : file.id ≡ other.id = sym (atom_file file a one p) ∙ ap (λ (k : AtomKey). k.file) same ∙ atom_file other b two q in
    let here : file ≡ other = one_file files file other ordered f g id in
    one_of_file file a b one p (subst (λ (f : LoadedFile). In b f.atoms) (sym here) q) same
