-- What stands for a literal is one of those that are the same, and has the least key of them.
use Rattle.std.proofs.Common.{◌≡◌, ℕ, suc, ◌+◌, ◌<◌, ◌⊎◌, Bool, true, false, ◌&&◌, ◌==◌, List, [], ◌∷◌, ◌++◌, length, filter, Contains, refl, sym, ap, subst, ◌∙◌, inl, inr, arith, Some, None}
use Rattle.std.specs.Prelude.{All, Option, map}
use Rattle.std.specs.List.{AllByRecursion, AllPairs, filter_map}
use Rattle.std.specs.Str.{bytes_eq}
use Rattle.std.specs.List.Sorted.{IsStrictlySortedBy}
use Rattle.std.specs.Ordering.{is_gt, nat_cmp, on, ordering_then}
use Rattle.std.specs.declared.cmp.Ordering.TheVariants.{Less, Equal}
use Rattle.std.specs.Cmp.{nat_cmp_is}
use Rattle.std.proofs.lemmas.Bool.{eqb-true, eq-eqb}
use Rattle.std.proofs.lemmas.Cmp.{tied_itself}
use Rattle.std.proofs.lemmas.Slice.Eq.{bytes_eq-Decides}
use Rattle.list_lemmas.proofs.Members.{In, Contains_from_in, all_from_in, all_in, from_filter, in_filter, in_from_Contains, in_either}
use Rattle.mo_types.specs.declared.atom.Atom.{Atom}
use Rattle.mo_types.specs.declared.key.AtomKey.{AtomKey}
use Rattle.mo_types.specs.declared.key.FileId.{FileId}
use Rattle.mo_types.specs.declared.loaded.Loaded.{Loaded}
use Rattle.mo_types.specs.declared.loaded.LoadedFile.{LoadedFile}
use Rattle.mo_types.specs.declared.object.Object.{Object}
use Rattle.mo_types.specs.declared.object.Section.{Section}
use Rattle.mo_types.specs.Atoms.{atoms_from, atoms_of, cuts, piece, pieces, section_atoms}
use Rattle.mo_types.specs.Keys.{compare_files, compare_keys}
use Rattle.mo_types.specs.Loaded.{IsBefore, IsWholeFile, IsWholeLoaded}
use Rattle.mo_types.specs.RelocationRules.{section_numbered}
use Rattle.mo_types.specs.Whole.{is_dropped}
use Rattle.mo_types.proofs.KeyOrder.{compare_files_total, compare_keys_total}
use Rattle.atom_cut.specs.Laws as cut_laws
use Rattle.atom_cut.proofs.KeyLemmas.{atoms_rise}
use Rattle.literal_merge.specs.inner.Literals.{AreInOrder, literal_key as key_in}
use Rattle.literal_merge.specs.Representatives.{representatives_of, IsRepresentative, Literal, is_same, literal_at, literals, literals_in, is_literal, representative_among, representative_of}

-- ---- literals that are the same

record Fields (a b : Literal) : Type 0 where
  bytes : a.bytes ≡ b.bytes
  name : a.destination.name ≡ b.destination.name
  segment : a.destination.segment ≡ b.destination.segment
  kind : a.destination.kind ≡ b.destination.kind

all_four : (a b c d : Bool) → (a && b && c && d) ≡ true → (a ≡ true) × (b ≡ true) × (c ≡ true) × (d ≡ true)
all_four true true true true e = (refl, refl, refl, refl)
all_four true true true false e = cc
all_four true true false d e = cc
all_four true false c d e = cc
all_four false b c d e = cc

fields : (a b : Literal) → is_same a b ≡ true → Fields a b
unfolding is_same
fields a b e =
    let p = all_four (bytes_eq a.bytes b.bytes) (bytes_eq a.destination.name b.destination.name) (bytes_eq a.destination.segment b.destination.segment) (a.destination.kind == b.destination.kind) e in
    record {
      bytes = (bytes_eq-Decides a.bytes b.bytes).0 p.0;
      name = (bytes_eq-Decides a.destination.name b.destination.name).0 p.1;
      segment = (bytes_eq-Decides a.destination.segment b.destination.segment).0 p.2;
      kind = eqb-true a.destination.kind b.destination.kind p.3;
    }

itself : (a : Literal) → is_same a a ≡ true
unfolding is_same
itself a = rw ((bytes_eq-Decides a.bytes a.bytes).1 refl, (bytes_eq-Decides a.destination.name a.destination.name).1 refl, (bytes_eq-Decides a.destination.segment a.destination.segment).1 refl, eq-eqb a.destination.kind a.destination.kind refl) refl

same_as_same : (a b c : Literal) → Fields a b → is_same a c ≡ is_same b c
unfolding is_same
same_as_same a b c h = rw (h.bytes, h.name, h.segment, h.kind) refl

filters : (a b : Literal) (ls : List Literal) → Fields a b → filter (is_same a) ls ≡ filter (is_same b) ls
filters a b [] h = refl
filters a b (l ∷ ls) h = by (filters a b ls h) (is_same a l) refl
  where
    by : filter (is_same a) ls ≡ filter (is_same b) ls → (t : Bool) → is_same a l ≡ t → filter (is_same a) (l ∷ ls) ≡ filter (is_same b) (l ∷ ls)
    by rest true e = let f : is_same b l ≡ true = sym (same_as_same a b l h) ∙ e in rw (e, f) (ap (λ (xs : List Literal). l ∷ xs) rest)
    by rest false e = let f : is_same b l ≡ false = sym (same_as_same a b l h) ∙ e in rw (e, f) rest

pub share : (all : List Literal) (a b : Literal) → is_same a b ≡ true → Contains all a → Contains all b → (representative_of all a).representative ≡ (representative_of all b).representative
unfolding representative_of representative_among
share all a b same at bt =
    by (filter (is_same a) all) (filter (is_same b) all) (filters a b all (fields a b same)) (in_filter (is_same a) all a (in_from_Contains all a at) (itself a))
  where
    by : (xs ys : List Literal) → xs ≡ ys → In a xs → (representative_among a xs).representative ≡ (representative_among b ys).representative
    by [] ys e h = absurd h
    by (x ∷ xs) ys e h = subst (λ (zs : List Literal). x.key ≡ (representative_among b zs).representative) e refl

-- ---- order

abbrev Precedes : Literal → Literal → Type 0
Precedes a b = compare_keys a.key b.key ≡ Less

InOrder : List Literal → Type 0
InOrder [] = Unit {0}
InOrder (l ∷ ls) = AllByRecursion (Precedes l) ls × InOrder ls

joined : (xs ys : List Literal) → InOrder xs → InOrder ys → ((x y : Literal) → In x xs → In y ys → Precedes x y) → InOrder (xs ++ ys)
unfolding InOrder
joined [] ys h k across = k
joined (x ∷ xs) ys h k across = (
  all_from_in (Precedes x) (xs ++ ys) (λ y there. elim (in_either xs ys y there) [
    | inl first ↦ all_in (Precedes x) xs y h.0 first
    | inr second ↦ across x y (inl refl) second
  ]),
  joined xs ys h.1 k (λ u v a b. across u v (inr a) b),
)

first_least : (test : Literal → Bool) (all : List Literal) (f : Literal) (rest : List Literal) (b : Literal) → InOrder all → filter test all ≡ f ∷ rest → In b (filter test all) → is_gt (compare_keys f.key b.key) ≡ false
unfolding InOrder
first_least test [] f rest b order e h = absurd h
first_least test (l ∷ ls) f rest b order e h = by (λ k m. first_least test ls f rest b order.1 k m) (test l) refl
  where
    by : (filter test ls ≡ f ∷ rest → In b (filter test ls) → is_gt (compare_keys f.key b.key) ≡ false) → (t : Bool) → test l ≡ t → is_gt (compare_keys f.key b.key) ≡ false
    by later true is = split (rw is at e) (rw is at h)
      where
        split : l ∷ filter test ls ≡ f ∷ rest → (l ≡ b) ⊎ In b (filter test ls) → is_gt (compare_keys f.key b.key) ≡ false
        split k (inl same) = let g : f ≡ b = (let g1 : l ≡ f = cc in sym g1 ∙ same) in subst (λ (x : Literal). is_gt (compare_keys f.key x.key) ≡ false) g (ap is_gt (tied_itself compare_keys_total f.key))
        split k (inr there) =
            let g1 : l ≡ f = cc in
            let p : Precedes l b = all_in (Precedes l) ls b order.0 (from_filter test ls b there).0 in
            subst (λ (x : Literal). is_gt (compare_keys x.key b.key) ≡ false) g1 (ap is_gt p)
    by later false is = later (rw is at e) (rw is at h)

-- ---- keys of atoms and literals

pieces_of_file : (file : FileId) (number : ℕ) (section : Section) (cs : List ℕ) (atom : Atom) → In atom (pieces file number section cs) → atom.key.file ≡ file
unfolding piece
pieces_of_file file number section [] atom h = absurd h
pieces_of_file file number section (c ∷ cs) atom (inl e) = sym (ap (λ (a : Atom). a.key.file) e)
pieces_of_file file number section (c ∷ cs) atom (inr h) = pieces_of_file file number section cs atom h

section_of_file : (object : Object) (file : FileId) (number : ℕ) (section : Section) (atom : Atom) → In atom (section_atoms object file number section) → atom.key.file ≡ file
unfolding section_atoms
section_of_file object file number section atom h = by (is_dropped section) refl
  where
    by : (t : Bool) → is_dropped section ≡ t → atom.key.file ≡ file
    by true e = absurd (rw e at h)
    by false e = pieces_of_file file number section (cuts object number section) atom (rw e at h)

sections_of_file : (object : Object) (file : FileId) (number : ℕ) (sections : List Section) (atom : Atom) → In atom (atoms_from object file number sections) → atom.key.file ≡ file
sections_of_file object file number [] atom h = absurd h
sections_of_file object file number (section ∷ sections) atom h = elim (in_either (section_atoms object file number section) (atoms_from object file (number + 1) sections) atom h) [
  | inl here ↦ section_of_file object file number section atom here
  | inr later ↦ sections_of_file object file (number + 1) sections atom later
]

-- atoms of a file have its id
pub atoms_of_file : (object : Object) (file : FileId) (atom : Atom) → In atom (atoms_of object file) → atom.key.file ≡ file
unfolding atoms_of
atoms_of_file object file atom h = sections_of_file object file 1 object.sections atom h

less_than : (a b : ℕ) → a < b → nat_cmp a b ≡ Less
less_than a b low = sym (nat_cmp_is a b Less low)

-- what comes first in its file has the lesser key
pub keys_before : (a b : AtomKey) → a.file ≡ b.file → cut_laws.IsBefore a b → compare_keys a b ≡ Less
keys_before a b file before =
    let tie : compare_files a.file b.file ≡ Equal = subst (λ (f : FileId). compare_files a.file f ≡ Equal) file (tied_itself compare_files_total a.file) in
    rw tie (by before)
  where
    by : cut_laws.IsBefore a b → ordering_then (nat_cmp a.section b.section) (nat_cmp a.offset b.offset) ≡ Less
    by (inl low) = rw (less_than a.section b.section low) refl
    by (inr same) =
        let e : nat_cmp a.section b.section ≡ Equal = sym (nat_cmp_is a.section b.section Equal same.0) in
        rw (e, less_than a.offset b.offset same.1) refl

-- a literal of some atoms has the key and the alignment of one of them
pub record IsOfAtom (atoms : List Atom) (l : Literal) : Type 0 where
  pub atom : Atom
  pub among : In atom atoms
  pub key : l.key ≡ atom.key
  pub align : l.align ≡ atom.align

pub literal_of : (object : Object) (atoms : List Atom) (l : Literal) → In l (filter_map (literal_at object) atoms) → IsOfAtom atoms l
unfolding literal_at
literal_of object [] l h = absurd h
literal_of object (atom ∷ atoms) l h = by (λ m. behind (literal_of object atoms l m)) (section_numbered object.sections atom.key.section) refl
  where
    behind : IsOfAtom atoms l → IsOfAtom (atom ∷ atoms) l
    behind m = record { atom = m.atom; among = inr m.among; key = m.key; align = m.align }

    by : (In l (filter_map (literal_at object) atoms) → IsOfAtom (atom ∷ atoms) l) → (s : Option Section) → section_numbered object.sections atom.key.section ≡ s → IsOfAtom (atom ∷ atoms) l
    by later None e = later (rw e at h)
    by later (Some section) e = test (is_literal section.kind) refl
      where
        test : (t : Bool) → is_literal section.kind ≡ t → IsOfAtom (atom ∷ atoms) l
        test true f = elim (rw (e, f) at h) [
          | inl same ↦ record { atom = atom; among = inl refl; key = sym (ap (λ (x : Literal). x.key) same); align = sym (ap (λ (x : Literal). x.align) same) }
          | inr rest ↦ later rest
        ]
        test false f = later (rw (e, f) at h)

literal_key : (object : Object) (atom : Atom) (l : Literal) → literal_at object atom ≡ Some l → l.key ≡ atom.key
unfolding literal_at
literal_key object atom l e = by (section_numbered object.sections atom.key.section) refl
  where
    by : (s : Option Section) → section_numbered object.sections atom.key.section ≡ s → l.key ≡ atom.key
    by None f = absurd (let g : None ≡ Some l = rw f at e in cc)
    by (Some section) f = test (is_literal section.kind) refl
      where
        some_key : (x : Literal) → Some x ≡ Some l → l.key ≡ x.key
        some_key x g = let k : x ≡ l = cc in sym (ap (λ (y : Literal). y.key) k)

        test : (t : Bool) → is_literal section.kind ≡ t → l.key ≡ atom.key
        test true g = some_key _ (rw (f, g) at e)
        test false g = absurd (let k : None ≡ Some l = rw (f, g) at e in cc)

pub pairs_tail : {X : Type 0} (P : X → X → Type 0) (x : X) (xs : List X) → AllPairs P (x ∷ xs) → AllPairs P xs
pairs_tail P x xs h = λ i j d less within. h (suc i) (suc j) d (omega (arith, less)) (omega (arith, within))

pub pairs_head : {X : Type 0} (P : X → X → Type 0) (x : X) (xs : List X) (y : X) → AllPairs P (x ∷ xs) → In y xs → P x y
pairs_head {X = X} P x xs y h there =
    let c : Contains xs y = Contains_from_in xs y there in
    subst (λ (z : X). P x z) c.2 (h 0 (suc c.0) y (omega arith) (let low : c.0 < length xs = c.1 in omega (arith, low)))

file_order : (object : Object) (file : FileId) (atoms : List Atom) → AllPairs (λ a b. cut_laws.IsBefore a.key b.key) atoms → ((atom : Atom) → In atom atoms → atom.key.file ≡ file) → InOrder (filter_map (literal_at object) atoms)
unfolding InOrder
file_order object file [] pairs own = tt
file_order object file (atom ∷ atoms) pairs own = by (file_order object file atoms (pairs_tail (λ (a : Atom) (b : Atom). cut_laws.IsBefore a.key b.key) atom atoms pairs) (λ a h. own a (inr h))) (literal_at object atom) refl
  where
    by : InOrder (filter_map (literal_at object) atoms) → (o : Option Literal) → literal_at object atom ≡ o → InOrder (filter_map (literal_at object) (atom ∷ atoms))
    by rest None e = rw e rest
    by rest (Some l) e = rw e (all_from_in (Precedes l) (filter_map (literal_at object) atoms) after, rest)
      where
        after : (b : Literal) → In b (filter_map (literal_at object) atoms) → Precedes l b
        after b there =
            let m = literal_of object atoms b there in
            let before : compare_keys atom.key m.atom.key ≡ Less = keys_before atom.key m.atom.key (own atom (inl refl) ∙ sym (own m.atom (inr m.among))) (pairs_head (λ (a : Atom) (c : Atom). cut_laws.IsBefore a.key c.key) atom atoms m.atom pairs m.among) in
            rw (literal_key object atom l e, m.key) before

whole_order : (file : LoadedFile) → IsWholeFile file → InOrder (literals_in file)
unfolding literals_in
whole_order file whole = rw whole.atoms (file_order file.object file.id (atoms_of file.object file.id) (atoms_rise file.object file.id) (atoms_of_file file.object file.id))

file_of_literal : (file : LoadedFile) (l : Literal) → IsWholeFile file → In l (literals_in file) → l.key.file ≡ file.id
unfolding literals_in
file_of_literal file l whole h =
    let m = literal_of file.object file.atoms l h in
    ap (λ (k : AtomKey). k.file) m.key ∙ atoms_of_file file.object file.id m.atom (subst (λ (xs : List Atom). In m.atom xs) whole.atoms m.among)

in_files : (files : List LoadedFile) (l : Literal) → AllByRecursion IsWholeFile files → In l (literals files) → (file : LoadedFile) × In file files × (l.key.file ≡ file.id)
unfolding literals
in_files [] l whole h = absurd h
in_files (file ∷ files) l whole h = elim (in_either_of l (literals_in file) (literals files) h) [
  | inl here ↦ (file, inl refl, file_of_literal file l whole.0 here)
  | inr later ↦ let m = in_files files l whole.1 later in (m.0, inr m.1, m.2)
]
  where
    in_either_of : (x : Literal) (xs ys : List Literal) → In x (xs ++ ys) → In x xs ⊎ In x ys
    in_either_of x xs ys h = in_either xs ys x h

files_order : (files : List LoadedFile) → AllPairs (λ a b. IsBefore a.id b.id) files → AllByRecursion IsWholeFile files → InOrder (literals files)
unfolding literals InOrder
files_order [] pairs whole = tt
files_order (file ∷ files) pairs whole =
    joined (literals_in file) (literals files) (whole_order file whole.0) (files_order files (pairs_tail (λ (a : LoadedFile) (b : LoadedFile). IsBefore a.id b.id) file files pairs) whole.1) across
  where
    across : (x y : Literal) → In x (literals_in file) → In y (literals files) → Precedes x y
    across x y h k =
        let m = in_files files y whole.1 k in
        let before : compare_files file.id m.0.id ≡ Less = pairs_head (λ (a : LoadedFile) (b : LoadedFile). IsBefore a.id b.id) file files m.0 pairs m.1 in
        let first : compare_files x.key.file y.key.file ≡ Less = rw (file_of_literal file x whole.0 h, m.2) before in
        rw first refl

-- ---- the representative

is_one : (literal : Literal) (xs : List Literal) → In literal xs → (f : Literal) × (rest : List Literal) × (xs ≡ f ∷ rest) × ((representative_among literal xs).representative ≡ f.key)
unfolding representative_among
is_one literal [] h = absurd h
is_one literal (x ∷ xs) h = (x, xs, refl, refl)

pub is_least : (loaded : Loaded) → IsWholeLoaded loaded → (literal : Literal) → Contains (literals loaded.files) literal → IsRepresentative (literals loaded.files) literal (representative_of (literals loaded.files) literal).representative
unfolding representative_of
is_least loaded whole literal there =
    let all : List Literal = literals loaded.files in
    let order : InOrder all = files_order loaded.files whole.rises (recursion loaded.files whole.files) in
    let m = is_one literal (filter (is_same literal) all) (in_filter (is_same literal) all literal (in_from_Contains all literal there) (itself literal)) in
    let first = from_filter (is_same literal) all m.0 (subst (λ (xs : List Literal). In m.0 xs) (sym m.2) (inl refl)) in
    record {
      one = m.0;
      there = Contains_from_in all m.0 first.0;
      same = first.1;
      named = sym m.3;
      least = λ other at same. rw m.3 (first_least (is_same literal) all m.0 m.1 other order m.2 (in_filter (is_same literal) all other (in_from_Contains all other at) same));
    }
  where
    recursion : (files : List LoadedFile) → All IsWholeFile files → AllByRecursion IsWholeFile files
    recursion [] h = tt
    recursion (file ∷ files) h = (h 0 file (omega arith), recursion files (λ k d low. h (suc k) d (omega (arith, low))))

-- ---- the order of what stands for literals

key_kept : (l : Literal) (xs : List Literal) → (representative_among l xs).literal ≡ l.key
unfolding representative_among
key_kept l [] = refl
key_kept l (x ∷ xs) = refl

mapped : (all ls : List Literal) → InOrder ls → IsStrictlySortedBy (on key_in compare_keys) (map (representative_of all) ls)
unfolding InOrder IsStrictlySortedBy representative_of
mapped all [] h = tt
mapped all (l ∷ ls) h = (others ls h.0, mapped all ls h.1)
  where
    others : (xs : List Literal) → AllByRecursion (Precedes l) xs → AllByRecursion (λ r. on key_in compare_keys (representative_among l (filter (is_same l) all)) r ≡ Less) (map (representative_of all) xs)
    others [] k = tt
    others (x ∷ xs) k = (rw (key_kept l (filter (is_same l) all), key_kept x (filter (is_same x) all)) k.0, others xs k.1)

pub in_order : (loaded : Loaded) → IsWholeLoaded loaded → AreInOrder (representatives_of loaded.files)
unfolding representatives_of
in_order loaded whole = record { rise = mapped (literals loaded.files) (literals loaded.files) (files_order loaded.files whole.rises (recursion loaded.files whole.files)) }
  where
    recursion : (files : List LoadedFile) → All IsWholeFile files → AllByRecursion IsWholeFile files
    recursion [] h = tt
    recursion (file ∷ files) h = (h 0 file (omega arith), recursion files (λ k d low. h (suc k) d (omega (arith, low))))

pub ruleset representatives = (is_least, share)
