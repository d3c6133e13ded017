-- The atom to which an offset belongs, by a search of all atoms.
use Rattle.std.proofs.Common.{◌≡◌, ℕ, zero, suc, ◌+◌, ◌-◌, ◌<◌, ◌≤◌, ◌++◌, ◌∷◌, [], ◌&&◌, ◌||◌, ◌⊎◌, inl, inr, List, length, get_or, Bool, true, false, cond, eqb, ltb, leb, filter, refl, sym, ap, ◌∙◌, subst, arith, if◌then◌else◌}
use Rattle.std.specs.List.{AllByRecursion, AllPairs, range_with_len}
use Rattle.std.specs.List.Sorted.{IsPartitionedBy, IsPartitionPoint}
use Rattle.std.proofs.lemmas.Bool.{cases_lt, cases_eq, false≢true, eqb-true, eq-eqb, ltb-true, lt-ltb, leb-true, le-leb}
use Rattle.std.proofs.lemmas.List.{get_or_default}
use Rattle.std.proofs.lemmas.List.Elements.{All-from_recursion}
use Rattle.mo_types.specs.declared.atom.Atom.{Atom}
use Rattle.mo_types.specs.declared.key.AtomKey.{AtomKey}
use Rattle.mo_types.specs.declared.key.FileId.{FileId}
use Rattle.mo_types.specs.declared.object.Object.{Object}
use Rattle.mo_types.specs.declared.object.Section.{Section}
use Rattle.mo_types.specs.Atoms.{cuts, cut_of, is_cut, piece, pieces, section_atoms, atoms_from, atoms_of}
use Rattle.mo_types.specs.Whole.{is_dropped}
use Rattle.atom_cut.specs.Laws.{IsBefore, IsGreatest}
use Rattle.atom_cut.proofs.CutLemmas.{start_is_cut}
use Rattle.atom_cut.proofs.KeyLemmas.{atoms_rise, atoms_stand, sections_stand, StandsFrom, IsInOrAfter}
use Rattle.atom_cut.proofs.RisingLemmas.{Has}
use Rattle.atom_cut.proofs.TileLemmas.{greatest_cut}
use Rattle.reloc_read.specs.CutObject.{is_up_to}

-- tests of keys

either : (a b : Bool) → (a || b) ≡ true → (a ≡ true) ⊎ (b ≡ true)
either true b e = inl refl
either false b e = inr e

both : (a b : Bool) → (a && b) ≡ true → (a ≡ true) × (b ≡ true)
both true b e = (refl, e)
both false b e = absurd (false≢true e)

-- a key in a section before, or in the section and not after the offset
abbrev UpTo : ℕ → ℕ → AtomKey → Type 0
UpTo number offset key = (key.section < number) ⊎ ((key.section ≡ number) × (key.offset ≤ offset))

up_to_is : (number offset : ℕ) (key : AtomKey) → is_up_to number offset key ≡ true → UpTo number offset key
up_to_is number offset key e =
    elim (either (ltb key.section number) (eqb key.section number && leb key.offset offset) e) [
      | inl before ↦ inl (ltb-true key.section number before)
      | inr here ↦
          let parts : (eqb key.section number ≡ true) × (leb key.offset offset ≡ true) = both _ _ here in
          inr (eqb-true key.section number parts.0, leb-true key.offset offset parts.1)
    ]

is_in : (number offset : ℕ) (key : AtomKey) → UpTo number offset key → is_up_to number offset key ≡ true
is_in number offset key (inl before) = rw (lt-ltb key.section number before) refl
is_in number offset key (inr here) = or_right (ltb key.section number) (eqb key.section number && leb key.offset offset) (rw (eq-eqb key.section number here.0, le-leb key.offset offset here.1) refl)
  where
    or_right : (a b : Bool) → b ≡ true → (a || b) ≡ true
    or_right true b e = refl
    or_right false b e = e

before_is_in : (number offset : ℕ) (a b : AtomKey) → IsBefore a b → UpTo number offset b → UpTo number offset a
before_is_in number offset a b (inl less) (inl before) = inl (omega arith)
before_is_in number offset a b (inl less) (inr here) = let same : b.section ≡ number = here.0 in inl (omega arith)
before_is_in number offset a b (inr less) (inl before) = let same : a.section ≡ b.section = less.0 in inl (omega arith)
before_is_in number offset a b (inr less) (inr here) =
    let below : a.offset < b.offset = less.1 in
    let low : b.offset ≤ offset = here.1 in
    inr (less.0 ∙ here.0, omega arith)

pub keys_are_parted : (number offset : ℕ) (atoms : List Atom) → AllPairs (λ a b. IsBefore a.key b.key) atoms → IsPartitionedBy (λ atom. is_up_to number offset atom.key) atoms
keys_are_parted number offset atoms rise i j d less within pass =
    elim (cases_lt i j) [
      | inl below ↦ is_in number offset (get_or atoms i d).key (before_is_in number offset (get_or atoms i d).key (get_or atoms j d).key (rise i j d below within) (up_to_is number offset (get_or atoms j d).key pass))
      | inr above ↦ let same : j ≡ i = omega arith in subst (λ (k : ℕ). is_up_to number offset (get_or atoms k d).key ≡ true) same pass
    ]

-- some atom has a property

abbrev Some_has : (Atom → Type 0) → List Atom → Type 0
Some_has P [] = ⊥
Some_has P (x ∷ xs) = P x ⊎ Some_has P xs

pub record Place (P : Atom → Type 0) (xs : List Atom) : Type 0 where
  pub at : ℕ
  pub atom : Atom
  pub within : at < length xs
  pub is : get_or xs at atom ≡ atom
  pub has : P atom

place_of : (P : Atom → Type 0) (xs : List Atom) → Some_has P xs → Place P xs
place_of P [] some = absurd some
place_of P (x ∷ xs) (inl here) = record { at = 0; atom = x; within = omega arith; is = refl; has = here }
place_of P (x ∷ xs) (inr there) =
    let rest : Place P xs = place_of P xs there in
    let inside : rest.at < length xs = rest.within in
    record { at = suc rest.at; atom = rest.atom; within = omega arith; is = rest.is; has = rest.has }

in_first : (P : Atom → Type 0) (xs ys : List Atom) → Some_has P xs → Some_has P (xs ++ ys)
in_first P [] ys some = absurd some
in_first P (x ∷ xs) ys (inl here) = inl here
in_first P (x ∷ xs) ys (inr there) = inr (in_first P xs ys there)

in_second : (P : Atom → Type 0) (xs ys : List Atom) → Some_has P ys → Some_has P (xs ++ ys)
in_second P [] ys some = some
in_second P (x ∷ xs) ys some = inr (in_second P xs ys some)

-- each cut begins an atom

kept_first : (y : ℕ) (test : Bool) (x : ℕ) (xs : List ℕ) → test ≡ true → x ≡ y → Has y (cond test (x ∷ xs) xs)
kept_first y true x xs e same = inl same
kept_first y false x xs e same = absurd (false≢true e)

kept_later : (y : ℕ) (test : Bool) (x : ℕ) (xs : List ℕ) → Has y xs → Has y (cond test (x ∷ xs) xs)
kept_later y true x xs has = inr has
kept_later y false x xs has = has

in_filter : (p : ℕ → Bool) (a n y : ℕ) → a ≤ y → y < a + n → p y ≡ true → Has y (filter p (range_with_len a n))
in_filter p a zero y low high pass = absurd (omega arith)
in_filter p a (suc n) y low high pass =
    elim (cases_lt a y) [
      | inl more ↦ kept_later y (p a) a (filter p (range_with_len (a + 1) n)) (in_filter p (a + 1) n y (omega arith) (omega arith) pass)
      | inr less ↦ let same : a ≡ y = omega arith in kept_first y (p a) a (filter p (range_with_len (a + 1) n)) (ap p same ∙ pass) same
    ]

cut_is_small : (object : Object) (number : ℕ) (section : Section) (y : ℕ) → is_cut object number section y ≡ true → (y ≡ 0) ⊎ (y < section.size)
unfolding is_cut
cut_is_small object number section y pass =
    elim (either _ _ pass) [ inl start ↦ inl (eqb-true y 0 start) | inr more ↦ inr (ltb-true y section.size (both _ _ more).0) ]

cut_is_listed : (object : Object) (number : ℕ) (section : Section) (y : ℕ) → is_cut object number section y ≡ true → Has y (cuts object number section)
unfolding cuts
cut_is_listed object number section y pass =
    elim (cases_eq 0 y) [
      | inl start ↦ inl start
      | inr other ↦ inr (elim (cut_is_small object number section y pass) [
        | inl start ↦ absurd (other (sym start))
        | inr small ↦ let more : 1 ≤ y = positive y other in in_filter (is_cut object number section) 1 (section.size - 1) y more (omega arith) pass
      ])
    ]
  where
    positive : (n : ℕ) → (0 ≡ n → ⊥) → 1 ≤ n
    positive zero other = absurd (other refl)
    positive (suc n) other = omega arith

abbrev HasKey : ℕ → ℕ → Atom → Type 0
HasKey number y atom = (atom.key.section ≡ number) × (atom.key.offset ≡ y)

listed_begins : (file : FileId) (number : ℕ) (section : Section) (cuts : List ℕ) (y : ℕ) → Has y cuts → Some_has (HasKey number y) (pieces file number section cuts)
unfolding piece
listed_begins file number section [] y has = absurd has
listed_begins file number section (cut ∷ cuts) y (inl here) = inl (refl, here)
listed_begins file number section (cut ∷ cuts) y (inr there) = inr (listed_begins file number section cuts y there)

section_begins : (object : Object) (file : FileId) (number : ℕ) (section : Section) (y : ℕ) → is_dropped section ≡ false → is_cut object number section y ≡ true → Some_has (HasKey number y) (section_atoms object file number section)
unfolding section_atoms
section_begins object file number section y linked pass = rw linked (listed_begins file number section (cuts object number section) y (cut_is_listed object number section y pass))

sections_begin : (object : Object) (file : FileId) (number : ℕ) (sections : List Section) (index : ℕ) (d : Section) (y : ℕ) → index < length sections → is_dropped (get_or sections index d) ≡ false → is_cut object (number + index) (get_or sections index d) y ≡ true → Some_has (HasKey (number + index) y) (atoms_from object file number sections)
sections_begin object file number [] index d y within linked pass = absurd (omega arith)
sections_begin object file number (section ∷ sections) zero d y within linked pass =
    let same : number + zero ≡ number = omega arith in
    in_first (HasKey (number + zero) y) (section_atoms object file number section) (atoms_from object file (number + 1) sections)
    (subst (λ (n : ℕ). Some_has (HasKey n y) (section_atoms object file number section)) (sym same)
    (section_begins object file number section y linked (subst (λ (n : ℕ). is_cut object n section y ≡ true) same pass)))
sections_begin object file number (section ∷ sections) (suc index) d y within linked pass =
    let same : number + 1 + index ≡ number + suc index = omega arith in
    in_second (HasKey (number + suc index) y) (section_atoms object file number section) (atoms_from object file (number + 1) sections)
    (subst (λ (n : ℕ). Some_has (HasKey n y) (atoms_from object file (number + 1) sections)) same
    (sections_begin object file (number + 1) sections index d y (omega arith) linked (subst (λ (n : ℕ). is_cut object n (get_or sections index d) y ≡ true) (sym same) pass)))

-- each atom begins at a cut

abbrev Pass : (ℕ → Bool) → List ℕ → Type 0
Pass p [] = Unit {0}
Pass p (x ∷ xs) = (p x ≡ true) × Pass p xs

kept_pass : (p : ℕ → Bool) (test : Bool) (x : ℕ) (xs : List ℕ) → p x ≡ test → Pass p xs → Pass p (cond test (x ∷ xs) xs)
kept_pass p true x xs e rest = (e, rest)
kept_pass p false x xs e rest = rest

filter_pass : (p : ℕ → Bool) (a n : ℕ) → Pass p (filter p (range_with_len a n))
filter_pass p a zero = tt
filter_pass p a (suc n) = kept_pass p (p a) a (filter p (range_with_len (a + 1) n)) refl (filter_pass p (a + 1) n)

cuts_pass : (object : Object) (number : ℕ) (section : Section) → Pass (is_cut object number section) (cuts object number section)
unfolding cuts
cuts_pass object number section = (start_is_cut object number section, filter_pass (is_cut object number section) 1 (section.size - 1))

-- where it stands in the section of a number it begins at a cut
abbrev AtCut : Object → ℕ → Section → Atom → Type 0
AtCut object number section atom = atom.key.section ≡ number → is_cut object number section atom.key.offset ≡ true

pieces_at_cuts : (object : Object) (file : FileId) (number : ℕ) (section : Section) (cuts : List ℕ) → Pass (is_cut object number section) cuts → AllByRecursion (AtCut object number section) (pieces file number section cuts)
unfolding piece
pieces_at_cuts object file number section [] pass = tt
pieces_at_cuts object file number section (cut ∷ cuts) pass = ((λ same. pass.0), pieces_at_cuts object file number section cuts pass.1)

chosen_at_cuts : (object : Object) (file : FileId) (number : ℕ) (section : Section) (dropped : Bool) → AllByRecursion (AtCut object number section) (if dropped then [] else pieces file number section (cuts object number section))
chosen_at_cuts object file number section true = tt
chosen_at_cuts object file number section false = pieces_at_cuts object file number section (cuts object number section) (cuts_pass object number section)

section_at_cuts : (object : Object) (file : FileId) (number : ℕ) (section : Section) → AllByRecursion (AtCut object number section) (section_atoms object file number section)
unfolding section_atoms
section_at_cuts object file number section = chosen_at_cuts object file number section (is_dropped section)

weaker : (P Q : Atom → Type 0) → ((atom : Atom) → P atom → Q atom) → (atoms : List Atom) → AllByRecursion P atoms → AllByRecursion Q atoms
weaker P Q step [] all = tt
weaker P Q step (atom ∷ atoms) all = (step atom all.0, weaker P Q step atoms all.1)

joined : (P : Atom → Type 0) (xs ys : List Atom) → AllByRecursion P xs → AllByRecursion P ys → AllByRecursion P (xs ++ ys)
joined P [] ys first second = second
joined P (x ∷ xs) ys first second = (first.0, joined P xs ys first.1 second)

sections_at_cuts : (object : Object) (file : FileId) (number : ℕ) (sections : List Section) (index : ℕ) (d : Section) → index < length sections → AllByRecursion (AtCut object (number + index) (get_or sections index d)) (atoms_from object file number sections)
sections_at_cuts object file number [] index d within = absurd (omega arith)
sections_at_cuts object file number (section ∷ sections) zero d within =
    let same : number ≡ number + zero = omega arith in
    joined (AtCut object (number + zero) section) (section_atoms object file number section) (atoms_from object file (number + 1) sections)
    (subst (λ (n : ℕ). AllByRecursion (AtCut object n section) (section_atoms object file number section)) same (section_at_cuts object file number section))
    (weaker (IsInOrAfter (number + 1)) (AtCut object (number + zero) section) (λ atom after is. let far : number + 1 ≤ atom.key.section = after in absurd (omega arith))
    (atoms_from object file (number + 1) sections) (sections_stand object file (number + 1) sections))
sections_at_cuts object file number (section ∷ sections) (suc index) d within =
    let same : number + 1 + index ≡ number + suc index = omega arith in
    joined (AtCut object (number + suc index) (get_or sections index d)) (section_atoms object file number section) (atoms_from object file (number + 1) sections)
    (weaker (StandsFrom number 0) (AtCut object (number + suc index) (get_or sections index d)) (λ atom stands is. let here : atom.key.section ≡ number = stands.section in absurd (omega arith))
    (section_atoms object file number section) (atoms_stand object file number section))
    (subst (λ (n : ℕ). AllByRecursion (AtCut object n (get_or sections index d)) (atoms_from object file (number + 1) sections)) same
    (sections_at_cuts object file (number + 1) sections index d (omega arith)))

-- the search

abbrev Parted : ℕ → ℕ → List Atom → ℕ → Type 0
Parted number offset atoms n = IsPartitionPoint (λ (atom : Atom). is_up_to number offset atom.key ≡ true) (λ (atom : Atom). is_up_to number offset atom.key ≡ false) atoms n

comes_before : (number offset : ℕ) (atoms : List Atom) (n j : ℕ) (x : Atom) → Parted number offset atoms n → j < length atoms → UpTo number offset (get_or atoms j x).key → j < n
comes_before number offset atoms n j x point within up =
    elim (cases_lt j n) [
      | inl below ↦ below
      | inr past ↦ absurd (false≢true (sym (point.1 j x past within) ∙ is_in number offset (get_or atoms j x).key up))
    ]

key_at : (number y : ℕ) (atoms : List Atom) (place : Place (HasKey number y) atoms) → ((get_or atoms place.at place.atom).key.section ≡ number) × ((get_or atoms place.at place.atom).key.offset ≡ y)
key_at number y atoms place = (ap (λ (a : Atom). a.key.section) place.is ∙ place.has.0, ap (λ (a : Atom). a.key.offset) place.is ∙ place.has.1)

-- an atom of the section that isn't after the offset isn't after the last such atom
not_after : (number offset y : ℕ) (atoms : List Atom) (n : ℕ) (x : Atom) → AllPairs (λ a b. IsBefore a.key b.key) atoms → n ≤ length atoms → Parted number offset atoms n → y ≤ offset → Place (HasKey number y) atoms → (0 < n) × ((number < (get_or atoms (n - 1) x).key.section) ⊎ (((get_or atoms (n - 1) x).key.section ≡ number) × (y ≤ (get_or atoms (n - 1) x).key.offset)))
not_after number offset y atoms n x rise bound point low place =
    let key : ((get_or atoms place.at x).key.section ≡ number) × ((get_or atoms place.at x).key.offset ≡ y) =
    subst (λ (a : Atom). (a.key.section ≡ number) × (a.key.offset ≡ y)) (get_or_default atoms place.at place.atom x place.within) (key_at number y atoms place) in
    let section : (get_or atoms place.at x).key.section ≡ number = key.0 in
    let offset_is : (get_or atoms place.at x).key.offset ≡ y = key.1 in
    let inside : place.at < length atoms = place.within in
    let less : place.at < n = comes_before number offset atoms n place.at x point inside (inr (section, omega arith)) in (
      omega arith,
      elim (cases_lt place.at (n - 1)) [
        | inl below ↦ elim (rise place.at (n - 1) x below (omega arith)) [
          | inl further ↦ inl (omega arith)
          | inr same ↦
              let sections : (get_or atoms place.at x).key.section ≡ (get_or atoms (n - 1) x).key.section = same.0 in
              let offsets : (get_or atoms place.at x).key.offset < (get_or atoms (n - 1) x).key.offset = same.1 in
              inr (sym sections ∙ section, omega arith)
        ]
        | inr last ↦
            let is : place.at ≡ n - 1 = omega arith in
            let here : ((get_or atoms (n - 1) x).key.section ≡ number) × ((get_or atoms (n - 1) x).key.offset ≡ y) =
            subst (λ (k : ℕ). ((get_or atoms k x).key.section ≡ number) × ((get_or atoms k x).key.offset ≡ y)) is key in
            let offset_here : (get_or atoms (n - 1) x).key.offset ≡ y = here.1 in
            inr (here.0, omega arith)
      ],
    )

greatest_is_one : (test : ℕ → Bool) (bound a b : ℕ) → IsGreatest test bound a → IsGreatest test bound b → a ≡ b
greatest_is_one test bound a b first second =
    let low : a ≤ b = second.above_all a first.passes first.within in
    let high : b ≤ a = first.above_all b second.passes second.within in
    omega arith

-- what the search gives, of the atoms of an object, in the section of an index
pub record Finds (object : Object) (index : ℕ) (d : Section) (offset : ℕ) (atoms : List Atom) (n : ℕ) : Type 0 where
  pub some : 0 < n
  pub offset_is : (x : Atom) → (get_or atoms (n - 1) x).key.offset ≡ cut_of object (index + 1) (get_or object.sections index d) offset

abbrev Cut_at : Object → ℕ → ℕ → Section → ℕ → Bool
Cut_at object number index d = is_cut object number (get_or object.sections index d)

finds_in : (object : Object) (file : FileId) (index : ℕ) (d : Section) (offset n : ℕ) (number : ℕ) → number ≡ 1 + index → AllPairs (λ a b. IsBefore a.key b.key) (atoms_from object file 1 object.sections) → index < length object.sections → is_dropped (get_or object.sections index d) ≡ false → n ≤ length (atoms_from object file 1 object.sections) → Parted number offset (atoms_from object file 1 object.sections) n → (0 < n) × ((x : Atom) → IsGreatest (is_cut object number (get_or object.sections index d)) offset (get_or (atoms_from object file 1 object.sections) (n - 1) x).key.offset)
finds_in object file index d offset n number is rise within linked bound point =
    let atoms : List Atom = atoms_from object file 1 object.sections in
    let section : Section = get_or object.sections index d in
    let place : (y : ℕ) → is_cut object number section y ≡ true → Place (HasKey number y) atoms =
    λ y pass. place_of (HasKey number y) atoms (subst (λ (k : ℕ). Some_has (HasKey k y) atoms) (sym is)
    (sections_begin object file 1 object.sections index d y within linked (subst (λ (k : ℕ). is_cut object k section y ≡ true) is pass))) in
    let first : Place (HasKey number 0) atoms = place 0 (start_is_cut object number section) in
    let some : 0 < n = (not_after number offset 0 atoms n first.atom rise bound point (omega arith) first).0 in
    let at_cuts : AllByRecursion (AtCut object number section) atoms =
    subst (λ (k : ℕ). AllByRecursion (AtCut object k section) atoms) (sym is) (sections_at_cuts object file 1 object.sections index d within) in (
      some,
      λ x.
          let last : Atom = get_or atoms (n - 1) x in
          let up : UpTo number offset last.key = up_to_is number offset last.key (point.0 (n - 1) x (omega arith) (omega arith)) in
          let from_first : (number < last.key.section) ⊎ ((last.key.section ≡ number) × (0 ≤ last.key.offset)) = (not_after number offset 0 atoms n x rise bound point (omega arith) first).1 in
          let here : (last.key.section ≡ number) × (last.key.offset ≤ offset) = in_section number offset last.key up from_first in
          record {
            passes = All-from_recursion (AtCut object number section) atoms at_cuts (n - 1) x (omega arith) here.0;
            within = here.1;
            above_all = λ k pass low. elim ((not_after number offset k atoms n x rise bound point low (place k pass)).1) [
              | inl further ↦ let same : last.key.section ≡ number = here.0 in absurd (omega arith)
              | inr parts ↦ parts.1
            ];
          },
    )
  where
    in_section : (number offset : ℕ) (key : AtomKey) → UpTo number offset key → (number < key.section) ⊎ ((key.section ≡ number) × (0 ≤ key.offset)) → (key.section ≡ number) × (key.offset ≤ offset)
    in_section number offset key (inr parts) from = parts
    in_section number offset key (inl less) (inl more) = absurd (omega arith)
    in_section number offset key (inl less) (inr same) = let is : key.section ≡ number = same.0 in absurd (omega arith)

are_atoms : (object : Object) (file : FileId) → atoms_of object file ≡ atoms_from object file 1 object.sections
unfolding atoms_of
are_atoms object file = refl

pub finds : (object : Object) (file : FileId) (index : ℕ) (d : Section) (offset n : ℕ) (atoms : List Atom) → atoms ≡ atoms_of object file → index < length object.sections → is_dropped (get_or object.sections index d) ≡ false → n ≤ length atoms → Parted (index + 1) offset atoms n → Finds object index d offset atoms n
finds object file index d offset n atoms is within linked bound point =
    let e : atoms ≡ atoms_from object file 1 object.sections = is ∙ are_atoms object file in
    let number : index + 1 ≡ 1 + index = omega arith in
    let found : (0 < n) × ((x : Atom) → IsGreatest (is_cut object (index + 1) (get_or object.sections index d)) offset (get_or (atoms_from object file 1 object.sections) (n - 1) x).key.offset) =
    finds_in object file index d offset n (index + 1) number (rw (are_atoms object file) at (atoms_rise object file)) within linked (rw e at bound) (rw e at point) in
    record {
      some = found.0;
      offset_is = λ x.
          ap (λ xs. (get_or xs (n - 1) x).key.offset) e
          ∙ greatest_is_one (is_cut object (index + 1) (get_or object.sections index d)) offset _ _ (found.1 x) (greatest_cut object (index + 1) (get_or object.sections index d) offset);
    }

pub rising_atoms : (object : Object) (file : FileId) (atoms : List Atom) → atoms ≡ atoms_of object file → AllPairs (λ a b. IsBefore a.key b.key) atoms
rising_atoms object file atoms is = rw is (atoms_rise object file)

pub element_at : {A : Type 0} (xs : List A) (at : ℕ) → at < length xs → A
element_at [] at within = absurd (omega arith)
element_at (x ∷ xs) zero within = x
element_at (x ∷ xs) (suc at) within = element_at xs at (omega arith)

pub finds_some : (object : Object) (file : FileId) (index offset n : ℕ) (atoms : List Atom) → atoms ≡ atoms_of object file → index < length object.sections → ((d : Section) → is_dropped (get_or object.sections index d) ≡ false) → n ≤ length atoms → Parted (index + 1) offset atoms n → 0 < n
finds_some object file index offset n atoms is within linked bound point =
    let d : Section = element_at object.sections index within in
    (finds object file index d offset n atoms is within (linked d) bound point).some

pub finds_within : (object : Object) (file : FileId) (index offset n : ℕ) (atoms : List Atom) → atoms ≡ atoms_of object file → index < length object.sections → ((d : Section) → is_dropped (get_or object.sections index d) ≡ false) → n ≤ length atoms → Parted (index + 1) offset atoms n → (x : Atom) → (get_or atoms (n - 1) x).key.offset ≤ offset
finds_within object file index offset n atoms is within linked bound point x =
    let d : Section = element_at object.sections index within in
    let e : (get_or atoms (n - 1) x).key.offset ≡ cut_of object (index + 1) (get_or object.sections index d) offset = (finds object file index d offset n atoms is within (linked d) bound point).offset_is x in
    let low : cut_of object (index + 1) (get_or object.sections index d) offset ≤ offset = (greatest_cut object (index + 1) (get_or object.sections index d) offset).within in
    subst (λ (k : ℕ). k ≤ offset) (sym e) low
