-- Lists of kept atoms: atoms, each with the place of its file.
use Rattle.std.proofs.Common.{◌≡◌, ℕ, zero, suc, ◌+◌, ◌-◌, ◌<◌, ◌≤◌, ◌⊎◌, inl, inr, List, [], ◌∷◌, ◌++◌, length, map, take, replicate, get_or, slice_get, Some, None, refl, sym, ap, ◌∙◌, append_assoc, arith, length-append}
use Rattle.std.specs.List.Sorted.{IsSorted, IsStrictlySortedBy}
use Rattle.std.specs.Ordering.{on}
use Rattle.std.specs.declared.cmp.Ordering.TheVariants.{Less, Equal}
use Rattle.std.proofs.lemmas.Cmp.{on_total}
use Rattle.std.proofs.lemmas.List.{get_or-map, length-map, take_all}
use Rattle.std.proofs.lemmas.Option.{get_or_from_slice_get, slice_get-get_or, slice_get_cases, slice_get_within}
use Rattle.list_lemmas.proofs.Members.{all_map}
use Rattle.mo_types.specs.Keys.{compare_keys}
use Rattle.mo_types.specs.declared.atom.Atom.{Atom}
use Rattle.mo_types.specs.declared.key.AtomKey.{AtomKey}
use Rattle.mo_types.proofs.KeyOrder.{compare_keys_total}
use Rattle.atom_index.proofs.Keys.{find_found, find_missing, sorted_from_rising}
use Rattle.literal_merge.specs.declared.representative.Representative.{Representative}
use Rattle.image_make.specs.Atoms.{atom_of, kept_as, kept_at, raised}
use Rattle.image_make.specs.declared.kept.KeptAtom.{KeptAtom}
use Rattle.image_make.specs.inner.Kept.{kept_list}

-- ---- what such a list has

pub no_atoms : (atoms : List Atom) (files : List ℕ) → atoms ≡ [] → kept_list atoms files ≡ []
unfolding kept_list
no_atoms atoms files none = rw none refl

pub ruleset nothing = (no_atoms)

pub list_length : (atoms : List Atom) (files : List ℕ) → length atoms ≡ length files → length atoms ≡ length (kept_list atoms files)
unfolding kept_list
list_length [] files same = refl
list_length (atom ∷ atoms) [] same = absurd (omega (arith, same))
list_length (atom ∷ atoms) (file ∷ files) same = ap (λ n. suc n) (list_length atoms files (omega (arith, same)))

pub ruleset counts = (list_length)

pub list_atoms : (atoms : List Atom) (files : List ℕ) → length atoms ≡ length files → atoms ≡ map atom_of (kept_list atoms files)
unfolding kept_list
list_atoms [] files same = refl
list_atoms (atom ∷ atoms) [] same = absurd (omega (arith, same))
list_atoms (atom ∷ atoms) (file ∷ files) same = ap (λ (xs : List Atom). atom ∷ xs) (list_atoms atoms files (omega (arith, same)))

pub ruleset alone = (list_atoms)

pub get_both : (atoms : List Atom) (files : List ℕ) (at : ℕ) (atom : Atom) (file : ℕ) → slice_get atoms at ≡ Some atom → slice_get files at ≡ Some file → Some (record { atom = atom; file = file }) ≡ slice_get (kept_list atoms files) at
unfolding kept_list
get_both [] files at atom file a f = cc
get_both (x ∷ atoms) [] at atom file a f = cc
get_both (x ∷ atoms) (y ∷ files) zero atom file a f = cc
get_both (x ∷ atoms) (y ∷ files) (suc at) atom file a f = get_both atoms files at atom file a f

pub get_no_atom : (atoms : List Atom) (files : List ℕ) (at : ℕ) → slice_get atoms at ≡ None → None ≡ slice_get (kept_list atoms files) at
unfolding kept_list
get_no_atom [] files at none = refl
get_no_atom (x ∷ atoms) [] at none = refl
get_no_atom (x ∷ atoms) (y ∷ files) zero none = cc
get_no_atom (x ∷ atoms) (y ∷ files) (suc at) none = get_no_atom atoms files at none

pub get_no_file : (atoms : List Atom) (files : List ℕ) (at : ℕ) → slice_get files at ≡ None → None ≡ slice_get (kept_list atoms files) at
unfolding kept_list
get_no_file [] files at none = refl
get_no_file (x ∷ atoms) [] at none = refl
get_no_file (x ∷ atoms) (y ∷ files) zero none = cc
get_no_file (x ∷ atoms) (y ∷ files) (suc at) none = get_no_file atoms files at none

pub ruleset gets = (get_no_atom, get_no_file)

-- ---- the atoms of one file more

alone_more : (literals : List Representative) (more : List Atom) (at : ℕ) → kept_list (map (raised literals) more) (replicate (length more) at) ≡ map (kept_as literals at) more
unfolding kept_list
alone_more literals [] at = refl
alone_more literals (atom ∷ more) at = ap (λ (xs : List KeptAtom). kept_as literals at atom ∷ xs) (alone_more literals more at)

list_more : (literals : List Representative) (atoms more : List Atom) (files : List ℕ) (at : ℕ) → length atoms ≡ length files → kept_list (atoms ++ map (raised literals) more) (files ++ replicate (length more) at) ≡ kept_list atoms files ++ map (kept_as literals at) more
unfolding kept_list
list_more literals [] more [] at same = alone_more literals more at
list_more literals [] more (file ∷ files) at same = absurd (omega (arith, same))
list_more literals (atom ∷ atoms) more [] at same = absurd (omega (arith, same))
list_more literals (atom ∷ atoms) more (file ∷ files) at same = ap (λ (xs : List KeptAtom). record { atom = atom; file = file } ∷ xs) (list_more literals atoms more files at (omega (arith, same)))

grown_files : (literals : List Representative) (atoms new more : List Atom) (files new_files : List ℕ) (at n : ℕ) → length atoms ≡ length files → new ≡ atoms ++ map (raised literals) more → n ≡ length new → new_files ≡ take n files ++ replicate (n - length files) at → new_files ≡ files ++ replicate (length more) at
grown_files literals atoms new more files new_files at n same grown count is =
    let long : n ≡ length files + length more = omega (arith, count ∙ ap length grown ∙ length-append atoms (map (raised literals) more), length-map more (raised literals), same) in
    let rest : n - length files ≡ length more = omega (arith, long) in
    is ∙ ap (λ (k : ℕ). take n files ++ replicate k at) rest ∙ ap (λ (xs : List ℕ). xs ++ replicate (length more) at) (take_all n files (omega (arith, long)))

pub file_grows : (literals : List Representative) (atoms new more : List Atom) (files new_files : List ℕ) (at n : ℕ) → length atoms ≡ length files → new ≡ atoms ++ map (raised literals) more → n ≡ length new → new_files ≡ take n files ++ replicate (n - length files) at → kept_list new new_files ≡ kept_list atoms files ++ map (kept_as literals at) more
file_grows literals atoms new more files new_files at n same grown count is =
    rw (grown, grown_files literals atoms new more files new_files at n same grown count is) (list_more literals atoms more files at same)

-- two parts of what is more
mapped : {X Y : Type 0} (g : X → Y) (xs ys : List X) → map g xs ++ map g ys ≡ map g (xs ++ ys)
mapped g [] ys = refl
mapped {Y = Y} g (x ∷ xs) ys = ap (λ (zs : List Y). g x ∷ zs) (mapped g xs ys)

pub joined_more : (literals : List Representative) (before xs ys : List Atom) → (before ++ map (raised literals) xs) ++ map (raised literals) ys ≡ before ++ map (raised literals) (xs ++ ys)
joined_more literals before xs ys = append_assoc before (map (raised literals) xs) (map (raised literals) ys) ∙ ap (λ (zs : List Atom). before ++ zs) (mapped (raised literals) xs ys)

-- ---- searches

pub rising_atoms : (kept : List KeptAtom) → IsStrictlySortedBy (on (λ (one : KeptAtom). one.atom.key) compare_keys) kept → IsStrictlySortedBy (on (λ (atom : Atom). atom.key) compare_keys) (map atom_of kept)
unfolding IsStrictlySortedBy
rising_atoms [] rising = tt
rising_atoms (one ∷ kept) rising = (all_map atom_of (λ (atom : Atom). compare_keys one.atom.key atom.key ≡ Less) kept rising.0, rising_atoms kept rising.1)

pub sorted_atoms : (kept : List KeptAtom) (atoms : List Atom) → IsStrictlySortedBy (on (λ (one : KeptAtom). one.atom.key) compare_keys) kept → atoms ≡ map atom_of kept → IsSorted (on (λ (atom : Atom). atom.key) compare_keys) atoms
sorted_atoms kept atoms rising are = rw are (sorted_from_rising (on_total (λ (atom : Atom). atom.key) compare_keys_total) (map atom_of kept) (rising_atoms kept rising))

-- the atom that a search finds among those alone is the kept one with its key
pub atom_found : (kept : List KeptAtom) (atoms : List Atom) (key : AtomKey) (at : ℕ) → IsStrictlySortedBy (on (λ (one : KeptAtom). one.atom.key) compare_keys) kept → atoms ≡ map atom_of kept → at < length atoms → ((d : Atom) → (get_or atoms at d).key ≡ key) → slice_get kept at ≡ kept_at kept key
atom_found kept atoms key at rising are within is = by (slice_get_cases kept at).1
  where
    long : length atoms ≡ length kept
    long = ap length are ∙ length-map kept atom_of

    by : ((one : KeptAtom) × (at < length kept) × (slice_get kept at ≡ Some one) × (get_or kept at one ≡ one)) ⊎ ((length kept ≤ at) × (slice_get kept at ≡ None)) → slice_get kept at ≡ kept_at kept key
    by (inl (one, low, some, here)) =
        let same : get_or atoms at one.atom ≡ (get_or kept at one).atom = ap (λ (xs : List Atom). get_or xs at one.atom) are ∙ get_or-map atom_of kept at one one.atom low in
        slice_get-get_or kept at one low
        ∙ sym (find_found (λ (k : KeptAtom). k.atom.key) kept key at one rising low (ap (λ (atom : Atom). atom.key) (sym same) ∙ is one.atom))
    by (inr (past, none)) = absurd (omega (arith, within, past, long))

pub atom_missing : (kept : List KeptAtom) (atoms : List Atom) (key : AtomKey) → atoms ≡ map atom_of kept → ((j : ℕ) (d : Atom) → j < length atoms → compare_keys (get_or atoms j d).key key ≡ Equal → ⊥) → kept_at kept key ≡ None
atom_missing kept atoms key are none = find_missing (λ (one : KeptAtom). one.atom.key) kept key
    (λ j d low equal.
    let same : get_or atoms j d.atom ≡ (get_or kept j d).atom = ap (λ (xs : List Atom). get_or xs j d.atom) are ∙ get_or-map atom_of kept j d d.atom low in
    none j d.atom (omega (arith, low, ap length are ∙ length-map kept atom_of)) (ap (λ (atom : Atom). compare_keys atom.key key) same ∙ equal))

pub atom_near : (kept : List KeptAtom) (key : AtomKey) (at : ℕ) (one : KeptAtom) → IsStrictlySortedBy (on (λ (k : KeptAtom). k.atom.key) compare_keys) kept → slice_get kept at ≡ Some one → one.atom.key ≡ key → Some one ≡ kept_at kept key
atom_near kept key at one rising is same =
    let here : get_or kept at one ≡ one = get_or_from_slice_get kept at one one is in
    ap Some (sym here) ∙ sym (find_found (λ (k : KeptAtom). k.atom.key) kept key at one rising (slice_get_within kept at one is) (ap (λ (k : KeptAtom). k.atom.key) here ∙ same))

pub ruleset near = (atom_near)
