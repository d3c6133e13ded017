-- Files are found by their ids, and atoms' homes in them.
use Rattle.std.proofs.Common.{◌≡◌, ℕ, suc, ◌<◌, ◌==◌, Bool, false, cond, List, [], ◌∷◌, length, get_or, Option, Some, None, refl, sym, ap, ◌∙◌, arith}
use Rattle.std.specs.List.{find, AllPairs, All}
use Rattle.std.specs.List.Sorted.{IsStrictlySortedBy}
use Rattle.std.specs.declared.cmp.Ordering.{Ordering}
use Rattle.std.specs.declared.cmp.Ordering.TheVariants.{Less, Equal, Greater}
use Rattle.std.specs.Ordering.{on, is_eq, ordering_then}
use Rattle.std.proofs.lemmas.Bool.{ne_eqb}
use Rattle.std.proofs.lemmas.List.Elements.{recursion_from_All}
use Rattle.list_lemmas.proofs.Members.{all_weaker}
use Rattle.mo_types.specs.Keys.{compare_files, compare_keys}
use Rattle.mo_types.specs.Loaded.{IsBefore}
use Rattle.mo_types.specs.RelocationRules.{section_numbered}
use Rattle.mo_types.specs.declared.key.AtomKey.{AtomKey}
use Rattle.mo_types.specs.declared.key.FileId.{FileId}
use Rattle.mo_types.specs.declared.loaded.LoadedFile.{LoadedFile}
use Rattle.mo_types.specs.declared.object.Section.{Section}
use Rattle.atom_index.proofs.Keys.{find_found, find_missing}
use Rattle.sect_list.specs.OutSections.{Home, home_in, home_of, common_home}

-- the first place of a file
abbrev pub start : FileId → AtomKey
start id = record { file = id; section = 0; offset = 0 }

then_equal : (r : Ordering) → ordering_then r Equal ≡ r
then_equal Less = refl
then_equal Equal = refl
then_equal Greater = refl

pub starts : (a b : FileId) → compare_keys (start a) (start b) ≡ compare_files a b
starts a b = then_equal (compare_files a b)

find_same : {X : Type 0} (p q : X → Bool) → ((x : X) → p x ≡ q x) → (xs : List X) → find p xs ≡ find q xs
find_same p q same [] = refl
find_same p q same (x ∷ xs) = ap (λ b. cond b (Some x) (find p xs)) (same x) ∙ ap (λ r. cond (q x) (Some x) r) (find_same p q same xs)

pub starts_rise : (files : List LoadedFile) → IsStrictlySortedBy (on (λ (file : LoadedFile). file.id) compare_files) files → IsStrictlySortedBy (on (λ (file : LoadedFile). start file.id) compare_keys) files
unfolding IsStrictlySortedBy
starts_rise [] h = tt
starts_rise (x ∷ xs) h =
    (all_weaker (λ (y : LoadedFile). compare_files x.id y.id ≡ Less) (λ (y : LoadedFile). compare_keys (start x.id) (start y.id) ≡ Less) (λ y e. starts x.id y.id ∙ e) xs h.0, starts_rise xs h.1)

by_start : (files : List LoadedFile) (id : FileId) → find (λ file. is_eq (compare_files file.id id)) files ≡ find (λ file. is_eq (compare_keys (start file.id) (start id))) files
by_start files id = find_same (λ (file : LoadedFile). is_eq (compare_files file.id id)) (λ (file : LoadedFile). is_eq (compare_keys (start file.id) (start id))) (λ file. ap is_eq (sym (starts file.id id))) files

pub file_found : (files : List LoadedFile) (id : FileId) (at : ℕ) (d : LoadedFile) → IsStrictlySortedBy (on (λ (file : LoadedFile). file.id) compare_files) files → at < length files → start (get_or files at d).id ≡ start id → find (λ file. is_eq (compare_files file.id id)) files ≡ Some (get_or files at d)
file_found files id at d h within is = by_start files id ∙ find_found (λ (file : LoadedFile). start file.id) files (start id) at d (starts_rise files h) within is

pub file_missing : (files : List LoadedFile) (id : FileId) → ((j : ℕ) (d : LoadedFile) → j < length files → compare_keys (start (get_or files j d).id) (start id) ≡ Equal → ⊥) → find (λ file. is_eq (compare_files file.id id)) files ≡ None
file_missing files id none = by_start files id ∙ find_missing (λ (file : LoadedFile). start file.id) files (start id) none

-- ---- homes

pub home_common : (files : List LoadedFile) (id : FileId) (number : ℕ) (home : Home) → number ≡ 256 → home ≡ common_home → Some home ≡ home_of files id number
unfolding home_of
home_common files id number home is same = rw (is, same) refl

not_common : (files : List LoadedFile) (id : FileId) (number : ℕ) → (number ≡ 256 → ⊥) → (number == 256) ≡ false
not_common files id number isnt = ne_eqb number 256 isnt

pub home_no_file : (files : List LoadedFile) (id : FileId) (number : ℕ) → (number ≡ 256 → ⊥) → None ≡ find (λ file. is_eq (compare_files file.id id)) files → None ≡ home_of files id number
unfolding home_of
home_no_file files id number isnt missing = rw (not_common files id number isnt, ← missing) refl

pub home_no_section : (files : List LoadedFile) (id : FileId) (number n : ℕ) (file : LoadedFile) → (number ≡ 256 → ⊥) → Some file ≡ find (λ file. is_eq (compare_files file.id id)) files → n ≡ number → None ≡ section_numbered file.object.sections n → None ≡ home_of files id number
unfolding home_of
home_no_section files id number n file isnt found same missing = rw (← same) (rw (not_common files id n (λ e. isnt (sym same ∙ e)), ← found, ← missing) refl)

pub home_some : (files : List LoadedFile) (id : FileId) (number n : ℕ) (file : LoadedFile) (section : Section) (home : Home) → (number ≡ 256 → ⊥) → Some file ≡ find (λ file. is_eq (compare_files file.id id)) files → n ≡ number → Some section ≡ section_numbered file.object.sections n → home ≡ home_in section → Some home ≡ home_of files id number
unfolding home_of
home_some files id number n file section home isnt found same there is = rw (← same) (rw (not_common files id n (λ e. isnt (sym same ∙ e)), ← found, ← there, is) refl)

pub same_home : (files : List LoadedFile) (id id' : FileId) (n n' : ℕ) (home : Option Home) → home ≡ home_of files id n → id' ≡ id → n' ≡ n → home ≡ home_of files id' n'
same_home files id id' n n' home is e f = rw (e, f) is

-- ---- files by rising ids

later : (file : LoadedFile) (files : List LoadedFile) → AllPairs (λ (a : LoadedFile) (b : LoadedFile). IsBefore a.id b.id) (file ∷ files) → All (λ (b : LoadedFile). IsBefore file.id b.id) files
later file files pairs = λ k d within. pairs 0 (suc k) d (omega arith) (omega arith)

pub files_rise : (files : List LoadedFile) → AllPairs (λ (a : LoadedFile) (b : LoadedFile). IsBefore a.id b.id) files → IsStrictlySortedBy (on (λ (file : LoadedFile). file.id) compare_files) files
unfolding IsStrictlySortedBy
files_rise [] pairs = tt
files_rise (file ∷ files) pairs =
    (recursion_from_All (λ (b : LoadedFile). IsBefore file.id b.id) files (later file files pairs), files_rise files (λ i j d low high. pairs (suc i) (suc j) d (omega arith) (omega arith)))

pub ruleset homes = (home_common, home_no_file, home_no_section, home_some)
