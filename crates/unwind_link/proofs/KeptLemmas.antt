-- The kept entries of files.
use Rattle.std.proofs.Common.{◌≡◌, ℕ, ◌+◌, ◌<◌, ◌≤◌, Bool, true, false, List, [], ◌∷◌, ◌++◌, length, map, get_or, refl, sym, ap, ◌∙◌, arith, if◌then◌else◌}
use Rattle.std.specs.List.{enumerate_from, filter, flat_map}
use Rattle.std.proofs.lemmas.List.FromFn.{get_or-enumerate_from, length-enumerate_from}
use Rattle.unwind_link.proofs.GrowLemmas.{IsGrowing, grow_end, grow_item, grow_start}
use Rattle.mark_core.specs.Kept.{has}
use Rattle.mo_types.specs.declared.key.AtomKey.{AtomKey}
use Rattle.mo_types.specs.declared.loaded.LoadedFile.{LoadedFile}
use Rattle.mo_types.specs.declared.unwind.Unwind.{Unwind}
use Rattle.unwind_link.specs.Kept.{kept_as, kept_in, kept_unwinds}
use Rattle.unwind_link.specs.declared.kept.KeptUnwind.{KeptUnwind}

-- an entry, if it is kept
abbrev pub kept_if : List AtomKey → ℕ → Unwind → List KeptUnwind
kept_if keys file unwind = map (kept_as file) (if has keys unwind.atom then unwind ∷ [] else [])

filtered : {X Y : Type 0} (g : X → Y) (p : X → Bool) (xs : List X) → flat_map (λ x. map g (if p x then x ∷ [] else [])) xs ≡ map g (filter p xs)
filtered g p [] = refl
filtered {X = X} {Y = Y} g p (x ∷ xs) = by (filtered g p xs) (p x)
  where
    by : flat_map (λ (y : X). map g (if p y then y ∷ [] else [])) xs ≡ map g (filter p xs) → (b : Bool) → map g (if b then x ∷ [] else []) ++ flat_map (λ (y : X). map g (if p y then y ∷ [] else [])) xs ≡ map g (if b then x ∷ filter p xs else filter p xs)
    by rest true = ap (λ (ys : List Y). g x ∷ ys) rest
    by rest false = rest

pub entries_start : (keys : List AtomKey) (file : ℕ) (before : List KeptUnwind) (unwinds : List Unwind) → IsGrowing (kept_if keys file) before before unwinds 0
entries_start keys file before unwinds = grow_start (kept_if keys file) before unwinds

pub entries_end : (keys : List AtomKey) (file : ℕ) (before now : List KeptUnwind) (unwinds : List Unwind) (i : ℕ) → IsGrowing (kept_if keys file) before now unwinds i → length unwinds ≤ i → now ≡ before ++ map (kept_as file) (filter (λ unwind. has keys unwind.atom) unwinds)
entries_end keys file before now unwinds i grows past =
    grow_end (kept_if keys file) before now unwinds i grows past
    ∙ ap (λ (ys : List KeptUnwind). before ++ ys) (filtered (kept_as file) (λ (unwind : Unwind). has keys unwind.atom) unwinds)

pub ruleset entries = (entries_start, entries_end)

numbered : (files : List LoadedFile) (i : ℕ) (d : LoadedFile) → i < length files → get_or (enumerate_from 0 files) i (0, d) ≡ (i, get_or files i d)
numbered files i d low = let e : 0 + i ≡ i = omega arith in get_or-enumerate_from 0 files i (0, d) low ∙ ap (λ (n : ℕ). (n, get_or files i d)) e

pub file_more : (keys : List AtomKey) (now new : List KeptUnwind) (files : List LoadedFile) (at : ℕ) (file : LoadedFile) → IsGrowing (kept_in keys) [] now (enumerate_from 0 files) at → at < length files → file ≡ get_or files at file
    → new ≡ now ++ map (kept_as at) (filter (λ unwind. has keys unwind.atom) file.unwinds) → IsGrowing (kept_in keys) [] new (enumerate_from 0 files) (at + 1)
unfolding kept_in
file_more keys now new files at file grows low is more =
    grow_item (kept_in keys) [] now new (enumerate_from 0 files) at (at, file) (0, file) grows (omega (arith, low, length-enumerate_from 0 files))
    (ap (λ (x : LoadedFile). (at, x)) is ∙ sym (numbered files at file low)) more

pub files_start : (keys : List AtomKey) (files : List LoadedFile) → IsGrowing (kept_in keys) [] [] (enumerate_from 0 files) 0
files_start keys files = grow_start (kept_in keys) [] (enumerate_from 0 files)

pub files_end : (keys : List AtomKey) (files : List LoadedFile) (now : List KeptUnwind) (i : ℕ) → IsGrowing (kept_in keys) [] now (enumerate_from 0 files) i → length files ≤ i → now ≡ kept_unwinds keys files
unfolding kept_unwinds
files_end keys files now i grows past = grow_end (kept_in keys) [] now (enumerate_from 0 files) i grows (omega (arith, past, length-enumerate_from 0 files))

pub ruleset files = (files_start, files_end)
