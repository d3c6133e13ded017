-- The names and atoms of a link.
use Rattle.std.proofs.Common.{◌≡◌, ◌↔◌, ℕ, ◌+◌, ◌-◌, ◌<◌, ◌≤◌, ◌^◌, Bool, true, false, nat_lt, List, ◌∷◌, length, drop, get_or, Option, Some, None, refl, sym, ap, ◌∙◌, add-one, drop-cons, arith}
use Rattle.std.proofs.lemmas.Bool.{ltb-true, ltb-false, lt-ltb}
use Rattle.std.proofs.lemmas.List.{drop_all}
use Rattle.std.proofs.lemmas.List.Sums.{sum_by-cons}
use Rattle.mo_types.specs.declared.answer.Refusal.{Refusal}
use Rattle.mo_types.specs.declared.answer.Refusal.TheVariants.{Limit}
use Rattle.mo_types.specs.declared.cause.Which.{Which}
use Rattle.mo_types.specs.declared.cause.Which.TheVariants.{Atoms, Names}
use Rattle.mo_types.specs.declared.loaded.LoadedFile.{LoadedFile}
use Rattle.name_ids.proofs.Any.{as_many}
use Rattle.name_ids.specs.Names.{AreNames}
use Rattle.link_files.specs.Causes.{HaveManyAtoms, HaveManyNames}
use Rattle.link_files.specs.Names.{all_names, atoms_in, atoms_refusal, limit_refusal, names_refusal}

pub same_some : {A : Type 0} {x y : A} → ◌≡◌ {A = Option A} (Some x) (Some y) → x ≡ y
same_some e = cc

-- ---- limits

no_less : (a b : ℕ) → b ≤ a → nat_lt a b ≡ false
no_less a b most = by (nat_lt a b) refl
  where
    by : (t : Bool) → nat_lt a b ≡ t → nat_lt a b ≡ false
    by true low = absurd (let less : a < b = ltb-true _ _ low in omega (arith, less, most))
    by false low = low

few : (n : ℕ) (which : Which) → n < 2 ^ 24 → limit_refusal n which ≡ None
few n which less = rw (lt-ltb _ _ less) refl

many : (n : ℕ) (which : Which) → 2 ^ 24 ≤ n → limit_refusal n which ≡ Some (Limit which)
many n which most = rw (no_less _ _ most) refl

limit_stops : (n : ℕ) (which : Which) (why : Refusal) → (limit_refusal n which ≡ Some why) ↔ ((2 ^ 24 ≤ n) × (why ≡ Limit which))
limit_stops n which why = (to, (λ c. many n which c.0 ∙ ap Some (sym c.1)))
  where
    to : limit_refusal n which ≡ Some why → (2 ^ 24 ≤ n) × (why ≡ Limit which)
    to e = by (nat_lt n (2 ^ 24)) refl
      where
        by : (b : Bool) → nat_lt n (2 ^ 24) ≡ b → (2 ^ 24 ≤ n) × (why ≡ Limit which)
        by true low = absurd (let f : None ≡ Some why = sym (few n which (ltb-true _ _ low)) ∙ e in cc)
        by false low = let most : 2 ^ 24 ≤ n = ltb-false _ _ low in (most, same_some (sym e ∙ many n which most))

within_limit : (n : ℕ) (which : Which) → limit_refusal n which ≡ None → n < 2 ^ 24
within_limit n which none = by (nat_lt n (2 ^ 24)) refl
  where
    by : (b : Bool) → nat_lt n (2 ^ 24) ≡ b → n < 2 ^ 24
    by true low = ltb-true _ _ low
    by false low = absurd (let f : Some (Limit which) ≡ None = sym (many n which (ltb-false _ _ low)) ∙ none in cc)

-- ---- the names

pub names_stop : (files : List LoadedFile) (wanted : List (List ℕ)) (why : Refusal) → (names_refusal files wanted ≡ Some why) ↔ HaveManyNames files wanted why
unfolding names_refusal
names_stop files wanted why = limit_stops (length (all_names files wanted)) Names why

pub names_few : (files : List LoadedFile) (wanted : List (List ℕ)) → names_refusal files wanted ≡ None → length (all_names files wanted) < 2 ^ 24
unfolding names_refusal
names_few files wanted none = within_limit (length (all_names files wanted)) Names none

-- names that have numbers are few enough, whichever they have
pub names_fit : (files : List LoadedFile) (wanted names : List (List ℕ)) → AreNames files wanted names → names_refusal files wanted ≡ None
unfolding names_refusal
names_fit files wanted names are =
    let same : length names ≡ length (all_names files wanted) = as_many files wanted names are in
    let low : length names < 2 ^ 24 = are.numbering.few in
    few (length (all_names files wanted)) Names (omega (arith, same, low))

-- ---- how many atoms there are

-- so many more may come before there are too many
pub record IsCounted (files : List LoadedFile) (left at : ℕ) : Type 0 where
  pub all : atoms_in files + left ≡ 2 ^ 24 + atoms_in (drop at files)
  pub some : 0 < left

pub count_starts : (files : List LoadedFile) → IsCounted files (2 ^ 24) 0
count_starts files = record { all = omega arith; some = omega arith }

one_more : (files : List LoadedFile) (at : ℕ) (file : LoadedFile) → at < length files → file ≡ get_or files at file → atoms_in (drop at files) ≡ length file.atoms + atoms_in (drop (at + 1) files)
one_more files at file within is =
    let e : drop at files ≡ file ∷ drop (at + 1) files = rw (drop-cons files at file within, ← is, add-one) refl in
    ap atoms_in e ∙ sum_by-cons (λ (f : LoadedFile). length f.atoms) file (drop (at + 1) files)

pub count_goes_on : (files : List LoadedFile) (left more at : ℕ) (file : LoadedFile) → IsCounted files left at → at < length files → file ≡ get_or files at file → length file.atoms < left → more ≡ left - length file.atoms → IsCounted files more (at + 1)
count_goes_on files left more at file counted within is few same =
    let next = one_more files at file within is in
    record { all = omega (arith, counted.all, next, few, same); some = omega (arith, few, same) }

pub count_finds : (files : List LoadedFile) (left at : ℕ) (file : LoadedFile) → IsCounted files left at → at < length files → file ≡ get_or files at file → left ≤ length file.atoms → atoms_refusal files ≡ Some (Limit Atoms)
unfolding atoms_refusal
count_finds files left at file counted within is past =
    let next = one_more files at file within is in
    many (atoms_in files) Atoms (omega (arith, counted.all, next, past))

pub count_ends : (files : List LoadedFile) (left at : ℕ) → IsCounted files left at → length files ≤ at → atoms_refusal files ≡ None
unfolding atoms_refusal
count_ends files left at counted past =
    let none : atoms_in (drop at files) ≡ 0 = ap atoms_in (drop_all at files past) in
    few (atoms_in files) Atoms (omega (arith, counted.all, counted.some, none))

pub ruleset atoms = (count_starts, count_goes_on, count_finds, count_ends)

pub atoms_stop : (files : List LoadedFile) (why : Refusal) → (atoms_refusal files ≡ Some why) ↔ HaveManyAtoms files why
unfolding atoms_refusal
atoms_stop files why = limit_stops (atoms_in files) Atoms why

pub atoms_few : (files : List LoadedFile) → atoms_refusal files ≡ None → atoms_in files < 2 ^ 24
unfolding atoms_refusal
atoms_few files none = within_limit (atoms_in files) Atoms none
