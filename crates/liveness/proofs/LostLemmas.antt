-- The least of the names that lead nowhere, reference by reference and unwind entry by unwind entry.
use Rattle.std.proofs.Common.{◌≡◌, ℕ, ◌+◌, ◌<◌, ◌≤◌, Bool, true, false, List, [], ◌∷◌, ◌++◌, length, take, get_or, refl, sym, ap, ◌∙◌, inl, inr, subst, arith, Option, Some, None, if◌then◌else◌}
use Rattle.std.specs.Prelude.{filter, fold, slice_get}
use Rattle.std.specs.List.{enumerate_from, filter_map, flat_map, list_any}
use Rattle.std.specs.Option.{option_and_then, option_map_or}
use Rattle.std.proofs.lemmas.Bool.{cases_Bool, false≢true}
use Rattle.std.proofs.lemmas.Grind.{flat_map-append}
use Rattle.std.proofs.lemmas.List.{append-nil, map-append, take_all, take_more}
use Rattle.std.proofs.lemmas.List.Elements.{filter-append, filter_map-append}
use Rattle.std.proofs.lemmas.List.FromFn.{get_or-enumerate_from, length-enumerate_from}
use Rattle.std.proofs.lemmas.List.Sums.{fold-append}
use Rattle.std.proofs.lemmas.Option.{get_or_from_slice_get, slice_get-get_or, slice_get_within}
use Rattle.list_lemmas.proofs.Members.{any_from_in, in_from_Contains}
use Rattle.mo_types.specs.declared.goal.Goal.{Goal}
use Rattle.mo_types.specs.declared.key.AtomKey.{AtomKey}
use Rattle.mo_types.specs.declared.loaded.LoadedFile.{LoadedFile}
use Rattle.mo_types.specs.declared.reference.Ref.{Ref}
use Rattle.mo_types.specs.declared.reference.Target.{Target}
use Rattle.mo_types.specs.declared.reference.Target.TheVariants.{Local, Name}
use Rattle.mo_types.specs.declared.unwind.Unwind.{Unwind}
use Rattle.mark_core.specs.Kept.{has}
use Rattle.liveness.specs.Undefined.{is_nobody, kept_refs, kept_unwinds, least, lesser, lost, lost_at, lost_in, lost_name, lost_names, lost_personality, name_if, targets_of, undefined, wanted}
use Rattle.liveness.specs.inner.Lost.{labelled, pairs_of}

-- ---- one reference

one_name : (file : LoadedFile) (f : Target → Option (List ℕ)) (target : Target) (init : Option (List ℕ × List ℕ)) → fold lesser init (pairs_of file.label (f target)) ≡ fold lesser init (labelled file (filter_map f (target ∷ [])))
one_name file f target init = by (f target) refl
  where
    by : (n : Option (List ℕ)) → f target ≡ n → fold lesser init (pairs_of file.label (f target)) ≡ fold lesser init (labelled file (filter_map f (target ∷ [])))
    by None e = rw e refl
    by (Some name) e = rw e refl

pub ref_one : (file : LoadedFile) (goals : List Goal) (r : Ref) (init result : Option (List ℕ × List ℕ)) → r.minus ≡ None → result ≡ fold lesser init (pairs_of file.label (lost_name file.object.symbols goals r.target)) → result ≡ fold lesser init (labelled file (lost_names file.object.symbols goals r))
unfolding lost_names
ref_one file goals r init result none is = is ∙ one_name file (lost_name file.object.symbols goals) r.target init ∙ sym (ap (λ m. fold lesser init (labelled file (filter_map (lost_name file.object.symbols goals) (targets_of r.target m)))) none)

two_names : (file : LoadedFile) (f : Target → Option (List ℕ)) (a b : Target) (init : Option (List ℕ × List ℕ)) → fold lesser (fold lesser init (pairs_of file.label (f a))) (pairs_of file.label (f b)) ≡ fold lesser init (labelled file (filter_map f (a ∷ b ∷ [])))
two_names file f a b init = by (f a) (f b) refl refl
  where
    by : (m n : Option (List ℕ)) → f a ≡ m → f b ≡ n → fold lesser (fold lesser init (pairs_of file.label (f a))) (pairs_of file.label (f b)) ≡ fold lesser init (labelled file (filter_map f (a ∷ b ∷ [])))
    by None None d e = rw (d, e) refl
    by None (Some name) d e = rw (d, e) refl
    by (Some name) None d e = rw (d, e) refl
    by (Some name) (Some other) d e = rw (d, e) refl

pub ref_two : (file : LoadedFile) (goals : List Goal) (r : Ref) (minus : Target) (init first result : Option (List ℕ × List ℕ)) → r.minus ≡ Some minus → first ≡ fold lesser init (pairs_of file.label (lost_name file.object.symbols goals r.target)) → result ≡ fold lesser first (pairs_of file.label (lost_name file.object.symbols goals minus)) → result ≡ fold lesser init (labelled file (lost_names file.object.symbols goals r))
unfolding lost_names
ref_two file goals r minus init first result some one is =
    is ∙ ap (λ x. fold lesser x (pairs_of file.label (lost_name file.object.symbols goals minus))) one
    ∙ two_names file (lost_name file.object.symbols goals) r.target minus init
    ∙ sym (ap (λ m. fold lesser init (labelled file (filter_map (lost_name file.object.symbols goals) (targets_of r.target m)))) some)

pub ruleset of_ref = (ref_one, ref_two)

-- ---- the references of a file

-- what the first references of a file give
abbrev pub names_to : List AtomKey → LoadedFile → List Goal → ℕ → List (List ℕ × List ℕ)
names_to keys file goals at = labelled file (flat_map (lost_names file.object.symbols goals) (filter (λ r. has keys r.atom) (take at file.refs)))

pub record IsNoted (keys : List AtomKey) (file : LoadedFile) (goals : List Goal) (init : Option (List ℕ × List ℕ)) (at : ℕ) (found : Option (List ℕ × List ℕ)) (key : AtomKey) (kept : Bool) : Type 0 where
  pub is : found ≡ fold lesser init (names_to keys file goals at)
  pub known : kept ≡ has keys key

pub noted_start : (keys : List AtomKey) (file : LoadedFile) (goals : List Goal) (init found : Option (List ℕ × List ℕ)) (key : AtomKey) (kept : Bool) → found ≡ init → kept ≡ has keys key → IsNoted keys file goals init 0 found key kept
noted_start keys file goals init found key kept is known = record { is = is; known = known }

filter_more : {X : Type 0} (p : X → Bool) (xs : List X) (at : ℕ) (x : X) → slice_get xs at ≡ Some x → filter p (take (at + 1) xs) ≡ filter p (take at xs) ++ filter p (x ∷ [])
filter_more p xs at x there =
    let low : at < length xs = slice_get_within xs at x there in
    ap (filter p) (take_more xs at x low ∙ ap (λ y. take at xs ++ y ∷ []) (get_or_from_slice_get xs at x x there))
    ∙ filter-append p (take at xs) (x ∷ [])

-- what one reference more gives
names_more : (keys : List AtomKey) (file : LoadedFile) (goals : List Goal) (at : ℕ) (r : Ref) (kept : Bool) → slice_get file.refs at ≡ Some r → has keys r.atom ≡ kept → names_to keys file goals (at + 1) ≡ names_to keys file goals at ++ labelled file (if kept then lost_names file.object.symbols goals r else [])
names_more keys file goals at r kept there is =
    ap (λ rs. labelled file (flat_map (lost_names file.object.symbols goals) rs)) (filter_more (λ x. has keys x.atom) file.refs at r there)
    ∙ ap (labelled file) (flat_map-append (lost_names file.object.symbols goals) (filter (λ x. has keys x.atom) (take at file.refs)) (filter (λ x. has keys x.atom) (r ∷ [])))
    ∙ map-append (λ name. (name, file.label)) (flat_map (lost_names file.object.symbols goals) (filter (λ x. has keys x.atom) (take at file.refs))) (flat_map (lost_names file.object.symbols goals) (filter (λ x. has keys x.atom) (r ∷ [])))
    ∙ ap (λ ns. names_to keys file goals at ++ labelled file ns) (one kept is)
  where
    one : (b : Bool) → has keys r.atom ≡ b → flat_map (lost_names file.object.symbols goals) (filter (λ x. has keys x.atom) (r ∷ [])) ≡ (if b then lost_names file.object.symbols goals r else [])
    one true e = rw e (append-nil (lost_names file.object.symbols goals r))
    one false e = rw e refl

pub noted_kept : (keys : List AtomKey) (file : LoadedFile) (goals : List Goal) (init found new : Option (List ℕ × List ℕ)) (at : ℕ) (key : AtomKey) (kept : Bool) (r : Ref) (next : AtomKey) (answer : Bool) → IsNoted keys file goals init at found key kept → slice_get file.refs at ≡ Some r → next ≡ r.atom → answer ≡ has keys r.atom → answer ≡ true → new ≡ fold lesser found (labelled file (lost_names file.object.symbols goals r)) → IsNoted keys file goals init (at + 1) new next answer
noted_kept keys file goals init found new at key kept r next answer noted there same known hit more = record {
  is = more ∙ ap (λ x. fold lesser x (labelled file (lost_names file.object.symbols goals r))) noted.is
      ∙ sym (fold-append lesser init (names_to keys file goals at) (labelled file (lost_names file.object.symbols goals r)))
      ∙ ap (fold lesser init) (sym (names_more keys file goals at r true there (sym known ∙ hit)));
  known = known ∙ ap (has keys) (sym same);
}

pub noted_passed : (keys : List AtomKey) (file : LoadedFile) (goals : List Goal) (init found : Option (List ℕ × List ℕ)) (at : ℕ) (key : AtomKey) (kept : Bool) (r : Ref) (next : AtomKey) (answer : Bool) → IsNoted keys file goals init at found key kept → slice_get file.refs at ≡ Some r → next ≡ r.atom → answer ≡ has keys r.atom → answer ≡ false → IsNoted keys file goals init (at + 1) found next answer
noted_passed keys file goals init found at key kept r next answer noted there same known miss = record {
  is = noted.is ∙ ap (fold lesser init) (sym (names_more keys file goals at r false there (sym known ∙ miss) ∙ append-nil (names_to keys file goals at)));
  known = known ∙ ap (has keys) (sym same);
}

pub noted_never : (keys : List AtomKey) (file : LoadedFile) (goals : List Goal) (init found : Option (List ℕ × List ℕ)) (at : ℕ) (key : AtomKey) (kept : Bool) → at < length file.refs → slice_get file.refs at ≡ None → IsNoted keys file goals init (at + 1) found key kept
noted_never keys file goals init found at key kept low none = never (some_ref file.refs low)
  where
    some_ref : (rs : List Ref) → at < length rs → Ref
    some_ref [] l = absurd (omega (arith, l))
    some_ref (r ∷ rs) l = r

    clash : (r : Ref) → Some r ≡ None → IsNoted keys file goals init (at + 1) found key kept
    clash r e = cc

    never : Ref → IsNoted keys file goals init (at + 1) found key kept
    never d = clash (get_or file.refs at d) (sym (slice_get-get_or file.refs at d low) ∙ none)

pub noted_end : (keys : List AtomKey) (file : LoadedFile) (goals : List Goal) (init found : Option (List ℕ × List ℕ)) (at : ℕ) (key : AtomKey) (kept : Bool) → IsNoted keys file goals init at found key kept → length file.refs ≤ at → found ≡ fold lesser init (labelled file (flat_map (lost_names file.object.symbols goals) (kept_refs keys file)))
unfolding kept_refs
noted_end keys file goals init found at key kept noted past =
    noted.is ∙ ap (λ rs. fold lesser init (labelled file (flat_map (lost_names file.object.symbols goals) (filter (λ r. has keys r.atom) rs)))) (take_all at file.refs past)

pub ruleset of_refs = (noted_start, noted_end)

-- ---- the unwind entries of a file

-- what the first unwind entries of a file give
abbrev pub personalities_to : List AtomKey → LoadedFile → List Goal → ℕ → List (List ℕ × List ℕ)
personalities_to keys file goals at = labelled file (filter_map (lost_personality file.object.symbols goals) (filter (λ unwind. has keys unwind.atom) (take at file.unwinds)))

pub record IsHandled (keys : List AtomKey) (file : LoadedFile) (goals : List Goal) (init : Option (List ℕ × List ℕ)) (at : ℕ) (found : Option (List ℕ × List ℕ)) : Type 0 where
  pub is : found ≡ fold lesser init (personalities_to keys file goals at)

pub handled_start : (keys : List AtomKey) (file : LoadedFile) (goals : List Goal) (init found : Option (List ℕ × List ℕ)) → found ≡ init → IsHandled keys file goals init 0 found
handled_start keys file goals init found is = record { is = is }

-- what one entry gives
one_entry : (file : LoadedFile) (f : Unwind → Option (List ℕ)) (p : Unwind → Bool) (unwind : Unwind) → labelled file (filter_map f (filter p (unwind ∷ []))) ≡ pairs_of file.label (if p unwind then f unwind else None)
one_entry file f p unwind = by (p unwind) (f unwind) refl refl
  where
    by : (b : Bool) (o : Option (List ℕ)) → p unwind ≡ b → f unwind ≡ o → labelled file (filter_map f (filter p (unwind ∷ []))) ≡ pairs_of file.label (if p unwind then f unwind else None)
    by false o d e = rw d refl
    by true None d e = rw (d, e) refl
    by true (Some name) d e = rw (d, e) refl

pub handled_more : (keys : List AtomKey) (file : LoadedFile) (goals : List Goal) (init found new : Option (List ℕ × List ℕ)) (at : ℕ) (unwinds : List Unwind) (unwind d : Unwind) → IsHandled keys file goals init at found → unwinds ≡ file.unwinds → at < length unwinds → unwind ≡ get_or unwinds at d → new ≡ fold lesser found (pairs_of file.label (if has keys unwind.atom then lost_personality file.object.symbols goals unwind else None)) → IsHandled keys file goals init (at + 1) new
handled_more keys file goals init found new at unwinds unwind d handled all low there more = record {
  is = more
      ∙ ap (fold lesser found) (sym (one_entry file f kept unwind))
      ∙ ap (λ x. fold lesser x (labelled file (filter_map f (filter kept (unwind ∷ []))))) handled.is
      ∙ sym (fold-append lesser init (personalities_to keys file goals at) (labelled file (filter_map f (filter kept (unwind ∷ [])))))
      ∙ ap (fold lesser init) (
      sym (map-append (λ name. (name, file.label)) (filter_map f (filter kept (take at file.unwinds))) (filter_map f (filter kept (unwind ∷ []))))
      ∙ ap (labelled file) (sym (filter_map-append f (filter kept (take at file.unwinds)) (filter kept (unwind ∷ []))) ∙ ap (filter_map f) one_more)
      );
}
  where
    f : Unwind → Option (List ℕ)
    f = lost_personality file.object.symbols goals

    kept : Unwind → Bool
    kept u = has keys u.atom

    here : unwind ≡ get_or file.unwinds at d
    here = there ∙ ap (λ us. get_or us at d) all

    one_more : filter kept (take at file.unwinds) ++ filter kept (unwind ∷ []) ≡ filter kept (take (at + 1) file.unwinds)
    one_more =
        let within : at < length file.unwinds = subst (λ us. at < length us) all low in
        sym (filter-append kept (take at file.unwinds) (unwind ∷ []))
        ∙ ap (filter kept) (ap (λ u. take at file.unwinds ++ u ∷ []) here ∙ sym (take_more file.unwinds at d within))

pub handled_end : (keys : List AtomKey) (file : LoadedFile) (goals : List Goal) (init found : Option (List ℕ × List ℕ)) (at : ℕ) (unwinds : List Unwind) → IsHandled keys file goals init at found → unwinds ≡ file.unwinds → length unwinds ≤ at → found ≡ fold lesser init (labelled file (filter_map (lost_personality file.object.symbols goals) (kept_unwinds keys file)))
unfolding kept_unwinds
handled_end keys file goals init found at unwinds handled all past =
    let over : length file.unwinds ≤ at = subst (λ us. length us ≤ at) all past in
    handled.is ∙ ap (λ us. fold lesser init (labelled file (filter_map (lost_personality file.object.symbols goals) (filter (λ u. has keys u.atom) us)))) (take_all at file.unwinds over)

pub ruleset of_unwinds = (handled_start, handled_end)

-- ---- a file

pub of_file : (keys : List AtomKey) (file : LoadedFile) (goals : List Goal) (init first result : Option (List ℕ × List ℕ))
    → first ≡ fold lesser init (labelled file (flat_map (lost_names file.object.symbols goals) (kept_refs keys file)))
    → result ≡ fold lesser first (labelled file (filter_map (lost_personality file.object.symbols goals) (kept_unwinds keys file)))
    → result ≡ fold lesser init (lost_in keys file goals)
unfolding lost_in
of_file keys file goals init first result one is =
    is ∙ ap (λ x. fold lesser x (labelled file (filter_map (lost_personality file.object.symbols goals) (kept_unwinds keys file)))) one
    ∙ sym (fold-append lesser init (labelled file (flat_map (lost_names file.object.symbols goals) (kept_refs keys file))) (labelled file (filter_map (lost_personality file.object.symbols goals) (kept_unwinds keys file))))
    ∙ ap (fold lesser init) (sym (map-append (λ name. (name, file.label)) (flat_map (lost_names file.object.symbols goals) (kept_refs keys file)) (filter_map (lost_personality file.object.symbols goals) (kept_unwinds keys file))))

-- ---- a file whose names all lead somewhere

never_at : {X : Type 0} (p : X → Bool) (xs : List X) (at : ℕ) (x : X) → list_any p xs ≡ false → slice_get xs at ≡ Some x → p x ≡ false
never_at p xs at x none there = elim (cases_Bool (p x)) [
  | inl here ↦ absurd (false≢true (sym none ∙ any_from_in p xs x (in_from_Contains xs x (at, slice_get_within xs at x there, get_or_from_slice_get xs at x x there)) here))
  | inr away ↦ away
]

unnamed : (file : LoadedFile) (goals : List Goal) (target : Target) → list_any is_nobody goals ≡ false → lost_name file.object.symbols goals target ≡ None
unnamed file goals (Local atom offset) none = refl
unnamed file goals (Name index) none = by (slice_get goals index) refl
  where
    by : (found : Option Goal) → slice_get goals index ≡ found → option_and_then (λ goal. name_if goal (slice_get file.object.symbols index)) (slice_get goals index) ≡ None
    by None e = rw e refl
    by (Some goal) e = let away : is_nobody goal ≡ false = never_at is_nobody goals index goal none e in rw (e, away) refl

unnamed_ref : (file : LoadedFile) (goals : List Goal) (r : Ref) → list_any is_nobody goals ≡ false → lost_names file.object.symbols goals r ≡ []
unfolding lost_names
unnamed_ref file goals r none = by r.minus
  where
    by : (minus : Option Target) → filter_map (lost_name file.object.symbols goals) (targets_of r.target minus) ≡ []
    by None = rw (unnamed file goals r.target none) refl
    by (Some minus) = rw (unnamed file goals r.target none, unnamed file goals minus none) refl

unnamed_refs : (file : LoadedFile) (goals : List Goal) (rs : List Ref) → list_any is_nobody goals ≡ false → flat_map (lost_names file.object.symbols goals) rs ≡ []
unnamed_refs file goals [] none = refl
unnamed_refs file goals (r ∷ rs) none = rw (unnamed_ref file goals r none) (unnamed_refs file goals rs none)

unnamed_unwind : (file : LoadedFile) (goals : List Goal) (unwind : Unwind) → list_any is_nobody goals ≡ false → lost_personality file.object.symbols goals unwind ≡ None
unfolding lost_personality
unnamed_unwind file goals unwind none = by unwind.personality
  where
    by : (personality : Option Target) → option_and_then (lost_name file.object.symbols goals) personality ≡ None
    by None = refl
    by (Some target) = unnamed file goals target none

unnamed_unwinds : (file : LoadedFile) (goals : List Goal) (unwinds : List Unwind) → list_any is_nobody goals ≡ false → filter_map (lost_personality file.object.symbols goals) unwinds ≡ []
unnamed_unwinds file goals [] none = refl
unnamed_unwinds file goals (unwind ∷ unwinds) none = rw (unnamed_unwind file goals unwind none) (unnamed_unwinds file goals unwinds none)

pub unnamed_in : (keys : List AtomKey) (file : LoadedFile) (goals : List Goal) → list_any is_nobody goals ≡ false → lost_in keys file goals ≡ []
unfolding lost_in
unnamed_in keys file goals none = rw (unnamed_refs file goals (kept_refs keys file) none, unnamed_unwinds file goals (kept_unwinds keys file) none) refl

pub none_lost : (keys : List AtomKey) (file : LoadedFile) (goals : List Goal) (init : Option (List ℕ × List ℕ)) → list_any is_nobody goals ≡ false → init ≡ fold lesser init (lost_in keys file goals)
none_lost keys file goals init none = sym (ap (fold lesser init) (unnamed_in keys file goals none))

-- ---- files

pub record IsLeastTo (keys : List AtomKey) (files : List LoadedFile) (goals : List (List Goal)) (at : ℕ) (found : Option (List ℕ × List ℕ)) : Type 0 where
  pub is : found ≡ fold lesser None (flat_map (lost_at keys goals) (take at (enumerate_from 0 files)))

pub files_start : (keys : List AtomKey) (files : List LoadedFile) (goals : List (List Goal)) (found : Option (List ℕ × List ℕ)) → found ≡ None → IsLeastTo keys files goals 0 found
files_start keys files goals found none = record { is = none }

numbered : (files : List LoadedFile) (i : ℕ) (d : LoadedFile) → i < length files → get_or (enumerate_from 0 files) i (0, d) ≡ (i, get_or files i d)
numbered files i d low = let e : 0 + i ≡ i = omega arith in get_or-enumerate_from 0 files i (0, d) low ∙ ap (λ (n : ℕ). (n, get_or files i d)) e

pub files_step : (keys : List AtomKey) (files : List LoadedFile) (goals : List (List Goal)) (at : ℕ) (found new : Option (List ℕ × List ℕ)) (file : LoadedFile) → IsLeastTo keys files goals at found → at < length files → file ≡ get_or files at file → new ≡ fold lesser found (lost_at keys goals (at, file)) → IsLeastTo keys files goals (at + 1) new
files_step keys files goals at found new file noted low there more =
    let under : at < length (enumerate_from 0 files) = omega (arith, low, length-enumerate_from 0 files) in
    record {
      is = more ∙ ap (λ x. fold lesser x (lost_at keys goals (at, file))) noted.is
          ∙ sym (fold-append lesser None (flat_map (lost_at keys goals) (take at (enumerate_from 0 files))) (lost_at keys goals (at, file)))
          ∙ ap (fold lesser None)
          (ap (λ ps. flat_map (lost_at keys goals) (take at (enumerate_from 0 files)) ++ ps) (sym (append-nil (lost_at keys goals (at, file))))
          ∙ sym (flat_map-append (lost_at keys goals) (take at (enumerate_from 0 files)) ((at, file) ∷ []))
          ∙ ap (flat_map (lost_at keys goals)) (ap (λ p. take at (enumerate_from 0 files) ++ p ∷ []) (ap (λ (f : LoadedFile). (at, f)) there ∙ sym (numbered files at file low)) ∙ sym (take_more (enumerate_from 0 files) at (0, file) under)));
    }

pub files_some : (keys : List AtomKey) (files : List LoadedFile) (goals : List (List Goal)) (at : ℕ) (found new : Option (List ℕ × List ℕ)) (file : LoadedFile) (list : List Goal) → IsLeastTo keys files goals at found → at < length files → file ≡ get_or files at file → slice_get goals at ≡ Some list → new ≡ fold lesser found (lost_in keys file list) → IsLeastTo keys files goals (at + 1) new
files_some keys files goals at found new file list noted low there some more =
    files_step keys files goals at found new file noted low there (more ∙ sym (ap (λ o. fold lesser found (option_map_or (lost_in keys file) o [])) some))

pub files_none : (keys : List AtomKey) (files : List LoadedFile) (goals : List (List Goal)) (at : ℕ) (found new : Option (List ℕ × List ℕ)) (file : LoadedFile) → IsLeastTo keys files goals at found → at < length files → file ≡ get_or files at file → slice_get goals at ≡ None → new ≡ found → IsLeastTo keys files goals (at + 1) new
files_none keys files goals at found new file noted low there none same =
    files_step keys files goals at found new file noted low there (same ∙ sym (ap (λ o. fold lesser found (option_map_or (lost_in keys file) o [])) none))

pub files_end : (keys : List AtomKey) (files : List LoadedFile) (goals : List (List Goal)) (at : ℕ) (found : Option (List ℕ × List ℕ)) → IsLeastTo keys files goals at found → length files ≤ at → found ≡ least (lost keys files goals)
unfolding least lost
files_end keys files goals at found noted past = noted.is ∙ ap (λ ps. fold lesser None (flat_map (lost_at keys goals) ps)) (take_all at (enumerate_from 0 files) (omega (arith, past, length-enumerate_from 0 files)))

pub ruleset of_files = (files_start, files_some, files_none, files_end)

-- ---- the names that the command wants

pub record IsWantedTo (names : List (List ℕ)) (init : Option (List ℕ × List ℕ)) (at : ℕ) (found : Option (List ℕ × List ℕ)) : Type 0 where
  pub is : found ≡ fold lesser init (wanted (take at names))

pub names_start : (names : List (List ℕ)) (init found : Option (List ℕ × List ℕ)) → found ≡ init → IsWantedTo names init 0 found
names_start names init found same = record { is = same }

pub names_step : (names : List (List ℕ)) (init : Option (List ℕ × List ℕ)) (at : ℕ) (found new : Option (List ℕ × List ℕ)) (name : List ℕ) → IsWantedTo names init at found → at < length names → name ≡ get_or names at name → new ≡ lesser found (name, []) → IsWantedTo names init (at + 1) new
names_step names init at found new name noted low there more = record {
  is = more ∙ ap (λ x. lesser x (name, [])) noted.is
      ∙ sym (fold-append lesser init (wanted (take at names)) ((name, []) ∷ []))
      ∙ ap (fold lesser init) (sym (ap wanted (take_more names at name low ∙ ap (λ n. take at names ++ n ∷ []) (sym there)) ∙ map-append (λ n. (n, [])) (take at names) (name ∷ [])));
}

pub names_end : (names : List (List ℕ)) (init : Option (List ℕ × List ℕ)) (at : ℕ) (found : Option (List ℕ × List ℕ)) → IsWantedTo names init at found → length names ≤ at → found ≡ fold lesser init (wanted names)
names_end names init at found noted past = noted.is ∙ ap (λ ns. fold lesser init (wanted ns)) (take_all at names past)

pub ruleset of_names = (names_start, names_step, names_end)

pub all_names : (keys : List AtomKey) (files : List LoadedFile) (goals : List (List Goal)) (names : List (List ℕ)) (first result : Option (List ℕ × List ℕ)) → first ≡ least (lost keys files goals) → result ≡ fold lesser first (wanted names) → result ≡ undefined keys files goals names
unfolding undefined least
all_names keys files goals names first result one is = is ∙ ap (λ x. fold lesser x (wanted names)) one ∙ sym (fold-append lesser None (lost keys files goals) (wanted names))
