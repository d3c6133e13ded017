-- How the loops go through the sections that are arranged.
use Rattle.std.proofs.Common.{◌≡◌, ℕ, ◌+◌, ◌<◌, ◌≤◌, true, false, List, [], ◌∷◌, ◌++◌, length, get_or, drop, refl, sym, ap, subst, ◌∙◌, arith, add-one, drop-cons, append_assoc, append-nil}
use Rattle.std.specs.Str.{bytes_eq}
use Rattle.std.proofs.lemmas.List.{drop_all}
use Rattle.mo_types.specs.declared.out_section.OutSection.{OutSection}
use Rattle.sect_place.specs.Arrangement.{is_chosen, with_atoms, chosen, group_named, runs_from, runs, parts_count}
use Rattle.sect_place.specs.declared.part.Choice.{Choice}
use Rattle.sect_place.specs.declared.part.Group.{Group}
use Rattle.sect_place.specs.declared.part.Part.{Part}

-- ---- counting

counts_more : (groups : List Group) (i : ℕ) (group : Group) → i < length groups → group ≡ get_or groups i group → parts_count (drop i groups) ≡ length group.parts + parts_count (drop (i + 1) groups)
unfolding parts_count
counts_more groups i group within is = rw (drop-cons groups i group, ← is, add-one) refl

no_count : (groups : List Group) → groups ≡ [] → parts_count groups ≡ 0
unfolding parts_count
no_count groups none = rw none refl

pub counting : (groups : List Group) (i count more : ℕ) (group : Group) → count + parts_count (drop i groups) ≡ parts_count groups → i < length groups → group ≡ get_or groups i group → more ≡ length group.parts → (count + more) + parts_count (drop (i + 1) groups) ≡ parts_count groups
counting groups i count more group so within is long = let e = counts_more groups i group within is in omega arith

pub counted : (groups : List Group) (i count : ℕ) → count + parts_count (drop i groups) ≡ parts_count groups → length groups ≤ i → count ≡ parts_count groups
counted groups i count so past = let none = no_count (drop i groups) (drop_all i groups past) in omega arith

-- ---- choosing

chosen_skips : (choice : Choice) (sections : List OutSection) (i : ℕ) (section : OutSection) → i < length sections → section ≡ get_or sections i section → is_chosen choice section ≡ false → chosen choice (drop i sections) ≡ chosen choice (drop (i + 1) sections)
unfolding chosen
chosen_skips choice sections i section within is away = rw (drop-cons sections i section, ← is, away, add-one) refl

chosen_more : (choice : Choice) (sections : List OutSection) (i : ℕ) (section : OutSection) → i < length sections → section ≡ get_or sections i section → is_chosen choice section ≡ true → chosen choice (drop i sections) ≡ with_atoms section ∷ chosen choice (drop (i + 1) sections)
unfolding chosen
chosen_more choice sections i section within is here = rw (drop-cons sections i section, ← is, here, add-one) refl

none_chosen : (choice : Choice) (sections : List OutSection) → sections ≡ [] → chosen choice sections ≡ []
unfolding chosen
none_chosen choice sections none = rw none refl

pub choosing_skips : (choice : Choice) (sections : List OutSection) (i : ℕ) (section : OutSection) (parts all : List Part) → parts ++ chosen choice (drop i sections) ≡ all → i < length sections → section ≡ get_or sections i section → is_chosen choice section ≡ false → parts ++ chosen choice (drop (i + 1) sections) ≡ all
choosing_skips choice sections i section parts all so within is away =
    subst (λ (ps : List Part). parts ++ ps ≡ all) (chosen_skips choice sections i section within is away) so

pub choosing_goes_on : (choice : Choice) (sections : List OutSection) (i : ℕ) (section copy : OutSection) (parts new all : List Part) → parts ++ chosen choice (drop i sections) ≡ all → i < length sections → section ≡ get_or sections i section → is_chosen choice section ≡ true → copy ≡ section → new ≡ parts ++ with_atoms copy ∷ [] → new ++ chosen choice (drop (i + 1) sections) ≡ all
choosing_goes_on choice sections i section copy parts new all so within is here same grown =
    let next = subst (λ (ps : List Part). parts ++ ps ≡ all) (chosen_more choice sections i section within is here) so in
    rw (grown, same) (append_assoc parts (with_atoms section ∷ []) (chosen choice (drop (i + 1) sections)) ∙ next)

pub choosing_ends : (choice : Choice) (sections : List OutSection) (i : ℕ) (parts all : List Part) → parts ++ chosen choice (drop i sections) ≡ all → length sections ≤ i → parts ≡ all
choosing_ends choice sections i parts all so past =
    let none = none_chosen choice (drop i sections) (drop_all i sections past) in
    sym (append-nil parts) ∙ (ap (λ (ps : List Part). parts ++ ps) (sym none) ∙ so)

-- ---- runs

pub runs_start : (groups : List Group) (name : List ℕ) (run rest parts : List Part) → name ≡ [] → run ≡ [] → rest ≡ parts → groups ++ runs_from name run rest ≡ groups ++ runs parts
unfolding runs
runs_start groups name run rest parts e f g = rw (e, f, g) refl

pub runs_turn : (groups groups' all : List Group) (name name' : List ℕ) (run run' run'' rest next : List Part) (part : Part) → groups ++ runs_from name run rest ≡ all → rest ≡ part ∷ next → bytes_eq part.section.segment name ≡ false → groups' ≡ groups ++ group_named name run → name' ≡ part.section.segment → run' ≡ [] → run'' ≡ run' ++ part ∷ [] → groups' ++ runs_from name' run'' next ≡ all
runs_turn groups groups' all name name' run run' run'' rest next part so at away grown named empty pushed =
    let here : groups ++ runs_from name run (part ∷ next) ≡ all = subst (λ (ps : List Part). groups ++ runs_from name run ps ≡ all) at so in
    let turned : groups ++ (group_named name run ++ runs_from part.section.segment (part ∷ []) next) ≡ all = rw away at here in
    rw (grown, named, pushed, empty) (append_assoc groups (group_named name run) (runs_from part.section.segment (part ∷ []) next) ∙ turned)

pub runs_more : (groups groups' all : List Group) (name name' : List ℕ) (run run' run'' rest next : List Part) (part : Part) → groups ++ runs_from name run rest ≡ all → rest ≡ part ∷ next → bytes_eq part.section.segment name ≡ true → groups' ≡ groups → name' ≡ name → run' ≡ run → run'' ≡ run' ++ part ∷ [] → groups' ++ runs_from name' run'' next ≡ all
runs_more groups groups' all name name' run run' run'' rest next part so at same grown named kept pushed =
    let here : groups ++ runs_from name run (part ∷ next) ≡ all = subst (λ (ps : List Part). groups ++ runs_from name run ps ≡ all) at so in
    let more : groups ++ runs_from name (run ++ part ∷ []) next ≡ all = rw same at here in
    rw (grown, named, pushed, kept) more
