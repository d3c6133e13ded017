-- How loops go through lists.
use Rattle.std.proofs.Common.{◌≡◌, ℕ, ◌+◌, ◌<◌, ◌≤◌, Bool, true, false, List, [], ◌∷◌, ◌++◌, length, get_or, drop, Some, None, refl, sym, ap, subst, ◌∙◌, append_assoc, append-nil}
use Rattle.std.specs.List.{find, list_any}
use Rattle.std.proofs.lemmas.List.{drop_all, get_or_default}
use Rattle.list_lemmas.proofs.Places.{from_here}
use Rattle.mo_types.specs.declared.atom.Atom.{Atom}
use Rattle.mo_types.specs.declared.key.AtomKey.{AtomKey}
use Rattle.mo_types.specs.declared.out_section.OutSection.{OutSection}
use Rattle.tlv_plan.specs.Template.{atoms_of}
use Rattle.sect_place.specs.Arrangement.{is_code}
use Rattle.sect_place.specs.Moved.{code_keys}
use Rattle.sect_place.specs.Shifts.{sections_in}
use Rattle.sect_place.specs.declared.layout.PlacedSection.{PlacedSection}
use Rattle.sect_place.proofs.Positions.{atoms_join, finds}

-- ---- searches

find_none_of : {X : Type 0} (t : X → Bool) (xs : List X) → xs ≡ [] → find t xs ≡ None
find_none_of t xs e = ap (find t) e

pub find_passes : {X : Type 0} (t : X → Bool) (xs : List X) (i : ℕ) (x : X) → find t (drop i xs) ≡ find t xs → i < length xs → x ≡ get_or xs i x → t x ≡ false → find t (drop (i + 1) xs) ≡ find t xs
find_passes {X = X} t xs i x so within is away =
    let here : find t (x ∷ drop (i + 1) xs) ≡ find t (drop (i + 1) xs) = rw away refl in
    sym here ∙ (ap (find t) (sym (from_here xs i x within is)) ∙ so)

pub find_stops : {X : Type 0} (t : X → Bool) (xs : List X) (i : ℕ) (x : X) → find t (drop i xs) ≡ find t xs → i < length xs → x ≡ get_or xs i x → t x ≡ true → find t xs ≡ Some x
find_stops t xs i x so within is here =
    let first : find t (x ∷ drop (i + 1) xs) ≡ Some x = rw here refl in
    sym so ∙ (ap (find t) (from_here xs i x within is) ∙ first)

pub find_ends : {X : Type 0} (t : X → Bool) (xs : List X) (i : ℕ) → find t (drop i xs) ≡ find t xs → length xs ≤ i → find t xs ≡ None
find_ends t xs i so past = sym so ∙ find_none_of t (drop i xs) (drop_all i xs past)

pub any_passes : {X : Type 0} (t : X → Bool) (xs : List X) (i : ℕ) (x : X) → list_any t (drop i xs) ≡ list_any t xs → i < length xs → x ≡ get_or xs i x → t x ≡ false → list_any t (drop (i + 1) xs) ≡ list_any t xs
any_passes t xs i x so within is away =
    let here : list_any t (x ∷ drop (i + 1) xs) ≡ list_any t (drop (i + 1) xs) = rw away refl in
    sym here ∙ (ap (list_any t) (sym (from_here xs i x within is)) ∙ so)

pub any_stops : {X : Type 0} (t : X → Bool) (xs : List X) (i : ℕ) (x : X) → list_any t (drop i xs) ≡ list_any t xs → i < length xs → x ≡ get_or xs i x → t x ≡ true → list_any t xs ≡ true
any_stops t xs i x so within is here =
    let first : list_any t (x ∷ drop (i + 1) xs) ≡ true = rw here refl in
    sym so ∙ (ap (list_any t) (from_here xs i x within is) ∙ first)

pub any_ends : {X : Type 0} (t : X → Bool) (xs : List X) (i : ℕ) → list_any t (drop i xs) ≡ list_any t xs → length xs ≤ i → list_any t xs ≡ false
any_ends t xs i so past = sym so ∙ ap (list_any t) (drop_all i xs past)

-- ---- kept atoms of keys

found_first : (kept : List Atom) (key : AtomKey) (keys : List AtomKey) (atom : Atom) → finds kept key ≡ Some atom → atoms_of kept (key ∷ keys) ≡ atom ∷ atoms_of kept keys
unfolding atoms_of
found_first kept key keys atom e = rw e refl

missed_first : (kept : List Atom) (key : AtomKey) (keys : List AtomKey) → finds kept key ≡ None → atoms_of kept (key ∷ keys) ≡ atoms_of kept keys
unfolding atoms_of
missed_first kept key keys e = rw e refl

none_left : (kept : List Atom) (keys : List AtomKey) → keys ≡ [] → atoms_of kept keys ≡ []
unfolding atoms_of
none_left kept keys none = rw none refl

pub atoms_more : (kept : List Atom) (keys : List AtomKey) (i : ℕ) (d : AtomKey) (atom : Atom) (now new all : List Atom) → now ++ atoms_of kept (drop i keys) ≡ all → i < length keys → Some atom ≡ finds kept (get_or keys i d) → new ≡ now ++ atom ∷ [] → new ++ atoms_of kept (drop (i + 1) keys) ≡ all
atoms_more kept keys i d atom now new all so within found grown =
    let key = get_or keys i d in
    let next = subst (λ (ks : List AtomKey). now ++ atoms_of kept ks ≡ all) (from_here keys i key within (get_or_default keys i d key within)) so in
    ap (λ (xs : List Atom). xs ++ atoms_of kept (drop (i + 1) keys)) grown
    ∙ (append_assoc now (atom ∷ []) (atoms_of kept (drop (i + 1) keys)) ∙ (ap (λ (xs : List Atom). now ++ xs) (sym (found_first kept key (drop (i + 1) keys) atom (sym found))) ∙ next))

pub atoms_pass : (kept : List Atom) (keys : List AtomKey) (i : ℕ) (d : AtomKey) (now all : List Atom) → now ++ atoms_of kept (drop i keys) ≡ all → i < length keys → None ≡ finds kept (get_or keys i d) → now ++ atoms_of kept (drop (i + 1) keys) ≡ all
atoms_pass kept keys i d now all so within found =
    let key = get_or keys i d in
    let next = subst (λ (ks : List AtomKey). now ++ atoms_of kept ks ≡ all) (from_here keys i key within (get_or_default keys i d key within)) so in
    ap (λ (xs : List Atom). now ++ xs) (sym (missed_first kept key (drop (i + 1) keys) (sym found))) ∙ next

pub atoms_end : (kept : List Atom) (keys : List AtomKey) (i : ℕ) (now all : List Atom) → now ++ atoms_of kept (drop i keys) ≡ all → length keys ≤ i → now ≡ all
atoms_end kept keys i now all so past = sym (append-nil now) ∙ (ap (λ (xs : List Atom). now ++ xs) (sym (none_left kept (drop i keys) (drop_all i keys past))) ∙ so)

-- ---- sections

code_first : (section : OutSection) (sections : List OutSection) → is_code section ≡ true → code_keys (section ∷ sections) ≡ section.atoms ++ code_keys sections
unfolding code_keys
code_first section sections e = rw e refl

other_first : (section : OutSection) (sections : List OutSection) → is_code section ≡ false → code_keys (section ∷ sections) ≡ code_keys sections
unfolding code_keys
other_first section sections e = rw e refl

no_keys : (sections : List OutSection) → sections ≡ [] → code_keys sections ≡ []
unfolding code_keys
no_keys sections none = rw none refl

pub sections_more : (kept : List Atom) (placed : List PlacedSection) (i : ℕ) (p : PlacedSection) (now new all : List Atom) → now ++ atoms_of kept (code_keys (sections_in (drop i placed))) ≡ all → i < length placed → p ≡ get_or placed i p → is_code p.section ≡ true → new ≡ now ++ atoms_of kept p.section.atoms → new ++ atoms_of kept (code_keys (sections_in (drop (i + 1) placed))) ≡ all
sections_more kept placed i p now new all so within is code grown =
    let rest = code_keys (sections_in (drop (i + 1) placed)) in
    let next = subst (λ (ps : List PlacedSection). now ++ atoms_of kept (code_keys (sections_in ps)) ≡ all) (from_here placed i p within is) so in
    ap (λ (xs : List Atom). xs ++ atoms_of kept rest) grown
    ∙ (append_assoc now (atoms_of kept p.section.atoms) (atoms_of kept rest)
    ∙ (ap (λ (xs : List Atom). now ++ xs) (sym (ap (atoms_of kept) (code_first p.section (sections_in (drop (i + 1) placed)) code) ∙ atoms_join kept p.section.atoms rest)) ∙ next))

pub sections_pass : (kept : List Atom) (placed : List PlacedSection) (i : ℕ) (p : PlacedSection) (now all : List Atom) → now ++ atoms_of kept (code_keys (sections_in (drop i placed))) ≡ all → i < length placed → p ≡ get_or placed i p → is_code p.section ≡ false → now ++ atoms_of kept (code_keys (sections_in (drop (i + 1) placed))) ≡ all
sections_pass kept placed i p now all so within is other =
    let next = subst (λ (ps : List PlacedSection). now ++ atoms_of kept (code_keys (sections_in ps)) ≡ all) (from_here placed i p within is) so in
    ap (λ (xs : List Atom). now ++ xs) (sym (ap (atoms_of kept) (other_first p.section (sections_in (drop (i + 1) placed)) other))) ∙ next

pub sections_end : (kept : List Atom) (placed : List PlacedSection) (i : ℕ) (now all : List Atom) → now ++ atoms_of kept (code_keys (sections_in (drop i placed))) ≡ all → length placed ≤ i → now ≡ all
sections_end kept placed i now all so past =
    sym (append-nil now)
    ∙ (ap (λ (xs : List Atom). now ++ xs) (sym (none_left kept (code_keys (sections_in (drop i placed))) (no_keys (sections_in (drop i placed)) (ap sections_in (drop_all i placed past))))) ∙ so)
