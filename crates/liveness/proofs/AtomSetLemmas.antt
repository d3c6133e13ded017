-- Sets of atoms, with one atom more.
use Rattle.std.proofs.Common.{◌≡◌, ℕ, suc, ◌+◌, ◌<◌, ◌≤◌, ◌⊎◌, Bool, true, false, not, ◌||◌, List, [], ◌∷◌, ◌++◌, append_assoc, length, take, get_or, Option, Some, None, refl, sym, ap, ◌∙◌, inl, inr, arith}
use Rattle.std.specs.Prelude.{if◌then◌else◌}
use Rattle.std.specs.List.{cons_option, enumerate_from, filter_map, list_any}
use Rattle.std.specs.Option.{option_and_then}
use Rattle.std.proofs.lemmas.Cmp.{nat_eq_equiv}
use Rattle.std.proofs.lemmas.List.{take_all}
use Rattle.std.proofs.lemmas.List.Folds.{list_any_more}
use Rattle.mo_types.specs.declared.key.AtomKey.{AtomKey}
use Rattle.mo_types.specs.declared.atom.Atom.{Atom}
use Rattle.mo_types.specs.Rows.{when}
use Rattle.mo_types.specs.declared.loaded.LoadedFile.{LoadedFile}
use Rattle.mo_types.specs.declared.object.Symbol.{Symbol}
use Rattle.symbol_winners.specs.SymbolTable.{SymbolTable}
use Rattle.mark_core.specs.Kept.{same_atom}
use Rattle.liveness.specs.Roots.{common_root, external_atom, external_atoms, has_atom, plain_root, plain_roots, winning_atom, winning_atoms, wins}
use Rattle.literal_merge.specs.declared.representative.Representative.{Representative}
use Rattle.symbol_winners.proofs.PickLemmas.{picked_alike}
use Rattle.symbol_winners.proofs.SetLemmas.{either}

turned : (a b : AtomKey) → same_atom a b ≡ same_atom b a
turned a b = rw (nat_eq_equiv.symm a.file.position b.file.position, nat_eq_equiv.symm a.file.member b.file.member, nat_eq_equiv.symm a.section b.section, nat_eq_equiv.symm a.offset b.offset) refl

any_more : (p : AtomKey → Bool) (xs : List AtomKey) (i : ℕ) (d : AtomKey) (old new : Bool) → i < length xs → old ≡ list_any p (take i xs) → new ≡ (old || p (get_or xs i d)) → new ≡ list_any p (take (i + 1) xs)
any_more p xs i d old new low before after = after ∙ ap (λ (b : Bool). b || p (get_or xs i d)) before ∙ sym (list_any_more p xs i d low)

pub set_start : (set : List AtomKey) → set ≡ [] → (atom : AtomKey) → has_atom set atom ≡ has_atom [] atom
set_start set none atom = ap (λ ks. has_atom ks atom) none

pub set_step : (atoms old new : List AtomKey) (i : ℕ) (d : AtomKey) → i < length atoms → ((other : AtomKey) → has_atom old other ≡ has_atom (take i atoms) other) → ((other : AtomKey) → has_atom new other ≡ (if same_atom (get_or atoms i d) other then true else has_atom old other)) → (other : AtomKey) → has_atom new other ≡ has_atom (take (i + 1) atoms) other
set_step atoms old new i d low before after other =
    any_more (same_atom other) atoms i d (has_atom old other) (has_atom new other) low (before other)
    (after other ∙ either (same_atom (get_or atoms i d) other) (has_atom old other) ∙ ap (λ b. has_atom old other || b) (turned (get_or atoms i d) other))

pub set_end : (atoms set : List AtomKey) (i : ℕ) → length atoms ≤ i → ((other : AtomKey) → has_atom set other ≡ has_atom (take i atoms) other) → (other : AtomKey) → has_atom set other ≡ has_atom atoms other
set_end atoms set i past before other = before other ∙ ap (λ ks. has_atom ks other) (take_all i atoms past)

pub plain_alike : (literals : List Representative) (external external' winning winning' : List AtomKey) → ((a : AtomKey) → has_atom external' a ≡ has_atom external a) → ((a : AtomKey) → has_atom winning' a ≡ has_atom winning a) → (atom : Atom) → plain_root literals external' winning' atom ≡ plain_root literals external winning atom
unfolding plain_root
plain_alike literals external external' winning winning' e w atom = rw (e atom.key, w atom.key) refl

-- sets of atoms pick what their lists pick
pub sets_alike : (external winning set set' : List AtomKey) → ((a : AtomKey) → has_atom set a ≡ has_atom external a) → ((a : AtomKey) → has_atom set' a ≡ has_atom winning a) → (literals : List Representative) (atom : Atom) → plain_root literals set set' atom ≡ plain_root literals external winning atom
sets_alike external winning set set' e w literals atom = plain_alike literals external set winning set' e w atom

either_way : (b : Bool) → (not b || b) ≡ true
either_way true = refl
either_way false = refl

-- where the second list leaves none of the first out, they pick what no atoms do
pub none_alike : (external winning none none' : List AtomKey) → external ≡ winning → none ≡ [] → (literals : List Representative) (atom : Atom) → plain_root literals none none' atom ≡ plain_root literals external winning atom
unfolding plain_root
none_alike external winning none none' same e literals atom = rw (e, same, either_way (has_atom winning atom.key)) refl

-- what is picked by a rule, and by one that picks the same or nothing
one_of : {X Y : Type 0} (f g : X → Option Y) (w : X → Bool) (x : X) → g x ≡ option_and_then (when (w x)) (f x) → (g x ≡ f x) ⊎ ((g x ≡ None) × ((y : Y) × (f x ≡ Some y)))
one_of {Y = Y} f g w x is = by (f x) (w x) refl refl
  where
    by : (o : Option Y) (b : Bool) → f x ≡ o → w x ≡ b → (g x ≡ f x) ⊎ ((g x ≡ None) × ((y : Y) × (f x ≡ Some y)))
    by None b e d = inl (is ∙ ap (option_and_then (when (w x))) e ∙ sym e)
    by (Some y) true e d = inl (is ∙ ap (option_and_then (when (w x))) e ∙ ap (λ (t : Bool). when t y) d ∙ sym e)
    by (Some y) false e d = inr (is ∙ ap (option_and_then (when (w x))) e ∙ ap (λ (t : Bool). when t y) d, (y, e))

more : {Y : Type 0} (o : Option Y) (ys zs : List Y) → length ys ≤ length zs → length (cons_option o ys) ≤ length (cons_option o zs)
more None ys zs low = low
more (Some y) ys zs low = omega (arith, low)

fewer : {Y : Type 0} (o : Option Y) (ys zs : List Y) → length (cons_option o ys) ≡ length (cons_option o zs) → length ys ≡ length zs
fewer None ys zs e = e
fewer (Some y) ys zs e = omega (arith, e)

shorter : {X Y : Type 0} (f g : X → Option Y) (w : X → Bool) → ((x : X) → g x ≡ option_and_then (when (w x)) (f x)) → (xs : List X) → length (filter_map g xs) ≤ length (filter_map f xs)
shorter f g w is [] = omega arith
shorter f g w is (x ∷ xs) =
    elim (one_of f g w x (is x)) [
      | inl same ↦ rw same (more (f x) (filter_map g xs) (filter_map f xs) (shorter f g w is xs))
      | inr (none, there) ↦ rw (none, there.1) (let rest = shorter f g w is xs in omega (arith, rest))
    ]

same_length : {X Y : Type 0} (f g : X → Option Y) (w : X → Bool) → ((x : X) → g x ≡ option_and_then (when (w x)) (f x)) → (xs : List X) → length (filter_map f xs) ≡ length (filter_map g xs) → filter_map f xs ≡ filter_map g xs
same_length f g w is [] e = refl
same_length {Y = Y} f g w is (x ∷ xs) e =
    elim (one_of f g w x (is x)) [
      | inl same ↦ by_rest same (λ lengths. same_length f g w is xs lengths)
      | inr (none, there) ↦ absurd (too_few none there.0 there.1)
    ]
  where
    by_rest : g x ≡ f x → (length (filter_map f xs) ≡ length (filter_map g xs) → filter_map f xs ≡ filter_map g xs) → filter_map f (x ∷ xs) ≡ filter_map g (x ∷ xs)
    by_rest same rest =
        let lengths : length (cons_option (f x) (filter_map f xs)) ≡ length (cons_option (f x) (filter_map g xs)) = e ∙ ap (λ (o : Option Y). length (cons_option o (filter_map g xs))) same in
        ap (cons_option (f x)) (rest (fewer (f x) (filter_map f xs) (filter_map g xs) lengths))
        ∙ sym (ap (λ (o : Option Y). cons_option o (filter_map g xs)) same)

    too_few : g x ≡ None → (y : Y) → f x ≡ Some y → ⊥
    too_few none y some =
        let long : length (filter_map f (x ∷ xs)) ≡ suc (length (filter_map f xs)) = ap (λ (o : Option Y). length (cons_option o (filter_map f xs))) some in
        let short : length (filter_map g (x ∷ xs)) ≡ length (filter_map g xs) = ap (λ (o : Option Y). length (cons_option o (filter_map g xs))) none in
        let rest = shorter f g w is xs in
        omega (arith, long, short, rest, e)

wins_or_not : (symbols : SymbolTable) (file : LoadedFile) (p : ℕ × Symbol) → winning_atom symbols.winners file p ≡ option_and_then (when (wins symbols.winners file p)) (external_atom file p)
unfolding winning_atom
wins_or_not symbols file p = refl

-- where as many symbols win as there are, the atoms are the same ones
pub all_win : (symbols : SymbolTable) (file : LoadedFile) (external winning : List AtomKey) → external ≡ external_atoms file → winning ≡ winning_atoms symbols.winners file → length external ≡ length winning → external ≡ winning
unfolding external_atoms winning_atoms
all_win symbols file external winning e w long =
    e ∙ same_length (external_atom file) (winning_atom symbols.winners file) (wins symbols.winners file) (wins_or_not symbols file) (enumerate_from 0 file.object.symbols)
    (sym (ap length e) ∙ long ∙ ap length w)
    ∙ sym w

-- what sets of atoms pick is what their lists pick
pub plain_are : (symbols : SymbolTable) (file : LoadedFile) (before roots new external set winning set' commons : List AtomKey) (atoms : List Atom) → external ≡ external_atoms file → winning ≡ winning_atoms symbols.winners file → commons ≡ winning_atoms symbols.winners file
    → ((literals : List Representative) (atom : Atom) → plain_root literals set set' atom ≡ plain_root literals external winning atom) → atoms ≡ file.atoms
    → roots ≡ before ++ filter_map (plain_root symbols.literals set set') atoms → new ≡ roots ++ filter_map common_root commons → new ≡ before ++ plain_roots symbols file
unfolding plain_roots
plain_are symbols file before roots new external set winning set' commons atoms e w v alike a first second =
    second
    ∙ ap (λ (ks : List AtomKey). ks ++ filter_map common_root commons) (first ∙ ap (λ (ks : List AtomKey). before ++ ks) picked)
    ∙ ap (λ (ks : List AtomKey). (before ++ filter_map (plain_root symbols.literals (external_atoms file) (winning_atoms symbols.winners file)) file.atoms) ++ filter_map common_root ks) v
    ∙ append_assoc before (filter_map (plain_root symbols.literals (external_atoms file) (winning_atoms symbols.winners file)) file.atoms) (filter_map common_root (winning_atoms symbols.winners file))
  where
    of_lists : (atom : Atom) → plain_root symbols.literals set set' atom ≡ plain_root symbols.literals (external_atoms file) (winning_atoms symbols.winners file) atom
    of_lists atom = alike symbols.literals atom ∙ ap (λ (ks : List AtomKey). plain_root symbols.literals ks winning atom) e ∙ ap (λ (ks : List AtomKey). plain_root symbols.literals (external_atoms file) ks atom) w

    picked : filter_map (plain_root symbols.literals set set') atoms ≡ filter_map (plain_root symbols.literals (external_atoms file) (winning_atoms symbols.winners file)) file.atoms
    picked =
        ap (filter_map (plain_root symbols.literals set set')) a
        ∙ picked_alike (plain_root symbols.literals set set') (plain_root symbols.literals (external_atoms file) (winning_atoms symbols.winners file)) of_lists file.atoms

pub ruleset sets = (none_alike, sets_alike)
