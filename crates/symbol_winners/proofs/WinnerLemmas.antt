-- The winning candidates of a table are those of the definition.
use Rattle.std.proofs.Common.{◌≡◌, ℕ, zero, suc, ◌+◌, ◌-◌, ◌<◌, ◌≤◌, ◌==◌, Bool, true, false, List, [], ◌∷◌, length, map, filter, fold, max, get_or, slice_get, position, Contains, IsPermutation, refl, sym, ap, subst, ◌∙◌, inl, inr, arith, Some, None}
use Rattle.std.specs.Prelude.{Option, IsSome}
use Rattle.std.specs.List.{AllByRecursion, AllPairs, IsDistinct, cons_option, find, filter_map}
use Rattle.std.specs.List.Sorted.{IsSortedBy}
use Rattle.std.specs.Ordering.{is_eq, is_lt, nat_cmp, ordering_reverse}
use Rattle.std.specs.declared.cmp.Ordering.{Ordering}
use Rattle.std.specs.declared.cmp.Ordering.TheVariants.{Less, Equal, Greater}
use Rattle.std.specs.Cmp.Lexicographic.{slice_cmp}
use Rattle.std.specs.Option.{option_map, option_and_then}
use Rattle.std.specs.Str.{bytes_eq}
use Rattle.std.proofs.lemmas.Cmp.{nat_list_cmp_total}
use Rattle.std.proofs.lemmas.List.{length-map}
use Rattle.std.proofs.lemmas.List.Elements.{All-contains}
use Rattle.std.proofs.lemmas.List.Sorted.{Contains-permutation, IsPermutation-map, IsPermutation-sym, length_permutation}
use Rattle.std.proofs.lemmas.List.Quantifiers.{position-Some}
use Rattle.std.proofs.lemmas.Map.Text.{is_eq-slice_cmp}
use Rattle.std.proofs.lemmas.Map.Keys.{IsDistinct-IsPermutation, apart_from_distinct}
use Rattle.std.proofs.lemmas.Option.{slice_get-get_or}
use Rattle.std.proofs.lemmas.Simd.{map-map}
use Rattle.std.proofs.lemmas.Slice.Eq.{bytes_eq-Decides}
use Rattle.list_lemmas.proofs.Members.{In, Contains_from_in, all_in, find_none, find_some, from_filter, in_from_Contains, in_map}
use Rattle.command_line.specs.declared.command.Command.{Command}
use Rattle.mo_types.specs.Candidates.{Candidate, candidates, least}
use Rattle.mo_types.specs.declared.loaded.LoadedFile.{LoadedFile}
use Rattle.mo_types.specs.declared.object.SymbolKind.{SymbolKind}
use Rattle.name_ids.specs.Names.{number_of}
use Rattle.symbol_winners.specs.Found.{AreNamed, FileCandidate, candidate_of, found, found_for}
use Rattle.symbol_winners.specs.Places.{place_of}
use Rattle.symbol_winners.specs.Winners.{align_in, found_word, greatest_align, greatest_size, is_exported, size_in, winner_at, winner_from, winner_named, winner_of, winning}
use Rattle.symbol_winners.specs.declared.best.Best.{Best}
use Rattle.symbol_winners.specs.declared.chosen.Chosen.{Chosen}
use Rattle.symbol_winners.specs.declared.found.FoundIn.{FoundIn}
use Rattle.symbol_winners.specs.declared.name_index.NameIndex.{NameIndex}
use Rattle.symbol_winners.specs.declared.places.Place.{Place}
use Rattle.symbol_winners.specs.declared.winner.Winner.{Winner}
use Rattle.symbol_winners.specs.inner.Best.{AreCandidates, AreChosen, IsCandidateOf, best_of, candidate_wins, chosen_name, chosen_of, greatest_of, held_name, winner_chosen}
use Rattle.symbol_winners.specs.inner.Index.{IsIndexOf, known}
use Rattle.symbol_winners.specs.inner.Numbers.{AreNumbered, IsListed, IsNumbered}
use Rattle.symbol_winners.specs.inner.Tables.{found_of, held, named, table_of}
use Rattle.symbol_winners.proofs.ChosenLemmas.{filter_map_few}
use Rattle.symbol_winners.proofs.DuplicateLemmas.{same_all}
use Rattle.symbol_winners.proofs.SetLemmas.{turned}
use Rattle.symbol_winners.proofs.TableLemmas.{no_position}

not_some : {X : Type 0} (o : Option X) → o ≡ None → IsSome o → ⊥
not_some None e some = cc
not_some (Some x) e some = cc

same_name : (a b : List ℕ) → bytes_eq a b ≡ true → a ≡ b
same_name a b e = (bytes_eq-Decides a b).0 e

-- ---- the chosen one of a name, and the winner of the definition

-- what is chosen among the candidates of a name
unfoldable pub chosen_for : List LoadedFile → List FoundIn → List ℕ → Option Chosen
chosen_for files fs name = chosen_of (best_of files (named held_name name fs))

named_held : (name : List ℕ) (fs : List FoundIn) → held (named held_name name fs) ≡ filter (λ (f : FileCandidate). bytes_eq name f.symbol.name) (held fs)
named_held name [] = refl
named_held name (f ∷ fs) = by (named_held name fs) (bytes_eq name (held_name f)) refl
  where
    by : held (named held_name name fs) ≡ filter (λ (g : FileCandidate). bytes_eq name g.symbol.name) (held fs) → (b : Bool) → bytes_eq name (held_name f) ≡ b → held (named held_name name (f ∷ fs)) ≡ filter (λ (g : FileCandidate). bytes_eq name g.symbol.name) (held (f ∷ fs))
    by rest true e = rw e (ap (λ (gs : List FileCandidate). found_of f ∷ gs) rest)
    by rest false e = rw e rest

winner_same : (files : List LoadedFile) (name : List ℕ) (fs : List FoundIn) → option_map found_of (find (candidate_wins files) (named held_name name fs)) ≡ find (λ (g : FileCandidate). found_word g == least files name) (held (named held_name name fs))
winner_same files name [] = refl
winner_same files name (f ∷ fs) = by (winner_same files name fs) (bytes_eq name (held_name f)) refl
  where
    one : name ≡ held_name f → option_map found_of (find (candidate_wins files) (named held_name name fs)) ≡ find (λ (g : FileCandidate). found_word g == least files name) (held (named held_name name fs)) → (b : Bool) → candidate_wins files f ≡ b → option_map found_of (find (candidate_wins files) (f ∷ named held_name name fs)) ≡ find (λ (g : FileCandidate). found_word g == least files name) (found_of f ∷ held (named held_name name fs))
    one same rest true e = let e2 : (found_word (found_of f) == least files name) ≡ true = ap (λ (n : List ℕ). found_word (found_of f) == least files n) same ∙ e in rw (e, e2) refl
    one same rest false e = let e2 : (found_word (found_of f) == least files name) ≡ false = ap (λ (n : List ℕ). found_word (found_of f) == least files n) same ∙ e in rw (e, e2) rest

    by : option_map found_of (find (candidate_wins files) (named held_name name fs)) ≡ find (λ (g : FileCandidate). found_word g == least files name) (held (named held_name name fs)) → (b : Bool) → bytes_eq name (held_name f) ≡ b → option_map found_of (find (candidate_wins files) (named held_name name (f ∷ fs))) ≡ find (λ (g : FileCandidate). found_word g == least files name) (held (named held_name name (f ∷ fs)))
    by rest true e = rw e (one (same_name name (held_name f) e) rest (candidate_wins files f) refl)
    by rest false e = rw e rest

greatest_same : (part : SymbolKind → ℕ) (fs : List FoundIn) → greatest_of part fs ≡ fold max 0 (map (λ (f : FileCandidate). part f.symbol.kind) (held fs))
greatest_same part fs = ap (fold max 0) (sym (map-map (λ (f : FileCandidate). part f.symbol.kind) found_of fs))

found_named : (files : List LoadedFile) (fs : List FoundIn) (name : List ℕ) → held fs ≡ found files → held (named held_name name fs) ≡ found_for files name
unfolding found_for
found_named files fs name is = named_held name fs ∙ ap (filter (λ (f : FileCandidate). bytes_eq name f.symbol.name)) is

from_chosen : (command : Command) (all : List FileCandidate) (winner : Option FoundIn) (size align : ℕ) → size ≡ greatest_size all → align ≡ greatest_align all → option_and_then (winner_chosen command) (option_map (λ (f : FoundIn). record { found = f; size = size; align = align }) winner) ≡ option_and_then (winner_from command all) (option_map found_of winner)
from_chosen command all None size align s a = refl
from_chosen command all (Some f) size align s a = rw (s, a) refl

pub chosen_winner : (command : Command) (files : List LoadedFile) (fs : List FoundIn) (name : List ℕ) → held fs ≡ found files → option_and_then (winner_chosen command) (chosen_for files fs name) ≡ winner_of command files name
unfolding chosen_for best_of winner_of winning greatest_size greatest_align
chosen_winner command files fs name is =
    let named_is : held (named held_name name fs) ≡ found_for files name = found_named files fs name is in
    from_chosen command (held (named held_name name fs)) (find (candidate_wins files) (named held_name name fs)) (greatest_of size_in (named held_name name fs)) (greatest_of align_in (named held_name name fs)) (greatest_same size_in (named held_name name fs)) (greatest_same align_in (named held_name name fs))
    ∙ ap (option_and_then (winner_from command (held (named held_name name fs)))) (winner_same files name fs)
    ∙ ap (λ (gs : List FileCandidate). option_and_then (winner_from command gs) (find (λ (g : FileCandidate). found_word g == least files name) gs)) named_is

-- ---- the chosen ones of some names

pub chosen_named : (files : List LoadedFile) (fs : List FoundIn) (name : List ℕ) (c : Chosen) → chosen_for files fs name ≡ Some c → (chosen_name c ≡ name) × In c.found fs
unfolding chosen_for best_of
chosen_named files fs name c is = by (find (candidate_wins files) (named held_name name fs)) refl is
  where
    by : (winner : Option FoundIn) → find (candidate_wins files) (named held_name name fs) ≡ winner → option_map (λ (f : FoundIn). record { found = f; size = greatest_of size_in (named held_name name fs); align = greatest_of align_in (named held_name name fs) }) winner ≡ Some c → (chosen_name c ≡ name) × In c.found fs
    by None e h = cc
    by (Some f) e h =
        let whole : record { found = f; size = greatest_of size_in (named held_name name fs); align = greatest_of align_in (named held_name name fs) } ≡ c = cc in
        let same : c.found ≡ f = sym (ap (λ (x : Chosen). x.found) whole) in
        let p : In f (named held_name name fs) × (candidate_wins files f ≡ true) = find_some (candidate_wins files) (named held_name name fs) f e in
        let q : In f fs × (bytes_eq name (held_name f) ≡ true) = from_filter (λ (g : FoundIn). bytes_eq name (held_name g)) fs f p.0 in
        (ap held_name same ∙ sym (same_name name (held_name f) q.1), subst (λ (g : FoundIn). In g fs) (sym same) q.0)

filter_map_through : {X Y Z : Type 0} (g : X → Y) (f : Y → Option Z) (xs : List X) → filter_map f (map g xs) ≡ filter_map (λ x. f (g x)) xs
filter_map_through g f [] = refl
filter_map_through g f (x ∷ xs) = ap (cons_option (f (g x))) (filter_map_through g f xs)

-- those of a table are those of the names
pub table_chosen : (files : List LoadedFile) (names : List (List ℕ)) (fs : List FoundIn) (table : List Best) → table ≡ table_of (best_of files) held_name names fs → filter_map chosen_of table ≡ filter_map (chosen_for files fs) names
unfolding table_of chosen_for
table_chosen files names fs table is = ap (filter_map chosen_of) is ∙ filter_map_through (λ (n : List ℕ). best_of files (named held_name n fs)) chosen_of names

in_made : {X Y : Type 0} (f : X → Option Y) (xs : List X) (x : X) (y : Y) → In x xs → f x ≡ Some y → In y (filter_map f xs)
in_made f [] x y h is = absurd h
in_made f (z ∷ zs) x y (inl e) is = rw (ap f e ∙ is) (inl refl)
in_made {Y = Y} f (z ∷ zs) x y (inr h) is = by (in_made f zs x y h is) (f z) refl
  where
    by : In y (filter_map f zs) → (o : Option Y) → f z ≡ o → In y (filter_map f (z ∷ zs))
    by rest None e = rw e rest
    by rest (Some w) e = rw e (inr rest)

from_made : {X Y : Type 0} (f : X → Option Y) (xs : List X) (y : Y) → In y (filter_map f xs) → (x : X) × In x xs × (f x ≡ Some y)
from_made f [] y h = absurd h
from_made {X = X} {Y = Y} f (z ∷ zs) y h = by (from_made f zs y) (f z) refl h
  where
    by : (In y (filter_map f zs) → (x : X) × In x zs × (f x ≡ Some y)) → (o : Option Y) → f z ≡ o → In y (cons_option o (filter_map f zs)) → (x : X) × In x (z ∷ zs) × (f x ≡ Some y)
    by rest None e there = let p = rest there in (p.0, inr p.1, p.2)
    by rest (Some w) e (inl same) = (z, inl refl, e ∙ ap Some same)
    by rest (Some w) e (inr there) = let p = rest there in (p.0, inr p.1, p.2)

-- the winning candidates of names, in some order
pub record AreThose (files : List LoadedFile) (names : List (List ℕ)) (fs : List FoundIn) (chosen : List Chosen) : Type 0 where
  pub order : IsPermutation (filter_map (chosen_for files fs) names) chosen
  pub named : AreNamed names files
  pub held : held fs ≡ found files

-- no more are chosen than there are names
pub chosen_few : (files : List LoadedFile) (names : List (List ℕ)) (fs : List FoundIn) (chosen : List Chosen) → AreThose files names fs chosen → length chosen ≤ length names
chosen_few files names fs chosen those =
    let same : length chosen ≡ length (filter_map (chosen_for files fs) names) = length_permutation (filter_map (chosen_for files fs) names) chosen those.order in
    let few : length (filter_map (chosen_for files fs) names) ≤ length names = filter_map_few (chosen_for files fs) names in
    omega (arith, same, few)

-- a candidate's name is among the names
name_there : (files : List LoadedFile) (names : List (List ℕ)) (fs : List FoundIn) (f : FoundIn) → AreNamed names files → held fs ≡ found files → In f fs → In (held_name f) names
name_there files names fs f named_all is there =
    let one : In (found_of f) (found files) = subst (λ (xs : List FileCandidate). In (found_of f) xs) is (in_map found_of fs f there) in
    let two : In (candidate_of (found_of f)) (candidates files) = subst (λ (xs : List Candidate). In (candidate_of (found_of f)) xs) (sym (same_all files)) (in_map candidate_of (found files) (found_of f) one) in
    in_from_Contains names (held_name f) (All-contains (λ (c : Candidate). Contains names c.symbol.name) (candidates files) (candidate_of (found_of f)) named_all (Contains_from_in (candidates files) (candidate_of (found_of f)) two))

chosen_there : (files : List LoadedFile) (names : List (List ℕ)) (fs : List FoundIn) (chosen : List Chosen) (name : List ℕ) (c : Chosen) → AreThose files names fs chosen → chosen_for files fs name ≡ Some c → In c chosen
chosen_there files names fs chosen name c those is =
    let p : (chosen_name c ≡ name) × In c.found fs = chosen_named files fs name c is in
    let there : In name names = subst (λ (n : List ℕ). In n names) p.0 (name_there files names fs c.found those.named those.held p.1) in
    in_from_Contains chosen c (Contains-permutation (filter_map (chosen_for files fs) names) chosen c those.order (Contains_from_in (filter_map (chosen_for files fs) names) c (in_made (chosen_for files fs) names name c there is)))

-- a chosen one is that of its name
pub chosen_is : (files : List LoadedFile) (names : List (List ℕ)) (fs : List FoundIn) (chosen : List Chosen) (c : Chosen) → AreThose files names fs chosen → In c chosen → chosen_for files fs (chosen_name c) ≡ Some c
chosen_is files names fs chosen c those there =
    let back : In c (filter_map (chosen_for files fs) names) = in_from_Contains (filter_map (chosen_for files fs) names) c (Contains-permutation chosen (filter_map (chosen_for files fs) names) c (IsPermutation-sym (filter_map (chosen_for files fs) names) chosen those.order) (Contains_from_in chosen c there)) in
    let p : (n : List ℕ) × In n names × (chosen_for files fs n ≡ Some c) = from_made (chosen_for files fs) names c back in
    ap (chosen_for files fs) ((chosen_named files fs p.0 c p.2).0) ∙ p.2

-- what a search for a name finds among them
pub find_chosen : (files : List LoadedFile) (names : List (List ℕ)) (fs : List FoundIn) (chosen : List Chosen) (name : List ℕ) → AreThose files names fs chosen → find (λ (c : Chosen). bytes_eq name (chosen_name c)) chosen ≡ chosen_for files fs name
find_chosen files names fs chosen name those = by (find (λ (c : Chosen). bytes_eq name (chosen_name c)) chosen) refl (chosen_for files fs name) refl
  where
    by : (found_one : Option Chosen) → find (λ (c : Chosen). bytes_eq name (chosen_name c)) chosen ≡ found_one → (wanted : Option Chosen) → chosen_for files fs name ≡ wanted → find (λ (c : Chosen). bytes_eq name (chosen_name c)) chosen ≡ chosen_for files fs name
    by (Some c) e wanted w =
        let p : In c chosen × (bytes_eq name (chosen_name c) ≡ true) = find_some (λ (x : Chosen). bytes_eq name (chosen_name x)) chosen c e in
        e ∙ sym (ap (chosen_for files fs) (same_name name (chosen_name c) p.1) ∙ chosen_is files names fs chosen c those p.0)
    by None e None w = e ∙ sym w
    by None e (Some c) w =
        let there : In c chosen = chosen_there files names fs chosen name c those w in
        let other : bytes_eq name (chosen_name c) ≡ false = find_none (λ (x : Chosen). bytes_eq name (chosen_name x)) chosen c e there in
        absurd (let t : bytes_eq name (chosen_name c) ≡ true = (bytes_eq-Decides name (chosen_name c)).1 (sym ((chosen_named files fs name c w).0)) in let g : true ≡ false = sym t ∙ other in cc)

-- ---- the list of winners

winner_name : (command : Command) (c : Chosen) (w : Winner) → Some w ≡ winner_chosen command c → w.name ≡ chosen_name c
winner_name command c w is = by (place_of c.found.file.now c.found.index c.found.symbol.now.kind) is
  where
    by : (place : Option Place) → Some w ≡ option_map (winner_at (is_exported command c.found.symbol.now) c.size c.align (found_of c.found)) place → w.name ≡ chosen_name c
    by None e = cc
    by (Some p) e = let f : w ≡ winner_at (is_exported command c.found.symbol.now) c.size c.align (found_of c.found) p = cc in ap (λ (x : Winner). x.name) f

pub list_named : (command : Command) (list : List Winner) (chosen : List Chosen) (name : List ℕ) → map Some list ≡ map (winner_chosen command) chosen → winner_named list name ≡ option_and_then (winner_chosen command) (find (λ (c : Chosen). bytes_eq name (chosen_name c)) chosen)
list_named command [] [] name is = refl
list_named command [] (c ∷ cs) name is = cc
list_named command (w ∷ ws) [] name is = cc
list_named command (w ∷ ws) (c ∷ cs) name is =
    let first : Some w ≡ winner_chosen command c = cc in
    let rest : map Some ws ≡ map (winner_chosen command) cs = cc in
    by first (winner_name command c w first) (list_named command ws cs name rest) (bytes_eq name (chosen_name c)) refl
  where
    by : Some w ≡ winner_chosen command c → w.name ≡ chosen_name c → winner_named ws name ≡ option_and_then (winner_chosen command) (find (λ (x : Chosen). bytes_eq name (chosen_name x)) cs) → (b : Bool) → bytes_eq name (chosen_name c) ≡ b → winner_named (w ∷ ws) name ≡ option_and_then (winner_chosen command) (find (λ (x : Chosen). bytes_eq name (chosen_name x)) (c ∷ cs))
    by first same later true e = let t : bytes_eq name w.name ≡ true = ap (bytes_eq name) same ∙ e in rw (t, e) first
    by first same later false e = let t : bytes_eq name w.name ≡ false = ap (bytes_eq name) same ∙ e in rw (t, e) later

-- the winner of a name in the list is the definition's
pub each_winner : (command : Command) (files : List LoadedFile) (names : List (List ℕ)) (fs : List FoundIn) (chosen : List Chosen) (list : List Winner) → AreThose files names fs chosen → map Some list ≡ map (winner_chosen command) chosen → (name : List ℕ) → winner_named list name ≡ winner_of command files name
each_winner command files names fs chosen list those is name =
    list_named command list chosen name is
    ∙ ap (option_and_then (winner_chosen command)) (find_chosen files names fs chosen name those)
    ∙ chosen_winner command files fs name those.held

list_at : (command : Command) (list : List Winner) (chosen : List Chosen) (k : ℕ) (d : Chosen) → map Some list ≡ map (winner_chosen command) chosen → k < length chosen → slice_get list k ≡ winner_chosen command (get_or chosen k d)
list_at command [] [] k d is low = absurd (omega (arith, low))
list_at command [] (c ∷ cs) k d is low = cc
list_at command (w ∷ ws) [] k d is low = cc
list_at command (w ∷ ws) (c ∷ cs) zero d is low = cc
list_at command (w ∷ ws) (c ∷ cs) (suc k) d is low = let rest : map Some ws ≡ map (winner_chosen command) cs = cc in list_at command ws cs k d rest (omega (arith, low))

in_at : {X : Type 0} (xs : List X) (k : ℕ) (d : X) → k < length xs → In (get_or xs k d) xs
in_at [] k d low = absurd (omega (arith, low))
in_at (x ∷ xs) zero d low = inl refl
in_at (x ∷ xs) (suc k) d low = inr (in_at xs k d (omega (arith, low)))

at_in : {X : Type 0} (xs : List X) (x d : X) → In x xs → (k : ℕ) × (k < length xs) × (get_or xs k d ≡ x)
at_in [] x d h = absurd h
at_in (y ∷ ys) x d (inl e) = (0, omega arith, e)
at_in (y ∷ ys) x d (inr h) = let p = at_in ys x d h in let low : p.0 < length ys = p.1 in (suc p.0, omega (arith, low), p.2)

-- the index leads to the winner of a name in the list
pub indexed : (command : Command) (files : List LoadedFile) (names : List (List ℕ)) (fs : List FoundIn) (chosen : List Chosen) (list : List Winner) (index : NameIndex) → AreThose files names fs chosen → map Some list ≡ map (winner_chosen command) chosen → IsIndexOf chosen (length chosen) index → (name : List ℕ) → option_and_then (slice_get list) (known index name) ≡ winner_named list name
indexed command files names fs chosen list index those is is_index name = by (known index name) refl
  where
    some_chosen : (cs : List Chosen) (n : ℕ) → n < length cs → Chosen
    some_chosen [] n low = absurd (omega (arith, low))
    some_chosen (c ∷ cs) n low = c

    there : (k : ℕ) (c : Chosen) → known index name ≡ Some k → slice_get list k ≡ winner_named list name
    there k c e =
        let low : k < length chosen = is_index.within name k e in
        let that : chosen_for files fs name ≡ Some (get_or chosen k c) = ap (chosen_for files fs) (sym (is_index.found name k c e)) ∙ chosen_is files names fs chosen (get_or chosen k c) those (in_at chosen k c low) in
        list_at command list chosen k c is low
        ∙ sym (list_named command list chosen name is ∙ ap (option_and_then (winner_chosen command)) (find_chosen files names fs chosen name those ∙ that))

    none_there : known index name ≡ None → (found_one : Option Chosen) → find (λ (c : Chosen). bytes_eq name (chosen_name c)) chosen ≡ found_one → None ≡ winner_named list name
    none_there e None f = sym (list_named command list chosen name is ∙ ap (option_and_then (winner_chosen command)) f)
    none_there e (Some c) f =
        let p : In c chosen × (bytes_eq name (chosen_name c) ≡ true) = find_some (λ (x : Chosen). bytes_eq name (chosen_name x)) chosen c f in
        let q : (k : ℕ) × (k < length chosen) × (get_or chosen k c ≡ c) = at_in chosen c c p.0 in
        let same : chosen_name (get_or chosen q.0 c) ≡ name = ap chosen_name q.2 ∙ sym (same_name name (chosen_name c) p.1) in
        let s : IsSome (known index name) = subst (λ (n : List ℕ). IsSome (known index n)) same (is_index.all q.0 c q.1) in
        absurd (not_some (known index name) e s)

    by : (place : Option ℕ) → known index name ≡ place → option_and_then (slice_get list) (known index name) ≡ winner_named list name
    by None e = rw e (none_there e (find (λ (c : Chosen). bytes_eq name (chosen_name c)) chosen) refl)
    by (Some k) e = rw e (there k (some_chosen chosen k (is_index.within name k e)) e)

-- ---- the order

ranks_apart : (a b : List ℕ) → bytes_eq a b ≡ false → is_lt (slice_cmp nat_cmp b a) ≡ false → slice_cmp nat_cmp a b ≡ Less
ranks_apart a b apart upto = by (slice_cmp nat_cmp a b) refl
  where
    by : (o : Ordering) → slice_cmp nat_cmp a b ≡ o → slice_cmp nat_cmp a b ≡ Less
    by Less e = e
    by Equal e = absurd (let t : bytes_eq a b ≡ true = sym (is_eq-slice_cmp a b) ∙ ap is_eq e in let g : true ≡ false = sym t ∙ apart in cc)
    by Greater e = absurd (let t : slice_cmp nat_cmp b a ≡ Less = nat_list_cmp_total.antisymm b a ∙ ap ordering_reverse e in let g : true ≡ false = sym (ap is_lt t) ∙ upto in cc)

rises_by : (ns : List (List ℕ)) (i s : ℕ) (d : List ℕ) → IsDistinct bytes_eq ns → IsSortedBy (λ a b. is_lt (slice_cmp nat_cmp a b)) ns → i + s + 1 < length ns → slice_cmp nat_cmp (get_or ns i d) (get_or ns (i + s + 1) d) ≡ Less
rises_by ns i zero d apart sorted low =
    let e : i + 0 + 1 ≡ i + 1 = omega arith in
    rw e (ranks_apart (get_or ns i d) (get_or ns (i + 1) d) (apart_from_distinct bytes_eq ns i (i + 1) d apart (omega arith) (omega (arith, low))) (sorted i d (omega arith) (omega (arith, low))))
rises_by ns i (suc s) d apart sorted low =
    let e : i + suc s + 1 ≡ i + s + 1 + 1 = omega arith in
    let first : slice_cmp nat_cmp (get_or ns i d) (get_or ns (i + s + 1) d) ≡ Less = rises_by ns i s d apart sorted (omega (arith, low)) in
    let second : slice_cmp nat_cmp (get_or ns (i + s + 1) d) (get_or ns (i + s + 1 + 1) d) ≡ Less =
    ranks_apart (get_or ns (i + s + 1) d) (get_or ns (i + s + 1 + 1) d) (apart_from_distinct bytes_eq ns (i + s + 1) (i + s + 1 + 1) d apart (omega arith) (omega (arith, low))) (sorted (i + s + 1) d (omega arith) (omega (arith, low))) in
    rw e (nat_list_cmp_total.trans (get_or ns i d) (get_or ns (i + s + 1) d) (get_or ns (i + s + 1 + 1) d) first second)

names_rise : (ns : List (List ℕ)) (i j : ℕ) (d : List ℕ) → IsDistinct bytes_eq ns → IsSortedBy (λ a b. is_lt (slice_cmp nat_cmp a b)) ns → i < j → j < length ns → slice_cmp nat_cmp (get_or ns i d) (get_or ns j d) ≡ Less
names_rise ns i j d apart sorted less within =
    let e : i + (j - (i + 1)) + 1 ≡ j = omega (arith, less) in
    subst (λ (k : ℕ). slice_cmp nat_cmp (get_or ns i d) (get_or ns k d) ≡ Less) e (rises_by ns i (j - (i + 1)) d apart sorted (omega (arith, less, within)))

get_mapped : {X Y : Type 0} (f : X → Y) (xs : List X) (k : ℕ) (d : X) (e : Y) → k < length xs → get_or (map f xs) k e ≡ f (get_or xs k d)
get_mapped f [] k d e low = absurd (omega (arith, low))
get_mapped f (x ∷ xs) zero d e low = refl
get_mapped f (x ∷ xs) (suc k) d e low = get_mapped f xs k d e (omega (arith, low))

sorted_names : (chosen : List Chosen) → IsSortedBy (λ (a : Chosen) (b : Chosen). is_lt (slice_cmp nat_cmp (chosen_name a) (chosen_name b))) chosen → IsSortedBy (λ a b. is_lt (slice_cmp nat_cmp a b)) (map chosen_name chosen)
sorted_names [] sorted = λ k d from low. absurd (omega (arith, low))
sorted_names (c ∷ cs) sorted = λ k d from low.
    let within : k + 1 < length (c ∷ cs) = omega (arith, low, length-map (c ∷ cs) chosen_name) in
    rw (get_mapped chosen_name (c ∷ cs) (k + 1) c d within, get_mapped chosen_name (c ∷ cs) k c d (omega (arith, within))) (sorted k c from within)

all_kept : (P : List ℕ → Type 0) (files : List LoadedFile) (fs : List FoundIn) (names : List (List ℕ)) → AllByRecursion P names → AllByRecursion P (map chosen_name (filter_map (chosen_for files fs) names))
all_kept P files fs [] all = tt
all_kept P files fs (n ∷ names) all = by (all_kept P files fs names all.1) (chosen_for files fs n) refl
  where
    by : AllByRecursion P (map chosen_name (filter_map (chosen_for files fs) names)) → (o : Option Chosen) → chosen_for files fs n ≡ o → AllByRecursion P (map chosen_name (filter_map (chosen_for files fs) (n ∷ names)))
    by rest None e = rw e rest
    by rest (Some c) e = rw e (subst P (sym ((chosen_named files fs n c e).0)) all.0, rest)

all_of : (a b : List ℕ) (ns : List (List ℕ)) → a ≡ b → AllByRecursion (λ n. bytes_eq b n ≡ false) ns → AllByRecursion (λ n. bytes_eq a n ≡ false) ns
all_of a b ns e all = subst (λ (x : List ℕ). AllByRecursion (λ n. bytes_eq x n ≡ false) ns) (sym e) all

distinct_kept : (files : List LoadedFile) (fs : List FoundIn) (names : List (List ℕ)) → IsDistinct bytes_eq names → IsDistinct bytes_eq (map chosen_name (filter_map (chosen_for files fs) names))
unfolding IsDistinct
distinct_kept files fs [] apart = tt
distinct_kept files fs (n ∷ names) apart = by (distinct_kept files fs names apart.1) (chosen_for files fs n) refl
  where
    by : IsDistinct bytes_eq (map chosen_name (filter_map (chosen_for files fs) names)) → (o : Option Chosen) → chosen_for files fs n ≡ o → IsDistinct bytes_eq (map chosen_name (filter_map (chosen_for files fs) (n ∷ names)))
    by rest None e = rw e rest
    by rest (Some c) e = rw e (all_of (chosen_name c) n (map chosen_name (filter_map (chosen_for files fs) names)) ((chosen_named files fs n c e).0) (all_kept (λ m. bytes_eq n m ≡ false) files fs names apart.0), rest)

flips : (a b : List ℕ) → bytes_eq a b ≡ bytes_eq b a
flips a b = sym (turned b a (bytes_eq a b) refl)

list_names : (command : Command) (list : List Winner) (chosen : List Chosen) → map Some list ≡ map (winner_chosen command) chosen → map (λ (w : Winner). w.name) list ≡ map chosen_name chosen
list_names command [] [] is = refl
list_names command [] (c ∷ cs) is = cc
list_names command (w ∷ ws) [] is = cc
list_names command (w ∷ ws) (c ∷ cs) is =
    let first : Some w ≡ winner_chosen command c = cc in
    let rest : map Some ws ≡ map (winner_chosen command) cs = cc in
    let name : w.name ≡ chosen_name c = winner_name command c w first in
    let names : map (λ (x : Winner). x.name) ws ≡ map chosen_name cs = list_names command ws cs rest in
    rw (name, names) refl

pub rising : (command : Command) (files : List LoadedFile) (names : List (List ℕ)) (fs : List FoundIn) (chosen : List Chosen) (list : List Winner) → AreThose files names fs chosen → IsDistinct bytes_eq names → IsSortedBy (λ (a : Chosen) (b : Chosen). is_lt (slice_cmp nat_cmp (chosen_name a) (chosen_name b))) chosen → map Some list ≡ map (winner_chosen command) chosen → AllPairs (λ a b. slice_cmp nat_cmp a.name b.name ≡ Less) list
rising command files names fs chosen list those apart sorted is i j d less within =
    let same : map (λ (w : Winner). w.name) list ≡ map chosen_name chosen = list_names command list chosen is in
    let one : IsDistinct bytes_eq (map chosen_name chosen) =
    IsDistinct-IsPermutation bytes_eq flips (map chosen_name (filter_map (chosen_for files fs) names)) (map chosen_name chosen) (IsPermutation-map chosen_name (filter_map (chosen_for files fs) names) chosen those.order) (distinct_kept files fs names apart) in
    let two : IsDistinct bytes_eq (map (λ (w : Winner). w.name) list) = subst (λ (ns : List (List ℕ)). IsDistinct bytes_eq ns) (sym same) one in
    let three : IsSortedBy (λ a b. is_lt (slice_cmp nat_cmp a b)) (map (λ (w : Winner). w.name) list) = subst (λ (ns : List (List ℕ)). IsSortedBy (λ a b. is_lt (slice_cmp nat_cmp a b)) ns) (sym same) (sorted_names chosen sorted) in
    rw (sym (get_mapped (λ (w : Winner). w.name) list i d [] (omega (arith, less, within))), sym (get_mapped (λ (w : Winner). w.name) list j d [] within))
    (names_rise (map (λ (w : Winner). w.name) list) i j [] two three less (omega (arith, within, length-map list (λ (w : Winner). w.name))))

pub chosen_stand : (files : List LoadedFile) (names : List (List ℕ)) (fs : List FoundIn) (chosen : List Chosen) → AreThose files names fs chosen → AreCandidates fs → AreChosen chosen
chosen_stand files names fs chosen those all = each chosen (λ c h. h)
  where
    of_found : (f : FoundIn) → In f fs → IsCandidateOf (found_of f)
    of_found f h = all_in (λ (g : FoundIn). IsCandidateOf (found_of g)) fs f all h

    one : (c : Chosen) → In c chosen → IsCandidateOf (found_of c.found)
    one c h = of_found c.found ((chosen_named files fs (chosen_name c) c (chosen_is files names fs chosen c those h)).1)

    each : (cs : List Chosen) → ((c : Chosen) → In c cs → In c chosen) → AreChosen cs
    each [] within = tt
    each (c ∷ cs) within = (one c (within c (inl refl)), each cs (λ x h. within x (inr h)))

-- ---- the numbers of the chosen ones' names

listed : (names : List (List ℕ)) (f : FoundIn) → IsNumbered names f → In (held_name f) names → IsListed names f
unfolding number_of
listed names f is there = by (position (bytes_eq (held_name f)) names) refl
  where
    by : (at : Option ℕ) → position (bytes_eq (held_name f)) names ≡ at → IsListed names f
    by None e = absurd (let t : bytes_eq (held_name f) (held_name f) ≡ false = all_in (λ (n : List ℕ). bytes_eq (held_name f) n ≡ false) names (held_name f) (no_position (bytes_eq (held_name f)) names e) there in let g : true ≡ false = sym ((bytes_eq-Decides (held_name f) (held_name f)).1 refl) ∙ t in cc)
    by (Some id) e =
        let p : (id < length names) × (bytes_eq (held_name f) (get_or names id []) ≡ true) × ((k : ℕ) → k < id → bytes_eq (held_name f) (get_or names k []) ≡ false) = position-Some (bytes_eq (held_name f)) names id [] e in
        let number : f.number ≡ id = is.number_is ∙ rw (is.external, e) refl in
        record { listed = rw number (slice_get-get_or names id [] p.0 ∙ ap Some (sym ((bytes_eq-Decides (held_name f) (get_or names id [])).0 p.1))) }

pub chosen_listed : (files : List LoadedFile) (names : List (List ℕ)) (fs : List FoundIn) (chosen : List Chosen) → AreThose files names fs chosen → AreNumbered names fs → AllByRecursion (λ (c : Chosen). IsListed names c.found) chosen
chosen_listed files names fs chosen those all = each chosen (λ c h. h)
  where
    one : (c : Chosen) → In c chosen → IsListed names c.found
    one c h =
        let there : In c.found fs = (chosen_named files fs (chosen_name c) c (chosen_is files names fs chosen c those h)).1 in
        listed names c.found (all_in (IsNumbered names) fs c.found all there) (name_there files names fs c.found those.named those.held there)

    each : (cs : List Chosen) → ((c : Chosen) → In c cs → In c chosen) → AllByRecursion (λ (c : Chosen). IsListed names c.found) cs
    each [] within = tt
    each (c ∷ cs) within = (one c (within c (inl refl)), each cs (λ x h. within x (inr h)))

pub listed_at : (names : List (List ℕ)) (chosen : List Chosen) (i : ℕ) (one d : Chosen) → AllByRecursion (λ (c : Chosen). IsListed names c.found) chosen → i < length chosen → one ≡ get_or chosen i d → slice_get names one.found.number ≡ Some (chosen_name one)
listed_at names chosen i one d all low is = rw is (at chosen i all low).listed
  where
    at : (cs : List Chosen) (k : ℕ) → AllByRecursion (λ (c : Chosen). IsListed names c.found) cs → k < length cs → IsListed names (get_or cs k d).found
    at [] k all low = absurd (omega (arith, low))
    at (c ∷ cs) zero all low = all.0
    at (c ∷ cs) (suc k) all low = at cs k all.1 (omega (arith, low))
