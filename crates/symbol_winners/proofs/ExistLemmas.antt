-- Files have winners, and a least duplicate or none.
use Rattle.std.proofs.Common.{◌≡◌, ℕ, zero, suc, ◌+◌, ◌<◌, ◌==◌, ◌⊎◌, Bool, true, false, ◌&&◌, not, List, [], ◌∷◌, length, map, filter, slice_get, get_or, Contains, refl, sym, ap, subst, ◌∙◌, inl, inr, arith, Some, None}
use Rattle.std.specs.Prelude.{Option, IsSome, All}
use Rattle.std.specs.List.{AllByRecursion, AllPairs, cons_option, filter_map, find, flat_map, list_any}
use Rattle.std.specs.List.Sorted.{IsStrictlySortedBy}
use Rattle.std.specs.Option.{option_and_then, option_map}
use Rattle.std.specs.declared.cmp.Ordering.{Ordering}
use Rattle.std.specs.declared.cmp.Ordering.TheVariants.{Less, Equal, Greater}
use Rattle.std.specs.Ordering.{is_eq, is_gt, nat_cmp, on, ordering_reverse}
use Rattle.std.specs.Cmp.Lexicographic.{slice_cmp}
use Rattle.std.specs.Str.{bytes_eq}
use Rattle.std.proofs.lemmas.Bool.{cases_Bool}
use Rattle.std.proofs.lemmas.Cmp.{nat_list_cmp_total, tied_itself, upto}
use Rattle.std.proofs.lemmas.List.Elements.{All-contains}
use Rattle.std.proofs.lemmas.Map.Text.{is_eq-slice_cmp}
use Rattle.std.proofs.lemmas.Slice.Eq.{bytes_eq-Decides}
use Rattle.list_lemmas.proofs.Members.{In, Contains_from_in, all_from_in, all_in, any_from_in, any_true, find_some, from_filter, from_filter_map, in_filter, in_flat, in_from_Contains, in_map}
use Rattle.list_lemmas.proofs.Rising.{rising_at}
use Rattle.sort_lemmas.proofs.Sorting.{rising_exists}
use Rattle.command_line.specs.declared.command.Command.{Command}
use Rattle.mo_types.specs.Candidates.{Candidate, candidates, candidates_for, least}
use Rattle.mo_types.specs.declared.key.FileId.{FileId}
use Rattle.mo_types.specs.declared.loaded.LoadedFile.{LoadedFile}
use Rattle.mo_types.specs.declared.object.Symbol.{Symbol}
use Rattle.literal_merge.specs.Representatives.{representatives_of}
use Rattle.symbol_winners.specs.Duplicates.{IsDuplicate, duplicate_of, first_two, is_strong, strong_for}
use Rattle.symbol_winners.specs.Found.{AreNamed, FileCandidate, found, found_for}
use Rattle.symbol_winners.specs.Places.{place_of}
use Rattle.symbol_winners.specs.SymbolTable.{IsSymbolTable, SymbolTable, any_symbol, is_strong_to, is_weak, is_weak_to, refers_weakly}
use Rattle.symbol_winners.specs.Winners.{AreWinners, found_word, greatest_align, greatest_size, is_exported, lists, winner_at, winner_by, winner_from, winner_named, winner_of, winning}
use Rattle.symbol_winners.specs.declared.places.Place.{Place}
use Rattle.symbol_winners.specs.declared.winner.Winner.{Winner}

abbrev text_cmp : List ℕ → List ℕ → Ordering
text_cmp a b = slice_cmp nat_cmp a b

same_name : (a b : List ℕ) → bytes_eq a b ≡ true → a ≡ b
same_name a b e = (bytes_eq-Decides a b).0 e

itself : (name : List ℕ) → bytes_eq name name ≡ true
itself name = (bytes_eq-Decides name name).1 refl

tied_names : (a b : List ℕ) → text_cmp a b ≡ Equal → a ≡ b
tied_names a b e = same_name a b (sym (is_eq-slice_cmp a b) ∙ ap is_eq e)

some_is : {X : Type 0} (x y : X) → Some x ≡ Some y → x ≡ y
some_is x y e = cc

no_some : {X Y : Type 0} (x : X) → None ≡ Some x → Y
no_some x e = absurd cc

-- ---- the winner of a name has the name, and is a candidate's

from_winner : (exported : Bool) (size align : ℕ) (f : FileCandidate) (o : Option Place) (winner : Winner) → option_map (winner_at exported size align f) o ≡ Some winner → winner.name ≡ f.symbol.name
from_winner exported size align f None winner e = no_some winner e
from_winner exported size align f (Some place) winner e = sym (ap (λ (w : Winner). w.name) (some_is (winner_at exported size align f place) winner e))

record IsNamedSo (files : List LoadedFile) (name : List ℕ) (winner : Winner) : Type 0 where
  pub same : winner.name ≡ name
  pub there : In name (map (λ (f : FileCandidate). f.symbol.name) (found files))

winner_named_so : (command : Command) (files : List LoadedFile) (name : List ℕ) (winner : Winner) → winner_of command files name ≡ Some winner → IsNamedSo files name winner
unfolding winner_of winning found_for
winner_named_so command files name winner is = by (winning files name) refl is
  where
    by : (o : Option FileCandidate) → winning files name ≡ o → option_and_then (winner_from command (found_for files name)) o ≡ Some winner → IsNamedSo files name winner
    by None e h = no_some winner h
    by (Some f) e h =
        let passed = find_some (λ (g : FileCandidate). found_word g == least files name) (found_for files name) f e in
        let there = from_filter (λ (g : FileCandidate). bytes_eq name g.symbol.name) (found files) f passed.0 in
        let one : name ≡ f.symbol.name = same_name name f.symbol.name there.1 in
        record {
          same = from_winner (is_exported command f.symbol) (greatest_size (found_for files name)) (greatest_align (found_for files name)) f (place_of f.file f.index f.symbol.kind) winner h ∙ sym one;
          there = subst (λ (n : List ℕ). In n (map (λ (g : FileCandidate). g.symbol.name) (found files))) (sym one) (in_map (λ (g : FileCandidate). g.symbol.name) (found files) f there.0);
        }

-- ---- what a function of names gives, by rising name

-- each of some names is looked up
find_made : (g : List ℕ → Option Winner) → ((n : List ℕ) (w : Winner) → g n ≡ Some w → w.name ≡ n) → (names : List (List ℕ)) (name : List ℕ) → In name names ⊎ (g name ≡ None) → winner_named (filter_map g names) name ≡ g name
find_made g named [] name (inl h) = absurd h
find_made g named [] name (inr none) = sym none
find_made g named (n ∷ names) name where_is = by (find_made g named names name) (g n) refl where_is
  where
    passes : (winner : Winner) → g n ≡ Some winner → (In name names ⊎ (g name ≡ None) → winner_named (filter_map g names) name ≡ g name) → In name (n ∷ names) ⊎ (g name ≡ None) → (b : Bool) → bytes_eq name winner.name ≡ b → winner_named (winner ∷ filter_map g names) name ≡ g name
    passes winner e rest there true t =
        let same : name ≡ n = same_name name winner.name t ∙ named n winner e in
        rw t (sym e ∙ ap g (sym same))
    passes winner e rest (inl (inl same)) false t = absurd (let both : true ≡ false = sym (itself name) ∙ ap (bytes_eq name) (sym same ∙ sym (named n winner e)) ∙ t in cc)
    passes winner e rest (inl (inr h)) false t = rw t (rest (inl h))
    passes winner e rest (inr none) false t = rw t (rest (inr none))

    skips : g n ≡ None → (In name names ⊎ (g name ≡ None) → winner_named (filter_map g names) name ≡ g name) → In name (n ∷ names) ⊎ (g name ≡ None) → winner_named (filter_map g names) name ≡ g name
    skips e rest (inl (inl same)) = rest (inr (ap g (sym same) ∙ e))
    skips e rest (inl (inr h)) = rest (inl h)
    skips e rest (inr none) = rest (inr none)

    by : (In name names ⊎ (g name ≡ None) → winner_named (filter_map g names) name ≡ g name) → (o : Option Winner) → g n ≡ o → In name (n ∷ names) ⊎ (g name ≡ None) → winner_named (filter_map g (n ∷ names)) name ≡ g name
    by rest None e there = rw e (skips e rest there)
    by rest (Some winner) e there = rw e (passes winner e rest there (bytes_eq name winner.name) refl)

rising_made : (g : List ℕ → Option Winner) → ((n : List ℕ) (w : Winner) → g n ≡ Some w → w.name ≡ n) → (names : List (List ℕ)) → IsStrictlySortedBy text_cmp names → IsStrictlySortedBy (on (λ (w : Winner). w.name) text_cmp) (filter_map g names)
unfolding IsStrictlySortedBy
rising_made g named [] rises = tt
rising_made g named (n ∷ names) rises = by (rising_made g named names rises.1) (g n) refl
  where
    below : (winner : Winner) → g n ≡ Some winner → (other : Winner) → In other (filter_map g names) → text_cmp winner.name other.name ≡ Less
    below winner e other h =
        let from = from_filter_map g names other h in
        let first : winner.name ≡ n = named n winner e in
        let second : other.name ≡ from.0 = named from.0 other from.2 in
        rw (first, second) (all_in (λ (m : List ℕ). text_cmp n m ≡ Less) names from.0 rises.0 from.1)

    by : IsStrictlySortedBy (on (λ (w : Winner). w.name) text_cmp) (filter_map g names) → (o : Option Winner) → g n ≡ o → IsStrictlySortedBy (on (λ (w : Winner). w.name) text_cmp) (filter_map g (n ∷ names))
    by rest None e = rw e rest
    by rest (Some winner) e = rw e (all_from_in (λ (other : Winner). text_cmp winner.name other.name ≡ Less) (filter_map g names) (below winner e), rest)

abbrev candidate_names : List LoadedFile → List (List ℕ)
candidate_names files = map (λ (f : FileCandidate). f.symbol.name) (found files)

pub winners_exist : (command : Command) (files : List LoadedFile) → (winners : List Winner) × AreWinners command files winners
winners_exist command files =
    let rising = rising_exists nat_list_cmp_total tied_names (candidate_names files) in
    let named : (n : List ℕ) (w : Winner) → winner_of command files n ≡ Some w → w.name ≡ n = λ n w e. (winner_named_so command files n w e).same in
    let rises = rising_made (winner_of command files) named rising.0 rising.1 in (
      filter_map (winner_of command files) rising.0,
      record {
        rising = λ i j d low high. rising_at (on (λ (w : Winner). w.name) text_cmp) (filter_map (winner_of command files) rising.0) i j d rises low high;
        each = λ name. find_made (winner_of command files) named rising.0 name (there rising.0 rising.2 name (winner_of command files name) refl);
      },
    )
  where
    there : (names : List (List ℕ)) → ((x : List ℕ) → Contains (candidate_names files) x → Contains names x) → (name : List ℕ) (o : Option Winner) → winner_of command files name ≡ o → In name names ⊎ (winner_of command files name ≡ None)
    there names all name None e = inr e
    there names all name (Some winner) e = inl (in_from_Contains names name (all name (Contains_from_in (candidate_names files) name (winner_named_so command files name winner e).there)))

-- ---- names that pass a test

same_answer : (a b : Bool) → (a ≡ true → b ≡ true) → (b ≡ true → a ≡ true) → a ≡ b
same_answer true true f g = refl
same_answer true false f g = sym (f refl)
same_answer false true f g = g refl
same_answer false false f g = refl

lists_those : (test : List ℕ → Bool) (names : List (List ℕ)) → ((name : List ℕ) → test name ≡ true → In name names) → (name : List ℕ) → lists (filter test names) name ≡ test name
lists_those test names all name = same_answer (lists (filter test names) name) (test name) to from
  where
    to : lists (filter test names) name ≡ true → test name ≡ true
    to e =
        let hit = any_true (bytes_eq name) (filter test names) e in
        let passed = from_filter test names hit.0 hit.1 in
        ap test (same_name name hit.0 hit.2) ∙ passed.1

    from : test name ≡ true → lists (filter test names) name ≡ true
    from e = any_from_in (bytes_eq name) (filter test names) name (in_filter test names name (all name e) e) (itself name)

abbrev symbol_names : List LoadedFile → List (List ℕ)
symbol_names files = flat_map (λ (file : LoadedFile). map (λ (symbol : Symbol). symbol.name) file.object.symbols) files

both_first : (a b : Bool) → (a && b) ≡ true → a ≡ true
both_first true b e = refl
both_first false b e = cc

both_second : (a b : Bool) → (a && b) ≡ true → b ≡ true
both_second true b e = e
both_second false b e = absurd cc

weak_there : (files : List LoadedFile) (name : List ℕ) → is_weak files name ≡ true → In name (symbol_names files)
unfolding is_weak any_symbol
weak_there files name e =
    let hit = any_true (λ (file : LoadedFile). list_any (is_weak_to name) file.object.symbols) files (both_first (any_symbol (is_weak_to name) files) (not (any_symbol (is_strong_to name) files)) e) in
    let one = any_true (is_weak_to name) hit.0.object.symbols hit.2 in
    let same : name ≡ one.0.name = same_name name one.0.name (both_second (refers_weakly one.0) (bytes_eq name one.0.name) one.2) in
    in_flat (λ (file : LoadedFile). map (λ (symbol : Symbol). symbol.name) file.object.symbols) files hit.0 name hit.1
    (subst (λ (n : List ℕ). In n (map (λ (symbol : Symbol). symbol.name) hit.0.object.symbols)) (sym same) (in_map (λ (symbol : Symbol). symbol.name) hit.0.object.symbols one.0 one.1))

pub table_exists : (command : Command) (files : List LoadedFile) → (symbols : SymbolTable) × IsSymbolTable command files symbols
table_exists command files =
    let winners = winners_exist command files in (
      record { winners = winners.0; literals = representatives_of files; weak = filter (is_weak files) (symbol_names files); flats = command.flats; names = [] },
      record { winners = winners.1; literals = refl; weak = lists_those (is_weak files) (symbol_names files) (weak_there files); flats = λ name. refl },
    )

-- ---- the least name with two strong definitions

-- the first number of the least name of some that a function answers
record IsLeastOf (dup : List ℕ → Option (FileId × FileId)) (names : List (List ℕ)) : Type 0 where
  pub id : ℕ
  pub name : List ℕ
  pub pair : FileId × FileId
  pub numbered : slice_get names id ≡ Some name
  pub twice : dup name ≡ Some pair
  pub least : (other : List ℕ) → In other names → IsSome (dup other) → is_gt (text_cmp name other) ≡ false

not_some : {X : Type 0} (o : Option X) → o ≡ None → IsSome o → ⊥
not_some None e some = cc
not_some (Some x) e some = cc

not_after : (a b : List ℕ) → is_gt (text_cmp a b) ≡ true → is_gt (text_cmp b a) ≡ false
not_after a b e = ap is_gt (nat_list_cmp_total.antisymm b a) ∙ by (text_cmp a b) e
  where
    by : (o : Ordering) → is_gt o ≡ true → is_gt (ordering_reverse o) ≡ false
    by Less f = sym f
    by Equal f = refl
    by Greater f = refl

not_after_itself : (a : List ℕ) → is_gt (text_cmp a a) ≡ false
not_after_itself a = ap is_gt (tied_itself nat_list_cmp_total a)

least_of : (dup : List ℕ → Option (FileId × FileId)) (names : List (List ℕ)) → IsLeastOf dup names ⊎ ((name : List ℕ) → In name names → dup name ≡ None)
least_of dup [] = inr (λ name h. absurd h)
least_of dup (n ∷ names) = by (least_of dup names) (dup n) refl
  where
    later : (l : IsLeastOf dup names) → (dup n ≡ None) ⊎ (is_gt (text_cmp n l.name) ≡ true) → IsLeastOf dup (n ∷ names)
    later l why = record { id = suc l.id; name = l.name; pair = l.pair; numbered = l.numbered; twice = l.twice; least = each }
      where
        first : (dup n ≡ None) ⊎ (is_gt (text_cmp n l.name) ≡ true) → IsSome (dup n) → is_gt (text_cmp l.name n) ≡ false
        first (inl none) some = absurd (not_some (dup n) none some)
        first (inr greater) some = not_after n l.name greater

        each : (other : List ℕ) → In other (n ∷ names) → IsSome (dup other) → is_gt (text_cmp l.name other) ≡ false
        each other (inl e) some = subst (λ (m : List ℕ). is_gt (text_cmp l.name m) ≡ false) e (first why (subst (λ (m : List ℕ). IsSome (dup m)) (sym e) some))
        each other (inr h) some = l.least other h some

    here : (pair : FileId × FileId) → dup n ≡ Some pair → ((other : List ℕ) → In other names → IsSome (dup other) → is_gt (text_cmp n other) ≡ false) → IsLeastOf dup (n ∷ names)
    here pair e rest = record { id = 0; name = n; pair = pair; numbered = refl; twice = e; least = each }
      where
        each : (other : List ℕ) → In other (n ∷ names) → IsSome (dup other) → is_gt (text_cmp n other) ≡ false
        each other (inl same) some = subst (λ (m : List ℕ). is_gt (text_cmp n m) ≡ false) same (not_after_itself n)
        each other (inr h) some = rest other h some

    against : (pair : FileId × FileId) → dup n ≡ Some pair → (l : IsLeastOf dup names) → (b : Bool) → is_gt (text_cmp n l.name) ≡ b → IsLeastOf dup (n ∷ names)
    against pair e l true greater = later l (inr greater)
    against pair e l false upper = here pair e (λ other h some. upto nat_list_cmp_total n l.name other upper (l.least other h some))

    by : IsLeastOf dup names ⊎ ((name : List ℕ) → In name names → dup name ≡ None) → (o : Option (FileId × FileId)) → dup n ≡ o → IsLeastOf dup (n ∷ names) ⊎ ((name : List ℕ) → In name (n ∷ names) → dup name ≡ None)
    by (inl l) None e = inl (later l (inl e))
    by (inr none) None e = inr each
      where
        each : (name : List ℕ) → In name (n ∷ names) → dup name ≡ None
        each name (inl same) = ap dup (sym same) ∙ e
        each name (inr h) = none name h
    by (inl l) (Some pair) e = inl (against pair e l (is_gt (text_cmp n l.name)) refl)
    by (inr none) (Some pair) e = inl (here pair e (λ other h some. absurd (not_some (dup other) (none other h) some)))

-- a name with strong definitions is among the names
twice_there : (files : List LoadedFile) (names : List (List ℕ)) (name : List ℕ) → AreNamed names files → IsSome (duplicate_of files name) → In name names
unfolding duplicate_of strong_for candidates_for
twice_there files names name named some = by (strong_for files name) (λ c h. h) some
  where
    by : (cs : List Candidate) → ((c : Candidate) → In c cs → In c (strong_for files name)) → IsSome (first_two cs) → In name names
    by [] among one = absurd (not_some (first_two []) refl one)
    by (c ∷ cs) among one =
        let strong = from_filter is_strong (candidates_for files name) c (among c (inl refl)) in
        let there = from_filter (λ (d : Candidate). bytes_eq name d.symbol.name) (candidates files) c strong.0 in
        let listed : Contains names c.symbol.name = All-contains (λ (d : Candidate). Contains names d.symbol.name) (candidates files) c named (Contains_from_in (candidates files) c there.0) in
        subst (λ (m : List ℕ). In m names) (sym (same_name name c.symbol.name there.1)) (in_from_Contains names c.symbol.name listed)

none_if : {X : Type 0} (o : Option X) → (IsSome o → ⊥) → o ≡ None
none_if None never = refl
none_if (Some x) never = absurd (never refl)

pub duplicate_exists : (files : List LoadedFile) (names : List (List ℕ)) → AreNamed names files → (found : Option (ℕ × FileId × FileId)) × IsDuplicate files names found
duplicate_exists files names named = by (least_of (duplicate_of files) names)
  where
    by : IsLeastOf (duplicate_of files) names ⊎ ((name : List ℕ) → In name names → duplicate_of files name ≡ None) → (found : Option (ℕ × FileId × FileId)) × IsDuplicate files names found
    by (inl l) = (
      Some (l.id, l.pair.0, l.pair.1),
      record { name = l.name; numbered = l.numbered; twice = l.twice; least = λ other some. l.least other (twice_there files names other named some) some },
    )
    by (inr none) = (None, (λ name. none_if (duplicate_of files name) (λ some. not_some (duplicate_of files name) (none name (twice_there files names name named some)) some)))
