-- Which kept atom is the first to refer to a name that leads nowhere.
use Rattle.std.proofs.Common.{◌≡◌, ℕ, zero, suc, ◌+◌, ◌<◌, ◌&&◌, ◌⊎◌, Bool, true, false, List, [], ◌∷◌, ◌++◌, map, Option, Some, None, inl, inr, refl, sym, ap, ◌∙◌, subst, arith, if◌then◌else◌}
use Rattle.std.specs.Prelude.{slice_get}
use Rattle.std.specs.Cmp.Lexicographic.{slice_cmp}
use Rattle.std.specs.List.{AllByRecursion, enumerate_from, filter_map, find, flat_map}
use Rattle.std.specs.Option.{option_and_then, option_map}
use Rattle.std.specs.Ordering.{is_eq, is_lt, nat_cmp, ordering_reverse}
use Rattle.std.specs.Str.{bytes_eq}
use Rattle.std.specs.declared.cmp.Ordering.{Ordering}
use Rattle.std.specs.declared.cmp.Ordering.TheVariants.{Less, Equal, Greater}
use Rattle.std.proofs.lemmas.Bool.{cases_lt, false≢true}
use Rattle.std.proofs.lemmas.Cmp.{nat_list_cmp_total, tied_itself}
use Rattle.std.proofs.lemmas.Map.Text.{is_eq-slice_cmp}
use Rattle.std.proofs.lemmas.Option.{slice_get-map}
use Rattle.std.proofs.lemmas.Slice.Eq.{bytes_eq-Decides}
use Rattle.command_line.specs.declared.command.Command.{Command}
use Rattle.lib_bind.specs.Provides.{provider_of}
use Rattle.lib_bind.specs.declared.library.LibraryGraph.{LibraryGraph}
use Rattle.lib_bind.specs.declared.provider.Provider.{Provider}
use Rattle.list_lemmas.proofs.Members.{Contains_from_in, In, all_in, find_none, find_some, from_filter, from_filter_map, from_flat, from_map, in_either, in_filter, in_filter_map, in_flat, in_from_Contains, in_left, in_map, in_right}
use Rattle.literal_merge.specs.Representatives.{representatives_of}
use Rattle.liveness.specs.Undefined.{IsFirstLeast, is_nobody, kept_refs, kept_unwinds, least, lost, lost_at, lost_in, lost_name, lost_names, lost_personality, name_if, targets_of, undefined}
use Rattle.liveness.specs.Undefined as undefined_names
use Rattle.liveness.proofs.LeastLemmas.{least_none, least_some}
use Rattle.mark_core.specs.Kept.{has}
use Rattle.mo_types.specs.Scan.{first_some, option_or_else}
use Rattle.mo_types.specs.declared.goal.Goal.{Goal}
use Rattle.mo_types.specs.declared.key.AtomKey.{AtomKey}
use Rattle.mo_types.specs.declared.loaded.LoadedFile.{LoadedFile}
use Rattle.mo_types.specs.declared.object.Symbol.{Symbol}
use Rattle.mo_types.specs.declared.reference.Ref.{Ref}
use Rattle.mo_types.specs.declared.reference.Target.{Target}
use Rattle.mo_types.specs.declared.reference.Target.TheVariants.{Name, Local}
use Rattle.mo_types.specs.declared.unwind.Unwind.{Unwind}
use Rattle.resolve.specs.Goals.{goal_of_name, goal_of_symbol, goal_table, goals_of_symbols, is_flat, is_header_symbol, local_goal, name_goal, winner_goal}
use Rattle.symbol_winners.specs.Places.{place_of}
use Rattle.symbol_winners.specs.SymbolTable.{is_weak}
use Rattle.symbol_winners.specs.Winners.{winner_of}
use Rattle.symbol_winners.specs.declared.places.Place.{Place}
use Rattle.symbol_winners.specs.declared.winner.Winner.{Winner}
use Rattle.link_files.specs.Causes.{IsMissed, IsMissedIn}
use Rattle.link_files.specs.Lost.{is_lost, lost_wanted}
use Rattle.link_files.specs.Missing.{HasPersonality, HasReference, HoldsOfNone, IsFirstFile, IsWantedInVain, LeadsNowhere, Misses, StandsForNothing}
use Rattle.link_files.specs.Names.{wanted}
use Rattle.link_files.proofs.Lists.{from_then}

some_is : {X : Type 0} (x y : X) → Some x ≡ Some y → x ≡ y
some_is x y e = cc

no_some : {X Y : Type 0} (x : X) → None ≡ Some x → Y
no_some x e = absurd cc

same_name : (a b : List ℕ) → bytes_eq a b ≡ true → a ≡ b
same_name a b e = (bytes_eq-Decides a b).0 e

itself : (a : List ℕ) → bytes_eq a a ≡ true
itself a = (bytes_eq-Decides a a).1 refl

-- ---- the first file of which a search finds something

-- a search finds at a file what it holds of, and tells the file's label
abbrev Decides : (ℕ × LoadedFile → Option (List ℕ)) → (LoadedFile → Type 0) → ℕ → LoadedFile → Type 0
Decides f P at file = ((f (at, file) ≡ Some file.label) × P file) ⊎ ((f (at, file) ≡ None) × (P file → ⊥))

abbrev Searched : (ℕ × LoadedFile → Option (List ℕ)) → (LoadedFile → Type 0) → ℕ → List LoadedFile → Type 0
Searched f P n files =
    ((file : LoadedFile) × IsFirstFile P files file × (first_some f (enumerate_from n files) ≡ Some file.label))
    ⊎ (HoldsOfNone P files × (first_some f (enumerate_from n files) ≡ None))

searched : (f : ℕ × LoadedFile → Option (List ℕ)) (P : LoadedFile → Type 0) (n : ℕ) (files : List LoadedFile) → ((k : ℕ) (file : LoadedFile) → slice_get files k ≡ Some file → Decides f P (n + k) file) → Searched f P n files
searched f P n [] each = inr ((λ k file e h. no_some file e), refl)
searched f P n (file ∷ files) each =
    by (each 0 file refl) (searched f P (n + 1) files (λ k other e. let same : n + suc k ≡ n + 1 + k = omega arith in subst (λ (m : ℕ). Decides f P m other) same (each (suc k) other e)))
  where
    here : n + 0 ≡ n
    here = omega arith

    later : f (n, file) ≡ None → (P file → ⊥) → Searched f P (n + 1) files → Searched f P n (file ∷ files)
    later none away (inl (other, is, e)) = inl (other, record { at = suc is.at; there = is.there; holds = is.holds; first = first }, rw none e)
      where
        first : (k : ℕ) (one : LoadedFile) → k < suc is.at → slice_get (file ∷ files) k ≡ Some one → P one → ⊥
        first zero one low e h = away (subst P (sym (some_is file one e)) h)
        first (suc k) one low e h = is.first k one (omega arith) e h
    later none away (inr (of_none, e)) = inr (nothing, rw none e)
      where
        nothing : (k : ℕ) (one : LoadedFile) → slice_get (file ∷ files) k ≡ Some one → P one → ⊥
        nothing zero one e h = away (subst P (sym (some_is file one e)) h)
        nothing (suc k) one e h = of_none k one e h

    by : Decides f P (n + 0) file → Searched f P (n + 1) files → Searched f P n (file ∷ files)
    by (inl (found, h)) rest =
        let now : f (n, file) ≡ Some file.label = subst (λ (m : ℕ). f (m, file) ≡ Some file.label) here found in
        inl (file, record { at = 0; there = refl; holds = h; first = λ k one low e other. absurd (omega arith) }, rw now refl)
    by (inr (missed, away)) rest = later (subst (λ (m : ℕ). f (m, file) ≡ None) here missed) away rest

-- ---- where symbols lead

numbered_at : {X Y : Type 0} (f : ℕ × X → Y) (n : ℕ) (xs : List X) (k : ℕ) → slice_get (map f (enumerate_from n xs)) k ≡ option_map (λ x. f (n + k, x)) (slice_get xs k)
numbered_at f n [] k = refl
numbered_at f n (x ∷ xs) zero = let same : n ≡ n + 0 = omega arith in ap (λ (m : ℕ). Some (f (m, x))) same
numbered_at {X = X} f n (x ∷ xs) (suc k) =
    let same : n + 1 + k ≡ n + suc k = omega arith in
    numbered_at f (n + 1) xs k ∙ ap (λ (m : ℕ). option_map (λ (y : X). f (m, y)) (slice_get xs k)) same

symbol_goal : (files : List LoadedFile) (libs : LibraryGraph) (command : Command) (file : LoadedFile) (index : ℕ) → slice_get (goals_of_symbols files libs command file) index ≡ option_map (λ (s : Symbol). goal_of_symbol files libs command file (index, s)) (slice_get file.object.symbols index)
unfolding goals_of_symbols
symbol_goal files libs command file index =
    let same : 0 + index ≡ index = omega arith in
    numbered_at (goal_of_symbol files libs command file) 0 file.object.symbols index
    ∙ ap (λ (m : ℕ). option_map (λ (s : Symbol). goal_of_symbol files libs command file (m, s)) (slice_get file.object.symbols index)) same

table_at : (files : List LoadedFile) (libs : LibraryGraph) (command : Command) (k : ℕ) (file : LoadedFile) → slice_get files k ≡ Some file → slice_get (goal_table files libs command) k ≡ Some (goals_of_symbols files libs command file)
table_at files libs command k file e = slice_get-map (goals_of_symbols files libs command) files k ∙ ap (option_map (goals_of_symbols files libs command)) e

-- a goal that stands at an index is a symbol's
record IsGoalOf (files : List LoadedFile) (libs : LibraryGraph) (command : Command) (file : LoadedFile) (index : ℕ) (goal : Goal) : Type 0 where
  pub symbol : Symbol
  pub of_file : slice_get file.object.symbols index ≡ Some symbol
  pub is : goal_of_symbol files libs command file (index, symbol) ≡ goal

goal_of_file : (files : List LoadedFile) (libs : LibraryGraph) (command : Command) (file : LoadedFile) (index : ℕ) (goal : Goal) → slice_get (goals_of_symbols files libs command file) index ≡ Some goal → IsGoalOf files libs command file index goal
goal_of_file files libs command file index goal e = by (slice_get file.object.symbols index) refl (sym (symbol_goal files libs command file index) ∙ e)
  where
    by : (o : Option Symbol) → slice_get file.object.symbols index ≡ o → option_map (λ (s : Symbol). goal_of_symbol files libs command file (index, s)) (slice_get file.object.symbols index) ≡ Some goal → IsGoalOf files libs command file index goal
    by None f h = no_some goal (rw f at h)
    by (Some symbol) f h = record { symbol = symbol; of_file = f; is = some_is (goal_of_symbol files libs command file (index, symbol)) goal (rw f at h) }

goal_stands : (files : List LoadedFile) (libs : LibraryGraph) (command : Command) (file : LoadedFile) (index : ℕ) (symbol : Symbol) → slice_get file.object.symbols index ≡ Some symbol → slice_get (goals_of_symbols files libs command file) index ≡ Some (goal_of_symbol files libs command file (index, symbol))
goal_stands files libs command file index symbol e = symbol_goal files libs command file index ∙ ap (option_map (λ (s : Symbol). goal_of_symbol files libs command file (index, s))) e

-- ---- the first file

-- the first file is one
pub one_first : (P : LoadedFile → Type 0) (files : List LoadedFile) (a b : LoadedFile) → IsFirstFile P files a → IsFirstFile P files b → a ≡ b
one_first P files a b p q = elim (cases_lt p.at q.at) [
  | inl before ↦ absurd (q.first p.at a before p.there p.holds)
  | inr upto ↦ elim (cases_lt q.at p.at) [
    | inl after ↦ absurd (p.first q.at b after q.there q.holds)
    | inr down ↦ let same : p.at ≡ q.at = omega arith in some_is a b (sym p.there ∙ ap (slice_get files) same ∙ q.there)
  ]
]

-- ---- names that lead nowhere

nowhere : (command : Command) (libs : LibraryGraph) (files : List LoadedFile) (name : List ℕ) → is_nobody (goal_of_name files libs command name) ≡ true → LeadsNowhere command libs files name
unfolding goal_of_name
nowhere command libs files name e = by (winner_of command files name) refl (is_header_symbol command.dylib name) refl (provider_of libs name) refl (is_flat command name) refl e
  where
    by : (w : Option Winner) → winner_of command files name ≡ w → (h : Bool) → is_header_symbol command.dylib name ≡ h → (p : Option Provider) → provider_of libs name ≡ p → (f : Bool) → is_flat command name ≡ f
        → is_nobody (name_goal (representatives_of files) command.dylib (is_flat command name) (is_weak files name) name (provider_of libs name) (winner_of command files name)) ≡ true → LeadsNowhere command libs files name
    by (Some winner) a h b p c f d is = defined (winner.weak && winner.exported) refl (rw a at is)
      where
        defined : (t : Bool) → (winner.weak && winner.exported) ≡ t → is_nobody (winner_goal (representatives_of files) winner) ≡ true → LeadsNowhere command libs files name
        defined true g met = absurd (false≢true (rw g at met))
        defined false g met = absurd (false≢true (rw g at met))
    by None a true b p c f d is = absurd (false≢true (rw (a, b) at is))
    by None a false b (Some provider) c f d is = absurd (false≢true (rw (a, b, c) at is))
    by None a false b None c true d is = absurd (false≢true (rw (a, b, c, d) at is))
    by None a false b None c false d is = record { undefined = a; foreign = b; unprovided = c; bound = d }

nobody : (command : Command) (libs : LibraryGraph) (files : List LoadedFile) (name : List ℕ) → LeadsNowhere command libs files name → is_nobody (goal_of_name files libs command name) ≡ true
unfolding goal_of_name
nobody command libs files name is = rw (is.undefined, is.foreign, is.unprovided, is.bound) refl

for_nothing : (command : Command) (libs : LibraryGraph) (files : List LoadedFile) (file : LoadedFile) (index : ℕ) (symbol : Symbol) → is_nobody (goal_of_symbol files libs command file (index, symbol)) ≡ true → StandsForNothing command libs files file index symbol
unfolding goal_of_symbol
for_nothing command libs files file index symbol e = by symbol.external refl e
  where
    local : (place : Option Place) → place_of file index symbol.kind ≡ place → is_nobody (local_goal (representatives_of files) (place_of file index symbol.kind)) ≡ true → place_of file index symbol.kind ≡ None
    local None f is = f
    local (Some place) f is = absurd (false≢true (rw f at is))

    by : (b : Bool) → symbol.external ≡ b → is_nobody (if symbol.external then goal_of_name files libs command symbol.name else local_goal (representatives_of files) (place_of file index symbol.kind)) ≡ true → StandsForNothing command libs files file index symbol
    by true f is = inl (f, nowhere command libs files symbol.name (rw f at is))
    by false f is = inr (f, local (place_of file index symbol.kind) refl (rw f at is))

nothing_nobody : (command : Command) (libs : LibraryGraph) (files : List LoadedFile) (file : LoadedFile) (index : ℕ) (symbol : Symbol) → StandsForNothing command libs files file index symbol → is_nobody (goal_of_symbol files libs command file (index, symbol)) ≡ true
unfolding goal_of_symbol
nothing_nobody command libs files file index symbol (inl (external, is)) = rw external (nobody command libs files symbol.name is)
nothing_nobody command libs files file index symbol (inr (own, none)) = rw (own, none) refl

-- a file's kept atom misses a name just where the file's lost names have it
abbrev Named : List ℕ → List ℕ × List ℕ → Bool
Named name q = bytes_eq name q.0

-- what a kept atom refers to and has a lost name is missed
misses_by : (command : Command) (libs : LibraryGraph) (files : List LoadedFile) (keys : List AtomKey) (file : LoadedFile) (name : List ℕ) (target : Target) → HasReference keys file target ⊎ HasPersonality keys file target → lost_name file.object.symbols (goals_of_symbols files libs command file) target ≡ Some name → Misses command libs files keys name file
misses_by command libs files keys file name (Local atom offset) refers e = no_some name e
misses_by command libs files keys file name (Name index) refers e = goal (slice_get (goals_of_symbols files libs command file) index) refl
  where
    goal : (o : Option Goal) → slice_get (goals_of_symbols files libs command file) index ≡ o → Misses command libs files keys name file
    goal None f = no_some name (rw f at e)
    goal (Some g) f = tested (is_nobody g) refl
      where
        is : IsGoalOf files libs command file index g
        is = goal_of_file files libs command file index g f

        here : name_if g (slice_get file.object.symbols index) ≡ Some name
        here = rw f at e

        tested : (b : Bool) → is_nobody g ≡ b → Misses command libs files keys name file
        tested false t = no_some name (rw t at here)
        tested true t =
            let named : option_map (λ (s : Symbol). s.name) (slice_get file.object.symbols index) ≡ Some name = rw t at here in
            let called : is.symbol.name ≡ name = some_is is.symbol.name name (rw is.of_file at named) in
            record {
              index = index;
              symbol = is.symbol;
              refers = record { refers = refers; of_file = is.of_file };
              named = called;
              nothing = for_nothing command libs files file index is.symbol (ap is_nobody is.is ∙ t);
            }

misses_from : (command : Command) (libs : LibraryGraph) (files : List LoadedFile) (keys : List AtomKey) (file : LoadedFile) (q : List ℕ × List ℕ) → In q (lost_in keys file (goals_of_symbols files libs command file)) → (q.1 ≡ file.label) × Misses command libs files keys q.0 file
unfolding lost_in lost_names lost_personality kept_refs kept_unwinds
misses_from command libs files keys file q h =
    let of_name = from_map (λ (name : List ℕ). let p : List ℕ × List ℕ = (name, file.label) in p) (by_refs ++ by_unwinds) q h in
    let same : of_name.0 ≡ q.0 = ap (λ (p : List ℕ × List ℕ). p.0) of_name.2 in
    (ap (λ (p : List ℕ × List ℕ). p.1) (sym of_name.2), subst (λ (name : List ℕ). Misses command libs files keys name file) same (by of_name.0 (in_either by_refs by_unwinds of_name.0 of_name.1)))
  where
    goals : List Goal
    goals = goals_of_symbols files libs command file

    by_refs : List (List ℕ)
    by_refs = flat_map (lost_names file.object.symbols goals) (kept_refs keys file)

    by_unwinds : List (List ℕ)
    by_unwinds = filter_map (lost_personality file.object.symbols goals) (kept_unwinds keys file)

    by : (name : List ℕ) → In name by_refs ⊎ In name by_unwinds → Misses command libs files keys name file
    by name (inl here) =
        let of_ref = from_flat (lost_names file.object.symbols goals) (kept_refs keys file) name here in
        let kept = from_filter (λ (r : Ref). has keys r.atom) file.refs of_ref.0 of_ref.1 in
        let of_target = from_filter_map (lost_name file.object.symbols goals) (targets_of of_ref.0.target of_ref.0.minus) name of_ref.2 in
        let refers : HasReference keys file of_target.0 = record { reference = of_ref.0; among = Contains_from_in file.refs of_ref.0 kept.0; kept = kept.1; refers = Contains_from_in (targets_of of_ref.0.target of_ref.0.minus) of_target.0 of_target.1 } in
        misses_by command libs files keys file name of_target.0 (inl refers) of_target.2
    by name (inr here) =
        let of_entry = from_filter_map (lost_personality file.object.symbols goals) (kept_unwinds keys file) name here in
        let kept = from_filter (λ (u : Unwind). has keys u.atom) file.unwinds of_entry.0 of_entry.1 in
        let of_target = from_then (lost_name file.object.symbols goals) of_entry.0.personality name of_entry.2 in
        let handles : HasPersonality keys file of_target.0 = record { entry = of_entry.0; among = Contains_from_in file.unwinds of_entry.0 kept.0; kept = kept.1; handles = of_target.1 } in
        misses_by command libs files keys file name of_target.0 (inr handles) of_target.2

misses_in : (command : Command) (libs : LibraryGraph) (files : List LoadedFile) (keys : List AtomKey) (name : List ℕ) (file : LoadedFile) → Misses command libs files keys name file → In (name, file.label) (lost_in keys file (goals_of_symbols files libs command file))
unfolding lost_in lost_names lost_personality kept_refs kept_unwinds
misses_in command libs files keys name file is =
    in_map (λ (n : List ℕ). let p : List ℕ × List ℕ = (n, file.label) in p) (by_refs ++ by_unwinds) name (by is.refers.refers)
  where
    goals : List Goal
    goals = goals_of_symbols files libs command file

    by_refs : List (List ℕ)
    by_refs = flat_map (lost_names file.object.symbols goals) (kept_refs keys file)

    by_unwinds : List (List ℕ)
    by_unwinds = filter_map (lost_personality file.object.symbols goals) (kept_unwinds keys file)

    told : lost_name file.object.symbols goals (Name is.index) ≡ Some name
    told =
        let stands = goal_stands files libs command file is.index is.symbol is.refers.of_file in
        let none = nothing_nobody command libs files file is.index is.symbol is.nothing in
        rw (stands, none, is.refers.of_file) (ap Some is.named)

    by : HasReference keys file (Name is.index) ⊎ HasPersonality keys file (Name is.index) → In name (by_refs ++ by_unwinds)
    by (inl refers) =
        let r : Ref = refers.reference in
        let target = in_from_Contains (targets_of r.target r.minus) (Name is.index) refers.refers in
        let there : In name (lost_names file.object.symbols goals r) = in_filter_map (lost_name file.object.symbols goals) (targets_of r.target r.minus) (Name is.index) name target told in
        let kept : In r (kept_refs keys file) = in_filter (λ (x : Ref). has keys x.atom) file.refs r (in_from_Contains file.refs r refers.among) refers.kept in
        in_left by_refs by_unwinds name (in_flat (lost_names file.object.symbols goals) (kept_refs keys file) r name kept there)
    by (inr handles) =
        let there : lost_personality file.object.symbols goals handles.entry ≡ Some name = ap (option_and_then (lost_name file.object.symbols goals)) handles.handles ∙ told in
        let kept : In handles.entry (kept_unwinds keys file) = in_filter (λ (u : Unwind). has keys u.atom) file.unwinds handles.entry (in_from_Contains file.unwinds handles.entry handles.among) handles.kept in
        in_right by_refs by_unwinds name (in_filter_map (lost_personality file.object.symbols goals) (kept_unwinds keys file) handles.entry name kept there)

-- what is found of a name among the lost ones of a file
abbrev label_at : List AtomKey → List (List Goal) → List ℕ → ℕ × LoadedFile → Option (List ℕ)
label_at keys goals name p = option_map (λ (q : List ℕ × List ℕ). q.1) (find (Named name) (lost_at keys goals p))

misses_here : (command : Command) (libs : LibraryGraph) (files : List LoadedFile) (keys : List AtomKey) (name : List ℕ) (at : ℕ) (file : LoadedFile) → slice_get files at ≡ Some file → Decides (label_at keys (goal_table files libs command) name) (Misses command libs files keys name) at file
misses_here command libs files keys name at file there = by (find (Named name) pairs) refl
  where
    pairs : List (List ℕ × List ℕ)
    pairs = lost_in keys file (goals_of_symbols files libs command file)

    here : lost_at keys (goal_table files libs command) (at, file) ≡ pairs
    here = rw (table_at files libs command at file there) refl

    by : (o : Option (List ℕ × List ℕ)) → find (Named name) pairs ≡ o → Decides (label_at keys (goal_table files libs command) name) (Misses command libs files keys name) at file
    by (Some q) e =
        let hit = find_some (Named name) pairs q e in
        let of = misses_from command libs files keys file q hit.0 in
        let told : label_at keys (goal_table files libs command) name (at, file) ≡ Some q.1 = ap (λ (ps : List (List ℕ × List ℕ)). option_map (λ (x : List ℕ × List ℕ). x.1) (find (Named name) ps)) here ∙ ap (option_map (λ (x : List ℕ × List ℕ). x.1)) e in
        inl (told ∙ ap Some of.0, subst (λ (n : List ℕ). Misses command libs files keys n file) (sym (same_name name q.0 hit.1)) of.1)
    by None e = inr (ap (λ (ps : List (List ℕ × List ℕ)). option_map (λ (x : List ℕ × List ℕ). x.1) (find (Named name) ps)) here ∙ ap (option_map (λ (x : List ℕ × List ℕ). x.1)) e, away)
      where
        away : Misses command libs files keys name file → ⊥
        away is = false≢true (sym (find_none (Named name) pairs (name, file.label) e (misses_in command libs files keys name file is)) ∙ itself name)

-- ---- the first pair of a name

find_join : {X : Type 0} (t : X → Bool) (xs ys : List X) → find t (xs ++ ys) ≡ option_or_else (find t xs) (find t ys)
find_join t [] ys = refl
find_join {X = X} t (x ∷ xs) ys = by (find_join t xs ys) (t x) refl
  where
    by : find t (xs ++ ys) ≡ option_or_else (find t xs) (find t ys) → (b : Bool) → t x ≡ b → find t (x ∷ (xs ++ ys)) ≡ option_or_else (find t (x ∷ xs)) (find t ys)
    by rest true e = rw e refl
    by rest false e = rw e rest

map_or : {X Y : Type 0} (f : X → Y) (a b : Option X) → option_map f (option_or_else a b) ≡ option_or_else (option_map f a) (option_map f b)
map_or f None b = refl
map_or f (Some x) b = refl

find_flat : {X : Type 0} (name : List ℕ) (g : X → List (List ℕ × List ℕ)) (xs : List X) → option_map (λ (q : List ℕ × List ℕ). q.1) (find (Named name) (flat_map g xs)) ≡ first_some (λ (x : X). option_map (λ (q : List ℕ × List ℕ). q.1) (find (Named name) (g x))) xs
find_flat name g [] = refl
find_flat {X = X} name g (x ∷ xs) =
    ap (option_map (λ (q : List ℕ × List ℕ). q.1)) (find_join (Named name) (g x) (flat_map g xs))
    ∙ map_or (λ (q : List ℕ × List ℕ). q.1) (find (Named name) (g x)) (find (Named name) (flat_map g xs))
    ∙ by (find_flat name g xs) (option_map (λ (q : List ℕ × List ℕ). q.1) (find (Named name) (g x))) refl
  where
    by : option_map (λ (q : List ℕ × List ℕ). q.1) (find (Named name) (flat_map g xs)) ≡ first_some (λ (x : X). option_map (λ (q : List ℕ × List ℕ). q.1) (find (Named name) (g x))) xs → (o : Option (List ℕ)) → option_map (λ (q : List ℕ × List ℕ). q.1) (find (Named name) (g x)) ≡ o → option_or_else (option_map (λ (q : List ℕ × List ℕ). q.1) (find (Named name) (g x))) (option_map (λ (q : List ℕ × List ℕ). q.1) (find (Named name) (flat_map g xs))) ≡ first_some (λ (y : X). option_map (λ (q : List ℕ × List ℕ). q.1) (find (Named name) (g y))) (x ∷ xs)
    by rest None e = rw e rest
    by rest (Some l) e = rw e refl

first_of_join : {X : Type 0} (name : List ℕ) (g : X → List (List ℕ × List ℕ)) (xs : List X) (more : List (List ℕ × List ℕ)) → option_map (λ (q : List ℕ × List ℕ). q.1) (find (Named name) (flat_map g xs ++ more)) ≡ option_or_else (first_some (λ (x : X). option_map (λ (q : List ℕ × List ℕ). q.1) (find (Named name) (g x))) xs) (option_map (λ (q : List ℕ × List ℕ). q.1) (find (Named name) more))
first_of_join name g xs more =
    ap (option_map (λ (q : List ℕ × List ℕ). q.1)) (find_join (Named name) (flat_map g xs) more)
    ∙ map_or (λ (q : List ℕ × List ℕ). q.1) (find (Named name) (flat_map g xs)) (find (Named name) more)
    ∙ ap (λ (o : Option (List ℕ)). option_or_else o (option_map (λ (q : List ℕ × List ℕ). q.1) (find (Named name) more))) (find_flat name g xs)

-- all lost names, file by file, and then the wanted ones
abbrev pairs_of : Command → LibraryGraph → List LoadedFile → List AtomKey → List (List ℕ × List ℕ)
pairs_of command libs files keys = lost keys files (goal_table files libs command) ++ undefined_names.wanted (lost_wanted command libs files)

-- what stands beside a name the first time
abbrev beside : List ℕ → List (List ℕ × List ℕ) → Option (List ℕ)
beside name pairs = option_map (λ (q : List ℕ × List ℕ). q.1) (find (Named name) pairs)

beside_pairs : (command : Command) (libs : LibraryGraph) (files : List LoadedFile) (keys : List AtomKey) (name : List ℕ) → beside name (pairs_of command libs files keys) ≡ option_or_else (first_some (label_at keys (goal_table files libs command) name) (enumerate_from 0 files)) (beside name (undefined_names.wanted (lost_wanted command libs files)))
unfolding lost
beside_pairs command libs files keys name = first_of_join name (lost_at keys (goal_table files libs command)) (enumerate_from 0 files) (undefined_names.wanted (lost_wanted command libs files))

missed_searched : (command : Command) (libs : LibraryGraph) (files : List LoadedFile) (keys : List AtomKey) (name : List ℕ) → Searched (label_at keys (goal_table files libs command) name) (Misses command libs files keys name) 0 files
missed_searched command libs files keys name =
    searched (label_at keys (goal_table files libs command) name) (Misses command libs files keys name) 0 files
    (λ k file e. let same : k ≡ 0 + k = omega arith in subst (λ (m : ℕ). Decides (label_at keys (goal_table files libs command) name) (Misses command libs files keys name) m file) same (misses_here command libs files keys name k file e))

wanted_from : (command : Command) (libs : LibraryGraph) (files : List LoadedFile) (name : List ℕ) → In name (lost_wanted command libs files) → IsWantedInVain command libs files name
unfolding lost_wanted
wanted_from command libs files name h =
    let hit = from_filter (is_lost command libs files) (wanted command) name h in
    record { among = Contains_from_in (wanted command) name hit.0; nowhere = nowhere command libs files name hit.1 }

in_wanted : (command : Command) (libs : LibraryGraph) (files : List LoadedFile) (name : List ℕ) → IsWantedInVain command libs files name → In name (lost_wanted command libs files)
unfolding lost_wanted
in_wanted command libs files name is = in_filter (is_lost command libs files) (wanted command) name (in_from_Contains (wanted command) name is.among) (nobody command libs files name is.nowhere)

-- what the command line wants in vain stands beside nothing
beside_wanted : (command : Command) (libs : LibraryGraph) (files : List LoadedFile) (name : List ℕ)
    → ((beside name (undefined_names.wanted (lost_wanted command libs files)) ≡ Some []) × IsWantedInVain command libs files name)
    ⊎ ((beside name (undefined_names.wanted (lost_wanted command libs files)) ≡ None) × (IsWantedInVain command libs files name → ⊥))
beside_wanted command libs files name = by (find (Named name) (undefined_names.wanted (lost_wanted command libs files))) refl
  where
    Answer : Type 0
    Answer =
        ((beside name (undefined_names.wanted (lost_wanted command libs files)) ≡ Some []) × IsWantedInVain command libs files name)
        ⊎ ((beside name (undefined_names.wanted (lost_wanted command libs files)) ≡ None) × (IsWantedInVain command libs files name → ⊥))

    by : (o : Option (List ℕ × List ℕ)) → find (Named name) (undefined_names.wanted (lost_wanted command libs files)) ≡ o → Answer
    by None e = inr (ap (option_map (λ (q : List ℕ × List ℕ). q.1)) e, away)
      where
        away : IsWantedInVain command libs files name → ⊥
        away is =
            let there = in_map (λ (n : List ℕ). let p : List ℕ × List ℕ = (n, []) in p) (lost_wanted command libs files) name (in_wanted command libs files name is) in
            false≢true (sym (find_none (Named name) (undefined_names.wanted (lost_wanted command libs files)) (name, []) e there) ∙ itself name)
    by (Some q) e =
        let hit = find_some (Named name) (undefined_names.wanted (lost_wanted command libs files)) q e in
        let of = from_map (λ (n : List ℕ). let p : List ℕ × List ℕ = (n, []) in p) (lost_wanted command libs files) q hit.0 in
        let called : of.0 ≡ name = ap (λ (p : List ℕ × List ℕ). p.0) of.2 ∙ sym (same_name name q.0 hit.1) in
        let empty : q.1 ≡ [] = ap (λ (p : List ℕ × List ℕ). p.1) (sym of.2) in
        inl (ap (option_map (λ (p : List ℕ × List ℕ). p.1)) e ∙ ap Some empty, subst (IsWantedInVain command libs files) called (wanted_from command libs files of.0 of.1))

-- what stands beside a missed name tells the first file that misses it
beside_missed : (command : Command) (libs : LibraryGraph) (files : List LoadedFile) (keys : List AtomKey) (name label : List ℕ) → beside name (pairs_of command libs files keys) ≡ Some label → IsMissedIn command libs files keys name label
beside_missed command libs files keys name label e = by (missed_searched command libs files keys name) (beside_wanted command libs files name)
  where
    both_parts : option_or_else (first_some (label_at keys (goal_table files libs command) name) (enumerate_from 0 files)) (beside name (undefined_names.wanted (lost_wanted command libs files))) ≡ Some label
    both_parts = sym (beside_pairs command libs files keys name) ∙ e

    by : Searched (label_at keys (goal_table files libs command) name) (Misses command libs files keys name) 0 files
        → ((beside name (undefined_names.wanted (lost_wanted command libs files)) ≡ Some []) × IsWantedInVain command libs files name)
        ⊎ ((beside name (undefined_names.wanted (lost_wanted command libs files)) ≡ None) × (IsWantedInVain command libs files name → ⊥))
        → IsMissedIn command libs files keys name label
    by (inl (file, is, f)) w = inl (file, is, sym (some_is file.label label (rw f at both_parts)))
    by (inr (none, f)) (inl (g, is)) = let empty : ◌≡◌ {A = List ℕ} [] label = some_is [] label (rw (f, g) at both_parts) in inr (none, is, sym empty)
    by (inr (none, f)) (inr (g, away)) = no_some label (rw (f, g) at both_parts)

missed_beside : (command : Command) (libs : LibraryGraph) (files : List LoadedFile) (keys : List AtomKey) (name label : List ℕ) → IsMissedIn command libs files keys name label → beside name (pairs_of command libs files keys) ≡ Some label
missed_beside command libs files keys name label h = beside_pairs command libs files keys name ∙ by h (missed_searched command libs files keys name) (beside_wanted command libs files name)
  where
    by : IsMissedIn command libs files keys name label
        → Searched (label_at keys (goal_table files libs command) name) (Misses command libs files keys name) 0 files
        → ((beside name (undefined_names.wanted (lost_wanted command libs files)) ≡ Some []) × IsWantedInVain command libs files name)
        ⊎ ((beside name (undefined_names.wanted (lost_wanted command libs files)) ≡ None) × (IsWantedInVain command libs files name → ⊥))
        → option_or_else (first_some (label_at keys (goal_table files libs command) name) (enumerate_from 0 files)) (beside name (undefined_names.wanted (lost_wanted command libs files))) ≡ Some label
    by (inl (file, is, told)) (inl (other, first, f)) w =
        let same : other ≡ file = one_first (Misses command libs files keys name) files other file first is in
        rw f (ap Some (ap (λ (x : LoadedFile). x.label) same ∙ sym told))
    by (inl (file, is, told)) (inr (none, f)) w = absurd (none is.at file is.there is.holds)
    by (inr (none, is, told)) (inl (other, first, f)) w = absurd (none first.at other first.there first.holds)
    by (inr (none, is, told)) (inr (also, f)) (inl (g, vain)) = rw (f, g) (ap Some (sym told))
    by (inr (none, is, told)) (inr (also, f)) (inr (g, away)) = absurd (away is)

-- the listed names are the missed ones
listed_missed : (command : Command) (libs : LibraryGraph) (files : List LoadedFile) (keys : List AtomKey) (name : List ℕ) (label : List ℕ) → beside name (pairs_of command libs files keys) ≡ Some label → IsMissed command libs files keys name
listed_missed command libs files keys name label e = by (beside_missed command libs files keys name label e)
  where
    by : IsMissedIn command libs files keys name label → IsMissed command libs files keys name
    by (inl (file, is, told)) = inl (is.at, file, is.there, is.holds)
    by (inr (none, is, told)) = inr is

missed_listed : (command : Command) (libs : LibraryGraph) (files : List LoadedFile) (keys : List AtomKey) (name : List ℕ) → IsMissed command libs files keys name → (q : List ℕ × List ℕ) × In q (pairs_of command libs files keys) × (q.0 ≡ name)
missed_listed command libs files keys name h = by (find (Named name) pairs) refl
  where
    pairs : List (List ℕ × List ℕ)
    pairs = pairs_of command libs files keys

    told : IsMissed command libs files keys name → Searched (label_at keys (goal_table files libs command) name) (Misses command libs files keys name) 0 files → (label : List ℕ) × IsMissedIn command libs files keys name label
    told m (inl (file, is, f)) = (file.label, inl (file, is, refl))
    told (inl (k, file, e, is)) (inr (none, f)) = absurd (none k file e is)
    told (inr is) (inr (none, f)) = ([], inr (none, is, refl))

    by : (o : Option (List ℕ × List ℕ)) → find (Named name) pairs ≡ o → (q : List ℕ × List ℕ) × In q pairs × (q.0 ≡ name)
    by (Some q) e = let hit = find_some (Named name) pairs q e in (q, hit.0, sym (same_name name q.0 hit.1))
    by None e =
        let of = told h (missed_searched command libs files keys name) in
        let none : beside name pairs ≡ None = ap (option_map (λ (q : List ℕ × List ℕ). q.1)) e in
        no_some of.0 (sym none ∙ missed_beside command libs files keys name of.0 of.1)

-- ---- the least of them

in_missed : (command : Command) (libs : LibraryGraph) (files : List LoadedFile) (keys : List AtomKey) (q : List ℕ × List ℕ) → In q (pairs_of command libs files keys) → IsMissed command libs files keys q.0
in_missed command libs files keys q h = by (find (Named q.0) pairs) refl
  where
    pairs : List (List ℕ × List ℕ)
    pairs = pairs_of command libs files keys

    by : (o : Option (List ℕ × List ℕ)) → find (Named q.0) pairs ≡ o → IsMissed command libs files keys q.0
    by (Some p) e = listed_missed command libs files keys q.0 p.1 (ap (option_map (λ (x : List ℕ × List ℕ). x.1)) e)
    by None e = absurd (false≢true (sym (find_none (Named q.0) pairs q e h) ∙ itself q.0))

other_names : (name : List ℕ) (front : List (List ℕ × List ℕ)) → AllByRecursion (λ q. slice_cmp nat_cmp q.0 name ≡ Greater) front → find (Named name) front ≡ None
other_names name [] all = refl
other_names name (q ∷ qs) (greater, all) =
    let apart : bytes_eq q.0 name ≡ false = sym (is_eq-slice_cmp q.0 name) ∙ ap is_eq greater in
    let other : bytes_eq name q.0 ≡ false = not_same name q.0 (bytes_eq name q.0) refl apart in
    rw other (other_names name qs all)
  where
    not_same : (a b : List ℕ) (t : Bool) → bytes_eq a b ≡ t → bytes_eq b a ≡ false → bytes_eq a b ≡ false
    not_same a b false e f = e
    not_same a b true e f = let same : a ≡ b = same_name a b e in absurd (false≢true (sym f ∙ subst (λ (x : List ℕ). bytes_eq b x ≡ true) (sym same) (itself b)))

first_beside : (pairs : List (List ℕ × List ℕ)) (p : List ℕ × List ℕ) → IsFirstLeast pairs p → beside p.0 pairs ≡ Some p.1
first_beside pairs p is =
    ap (beside p.0) is.parts
    ∙ ap (option_map (λ (q : List ℕ × List ℕ). q.1)) (
    find_join (Named p.0) is.front (p ∷ is.back)
    ∙ ap (λ (o : Option (List ℕ × List ℕ)). option_or_else o (find (Named p.0) (p ∷ is.back))) (other_names p.0 is.front is.before)
    ∙ here
    )
  where
    here : option_or_else None (find (Named p.0) (p ∷ is.back)) ≡ Some p
    here = rw (itself p.0) refl

none_less : (pairs : List (List ℕ × List ℕ)) (p q : List ℕ × List ℕ) → IsFirstLeast pairs p → In q pairs → is_lt (slice_cmp nat_cmp q.0 p.0) ≡ false
none_less pairs p q is h = by (in_either is.front (p ∷ is.back) q (subst (λ (ps : List (List ℕ × List ℕ)). In q ps) is.parts h))
  where
    by : In q is.front ⊎ In q (p ∷ is.back) → is_lt (slice_cmp nat_cmp q.0 p.0) ≡ false
    by (inl front) = ap is_lt (all_in (λ (x : List ℕ × List ℕ). slice_cmp nat_cmp x.0 p.0 ≡ Greater) is.front q is.before front)
    by (inr (inl e)) = ap (λ (x : List ℕ × List ℕ). is_lt (slice_cmp nat_cmp x.0 p.0)) (sym e) ∙ ap is_lt (tied_itself nat_list_cmp_total p.0)
    by (inr (inr back)) = all_in (λ (x : List ℕ × List ℕ). is_lt (slice_cmp nat_cmp x.0 p.0) ≡ false) is.back q is.behind back

-- of two names neither is less
one_name : (a b : List ℕ) → is_lt (slice_cmp nat_cmp a b) ≡ false → is_lt (slice_cmp nat_cmp b a) ≡ false → a ≡ b
one_name a b e f = by (slice_cmp nat_cmp a b) refl
  where
    by : (o : Ordering) → slice_cmp nat_cmp a b ≡ o → a ≡ b
    by Less g = absurd (false≢true (sym e ∙ ap is_lt g))
    by Equal g = same_name a b (sym (is_eq-slice_cmp a b) ∙ ap is_eq g)
    by Greater g = absurd (false≢true (sym f ∙ ap is_lt (nat_list_cmp_total.antisymm b a ∙ ap ordering_reverse g)))

pub lost_to : (command : Command) (libs : LibraryGraph) (files : List LoadedFile) (keys : List AtomKey) (name label : List ℕ)
    → undefined keys files (goal_table files libs command) (lost_wanted command libs files) ≡ Some (name, label)
    → IsMissedIn command libs files keys name label × ((other : List ℕ) → IsMissed command libs files keys other → is_lt (slice_cmp nat_cmp other name) ≡ false)
unfolding undefined
lost_to command libs files keys name label e = (beside_missed command libs files keys name label (first_beside pairs (name, label) is), least_one)
  where
    pairs : List (List ℕ × List ℕ)
    pairs = pairs_of command libs files keys

    is : IsFirstLeast pairs (name, label)
    is = least_some pairs (name, label) e

    least_one : (other : List ℕ) → IsMissed command libs files keys other → is_lt (slice_cmp nat_cmp other name) ≡ false
    least_one other m =
        let listed = missed_listed command libs files keys other m in
        subst (λ (x : List ℕ). is_lt (slice_cmp nat_cmp x name) ≡ false) listed.2 (none_less pairs (name, label) listed.0 is listed.1)

pub lost_from : (command : Command) (libs : LibraryGraph) (files : List LoadedFile) (keys : List AtomKey) (name label : List ℕ)
    → IsMissedIn command libs files keys name label
    → ((other : List ℕ) → IsMissed command libs files keys other → is_lt (slice_cmp nat_cmp other name) ≡ false)
    → undefined keys files (goal_table files libs command) (lost_wanted command libs files) ≡ Some (name, label)
unfolding undefined
lost_from command libs files keys name label m none_lesser = by (least pairs) refl
  where
    pairs : List (List ℕ × List ℕ)
    pairs = pairs_of command libs files keys

    listed : beside name pairs ≡ Some label
    listed = missed_beside command libs files keys name label m

    by : (o : Option (List ℕ × List ℕ)) → least pairs ≡ o → least pairs ≡ Some (name, label)
    by None e = no_some label (ap (beside name) (sym (least_none pairs e)) ∙ listed)
    by (Some p) e = e ∙ ap Some (one p (least_some pairs p e))
      where
        one : (q : List ℕ × List ℕ) → IsFirstLeast pairs q → q ≡ (name, label)
        one (n, l) is =
            let of = missed_listed command libs files keys name (listed_missed command libs files keys name label listed) in
            let here : In (n, l) pairs = subst (λ (ps : List (List ℕ × List ℕ)). In (n, l) ps) (sym is.parts) (in_right is.front ((n, l) ∷ is.back) (n, l) (inl refl)) in
            let not_less : is_lt (slice_cmp nat_cmp n name) ≡ false = none_lesser n (in_missed command libs files keys (n, l) here) in
            let not_more : is_lt (slice_cmp nat_cmp name n) ≡ false = subst (λ (x : List ℕ). is_lt (slice_cmp nat_cmp x n) ≡ false) of.2 (none_less pairs (n, l) of.0 is of.1) in
            let same : n ≡ name = one_name n name not_less not_more in
            let told : beside name pairs ≡ Some l = subst (λ (x : List ℕ). beside x pairs ≡ Some l) same (first_beside pairs (n, l) is) in
            let alike : l ≡ label = some_is l label (sym told ∙ listed) in
            rw (same, alike) refl
