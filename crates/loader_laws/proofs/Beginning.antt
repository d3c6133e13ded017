-- A linked program begins at its entry, or at a stub that leads there.
use Rattle.std.proofs.Common.{◌≡◌, ℕ, ◌-◌, ◌⊎◌, ◌==◌, ◌&&◌, ◌||◌, ◌++◌, Bool, true, false, not, List, [], ◌∷◌, Option, Some, None, inl, inr, refl, sym, ap, ◌∙◌, subst, if◌then◌else◌}
use Rattle.std.specs.List.{enumerate_from, filter_map, flat_map}
use Rattle.std.specs.Option.{option_to_list}
use Rattle.std.proofs.lemmas.Bool.{and_from, cases_Bool, eq-eqb, or_right}
use Rattle.list_lemmas.proofs.Members.{In, any_from_in, in_filter, in_filter_map, in_flat, in_left, in_map, in_right}
use Rattle.command_line.specs.declared.command.Command.{Command}
use Rattle.lib_bind.specs.Provides.{provider_of}
use Rattle.lib_bind.specs.declared.library.LibraryGraph.{LibraryGraph}
use Rattle.lib_bind.specs.declared.provider.Provider.{Provider}
use Rattle.literal_merge.specs.Representatives.{representatives_of}
use Rattle.literal_merge.specs.Standing.{stands_for}
use Rattle.literal_merge.specs.declared.representative.Representative.{Representative}
use Rattle.liveness.specs.Edges.{goal_atom}
use Rattle.liveness.specs.Roots.{common_root, external_atom, external_atoms, has_atom, is_plain, merged_root, name_root, plain_root, plain_roots, roots, wanted_roots, winner_atom, winning_atom, winning_atoms, wins}
use Rattle.liveness.specs.Undefined as undefined
use Rattle.mark_core.proofs.KeyLemmas.{itself, same_atoms}
use Rattle.mark_core.specs.Kept.{has, same_atom}
use Rattle.mo_types.specs.Atoms.{cut_of}
use Rattle.mo_types.specs.Candidates.{word_of}
use Rattle.mo_types.specs.Loaded.{IsWholeFile}
use Rattle.mo_types.specs.RelocationRules.{section_numbered}
use Rattle.mo_types.specs.Whole.{is_dropped}
use Rattle.mo_types.specs.declared.atom.Atom.{Atom}
use Rattle.mo_types.specs.declared.goal.Goal.TheVariants.{Def, WeakSelf, Header}
use Rattle.mo_types.specs.declared.key.AtomKey.{AtomKey}
use Rattle.mo_types.specs.declared.key.TheConstants.{COMMON_SECTION}
use Rattle.mo_types.specs.declared.loaded.LoadedFile.{LoadedFile}
use Rattle.mo_types.specs.declared.object.Section.{Section}
use Rattle.mo_types.specs.declared.object.Symbol.{Symbol}
use Rattle.mo_types.specs.declared.object.SymbolKind.{SymbolKind}
use Rattle.mo_types.specs.declared.object.SymbolKind.TheVariants.{Defined, Common}
use Rattle.resolve.specs.Goals.{goal_of_name, goal_table, is_flat, is_header_symbol, name_goal, outer_goal}
use Rattle.slot_plan.specs.declared.list.Slots.{Slots}
use Rattle.symbol_winners.specs.Places.{place_at, place_in, place_of}
use Rattle.symbol_winners.specs.SymbolTable.{IsSymbolTable, SymbolTable, is_weak}
use Rattle.symbol_winners.specs.Winners.{winner_named, winner_of}
use Rattle.symbol_winners.specs.declared.places.Place.{Place}
use Rattle.symbol_winners.specs.declared.winner.Winner.{Winner}
use Rattle.image_laws.proofs.Loading.{from_all}
use Rattle.link_files.specs.Causes.{AreInside}
use Rattle.link_files.specs.Lost.{is_lost, lost_wanted}
use Rattle.link_files.specs.Names as names
use Rattle.link_files.proofs.Cuts.{HasKey, atom_there, key_at}
use Rattle.link_files.proofs.Lists.{both_empty, from_then, no_some, some_is}
use Rattle.link_files.proofs.WinnerPlaces.{IsWinnerIn, winner_there}
use Rattle.loader_laws.specs.Tellings.{AreWhole}
use Rattle.loader_laws.proofs.Commons.{winner_name}
use Rattle.loader_laws.proofs.Finding.{in_all}
use Rattle.loader_laws.proofs.Targets.{least_none}

-- ---- the atom of a winner is a root, where nothing is stripped

-- a winner is among those of its file that win
won_there : (command : Command) (files : List LoadedFile) (symbols : SymbolTable) (name : List ℕ) (winner : Winner) → IsSymbolTable command files symbols → winner_of command files name ≡ Some winner → (is : IsWinnerIn files name winner) → In winner.atom (winning_atoms symbols.winners is.file)
unfolding winning_atoms winning_atom external_atom wins
won_there command files symbols name winner are e is =
    let symbol : Symbol = is.symbol in
    let won : winner_named symbols.winners symbol.name ≡ Some winner = are.winners.each symbol.name ∙ ap (winner_of command files) (sym is.named) ∙ e in
    let word : (winner.word == word_of is.file.id is.index symbol) ≡ true = eq-eqb winner.word (word_of is.file.id is.index symbol) (sym is.word) in
    let chosen : winning_atom symbols.winners is.file (is.index, symbol) ≡ Some is.place.atom = rw (won, word, is.external, is.stands) refl in
    subst (λ (k : AtomKey). In k (winning_atoms symbols.winners is.file)) is.atom
    (in_filter_map (winning_atom symbols.winners is.file) (enumerate_from 0 is.file.object.symbols) (is.index, symbol) is.place.atom (in_all is.file.object.symbols is.index symbol is.numbered) chosen)

-- an atom that stands for itself, in which a winner of its file stands
plain_there : (symbols : SymbolTable) (file : LoadedFile) (atom : Atom) → In atom file.atoms → stands_for symbols.literals atom.key ≡ atom.key → In atom.key (winning_atoms symbols.winners file) → In atom.key (plain_roots symbols file)
unfolding plain_roots plain_root
plain_there symbols file atom piece own won =
    let literals = symbols.literals in
    let external = external_atoms file in
    let winning = winning_atoms symbols.winners file in
    let wins_there : has_atom winning atom.key ≡ true = any_from_in (same_atom atom.key) winning atom.key won (itself atom.key) in
    let plain : is_plain literals external winning atom.key ≡ true =
    and_from (same_atom (stands_for literals atom.key) atom.key) (not (has_atom external atom.key) || has_atom winning atom.key) (ap (λ (k : AtomKey). same_atom k atom.key) own ∙ itself atom.key) (or_right (not (has_atom external atom.key)) (has_atom winning atom.key) wins_there) in
    in_left (filter_map (plain_root literals external winning) file.atoms) (filter_map common_root winning) atom.key
    (in_filter_map (plain_root literals external winning) file.atoms atom atom.key piece (rw plain refl))

-- and that of a common symbol that wins
common_there : (symbols : SymbolTable) (file : LoadedFile) (key : AtomKey) → key.section ≡ COMMON_SECTION → In key (winning_atoms symbols.winners file) → In key (plain_roots symbols file)
unfolding plain_roots common_root
common_there symbols file key common won =
    let winning = winning_atoms symbols.winners file in
    let number : (key.section == COMMON_SECTION) ≡ true = eq-eqb key.section COMMON_SECTION common in
    in_right (filter_map (plain_root symbols.literals (external_atoms file) winning) file.atoms) (filter_map common_root winning) key (in_filter_map common_root winning key key won (rw number refl))

-- a literal that stands for a winner's own
merged_there : (symbols : SymbolTable) (winner : Winner) → In winner symbols.winners → same_atom (winner_atom symbols.literals winner) winner.atom ≡ false → In (winner_atom symbols.literals winner) (filter_map (merged_root symbols.literals) symbols.winners)
unfolding merged_root
merged_there symbols winner h away = in_filter_map (merged_root symbols.literals) symbols.winners winner (winner_atom symbols.literals winner) h (rw away refl)

-- a symbol stands in an atom of its file, or in one of a common symbol
place_holds : (file : LoadedFile) (index : ℕ) (kind : SymbolKind) (place : Place) → IsWholeFile file → place_of file index kind ≡ Some place → HasKey file.atoms place.atom ⊎ (place.atom.section ≡ COMMON_SECTION)
unfolding place_of place_in place_at
place_holds file index (Defined number value) place whole is = by (from_then (place_in file number value) (section_numbered file.object.sections number) place is)
  where
    by : (section : Section) × (section_numbered file.object.sections number ≡ Some section) × (place_in file number value section ≡ Some place) → HasKey file.atoms place.atom ⊎ (place.atom.section ≡ COMMON_SECTION)
    by (section, numbered, there) = linked (is_dropped section) refl
      where
        linked : (b : Bool) → is_dropped section ≡ b → HasKey file.atoms place.atom ⊎ (place.atom.section ≡ COMMON_SECTION)
        linked true e = no_some place (rw e at there)
        linked false e =
            let same = some_is _ place (rw e at there) in
            let offset = value - section.address in
            let cut : HasKey file.atoms (key_at file.id number (cut_of file.object number section offset)) = subst (λ (xs : List Atom). HasKey xs (key_at file.id number (cut_of file.object number section offset))) (sym whole.atoms) (atom_there file.object file.id number section offset numbered e) in
            inl (subst (λ (p : Place). HasKey file.atoms p.atom) same cut)
place_holds file index (Common align size) place whole is = inr (ap (λ (p : Place). p.atom.section) (sym (some_is _ place is)))
place_holds file index _ place whole is = no_some place is

-- ---- the atom in which a name's winner stands is a root

record IsWinning (command : Command) (files : List LoadedFile) (symbols : SymbolTable) (name : List ℕ) (winner : Winner) : Type 0 where
  pub are : IsSymbolTable command files symbols
  pub whole : AreWhole files
  pub wins : winner_of command files name ≡ Some winner

-- where another literal stands for none
own_root : (command : Command) (files : List LoadedFile) (symbols : SymbolTable) (name : List ℕ) (winner : Winner) → IsWinning command files symbols name winner → stands_for symbols.literals winner.atom ≡ winner.atom → In winner.atom (flat_map (plain_roots symbols) files)
own_root command files symbols name winner winning own = by (place_holds is.file is.index is.symbol.kind is.place (from_all IsWholeFile files is.file winning.whole is.among) is.stands)
  where
    is : IsWinnerIn files name winner
    is = winner_there command files name winner winning.wins

    won : In winner.atom (winning_atoms symbols.winners is.file)
    won = won_there command files symbols name winner winning.are winning.wins is

    by : HasKey is.file.atoms is.place.atom ⊎ (is.place.atom.section ≡ COMMON_SECTION) → In winner.atom (flat_map (plain_roots symbols) files)
    by (inl (atom, piece, named)) =
        let key : winner.atom ≡ atom.key = sym (named ∙ is.atom) in
        in_flat (plain_roots symbols) files is.file winner.atom is.among
        (subst (λ (k : AtomKey). In k (plain_roots symbols is.file)) (sym key)
        (plain_there symbols is.file atom piece (subst (λ (k : AtomKey). stands_for symbols.literals k ≡ k) key own) (subst (λ (k : AtomKey). In k (winning_atoms symbols.winners is.file)) key won)))
    by (inr common) = in_flat (plain_roots symbols) files is.file winner.atom is.among (common_there symbols is.file winner.atom (ap (λ (k : AtomKey). k.section) (sym is.atom) ∙ common) won)

-- where nothing is stripped
all_root : (command : Command) (files : List LoadedFile) (symbols : SymbolTable) (name : List ℕ) (winner : Winner) → IsWinning command files symbols name winner → In (winner_atom symbols.literals winner) (flat_map (plain_roots symbols) files ++ filter_map (merged_root symbols.literals) symbols.winners)
all_root command files symbols name winner winning = elim (cases_Bool (same_atom (winner_atom symbols.literals winner) winner.atom)) [
  | inl same ↦
      let own : winner_atom symbols.literals winner ≡ winner.atom = same_atoms (winner_atom symbols.literals winner) winner.atom same in
      in_left (flat_map (plain_roots symbols) files) (filter_map (merged_root symbols.literals) symbols.winners) (winner_atom symbols.literals winner)
      (subst (λ (k : AtomKey). In k (flat_map (plain_roots symbols) files)) (sym own) (own_root command files symbols name winner winning own))
  | inr away ↦
      in_right (flat_map (plain_roots symbols) files) (filter_map (merged_root symbols.literals) symbols.winners) (winner_atom symbols.literals winner)
      (merged_there symbols winner (winner_name command files symbols.winners name winner winning.are.winners winning.wins).0 away)
]

-- that of the entry's winner, where what isn't reached is stripped
wanted_there : (command : Command) (files : List LoadedFile) (symbols : SymbolTable) (winner : Winner) → IsWinning command files symbols command.entry winner → command.dylib ≡ false → In (winner_atom symbols.literals winner) (wanted_roots command symbols)
unfolding wanted_roots name_root
wanted_there command files symbols winner winning program =
    let won : winner_named symbols.winners command.entry ≡ Some winner = winning.are.winners.each command.entry ∙ winning.wins in
    in_left (if command.dylib then [] else option_to_list (name_root symbols command.entry)) (filter_map (name_root symbols) command.roots) (winner_atom symbols.literals winner) (rw (program, won) (inl refl))

entry_root : (command : Command) (files : List LoadedFile) (symbols : SymbolTable) (winner : Winner) → IsWinning command files symbols command.entry winner → command.dylib ≡ false → In (winner_atom symbols.literals winner) (roots command symbols files)
unfolding roots wanted_roots
entry_root command files symbols winner winning program = by command.dead_strip refl
  where
    by : (b : Bool) → command.dead_strip ≡ b → In (winner_atom symbols.literals winner) (roots command symbols files)
    by true s = rw s (in_left _ _ (winner_atom symbols.literals winner) (in_left (wanted_roots command symbols) _ (winner_atom symbols.literals winner) (wanted_there command files symbols winner winning program)))
    by false s = rw s (all_root command files symbols command.entry winner winning)

-- ---- the goal of the entry

pub entry_kept : (command : Command) (libs : LibraryGraph) (files : List LoadedFile) (symbols : SymbolTable) (keys : List AtomKey) (slots : Slots) (key : AtomKey) → AreInside command libs files symbols keys slots → AreWhole files → command.dylib ≡ false → goal_atom (goal_of_name files libs command command.entry) ≡ Some key → has keys key ≡ true
unfolding goal_of_name
entry_kept command libs files symbols keys slots key inside whole program = by (winner_of command files command.entry) refl
  where
    are : IsSymbolTable command files symbols
    are = inside.symbols_are

    kept : (winner : Winner) → winner_of command files command.entry ≡ Some winner → Some (stands_for (representatives_of files) winner.atom) ≡ Some key → has keys key ≡ true
    kept winner e to =
        let same : winner_atom symbols.literals winner ≡ key = ap (λ (rs : List Representative). stands_for rs winner.atom) are.literals ∙ some_is (stands_for (representatives_of files) winner.atom) key to in
        ap (has keys) (sym same)
        ∙ from_all (λ (atom : AtomKey). has keys atom ≡ true) (roots command symbols files) (winner_atom symbols.literals winner) inside.kept.closed.rooted
        (entry_root command files symbols winner (record { are = are; whole = whole; wins = e }) program)

    outer : (flat weak : Bool) (provider : Option Provider) → goal_atom (outer_goal flat weak command.entry provider) ≡ Some key → has keys key ≡ true
    outer flat weak (Some provider) to = no_some key to
    outer true weak None to = no_some key to
    outer false weak None to = no_some key to

    nowhere : (b : Bool) → goal_atom (if b then Header else outer_goal (is_flat command command.entry) (is_weak files command.entry) command.entry (provider_of libs command.entry)) ≡ Some key → has keys key ≡ true
    nowhere true to = no_some key to
    nowhere false to = outer (is_flat command command.entry) (is_weak files command.entry) (provider_of libs command.entry) to

    by : (o : Option Winner) → winner_of command files command.entry ≡ o → goal_atom (name_goal (representatives_of files) command.dylib (is_flat command command.entry) (is_weak files command.entry) command.entry (provider_of libs command.entry) o) ≡ Some key → has keys key ≡ true
    by (Some winner) e = weakly (winner.weak && winner.exported)
      where
        weakly : (b : Bool) → goal_atom (if b then WeakSelf winner.name (stands_for (representatives_of files) winner.atom) winner.offset else Def (stands_for (representatives_of files) winner.atom) winner.offset) ≡ Some key → has keys key ≡ true
        weakly true to = kept winner e to
        weakly false to = kept winner e to
    by None e = nowhere (is_header_symbol command.dylib command.entry)

-- no name that the command line wants leads nowhere
pub wanted_found : (command : Command) (libs : LibraryGraph) (files : List LoadedFile) (symbols : SymbolTable) (keys : List AtomKey) (slots : Slots) (name : List ℕ) → AreInside command libs files symbols keys slots → In name (names.wanted command) → is_lost command libs files name ≡ false
unfolding undefined.undefined lost_wanted
wanted_found command libs files symbols keys slots name inside among = by (is_lost command libs files name) refl
  where
    none : undefined.wanted (lost_wanted command libs files) ≡ []
    none =
        (both_empty (undefined.lost keys files (goal_table files libs command)) (undefined.wanted (lost_wanted command libs files))
        (least_none (undefined.lost keys files (goal_table files libs command) ++ undefined.wanted (lost_wanted command libs files)) inside.found)).1

    by : (b : Bool) → is_lost command libs files name ≡ b → is_lost command libs files name ≡ false
    by false e = e
    by true e =
        let told = in_map (λ name. (name, [])) (lost_wanted command libs files) name (in_filter (is_lost command libs files) (names.wanted command) name among e) in
        absurd (subst (λ (xs : List (List ℕ × List ℕ)). In (name, []) xs) none told)

pub entry_found : (command : Command) (libs : LibraryGraph) (files : List LoadedFile) (symbols : SymbolTable) (keys : List AtomKey) (slots : Slots) → AreInside command libs files symbols keys slots → command.dylib ≡ false → is_lost command libs files command.entry ≡ false
entry_found command libs files symbols keys slots inside program =
    wanted_found command libs files symbols keys slots command.entry inside (in_left (if command.dylib then [] else command.entry ∷ []) command.roots command.entry (rw program (inl refl)))
