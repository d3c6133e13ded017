-- The atoms in which the goals of symbols and targets are: those of files, and those of common symbols that win their names.
use Rattle.std.proofs.Common.{◌≡◌, ◌⊎◌, ℕ, zero, suc, ◌+◌, ◌&&◌, Bool, true, false, List, [], ◌∷◌, filter, Option, Some, None, inl, inr, refl, sym, ap, ◌∙◌, subst, arith, if◌then◌else◌}
use Rattle.std.specs.Prelude.{All, slice_get}
use Rattle.std.specs.List.{enumerate_from}
use Rattle.std.specs.Option.{option_map, option_map_or}
use Rattle.std.specs.Ordering.{is_eq}
use Rattle.std.proofs.lemmas.Bool.{false≢true}
use Rattle.std.proofs.lemmas.Option.{slice_get-map}
use Rattle.list_lemmas.proofs.Members.{In, find_some, from_filter, from_map, from_filter_map, from_flat}
use Rattle.mo_types.specs.Atoms.{cut_of}
use Rattle.mo_types.specs.Candidates.{is_common}
use Rattle.mo_types.specs.Keys.{compare_keys}
use Rattle.mo_types.specs.Loaded.{IsWholeFile}
use Rattle.mo_types.specs.RelocationRules.{section_numbered}
use Rattle.mo_types.specs.Whole.{is_dropped}
use Rattle.mo_types.specs.declared.atom.Atom.{Atom}
use Rattle.mo_types.specs.declared.goal.Goal.{Goal}
use Rattle.mo_types.specs.declared.goal.Goal.TheVariants.{Def, WeakSelf, Header}
use Rattle.mo_types.specs.declared.key.AtomKey.{AtomKey}
use Rattle.mo_types.specs.declared.key.TheConstants.{COMMON_SECTION}
use Rattle.mo_types.specs.declared.loaded.LoadedFile.{LoadedFile}
use Rattle.mo_types.specs.declared.object.Object.{Object}
use Rattle.mo_types.specs.declared.object.Section.{Section}
use Rattle.mo_types.specs.declared.object.Symbol.{Symbol}
use Rattle.mo_types.specs.declared.object.SymbolKind.{SymbolKind}
use Rattle.mo_types.specs.declared.object.SymbolKind.TheVariants.{Defined, Common}
use Rattle.mo_types.specs.declared.reference.Target.{Target}
use Rattle.mo_types.specs.declared.reference.Target.TheVariants.{Name, Local}
use Rattle.lib_bind.specs.Provides.{provider_of}
use Rattle.lib_bind.specs.declared.library.LibraryGraph.{LibraryGraph}
use Rattle.lib_bind.specs.declared.provider.Provider.{Provider}
use Rattle.command_line.specs.declared.command.Command.{Command}
use Rattle.resolve.specs.Goals.{goal_at, goal_of, goal_of_name, goal_of_symbol, goals_of_symbols, is_flat, is_header_symbol, local_goal, name_goal, outer_goal, winner_goal}
use Rattle.literal_merge.specs.Standing.{literal_at, stands_for}
use Rattle.symbol_winners.specs.SymbolTable.{is_weak}
use Rattle.symbol_winners.specs.Places.{place_at, place_in, place_of}
use Rattle.literal_merge.specs.Representatives.{Literal, is_literal, is_same, literal_at as as_literal, literals, literals_in, representative_among, representative_of, representatives_of}
use Rattle.symbol_winners.specs.Winners.{winner_of}
use Rattle.symbol_winners.specs.declared.places.Place.{Place}
use Rattle.literal_merge.specs.declared.representative.Representative.{Representative}
use Rattle.symbol_winners.specs.declared.winner.Winner.{Winner}
use Rattle.image_laws.proofs.Loading.{from_all}
use Rattle.link_files.proofs.Cuts.{atom_there, key_at}
use Rattle.link_files.proofs.Lists.{from_then, from_when, in_slice, no_some, some_is}
use Rattle.link_files.proofs.Refs.{IsTargetOf}
use Rattle.link_files.proofs.WinnerPlaces.{IsWinnerIn, winner_there}
use Rattle.loader_laws.specs.Tellings.{IsCommonToAll}

-- an atom of one of the files has the key
pub record IsAtomIn (files : List LoadedFile) (key : AtomKey) : Type 0 where
  pub file : LoadedFile
  pub among : In file files
  pub atom : Atom
  pub of_file : In atom file.atoms
  pub named : atom.key ≡ key

-- the atom of a common symbol of one of the files, which wins its name, has it
pub record IsCommonIn (command : Command) (files : List LoadedFile) (key : AtomKey) : Type 0 where
  pub file : LoadedFile
  pub among : In file files
  pub name : List ℕ
  pub winner : Winner
  pub wins : winner_of command files name ≡ Some winner
  pub named : winner.atom ≡ key
  pub of_file : key.file ≡ file.id
  pub common : key.section ≡ COMMON_SECTION

abbrev pub IsHeld : Command → List LoadedFile → AtomKey → Type 0
IsHeld command files key = IsAtomIn files key ⊎ IsCommonIn command files key

-- whole files, whose common symbols are external
pub record AreSolid (files : List LoadedFile) : Type 0 where
  pub whole : All IsWholeFile files
  pub commons : All (λ file. All IsCommonToAll file.object.symbols) files

-- ---- an offset of a linked section

pub cut_in : (files : List LoadedFile) (file : LoadedFile) (number : ℕ) (section : Section) (at : ℕ) → AreSolid files → In file files → section_numbered file.object.sections number ≡ Some section → is_dropped section ≡ false → IsAtomIn files (key_at file.id number (cut_of file.object number section at))
cut_in files file number section at solid h is linked =
    let there = atom_there file.object file.id number section at is linked in
    record {
      file = file;
      among = h;
      atom = there.0;
      of_file = subst (λ (xs : List Atom). In there.0 xs) (sym (from_all IsWholeFile files file solid.whole h).atoms) there.1;
      named = there.2;
    }

-- ---- what stands for an atom

literal_key : (object : Object) (atom : Atom) (l : Literal) → as_literal object atom ≡ Some l → atom.key ≡ l.key
unfolding as_literal
literal_key object atom l e =
    let section = from_then _ (section_numbered object.sections atom.key.section) l e in
    ap (λ (x : Literal). x.key) (from_when (is_literal section.0.kind) _ l section.2).1

literal_in : (files : List LoadedFile) (l : Literal) → In l (literals files) → IsAtomIn files l.key
unfolding literals literals_in
literal_in files l h =
    let file = from_flat literals_in files l h in
    let atom = from_filter_map (as_literal file.0.object) file.0.atoms l file.2 in
    record { file = file.0; among = file.1; atom = atom.0; of_file = atom.1; named = literal_key file.0.object atom.0 l atom.2 }

among_in : (files : List LoadedFile) (l : Literal) (some : List Literal) → ((other : Literal) → In other some → In other (literals files)) → In l (literals files) → IsAtomIn files (representative_among l some).representative
unfolding representative_among
among_in files l [] all h = literal_in files l h
among_in files l (first ∷ rest) all h = literal_in files first (all first (inl refl))

representative_in : (files : List LoadedFile) (r : Representative) → In r (representatives_of files) → IsAtomIn files r.representative
unfolding representatives_of representative_of
representative_in files r h =
    let l = from_map (representative_of (literals files)) (literals files) r h in
    subst (λ (s : Representative). IsAtomIn files s.representative) l.2
    (among_in files l.0 (filter (is_same l.0) (literals files)) (λ other k. (from_filter (is_same l.0) (literals files) other k).0) l.1)

stand_in : (command : Command) (files : List LoadedFile) (key : AtomKey) → IsHeld command files key → IsHeld command files (stands_for (representatives_of files) key)
stand_in command files key is = by (literal_at (representatives_of files) key) refl
  where
    by : (o : Option Representative) → literal_at (representatives_of files) key ≡ o → IsHeld command files (option_map_or (λ r. r.representative) o key)
    by None e = is
    by (Some r) e = inl (representative_in files r (find_some (λ (s : Representative). is_eq (compare_keys s.literal key)) (representatives_of files) r e).0)

-- ---- symbols

-- a definition stands in an atom of its file
defined_in : (files : List LoadedFile) (file : LoadedFile) (index number value : ℕ) (place : Place) → AreSolid files → In file files → place_of file index (Defined number value) ≡ Some place → IsAtomIn files place.atom
unfolding place_of place_in place_at
defined_in files file index number value place solid h is = by (from_then (place_in file number value) (section_numbered file.object.sections number) place is)
  where
    by : (section : Section) × (section_numbered file.object.sections number ≡ Some section) × (place_in file number value section ≡ Some place) → IsAtomIn files place.atom
    by (section, numbered, there) = linked (is_dropped section) refl
      where
        linked : (b : Bool) → is_dropped section ≡ b → IsAtomIn files place.atom
        linked true e = no_some place (rw e at there)
        linked false e =
            let same = some_is _ place (rw e at there) in
            subst (λ (p : Place). IsAtomIn files p.atom) same (cut_in files file number section _ solid h numbered e)

-- and a common symbol in one of its own
record IsCommonPlace (file : LoadedFile) (place : Place) : Type 0 where
  pub of_file : place.atom.file ≡ file.id
  pub common : place.atom.section ≡ COMMON_SECTION

common_in : (file : LoadedFile) (index align size : ℕ) (place : Place) → place_of file index (Common align size) ≡ Some place → IsCommonPlace file place
unfolding place_of
common_in file index align size place is =
    let given : Place = record { atom = record { file = file.id; section = COMMON_SECTION; offset = index }; offset = 0 } in
    let same : given ≡ place = some_is given place is in
    record { of_file = ap (λ (p : Place). p.atom.file) (sym same); common = ap (λ (p : Place). p.atom.section) (sym same) }

-- what stands where it does
kinds : (files : List LoadedFile) (file : LoadedFile) (index : ℕ) (kind : SymbolKind) (place : Place) → AreSolid files → In file files → place_of file index kind ≡ Some place → IsAtomIn files place.atom ⊎ ((is_common kind ≡ true) × IsCommonPlace file place)
unfolding place_of
kinds files file index (Defined number value) place solid h is = inl (defined_in files file index number value place solid h is)
kinds files file index (Common align size) place solid h is = inr (refl, common_in file index align size place is)
kinds files file index _ place solid h is = no_some place is

winner_held : (command : Command) (files : List LoadedFile) (name : List ℕ) (winner : Winner) → AreSolid files → winner_of command files name ≡ Some winner → IsHeld command files winner.atom
winner_held command files name winner solid e = by (kinds files is.file is.index is.symbol.kind is.place solid is.among is.stands)
  where
    is : IsWinnerIn files name winner
    is = winner_there command files name winner e

    by : IsAtomIn files is.place.atom ⊎ ((is_common is.symbol.kind ≡ true) × IsCommonPlace is.file is.place) → IsHeld command files winner.atom
    by (inl atom) = inl (subst (IsAtomIn files) is.atom atom)
    by (inr (common, place)) =
        inr (record {
          file = is.file;
          among = is.among;
          name = name;
          winner = winner;
          wins = e;
          named = refl;
          of_file = ap (λ (k : AtomKey). k.file) (sym is.atom) ∙ place.of_file;
          common = ap (λ (k : AtomKey). k.section) (sym is.atom) ∙ place.common;
        })

-- ---- goals

-- a goal in an atom is in one of the files or in a common symbol
abbrev pub HasAtom : Command → List LoadedFile → Goal → Type 0
HasAtom command files (Def key offset) = IsHeld command files key
HasAtom command files (WeakSelf name key offset) = IsHeld command files key
HasAtom command files _ = Unit {0}

outer_atom : (command : Command) (files : List LoadedFile) (flat weak : Bool) (name : List ℕ) (provider : Option Provider) → HasAtom command files (outer_goal flat weak name provider)
outer_atom command files flat weak name (Some provider) = tt
outer_atom command files true weak name None = tt
outer_atom command files false weak name None = tt

winner_atom : (command : Command) (files : List LoadedFile) (winner : Winner) → IsHeld command files winner.atom → HasAtom command files (winner_goal (representatives_of files) winner)
winner_atom command files winner is = by (winner.weak && winner.exported)
  where
    by : (b : Bool) → HasAtom command files (if b then WeakSelf winner.name (stands_for (representatives_of files) winner.atom) winner.offset else goal_at (representatives_of files) winner.atom winner.offset)
    by true = stand_in command files winner.atom is
    by false = stand_in command files winner.atom is

pub name_atom : (files : List LoadedFile) (libs : LibraryGraph) (command : Command) (name : List ℕ) → AreSolid files → HasAtom command files (goal_of_name files libs command name)
unfolding goal_of_name
name_atom files libs command name solid = by (winner_of command files name) refl
  where
    header : (b : Bool) → HasAtom command files (if b then Header else outer_goal (is_flat command name) (is_weak files name) name (provider_of libs name))
    header true = tt
    header false = outer_atom command files (is_flat command name) (is_weak files name) name (provider_of libs name)

    by : (o : Option Winner) → winner_of command files name ≡ o → HasAtom command files (name_goal (representatives_of files) command.dylib (is_flat command name) (is_weak files name) name (provider_of libs name) o)
    by (Some winner) e = winner_atom command files winner (winner_held command files name winner solid e)
    by None e = header (is_header_symbol command.dylib name)

symbol_atom : (files : List LoadedFile) (libs : LibraryGraph) (command : Command) (file : LoadedFile) (index : ℕ) (symbol : Symbol) → AreSolid files → In file files → slice_get file.object.symbols index ≡ Some symbol → HasAtom command files (goal_of_symbol files libs command file (index, symbol))
unfolding goal_of_symbol
symbol_atom files libs command file index symbol solid h is = by symbol.external refl
  where
    seen : IsCommonToAll symbol
    seen = from_all IsCommonToAll file.object.symbols symbol (from_all (λ (f : LoadedFile). All IsCommonToAll f.object.symbols) files file solid.commons h) (in_slice file.object.symbols index symbol is)

    own : symbol.external ≡ false → (place : Place) → IsAtomIn files place.atom ⊎ ((is_common symbol.kind ≡ true) × IsCommonPlace file place) → IsAtomIn files place.atom
    own hidden place (inl atom) = atom
    own hidden place (inr (common, there)) = absurd (false≢true (sym hidden ∙ seen common))

    local : symbol.external ≡ false → (o : Option Place) → place_of file index symbol.kind ≡ o → HasAtom command files (local_goal (representatives_of files) o)
    local hidden None e = tt
    local hidden (Some place) e = stand_in command files place.atom (inl (own hidden place (kinds files file index symbol.kind place solid h e)))

    by : (b : Bool) → symbol.external ≡ b → HasAtom command files (if b then goal_of_name files libs command symbol.name else local_goal (representatives_of files) (place_of file index symbol.kind))
    by true e = name_atom files libs command symbol.name solid
    by false e = local e (place_of file index symbol.kind) refl

-- the goal of a target that is there
pub target_held : (files : List LoadedFile) (libs : LibraryGraph) (command : Command) (file : LoadedFile) (target : Target) → AreSolid files → In file files → IsTargetOf file.object file.id target → HasAtom command files (goal_of files libs command file target)
unfolding goal_of
target_held files libs command file (Name index) solid h (symbol, there) = rw there (symbol_atom files libs command file index symbol solid h there)
target_held files libs command file (Local atom offset) solid h place =
    stand_in command files atom (inl (subst (IsAtomIn files) (sym place.named) (cut_in files file place.number place.section place.at solid h place.numbered place.linked)))

-- ---- the goals of a file's symbols

-- the goal of a symbol is at its index
numbered_at : (n : ℕ) (xs : List Symbol) (k : ℕ) (x : Symbol) → slice_get xs k ≡ Some x → slice_get (enumerate_from n xs) k ≡ Some (n + k, x)
numbered_at n [] k x e = no_some x e
numbered_at n (y ∷ ys) zero x e = let here : n ≡ n + 0 = omega arith in ap (λ (m : ℕ). Some (m, y)) here ∙ ap (λ (z : Symbol). Some (n + 0, z)) (some_is y x e)
numbered_at n (y ∷ ys) (suc k) x e = let same : n + 1 + k ≡ n + suc k = omega arith in numbered_at (n + 1) ys k x e ∙ ap (λ (m : ℕ). Some (m, x)) same

pub goal_there : (files : List LoadedFile) (libs : LibraryGraph) (command : Command) (file : LoadedFile) (index : ℕ) (symbol : Symbol) → slice_get file.object.symbols index ≡ Some symbol → slice_get (goals_of_symbols files libs command file) index ≡ Some (goal_of_symbol files libs command file (index, symbol))
unfolding goals_of_symbols
goal_there files libs command file index symbol is =
    let same : 0 + index ≡ index = omega arith in
    slice_get-map (goal_of_symbol files libs command file) (enumerate_from 0 file.object.symbols) index
    ∙ ap (option_map (goal_of_symbol files libs command file)) (numbered_at 0 file.object.symbols index symbol is)
    ∙ ap (λ (n : ℕ). Some (goal_of_symbol files libs command file (n, symbol))) same
