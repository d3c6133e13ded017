-- What the entry and the references of a link lead to is near: within 2^63 bytes of the start of its atom.
use Rattle.std.proofs.Common.{◌≡◌, ℕ, ◌+◌, ◌-◌, ◌<◌, ◌≤◌, ◌^◌, ◌&&◌, Bool, true, false, List, Option, Some, None, refl, ap, ◌∙◌, arith, subst, if◌then◌else◌}
use Rattle.std.specs.Prelude.{All, IfSome, slice_get, slice_index_or}
use Rattle.std.specs.List.{enumerate_from}
use Rattle.std.proofs.lemmas.Option.{get_or_from_slice_get}
use Rattle.list_lemmas.proofs.Members.{from_map}
use Rattle.input_files.proofs.EachLemmas.{all_from, all_has}
use Rattle.mo_types.specs.Atoms.{cut_of}
use Rattle.mo_types.specs.Loaded.{IsWholeFile}
use Rattle.mo_types.specs.RelocationRules.{section_numbered}
use Rattle.mo_types.specs.Whole.{IsDefinedWithin, IsWhole, IsWholeSection, is_dropped}
use Rattle.mo_types.specs.declared.goal.Goal.TheVariants.{Def, WeakSelf, Header}
use Rattle.mo_types.specs.declared.loaded.LoadedFile.{LoadedFile}
use Rattle.mo_types.specs.declared.object.Object.{Object}
use Rattle.mo_types.specs.declared.object.Section.{Section}
use Rattle.mo_types.specs.declared.object.Symbol.{Symbol}
use Rattle.mo_types.specs.declared.object.SymbolKind.{SymbolKind}
use Rattle.mo_types.specs.declared.object.SymbolKind.TheVariants.{Defined, Common}
use Rattle.mo_types.specs.declared.key.AtomKey.{AtomKey}
use Rattle.mo_types.specs.declared.key.FileId.{FileId}
use Rattle.mo_types.specs.declared.reference.Ref.{Ref}
use Rattle.mo_types.specs.declared.reference.Target.{Target}
use Rattle.mo_types.specs.declared.reference.Target.TheVariants.{Name, Local}
use Rattle.command_line.specs.declared.command.Command.{Command}
use Rattle.lib_bind.specs.Provides.{provider_of}
use Rattle.lib_bind.specs.declared.library.LibraryGraph.{LibraryGraph}
use Rattle.lib_bind.specs.declared.provider.Provider.{Provider}
use Rattle.literal_merge.specs.Representatives.{representatives_of}
use Rattle.literal_merge.specs.Standing.{stands_for}
use Rattle.resolve.specs.Goals.{goal_of_name, goal_of_symbol, goal_table, goals_of_symbols, is_flat, is_header_symbol, local_goal, name_goal, outer_goal}
use Rattle.symbol_winners.specs.Places.{place_at, place_in, place_of}
use Rattle.symbol_winners.specs.SymbolTable.{SymbolTable, is_weak}
use Rattle.symbol_winners.specs.Winners.{winner_of}
use Rattle.symbol_winners.specs.declared.places.Place.{Place}
use Rattle.symbol_winners.specs.declared.winner.Winner.{Winner}
use Rattle.ref_meet.specs.Near.{HasNearEnds, HaveNearEnds, IsNear, IsNearTarget}
use Rattle.slot_plan.specs.declared.list.Slots.{Slots}
use Rattle.image_make.specs.Near.{AreNear}
use Rattle.link_files.specs.Linked.{making}
use Rattle.link_files.proofs.Cuts.{at_place}
use Rattle.link_files.proofs.Lists.{from_numbered, from_then, in_slice, no_some, some_is}
use Rattle.link_files.proofs.Refs.{IsName, IsRead, IsTargetOf, is_read}
use Rattle.link_files.proofs.WinnerPlaces.{IsWinnerIn, winner_there}

-- ---- where names and symbols lead

-- a definition lies in its section
place_low : (file : LoadedFile) (index : ℕ) (kind : SymbolKind) (place : Place) → IsWhole file.object → IsDefinedWithin file.object.sections kind → place_of file index kind ≡ Some place → place.offset < 2 ^ 63
unfolding place_of place_in place_at
place_low file index (Defined number value) place whole within is = by (from_then (place_in file number value) (section_numbered file.object.sections number) place is)
  where
    by : (section : Section) × (section_numbered file.object.sections number ≡ Some section) × (place_in file number value section ≡ Some place) → place.offset < 2 ^ 63
    by (section, numbered, there) = linked (is_dropped section) refl
      where
        at : (k : ℕ) × (1 + k ≡ number) × (slice_get file.object.sections k ≡ Some section)
        at = at_place file.object.sections number section numbered

        one : IsWholeSection section
        one = all_has IsWholeSection file.object.sections section whole.sections (in_slice file.object.sections at.0 section at.2)

        found : slice_index_or file.object.sections (number - 1) section ≡ section
        found = let first : number - 1 ≡ at.0 = omega (arith, at.1) in ap (λ (n : ℕ). slice_index_or file.object.sections n section) first ∙ get_or_from_slice_get file.object.sections at.0 section section at.2

        high : value ≤ section.address + section.size
        high = subst (λ (s : Section). value ≤ s.address + s.size) found (within.high section)

        linked : (b : Bool) → is_dropped section ≡ b → place.offset < 2 ^ 63
        linked true e = no_some place (rw e at there)
        linked false e =
            let same = some_is _ place (rw e at there) in
            let few = one.addresses in
            let low : value - section.address - cut_of file.object number section (value - section.address) < 2 ^ 63 = omega (arith, high, few) in
            subst (λ (p : Place). p.offset < 2 ^ 63) same low
place_low file index (Common align size) place whole within is =
    let low : 0 < 2 ^ 63 = omega arith in
    subst (λ (p : Place). p.offset < 2 ^ 63) (some_is _ place is) low
place_low file index _ place whole within is = no_some place is

winner_low : (command : Command) (files : List LoadedFile) (name : List ℕ) (winner : Winner) → All IsWholeFile files → winner_of command files name ≡ Some winner → winner.offset < 2 ^ 63
winner_low command files name winner whole e =
    let is : IsWinnerIn files name winner = winner_there command files name winner e in
    let one : IsWhole is.file.object = (all_has IsWholeFile files is.file whole is.among).object in
    let within : IsDefinedWithin is.file.object.sections is.symbol.kind = all_has (λ (symbol : Symbol). IsDefinedWithin is.file.object.sections symbol.kind) is.file.object.symbols is.symbol one.symbols (in_slice is.file.object.symbols is.index is.symbol is.numbered) in
    subst (λ (n : ℕ). n < 2 ^ 63) is.offset (place_low is.file is.index is.symbol.kind is.place one within is.stands)

pub name_near : (files : List LoadedFile) (libs : LibraryGraph) (command : Command) (name : List ℕ) → All IsWholeFile files → IsNear (goal_of_name files libs command name)
unfolding goal_of_name
name_near files libs command name whole = by (winner_of command files name) refl
  where
    outer : (flat weak : Bool) (provider : Option Provider) → IsNear (outer_goal flat weak name provider)
    outer flat weak (Some provider) = tt
    outer true weak None = tt
    outer false weak None = tt

    header : (b : Bool) → IsNear (if b then Header else outer_goal (is_flat command name) (is_weak files name) name (provider_of libs name))
    header true = tt
    header false = outer (is_flat command name) (is_weak files name) (provider_of libs name)

    weakly : (b : Bool) (winner : Winner) → winner.offset < 2 ^ 63 → IsNear (if b then WeakSelf winner.name (stands_for (representatives_of files) winner.atom) winner.offset else Def (stands_for (representatives_of files) winner.atom) winner.offset)
    weakly true winner low = low
    weakly false winner low = low

    by : (o : Option Winner) → winner_of command files name ≡ o → IsNear (name_goal (representatives_of files) command.dylib (is_flat command name) (is_weak files name) name (provider_of libs name) o)
    by (Some winner) e = weakly (winner.weak && winner.exported) winner (winner_low command files name winner whole e)
    by None e = header (is_header_symbol command.dylib name)

-- the goal of a symbol
symbol_near : (files : List LoadedFile) (libs : LibraryGraph) (command : Command) (file : LoadedFile) (index : ℕ) (symbol : Symbol) → All IsWholeFile files → IsWhole file.object → slice_get file.object.symbols index ≡ Some symbol → IsNear (goal_of_symbol files libs command file (index, symbol))
unfolding goal_of_symbol
symbol_near files libs command file index symbol whole one is = by symbol.external
  where
    within : IsDefinedWithin file.object.sections symbol.kind
    within = all_has (λ (s : Symbol). IsDefinedWithin file.object.sections s.kind) file.object.symbols symbol one.symbols (in_slice file.object.symbols index symbol is)

    local : (o : Option Place) → place_of file index symbol.kind ≡ o → IsNear (local_goal (representatives_of files) o)
    local None e = tt
    local (Some place) e = place_low file index symbol.kind place one within e

    by : (b : Bool) → IsNear (if b then goal_of_name files libs command symbol.name else local_goal (representatives_of files) (place_of file index symbol.kind))
    by true = name_near files libs command symbol.name whole
    by false = local (place_of file index symbol.kind) refl

symbols_near : (files : List LoadedFile) (libs : LibraryGraph) (command : Command) (file : LoadedFile) → All IsWholeFile files → IsWhole file.object → All IsNear (goals_of_symbols files libs command file)
unfolding goals_of_symbols
symbols_near files libs command file whole one =
    all_from IsNear (goals_of_symbols files libs command file)
    (λ goal h.
    let p = from_map (goal_of_symbol files libs command file) (enumerate_from 0 file.object.symbols) goal h in
    let k = from_numbered 0 file.object.symbols p.0 p.1 in
    let first : k.0 ≡ 0 + k.0 = omega arith in
    let numbered : slice_get file.object.symbols p.0.0 ≡ Some p.0.1 = subst (λ (n : ℕ). slice_get file.object.symbols n ≡ Some p.0.1) (first ∙ k.1) k.2 in
    subst IsNear p.2 (symbol_near files libs command file p.0.0 p.0.1 whole one numbered))

table_near : (files : List LoadedFile) (libs : LibraryGraph) (command : Command) → All IsWholeFile files → All (All IsNear) (goal_table files libs command)
table_near files libs command whole =
    all_from (All IsNear) (goal_table files libs command)
    (λ goals h.
    let file = from_map (goals_of_symbols files libs command) files goals h in
    subst (All IsNear) file.2 (symbols_near files libs command file.0 whole (all_has IsWholeFile files file.0 whole file.1).object))

-- ---- where references lead

-- a target in a section that was read whole
target_near : (object : Object) (file : FileId) (target : Target) → IsWhole object → IsTargetOf object file target → IsNearTarget target
target_near object file (Name index) whole is = tt
target_near object file (Local atom offset) whole is =
    let place = at_place object.sections is.number is.section is.numbered in
    let one : IsWholeSection is.section = all_has IsWholeSection object.sections is.section whole.sections (in_slice object.sections place.0 is.section place.2) in
    let few = one.addresses in
    omega (arith, is.from_cut, is.within, few)

ref_near : (object : Object) (file : FileId) (r : Ref) → IsWhole object → IsRead object file r → HasNearEnds r
ref_near object file r whole read = record { target = target_near object file r.target whole read.target; minus = by r.minus read.subtracted }
  where
    by : (o : Option Target) → IfSome o IsName → IfSome o IsNearTarget
    by None named = tt
    by (Some (Name index)) named = tt
    by (Some (Local atom offset)) named = absurd named

refs_near : (files : List LoadedFile) → All IsWholeFile files → HaveNearEnds files
refs_near files whole =
    all_from (λ (file : LoadedFile). All HasNearEnds file.refs) files
    (λ file h.
    let one : IsWholeFile file = all_has IsWholeFile files file whole h in
    all_from HasNearEnds file.refs (λ r k. ref_near file.object file.id r one.object (is_read file.object file.id file.refs r one.refs k)))

-- ---- what an image is made of

pub making_near : (command : Command) (libs : LibraryGraph) (files : List LoadedFile) (symbols : SymbolTable) (keys : List AtomKey) (slots : Slots) → All IsWholeFile files → AreNear (making command libs files symbols keys slots)
unfolding making
making_near command libs files symbols keys slots whole = record {
  entry = name_near files libs command command.entry whole;
  goals = table_near files libs command whole;
  refs = refs_near files whole;
}
