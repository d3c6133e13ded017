-- Where names and symbols lead (`loader.h`: two-level namespaces, weak definitions; `nlist.h`: N_EXT).
use Rattle.std.specs.Prelude.{ℕ, ◌&&◌, ◌||◌, Bool, List, codes, map, slice_get, unwrap_or, Option, Some, None, if◌then◌else◌}
use Rattle.std.specs.List.{enumerate_from, find}
use Rattle.std.specs.Option.{option_map_or}
use Rattle.std.specs.Ordering.{is_eq}
use Rattle.std.specs.Str.{bytes_eq}
use Rattle.lib_bind.specs.Provides.{provider_of}
use Rattle.lib_bind.specs.declared.library.LibraryGraph.{LibraryGraph}
use Rattle.lib_bind.specs.declared.provider.Provider.{Provider}
use Rattle.command_line.specs.declared.command.Command.{Command}
use Rattle.mo_types.specs.Keys.{compare_keys}
use Rattle.mo_types.specs.declared.goal.Goal.{Goal}
use Rattle.mo_types.specs.declared.goal.Goal.TheVariants.{Def, WeakSelf, Header, Import, Flat, Nobody}
use Rattle.mo_types.specs.declared.key.AtomKey.{AtomKey}
use Rattle.mo_types.specs.declared.loaded.LoadedFile.{LoadedFile}
use Rattle.mo_types.specs.declared.object.Symbol.{Symbol}
use Rattle.mo_types.specs.declared.reference.Target.{Target}
use Rattle.mo_types.specs.declared.reference.Target.TheVariants as target
use Rattle.symbol_winners.specs.SymbolTable.{is_weak}
use Rattle.symbol_winners.specs.Places.{place_of}
use Rattle.literal_merge.specs.Representatives.{representatives_of}
use Rattle.literal_merge.specs.Standing.{stands_for}
use Rattle.symbol_winners.specs.Winners.{lists, winner_of}
use Rattle.symbol_winners.specs.declared.places.Place.{Place}
use Rattle.literal_merge.specs.declared.representative.Representative.{Representative}
use Rattle.symbol_winners.specs.declared.winner.Winner.{Winner}

-- a place, in the atom that stands for its own
abbrev pub goal_at : List Representative → AtomKey → ℕ → Goal
goal_at literals atom offset = Def (stands_for literals atom) offset

-- an exported weak winner is looked up when the image is loaded, as another image may have a definition of the name
abbrev pub winner_goal : List Representative → Winner → Goal
winner_goal literals winner =
    if winner.weak && winner.exported then WeakSelf winner.name (stands_for literals winner.atom) winner.offset
    else goal_at literals winner.atom winner.offset

-- a name of the image's header
abbrev pub is_header_symbol : Bool → List ℕ → Bool
is_header_symbol dylib name =
    bytes_eq name (codes "___dso_handle") || bytes_eq name (if dylib then codes "__mh_dylib_header" else codes "__mh_execute_header")

-- a name without a winner that isn't the header's, by the library that provides it and whether it may be missing
abbrev pub outer_goal : Bool → Bool → List ℕ → Option Provider → Goal
outer_goal flat weak name (Some provider) = Import name provider.ordinal provider.weak (provider.weak_library || weak)
outer_goal flat weak name None = if flat then Flat name else Nobody

-- a name, by its winner and its provider
abbrev pub name_goal : List Representative → Bool → Bool → Bool → List ℕ → Option Provider → Option Winner → Goal
name_goal literals dylib flat weak name provider (Some winner) = winner_goal literals winner
name_goal literals dylib flat weak name provider None = if is_header_symbol dylib name then Header else outer_goal flat weak name provider

-- whether a name that nothing provides is looked up in all images
abbrev pub is_flat : Command → List ℕ → Bool
is_flat command name = command.dynamic || lists command.flats name

-- where a name leads: to its winner, else to the header, else to the first library that provides it, else to whatever
-- image has it at run time, if the command allows that, else nowhere
unfoldable pub goal_of_name : List LoadedFile → LibraryGraph → Command → List ℕ → Goal
goal_of_name files graph command name =
    name_goal (representatives_of files) command.dylib (is_flat command name) (is_weak files name) name (provider_of graph name) (winner_of command files name)

abbrev pub local_goal : List Representative → Option Place → Goal
local_goal literals (Some place) = goal_at literals place.atom place.offset
local_goal literals None = Nobody

-- where a symbol of a file leads: an external one where its name does, and another one to its own place
unfoldable pub goal_of_symbol : List LoadedFile → LibraryGraph → Command → LoadedFile → ℕ × Symbol → Goal
goal_of_symbol files graph command file p =
    if p.1.external then goal_of_name files graph command p.1.name
    else local_goal (representatives_of files) (place_of file p.0 p.1.kind)

-- all symbols of a file, in order
unfoldable pub goals_of_symbols : List LoadedFile → LibraryGraph → Command → LoadedFile → List Goal
goals_of_symbols files graph command file = map (goal_of_symbol files graph command file) (enumerate_from 0 file.object.symbols)

-- those of each file, file by file
abbrev pub goal_table : List LoadedFile → LibraryGraph → Command → List (List Goal)
goal_table files graph command = map (goals_of_symbols files graph command) files

-- where a target of a file's reference leads
unfoldable pub goal_of : List LoadedFile → LibraryGraph → Command → LoadedFile → Target → Goal
goal_of files graph command file (target.Name index) =
    option_map_or (λ symbol. goal_of_symbol files graph command file (index, symbol)) (slice_get file.object.symbols index) Nobody
goal_of files graph command file (target.Local atom offset) = goal_at (representatives_of files) atom offset

-- the same by the goals of the file's symbols
abbrev pub target_goal : List Representative → List Goal → Target → Goal
target_goal literals goals (target.Name index) = unwrap_or (slice_get goals index) Nobody
target_goal literals goals (target.Local atom offset) = goal_at literals atom offset
