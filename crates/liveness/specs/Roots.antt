-- The atoms from which all that an image keeps is reached (ld(1): -dead_strip, -u, -exported_symbols_list; `nlist.h`:
-- N_NO_DEAD_STRIP; `loader.h`: S_MOD_INIT_FUNC_POINTERS, S_ATTR_NO_DEAD_STRIP).
use Rattle.std.specs.Prelude.{ℕ, ◌==◌, ◌&&◌, ◌||◌, ◌++◌, bit_and, Bool, false, not, List, [], Option, None, if◌then◌else◌}
use Rattle.std.specs.List.{enumerate_from, filter_map, flat_map, list_any}
use Rattle.std.specs.Option.{option_and_then, option_map, option_map_or, option_to_list}
use Rattle.mark_core.specs.Kept.{same_atom}
use Rattle.command_line.specs.declared.command.Command.{Command}
use Rattle.mo_format.specs.declared.loader.TheConstants.{S_ATTR_NO_DEAD_STRIP, S_MOD_INIT_FUNC_POINTERS}
use Rattle.mo_types.specs.Candidates.{word_of}
use Rattle.mo_types.specs.Rows.{when}
use Rattle.mo_types.specs.declared.atom.Atom.{Atom}
use Rattle.mo_types.specs.declared.key.AtomKey.{AtomKey}
use Rattle.mo_types.specs.declared.key.TheConstants.{COMMON_SECTION}
use Rattle.mo_types.specs.declared.loaded.LoadedFile.{LoadedFile}
use Rattle.mo_types.specs.declared.object.Object.{Object}
use Rattle.mo_types.specs.declared.object.Section.{Section}
use Rattle.mo_types.specs.declared.object.Symbol.{Symbol}
use Rattle.mo_types.specs.RelocationRules.{section_numbered}
use Rattle.literal_merge.specs.Standing.{stands_for}
use Rattle.symbol_winners.specs.SymbolTable.{SymbolTable}
use Rattle.symbol_winners.specs.Places.{place_of}
use Rattle.symbol_winners.specs.Winners.{winner_named}
use Rattle.literal_merge.specs.declared.representative.Representative.{Representative}
use Rattle.symbol_winners.specs.declared.winner.Winner.{Winner}

abbrev pub has_atom : List AtomKey → AtomKey → Bool
has_atom atoms atom = list_any (same_atom atom) atoms

-- ---- the symbols that stand in atoms

-- the atom in which a file's symbol of an index stands
abbrev pub symbol_atom : LoadedFile → ℕ × Symbol → Option AtomKey
symbol_atom file p = option_map (λ place. place.atom) (place_of file p.0 p.1.kind)

-- a file's symbol is the winner of its name
unfoldable pub wins : List Winner → LoadedFile → ℕ × Symbol → Bool
wins winners file p = option_map_or (λ winner. winner.word == word_of file.id p.0 p.1) (winner_named winners p.1.name) false

-- that of an external symbol, and that of one that wins
unfoldable pub external_atom : LoadedFile → ℕ × Symbol → Option AtomKey
external_atom file p = if p.1.external then symbol_atom file p else None

unfoldable pub winning_atom : List Winner → LoadedFile → ℕ × Symbol → Option AtomKey
winning_atom winners file p = option_and_then (when (wins winners file p)) (external_atom file p)

-- the atoms of a file in which an external symbol stands, and those in which one stands that wins
unfoldable pub external_atoms : LoadedFile → List AtomKey
external_atoms file = filter_map (external_atom file) (enumerate_from 0 file.object.symbols)

unfoldable pub winning_atoms : List Winner → LoadedFile → List AtomKey
winning_atoms winners file = filter_map (winning_atom winners file) (enumerate_from 0 file.object.symbols)

-- ---- without -dead_strip

-- An atom is kept by itself, unless another literal stands for it, or it has external symbols and each of them names a
-- winner elsewhere.
abbrev pub is_plain : List Representative → List AtomKey → List AtomKey → AtomKey → Bool
is_plain literals external winning atom =
    same_atom (stands_for literals atom) atom && (not (has_atom external atom) || has_atom winning atom)

unfoldable pub plain_root : List Representative → List AtomKey → List AtomKey → Atom → Option AtomKey
plain_root literals external winning atom = when (is_plain literals external winning atom.key) atom.key

-- a common symbol's own atom
unfoldable pub common_root : AtomKey → Option AtomKey
common_root atom = when (atom.section == COMMON_SECTION) atom

-- those of a file, and the common symbols of the file that win
unfoldable pub plain_roots : SymbolTable → LoadedFile → List AtomKey
plain_roots symbols file =
    filter_map (plain_root symbols.literals (external_atoms file) (winning_atoms symbols.winners file)) file.atoms
    ++ filter_map common_root (winning_atoms symbols.winners file)

-- the atom in which a winner stands
abbrev pub winner_atom : List Representative → Winner → AtomKey
winner_atom literals winner = stands_for literals winner.atom

-- the literal that stands for a winner's own, where another one does: the winner stands there, whichever file has its symbol
unfoldable pub merged_root : List Representative → Winner → Option AtomKey
merged_root literals winner = when (not (same_atom (winner_atom literals winner) winner.atom)) (winner_atom literals winner)

-- ---- with -dead_strip

-- functions that run before the program, or what an attribute marks
abbrev pub is_kept_section : Section → Bool
is_kept_section section = section.kind == S_MOD_INIT_FUNC_POINTERS || not (bit_and section.attributes S_ATTR_NO_DEAD_STRIP == 0)

-- an atom of a section that is kept
unfoldable pub section_root : Object → Atom → Option AtomKey
section_root object atom = when (option_map_or is_kept_section (section_numbered object.sections atom.key.section) false) atom.key

-- the atom of an external symbol, where it wins, in the literal that stands for its own
abbrev pub winning_root : SymbolTable → LoadedFile → ℕ × Symbol → Option AtomKey
winning_root symbols file p = option_map (stands_for symbols.literals) (winning_atom symbols.winners file p)

-- the atom of a symbol that is marked as kept (N_NO_DEAD_STRIP)
unfoldable pub marked_root : SymbolTable → LoadedFile → ℕ × Symbol → Option AtomKey
marked_root symbols file p =
    if p.1.no_strip then (if p.1.external then winning_root symbols file p else symbol_atom file p) else None

unfoldable pub kept_roots : SymbolTable → LoadedFile → List AtomKey
kept_roots symbols file =
    filter_map (section_root file.object) file.atoms
    ++ filter_map (marked_root symbols file) (enumerate_from 0 file.object.symbols)

-- the atom in which a name's winner stands
unfoldable pub name_root : SymbolTable → List ℕ → Option AtomKey
name_root symbols name = option_map (winner_atom symbols.literals) (winner_named symbols.winners name)

-- those of the entry of an executable, and of the names that the command wants
unfoldable pub wanted_roots : Command → SymbolTable → List AtomKey
wanted_roots command symbols =
    (if command.dylib then [] else option_to_list (name_root symbols command.entry)) ++ filter_map (name_root symbols) command.roots

-- the winners that other images see, of a library or where the command lists what is exported
unfoldable pub exported_root : SymbolTable → Winner → Option AtomKey
exported_root symbols winner = when winner.exported (winner_atom symbols.literals winner)

unfoldable pub exported_roots : Command → SymbolTable → List AtomKey
exported_roots command symbols = if command.dylib || command.export_given then filter_map (exported_root symbols) symbols.winners else []

-- ---- all

unfoldable pub roots : Command → SymbolTable → List LoadedFile → List AtomKey
roots command symbols files =
    if command.dead_strip then
    wanted_roots command symbols ++ exported_roots command symbols ++ flat_map (kept_roots symbols) files
    else flat_map (plain_roots symbols) files ++ filter_map (merged_root symbols.literals) symbols.winners
