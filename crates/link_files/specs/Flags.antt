-- The flags of an image's header but for those that its pointers and sections tell (`loader.h`: mach_header_64).
use Rattle.std.specs.Prelude.{ℕ, ◌+◌, ◌&&◌, Bool, List, if◌then◌else◌}
use Rattle.std.specs.List.{list_any}
use Rattle.lib_bind.specs.declared.library.LibraryGraph.{LibraryGraph}
use Rattle.mark_core.specs.Kept.{has}
use Rattle.command_line.specs.declared.command.Command.{Command}
use Rattle.mo_format.specs.declared.loader.TheConstants.{MH_DYLDLINK, MH_NO_REEXPORTED_DYLIBS, MH_PIE, MH_TWOLEVEL, MH_WEAK_DEFINES}
use Rattle.mo_types.specs.declared.key.AtomKey.{AtomKey}
use Rattle.symbol_winners.specs.SymbolTable.{SymbolTable}
use Rattle.liveness.specs.Roots.{winner_atom}
use Rattle.literal_merge.specs.declared.representative.Representative.{Representative}
use Rattle.symbol_winners.specs.declared.winner.Winner.{Winner}

-- a weak definition that other images see, whose atom is kept
unfoldable pub is_weak_export : List Representative → List AtomKey → Winner → Bool
is_weak_export literals keys winner = winner.weak && winner.exported && has keys (winner_atom literals winner)

abbrev pub weak_flag : Bool → ℕ
weak_flag weak = if weak then MH_WEAK_DEFINES else 0

abbrev pub kind_flag : Bool → Bool → ℕ
kind_flag dylib reexports = if dylib then (if reexports then 0 else MH_NO_REEXPORTED_DYLIBS) else MH_PIE

-- Two-level names; whether weak definitions are exported; and an executable may stand anywhere.
unfoldable pub header_flags : Command → LibraryGraph → SymbolTable → List AtomKey → ℕ
header_flags command libs symbols keys =
    MH_DYLDLINK + MH_TWOLEVEL + weak_flag (list_any (is_weak_export symbols.literals keys) symbols.winners)
    + kind_flag command.dylib (list_any (λ library. library.reexport) libs.libraries)
