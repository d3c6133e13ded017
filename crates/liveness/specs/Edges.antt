-- What leads from one atom to another, so that the other is kept with it (ld(1): -dead_strip; `loader.h`:
-- S_ATTR_LIVE_SUPPORT; `mach-o/compact_unwind_encoding.h`).
use Rattle.std.specs.Prelude.{ℕ, ◌==◌, ◌++◌, bit_and, Bool, false, not, List, [], map, slice_get, Option, Some, None, if◌then◌else◌}
use Rattle.std.specs.List.{enumerate_from, flat_map}
use Rattle.std.specs.Option.{option_and_then, option_map, option_map_or, option_to_list}
use Rattle.lib_bind.specs.declared.library.LibraryGraph.{LibraryGraph}
use Rattle.command_line.specs.declared.command.Command.{Command}
use Rattle.mo_format.specs.declared.loader.TheConstants.{S_ATTR_LIVE_SUPPORT}
use Rattle.mo_types.specs.declared.edge.Edge.{Edge}
use Rattle.mo_types.specs.declared.goal.Goal.{Goal}
use Rattle.mo_types.specs.declared.goal.Goal.TheVariants.{Def, WeakSelf}
use Rattle.mo_types.specs.declared.key.AtomKey.{AtomKey}
use Rattle.mo_types.specs.declared.loaded.LoadedFile.{LoadedFile}
use Rattle.mo_types.specs.declared.object.Object.{Object}
use Rattle.mo_types.specs.declared.object.Section.{Section}
use Rattle.mo_types.specs.declared.reference.Ref.{Ref}
use Rattle.mo_types.specs.declared.reference.Target.{Target}
use Rattle.mo_types.specs.declared.reference.Target.TheVariants as target
use Rattle.mo_types.specs.declared.unwind.Unwind.{Unwind}
use Rattle.mo_types.specs.RelocationRules.{section_numbered}
use Rattle.resolve.specs.Goals.{goal_table}
use Rattle.literal_merge.specs.Standing.{stands_for}
use Rattle.literal_merge.specs.Representatives.{representatives_of}
use Rattle.literal_merge.specs.declared.representative.Representative.{Representative}

-- the atom in which a goal stands, where the image has it
abbrev pub goal_atom : Goal → Option AtomKey
goal_atom (Def atom offset) = Some atom
goal_atom (WeakSelf name atom offset) = Some atom
goal_atom _ = None

-- the atom to which a target of a file leads, by the goals of the file's symbols
abbrev pub target_atom : List Representative → List Goal → Target → Option AtomKey
target_atom literals goals (target.Name index) = option_and_then goal_atom (slice_get goals index)
target_atom literals goals (target.Local atom offset) = Some (stands_for literals atom)

abbrev pub edge_to : AtomKey → AtomKey → Edge
edge_to from to = record { from = from; to = to }

-- an edge to an atom, where there is one
abbrev pub edge_from : AtomKey → Option AtomKey → List Edge
edge_from from to = map (edge_to from) (option_to_list to)

-- from a reference's atom to that of its target, and in a difference to that of what is subtracted
unfoldable pub ref_edges : List Representative → List Goal → Ref → List Edge
ref_edges literals goals ref =
    edge_from ref.atom (target_atom literals goals ref.target)
    ++ edge_from ref.atom (option_and_then (target_atom literals goals) ref.minus)

-- from a function to what handles its exceptions, and to the data for that
unfoldable pub unwind_edges : List Representative → List Goal → Unwind → List Edge
unwind_edges literals goals unwind =
    edge_from unwind.atom (option_and_then (target_atom literals goals) unwind.personality)
    ++ edge_from unwind.atom (option_map (λ lsda. lsda.0) unwind.lsda)

-- the edges of a file, by the goals of its symbols
unfoldable pub file_edges : List Representative → List Goal → LoadedFile → List Edge
file_edges literals goals file = flat_map (ref_edges literals goals) file.refs ++ flat_map (unwind_edges literals goals) file.unwinds

-- a section that supports what is live
abbrev pub is_live_support : Section → Bool
is_live_support section = not (bit_and section.attributes S_ATTR_LIVE_SUPPORT == 0)

-- an atom stands in a section that supports what is live
unfoldable pub supports_live : Object → AtomKey → Bool
supports_live object atom = option_map_or is_live_support (section_numbered object.sections atom.section) false

-- a reference's edges where its atom supports what is live, and else none
unfoldable pub ref_supports : List Representative → List Goal → Object → Ref → List Edge
ref_supports literals goals object ref = if supports_live object ref.atom then ref_edges literals goals ref else []

unfoldable pub file_supports : List Representative → List Goal → LoadedFile → List Edge
file_supports literals goals file = flat_map (ref_supports literals goals file.object) file.refs

-- those of the file at a place, whose symbols have the goals there
abbrev pub edges_at : List Representative → List (List Goal) → ℕ × LoadedFile → List Edge
edges_at literals table p = option_map_or (λ goals. file_edges literals goals p.1) (slice_get table p.0) []

abbrev pub supports_at : List Representative → List (List Goal) → ℕ × LoadedFile → List Edge
supports_at literals table p = option_map_or (λ goals. file_supports literals goals p.1) (slice_get table p.0) []

-- those of files, file by file, by a table of the goals of each file's symbols
unfoldable pub edges_by : List LoadedFile → List (List Goal) → List Edge
edges_by files table = flat_map (edges_at (representatives_of files) table) (enumerate_from 0 files)

unfoldable pub supports_by : List LoadedFile → List (List Goal) → List Edge
supports_by files table = flat_map (supports_at (representatives_of files) table) (enumerate_from 0 files)

-- What is kept with an atom: where its references lead, and what unwinding it takes.
abbrev pub edges : List LoadedFile → LibraryGraph → Command → List Edge
edges files graph command = edges_by files (goal_table files graph command)

-- What is kept with an atom to which it refers: from atoms that support what is live to what they refer to.
abbrev pub supports : List LoadedFile → LibraryGraph → Command → List Edge
supports files graph command = supports_by files (goal_table files graph command)
