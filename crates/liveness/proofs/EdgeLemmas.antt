-- The edges and supports of all files, and what a function gives for the elements of a list.
use Rattle.std.proofs.Common.{◌≡◌, ℕ, suc, ◌+◌, ◌<◌, ◌≤◌, List, [], ◌∷◌, ◌++◌, length, map, take, get_or, slice_get, Some, refl, sym, ap, ◌∙◌, arith}
use Rattle.std.specs.Prelude.{Option}
use Rattle.std.specs.List.{enumerate_from, filter, flat_map}
use Rattle.std.specs.Option.{option_map_or}
use Rattle.std.proofs.lemmas.List.{map-append, take_more}
use Rattle.std.proofs.lemmas.List.FromFn.{get_or-enumerate_from, length-enumerate_from}
use Rattle.lib_bind.specs.declared.library.LibraryGraph.{LibraryGraph}
use Rattle.command_line.specs.declared.command.Command.{Command}
use Rattle.mo_types.specs.declared.edge.Edge.{Edge}
use Rattle.mo_types.specs.declared.goal.Goal.{Goal}
use Rattle.mo_types.specs.declared.key.AtomKey.{AtomKey}
use Rattle.mo_types.specs.declared.loaded.LoadedFile.{LoadedFile}
use Rattle.liveness.specs.Edges.{edges, edges_at, edges_by, file_edges, file_supports, supports, supports_at, supports_by}
use Rattle.resolve.specs.Goals.{goal_table, goals_of_symbols}
use Rattle.literal_merge.specs.Representatives.{representatives_of}
use Rattle.literal_merge.specs.declared.representative.Representative.{Representative}
use Rattle.mark_core.specs.Kept.{begins_away, leads_away}
use Rattle.liveness.proofs.AwayLemmas.{filter_flat}
use Rattle.liveness.proofs.GrowLemmas.{IsGrowing, grow_end, grow_item}

-- ---- edges

numbered : (files : List LoadedFile) (i : ℕ) (d : LoadedFile) → i < length files → get_or (enumerate_from 0 files) i (0, d) ≡ (i, get_or files i d)
numbered files i d low = let e : 0 + i ≡ i = omega arith in get_or-enumerate_from 0 files i (0, d) low ∙ ap (λ (n : ℕ). (n, get_or files i d)) e

-- one file more, by what a numbered file gives
pub files_more : (f : ℕ × LoadedFile → List Edge) (files : List LoadedFile) (now new : List Edge) (at : ℕ) (file : LoadedFile) → IsGrowing f [] now (enumerate_from 0 files) at → at < length files → file ≡ get_or files at file → new ≡ now ++ f (at, file) → IsGrowing f [] new (enumerate_from 0 files) (at + 1)
files_more f files now new at file grows low is more =
    grow_item f [] now new (enumerate_from 0 files) at (at, file) (0, file) grows (omega (arith, low, length-enumerate_from 0 files))
    (ap (λ (x : LoadedFile). (at, x)) is ∙ sym (numbered files at file low)) more

files_are : (f : ℕ × LoadedFile → List Edge) (files : List LoadedFile) (now : List Edge) (at : ℕ) → IsGrowing f [] now (enumerate_from 0 files) at → length files ≤ at → now ≡ [] ++ flat_map f (enumerate_from 0 files)
files_are f files now at grows past = grow_end f [] now (enumerate_from 0 files) at grows (omega (arith, past, length-enumerate_from 0 files))

pub edges_are : (roots : List AtomKey) (files read : List LoadedFile) (table : List (List Goal)) (literals : List Representative) (now list : List Edge) (at : ℕ) → read ≡ files → literals ≡ representatives_of files → IsGrowing (λ p. filter (leads_away roots) (edges_at literals table p)) [] now (enumerate_from 0 read) at → length read ≤ at → list ≡ now → list ≡ filter (leads_away roots) (edges_by files table)
unfolding edges_by
edges_are roots files read table literals now list at same l grows past is =
    is ∙ files_are (λ p. filter (leads_away roots) (edges_at literals table p)) read now at grows past
    ∙ filter_flat (leads_away roots) (edges_at literals table) (enumerate_from 0 read)
    ∙ ap (λ (fs : List LoadedFile). filter (leads_away roots) (flat_map (edges_at literals table) (enumerate_from 0 fs))) same
    ∙ ap (λ (ls : List Representative). filter (leads_away roots) (flat_map (edges_at ls table) (enumerate_from 0 files))) l

pub supports_are : (roots : List AtomKey) (files read : List LoadedFile) (table : List (List Goal)) (literals : List Representative) (now list : List Edge) (at : ℕ) → read ≡ files → literals ≡ representatives_of files → IsGrowing (λ p. filter (begins_away roots) (supports_at literals table p)) [] now (enumerate_from 0 read) at → length read ≤ at → list ≡ now → list ≡ filter (begins_away roots) (supports_by files table)
unfolding supports_by
supports_are roots files read table literals now list at same l grows past is =
    is ∙ files_are (λ p. filter (begins_away roots) (supports_at literals table p)) read now at grows past
    ∙ filter_flat (begins_away roots) (supports_at literals table) (enumerate_from 0 read)
    ∙ ap (λ (fs : List LoadedFile). filter (begins_away roots) (flat_map (supports_at literals table) (enumerate_from 0 fs))) same
    ∙ ap (λ (ls : List Representative). filter (begins_away roots) (flat_map (supports_at ls table) (enumerate_from 0 files))) l

-- ---- file by file

-- numbered files with a table of what a function gives for each are the files with what it gives
by_file : {G E : Type 0} (f : List G → LoadedFile → List E) (g : LoadedFile → List G) (table : List (List G)) (n : ℕ) (files : List LoadedFile) → ((i : ℕ) → slice_get table (n + i) ≡ slice_get (map g files) i) → flat_map (λ p. option_map_or (λ goals. f goals p.1) (slice_get table p.0) []) (enumerate_from n files) ≡ flat_map (λ file. f (g file) file) files
by_file f g table n [] at = refl
by_file {G = G} {E = E} f g table n (x ∷ xs) at =
    let start : n + 0 ≡ n = omega arith in
    let here : slice_get table n ≡ Some (g x) = ap (slice_get table) (sym start) ∙ at 0 in
    let rest = by_file f g table (n + 1) xs (λ i. let next : n + 1 + i ≡ n + suc i = omega arith in ap (slice_get table) next ∙ at (suc i)) in
    ap (λ (o : Option (List G)). option_map_or (λ goals. f goals x) o [] ++ flat_map (λ p. option_map_or (λ goals. f goals p.1) (slice_get table p.0) []) (enumerate_from (n + 1) xs)) here
    ∙ ap (λ (es : List E). f (g x) x ++ es) rest

from_start : {G : Type 0} (table : List (List G)) (i : ℕ) → slice_get table (0 + i) ≡ slice_get table i
from_start table i = let e : 0 + i ≡ i = omega arith in ap (slice_get table) e

pub edges_by_file : (files : List LoadedFile) (graph : LibraryGraph) (command : Command) → edges files graph command ≡ flat_map (λ file. file_edges (representatives_of files) (goals_of_symbols files graph command file) file) files
unfolding edges_by
edges_by_file files graph command = by_file (file_edges (representatives_of files)) (goals_of_symbols files graph command) (goal_table files graph command) 0 files (from_start (goal_table files graph command))

pub supports_by_file : (files : List LoadedFile) (graph : LibraryGraph) (command : Command) → supports files graph command ≡ flat_map (λ file. file_supports (representatives_of files) (goals_of_symbols files graph command file) file) files
unfolding supports_by
supports_by_file files graph command = by_file (file_supports (representatives_of files)) (goals_of_symbols files graph command) (goal_table files graph command) 0 files (from_start (goal_table files graph command))
