-- What stands of resolved files.
use Rattle.std.specs.Prelude.{◌≡◌, List}
use Rattle.resolve.specs.Table.{goals_of}
use Rattle.mark_core.specs.Kept.{IsKept}
use Rattle.command_line.specs.declared.command.Command.{Command}
use Rattle.mo_types.specs.declared.goal.Goal.{Goal}
use Rattle.mo_types.specs.declared.key.AtomKey.{AtomKey}
use Rattle.mo_types.specs.declared.loaded.LoadedFile.{LoadedFile}
use Rattle.liveness.specs.Edges.{edges_by, supports_by}
use Rattle.resolve.specs.Goals.{goal_of_name, goal_table}
use Rattle.symbol_winners.specs.SymbolTable.{IsSymbolTable, SymbolTable}
use Rattle.liveness.specs.Roots.{roots}
use Rattle.link_files.specs.declared.resolved.Resolved.{Resolved}

abbrev pub files_of : Resolved → List LoadedFile
files_of r = r.loaded.now.files

-- where the symbols of each file lead
abbrev pub table_of : Resolved → List (List Goal)
table_of r = goals_of r.goals.now

-- the winners are those of the files' names, and the goals are where their symbols and the entry lead
pub record IsResolved (r : Resolved) : Type 0 where
  pub symbols : IsSymbolTable r.command.now (files_of r) r.symbols.now
  pub goals : table_of r ≡ goal_table (files_of r) r.libs.now r.command.now
  pub entry : r.entry.now ≡ goal_of_name (files_of r) r.libs.now r.command.now r.command.now.entry

-- the atoms that are kept are those of the least set that holds the roots and is closed by what leads from one to another
abbrev pub AreKept : Command → List LoadedFile → SymbolTable → List (List Goal) → List AtomKey → Type 0
AreKept command files symbols goals keys = IsKept (edges_by files goals) (supports_by files goals) (roots command symbols files) keys
