-- Where the names and the symbols of a scope lead.
use Rattle.std.specs.Prelude.{ℕ, ◌||◌, Bool, List, Option, map, slice_index_or}
use Rattle.lib_bind.specs.Provides.{provider_of}
use Rattle.mo_types.specs.declared.goal.Goal.{Goal}
use Rattle.mo_types.specs.declared.loaded.LoadedFile.{LoadedFile}
use Rattle.mo_types.specs.declared.object.Symbol.{Symbol}
use Rattle.resolve.specs.Goals as goals
use Rattle.resolve.specs.declared.scope.Scope.{Scope}
use Rattle.symbol_winners.specs.Winners.{lists}
use Rattle.symbol_winners.specs.declared.winner.Winner.{Winner}

-- all names, by their numbers
abbrev pub names_of : Scope → List (List ℕ)
names_of scope = scope.symbols.now.names

-- a name that nothing provides is looked up in all images
abbrev pub is_flat : Scope → List ℕ → Bool
is_flat scope name = scope.command.now.dynamic || lists scope.symbols.now.flats name

-- where a name leads that has no winner and isn't the header's
abbrev pub outer_goal : Scope → List ℕ → Goal
outer_goal scope name = goals.outer_goal (is_flat scope name) (lists scope.symbols.now.weak name) name (provider_of scope.libs.now name)

-- where a name leads, by the winner that was found for it
abbrev pub goal_by : Scope → List ℕ → Option Winner → Goal
goal_by scope name winner =
    goals.name_goal scope.symbols.now.literals scope.command.now.dylib (is_flat scope name) (lists scope.symbols.now.weak name) name
    (provider_of scope.libs.now name) winner

-- where a name leads
abbrev pub name_goal : Scope → List ℕ → Goal
name_goal scope = goals.goal_of_name scope.loaded.now.files scope.libs.now scope.command.now

-- where each name leads, by their numbers
abbrev pub name_goals : Scope → List Goal
name_goals scope = map (name_goal scope) (names_of scope)

-- where the symbol of an index of a file leads, or this one, where there is none
abbrev pub symbol_goal : Scope → LoadedFile → ℕ → Symbol → Goal
symbol_goal scope file index d =
    goals.goal_of_symbol scope.loaded.now.files scope.libs.now scope.command.now file (index, slice_index_or file.object.symbols index d)

-- where the symbols of a file lead, in order
abbrev pub symbol_goals : Scope → LoadedFile → List Goal
symbol_goals scope = goals.goals_of_symbols scope.loaded.now.files scope.libs.now scope.command.now

-- those of each file, file by file
abbrev pub table_of : Scope → List (List Goal)
table_of scope = goals.goal_table scope.loaded.now.files scope.libs.now scope.command.now
