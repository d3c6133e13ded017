-- Where names and symbols lead, by a symbol table.
use Rattle.std.proofs.Common.{◌≡◌, ℕ, ◌||◌, List, Option, Some, slice_get, refl, sym, ap, ◌∙◌}
use Rattle.std.specs.Prelude.{IfOk, Result, Ok, Err}
use Rattle.lib_bind.specs.Provides.{provider_of}
use Rattle.lib_bind.specs.declared.library.LibraryGraph.{LibraryGraph}
use Rattle.command_line.specs.declared.command.Command.{Command}
use Rattle.mo_types.specs.declared.goal.Goal.{Goal}
use Rattle.mo_types.specs.declared.memory.OutOfMemory.{OutOfMemory}
use Rattle.mo_types.specs.declared.loaded.LoadedFile.{LoadedFile}
use Rattle.resolve.specs.Goals.{goal_of_name, name_goal}
use Rattle.symbol_winners.specs.SymbolTable.{IsSymbolTable, SymbolTable}
use Rattle.symbol_winners.specs.Winners.{lists, winner_named}
use Rattle.symbol_winners.specs.declared.winner.Winner.{Winner}

pub name_goal_is : (command : Command) (files : List LoadedFile) (graph : LibraryGraph) (symbols : SymbolTable) (name : List ℕ) (goal : Goal) → IsSymbolTable command files symbols → goal ≡ name_goal symbols.literals command.dylib (command.dynamic || lists symbols.flats name) (lists symbols.weak name) name (provider_of graph name) (winner_named symbols.winners name) → goal ≡ goal_of_name files graph command name
unfolding goal_of_name
name_goal_is command files graph symbols name goal are is = is ∙ rw (are.literals, are.flats name, are.weak name, are.winners.each name) refl

-- by the winner that a look-up found
pub name_goals_are : (command : Command) (files : List LoadedFile) (graph : LibraryGraph) (symbols : SymbolTable) (name : List ℕ) (winner : Option Winner) (result : Result Goal OutOfMemory)
    → IsSymbolTable command files symbols → winner ≡ winner_named symbols.winners name
    → IfOk result (λ goal. goal ≡ name_goal symbols.literals command.dylib (command.dynamic || lists symbols.flats name) (lists symbols.weak name) name (provider_of graph name) winner)
    → IfOk result (λ goal. goal ≡ goal_of_name files graph command name)
name_goals_are command files graph symbols name winner (Ok goal) are found is =
    name_goal_is command files graph symbols name goal are (is ∙ ap (name_goal symbols.literals command.dylib (command.dynamic || lists symbols.flats name) (lists symbols.weak name) name (provider_of graph name)) found)
name_goals_are command files graph symbols name winner (Err e) are found is = tt

same_name : {x y : List ℕ} → Some x ≡ Some y → x ≡ y
same_name e = cc

-- where the name of a number leads, by the winner that stands under the number
pub numbered_goals_are : (command : Command) (files : List LoadedFile) (graph : LibraryGraph) (symbols : SymbolTable) (id : ℕ) (name : List ℕ) (winner : Option Winner) (result : Result Goal OutOfMemory)
    → IsSymbolTable command files symbols → slice_get symbols.names id ≡ Some name
    → ((other : List ℕ) → slice_get symbols.names id ≡ Some other → winner ≡ winner_named symbols.winners other)
    → IfOk result (λ goal. goal ≡ name_goal symbols.literals command.dylib (command.dynamic || lists symbols.flats name) (lists symbols.weak name) name (provider_of graph name) winner)
    → IfOk result (λ goal. (other : List ℕ) → slice_get symbols.names id ≡ Some other → goal ≡ goal_of_name files graph command other)
numbered_goals_are command files graph symbols id name winner (Ok goal) are there found is = λ other at.
    name_goals_are command files graph symbols name winner (Ok goal) are (found name there) is ∙ ap (goal_of_name files graph command) (same_name (sym there ∙ at))
numbered_goals_are command files graph symbols id name winner (Err e) are there found is = tt
