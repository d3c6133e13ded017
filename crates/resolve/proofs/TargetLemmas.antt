-- Targets lead by the goals of their file's symbols.
use Rattle.std.proofs.Common.{◌≡◌, ℕ, zero, suc, ◌+◌, List, [], ◌∷◌, Some, None, refl, ap, ◌∙◌, arith, slice_get}
use Rattle.std.specs.Prelude.{Option, unwrap_or}
use Rattle.std.specs.List.{enumerate_from}
use Rattle.std.specs.Option.{option_map, option_map_or}
use Rattle.std.proofs.lemmas.Option.{slice_get-map}
use Rattle.lib_bind.specs.declared.library.LibraryGraph.{LibraryGraph}
use Rattle.command_line.specs.declared.command.Command.{Command}
use Rattle.literal_merge.specs.Representatives.{representatives_of}
use Rattle.literal_merge.specs.declared.representative.Representative.{Representative}
use Rattle.mo_types.specs.declared.goal.Goal.{Goal}
use Rattle.mo_types.specs.declared.goal.Goal.TheVariants.{Nobody}
use Rattle.mo_types.specs.declared.loaded.LoadedFile.{LoadedFile}
use Rattle.mo_types.specs.declared.object.Symbol.{Symbol}
use Rattle.mo_types.specs.declared.reference.Target.{Target}
use Rattle.mo_types.specs.declared.reference.Target.TheVariants.{Name, Local}
use Rattle.resolve.specs.Goals.{goal_of, goal_of_symbol, goals_of_symbols, target_goal}

numbered : (n : ℕ) (xs : List Symbol) (k : ℕ) → slice_get (enumerate_from n xs) k ≡ option_map (λ (x : Symbol). let p : ℕ × Symbol = (n + k, x) in p) (slice_get xs k)
numbered n [] k = refl
numbered n (x ∷ xs) zero = let here : n ≡ n + 0 = omega arith in ap (λ (m : ℕ). let p : ℕ × Symbol = (m, x) in Some p) here
numbered n (x ∷ xs) (suc k) =
    let same : n + 1 + k ≡ n + suc k = omega arith in
    numbered (n + 1) xs k ∙ ap (λ (m : ℕ). option_map (λ (y : Symbol). let p : ℕ × Symbol = (m, y) in p) (slice_get xs k)) same

pub leads_same : (files : List LoadedFile) (graph : LibraryGraph) (command : Command) (file : LoadedFile) (target : Target) → target_goal (representatives_of files) (goals_of_symbols files graph command file) target ≡ goal_of files graph command file target
unfolding goal_of goals_of_symbols
leads_same files graph command file (Name index) =
    ap (λ (o : Option Goal). unwrap_or o Nobody) (slice_get-map goal (enumerate_from 0 file.object.symbols) index ∙ ap (option_map goal) (numbered 0 file.object.symbols index))
    ∙ by (slice_get file.object.symbols index)
  where
    goal : ℕ × Symbol → Goal
    goal p = goal_of_symbol files graph command file p

    by : (o : Option Symbol) → unwrap_or (option_map goal (option_map (λ (x : Symbol). let p : ℕ × Symbol = (0 + index, x) in p) o)) Nobody ≡ option_map_or (λ (symbol : Symbol). goal (index, symbol)) o Nobody
    by None = refl
    by (Some symbol) = let same : 0 + index ≡ index = omega arith in ap (λ (n : ℕ). goal (n, symbol)) same
leads_same files graph command file (Local atom offset) = refl

-- a goal by the goals of a file's symbols and what stands for literals
pub goal_is : (files : List LoadedFile) (graph : LibraryGraph) (command : Command) (file : LoadedFile) (literals : List Representative) (goals : List Goal) (target : Target) (goal : Goal) → literals ≡ representatives_of files → goals ≡ goals_of_symbols files graph command file → goal ≡ target_goal literals goals target → goal ≡ goal_of files graph command file target
goal_is files graph command file literals goals target goal merged table is =
    is ∙ ap (λ (ls : List Representative). target_goal ls goals target) merged ∙ ap (λ (gs : List Goal). target_goal (representatives_of files) gs target) table
    ∙ leads_same files graph command file target
