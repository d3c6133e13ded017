-- The names to which kept atoms refer and that lead nowhere: by their references, and by the personalities of their unwind
-- entries (`mach-o/compact_unwind_encoding.h`).
use Rattle.std.specs.Prelude.{ℕ, ◌≡◌, Bool, true, false, List, [], ◌∷◌, ◌++◌, map, filter, fold, slice_get, Option, Some, None, option_and_then, if◌then◌else◌}
use Rattle.std.specs.Cmp.Lexicographic.{slice_cmp}
use Rattle.std.specs.List.{AllByRecursion, enumerate_from, filter_map, flat_map}
use Rattle.std.specs.Option.{option_map, option_map_or}
use Rattle.std.specs.Ordering.{is_lt, nat_cmp}
use Rattle.std.specs.declared.cmp.Ordering.TheVariants.{Greater}
use Rattle.mark_core.specs.Kept.{has}
use Rattle.mo_types.specs.declared.goal.Goal.{Goal}
use Rattle.mo_types.specs.declared.goal.Goal.TheVariants.{Nobody}
use Rattle.mo_types.specs.declared.key.AtomKey.{AtomKey}
use Rattle.mo_types.specs.declared.loaded.LoadedFile.{LoadedFile}
use Rattle.mo_types.specs.declared.object.Symbol.{Symbol}
use Rattle.mo_types.specs.declared.reference.Ref.{Ref}
use Rattle.mo_types.specs.declared.reference.Target.{Target}
use Rattle.mo_types.specs.declared.reference.Target.TheVariants.{Name, Local}
use Rattle.mo_types.specs.declared.unwind.Unwind.{Unwind}

-- the references of a file's kept atoms, as the file lists them
unfoldable pub kept_refs : List AtomKey → LoadedFile → List Ref
kept_refs keys file = filter (λ r. has keys r.atom) file.refs

-- the unwind entries of a file's kept atoms, as the file lists them
unfoldable pub kept_unwinds : List AtomKey → LoadedFile → List Unwind
kept_unwinds keys file = filter (λ unwind. has keys unwind.atom) file.unwinds

abbrev pub is_nobody : Goal → Bool
is_nobody Nobody = true
is_nobody _ = false

-- the name of a symbol whose goal is nowhere
abbrev pub name_if : Goal → Option Symbol → Option (List ℕ)
name_if goal symbol = if is_nobody goal then option_map (λ s. s.name) symbol else None

-- the name to which a target of a file's reference goes, where it leads nowhere; the goals are those of the file's symbols
abbrev pub lost_name : List Symbol → List Goal → Target → Option (List ℕ)
lost_name symbols goals (Name index) = option_and_then (λ goal. name_if goal (slice_get symbols index)) (slice_get goals index)
lost_name symbols goals (Local atom offset) = None

abbrev pub targets_of : Target → Option Target → List Target
targets_of target None = target ∷ []
targets_of target (Some minus) = target ∷ minus ∷ []

-- those of a reference: of its target, and of what is subtracted from it
unfoldable pub lost_names : List Symbol → List Goal → Ref → List (List ℕ)
lost_names symbols goals r = filter_map (lost_name symbols goals) (targets_of r.target r.minus)

-- that of an unwind entry: of the function that handles exceptions, where there is one
unfoldable pub lost_personality : List Symbol → List Goal → Unwind → Option (List ℕ)
lost_personality symbols goals unwind = option_and_then (lost_name symbols goals) unwind.personality

-- those of a file's kept atoms, each with what messages call the file
unfoldable pub lost_in : List AtomKey → LoadedFile → List Goal → List (List ℕ × List ℕ)
lost_in keys file goals =
    map (λ name. (name, file.label)) (
    flat_map (lost_names file.object.symbols goals) (kept_refs keys file)
    ++ filter_map (lost_personality file.object.symbols goals) (kept_unwinds keys file)
    )

-- those of the file at a place, whose symbols have the goals there
abbrev pub lost_at : List AtomKey → List (List Goal) → ℕ × LoadedFile → List (List ℕ × List ℕ)
lost_at keys goals p = option_map_or (lost_in keys p.1) (slice_get goals p.0) []

-- those of files, file by file
unfoldable pub lost : List AtomKey → List LoadedFile → List (List Goal) → List (List ℕ × List ℕ)
lost keys files goals = flat_map (lost_at keys goals) (enumerate_from 0 files)

-- the names that the command wants go by no file
abbrev pub wanted : List (List ℕ) → List (List ℕ × List ℕ)
wanted names = map (λ name. (name, [])) names

-- of two names the lesser one, and of the same name the earlier
abbrev pub lesser : Option (List ℕ × List ℕ) → List ℕ × List ℕ → Option (List ℕ × List ℕ)
lesser None p = Some p
lesser (Some q) p = if is_lt (slice_cmp nat_cmp p.0 q.0) then Some p else Some q

-- the least name, with what stands beside it the first time
unfoldable pub least : List (List ℕ × List ℕ) → Option (List ℕ × List ℕ)
least pairs = fold lesser None pairs

-- the least name that leads nowhere, with the file of the least one that refers to it
unfoldable pub undefined : List AtomKey → List LoadedFile → List (List Goal) → List (List ℕ) → Option (List ℕ × List ℕ)
undefined keys files goals names = least (lost keys files goals ++ wanted names)

-- A name with what stands beside it is the first of the least ones: all names before it are greater, and none behind it is
-- less.
pub record IsFirstLeast (pairs : List (List ℕ × List ℕ)) (p : List ℕ × List ℕ) : Type 0 where
  pub front : List (List ℕ × List ℕ)
  pub back : List (List ℕ × List ℕ)
  pub parts : pairs ≡ front ++ p ∷ back
  pub before : AllByRecursion (λ q. slice_cmp nat_cmp q.0 p.0 ≡ Greater) front
  pub behind : AllByRecursion (λ q. is_lt (slice_cmp nat_cmp q.0 p.0) ≡ false) back
