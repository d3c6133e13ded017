-- The names of a link: those of the loaded files and those that the command line wants (`nlist.h`: N_EXT; ld(1): -e, -u).
use Rattle.std.specs.Prelude.{ℕ, ◌^◌, ◌++◌, nat_lt, List, [], ◌∷◌, length, Option, Some, None, sum_by, if◌then◌else◌}
use Rattle.std.specs.List.{find}
use Rattle.std.specs.Option.{option_map_or}
use Rattle.std.specs.Ordering.{is_eq}
use Rattle.command_line.specs.declared.command.Command.{Command}
use Rattle.mo_types.specs.Keys.{compare_files}
use Rattle.mo_types.specs.declared.answer.Refusal.{Refusal}
use Rattle.mo_types.specs.declared.answer.Refusal.TheVariants.{Limit}
use Rattle.mo_types.specs.declared.cause.Which.{Which}
use Rattle.mo_types.specs.declared.cause.Which.TheVariants.{Atoms, Names}
use Rattle.mo_types.specs.declared.key.FileId.{FileId}
use Rattle.mo_types.specs.declared.loaded.LoadedFile.{LoadedFile}
use Rattle.name_ids.specs.Names.{external_names, numbered}

-- an executable's entry, and the names of `-u`
abbrev pub wanted : Command → List (List ℕ)
wanted command = (if command.dylib then [] else command.entry ∷ []) ++ command.roots

-- the distinct names of the files' external symbols and of those that the command line wants
abbrev pub all_names : List LoadedFile → List (List ℕ) → List (List ℕ)
all_names files wanted = numbered (external_names files ++ wanted)

-- there are fewer than 2^24 of something
abbrev pub limit_refusal : ℕ → Which → Option Refusal
limit_refusal n which = if nat_lt n (2 ^ 24) then None else Some (Limit which)

unfoldable pub names_refusal : List LoadedFile → List (List ℕ) → Option Refusal
names_refusal files wanted = limit_refusal (length (all_names files wanted)) Names

-- how many atoms files have
abbrev pub atoms_in : List LoadedFile → ℕ
atoms_in files = sum_by (λ file. length file.atoms) files

unfoldable pub atoms_refusal : List LoadedFile → Option Refusal
atoms_refusal files = limit_refusal (atoms_in files) Atoms

-- what messages call a file
unfoldable pub label_of : List LoadedFile → FileId → List ℕ
label_of files id = option_map_or (λ file. file.label) (find (λ file. is_eq (compare_files file.id id)) files) []
