-- What the words of a command line are: options with their values, paths, and words that no row has.
use Rattle.std.specs.Prelude.{ℕ, zero, suc, ◌+◌, ◌==◌, ◌&&◌, nat_le, nat_lt, nat_eq, Bool, false, not, List, [], ◌∷◌, length, if◌then◌else◌}
use Rattle.std.specs.List.{list_any, starts_with}
use Rattle.std.specs.Option.{option_map_or}
use Rattle.mo_cmd.specs.declared.options.CommandOption.{CommandOption}
use Rattle.mo_cmd.specs.declared.options.CommandOption.TheVariants as option
use Rattle.mo_cmd.specs.declared.parts.Part.{Part}
use Rattle.mo_cmd.specs.declared.parts.Rows.{Rows}
use Rattle.mo_cmd.specs.declared.parts.Rows.TheVariants.{Objects, Libraries, Stripping, Exports, Islands, Opcodes, All}
use Rattle.mo_cmd.specs.Options.{name_of, values_of, option_named}

-- a NUL stands in the word
abbrev pub has_nul : List ℕ → Bool
has_nul word = list_any (λ byte. byte == 0) word

-- a word that isn't empty and doesn't begin with `-`
abbrev pub is_plain : List ℕ → Bool
is_plain [] = false
is_plain (byte ∷ bytes) = not (byte == 0x2d)

-- the word is the option's with more after it
abbrev pub is_attached : CommandOption → List ℕ → Bool
is_attached meant word = nat_lt (length (name_of meant)) (length word) && starts_with nat_eq word (name_of meant)

-- the option of a word with an attached value
abbrev pub option_attached : List ℕ → CommandOption
option_attached word =
    if is_attached option.LibraryDir word then option.LibraryDir
    else if is_attached option.FrameworkDir word then option.FrameworkDir
    else if is_attached option.Library word then option.Library
    else if is_attached option.WeakLibraryNamed word then option.WeakLibraryNamed
    else if is_attached option.ReexportLibraryNamed word then option.ReexportLibraryNamed
    else option.Unknown

-- what a word stands for, where it isn't a value: a word that is a whole option is that option
unfoldable pub option_of : List ℕ → CommandOption
option_of word =
    if has_nul word then option.Unknown
    else if is_plain word then option.Path
    else option_map_or (λ named. named) (option_named word) (option_attached word)

-- the first form of the link that has an option
abbrev pub since : CommandOption → Rows
since option.Path = Objects
since option.Unknown = Objects
since option.Output = Objects
since option.Threads = Objects
since option.DeadStrip = Stripping
since option.Dylib = Exports
since option.InstallName = Exports
since option.DylibInstallName = Exports
since option.CurrentVersion = Exports
since option.DylibCurrentVersion = Exports
since option.CompatibilityVersion = Exports
since option.DylibCompatibilityVersion = Exports
since option.ReexportFramework = Exports
since option.ReexportLibrary = Exports
since option.ReexportLibraryNamed = Exports
since option.ExportedSymbolsList = Exports
since option.ExportedSymbol = Exports
since option.UnexportedSymbolsList = Exports
since option.UnexportedSymbol = Exports
since option.Map = Exports
since option.BranchReach = Islands
since option.Generate = Islands
since option.NoFixupChains = Opcodes
since option.Icf = All
since _ = Libraries

-- each form has what those before it have
abbrev pub number : Rows → ℕ
number Objects = 0
number Libraries = 1
number Stripping = 2
number Exports = 3
number Islands = 4
number Opcodes = 5
number All = 6

-- WHAT A LINK HAS. An option that its form hasn't counts as unknown.
abbrev pub has : Rows → CommandOption → Bool
has rows meant = nat_le (number (since meant)) (number rows)

-- the option, where the rows that are asked for have it
abbrev pub among : Rows → CommandOption → CommandOption
among rows meant = if has rows meant then meant else option.Unknown

-- The parts of the words from the one of index `at` on, of which the first `skipped` are values of an option before
-- them. A part is an option, and the index of its word.
abbrev pub parts_from : Rows → ℕ → ℕ → List (List ℕ) → List Part
parts_from rows at skipped [] = []
parts_from rows at (suc skipped) (word ∷ words) = parts_from rows (at + 1) skipped words
parts_from rows at zero (word ∷ words) =
    record { option = among rows (option_of word); at = at } ∷ parts_from rows (at + 1) (values_of (among rows (option_of word))) words

unfoldable pub parts_of : Rows → List (List ℕ) → List Part
parts_of rows words = parts_from rows 0 0 words
