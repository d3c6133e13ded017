-- The options of the command line (ld(1)): the word of each, how many values follow it, and the field of the
-- command that it gives.
use Rattle.std.specs.Prelude.{ℕ, ◌+◌, ◌*◌, ◌-◌, ◌/◌, ◌%◌, List, [], ◌∷◌, length, slice_index, codes, bytes_eq, Option}
use Rattle.std.specs.List.{find}
use Rattle.mo_cmd.specs.declared.options.CommandOption.{CommandOption}
use Rattle.mo_cmd.specs.declared.options.CommandOption.TheVariants as option
use Rattle.mo_cmd.specs.declared.options.CommandField.{CommandField}
use Rattle.mo_cmd.specs.declared.options.CommandField.TheVariants as field

-- the option's word; of an option with an attached value, what stands before the value
abbrev pub name_of : CommandOption → List ℕ
name_of option.Execute = codes "-execute"
name_of option.Dylib = codes "-dylib"
name_of option.Output = codes "-o"
name_of option.Arch = codes "-arch"
name_of option.PlatformVersion = codes "-platform_version"
name_of option.Entry = codes "-e"
name_of option.Root = codes "-u"
name_of option.Flat = codes "-U"
name_of option.Undefined = codes "-undefined"
name_of option.Syslibroot = codes "-syslibroot"
name_of option.Framework = codes "-framework"
name_of option.WeakFramework = codes "-weak_framework"
name_of option.ReexportFramework = codes "-reexport_framework"
name_of option.WeakLibrary = codes "-weak_library"
name_of option.ReexportLibrary = codes "-reexport_library"
name_of option.ForceLoad = codes "-force_load"
name_of option.AllLoad = codes "-all_load"
name_of option.DeadStrip = codes "-dead_strip"
name_of option.InstallName = codes "-install_name"
name_of option.DylibInstallName = codes "-dylib_install_name"
name_of option.CurrentVersion = codes "-current_version"
name_of option.DylibCurrentVersion = codes "-dylib_current_version"
name_of option.CompatibilityVersion = codes "-compatibility_version"
name_of option.DylibCompatibilityVersion = codes "-dylib_compatibility_version"
name_of option.Rpath = codes "-rpath"
name_of option.ExportedSymbolsList = codes "-exported_symbols_list"
name_of option.ExportedSymbol = codes "-exported_symbol"
name_of option.UnexportedSymbolsList = codes "-unexported_symbols_list"
name_of option.UnexportedSymbol = codes "-unexported_symbol"
name_of option.Map = codes "-map"
name_of option.Headerpad = codes "-headerpad"
name_of option.Threads = codes "-threads"
name_of option.BranchReach = codes "-branch_reach"
name_of option.Generate = codes "-generate"
name_of option.Icf = codes "-icf"
name_of option.Demangle = codes "-demangle"
name_of option.Dynamic = codes "-dynamic"
name_of option.NoDeduplicate = codes "-no_deduplicate"
name_of option.AdhocCodesign = codes "-adhoc_codesign"
name_of option.FixupChains = codes "-fixup_chains"
name_of option.NoFixupChains = codes "-no_fixup_chains"
name_of option.Pie = codes "-pie"
name_of option.SearchPathsFirst = codes "-search_paths_first"
name_of option.HeaderpadMaxInstallNames = codes "-headerpad_max_install_names"
name_of option.LtoLibrary = codes "-lto_library"
name_of option.Mllvm = codes "-mllvm"
name_of option.LibraryDir = codes "-L"
name_of option.FrameworkDir = codes "-F"
name_of option.Library = codes "-l"
name_of option.WeakLibraryNamed = codes "-weak-l"
name_of option.ReexportLibraryNamed = codes "-reexport-l"
name_of option.Path = []
name_of option.Unknown = []

-- how many of the words that follow are the option's values
abbrev pub values_of : CommandOption → ℕ
values_of option.PlatformVersion = 3
values_of option.Execute = 0
values_of option.Dylib = 0
values_of option.AllLoad = 0
values_of option.DeadStrip = 0
values_of option.Demangle = 0
values_of option.Dynamic = 0
values_of option.NoDeduplicate = 0
values_of option.AdhocCodesign = 0
values_of option.FixupChains = 0
values_of option.NoFixupChains = 0
values_of option.Pie = 0
values_of option.SearchPathsFirst = 0
values_of option.HeaderpadMaxInstallNames = 0
values_of option.LibraryDir = 0
values_of option.FrameworkDir = 0
values_of option.Library = 0
values_of option.WeakLibraryNamed = 0
values_of option.ReexportLibraryNamed = 0
values_of option.Path = 0
values_of option.Unknown = 0
values_of _ = 1

-- the field of the command
abbrev pub field_of : CommandOption → CommandField
field_of option.Execute = field.Kind
field_of option.Dylib = field.Kind
field_of option.Output = field.Output
field_of option.PlatformVersion = field.Platform
field_of option.Entry = field.Entry
field_of option.Root = field.Roots
field_of option.Flat = field.Flats
field_of option.Undefined = field.Undefined
field_of option.Syslibroot = field.Syslibroot
field_of option.LibraryDir = field.LibraryDirs
field_of option.FrameworkDir = field.FrameworkDirs
field_of option.Framework = field.Inputs
field_of option.WeakFramework = field.Inputs
field_of option.ReexportFramework = field.Inputs
field_of option.WeakLibrary = field.Inputs
field_of option.ReexportLibrary = field.Inputs
field_of option.ForceLoad = field.Inputs
field_of option.Library = field.Inputs
field_of option.WeakLibraryNamed = field.Inputs
field_of option.ReexportLibraryNamed = field.Inputs
field_of option.Path = field.Inputs
field_of option.AllLoad = field.AllLoad
field_of option.DeadStrip = field.DeadStrip
field_of option.InstallName = field.Install
field_of option.DylibInstallName = field.Install
field_of option.CurrentVersion = field.Current
field_of option.DylibCurrentVersion = field.Current
field_of option.CompatibilityVersion = field.Compatible
field_of option.DylibCompatibilityVersion = field.Compatible
field_of option.Rpath = field.Rpaths
field_of option.ExportedSymbolsList = field.ExportFiles
field_of option.ExportedSymbol = field.Exports
field_of option.UnexportedSymbolsList = field.UnexportFiles
field_of option.UnexportedSymbol = field.Unexports
field_of option.Map = field.Map
field_of option.Headerpad = field.Headerpad
field_of option.Threads = field.Threads
field_of option.BranchReach = field.Reach
field_of option.Generate = field.Generate
field_of option.Icf = field.Folding
field_of option.FixupChains = field.Fixups
field_of option.NoFixupChains = field.Fixups
field_of _ = field.Nothing

-- the options whose word stands alone or before its values
abbrev pub options : List CommandOption
options =
    option.Execute ∷ option.Dylib ∷ option.Output ∷ option.Arch ∷ option.PlatformVersion ∷ option.Entry ∷ option.Root ∷ option.Flat ∷ option.Undefined ∷ option.Syslibroot ∷ option.Framework ∷ option.WeakFramework ∷ option.ReexportFramework ∷ option.WeakLibrary ∷ option.ReexportLibrary ∷ option.ForceLoad ∷ option.AllLoad ∷ option.DeadStrip ∷ option.InstallName ∷ option.DylibInstallName ∷ option.CurrentVersion ∷ option.DylibCurrentVersion ∷ option.CompatibilityVersion ∷ option.DylibCompatibilityVersion ∷ option.Rpath ∷ option.ExportedSymbolsList ∷ option.ExportedSymbol ∷ option.UnexportedSymbolsList ∷ option.UnexportedSymbol ∷ option.Map ∷ option.Headerpad ∷ option.Threads ∷ option.BranchReach ∷ option.Generate ∷ option.Icf ∷ option.Demangle ∷ option.Dynamic ∷ option.NoDeduplicate ∷ option.AdhocCodesign ∷ option.FixupChains ∷ option.NoFixupChains ∷ option.Pie ∷ option.SearchPathsFirst ∷ option.HeaderpadMaxInstallNames ∷ option.LtoLibrary ∷ option.Mllvm ∷ []

-- the option of a word
unfoldable pub option_named : List ℕ → Option CommandOption
option_named word = find (λ each. bytes_eq (name_of each) word) options

-- a number that tells the words of options apart
unfoldable pub key_of : List ℕ → ℕ
key_of word =
    (16 * (length word % 7) + 6 * slice_index word 1 + 11 * slice_index word (length word / 2) + slice_index word (length word - 1)) % 112

-- the field's place among the fields
abbrev pub number_of : CommandField → ℕ
number_of field.Kind = 0
number_of field.Output = 1
number_of field.Platform = 2
number_of field.Entry = 3
number_of field.Roots = 4
number_of field.Flats = 5
number_of field.Undefined = 6
number_of field.Syslibroot = 7
number_of field.LibraryDirs = 8
number_of field.FrameworkDirs = 9
number_of field.Inputs = 10
number_of field.AllLoad = 11
number_of field.DeadStrip = 12
number_of field.Install = 13
number_of field.Current = 14
number_of field.Compatible = 15
number_of field.Rpaths = 16
number_of field.ExportFiles = 17
number_of field.Exports = 18
number_of field.UnexportFiles = 19
number_of field.Unexports = 20
number_of field.Map = 21
number_of field.Headerpad = 22
number_of field.Threads = 23
number_of field.Reach = 24
number_of field.Generate = 25
number_of field.Folding = 26
number_of field.Fixups = 27
number_of field.Nothing = 28
