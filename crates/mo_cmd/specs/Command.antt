-- The command of a command line: each field is the last of its items, all of them in order, or whether one is there.
use Rattle.std.specs.Prelude.{ℕ, ◌-◌, ◌==◌, ◌&&◌, ◌||◌, nat_lt, Bool, true, false, not, List, [], codes, map, filter, length, bytes_eq, slice_index_or, slice_get, unwrap_or, Option, None, Some, Result, Ok, Err, if◌then◌else◌}
use Rattle.std.specs.Option.{option_map, option_and_then}
use Rattle.mo_types.specs.declared.cause.UsageRule.TheVariants.{NoInput}
use Rattle.command_line.specs.declared.command.Command.{Command}
use Rattle.command_line.specs.declared.command.CommandInput.{CommandInput}
use Rattle.command_line.specs.declared.command.InputForm.{InputForm}
use Rattle.command_line.specs.declared.command.InputForm.TheVariants.{Path, Library, Framework}
use Rattle.mo_cmd.specs.declared.usage_fault.UsageFault.{UsageFault}
use Rattle.mo_cmd.specs.declared.usage_fault.UsageFault.TheVariants.{At}
use Rattle.mo_cmd.specs.declared.faults.Whole.{Whole}
use Rattle.mo_cmd.specs.declared.build.Switches.{Switches}
use Rattle.mo_cmd.specs.declared.build.Numbers.{Numbers}
use Rattle.mo_cmd.specs.declared.read.CommandLine.{CommandLine}
use Rattle.mo_cmd.specs.declared.lists.Texts.{Texts}
use Rattle.mo_cmd.specs.declared.lists.Names.{Names}
use Rattle.mo_cmd.specs.declared.lists.Exports.{Exports}
use Rattle.mo_cmd.specs.declared.options.CommandOption.{CommandOption}
use Rattle.mo_cmd.specs.declared.options.CommandOption.TheVariants as option
use Rattle.mo_cmd.specs.declared.options.CommandField.{CommandField}
use Rattle.mo_cmd.specs.declared.options.CommandField.TheVariants as field
use Rattle.mo_cmd.specs.declared.parts.Part.{Part}
use Rattle.mo_cmd.specs.declared.parts.Rows.{Rows}
use Rattle.mo_cmd.specs.declared.parts.Rows.TheVariants.{All}
use Rattle.mo_cmd.specs.Options.{field_of, number_of}
use Rattle.mo_cmd.specs.Parts.{parts_of}
use Rattle.mo_cmd.specs.Items.{Item, items_of, value_of}
use Rattle.mo_cmd.specs.Numbers.{version_of, threads_of, functions_of, reach_of, pad_of}
use Rattle.mo_cmd.specs.Faults.{first_fault, is_reexport}

-- the option gives the field
abbrev pub gives : CommandField → CommandOption → Bool
gives wanted meant = number_of (field_of meant) == number_of wanted

-- the items of a field, the last of them, and its value
abbrev pub given : CommandField → List Item → List Item
given wanted items = filter (λ item. gives wanted item.option) items

abbrev pub last : {A : Type 0} → List A → Option A
last xs = slice_get xs (length xs - 1)

abbrev pub last_of : CommandField → List Item → Option Item
last_of wanted items = last (given wanted items)

abbrev pub last_values : CommandField → List Item → Option (List (List ℕ))
last_values wanted items = option_map (λ item. item.values) (last_of wanted items)

abbrev pub last_value : CommandField → List Item → Option (List ℕ)
last_value wanted items = option_map value_of (last_values wanted items)

abbrev pub all_values : CommandField → List Item → List (List ℕ)
all_values wanted items = map (λ item. value_of item.values) (given wanted items)

abbrev pub is_given : CommandField → List Item → Bool
is_given wanted items = not (length (given wanted items) == 0)

-- the number that a text writes, or the default
abbrev pub number_or : (List ℕ → Option ℕ) → ℕ → Option (List ℕ) → ℕ
number_or read default text = unwrap_or (option_and_then read text) default

abbrev pub is_text : List ℕ → Option (List ℕ) → Bool
is_text wanted None = false
is_text wanted (Some text) = bytes_eq text wanted

abbrev pub is_dylib : Option CommandOption → Bool
is_dylib (Some option.Dylib) = true
is_dylib _ = false

abbrev pub is_opcodes : Option CommandOption → Bool
is_opcodes (Some option.NoFixupChains) = true
is_opcodes _ = false

abbrev pub last_option : CommandField → List Item → Option CommandOption
last_option wanted items = option_map (λ item. item.option) (last_of wanted items)

-- how an input is looked for, and what is wanted of it
abbrev pub input_form : CommandOption → InputForm
input_form option.Library = Library
input_form option.WeakLibraryNamed = Library
input_form option.ReexportLibraryNamed = Library
input_form option.Framework = Framework
input_form option.WeakFramework = Framework
input_form option.ReexportFramework = Framework
input_form _ = Path

abbrev pub is_weak : CommandOption → Bool
is_weak option.WeakLibraryNamed = true
is_weak option.WeakFramework = true
is_weak option.WeakLibrary = true
is_weak _ = false

abbrev pub is_forced : CommandOption → Bool
is_forced option.ForceLoad = true
is_forced _ = false

abbrev pub input_of : CommandOption → List ℕ → CommandInput
input_of meant value = record {
  form = input_form meant;
  value = value;
  weak = is_weak meant;
  reexport = is_reexport meant;
  forced = is_forced meant;
}

-- 11.0
abbrev pub first_macos : ℕ
first_macos = 0xb0000

abbrev pub value_number : ℕ → List (List ℕ) → List ℕ
value_number number values = slice_index_or values number []

abbrev pub switches_of : List Item → Switches
switches_of items = record {
  dylib = is_dylib (last_option field.Kind items);
  all_load = is_given field.AllLoad items;
  dead_strip = is_given field.DeadStrip items;
  dynamic = is_text (codes "dynamic_lookup") (last_value field.Undefined items);
  opcodes = is_opcodes (last_option field.Fixups items);
  fold = is_text (codes "all") (last_value field.Folding items);
  export_given = is_given field.ExportFiles items || is_given field.Exports items;
}

abbrev pub numbers_of : List Item → Numbers
numbers_of items = record {
  min = number_or version_of first_macos (option_map (value_number 1) (last_values field.Platform items));
  sdk = number_or version_of first_macos (option_map (value_number 2) (last_values field.Platform items));
  current = number_or version_of 0 (last_value field.Current items);
  compatible = number_or version_of 0 (last_value field.Compatible items);
  headerpad = number_or pad_of 0x20 (last_value field.Headerpad items);
  threads = number_or threads_of 4 (last_value field.Threads items);
  reach = number_or reach_of 134217728 (last_value field.Reach items);
  generate = number_or functions_of 0 (last_value field.Generate items);
}

abbrev pub output_of : List Item → List ℕ
output_of items = unwrap_or (last_value field.Output items) (codes "a.out")

abbrev pub texts_of : List Item → Texts
texts_of items = record {
  output = output_of items;
  entry = unwrap_or (last_value field.Entry items) (codes "_main");
  install = unwrap_or (last_value field.Install items) (output_of items);
  syslibroot = last_value field.Syslibroot items;
  map = last_value field.Map items;
}

abbrev pub names_of : List Item → Names
names_of items = record {
  roots = all_values field.Roots items;
  flats = all_values field.Flats items;
  rpaths = all_values field.Rpaths items;
  library_dirs = all_values field.LibraryDirs items;
  framework_dirs = all_values field.FrameworkDirs items;
}

abbrev pub exports_of : List Item → Exports
exports_of items = record {
  export_files = all_values field.ExportFiles items;
  exports = all_values field.Exports items;
  unexport_files = all_values field.UnexportFiles items;
  unexports = all_values field.Unexports items;
}

abbrev pub inputs_of : List Item → List CommandInput
inputs_of items = map (λ item. input_of item.option (value_of item.values)) (given field.Inputs items)

abbrev pub assembled : Switches → Numbers → Texts → Names → Exports → List CommandInput → Command
assembled switches numbers texts names exports inputs = record {
  dylib = switches.dylib;
  all_load = switches.all_load;
  dead_strip = switches.dead_strip;
  dynamic = switches.dynamic;
  opcodes = switches.opcodes;
  fold = switches.fold;
  export_given = switches.export_given;
  output = texts.output;
  entry = texts.entry;
  install = texts.install;
  min = numbers.min;
  sdk = numbers.sdk;
  current = numbers.current;
  compatible = numbers.compatible;
  headerpad = numbers.headerpad;
  reach = numbers.reach;
  generate = numbers.generate;
  roots = names.roots;
  flats = names.flats;
  rpaths = names.rpaths;
  library_dirs = names.library_dirs;
  framework_dirs = names.framework_dirs;
  export_files = exports.export_files;
  exports = exports.exports;
  unexport_files = exports.unexport_files;
  unexports = exports.unexports;
  syslibroot = texts.syslibroot;
  map = texts.map;
  inputs = inputs;
}

-- the command of items
unfoldable pub command_from : List Item → Command
command_from items =
    assembled (switches_of items) (numbers_of items) (texts_of items) (names_of items) (exports_of items) (inputs_of items)

-- The parts of a field.
abbrev pub parts_for : CommandField → List Part → List Part
parts_for wanted parts = filter (λ part. gives wanted part.option) parts

abbrev pub index_of : Option Part → Option ℕ
index_of part = option_map (λ each. each.at) part

-- The command that moves to opcodes takes 16 bytes of the pad; the last pad is at fault where it has fewer.
abbrev pub narrow_of : Bool → ℕ → Option Part → Option ℕ
narrow_of opcodes pad last = if opcodes && nat_lt pad 16 then index_of last else None

abbrev pub whole_of : List Part → Switches → Numbers → Whole
whole_of parts switches numbers = record {
  dylib = switches.dylib;
  narrow = narrow_of switches.opcodes numbers.headerpad (last (parts_for field.Headerpad parts));
}

abbrev pub has_input : List Item → Bool
has_input items = is_given field.Inputs items || is_given field.Generate items

-- the first fault of a part, else that nothing names an input
abbrev pub or_no_input : Bool → Option UsageFault → Option UsageFault
or_no_input has_input (Some fault) = Some fault
or_no_input true None = None
or_no_input false None = Some (At 0 NoInput)

abbrev pub line_fault : List (List ℕ) → List Part → Switches → Numbers → Bool → Option UsageFault
line_fault words parts switches numbers has_input =
    or_no_input has_input (first_fault (whole_of parts switches numbers) words parts)

abbrev pub decided : Option UsageFault → Command → Result Command UsageFault
decided (Some fault) command = Err fault
decided None command = Ok command

abbrev pub decided_of : List (List ℕ) → List Part → List Item → Result Command UsageFault
decided_of words parts items =
    decided (line_fault words parts (switches_of items) (numbers_of items) (has_input items)) (command_from items)

-- the command that the rows give to words
unfoldable pub command_by : Rows → List (List ℕ) → Result Command UsageFault
command_by rows words = decided_of words (parts_of rows words) (items_of rows words)

-- how many workers they name, four where they name none
unfoldable pub workers_by : Rows → List (List ℕ) → ℕ
workers_by rows words = (numbers_of (items_of rows words)).threads

-- with all rows
abbrev pub whole_command_of : List (List ℕ) → Result Command UsageFault
whole_command_of words = command_by All words

abbrev pub IsUsage : UsageFault → Type 0
IsUsage (At word rule) = Unit {0}
IsUsage _ = ⊥

-- the command that was read
abbrev pub command_in : Result CommandLine UsageFault → Result Command UsageFault
command_in (Ok line) = Ok line.command
command_in (Err fault) = Err fault
