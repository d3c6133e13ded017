-- What holds of every command line, in words of its items.
use Rattle.std.specs.Prelude.{◌≡◌, ℕ, ◌^◌, false, List, [], ◌∷◌, length, codes, None, Ok}
use Rattle.mo_cmd.specs.declared.options.CommandOption.TheVariants as option
use Rattle.command_line.specs.declared.command.InputForm.TheVariants.{Path}
use Rattle.mo_cmd.specs.declared.parts.Rows.{Rows}
use Rattle.command_line.specs.declared.command.Command.{Command}
use Rattle.mo_cmd.specs.declared.values.Form.{Form}
use Rattle.mo_cmd.specs.declared.values.Form.TheVariants.{Separate, Attached, Whole}
use Rattle.mo_cmd.specs.Options.{values_of}
use Rattle.mo_cmd.specs.Parts.{among, option_of}
use Rattle.mo_cmd.specs.Items.{Item, form_of, spelling, spellings, items_of, value_of}
use Rattle.mo_cmd.specs.Command.{command_by, command_from}

-- the first word of an item
abbrev pub first_word : Item → List ℕ
first_word item = value_of (spelling item)

-- An item is well spelled where its first word stands for its option, and it has as many values as the option takes;
-- an attached value and a path are one value.
abbrev pub has_count : Form → ℕ → List (List ℕ) → Type 0
has_count Separate count values = length values ≡ count
has_count Attached count values = length values ≡ 1
has_count Whole count values = length values ≡ 1

pub record IsSpelled (rows : Rows) (item : Item) : Type 0 where
  pub means : among rows (option_of (first_word item)) ≡ item.option
  pub count : has_count (form_of item.option) (values_of item.option) item.values

abbrev pub AreSpelled : Rows → List Item → Type 0
AreSpelled rows [] = Unit {0}
AreSpelled rows (item ∷ items) = IsSpelled rows item × AreSpelled rows items

-- the items that spell words are read back
abbrev pub AreReadBack : Rows → Type 0
AreReadBack rows = (items : List Item) → AreSpelled rows items → items_of rows (spellings items) ≡ items

-- the words are those of their items, whatever they are
abbrev pub AreConsumed : Rows → Type 0
AreConsumed rows = (words : List (List ℕ)) → spellings (items_of rows words) ≡ words

-- the command that words give is that of their items
abbrev pub IsOfItems : Rows → Type 0
IsOfItems rows = (words : List (List ℕ)) (command : Command) → command_by rows words ≡ Ok command → command ≡ command_from (items_of rows words)

-- the defaults of ld(1): an executable a.out with the entry _main, for macOS 11.0, a pad of 32 bytes, a
-- branch's reach of 2^27 bytes, and nothing else
abbrev pub default_command : List ℕ → Command
default_command path = record {
  dylib = false;
  all_load = false;
  dead_strip = false;
  dynamic = false;
  opcodes = false;
  fold = false;
  export_given = false;
  output = codes "a.out";
  entry = codes "_main";
  install = codes "a.out";
  min = 0xb0000;
  sdk = 0xb0000;
  current = 0;
  compatible = 0;
  headerpad = 32;
  reach = 2 ^ 27;
  generate = 0;
  roots = [];
  flats = [];
  rpaths = [];
  library_dirs = [];
  framework_dirs = [];
  export_files = [];
  exports = [];
  unexport_files = [];
  unexports = [];
  syslibroot = None;
  map = None;
  inputs = record { form = Path; value = path; weak = false; reexport = false; forced = false } ∷ [];
}

abbrev pub HasDefaults : List ℕ → Type 0
HasDefaults path = command_from (record { option = option.Path; values = path ∷ [] } ∷ []) ≡ default_command path
