-- The items of a command line: its options with their values, and its paths. The words are the spellings of the
-- items, one after the other.
use Rattle.std.specs.Prelude.{ℕ, ◌+◌, List, [], ◌∷◌, ◌++◌, map, length, take, drop, slice_index_or}
use Rattle.mo_cmd.specs.declared.options.CommandOption.{CommandOption}
use Rattle.mo_cmd.specs.declared.options.CommandOption.TheVariants as option
use Rattle.mo_cmd.specs.declared.parts.Part.{Part}
use Rattle.mo_cmd.specs.declared.parts.Rows.{Rows}
use Rattle.mo_cmd.specs.declared.values.Form.{Form}
use Rattle.mo_cmd.specs.declared.values.Form.TheVariants.{Separate, Attached, Whole}
use Rattle.mo_cmd.specs.Options.{name_of, values_of}
use Rattle.mo_cmd.specs.Parts.{parts_of}

pub record Item : Type 0 where
  pub option : CommandOption
  pub values : List (List ℕ)

-- how an item is spelled: its word and then its values, its word and its value in one, or its value alone
abbrev pub form_of : CommandOption → Form
form_of option.LibraryDir = Attached
form_of option.FrameworkDir = Attached
form_of option.Library = Attached
form_of option.WeakLibraryNamed = Attached
form_of option.ReexportLibraryNamed = Attached
form_of option.Path = Whole
form_of option.Unknown = Whole
form_of _ = Separate

-- the first value, or nothing
abbrev pub value_of : List (List ℕ) → List ℕ
value_of values = slice_index_or values 0 []

-- the words of an option and its values
abbrev pub spelled : Form → List ℕ → List (List ℕ) → List (List ℕ)
spelled Separate name values = name ∷ values
spelled Attached name values = (name ++ value_of values) ∷ []
spelled Whole name values = value_of values ∷ []

abbrev pub spelling : Item → List (List ℕ)
spelling item = spelled (form_of item.option) (name_of item.option) item.values

-- the words of items
abbrev pub spellings : List Item → List (List ℕ)
spellings [] = []
spellings (item ∷ items) = spelling item ++ spellings items

-- the words that follow an option's as its values; too few where the words end before
abbrev pub following : List (List ℕ) → Part → List (List ℕ)
following words part = take (values_of part.option) (drop (part.at + 1) words)

abbrev pub word_of : List (List ℕ) → Part → List ℕ
word_of words part = slice_index_or words part.at []

abbrev pub values_by : Form → CommandOption → List ℕ → List (List ℕ) → List (List ℕ)
values_by Separate meant word rest = rest
values_by Attached meant word rest = drop (length (name_of meant)) word ∷ []
values_by Whole meant word rest = word ∷ []

abbrev pub values_at : List (List ℕ) → Part → List (List ℕ)
values_at words part = values_by (form_of part.option) part.option (word_of words part) (following words part)

abbrev pub item_of : List (List ℕ) → Part → Item
item_of words part = record { option = part.option; values = values_at words part }

-- the items of words
abbrev pub items_of : Rows → List (List ℕ) → List Item
items_of rows words = map (item_of words) (parts_of rows words)
