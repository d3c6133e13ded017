-- The entry's name is the last value of its option, or the default. No value holds a NUL where no part is at fault.
use Rattle.std.proofs.Common.{◌≡◌, ◌≢◌, ℕ, ◌+◌, ◌-◌, List, [], ◌∷◌, length, map, Bool, true, false, Option, Some, None, Ok, All, refl, sym, ap, subst, arith}
use Rattle.std.specs.Prelude.{codes, unwrap_or}
use Rattle.std.specs.List.{position}
use Rattle.std.specs.Option.{option_map}
use Rattle.std.proofs.lemmas.List.Elements.{All-filter, All-map, All-nil, All-weaker, filter_passes}
use Rattle.mo_types.specs.declared.cause.UsageRule.{UsageRule}
use Rattle.mo_types.specs.declared.cause.UsageRule.TheVariants.{Unknown}
use Rattle.command_line.specs.declared.command.Command.{Command}
use Rattle.mo_cmd.specs.declared.usage_fault.UsageFault.{UsageFault}
use Rattle.mo_cmd.specs.declared.usage_fault.UsageFault.TheVariants.{At}
use Rattle.mo_cmd.specs.declared.faults.Whole.{Whole as WholeLine}
use Rattle.mo_cmd.specs.declared.options.CommandField.TheVariants as field
use Rattle.mo_cmd.specs.declared.options.CommandOption.{CommandOption}
use Rattle.mo_cmd.specs.declared.options.CommandOption.TheVariants as option
use Rattle.mo_cmd.specs.declared.parts.Part.{Part}
use Rattle.mo_cmd.specs.declared.parts.Rows.{Rows}
use Rattle.mo_cmd.specs.declared.values.Form.{Form}
use Rattle.mo_cmd.specs.declared.values.Form.TheVariants.{Separate}
use Rattle.mo_cmd.specs.Command.{command_by, command_from, decided, given, gives, has_input, last_of, line_fault, numbers_of, or_no_input, switches_of, whole_of}
use Rattle.mo_cmd.specs.Faults.{fault_of, first_fault, or_nul, rule_of}
use Rattle.mo_cmd.specs.Items.{Item, following, form_of, item_of, items_of, value_of, values_by, word_of}
use Rattle.mo_cmd.specs.Parts.{has_nul, parts_of}
use Rattle.mo_obj.proofs.SectionLemmas.{none_at_fault}
use Rattle.reader_laws.specs.Facts.{HasNoNul}
use Rattle.reader_laws.proofs.Lists.{all_there, no_nul_found, none_answers}

-- ---- the values of a part

no_place : (word : ℕ) (found : Option ℕ) → option_map (λ before. At (word + 1 + before) Unknown) found ≡ None → found ≡ None
no_place word None none = refl
no_place word (Some before) none = absurd cc

no_nul_told : (word : ℕ) (values : List (List ℕ)) (broken : Option UsageRule) → or_nul word values broken ≡ None → position has_nul values ≡ None
no_nul_told word values None none = no_place word (position has_nul values) none
no_nul_told word values (Some rule) none = absurd cc

first_value : (values : List (List ℕ)) → All (λ value. has_nul value ≡ false) values → HasNoNul (value_of values)
first_value [] all = All-nil (λ b. b ≢ 0)
first_value (value ∷ values) all = no_nul_found value (all 0 value (omega arith))

-- an item whose values are words of their own has a first value without a NUL
abbrev IsClean : Item → Type 0
IsClean item = form_of item.option ≡ Separate → HasNoNul (value_of item.values)

part_clean : (whole : WholeLine) (words : List (List ℕ)) (part : Part) → fault_of whole words part ≡ None → IsClean (item_of words part)
part_clean whole words part none separate =
    let values : List (List ℕ) = following words part in
    let clean : All (λ value. has_nul value ≡ false) values = none_at_fault has_nul values (position has_nul values) refl (no_nul_told (part.at + 1) values (rule_of whole part values) none) in
    subst (λ (form : Form). HasNoNul (value_of (values_by form part.option (word_of words part) values))) (sym separate) (first_value values clean)

items_clean : (whole : WholeLine) (words : List (List ℕ)) (parts : List Part) → first_fault whole words parts ≡ None → All IsClean (map (item_of words) parts)
items_clean whole words parts none =
    All-map IsClean (item_of words) parts
    (All-weaker (λ (part : Part). fault_of whole words part ≡ None) (λ (part : Part). IsClean (item_of words part)) (part_clean whole words) parts (none_answers (fault_of whole words) parts none))

-- ---- the entry

entry_separate : (meant : CommandOption) → gives field.Entry meant ≡ true → form_of meant ≡ Separate
entry_separate option.LibraryDir is = absurd cc
entry_separate option.FrameworkDir is = absurd cc
entry_separate option.Library is = absurd cc
entry_separate option.WeakLibraryNamed is = absurd cc
entry_separate option.ReexportLibraryNamed is = absurd cc
entry_separate option.Path is = absurd cc
entry_separate option.Unknown is = absurd cc
entry_separate _ is = refl

last_clean : (items : List Item) (item : Item) → All IsClean items → last_of field.Entry items ≡ Some item → HasNoNul (value_of item.values)
last_clean items item clean is =
    let those : List Item = given field.Entry items in
    let at : ℕ = length those - 1 in
    let test : Item → Bool = λ each. gives field.Entry each.option in
    all_there IsClean those at item (All-filter test IsClean items clean) is
    (entry_separate item.option (all_there (λ (each : Item). test each ≡ true) those at item (filter_passes test items) is))

main_clean : HasNoNul (codes "_main")
main_clean = no_nul_found (codes "_main") refl

entry_clean : (found : Option Item) → ((item : Item) → found ≡ Some item → HasNoNul (value_of item.values)) → HasNoNul (unwrap_or (option_map value_of (option_map (λ item. item.values) found)) (codes "_main"))
entry_clean None clean = main_clean
entry_clean (Some item) clean = clean item refl

-- ---- the command

no_fault : (inputs : Bool) (found : Option UsageFault) → or_no_input inputs found ≡ None → found ≡ None
no_fault inputs None none = refl
no_fault true (Some fault) none = none
no_fault false (Some fault) none = none

command_made : (fault : Option UsageFault) (made command : Command) → decided fault made ≡ Ok command → (fault ≡ None) × (made ≡ command)
command_made None made command is = (refl, cc)
command_made (Some fault) made command is = absurd cc

made_clean : (items : List Item) → All IsClean items → HasNoNul (command_from items).entry
unfolding command_from
made_clean items clean = entry_clean (last_of field.Entry items) (λ item is. last_clean items item clean is)

pub no_nul_in_entry : (rows : Rows) (words : List (List ℕ)) (command : Command) → command_by rows words ≡ Ok command → HasNoNul command.entry
unfolding command_by
no_nul_in_entry rows words command is =
    let parts : List Part = parts_of rows words in
    let items : List Item = items_of rows words in
    let whole : WholeLine = whole_of parts (switches_of items) (numbers_of items) in
    let made : (line_fault words parts (switches_of items) (numbers_of items) (has_input items) ≡ None) × (command_from items ≡ command) =
    command_made (line_fault words parts (switches_of items) (numbers_of items) (has_input items)) (command_from items) command is in
    let faultless : first_fault whole words parts ≡ None = no_fault (has_input items) (first_fault whole words parts) made.0 in
    subst HasNoNul (ap (λ (c : Command). c.entry) made.1) (made_clean items (items_clean whole words parts faultless))
