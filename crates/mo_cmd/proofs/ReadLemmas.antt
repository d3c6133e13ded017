-- The command of words is that of their parts.
use Rattle.std.proofs.Common.{◌≡◌, ℕ, List, map, Option, Some, None, Ok, Err, refl, sym, ap, ◌∙◌}
use Rattle.command_line.specs.declared.command.Command.{Command}
use Rattle.mo_cmd.specs.declared.usage_fault.UsageFault.{UsageFault}
use Rattle.mo_cmd.specs.declared.build.Numbers.{Numbers}
use Rattle.mo_cmd.specs.declared.build.Switches.{Switches}
use Rattle.mo_cmd.specs.declared.parts.Rows.{Rows}
use Rattle.mo_cmd.specs.declared.sorted.Sorted.{Sorted}
use Rattle.mo_cmd.specs.declared.parts.Part.{Part}
use Rattle.mo_cmd.specs.Items.{item_of}
use Rattle.mo_cmd.specs.Parts.{parts_of}
use Rattle.mo_cmd.specs.Command.{command_by, command_from, decided, decided_of, has_input, line_fault, switches_of, numbers_of, workers_by}
use Rattle.mo_cmd.specs.Sorted.{sorted_items}

by_sorted : (rows : Rows) (words : List (List ℕ)) (sorted : Sorted) → sorted.parts ≡ parts_of rows words → command_by rows words ≡ decided_of words sorted.parts (sorted_items words sorted)
unfolding command_by
by_sorted rows words sorted same = rw (← same) refl

by_fault : (rows : Rows) (words : List (List ℕ)) (sorted : Sorted) (switches : Switches) (numbers : Numbers) (found : Option UsageFault) → sorted.parts ≡ parts_of rows words
    → switches ≡ switches_of (sorted_items words sorted) → numbers ≡ numbers_of (sorted_items words sorted) → found ≡ line_fault words sorted.parts switches numbers (has_input (sorted_items words sorted))
    → command_by rows words ≡ decided found (command_from (sorted_items words sorted))
by_fault rows words sorted switches numbers found same on counted first =
    by_sorted rows words sorted same ∙ ap (λ (fault : Option UsageFault). decided fault (command_from (sorted_items words sorted)))
    (ap (λ (s : Switches). line_fault words sorted.parts s (numbers_of (sorted_items words sorted)) (has_input (sorted_items words sorted))) (sym on)
    ∙ ap (λ (n : Numbers). line_fault words sorted.parts switches n (has_input (sorted_items words sorted))) (sym counted) ∙ sym first)

pub fault_read : (rows : Rows) (words : List (List ℕ)) (sorted : Sorted) (switches : Switches) (numbers : Numbers) (fault : UsageFault) → sorted.parts ≡ parts_of rows words
    → switches ≡ switches_of (sorted_items words sorted) → numbers ≡ numbers_of (sorted_items words sorted) → Some fault ≡ line_fault words sorted.parts switches numbers (has_input (sorted_items words sorted))
    → command_by rows words ≡ Err fault
fault_read rows words sorted switches numbers fault same on counted first = by_fault rows words sorted switches numbers (Some fault) same on counted first

pub command_read : (rows : Rows) (words : List (List ℕ)) (sorted : Sorted) (switches : Switches) (numbers : Numbers) (command : Command) → sorted.parts ≡ parts_of rows words
    → switches ≡ switches_of (sorted_items words sorted) → numbers ≡ numbers_of (sorted_items words sorted) → None ≡ line_fault words sorted.parts switches numbers (has_input (sorted_items words sorted))
    → command ≡ command_from (sorted_items words sorted) → command_by rows words ≡ Ok command
command_read rows words sorted switches numbers command same on counted first made = by_fault rows words sorted switches numbers None same on counted first ∙ ap Ok (sym made)

-- the workers are those of the numbers
pub workers_read : (rows : Rows) (words : List (List ℕ)) (sorted : Sorted) (numbers : Numbers) (threads : ℕ) → sorted.parts ≡ parts_of rows words → numbers ≡ numbers_of (sorted_items words sorted) → threads ≡ numbers.threads → threads ≡ workers_by rows words
unfolding workers_by
workers_read rows words sorted numbers threads same counted is = is ∙ ap (λ (n : Numbers). n.threads) counted ∙ ap (λ (parts : List Part). (numbers_of (map (item_of words) parts)).threads) same

pub ruleset reading = (fault_read, command_read, workers_read)
