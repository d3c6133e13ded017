-- The faults of a command line. A word's number counts from 1. The part that comes first decides; in it the option's
-- word comes before its values, and there the first rule of this list.
use Rattle.std.specs.Prelude.{ℕ, ◌+◌, ◌==◌, ◌&&◌, ◌||◌, nat_lt, Bool, true, false, not, is_some, List, [], codes, length, bytes_eq, slice_index_or, Option, None, Some, if◌then◌else◌}
use Rattle.std.specs.List.{list_any, position}
use Rattle.std.specs.Option.{option_map}
use Rattle.mo_types.specs.Scan.{first_some}
use Rattle.mo_types.specs.declared.cause.UsageRule.{UsageRule}
use Rattle.mo_types.specs.declared.cause.UsageRule.TheVariants.{Unknown, NoValue, BadValue, DylibOnly}
use Rattle.mo_cmd.specs.declared.usage_fault.UsageFault.{UsageFault}
use Rattle.mo_cmd.specs.declared.usage_fault.UsageFault.TheVariants.{At}
use Rattle.mo_cmd.specs.declared.faults.Whole.{Whole}
use Rattle.mo_cmd.specs.declared.options.CommandOption.{CommandOption}
use Rattle.mo_cmd.specs.declared.options.CommandOption.TheVariants as option
use Rattle.mo_cmd.specs.declared.parts.Part.{Part}
use Rattle.mo_cmd.specs.Options.{values_of}
use Rattle.mo_cmd.specs.Parts.{has_nul}
use Rattle.mo_cmd.specs.Items.{following, value_of}
use Rattle.mo_cmd.specs.Numbers.{version_of, threads_of, functions_of, reach_of, pad_of}

-- `*`, `?` or `[`
abbrev pub is_wild : ℕ → Bool
is_wild byte = byte == 0x2a || byte == 0x3f || byte == 0x5b

abbrev pub has_wildcard : List ℕ → Bool
has_wildcard name = list_any is_wild name

abbrev pub is_one_of : List ℕ → List ℕ → List ℕ → Bool
is_one_of one other value = bytes_eq value one || bytes_eq value other

-- macOS by its name or its number, and two versions (loader.h: PLATFORM_MACOS)
abbrev pub is_platform : List (List ℕ) → Bool
is_platform values =
    is_one_of (codes "macos") (codes "1") (value_of values)
    && is_some (version_of (slice_index_or values 1 [])) && is_some (version_of (slice_index_or values 2 []))

-- the values of an option are in its form
abbrev pub are_good : CommandOption → List (List ℕ) → Bool
are_good option.Arch values = bytes_eq (value_of values) (codes "arm64")
are_good option.PlatformVersion values = is_platform values
are_good option.Undefined values = is_one_of (codes "error") (codes "dynamic_lookup") (value_of values)
are_good option.CurrentVersion values = is_some (version_of (value_of values))
are_good option.DylibCurrentVersion values = is_some (version_of (value_of values))
are_good option.CompatibilityVersion values = is_some (version_of (value_of values))
are_good option.DylibCompatibilityVersion values = is_some (version_of (value_of values))
are_good option.ExportedSymbol values = not (has_wildcard (value_of values))
are_good option.UnexportedSymbol values = not (has_wildcard (value_of values))
are_good option.Headerpad values = is_some (pad_of (value_of values))
are_good option.Threads values = is_some (threads_of (value_of values))
are_good option.BranchReach values = is_some (reach_of (value_of values))
are_good option.Generate values = is_some (functions_of (value_of values))
are_good option.Icf values = is_one_of (codes "all") (codes "none") (value_of values)
are_good _ values = true

abbrev pub is_unknown : CommandOption → Bool
is_unknown option.Unknown = true
is_unknown _ = false

abbrev pub is_reexport : CommandOption → Bool
is_reexport option.ReexportFramework = true
is_reexport option.ReexportLibrary = true
is_reexport option.ReexportLibraryNamed = true
is_reexport _ = false

abbrev pub is_at : Option ℕ → Part → Bool
is_at None part = false
is_at (Some index) part = part.at == index

-- the first rule of this list that a part breaks, of which the values are those that follow its word
abbrev pub rule_of : Whole → Part → List (List ℕ) → Option UsageRule
rule_of whole part values =
    if is_unknown part.option then Some Unknown
    else if nat_lt (length values) (values_of part.option) then Some NoValue
    else if not (are_good part.option values) || is_at whole.narrow part then Some BadValue
    else if is_reexport part.option && not whole.dylib then Some DylibOnly
    else None

abbrev pub or_nul : ℕ → List (List ℕ) → Option UsageRule → Option UsageFault
or_nul word values (Some rule) = Some (At word rule)
or_nul word values None = option_map (λ before. At (word + 1 + before) Unknown) (position has_nul values)

abbrev pub fault_of : Whole → List (List ℕ) → Part → Option UsageFault
fault_of whole words part = or_nul (part.at + 1) (following words part) (rule_of whole part (following words part))

-- the fault of the first part that has one
abbrev pub first_fault : Whole → List (List ℕ) → List Part → Option UsageFault
first_fault whole words parts = first_some (fault_of whole words) parts
